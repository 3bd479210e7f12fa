use Rattle.lock_tests.proofs.signal_tests.the_end_is_told_late.Given as goal

-- the progress word that was just made
abbrev pub ghosts-end_of_held : goal.ghosts-end_of_held
ghosts-end_of_held g a = record { table = a.ground }
