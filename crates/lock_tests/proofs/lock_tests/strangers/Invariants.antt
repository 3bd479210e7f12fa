use Rattle.lock_tests.proofs.lock_tests.strangers.Given as goal

-- the progress word that was just made
abbrev pub ghosts-strangers_of : goal.ghosts-strangers_of
ghosts-strangers_of g a = record { table = a.ground }
