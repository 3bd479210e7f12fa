use Rattle.lock_tests.proofs.signal_tests.sleeps_end.Given as goal

-- the progress word that was just made
abbrev pub ghosts-sleep_and_wake : goal.ghosts-sleep_and_wake
ghosts-sleep_and_wake g a = record { table = a.ground }
