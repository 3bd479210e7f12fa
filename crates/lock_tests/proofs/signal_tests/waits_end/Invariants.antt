use Rattle.lock_tests.proofs.signal_tests.waits_end.Given as goal

-- the progress word that was just made
abbrev pub ghosts-wait_and_raise : goal.ghosts-wait_and_raise
ghosts-wait_and_raise g a = record { table = a.ground }
