use Rattle.lock_tests.proofs.example_tests.two_threads_meet.Given as goal

-- the progress word that was just made
abbrev pub ghosts-two_threads : goal.ghosts-two_threads
ghosts-two_threads g a = record { table = a.ground }
