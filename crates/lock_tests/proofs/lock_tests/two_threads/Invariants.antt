use Rattle.lock_tests.proofs.lock_tests.two_threads.Given as goal

-- the progress word that was just made
abbrev pub ghosts-two_threads_of : goal.ghosts-two_threads_of
ghosts-two_threads_of g a = record { table = a.ground }
