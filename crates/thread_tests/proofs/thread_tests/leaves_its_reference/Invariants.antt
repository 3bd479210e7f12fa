use Rattle.thread_tests.proofs.thread_tests.leaves_its_reference.Given as goal

-- the progress word that was just made
abbrev pub ghosts-serve_increment : goal.ghosts-serve_increment
ghosts-serve_increment g a = record { table = a.ground }
