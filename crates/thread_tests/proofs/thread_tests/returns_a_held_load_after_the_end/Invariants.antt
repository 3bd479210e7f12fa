use Rattle.thread_tests.proofs.thread_tests.returns_a_held_load_after_the_end.Given as goal

-- the progress word that was just made
abbrev pub ghosts-end_with_a_reader : goal.ghosts-end_with_a_reader
ghosts-end_with_a_reader g a = record { table = a.ground }
