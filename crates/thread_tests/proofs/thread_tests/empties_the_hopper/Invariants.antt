use Rattle.thread_tests.proofs.thread_tests.empties_the_hopper.Given as goal

-- the progress word that was just made
abbrev pub ghosts-served_by_memory : goal.ghosts-served_by_memory
ghosts-served_by_memory g a = record { table = a.ground }
