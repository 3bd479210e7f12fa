use Rattle.thread_tests.proofs.access_tests.two_peripheral_processors.Given as goal

-- the progress word that was just made
abbrev pub ghosts-accesses_beside : goal.ghosts-accesses_beside
ghosts-accesses_beside g a = record { table = a.ground }
