use Rattle.thread_tests.proofs.thread_tests.works_until_closed.Given as goal

-- the progress word that was just made
abbrev pub ghosts-works_until_closed_beside : goal.ghosts-works_until_closed_beside
ghosts-works_until_closed_beside g a = record { table = a.ground }
