use Rattle.thread_tests.proofs.thread_tests.another_issues_while_a_unit_computes.Given as goal

-- the progress word that was just made
abbrev pub ghosts-computes_beside : goal.ghosts-computes_beside
ghosts-computes_beside g a = record { table = a.ground }
