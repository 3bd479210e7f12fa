use Rattle.schedule_tests.proofs.schedule_tests.expect_calls.Given as goal

-- the progress word that was just made
abbrev pub ghosts-expect_calls_beside : goal.ghosts-expect_calls_beside
ghosts-expect_calls_beside g a = record { table = a.ground }
