use Rattle.lock_tests.proofs.lock_tests.strangers_of.Given as goal

-- the progress word that was just made
abbrev pub ghosts-strangers_beside : goal.ghosts-strangers_beside
ghosts-strangers_beside g a = record { table = a.ground }
