use Rattle.thread_tests.proofs.thread_tests.counts_strangers.Given as goal

-- the progress word that was just made
abbrev pub ghosts-counts_strangers_beside : goal.ghosts-counts_strangers_beside
ghosts-counts_strangers_beside g a = record { table = a.ground }
