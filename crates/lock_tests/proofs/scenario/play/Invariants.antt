use Rattle.lock_tests.proofs.scenario.play.Given as goal

-- the progress word that was just made
abbrev pub ghosts-play_on : goal.ghosts-play_on
ghosts-play_on g a = record { table = a.ground }
