use Rattle.thread_tests.proofs.thread_tests.serves_its_own_note_once.Given as goal

-- the progress word that was just made
abbrev pub ghosts-serves_once : goal.ghosts-serves_once
ghosts-serves_once g a = record { table = a.ground }
