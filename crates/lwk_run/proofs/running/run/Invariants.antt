use Rattle.lwk_run.proofs.running.run.Given as goal

abbrev pub ghosts-run_lent : goal.ghosts-run_lent
ghosts-run_lent g a = record { rows = g.T.PageTable.rows a.space.now.table; frames = a.frames.mem.now; name = a.frames.mem.ghost_name }
