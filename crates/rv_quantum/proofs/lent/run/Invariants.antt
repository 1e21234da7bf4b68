use Rattle.rv_quantum.proofs.lent.run.Given as goal
use Rattle.rv_quantum.specs.Images.{seen}
use Rattle.std.specs.Prelude.{map}

abbrev pub ghosts-run_lent : goal.ghosts-run_lent
ghosts-run_lent a = record { pages = map seen a.lent.images.now.rows.items; name = a.lent.images.ghost_name }
