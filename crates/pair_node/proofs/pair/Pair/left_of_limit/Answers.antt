use Rattle.pair_core.specs.Shown.{pair_of}
use Rattle.pair_node.proofs.pair.Pair.left_of_limit.Goals as goal

pub returns : goal.returns
unfolding pair_of
returns g c = c.left_of_limit.ensures.is (g.F.FileStore.files c.args.self.now.parts.files)
