use Rattle.pair_core.specs.Shown.{pair_of}
use Rattle.pair_node.proofs.Lists.{listed-same}
use Rattle.pair_node.proofs.Shows.{owners-are}
use Rattle.pair_node.proofs.Sound.{sound-boot, sound-told, told-along}
use Rattle.pair_node.proofs.pair.Pair.boot.Goals as goal
use Rattle.pair_node.specs.Listed.{owners}
use Rattle.thread_laws.specs.Members.{process_at}

pub of_table-requires : goal.of_table-requires
unfolding pair_of
of_table-requires g c =
    let pair = pair_of g.T.PageTable.rows g.F.FileStore.files c.in_ok-parts.parts in
    let sound = sound-told pair (told-along c.in_ok-parts.ensures.state (sound-boot c.args.job.now c.args.images.now c.requires c.in_ok-parts.ensures.frames)) in
    record { some = sound.coherent.rings.cores }

pub invariant_of-result : goal.invariant_of-result
unfolding pair_of
invariant_of-result g c =
    let x = c.in_ok-parts.parts in
    record {
      sound = told-along c.in_ok-parts.ensures.state (sound-boot c.args.job.now c.args.images.now c.requires c.in_ok-parts.ensures.frames);
      kept = c.in_ok-parts.ensures.kept;
      numbered = c.in_ok-pids.ensures (g.F.FileStore.files x.files);
      listed = listed-same (owners x.lwk.node.threads) (process_at (pair_of g.T.PageTable.rows g.F.FileStore.files x).node) x.lwk.cores c.in_ok-members.members (owners-are g.T.PageTable.rows g.F.FileStore.files x) c.in_ok-members.ensures;
    }
