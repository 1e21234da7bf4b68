use Rattle.pair_core.specs.Shown.{pair_of}
use Rattle.pair_node.proofs.Sound.{sound-told}
use Rattle.pair_node.proofs.Summed.{all-numbered, few-numbered}
use Rattle.pair_node.proofs.pair.Pair.requests.Goals as goal
use Rattle.pair_node.specs.Summed.{numbered_in}
use Rattle.std.proofs.Common.{ap, subst, sym, ◌∙◌}
use Rattle.std.specs.Prelude.{sum_by, ℕ, ◌<◌, ◌^◌}

pub numbered_in-requires : goal.numbered_in-requires
numbered_in-requires g c =
    let pair = pair_of g.T.PageTable.rows g.F.FileStore.files c.args.self.now.parts in
    let sound = sound-told pair c.args.self.now.sound in
    let is = ap (sum_by numbered_in) c.as_slice.ensures ∙ all-numbered g.T.PageTable.rows g.F.FileStore.files c.args.self.now.parts in
    subst (λ (n : ℕ). n < 2 ^ 64) (sym is) (few-numbered pair sound.coherent sound.small)

pub returns : goal.returns
returns g c = c.numbered_in.ensures ∙ ap (sum_by numbered_in) c.as_slice.ensures ∙ all-numbered g.T.PageTable.rows g.F.FileStore.files c.args.self.now.parts
