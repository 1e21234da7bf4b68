use Rattle.node_parts.proofs.ByPlace.{row-is, row-none, row-set}
use Rattle.node_parts.proofs.instances.Instances.release.Goals as goal
use Rattle.std.proofs.Common.{None, Some, arith, length, sym, ◌<◌, ◌∙◌}
use Rattle.std.proofs.lemmas.Result.{MatchResult-weaker}

pub returns-clause-none : goal.returns-clause-none
returns-clause-none g c none =
    let slots = c.self.inside.slots.items in
    let less : c.args.i < length slots = omega arith in
    let slot = row-is slots c.args.self.now c.args.i c.index_mut.result.now c.self.view_is less
    c.index_mut.ensures.value in
    let gone = c.empty.ensures.none (sym slot ∙ none) in
    (gone.0, row-none slots c.args.self.now c.args.i c.empty.new.slot c.self.view_is less gone.1 none)

pub returns-clause-booted : goal.returns-clause-booted
returns-clause-booted g c b is =
    let slots = c.self.inside.slots.items in
    let less : c.args.i < length slots = omega arith in
    let slot = row-is slots c.args.self.now c.args.i c.index_mut.result.now c.self.view_is less
    c.index_mut.ensures.value in
    MatchResult-weaker c.empty.result (c.empty.ensures.booted b (sym slot ∙ is))
    (λ released h. (row-set slots c.args.self.now c.args.i c.empty.new.slot None c.self.view_is less h.0, h.1))
    (λ why h. (
      h.0,
      h.1,
      h.2,
      row-set slots c.args.self.now c.args.i c.empty.new.slot (Some (Some h.1)) c.self.view_is
          less h.3,
    ))
