use Rattle.mck_word.specs.Maps.{at, cut}
use Rattle.node_parts.proofs.Kept.{refused-kept, released-is, released-kept, row-by}
use Rattle.node_parts.proofs.parts.Parts.release.Goals as goal
use Rattle.node_parts.specs.Partitions.{Partitions, released}
use Rattle.std.proofs.Common.{None, ap, ◌∙◌, ◌≡◌}

pub invariant_of-self : goal.invariant_of-self
invariant_of-self g c =
    let s = c.self.inside in
    let h = c.in_err-released.ensures in
    refused-kept s.cores s.frames s.instances c.release.new.self c.args.i c.in_err-released.field-0.0 c.self.invariant
    h.none (λ e. (None, (h.idle e).0)) (λ b e. let x = h.booted b e in (x.1, x.3))

pub invariant_of-self-2 : goal.invariant_of-self-2
invariant_of-self-2 g c =
    let s = c.self.inside in
    let h = c.in_ok-released.ensures in
    let gone : c.release.new.self ≡ cut s.instances c.args.i = row-by (c.release.new.self ≡ cut s.instances c.args.i)
    (at s.instances c.args.i) (λ e. let no = (h.none e).0 in cc) (λ e. (h.idle e).1) (λ b e. (h.booted b e).0) in
    released-kept s.cores s.frames c.give_back.new.self c.give_back-2.new.self s.instances c.release.new.self c.args.i
    c.self.invariant c.give_back.ensures.owners c.give_back-2.ensures.owners gone

pub returns-clause-booted : goal.returns-clause-booted
returns-clause-booted g c b is =
    let s = c.self.inside in
    let was = ap (λ (t : Partitions). at t.instances c.args.i) c.self.view_is ∙ is in
    let h = c.in_ok-released.ensures.booted b was in (
      released-is s.cores s.frames c.give_back.new.self c.give_back-2.new.self s.instances c.release.new.self c.args.i
          c.give_back.ensures.owners c.give_back-2.ensures.owners h.0 ∙ ap (released c.args.i) c.self.view_is,
      h.1,
    )
