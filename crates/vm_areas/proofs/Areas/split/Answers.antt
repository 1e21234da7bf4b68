use Rattle.mck_word.specs.Pages.{in_range, in_ranges}
use Rattle.std.proofs.Common.{◌<◌, arith, ap, length, not, subst, sym, ◌∙◌}
use Rattle.std.specs.Prelude.{◌&&◌}
use Rattle.vm_areas.specs.Ranges.{Mapped, Rises, without}
use Rattle.vm_areas.proofs.Members.{in-without}
use Rattle.vm_areas.proofs.Rising.{Rises-without, length-without}
use Rattle.vm_areas.proofs.Areas.split.Goals as goal

pub invariant_of-self : goal.invariant_of-self
invariant_of-self c =
    let some : c.args.r.lo < c.args.r.hi = omega arith in
    let is = c.split_into.ensures.items ∙ ap (without c.args.r) c.deref.ensures.value in
    record {
      rises = rw c.swap.ensures.x_after (subst (Rises 0) (sym is) (Rises-without c.args.r 0 c.self.inside.ranges.items some c.self.invariant.rises));
      empty = c.clear.ensures.items;
    }

pub returns-clause-pages : goal.returns-clause-pages
returns-clause-pages c = λ p.
    let some : c.args.r.lo < c.args.r.hi = omega arith in
    let is = c.split_into.ensures.items ∙ ap (without c.args.r) c.deref.ensures.value in
    rw c.swap.ensures.x_after (ap (λ xs. in_ranges xs p) is ∙ in-without c.args.r c.self.inside.ranges.items p some
    ∙ ap (λ (m : Mapped). in_ranges m.ranges p && not (in_range c.args.r p)) c.self.view_is)

pub returns-clause-room : goal.returns-clause-room
returns-clause-room c =
    let is = c.split_into.ensures.items ∙ ap (without c.args.r) c.deref.ensures.value in
    let long = ap length is in
    let few = length-without c.args.r 0 c.self.inside.ranges.items (omega arith) c.self.invariant.rises in
    let s = ap (λ (m : Mapped). m.spare) c.self.view_is in
    rw (c.clear.ensures.capacity, c.swap.ensures.x_after, c.swap.ensures.y_after, c.split_into.ensures.capacity) (omega (arith, c.self.inside.ranges.ok.0, c.split_into.new.out.ok.0))
