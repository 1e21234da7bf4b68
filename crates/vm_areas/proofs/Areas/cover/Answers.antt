use Rattle.mck_word.specs.Pages.{in_range, in_ranges}
use Rattle.std.proofs.Common.{◌<◌, ◌||◌, arith, ap, length, subst, sym, ◌∙◌}
use Rattle.vm_areas.specs.Ranges.{Mapped, Rises, with_range}
use Rattle.vm_areas.proofs.Members.{in-with_range}
use Rattle.vm_areas.proofs.Rising.{Rises-with_range, length-with_range}
use Rattle.vm_areas.proofs.Areas.cover.Goals as goal

pub invariant_of-self : goal.invariant_of-self
invariant_of-self c =
    let some : c.args.r.lo < c.args.r.hi = omega arith in
    let is = c.cover_into.ensures.items ∙ ap (with_range c.args.r) c.deref.ensures.value in
    record {
      rises = rw c.swap.ensures.x_after (subst (Rises 0) (sym is) (Rises-with_range c.args.r 0 c.self.inside.ranges.items some (omega arith) c.self.invariant.rises));
      empty = c.clear.ensures.items;
    }

pub returns-clause-pages : goal.returns-clause-pages
returns-clause-pages c = λ p.
    let some : c.args.r.lo < c.args.r.hi = omega arith in
    let is = c.cover_into.ensures.items ∙ ap (with_range c.args.r) c.deref.ensures.value in
    rw c.swap.ensures.x_after (ap (λ xs. in_ranges xs p) is ∙ in-with_range c.args.r c.self.inside.ranges.items 0 p some c.self.invariant.rises
    ∙ ap (λ (m : Mapped). in_ranges m.ranges p || in_range c.args.r p) c.self.view_is)

pub returns-clause-room : goal.returns-clause-room
returns-clause-room c =
    let is = c.cover_into.ensures.items ∙ ap (with_range c.args.r) c.deref.ensures.value in
    let long = ap length is in
    let few = length-with_range c.args.r c.self.inside.ranges.items in
    let s = ap (λ (m : Mapped). m.spare) c.self.view_is in
    rw (c.clear.ensures.capacity, c.swap.ensures.x_after, c.swap.ensures.y_after, c.cover_into.ensures.capacity) (omega (arith, c.self.inside.ranges.ok.0, c.cover_into.new.out.ok.0))
