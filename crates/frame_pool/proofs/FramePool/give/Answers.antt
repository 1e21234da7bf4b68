use Rattle.std.proofs.Common.{◌≡◌, ◌<◌, ◌+◌, true, length, nat_lt, arith, refl, ap, subst, sym, ◌∙◌}
use Rattle.std.proofs.lemmas.List.{with_items_is}
use Rattle.mck_word.specs.Lists.{insert_by, member}
use Rattle.frame_pool.specs.Pools.{Pool}
use Rattle.frame_pool.specs.Trees.{IsPool, free_in}
use Rattle.frame_pool.proofs.Changes.{changed_at, few-free, given, given-free, unmarked}
use Rattle.frame_pool.proofs.FramePool.give.Goals as goal

pub overflow_add-self : goal.overflow_add-self
overflow_add-self c = let i = c.self.inside in let few = few-free i.nodes.items i.leaves i.height i.frames i.free c.self.invariant in omega (arith, c.self.invariant.small)

pub invariant_of-self : goal.invariant_of-self
invariant_of-self c =
    let i = c.self.inside in
    let was = c.deref_mut.ensures.value in
    let below : c.args.f.0 < i.frames = omega (arith, ap (λ (p : Pool). p.frames) c.self.view_is) in
    let off = unmarked i.nodes.items i.leaves i.height i.frames i.free c.self.invariant c.args.f.0 (omega (arith, c.self.invariant.enough)) (ap (λ (p : Pool). member c.args.f.0 p.free) c.self.view_is ∙ c.requires.taken) in
    let long : length c.mark.new.nodes ≡ i.nodes.len = c.mark.ensures.size ∙ (ap length was ∙ sym i.nodes.ok.0) in
    let changed = changed_at i.nodes.items c.deref_mut.result.now c.mark.new.nodes i.leaves _ _ true refl was c.mark.ensures.size c.mark.ensures.rule c.mark.ensures.leaf c.mark.ensures.others in
    subst (λ xs. IsPool xs i.leaves i.height i.frames (i.free + 1)) (sym (with_items_is i.nodes c.mark.new.nodes long))
    (given i.nodes.items i.leaves i.height i.frames i.free c.self.invariant c.mark.new.nodes c.args.f.0 off below changed)

pub returns : goal.returns
returns c =
    let i = c.self.inside in
    let was = c.deref_mut.ensures.value in
    let below : c.args.f.0 < i.leaves = omega (arith, ap (λ (p : Pool). p.frames) c.self.view_is, c.self.invariant.enough) in
    let off = unmarked i.nodes.items i.leaves i.height i.frames i.free c.self.invariant c.args.f.0 below (ap (λ (p : Pool). member c.args.f.0 p.free) c.self.view_is ∙ c.requires.taken) in
    let long : length c.mark.new.nodes ≡ i.nodes.len = c.mark.ensures.size ∙ (ap length was ∙ sym i.nodes.ok.0) in
    let changed = changed_at i.nodes.items c.deref_mut.result.now c.mark.new.nodes i.leaves _ _ true refl was c.mark.ensures.size c.mark.ensures.rule c.mark.ensures.leaf c.mark.ensures.others in
    let new = ap (λ xs. free_in xs i.leaves) (with_items_is i.nodes c.mark.new.nodes long) ∙ given-free i.nodes.items i.leaves i.height i.frames i.free c.self.invariant c.mark.new.nodes c.args.f.0 off below changed
    ∙ ap (λ (p : Pool). insert_by nat_lt c.args.f.0 p.free) c.self.view_is in
    λ j. record { frames = (c.self.view_is j).frames; free = new j }
