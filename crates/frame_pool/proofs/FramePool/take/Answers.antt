use Rattle.std.proofs.Common.{◌≡◌, ◌<◌, ◌+◌, ◌-◌, false, length, arith, ap, subst, sym, ◌∙◌}
use Rattle.std.specs.Prelude.{slice_get, slice_index_or}
use Rattle.std.proofs.lemmas.List.{with_items_is}
use Rattle.mck_word.specs.Lists.{tail}
use Rattle.frame_pool.specs.Pools.{Pool}
use Rattle.frame_pool.specs.Trees.{IsPool, free_in, marked}
use Rattle.frame_pool.proofs.Changes.{changed_at, first-free, is-frame, none-free, taken}
use Rattle.frame_pool.proofs.FramePool.take.Goals as goal

pub returns-then-not-index-clause-lowest : goal.returns-then-not-index-clause-lowest
returns-then-not-index-clause-lowest c =
    let i = c.self.inside in
    let off : marked i.nodes.items 1 ≡ false = sym (c.index.ensures ∙ ap (slice_index_or i.nodes.items 1) c.if-not-index.true) ∙ c.if-not-index.true in
    let none = none-free i.nodes.items i.leaves i.height i.frames i.free c.self.invariant off in
    sym (ap (λ (p : Pool). slice_get p.free 0) (sym c.self.view_is) ∙ ap (λ xs. slice_get xs 0) none)

pub returns-then-not-index-clause-rest : goal.returns-then-not-index-clause-rest
returns-then-not-index-clause-rest c =
    let i = c.self.inside in
    let off : marked i.nodes.items 1 ≡ false = sym (c.index.ensures ∙ ap (slice_index_or i.nodes.items 1) c.if-not-index.true) ∙ c.if-not-index.true in
    let none = none-free i.nodes.items i.leaves i.height i.frames i.free c.self.invariant off in
    let empty = ap (λ (p : Pool). p.free) (sym c.self.view_is) ∙ none in
    λ j. record c.args.self.now { free = (empty ∙ sym (ap tail empty)) j }

pub overflow_sub-self : goal.overflow_sub-self
overflow_sub-self c =
    let i = c.self.inside in let saw = c.deref.ensures.value in let low = c.lowest-leaf.ensures in
    let e : i.leaves + (c.lowest-leaf.result - i.leaves) ≡ c.lowest-leaf.result = omega arith in
    let changed = changed_at i.nodes.items c.deref_mut.result.now c.mark.new.nodes i.leaves _ _ false e c.deref_mut.ensures.value c.mark.ensures.size c.mark.ensures.rule c.mark.ensures.leaf c.mark.ensures.others in
    let on = ap (marked i.nodes.items) e ∙ (ap (λ xs. marked xs c.lowest-leaf.result) (sym saw) ∙ low.set) in
    let first = first-free i.nodes.items i.leaves i.height i.frames i.free c.self.invariant c.mark.new.nodes (c.lowest-leaf.result - i.leaves) on
    (λ k a b. ap (λ xs. marked xs k) (sym saw) ∙ low.lowest k a (subst (λ n. k < n) e b)) (omega arith) changed in
    let long = ap length first in
    omega (arith, c.self.invariant.counted)

pub invariant_of-self : goal.invariant_of-self
invariant_of-self c =
    let i = c.self.inside in let saw = c.deref.ensures.value in let was = c.deref_mut.ensures.value in let low = c.lowest-leaf.ensures in
    let e : i.leaves + (c.lowest-leaf.result - i.leaves) ≡ c.lowest-leaf.result = omega arith in
    let changed = changed_at i.nodes.items c.deref_mut.result.now c.mark.new.nodes i.leaves _ _ false e was c.mark.ensures.size c.mark.ensures.rule c.mark.ensures.leaf c.mark.ensures.others in
    let on = ap (marked i.nodes.items) e ∙ (ap (λ xs. marked xs c.lowest-leaf.result) (sym saw) ∙ low.set) in
    let long : length c.mark.new.nodes ≡ i.nodes.len = c.mark.ensures.size ∙ (ap length was ∙ sym i.nodes.ok.0) in
    subst (λ xs. IsPool xs i.leaves i.height i.frames (i.free - 1)) (sym (with_items_is i.nodes c.mark.new.nodes long))
    (taken i.nodes.items i.leaves i.height i.frames i.free c.self.invariant c.mark.new.nodes (c.lowest-leaf.result - i.leaves) on
    (λ k a b. ap (λ xs. marked xs k) (sym saw) ∙ low.lowest k a (subst (λ n. k < n) e b)) (omega arith) changed)

pub returns-clause-lowest : goal.returns-clause-lowest
returns-clause-lowest c =
    let i = c.self.inside in let saw = c.deref.ensures.value in let low = c.lowest-leaf.ensures in
    let e : i.leaves + (c.lowest-leaf.result - i.leaves) ≡ c.lowest-leaf.result = omega arith in
    let changed = changed_at i.nodes.items c.deref_mut.result.now c.mark.new.nodes i.leaves _ _ false e c.deref_mut.ensures.value c.mark.ensures.size c.mark.ensures.rule c.mark.ensures.leaf c.mark.ensures.others in
    let on = ap (marked i.nodes.items) e ∙ (ap (λ xs. marked xs c.lowest-leaf.result) (sym saw) ∙ low.set) in
    let first = first-free i.nodes.items i.leaves i.height i.frames i.free c.self.invariant c.mark.new.nodes (c.lowest-leaf.result - i.leaves) on
    (λ k a b. ap (λ xs. marked xs k) (sym saw) ∙ low.lowest k a (subst (λ n. k < n) e b)) (omega arith) changed in
    sym (ap (λ (p : Pool). slice_get p.free 0) (sym c.self.view_is) ∙ ap (λ xs. slice_get xs 0) first)

pub returns-clause-rest : goal.returns-clause-rest
returns-clause-rest c =
    let i = c.self.inside in let saw = c.deref.ensures.value in let was = c.deref_mut.ensures.value in let low = c.lowest-leaf.ensures in
    let e : i.leaves + (c.lowest-leaf.result - i.leaves) ≡ c.lowest-leaf.result = omega arith in
    let changed = changed_at i.nodes.items c.deref_mut.result.now c.mark.new.nodes i.leaves _ _ false e was c.mark.ensures.size c.mark.ensures.rule c.mark.ensures.leaf c.mark.ensures.others in
    let on = ap (marked i.nodes.items) e ∙ (ap (λ xs. marked xs c.lowest-leaf.result) (sym saw) ∙ low.set) in
    let first = first-free i.nodes.items i.leaves i.height i.frames i.free c.self.invariant c.mark.new.nodes (c.lowest-leaf.result - i.leaves) on
    (λ k a b. ap (λ xs. marked xs k) (sym saw) ∙ low.lowest k a (subst (λ n. k < n) e b)) (omega arith) changed in
    let long : length c.mark.new.nodes ≡ i.nodes.len = c.mark.ensures.size ∙ (ap length was ∙ sym i.nodes.ok.0) in
    let rest = ap (λ xs. free_in xs i.leaves) (with_items_is i.nodes c.mark.new.nodes long) ∙ sym (ap (λ (p : Pool). tail p.free) (sym c.self.view_is) ∙ ap tail first) in
    λ j. record { frames = (c.self.view_is j).frames; free = rest j }

pub returns-clause-below : goal.returns-clause-below
returns-clause-below c =
    let i = c.self.inside in
    let e : i.leaves + (c.lowest-leaf.result - i.leaves) ≡ c.lowest-leaf.result = omega arith in
    let on = ap (marked i.nodes.items) e ∙ (ap (λ xs. marked xs c.lowest-leaf.result) (sym c.deref.ensures.value) ∙ c.lowest-leaf.ensures.set) in
    let frame = is-frame i.nodes.items i.leaves i.height i.frames i.free c.self.invariant i.nodes.items (c.lowest-leaf.result - i.leaves) on in
    omega (arith, ap (λ (p : Pool). p.frames) c.self.view_is)
