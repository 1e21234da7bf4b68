-- A thread that begins beside its caller.
use Rattle.hybrid_model.specs.Sides.{Row}
use Rattle.kernel_model.specs.CloneCalls.{cloned_thread, clones, with_thread}
use Rattle.kernel_model.specs.LocalCalls.{answers}
use Rattle.kernel_model.specs.Nodes.{Node as KernelNode, answered, thread_of}
use Rattle.kernel_model.specs.Signals.{View, on_node, try_store, view}
use Rattle.lwk_calls.specs.Words.{told}
use Rattle.lwk_space.specs.Lacks.{memory}
use Rattle.lwk_views.proofs.Doing.{Stands, begins, steps, tries}
use Rattle.mck_word.specs.Maps.{Map}
use Rattle.mck_word.specs.Words.{has_bit, little_endian}
use Rattle.std.proofs.Common.{ap, subst, ◌∙◌}
use Rattle.std.specs.Prelude.{Bool, List, cond, false, pos, true, ℕ, ℤ, ◌≡◌}

module _ (rows : Map Row) (pages : List (List ℕ)) where
  -- a number is stored, where it is asked for and may be
  pub tells : (asked : Bool) (address n : ℕ) (k : KernelNode) (left next : List (List ℕ)) (v : View) → memory rows next ≡ told asked address n (memory rows left) → Stands rows pages k left v
      → Stands rows pages k next (cond asked (try_store address (little_endian 4 n) v) v)
  tells true address n k left next v e h = tries rows pages address (little_endian 4 n) k left next v e h
  tells false address n k left next v e h = record { began = h.began; now = h.now; stored = e ∙ h.stored }

  module _ (t flags stack parent_tid tls child_tid : ℕ) where
    abbrev made : View → View
    made v = on_node (with_thread (cloned_thread v.node (thread_of v.node t) flags stack tls child_tid)) v

    abbrev told_parent : ℕ → View → View
    told_parent n v = cond (has_bit 20 flags) (try_store parent_tid (little_endian 4 n) (made v)) (made v)

    abbrev told_both : ℕ → View → View
    told_both n v = cond (has_bit 24 flags) (try_store child_tid (little_endian 4 n) (told_parent n v)) (told_parent n v)

    pub clones_stand : (n : ℕ) (z : ℤ) (k with after : KernelNode) (middle left : List (List ℕ)) → n ≡ k.next_number
        → with ≡ with_thread (cloned_thread k (thread_of k t) flags stack tls child_tid) k → memory rows middle ≡ told (has_bit 20 flags) parent_tid n (memory rows pages)
        → memory rows left ≡ told (has_bit 24 flags) child_tid n (memory rows middle) → z ≡ pos n → after ≡ answered t z with
        → Stands rows pages after left (clones t flags stack parent_tid tls child_tid (view k (memory rows pages)))
    clones_stand n z k with after middle left number thread parent child same is =
        let v = view k (memory rows pages) in
        let one : Stands rows pages with pages (made v) = steps rows pages (with_thread (cloned_thread k (thread_of k t) flags stack tls child_tid)) k with pages v thread (begins rows pages k) in
        let two : Stands rows pages with middle (told_parent n v) = tells (has_bit 20 flags) parent_tid n with pages middle (made v) parent one in
        let three : Stands rows pages with left (told_both n v) = tells (has_bit 24 flags) child_tid n with middle left (told_parent n v) child two in
        let four : Stands rows pages after left (answers t (pos n) (told_both n v)) = steps rows pages (answered t (pos n)) with after left (told_both n v) (is ∙ ap (λ y. answered t y with) same) three in
        subst (λ m. Stands rows pages after left (answers t (pos m) (told_both m v))) number four
