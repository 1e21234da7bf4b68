-- A process that begins beside its caller's.
use Rattle.hybrid_model.specs.Sides.{Row}
use Rattle.kernel_model.specs.CloneCalls.{with_child}
use Rattle.kernel_model.specs.LocalCalls.{answers}
use Rattle.kernel_model.specs.Nodes.{Node as KernelNode, answered}
use Rattle.kernel_model.specs.Signals.{View, on_node, try_store, view}
use Rattle.lwk_calls.proofs.Begun.{tells}
use Rattle.lwk_calls.specs.Forks.{begins_child}
use Rattle.lwk_calls.specs.Words.{told}
use Rattle.lwk_space.specs.Lacks.{memory}
use Rattle.lwk_views.proofs.Doing.{Stands, begins, steps}
use Rattle.mck_word.specs.Maps.{Map}
use Rattle.mck_word.specs.Words.{has_bit, little_endian}
use Rattle.std.proofs.Common.{ap, subst, ◌∙◌}
use Rattle.std.specs.Prelude.{List, cond, pos, ℕ, ℤ, ◌≡◌}

module _ (rows : Map Row) (pages : List (List ℕ)) (t flags stack parent_tid tls child_tid : ℕ) where
  abbrev told_parent : ℕ → View → View
  told_parent n v = cond (has_bit 20 flags) (try_store parent_tid (little_endian 4 n) v) v

  pub child_stands : (n : ℕ) (z : ℤ) (k with after : KernelNode) (left : List (List ℕ)) → n ≡ k.next_number → memory rows left ≡ told (has_bit 20 flags) parent_tid n (memory rows pages)
      → with ≡ with_child t n flags stack tls child_tid k → z ≡ pos n → after ≡ answered t z with
      → Stands rows pages after left (begins_child t flags stack parent_tid tls child_tid (view k (memory rows pages)))
  child_stands n z k with after left number stored made same is =
      let v = view k (memory rows pages) in
      let one : Stands rows pages k left (told_parent n v) = tells rows pages (has_bit 20 flags) parent_tid n k pages left v stored (begins rows pages k) in
      let two : Stands rows pages with left (on_node (with_child t n flags stack tls child_tid) (told_parent n v)) = steps rows pages (with_child t n flags stack tls child_tid) k with left (told_parent n v) made one in
      let three : Stands rows pages after left (answers t (pos n) (on_node (with_child t n flags stack tls child_tid) (told_parent n v))) =
      steps rows pages (answered t (pos n)) with after left (on_node (with_child t n flags stack tls child_tid) (told_parent n v)) (is ∙ ap (λ y. answered t y with) same) two in
      subst (λ m. Stands rows pages after left (answers t (pos m) (on_node (with_child t m flags stack tls child_tid) (told_parent m v)))) number three
