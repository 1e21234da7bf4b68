-- The lists after an event are those of the state that it leaves.
use Rattle.file_model.specs.Files.{Files}
use Rattle.hybrid_model.specs.Events.{after, may}
use Rattle.hybrid_model.specs.Globals.{Coherent}
use Rattle.hybrid_model.specs.Pairs.{Pair}
use Rattle.hybrid_model.specs.Sides.{Row}
use Rattle.hybrid_model.specs.declared.events.Event.{Event}
use Rattle.mck_word.specs.Maps.{Map}
use Rattle.pair_core.specs.Shown.{pair_of}
use Rattle.pair_core.specs.declared.parts.Parts.{Parts}
use Rattle.pair_node.proofs.Lists.{listed-same}
use Rattle.pair_node.proofs.Moves.{moves-after}
use Rattle.pair_node.proofs.Shows.{cores-are, owners-are}
use Rattle.pair_node.specs.Listed.{IsListed, Moves, Owners, owners, touched_by}
use Rattle.pair_node.specs.declared.members.Members.{Members}
use Rattle.pair_node.specs.declared.members.Touched.{Touched}
use Rattle.std.proofs.Common.{ap, subst, sym, ◌∙◌}
use Rattle.std.specs.Prelude.{true, ℕ, ◌≡◌}
use Rattle.thread_laws.proofs.Laws.{cores-stay}
use Rattle.thread_laws.specs.Members.{process_at}

moves-along : (a b : Touched) (k n : ℕ) (f g h : Owners) → a ≡ b → k ≡ n → ((u : ℕ) → g u ≡ h u) → Moves b n f h → Moves a k f g
moves-along a b k n f g h e d s moves =
    subst (λ (x : Touched). Moves x k f g) (sym e) (
    subst (λ (x : ℕ). Moves b x f g) (sym d) (
    subst (λ (x : Owners). Moves b n f x) (λ i u. sym (s u) i) moves))

module _ {T F : Type 0} (rows : T → Map Row) (files : F → Files) (x y : Parts T F) (m n : Members) (e : Event) (z : Touched) (next : ℕ) where
  abbrev before : Pair
  before = pair_of rows files x

  abbrev now : Owners
  now = owners y.lwk.node.threads

  pub listed-after : Coherent before → may before e ≡ true → pair_of rows files y ≡ after before e → z ≡ touched_by before.node e → next ≡ before.node.next_number
      → IsListed (process_at before.node) before.cores m → ((f : Owners) → Moves z next f now → IsListed f x.lwk.cores m → IsListed now x.lwk.cores n)
      → IsListed (process_at (pair_of rows files y).node) (pair_of rows files y).cores n
  listed-after c may is touched fresh listed note =
      let same : (u : ℕ) → now u ≡ process_at (after before e).node u = λ u. sym (owners-are rows files y u) ∙ ap (λ (p : Pair). process_at p.node u) is in
      let moves = moves-along z (touched_by before.node e) next before.node.next_number (process_at before.node) now (process_at (after before e).node) touched fresh same (moves-after before c e may) in
      let noted = note (process_at before.node) moves (subst (λ (k : ℕ). IsListed (process_at before.node) k m) (cores-are rows files x) listed) in
      let cores : (pair_of rows files y).cores ≡ x.lwk.cores = ap (λ (p : Pair). p.cores) is ∙ cores-stay before e ∙ cores-are rows files x in
      subst (λ (k : ℕ). IsListed (process_at (pair_of rows files y).node) k n) (sym cores) (listed-same now (process_at (pair_of rows files y).node) x.lwk.cores n (owners-are rows files y) noted)
