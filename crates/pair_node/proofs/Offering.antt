-- The process of the events that are asked of it.
use Rattle.file_model.specs.Files.{Files}
use Rattle.hybrid_model.specs.Events.{process_of_event}
use Rattle.hybrid_model.specs.Sides.{Row}
use Rattle.hybrid_model.specs.declared.events.Event.{Event}
use Rattle.kernel_model.specs.Nodes.{Node}
use Rattle.mck_word.specs.Maps.{Map}
use Rattle.pair_core.specs.Shown.{pair_of}
use Rattle.pair_core.specs.There.{IsThere}
use Rattle.pair_core.specs.declared.parts.Parts.{Parts}
use Rattle.pair_core.specs.declared.parts.Side.{Side}
use Rattle.pair_offers.specs.Seeking.{event_of, process_of}
use Rattle.pair_offers.specs.declared.seeking.Numbered.TheVariants.{Answers, Assigns, Fetches}
use Rattle.pair_offers.specs.declared.seeking.Numbered.{Numbered}
use Rattle.std.proofs.Common.{ap, refl, subst, sym, ◌∙◌}
use Rattle.std.specs.Prelude.{Bool, List, Some, cond, false, find, ℕ, ◌∷◌, ◌≡◌}

numbered-is : (node : Node) (what : Numbered) (n : ℕ) → process_of_event node (event_of what n) ≡ process_of what
numbered-is node (Answers p) n = refl
numbered-is node (Fetches p) n = refl
numbered-is node (Assigns p) n = refl

module _ {T F : Type 0} (rows : T → Map Row) (files : F → Files) (x : Parts T F) (s : Side T) where
  pub there-along : (p q : ℕ) → p ≡ q → IsThere rows files x q s → IsThere rows files x p s
  there-along p q e h = subst (λ (n : ℕ). IsThere rows files x n s) (sym e) h

  pub there-numbered : (what : Numbered) (n : ℕ) (e : Event) → e ≡ event_of what n → IsThere rows files x (process_of what) s → IsThere rows files x (process_of_event (pair_of rows files x).node e) s
  there-numbered what n e is h =
      let node = (pair_of rows files x).node in
      there-along (process_of_event node e) (process_of what) (ap (process_of_event node) is ∙ numbered-is node what n) h

-- three events that may not happen are passed over
module _ {E : Type 0} (test : E → Bool) where
  passed : (x : E) (xs : List E) → test x ≡ false → find test (x ∷ xs) ≡ find test xs
  passed x xs fails = ap (λ b. cond b (Some x) (find test xs)) fails

  pub past-three : (x y z : E) (xs : List E) → test x ≡ false → test y ≡ false → test z ≡ false → find test (x ∷ y ∷ z ∷ xs) ≡ find test xs
  past-three x y z xs a b c = passed x (y ∷ z ∷ xs) a ∙ (passed y (z ∷ xs) b ∙ passed z xs c)
