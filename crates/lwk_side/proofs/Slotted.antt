-- Empty slots are no rows.
use Rattle.mck_word.specs.MapLaws.{at-none, same_rows}
use Rattle.mck_word.specs.Maps.{no_rows}
use Rattle.mck_word.specs.Slots.{at-slots, by_place}
use Rattle.std.proofs.Common.{refl, sym, ◌∙◌, ◌≡◌}
use Rattle.std.specs.Prelude.{zero, suc, List, None, Option, replicate, slice_index_or, ℕ}

module _ {V : Type 0} where
  abbrev pub empties : ℕ → List (Option V)
  empties n = replicate n None

  none-there : (n q : ℕ) → slice_index_or (empties n) q None ≡ None
  none-there zero q = refl
  none-there (suc n) zero = refl
  none-there (suc n) (suc q) = none-there n q

  pub empty-slots : (n : ℕ) → by_place (empties n) ≡ no_rows
  empty-slots n = same_rows _ _ (λ q. at-slots (empties n) q ∙ none-there n q ∙ sym (at-none q))
