-- Steps that take unused things out.
use Rattle.file_model.specs.Files.{settled}
use Rattle.file_model.specs.declared.descriptions.Description.{Description}
use Rattle.linux_files.specs.Seen.{IsKept, is_used, seen_parts}
use Rattle.linux_files.specs.declared.parts.Parts.{Parts}
use Rattle.mck_word.specs.Maps.{at}
use Rattle.std.specs.List.{list_any}
use Rattle.std.specs.Prelude.{Bool, List, None, Option, Some, false, not, true, ℕ, ◌==◌, ◌≡◌}

-- a description that is there and that nothing uses
pub record IsUnused (p : Parts) (d : ℕ) : Type 0 where
  pub description : Description
  pub there : at p.descriptions.map d ≡ Some description
  pub unused : is_used p d description ≡ false

abbrev pub unused_row : Parts → ℕ → Option Description → Bool
unused_row p d None = false
unused_row p d (Some x) = not (is_used p d x)

-- whether a slot has that number, and whether some slot has it
abbrev pub slot_is : ℕ → Option ℕ → Bool
slot_is d None = false
slot_is d (Some n) = n == d

abbrev pub is_suspect : List (Option ℕ) → ℕ → Bool
is_suspect slots d = list_any (slot_is d) slots

-- the descriptions that stay and are among those are used
abbrev pub AreUsed : (ℕ → Bool) → Parts → Type 0
AreUsed those p = (d : ℕ) (x : Description) → at p.descriptions.map d ≡ Some x → those d ≡ true → is_used p d x ≡ true

-- after some steps there are no new descriptions, and the same things stay in the end
pub record Follows (old new : Parts) : Type 0 where
  pub kept : IsKept new
  pub settles : settled (seen_parts new) ≡ settled (seen_parts old)
  pub fewer : (d : ℕ) (x : Description) → at new.descriptions.map d ≡ Some x → at old.descriptions.map d ≡ Some x
  pub named : new.named.counts ≡ old.named.counts
  pub loose : new.loose ≡ old.loose
  pub unsettled : new.unsettled ≡ old.unsettled
