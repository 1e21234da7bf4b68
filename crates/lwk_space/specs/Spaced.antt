-- A space: its table, its mapped pages and its break.
use Rattle.hybrid_model.specs.Sides.{Row}
use Rattle.mck_word.specs.Maps.{Map, at}
use Rattle.mck_word.specs.Pages.{in_ranges}
use Rattle.std.specs.Coded.{Coded, code_by, coded×}
use Rattle.std.specs.Prelude.{is_some, refl, ℕ, ◌≡◌}
use Rattle.vm_areas.specs.Ranges.{Mapped}

pub record Spaced (T : Type 0) : Type 0 where
  pub table : T
  pub areas : Mapped

module _ {T : Type 0} where
  abbrev pub spaced_code : Coded T → Coded Mapped → Coded (Spaced T)
  spaced_code c d = code_by (T × Mapped) (coded× c d) (λ s. (s.table, s.areas)) (λ p. record { table = p.0; areas = p.1 }) (λ _. refl)

-- the mapped pages are those that have a row
abbrev pub Agree : Map Row → Mapped → Type 0
Agree rows areas = (p : ℕ) → in_ranges areas.ranges p ≡ is_some (at rows p)
