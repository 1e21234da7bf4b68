-- The pages of a process by number, beside the room for more.
use Rattle.isa_model.specs.Memory.{Memory, Page}
use Rattle.mck_flags.specs.contracts.rights.Rights as rights
use Rattle.mck_flags.specs.declared.rights.Rights.{Rights}
use Rattle.mck_word.specs.Maps.{at}
use Rattle.std.specs.Coded.{Coded, code_by, coded_list, coded_ℕ, coded×}
use Rattle.std.specs.Prelude.{IsSome, List, drop, length, refl, take, ℕ, ◌+◌, ◌++◌, ◌<◌, ◌^◌, ◌≤◌}

abbrev pub page_code : Coded Page
page_code = code_by (Rights × List ℕ) (coded× rights.the_row.coded (coded_list coded_ℕ)) (λ g. (g.rights, g.bytes)) (λ p. record { rights = p.0; bytes = p.1 }) (λ _. refl)

-- no page number is 2^27 or above
abbrev pub AreLow : Memory → Type 0
AreLow m = (k : ℕ) → IsSome (at m k) → k < 2 ^ 27

-- what holds of the rows: each page that isn't in use has a place among them, and page numbers are low
pub record ArePages (unused spare : ℕ) (m : Memory) : Type 0 where
  pub room : unused ≤ spare
  pub low : AreLow m

-- the bytes with new ones from an offset on
abbrev pub written : List ℕ → ℕ → List ℕ → List ℕ
written bytes off new = take off bytes ++ (new ++ drop (off + length new) bytes)
