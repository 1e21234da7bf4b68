-- Ranges of pages that are all absent, or all there.
use Rattle.mck_word.specs.Maps.{at}
use Rattle.page_map.specs.Tables.{IsThere, PageRows}
use Rattle.std.specs.Prelude.{ℕ, ◌≡◌, ◌<◌, ◌≤◌, None}

abbrev pub AbsentFrom : PageRows → ℕ → ℕ → Type 0
AbsentFrom rows lo hi = (page : ℕ) → lo ≤ page → page < hi → at rows page ≡ None

abbrev pub ThereFrom : PageRows → ℕ → ℕ → Type 0
ThereFrom rows lo hi = (page : ℕ) → lo ≤ page → page < hi → IsThere rows page
