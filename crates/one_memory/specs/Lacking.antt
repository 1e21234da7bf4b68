-- Pages that an access lacks.
use Rattle.isa_model.specs.Memory.{Memory, lacks}
use Rattle.mck_word.specs.declared.Access.{Access}
use Rattle.std.specs.Prelude.{false, true, ℕ, ◌*◌, ◌+◌, ◌/◌, ◌<◌, ◌≡◌, ◌≤◌}

-- no page from `first` on, up to `end`, is absent or lacks the right
abbrev pub NoneLacks : Memory → Access → ℕ → ℕ → Type 0
NoneLacks m a first end = (p : ℕ) → first ≤ p → p < end → lacks m a p ≡ false

-- one of them is absent or lacks it
pub record SomeLacks (m : Memory) (a : Access) (first end : ℕ) : Type 0 where
  pub page : ℕ
  pub from : first ≤ page
  pub to : page < end
  pub lacking : lacks m a page ≡ true

-- each page that n bytes from an address on touch is present and has the right
abbrev pub Allowed : Memory → Access → ℕ → ℕ → Type 0
Allowed m a address n = (p : ℕ) → 1 ≤ n → address / 4096 ≤ p → p * 4096 < address + n → lacks m a p ≡ false
