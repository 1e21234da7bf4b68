-- What a device tells, and what a call of it may do.
use Rattle.std.specs.Prelude.{◌≡◌, ℕ, ◌-◌, ◌^◌, ◌≤◌, ◌<◌, List, ◌++◌, Option, Some, None, length, take}

-- What a host that tells its bytes has under each name: the bytes, or none.
abbrev pub Held : Type 0
Held = List ℕ → Option (List ℕ)

-- A fact of what is told. A device that tells nothing owes nothing.
abbrev pub WhereTold : {A : Type 0} → Option A → (A → Type 0) → Type 0
WhereTold told P = (held : _) → told ≡ Some held → P held

-- A fault count that rose: it is greater, or stands at the last value of 64 bits.
abbrev pub Rose : ℕ → ℕ → Type 0
Rose old new = new ≤ old → 2 ^ 64 - 1 ≤ new

-- What a fetch of a name may answer Ok with: its bytes at the end. A name without bytes is a fault, and never Ok.
abbrev pub Appends : Option (List ℕ) → List ℕ → List ℕ → Type 0
Appends None old new = ⊥
Appends (Some bytes) old new = new ≡ old ++ bytes

-- How a host goes on: what it tells stays, and no count falls.
pub record HostGoesOn {H : Type 0} (holds : H → Option Held) (faults : H → List ℕ → ℕ) (old new : H) : Type 0 where
  pub told : holds new ≡ holds old
  pub rises : (name : List ℕ) → faults old name ≤ faults new name

-- What a sink that tells its bytes has taken afterwards.
abbrev pub Takes : Option (List ℕ) → List ℕ → Option (List ℕ) → Type 0
Takes old bytes new = (had : List ℕ) → old ≡ Some had → new ≡ Some (had ++ bytes)

-- A front of the bytes was taken, and not all of them.
abbrev pub TakesFront : Option (List ℕ) → List ℕ → Option (List ℕ) → Type 0
TakesFront old bytes new = (n : ℕ) × (n < length bytes) × Takes old (take n bytes) new
