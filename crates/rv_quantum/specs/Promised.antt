-- What quanta promise of every memory that has the pages that they saw.
use Rattle.isa_model.specs.Memory.{Memory, page_at}
use Rattle.isa_model.specs.declared.stops.Stop.{Stop}
use Rattle.isa_model.specs.declared.stops.Stop.TheVariants.{On}
use Rattle.mck_word.specs.declared.Regs.{Regs}
use Rattle.rv64i_user.specs.Runs.{count_on, instrs}
use Rattle.rv_quantum.specs.Images.{Seen, left, seen, seen_page}
use Rattle.rv_quantum.specs.declared.image.Image.{Image}
use Rattle.std.specs.Prelude.{Bool, List, [], map, nat_le, ℕ, ⊤, ◌&&◌, ◌+◌, ◌∷◌, ◌≡◌}

-- a memory has the pages that were seen, and lacks those that were seen absent
abbrev pub Agrees : List Seen → Memory → Type 0
Agrees [] m = ⊤
Agrees (s ∷ ss) m = (page_at m s.page ≡ seen_page s) × Agrees ss m

-- the instruction that stopped is one
abbrev pub stopped_one : Stop → ℕ
stopped_one On = 0
stopped_one _ = 1

-- n instructions over a memory, all of them executed, come to these registers, this stop, and the images left there
pub record Led (n : ℕ) (r : Regs) (m : Memory) (is : List Image) (q : Regs) (s : Stop) : Type 0 where
  pub regs : (instrs n r m).regs ≡ q
  pub stop : (instrs n r m).stop ≡ s
  pub count : count_on n r m + stopped_one s ≡ n
  pub pages : (p : ℕ) → page_at (instrs n r m).memory p ≡ left is p (page_at m p)

-- so over every memory that agrees with what was seen
abbrev pub Promised : Regs → ℕ → List Image → Regs → Stop → Type 0
Promised r n is q s = (m : Memory) → Agrees (map seen is) m → Led n r m is q s

-- a count of a quantum
abbrev pub is_count : ℕ → Bool
is_count n = nat_le 1 n && nat_le n 64
