-- An instruction that stops leaves registers and memory.
use Rattle.std.proofs.Common.{◌≡◌, ◌≢◌, ℕ, ◌%◌, Bool, true, false, cond, if◌then◌else◌, ◌||◌, ◌/◌, eqb, ℤ, Option, Some, None, Result, Ok, Err, refl}
use Rattle.mck_word.specs.declared.Regs.{Regs}
use Rattle.isa_model.specs.Decode.{decoded}
use Rattle.isa_model.specs.declared.names.Op.{Op}
use Rattle.isa_model.specs.declared.forms.Form.{Form}
use Rattle.isa_model.specs.declared.forms.Form.TheVariants.{R, I, S, B, U, J}
use Rattle.isa_model.specs.declared.stops.Lack.{Lack}
use Rattle.isa_model.specs.declared.stops.Stop.{Stop}
use Rattle.isa_model.specs.declared.stops.Stop.TheVariants.{On, Misaligned, Fault}
use Rattle.isa_model.specs.declared.kinds.Kind.{Kind}
use Rattle.isa_model.specs.declared.kinds.Kind.TheVariants as kinds
use Rattle.isa_model.specs.Memory.{Memory, lacks, loaded, stored_unless, fetched}
use Rattle.isa_model.specs.Registers.{reg, goes_on, with_reg}
use Rattle.isa_model.specs.Kinds.{kind_of}
use Rattle.isa_model.specs.Arith.{add_of, is_taken, load_size}
use Rattle.isa_model.specs.Instr.{Outcome, outcome, wide_of, jumps, do_j, do_b, load_of, do_load, do_kind, do_i, store_of, do_s, execute, do_arith, do_atomic, do_atomic_at, do_am, execute_am, execute_any, after_fetch, instr}
use Rattle.isa_model.specs.Atomics.{AmIns, am_decoded, am_size, is_atomic}
use Rattle.mck_word.specs.declared.Access.TheVariants as access
use Rattle.rv64i_user.proofs.AtomicSteps.{address}

abbrev Leaves : Regs → Memory → Outcome → Type 0
Leaves r m x = x.stop ≢ On → (x.regs ≡ r) × (x.memory ≡ m)

abbrev LeavesRegs : Regs → Regs × Stop → Type 0
LeavesRegs r d = d.1 ≢ On → d.0 ≡ r

leaves-if : (b : Bool) (r s : Regs) → LeavesRegs r (cond b (s, On) (r, Misaligned))
leaves-if true r s = λ h. absurd (h refl)
leaves-if false r s = λ h. refl

jump-leaves : (r : Regs) (rd t : ℕ) → LeavesRegs r (jumps r rd t)
jump-leaves r rd t = leaves-if (eqb (t % 4) 0) r (with_reg (record r { pc = t }) rd (add_of r.pc 4))

branch-leaves : (b c : Bool) (r s t : Regs) → LeavesRegs r (cond b (cond c (s, On) (r, Misaligned)) (t, On))
branch-leaves true c r s t = leaves-if c r s
branch-leaves false c r s t = λ h. absurd (h refl)

b-leaves : (op : Op) (a b : ℕ) (z : ℤ) (r : Regs) → LeavesRegs r (do_b op a b z r)
unfolding do_b
b-leaves op a b z r = branch-leaves (is_taken op (reg r a) (reg r b)) (eqb (add_of r.pc (wide_of z) % 4) 0) r (record r { pc = add_of r.pc (wide_of z) }) (goes_on r)

j-leaves : (rd : ℕ) (z : ℤ) (r : Regs) → LeavesRegs r (do_j rd z r)
unfolding do_j
j-leaves rd z r = jump-leaves r rd (add_of r.pc (wide_of z))

load-of-leaves : (op : Op) (rd : ℕ) (r : Regs) (v : Result ℕ Lack) → LeavesRegs r (load_of op rd r v)
load-of-leaves op rd r (Ok v) = λ h. absurd (h refl)
load-of-leaves op rd r (Err l) = λ h. refl

load-leaves : (op : Op) (rd a : ℕ) (r : Regs) (m : Memory) → LeavesRegs r (do_load op rd a r m)
unfolding do_load
load-leaves op rd a r m = load-of-leaves op rd r (loaded m a (load_size op))

kind-leaves : (k : Kind) (op : Op) (rd a : ℕ) (z : ℤ) (r : Regs) (m : Memory) → LeavesRegs r (do_kind k op rd a z r m)
kind-leaves kinds.Load op rd a z r m = load-leaves op rd (add_of (reg r a) (wide_of z)) r m
kind-leaves kinds.Jump op rd a z r m = jump-leaves r rd _
kind-leaves kinds.Nothing op rd a z r m = λ h. absurd (h refl)
kind-leaves kinds.Call op rd a z r m = λ h. refl
kind-leaves kinds.Break op rd a z r m = λ h. refl
kind-leaves kinds.Compute op rd a z r m = λ h. absurd (h refl)

i-leaves : (op : Op) (rd a : ℕ) (z : ℤ) (r : Regs) (m : Memory) → LeavesRegs r (do_i op rd a z r m)
unfolding do_i
i-leaves op rd a z r m = kind-leaves (kind_of op) op rd a z r m

store-leaves : (o : Option Lack) (r : Regs) (m n : Memory) → Leaves r m (store_of r (stored_unless o m n))
store-leaves None r m n = λ h. absurd (h refl)
store-leaves (Some l) r m n = λ h. (refl, refl)

s-leaves : (op : Op) (a b : ℕ) (z : ℤ) (r : Regs) (m : Memory) → Leaves r m (do_s op a b z r m)
unfolding do_s
s-leaves op a b z r m = store-leaves _ r m _

execute-leaves : (form : Form) (r : Regs) (m : Memory) → Leaves r m (execute form r m)
execute-leaves (R op rd a b) r m = λ h. absurd (h refl)
execute-leaves (I op rd a z) r m = λ h. (i-leaves op rd a z r m h, refl)
execute-leaves (S op a b z) r m = s-leaves op a b z r m
execute-leaves (B op a b z) r m = λ h. (b-leaves op a b z r h, refl)
execute-leaves (U op rd i) r m = λ h. absurd (h refl)
execute-leaves (J op rd z) r m = λ h. (j-leaves rd z r h, refl)

-- ---- multiplication, division and atomic operations

atomic-leaves : (t b : Bool) (i : AmIns) (a : ℕ) (l : Lack) (r : Regs) (m : Memory)
    → Leaves r m (if t then (if b then outcome r m (Fault l) else do_atomic_at i a r m) else outcome r m Misaligned)
atomic-leaves true true i a l r m = λ h. (refl, refl)
atomic-leaves true false i a l r m = λ h. absurd (h refl)
atomic-leaves false b i a l r m = λ h. (refl, refl)

am-by : (t : Bool) (i : AmIns) (r : Regs) (m : Memory) → Leaves r m (if t then do_atomic i r m else outcome (do_arith i r) m On)
am-by true i r m =
    let a = address i r in
    atomic-leaves (eqb (a % am_size i.op) 0) (lacks m access.Read (a / 4096) || lacks m access.Write (a / 4096)) i a (record { page = a / 4096; access = access.Write }) r m
am-by false i r m = λ h. absurd (h refl)

am-leaves : (i : Option AmIns) (r : Regs) (m : Memory) → Leaves r m (execute_am i r m)
unfolding do_am
am-leaves None r m = λ h. (refl, refl)
am-leaves (Some i) r m = am-by (is_atomic i.op) i r m

any-leaves : (f : Option Form) (w : ℕ) (r : Regs) (m : Memory) → Leaves r m (execute_any f w r m)
any-leaves None w r m = am-leaves (am_decoded w) r m
any-leaves (Some form) w r m = execute-leaves form r m

fetch-leaves : (f : Result ℕ Lack) (r : Regs) (m : Memory) → Leaves r m (after_fetch f r m)
fetch-leaves (Err l) r m = λ h. (refl, refl)
fetch-leaves (Ok w) r m = any-leaves (decoded w) w r m

pc-leaves : (b : Bool) (f : Result ℕ Lack) (r : Regs) (m : Memory) → Leaves r m (cond b (after_fetch f r m) (outcome r m Misaligned))
pc-leaves true f r m = fetch-leaves f r m
pc-leaves false f r m = λ h. (refl, refl)

pub instr-leaves : (r : Regs) (m : Memory) → (instr r m).stop ≢ On → ((instr r m).regs ≡ r) × ((instr r m).memory ≡ m)
unfolding instr
instr-leaves r m = pc-leaves (eqb (r.pc % 4) 0) (fetched m r.pc) r m
