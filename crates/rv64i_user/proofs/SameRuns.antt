-- Several instructions do the same on the pages that were seen and on all pages.
use Rattle.std.proofs.Common.{◌≡◌, ℕ, zero, suc, ◌*◌, ◌/◌, ◌%◌, ◌^◌, ◌<◌, Bool, true, false, cond, if◌then◌else◌, ◌||◌, eqb, ℤ, Option, Some, None, Result, Ok, Err, slice_set, sym, ◌∙◌, refl, subst, arith}
use Rattle.mck_word.specs.declared.Regs.{Regs}
use Rattle.isa_model.specs.Decode.{decoded}
use Rattle.isa_model.specs.declared.names.Op.{Op}
use Rattle.isa_model.specs.declared.forms.Form.{Form}
use Rattle.isa_model.specs.declared.forms.Form.TheVariants.{R, I, S, B, U, J}
use Rattle.isa_model.specs.declared.stops.Lack.{Lack}
use Rattle.isa_model.specs.declared.stops.Stop.{Stop}
use Rattle.isa_model.specs.declared.stops.Stop.TheVariants.{On, Misaligned, Fault}
use Rattle.isa_model.specs.declared.kinds.Kind.{Kind}
use Rattle.isa_model.specs.declared.kinds.Kind.TheVariants as kinds
use Rattle.isa_model.specs.Memory.{Memory, page_at, lacks, loaded, stored_unless, fetched}
use Rattle.isa_model.specs.Registers.{reg, goes_on, with_reg}
use Rattle.isa_model.specs.Kinds.{kind_of}
use Rattle.isa_model.specs.Arith.{add_of, computed, is_taken, load_size, load_value}
use Rattle.isa_model.specs.Instr.{Outcome, outcome, wide_of, do_r, do_u, do_j, do_b, load_of, do_load, do_kind, do_i, store_of, do_s, execute, do_arith, do_atomic_at, do_am, execute_am, execute_any, after_fetch, instr}
use Rattle.isa_model.specs.Atomics.{AmIns, am_decoded, am_size, is_atomic}
use Rattle.mck_word.specs.declared.Access.TheVariants as access
use Rattle.rv64i_user.proofs.AtomicSteps.{address}
use Rattle.rv64i_user.specs.Runs.{then_on, instrs}
use Rattle.rv64i_user.specs.Seen.{Extends, DoesTheSame, RunFaultIsKnown, RunsTheSame}
use Rattle.rv64i_user.proofs.SameOutcome.{instr-same}

-- ---- the address stays below 2 ^ 64

abbrev Small : Regs → Type 0
Small r = r.pc < 2 ^ 64

abbrev SmallPair : Regs × Stop → Type 0
SmallPair d = d.0.pc < 2 ^ 64

goes-small : (r : Regs) → Small (goes_on r)
goes-small r = omega arith

with-pc : (r : Regs) (k v : ℕ) → (with_reg r k v).pc ≡ r.pc
with-pc r k v = by-zero (eqb k 0)
  where
    by-zero : (b : Bool) → (cond b r (record r { x = slice_set r.x k v })).pc ≡ r.pc
    by-zero true = refl
    by-zero false = refl

jump-small : (b : Bool) (r : Regs) (rd t v : ℕ) → Small r → t < 2 ^ 64 → SmallPair (cond b (with_reg (record r { pc = t }) rd v, On) (r, Misaligned))
jump-small true r rd t v h k = subst (λ x. x < 2 ^ 64) (sym (with-pc (record r { pc = t }) rd v)) k
jump-small false r rd t v h k = h

r-small : (op : Op) (rd a b : ℕ) (r : Regs) → Small (do_r op rd a b r)
unfolding do_r
r-small op rd a b r = goes-small (with_reg r rd (computed op (reg r a) (reg r b)))

u-small : (op : Op) (rd i : ℕ) (r : Regs) → Small (do_u op rd i r)
unfolding do_u
u-small op rd i r = goes-small (with_reg r rd _)

j-small : (rd : ℕ) (z : ℤ) (r : Regs) → Small r → Small (do_j rd z r).0
unfolding do_j
j-small rd z r h = jump-small (eqb (add_of r.pc (wide_of z) % 4) 0) r rd (add_of r.pc (wide_of z)) (add_of r.pc 4) h (omega arith)

branch-small : (b c : Bool) (r : Regs) (t : ℕ) → Small r → t < 2 ^ 64 → SmallPair (cond b (cond c (record r { pc = t }, On) (r, Misaligned)) (goes_on r, On))
branch-small true true r t h k = k
branch-small true false r t h k = h
branch-small false c r t h k = goes-small r

b-small : (op : Op) (a b : ℕ) (z : ℤ) (r : Regs) → Small r → Small (do_b op a b z r).0
unfolding do_b
b-small op a b z r h = branch-small (is_taken op (reg r a) (reg r b)) (eqb (add_of r.pc (wide_of z) % 4) 0) r (add_of r.pc (wide_of z)) h (omega arith)

load-of-small : (op : Op) (rd : ℕ) (r : Regs) (v : Result ℕ Lack) → Small r → Small (load_of op rd r v).0
load-of-small op rd r (Ok v) h = goes-small (with_reg r rd (load_value op v))
load-of-small op rd r (Err l) h = h

load-small : (op : Op) (rd a : ℕ) (r : Regs) (m : Memory) → Small r → Small (do_load op rd a r m).0
unfolding do_load
load-small op rd a r m h = load-of-small op rd r (loaded m a (load_size op)) h

kind-small : (k : Kind) (op : Op) (rd a : ℕ) (z : ℤ) (r : Regs) (m : Memory) → Small r → Small (do_kind k op rd a z r m).0
kind-small kinds.Load op rd a z r m h = load-small op rd (add_of (reg r a) (wide_of z)) r m h
kind-small kinds.Jump op rd a z r m h =
    let t = add_of (reg r a) (wide_of z) / 2 * 2 in
    jump-small (eqb (t % 4) 0) r rd t (add_of r.pc 4) h (omega arith)
kind-small kinds.Nothing op rd a z r m h = goes-small r
kind-small kinds.Call op rd a z r m h = h
kind-small kinds.Break op rd a z r m h = h
kind-small kinds.Compute op rd a z r m h = goes-small (with_reg r rd _)

i-small : (op : Op) (rd a : ℕ) (z : ℤ) (r : Regs) (m : Memory) → Small r → Small (do_i op rd a z r m).0
unfolding do_i
i-small op rd a z r m h = kind-small (kind_of op) op rd a z r m h

store-small : (o : Option Lack) (r : Regs) (m n : Memory) → Small r → Small (store_of r (stored_unless o m n)).regs
store-small None r m n h = goes-small r
store-small (Some l) r m n h = h

s-small : (op : Op) (a b : ℕ) (z : ℤ) (r : Regs) (m : Memory) → Small r → Small (do_s op a b z r m).regs
unfolding do_s
s-small op a b z r m h = store-small _ r m _ h

execute-small : (form : Form) (r : Regs) (m : Memory) → Small r → Small (execute form r m).regs
execute-small (R op rd a b) r m h = r-small op rd a b r
execute-small (I op rd a z) r m h = i-small op rd a z r m h
execute-small (S op a b z) r m h = s-small op a b z r m h
execute-small (B op a b z) r m h = b-small op a b z r h
execute-small (U op rd i) r m h = u-small op rd i r
execute-small (J op rd z) r m h = j-small rd z r h

am-by-small : (t u b : Bool) (i : AmIns) (a : ℕ) (l : Lack) (r : Regs) (m : Memory) → Small r
    → Small (if t then (if u then (if b then outcome r m (Fault l) else do_atomic_at i a r m) else outcome r m Misaligned) else outcome (do_arith i r) m On).regs
am-by-small true true true i a l r m h = h
am-by-small true true false i a l r m h = goes-small (with_reg r i.rd _)
am-by-small true false b i a l r m h = h
am-by-small false u b i a l r m h = goes-small (with_reg r i.rd _)

am-small : (i : Option AmIns) (r : Regs) (m : Memory) → Small r → Small (execute_am i r m).regs
unfolding do_am
am-small None r m h = h
am-small (Some i) r m h =
    let a = address i r in
    am-by-small (is_atomic i.op) (eqb (a % am_size i.op) 0) (lacks m access.Read (a / 4096) || lacks m access.Write (a / 4096)) i a (record { page = a / 4096; access = access.Write }) r m h

any-small : (f : Option Form) (w : ℕ) (r : Regs) (m : Memory) → Small r → Small (execute_any f w r m).regs
any-small None w r m h = am-small (am_decoded w) r m h
any-small (Some form) w r m h = execute-small form r m h

fetch-small : (f : Result ℕ Lack) (r : Regs) (m : Memory) → Small r → Small (after_fetch f r m).regs
fetch-small (Err l) r m h = h
fetch-small (Ok w) r m h = any-small (decoded w) w r m h

pc-small : (b : Bool) (f : Result ℕ Lack) (r : Regs) (m : Memory) → Small r → Small (cond b (after_fetch f r m) (outcome r m Misaligned)).regs
pc-small true f r m h = fetch-small f r m h
pc-small false f r m h = h

pub instr-small : (r : Regs) (m : Memory) → r.pc < 2 ^ 64 → (instr r m).regs.pc < 2 ^ 64
unfolding instr
instr-small r m h = pc-small (eqb (r.pc % 4) 0) (fetched m r.pc) r m h

-- ---- runs

-- an absent page stays absent
pub stays-absent : (r : Regs) (m : Memory) (p : ℕ) → r.pc < 2 ^ 64 → page_at m p ≡ None → page_at (instr r m).memory p ≡ None
stays-absent r m p h k = (instr-same r m m h (λ p g e. e) (λ l e. refl)).others p k ∙ k

record Same (m w : Memory) (x y : Outcome) : Type 0 where
  pub regs : y.regs ≡ x.regs
  pub stop : y.stop ≡ x.stop
  pub pages : Extends x.memory y.memory
  pub others : (p : ℕ) → page_at m p ≡ None → page_at y.memory p ≡ page_at w p
  pub kept : (p : ℕ) → page_at w p ≡ page_at m p → page_at y.memory p ≡ page_at x.memory p

abbrev Known : Memory → Memory → Stop → Type 0
Known m w s = (l : Lack) → s ≡ Fault l → page_at w l.page ≡ page_at m l.page

abbrev Later : ℕ → Type 0
Later n = (r : Regs) (m w : Memory) → r.pc < 2 ^ 64 → Extends m w → Known m w (instrs n r m).stop → Same m w (instrs n r m) (instrs n r w)

of-step : (r : Regs) (m w : Memory) → DoesTheSame r m w → Same m w (instr r m) (instr r w)
of-step r m w d = record { regs = d.regs; stop = d.stop; pages = d.pages; others = d.others; kept = d.kept }

on-fault : (l : Lack) → On ≡ Fault l → ⊥
on-fault l e = cc

-- after an instruction that went on
go-on : (n : ℕ) → Later n → (r : Regs) (m w : Memory) → r.pc < 2 ^ 64 → Extends m w → (instr r m).stop ≡ On → Known m w (instrs n (instr r m).regs (instr r m).memory).stop
    → (instr r w).stop ≡ On × Same m w (instrs n (instr r m).regs (instr r m).memory) (instrs n (instr r w).regs (instr r w).memory)
go-on n later r m w h e on known =
    let d = instr-same r m w h e (λ l f. absurd (on-fault l (sym on ∙ f))) in
    let s = later (instr r m).regs (instr r m).memory (instr r w).memory (instr-small r m h) d.pages (λ l f. d.kept l.page (known l f)) in
    let t : Same m w (instrs n (instr r m).regs (instr r m).memory) (instrs n (instr r m).regs (instr r w).memory) =
    record { regs = s.regs; stop = s.stop; pages = s.pages; others = λ p k. s.others p (stays-absent r m p h k) ∙ d.others p k; kept = λ p k. s.kept p (d.kept p k) } in
    (d.stop ∙ on, subst (λ x. Same m w (instrs n (instr r m).regs (instr r m).memory) (instrs n x (instr r w).memory)) (sym d.regs) t)

-- by the stop of the first
by-stop : (n : ℕ) → Later n → (r : Regs) (m w : Memory) → r.pc < 2 ^ 64 → Extends m w → (s : Stop) → (instr r m).stop ≡ s → Known m w (then_on s (instrs n) (instr r m)).stop
    → ((instr r w).stop ≡ s) × Same m w (then_on s (instrs n) (instr r m)) (then_on s (instrs n) (instr r w))
by-stop n later r m w h e On q known = go-on n later r m w h e q known
by-stop n later r m w h e s q known = let d = instr-same r m w h e known in (d.stop ∙ q, of-step r m w d)

runs-same : (n : ℕ) → Later n
unfolding instrs
runs-same zero = λ r m w h e known. record { regs = refl; stop = refl; pages = e; others = λ p k. refl; kept = λ p k. k }
runs-same (suc n) = λ r m w h e known.
    let t = by-stop n (runs-same n) r m w h e (instr r m).stop refl known in
    subst (λ s. Same m w (then_on (instr r m).stop (instrs n) (instr r m)) (then_on s (instrs n) (instr r w))) (sym t.0) t.1

pub runs : (n : ℕ) (r : Regs) (m w : Memory) → r.pc < 2 ^ 64 → Extends m w → RunFaultIsKnown n r m w → RunsTheSame n r m w
runs n r m w h e known =
    let s = runs-same n r m w h e known in
    record { regs = s.regs; stop = s.stop; pages = s.pages; others = s.others; kept = s.kept }
