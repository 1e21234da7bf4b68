-- An atomic operation, made of a load and a store of one aligned number.
use Rattle.std.proofs.Common.{◌≡◌, ℕ, ◌+◌, ◌-◌, ◌/◌, ◌%◌, ◌^◌, ◌<◌, ◌==◌, ◌||◌, Bool, true, false, if◌then◌else◌, Option, Some, None, inl, inr, sym, ap, ◌∙◌, refl, subst, arith}
use Rattle.std.proofs.lemmas.Bool.{false≢true}
use Rattle.std.proofs.lemmas.Bool.Decides.{nat_tests}
use Rattle.std.proofs.lemmas.Option.{same_Some}
use Rattle.mck_word.specs.declared.Access.{Access}
use Rattle.mck_word.specs.declared.Access.TheVariants as access
use Rattle.mck_word.specs.declared.Regs.{Regs}
use Rattle.isa_model.specs.declared.atomics.AmOp.{AmOp}
use Rattle.isa_model.specs.declared.atomics.AmOp.TheVariants.{AddD, SwapD, XorD, OrD, AndD, MinD, MaxD, MinuD, MaxuD}
use Rattle.isa_model.specs.declared.stops.Lack.{Lack}
use Rattle.isa_model.specs.declared.stops.Stop.{Stop}
use Rattle.isa_model.specs.declared.stops.Stop.TheVariants.{On, Misaligned, Fault}
use Rattle.isa_model.specs.Atomics.{AmIns, am_size, am_result, old_value}
use Rattle.isa_model.specs.Memory.{Memory, IsSize, first_lack, lacks, loaded, number_at, put_number, read_unless, stored, stored_unless}
use Rattle.isa_model.specs.Registers.{reg}
use Rattle.isa_model.specs.Instr.{outcome, gives, do_atomic, do_atomic_at}
use Rattle.rv64i_user.specs.Stopping.{is_on, load_case, store_outcome}
use Rattle.rv64i_user.proofs.Bytewise.{first-lacks, none-lacks}

pub is-size : (op : AmOp) → IsSize (am_size op)
is-size AddD = inr (inr (inr refl))
is-size SwapD = inr (inr (inr refl))
is-size XorD = inr (inr (inr refl))
is-size OrD = inr (inr (inr refl))
is-size AndD = inr (inr (inr refl))
is-size MinD = inr (inr (inr refl))
is-size MaxD = inr (inr (inr refl))
is-size MinuD = inr (inr (inr refl))
is-size MaxuD = inr (inr (inr refl))
is-size op = inr (inr (inl refl))

-- an aligned number lies in one page
one-page : (a n : ℕ) → IsSize n → a % n ≡ 0 → a < 2 ^ 64 → (a + n - 1) % 2 ^ 64 / 4096 ≡ a / 4096
one-page a n (inl e) h s = let z : a % 1 ≡ 0 = subst (λ k. a % k ≡ 0) e h in omega arith
one-page a n (inr (inl e)) h s = let z : a % 2 ≡ 0 = subst (λ k. a % k ≡ 0) e h in omega arith
one-page a n (inr (inr (inl e))) h s = let z : a % 4 ≡ 0 = subst (λ k. a % k ≡ 0) e h in omega arith
one-page a n (inr (inr (inr e))) h s = let z : a % 8 ≡ 0 = subst (λ k. a % k ≡ 0) e h in omega arith

-- what an access of one page lacks
lack_here : Bool → Access → ℕ → Option Lack
lack_here true acc a = Some (record { page = a / 4096; access = acc })
lack_here false acc a = None

single : (m : Memory) (acc : Access) (a n : ℕ) → IsSize n → a % n ≡ 0 → a < 2 ^ 64 → (b : Bool) → lacks m acc (a / 4096) ≡ b → first_lack m acc a n ≡ lack_here b acc a
unfolding lack_here
single m acc a n s h k true e = first-lacks m acc a n e
single m acc a n s h k false e = none-lacks m acc a n e (subst (λ p. lacks m acc p ≡ false) (sym (one-page a n s h k)) e)

-- an access of one page that has the right
pub aligned-has : (m : Memory) (acc : Access) (a n : ℕ) → IsSize n → a % n ≡ 0 → a < 2 ^ 64 → lacks m acc (a / 4096) ≡ false → first_lack m acc a n ≡ None
unfolding lack_here
aligned-has m acc a n s h k e = single m acc a n s h k false e

-- ---- what a load tells

record Loads (m : Memory) (a n old : ℕ) (s : Stop) : Type 0 where
  may : lacks m access.Read (a / 4096) ≡ false
  value : old ≡ number_at m a n

some-none : (v : ℕ) (s t : Stop) → ◌≡◌ {A = Option ℕ × Stop} (Some v, s) (None, t) → ⊥
some-none v s t e = let f : ◌≡◌ {A = Option ℕ} (Some v) None = ap (λ x. x.0) e in absurd cc

load-made : (m : Memory) (a n old : ℕ) (s : Stop) → IsSize n → a % n ≡ 0 → a < 2 ^ 64 → (Some old, s) ≡ load_case (loaded m a n) → (b : Bool) → lacks m access.Read (a / 4096) ≡ b → Loads m a n old s
unfolding lack_here
load-made m a n old s z h k e true f =
    let l = single m access.Read a n z h k true f in
    absurd (some-none old s _ (e ∙ ap (λ o. load_case (read_unless o (number_at m a n))) l))
load-made m a n old s z h k e false f =
    let l = single m access.Read a n z h k false f in
    let both = e ∙ ap (λ o. load_case (read_unless o (number_at m a n))) l in
    record { may = f; value = same_Some _ _ (ap (λ x. x.0) both) }

load-lacks : (m : Memory) (a n : ℕ) (s : Stop) → IsSize n → a % n ≡ 0 → a < 2 ^ 64 → (None, s) ≡ load_case (loaded m a n) → (b : Bool) → lacks m access.Read (a / 4096) ≡ b → lacks m access.Read (a / 4096) ≡ true
unfolding lack_here
load-lacks m a n s z h k e true f = f
load-lacks m a n s z h k e false f =
    let l = single m access.Read a n z h k false f in
    absurd (some-none (number_at m a n) On s (sym (e ∙ ap (λ o. load_case (read_unless o (number_at m a n))) l)))

-- ---- what a store tells

record Stores (m w : Memory) (a n v : ℕ) (s : Stop) : Type 0 where
  may : lacks m access.Write (a / 4096) ≡ false
  memory : w ≡ put_number m a n v
  stop : s ≡ On

record Refuses (m w : Memory) (a : ℕ) (s : Stop) : Type 0 where
  lack : lacks m access.Write (a / 4096) ≡ true
  memory : w ≡ m
  stop : s ≡ Fault (record { page = a / 4096; access = access.Write })

store-made : (m w : Memory) (a n v : ℕ) (s : Stop) → IsSize n → a % n ≡ 0 → a < 2 ^ 64 → (s, w) ≡ store_outcome (stored m a n v) → is_on s ≡ true
    → (b : Bool) → lacks m access.Write (a / 4096) ≡ b → Stores m w a n v s
unfolding lack_here
store-made m w a n v s z h k e on true f =
    let l = single m access.Write a n z h k true f in
    let both = e ∙ ap (λ o. store_outcome (stored_unless o m (put_number m a n v))) l in
    absurd (false≢true (sym (ap (λ x. is_on x.0) both) ∙ on))
store-made m w a n v s z h k e on false f =
    let l = single m access.Write a n z h k false f in
    let both = e ∙ ap (λ o. store_outcome (stored_unless o m (put_number m a n v))) l in
    record { may = f; memory = ap (λ x. x.1) both; stop = ap (λ x. x.0) both }

store-refused : (m w : Memory) (a n v : ℕ) (s : Stop) → IsSize n → a % n ≡ 0 → a < 2 ^ 64 → (s, w) ≡ store_outcome (stored m a n v) → is_on s ≡ false
    → (b : Bool) → lacks m access.Write (a / 4096) ≡ b → Refuses m w a s
unfolding lack_here
store-refused m w a n v s z h k e off true f =
    let l = single m access.Write a n z h k true f in
    let both = e ∙ ap (λ o. store_outcome (stored_unless o m (put_number m a n v))) l in
    record { lack = f; memory = ap (λ x. x.1) both; stop = ap (λ x. x.0) both }
store-refused m w a n v s z h k e off false f =
    let l = single m access.Write a n z h k false f in
    let both = e ∙ ap (λ o. store_outcome (stored_unless o m (put_number m a n v))) l in
    absurd (false≢true (sym off ∙ ap (λ x. is_on x.0) both))

-- ---- the whole

-- the address of an atomic operation
abbrev pub address : AmIns → Regs → ℕ
address i r = reg r i.rs1 % 2 ^ 64

pub address-small : (i : AmIns) (r : Regs) → address i r < 2 ^ 64
address-small i r = omega arith

chosen : (i : AmIns) (r : Regs) (m : Memory) (t b c : Bool) → (address i r % am_size i.op == 0) ≡ t → lacks m access.Read (address i r / 4096) ≡ b → lacks m access.Write (address i r / 4096) ≡ c
    → do_atomic i r m ≡ (if t then (if b || c then outcome r m (Fault (record { page = address i r / 4096; access = access.Write })) else do_atomic_at i (address i r) r m) else outcome r m Misaligned)
chosen i r m t b c e f g =
    let p = address i r / 4096 in
    ap (λ x. if x then (if lacks m access.Read p || lacks m access.Write p then outcome r m (Fault (record { page = p; access = access.Write })) else do_atomic_at i (address i r) r m) else outcome r m Misaligned) e
    ∙ ap (λ x. if t then (if x || lacks m access.Write p then outcome r m (Fault (record { page = p; access = access.Write })) else do_atomic_at i (address i r) r m) else outcome r m Misaligned) f
    ∙ ap (λ x. if t then (if b || x then outcome r m (Fault (record { page = p; access = access.Write })) else do_atomic_at i (address i r) r m) else outcome r m Misaligned) g

aligned : (a n : ℕ) → a % n ≡ 0 → (a % n == 0) ≡ true
aligned a n h = grind (arith, nat_tests, h)

-- both were made
pub updated : (i : AmIns) (r q : Regs) (m w : Memory) (old v : ℕ) (s t : Stop) → address i r % am_size i.op ≡ 0
    → (Some old, s) ≡ load_case (loaded m (address i r) (am_size i.op)) → v ≡ am_result i.op old (reg r i.rs2)
    → (t, w) ≡ store_outcome (stored m (address i r) (am_size i.op) v) → is_on t ≡ true → q ≡ gives r i.rd (old_value i.op old) → outcome q w t ≡ do_atomic i r m
updated i r q m w old v s t h load value store on regs =
    let a = address i r in
    let n = am_size i.op in
    let x = load-made m a n old s (is-size i.op) h (address-small i r) load (lacks m access.Read (a / 4096)) refl in
    let y = store-made m w a n v t (is-size i.op) h (address-small i r) store on (lacks m access.Write (a / 4096)) refl in
    let v-is : v ≡ am_result i.op (number_at m a n) (reg r i.rs2) = value ∙ ap (λ z. am_result i.op z (reg r i.rs2)) x.value in
    let q-is : q ≡ gives r i.rd (old_value i.op (number_at m a n)) = regs ∙ ap (λ z. gives r i.rd (old_value i.op z)) x.value in
    ap (outcome q w) y.stop ∙ ap (λ z. outcome q z On) (y.memory ∙ ap (put_number m a n) v-is)
    ∙ ap (λ z. outcome z (put_number m a n (am_result i.op (number_at m a n) (reg r i.rs2))) On) q-is
    ∙ sym (chosen i r m true false false (aligned a n h) x.may y.may)

-- the page may not be written
pub not-written : (i : AmIns) (r : Regs) (m w : Memory) (v : ℕ) (t : Stop) → address i r % am_size i.op ≡ 0
    → (t, w) ≡ store_outcome (stored m (address i r) (am_size i.op) v) → is_on t ≡ false → outcome r w t ≡ do_atomic i r m
not-written i r m w v t h store off =
    let a = address i r in
    let y = store-refused m w a (am_size i.op) v t (is-size i.op) h (address-small i r) store off (lacks m access.Write (a / 4096)) refl in
    ap (outcome r w) y.stop ∙ ap (λ z. outcome r z (Fault (record { page = a / 4096; access = access.Write }))) y.memory
    ∙ sym (chosen i r m true (lacks m access.Read (a / 4096)) true (aligned a (am_size i.op) h) refl y.lack ∙ either (lacks m access.Read (a / 4096)))
  where
    either : (b : Bool) → (if b || true then outcome r m (Fault (record { page = address i r / 4096; access = access.Write })) else do_atomic_at i (address i r) r m)
        ≡ outcome r m (Fault (record { page = address i r / 4096; access = access.Write }))
    either true = refl
    either false = refl

-- the page may not be read
pub not-read : (i : AmIns) (r : Regs) (m : Memory) (s : Stop) → address i r % am_size i.op ≡ 0
    → (None, s) ≡ load_case (loaded m (address i r) (am_size i.op)) → outcome r m (Fault (record { page = address i r / 4096; access = access.Write })) ≡ do_atomic i r m
not-read i r m s h load =
    let a = address i r in
    let y = load-lacks m a (am_size i.op) s (is-size i.op) h (address-small i r) load (lacks m access.Read (a / 4096)) refl in
    sym (chosen i r m true true (lacks m access.Write (a / 4096)) (aligned a (am_size i.op) h) y refl)

-- the page may be read, and was written if its stop says so
ended-by : (b : Bool) (i : AmIns) (r q : Regs) (m w : Memory) (old v : ℕ) (s t : Stop) → is_on t ≡ b → address i r % am_size i.op ≡ 0
    → (Some old, s) ≡ load_case (loaded m (address i r) (am_size i.op)) → v ≡ am_result i.op old (reg r i.rs2)
    → (t, w) ≡ store_outcome (stored m (address i r) (am_size i.op) v) → q ≡ (if b then gives r i.rd (old_value i.op old) else r) → outcome q w t ≡ do_atomic i r m
ended-by true i r q m w old v s t on h load value store regs = updated i r q m w old v s t h load value store on regs
ended-by false i r q m w old v s t off h load value store regs = ap (λ x. outcome x w t) regs ∙ not-written i r m w v t h store off

pub ended : (i : AmIns) (r q : Regs) (m w : Memory) (old v : ℕ) (s t : Stop) → address i r % am_size i.op ≡ 0
    → (Some old, s) ≡ load_case (loaded m (address i r) (am_size i.op)) → v ≡ am_result i.op old (reg r i.rs2)
    → (t, w) ≡ store_outcome (stored m (address i r) (am_size i.op) v) → q ≡ (if is_on t then gives r i.rd (old_value i.op old) else r) → outcome q w t ≡ do_atomic i r m
ended i r q m w old v s t h load value store regs = ended-by (is_on t) i r q m w old v s t refl h load value store regs
