-- Parts of several instructions, one after another.
use Rattle.std.proofs.Common.{◌≡◌, ℕ, suc, ◌+◌, ◌-◌, Bool, true, false, cond, if◌then◌else◌, sym, ap, ◌∙◌, refl, subst, arith}
use Rattle.mck_word.specs.declared.Regs.{Regs}
use Rattle.isa_model.specs.declared.stops.Stop.{Stop}
use Rattle.isa_model.specs.declared.stops.Stop.TheVariants.{On, Ecall, Break, Illegal, Misaligned, Fault}
use Rattle.isa_model.specs.Memory.{Memory}
use Rattle.isa_model.specs.Instr.{outcome, instr}
use Rattle.rv64i_user.specs.Stopping.{is_on}
use Rattle.rv64i_user.specs.Runs.{instrs, count_on, rest_of, rest_count, Leads}
use Rattle.rv64i_user.proofs.RunSteps.{on-is, goes-on, counts-on, stops-there, counts-none, no-more, count-no-more}

-- none of them yet
pub leads-none : (n : ℕ) (r : Regs) (m : Memory) (s : Stop) → s ≡ On → Leads n r m n r m s
leads-none n r m s e = record {
  few = omega arith;
  did = ap (λ x. rest_of x n r m) (sym e);
  count = ap (λ x. count_on n r m + n) e ∙ (let same : count_on n r m + n ≡ n + count_on n r m = omega arith in same) ∙ ap (λ x. n + rest_count x n r m) (sym e);
}

rest-stopped : (s : Stop) (k : ℕ) (q : Regs) (w : Memory) → is_on s ≡ false → rest_of s k q w ≡ outcome q w s
rest-stopped On k q w h = absurd cc
rest-stopped Ecall k q w h = refl
rest-stopped Break k q w h = refl
rest-stopped Illegal k q w h = refl
rest-stopped Misaligned k q w h = refl
rest-stopped (Fault l) k q w h = refl

count-stopped : (s : Stop) (k : ℕ) (q : Regs) (w : Memory) → is_on s ≡ false → rest_count s k q w ≡ 0
count-stopped On k q w h = absurd cc
count-stopped Ecall k q w h = refl
count-stopped Break k q w h = refl
count-stopped Illegal k q w h = refl
count-stopped Misaligned k q w h = refl
count-stopped (Fault l) k q w h = refl

-- an instruction that went on
pub leads-on : (n k : ℕ) (r q : Regs) (m w : Memory) (s : Stop) → n ≡ suc k → outcome q w s ≡ instr r m → is_on s ≡ true → Leads n r m k q w s
leads-on n k r q m w s e i h =
    let on = on-is s h in
    let more = counts-on n k r q m w s e i h in
    record {
      few = omega arith;
      did = goes-on n k r q m w s e i h ∙ ap (λ x. rest_of x k q w) (sym on);
      count = (let same : count_on n r m + k ≡ n + count_on k q w = omega arith in same) ∙ ap (λ x. n + rest_count x k q w) (sym on);
    }

-- an instruction that stopped
pub leads-off : (n k : ℕ) (r q : Regs) (m w : Memory) (s : Stop) → n ≡ suc k → outcome q w s ≡ instr r m → is_on s ≡ false → Leads n r m n q w s
leads-off n k r q m w s e i h =
    let none = counts-none n k r q m w s e i h in
    let left = count-stopped s n q w h in
    record {
      few = omega arith;
      did = stops-there n k r q m w s e i h ∙ sym (rest-stopped s n q w h);
      count = omega arith;
    }

-- one part after another
pub leads-then : (n k j : ℕ) (r q p : Regs) (m w v : Memory) (s t : Stop) → s ≡ On → Leads n r m k q w s → Leads k q w j p v t → Leads n r m j p v t
leads-then n k j r q p m w v s t on a b =
    let left : rest_count s k q w ≡ count_on k q w = ap (λ x. rest_count x k q w) on in
    let few-a = a.few in
    let few-b = b.few in
    let count-a = a.count in
    let count-b = b.count in
    record {
      few = omega arith;
      did = a.did ∙ ap (λ x. rest_of x k q w) on ∙ b.did;
      count = omega arith;
    }

-- all of them were done, or one stopped
pub leads-all : (n k : ℕ) (r q : Regs) (m w : Memory) (s : Stop) → Leads n r m k q w s → k ≡ 0 → s ≡ On → instrs n r m ≡ outcome q w s
leads-all n k r q m w s l e on = l.did ∙ ap (λ x. rest_of x k q w) on ∙ no-more k q w e ∙ ap (λ x. outcome q w x) (sym on)

pub counts-all : (n k : ℕ) (r q : Regs) (m w : Memory) (s : Stop) → Leads n r m k q w s → k ≡ 0 → s ≡ On → count_on n r m ≡ n - k
counts-all n k r q m w s l e on =
    let c = l.count in
    let left : rest_count s k q w ≡ 0 = ap (λ x. rest_count x k q w) on ∙ count-no-more k q w e in
    omega arith

pub leads-stopped : (n k : ℕ) (r q : Regs) (m w : Memory) (s : Stop) → Leads n r m k q w s → is_on s ≡ false → instrs n r m ≡ outcome q w s
leads-stopped n k r q m w s l off = l.did ∙ rest-stopped s k q w off

pub counts-stopped : (n k : ℕ) (r q : Regs) (m w : Memory) (s : Stop) → Leads n r m k q w s → is_on s ≡ false → count_on n r m ≡ n - k
counts-stopped n k r q m w s l off =
    let c = l.count in
    let few = l.few in
    let left = count-stopped s k q w off in
    omega arith

-- a part, and one instruction more
pub step-on : (n k j : ℕ) (r q p : Regs) (m w v : Memory) (s t : Stop) → s ≡ On → Leads n r m k q w s → k ≡ suc j → outcome p v t ≡ instr q w → t ≡ On → Leads n r m j p v t
step-on n k j r q p m w v s t on a e i h =
    let went : is_on t ≡ true = ap is_on h in
    leads-then n k j r q p m w v s t on a (leads-on k j q p w v t e i went)

by-stop : (b : Bool) (n k j g l : ℕ) (r q p : Regs) (m w v : Memory) (s t : Stop) → s ≡ On → Leads n r m k q w s → k ≡ suc j → outcome p v t ≡ instr q w → is_on t ≡ b → g ≡ cond b 1 0 → l ≡ k - g → Leads n r m l p v t
by-stop true n k j g l r q p m w v s t on a e i h f d =
    let same : j ≡ l = omega arith in
    subst (λ x. Leads n r m x p v t) same (leads-then n k j r q p m w v s t on a (leads-on k j q p w v t e i h))
by-stop false n k j g l r q p m w v s t on a e i h f d =
    let same : k ≡ l = omega arith in
    subst (λ x. Leads n r m x p v t) same (leads-then n k k r q p m w v s t on a (leads-off k j q p w v t e i h))

pub step-any : (n k j g l : ℕ) (r q p : Regs) (m w v : Memory) (s t : Stop) → s ≡ On → Leads n r m k q w s → k ≡ suc j → outcome p v t ≡ instr q w → g ≡ (if is_on t then 1 else 0) → l ≡ k - g → Leads n r m l p v t
step-any n k j g l r q p m w v s t on a e i f d = by-stop (is_on t) n k j g l r q p m w v s t on a e i refl f d
