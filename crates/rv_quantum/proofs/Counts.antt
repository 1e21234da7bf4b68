-- How many instructions are executed: parts of them, and the same ones on more pages.
use Rattle.isa_model.specs.Instr.{Outcome, instr, outcome}
use Rattle.isa_model.specs.Memory.{Memory, page_at}
use Rattle.isa_model.specs.declared.stops.Lack.{Lack}
use Rattle.isa_model.specs.declared.stops.Stop.{Stop}
use Rattle.isa_model.specs.declared.stops.Stop.TheVariants.{Fault, On}
use Rattle.mck_word.specs.declared.Regs.{Regs}
use Rattle.rv64i_user.proofs.SameOutcome.{instr-same}
use Rattle.rv64i_user.proofs.SameRuns.{instr-small}
use Rattle.rv64i_user.proofs.StopLaws.{instr-leaves}
use Rattle.rv64i_user.specs.Runs.{count_on, instrs, then_count, then_on}
use Rattle.rv64i_user.specs.Seen.{Extends}
use Rattle.rv_quantum.specs.Promised.{stopped_one}
use Rattle.std.proofs.Common.{ap, arith, refl, sym, ◌∙◌}
use Rattle.std.specs.Prelude.{suc, zero, ℕ, ◌+◌, ◌<◌, ◌≤◌, ◌^◌, ◌≡◌, ◌≢◌}

-- ---- instructions after others that went on

add-step : (a b : ℕ) (s : Stop) (e : Outcome) → e.stop ≡ s
    → ((instrs a e.regs e.memory).stop ≡ On → instrs (a + b) e.regs e.memory ≡ instrs b (instrs a e.regs e.memory).regs (instrs a e.regs e.memory).memory)
    → (then_on s (instrs a) e).stop ≡ On → then_on s (instrs (a + b)) e ≡ instrs b (then_on s (instrs a) e).regs (then_on s (instrs a) e).memory
add-step a b On e q ih h = ih h
add-step a b s e q ih h = absurd (cc)

pub runs-add : (a b : ℕ) (r : Regs) (m : Memory) → (instrs a r m).stop ≡ On → instrs (a + b) r m ≡ instrs b (instrs a r m).regs (instrs a r m).memory
unfolding instrs
runs-add zero b r m h = let e : 0 + b ≡ b = omega arith in ap (λ n. instrs n r m) e
runs-add (suc a) b r m h =
    let e : suc a + b ≡ suc (a + b) = omega arith in
    let o = instr r m in
    ap (λ n. instrs n r m) e ∙ add-step a b o.stop o refl (runs-add a b o.regs o.memory) h

count-add-step : (a b : ℕ) (s : Stop) (e : Outcome) → e.stop ≡ s
    → ((instrs a e.regs e.memory).stop ≡ On → count_on (a + b) e.regs e.memory ≡ a + count_on b (instrs a e.regs e.memory).regs (instrs a e.regs e.memory).memory)
    → (then_on s (instrs a) e).stop ≡ On → then_count s (count_on (a + b)) e ≡ suc a + count_on b (then_on s (instrs a) e).regs (then_on s (instrs a) e).memory
count-add-step a b On e q ih h = let i = ih h in omega (arith, i)
count-add-step a b s e q ih h = absurd (cc)

pub counts-add : (a b : ℕ) (r : Regs) (m : Memory) → (instrs a r m).stop ≡ On → count_on (a + b) r m ≡ a + count_on b (instrs a r m).regs (instrs a r m).memory
unfolding instrs count_on
counts-add zero b r m h = let e : 0 + b ≡ b = omega arith in let f : count_on b r m ≡ 0 + count_on b r m = omega arith in ap (λ n. count_on n r m) e ∙ f
counts-add (suc a) b r m h =
    let e : suc a + b ≡ suc (a + b) = omega arith in
    let o = instr r m in
    ap (λ n. count_on n r m) e ∙ count-add-step a b o.stop o refl (counts-add a b o.regs o.memory) h

-- ---- just those that went on

front-step : (n : ℕ) (s : Stop) (r : Regs) (m : Memory) → (instr r m).stop ≡ s
    → instrs (count_on n (instr r m).regs (instr r m).memory) (instr r m).regs (instr r m).memory
    ≡ outcome (instrs n (instr r m).regs (instr r m).memory).regs (instrs n (instr r m).regs (instr r m).memory).memory On
    → instrs (then_count s (count_on n) (instr r m)) r m ≡ outcome (then_on s (instrs n) (instr r m)).regs (then_on s (instrs n) (instr r m)).memory On
unfolding instrs
front-step n On r m q ih = ap (λ s. then_on s (instrs (count_on n (instr r m).regs (instr r m).memory)) (instr r m)) q ∙ ih
front-step n s r m q ih =
    let same = instr-leaves r m (λ e. absurd (cc)) in
    ap (λ x. outcome x m On) (sym same.0) ∙ ap (λ x. outcome (instr r m).regs x On) (sym same.1)

pub front : (n : ℕ) (r : Regs) (m : Memory) → instrs (count_on n r m) r m ≡ outcome (instrs n r m).regs (instrs n r m).memory On
unfolding instrs count_on
front zero r m = refl
front (suc n) r m = let o = instr r m in front-step n o.stop r m refl (front n o.regs o.memory)

all-step : (n : ℕ) (s : Stop) (e : Outcome) → e.stop ≡ s → ((instrs n e.regs e.memory).stop ≡ On → count_on n e.regs e.memory ≡ n)
    → (then_on s (instrs n) e).stop ≡ On → then_count s (count_on n) e ≡ suc n
all-step n On e q ih h = ap suc (ih h)
all-step n s e q ih h = absurd (cc)

pub all-on : (n : ℕ) (r : Regs) (m : Memory) → (instrs n r m).stop ≡ On → count_on n r m ≡ n
unfolding instrs count_on
all-on zero r m h = refl
all-on (suc n) r m h = let o = instr r m in all-step n o.stop o refl (all-on n o.regs o.memory) h

-- ---- just those that were executed

abbrev pub executed : ℕ → Regs → Memory → ℕ
executed n r m = count_on n r m + stopped_one (instrs n r m).stop

abbrev Exact : ℕ → Regs → Memory → Type 0
Exact n r m = (instrs (executed n r m) r m ≡ instrs n r m) × (count_on (executed n r m) r m ≡ count_on n r m)

one-executed : (s : Stop) (r : Regs) (m : Memory) → (instr r m).stop ≡ s → s ≢ On → (instrs (0 + stopped_one (instr r m).stop) r m ≡ instr r m) × (count_on (0 + stopped_one (instr r m).stop) r m ≡ 0)
unfolding instrs count_on
one-executed On r m q n = absurd (n refl)
one-executed s r m q n =
    let one : 0 + stopped_one (instr r m).stop ≡ suc zero = ap (λ (x : Stop). 0 + stopped_one x) q in (
      ap (λ k. instrs k r m) one ∙ ap (λ x. then_on x (instrs zero) (instr r m)) q,
      ap (λ k. count_on k r m) one ∙ ap (λ x. then_count x (count_on zero) (instr r m)) q,
    )

exact-step : (n : ℕ) (s : Stop) (r : Regs) (m : Memory) → (instr r m).stop ≡ s → Exact n (instr r m).regs (instr r m).memory
    → (instrs (then_count s (count_on n) (instr r m) + stopped_one (then_on s (instrs n) (instr r m)).stop) r m ≡ then_on s (instrs n) (instr r m))
    × (count_on (then_count s (count_on n) (instr r m) + stopped_one (then_on s (instrs n) (instr r m)).stop) r m ≡ then_count s (count_on n) (instr r m))
unfolding instrs count_on
exact-step n On r m q ih =
    let o = instr r m in
    let k = executed n o.regs o.memory in
    let e : suc (count_on n o.regs o.memory) + stopped_one (instrs n o.regs o.memory).stop ≡ suc k = omega arith in (
      ap (λ x. instrs x r m) e ∙ ap (λ x. then_on x (instrs k) o) q ∙ ih.0,
      ap (λ x. count_on x r m) e ∙ ap (λ x. then_count x (count_on k) o) q ∙ ap suc ih.1,
    )
exact-step n s r m q ih = one-executed s r m q (λ e. absurd (cc))

pub exact : (n : ℕ) (r : Regs) (m : Memory) → Exact n r m
unfolding instrs count_on
exact zero r m = (refl, refl)
exact (suc n) r m = let o = instr r m in exact-step n o.stop r m refl (exact n o.regs o.memory)

most-step : (n : ℕ) (s : Stop) (e : Outcome) → e.stop ≡ s → executed n e.regs e.memory ≤ n → then_count s (count_on n) e + stopped_one (then_on s (instrs n) e).stop ≤ suc n
most-step n On e q ih = omega (arith, ih)
most-step n s e q ih = let one : stopped_one e.stop ≡ 1 = ap stopped_one q in omega (arith, one)

pub at-most : (n : ℕ) (r : Regs) (m : Memory) → executed n r m ≤ n
unfolding instrs count_on
at-most zero r m = omega arith
at-most (suc n) r m = let o = instr r m in most-step n o.stop o refl (at-most n o.regs o.memory)

-- ---- the same on more pages

abbrev Known : Memory → Memory → Stop → Type 0
Known m w s = (l : Lack) → s ≡ Fault l → page_at w l.page ≡ page_at m l.page

same-step : (n : ℕ) → ((r : Regs) (m w : Memory) → r.pc < 2 ^ 64 → Extends m w → Known m w (instrs n r m).stop → count_on n r w ≡ count_on n r m)
    → (s : Stop) (r : Regs) (m w : Memory) → r.pc < 2 ^ 64 → Extends m w → (instr r m).stop ≡ s → Known m w (then_on s (instrs n) (instr r m)).stop
    → then_count (instr r w).stop (count_on n) (instr r w) ≡ then_count s (count_on n) (instr r m)
same-step n later On r m w h e q known =
    let d = instr-same r m w h e (λ l f. absurd (cc)) in
    let k = later (instr r m).regs (instr r m).memory (instr r w).memory (instr-small r m h) d.pages (λ l f. d.kept l.page (known l f)) in
    ap (λ s. then_count s (count_on n) (instr r w)) (d.stop ∙ q) ∙ ap (λ x. suc (count_on n x (instr r w).memory)) d.regs ∙ ap suc k
same-step n later s r m w h e q known =
    let d = instr-same r m w h e known in
    ap (λ x. then_count x (count_on n) (instr r w)) (d.stop ∙ q)

pub counts-same : (n : ℕ) (r : Regs) (m w : Memory) → r.pc < 2 ^ 64 → Extends m w → Known m w (instrs n r m).stop → count_on n r w ≡ count_on n r m
unfolding instrs count_on
counts-same zero r m w h e known = refl
counts-same (suc n) r m w h e known = same-step n (counts-same n) (instr r m).stop r m w h e refl known

-- ---- each part of those that went on goes on

part-step : (k n : ℕ) (s : Stop) (e : Outcome) → (k ≤ count_on n e.regs e.memory → (instrs k e.regs e.memory).stop ≡ On) → suc k ≤ then_count s (count_on n) e → (then_on s (instrs k) e).stop ≡ On
part-step k n On e ih h = ih (omega (arith, h))
part-step k n s e ih h = absurd (omega (arith, h))

pub part-on : (k n : ℕ) (r : Regs) (m : Memory) → k ≤ count_on n r m → (instrs k r m).stop ≡ On
unfolding instrs count_on
part-on zero n r m h = refl
part-on (suc k) zero r m h = absurd (omega (arith, h))
part-on (suc k) (suc n) r m h = let o = instr r m in part-step k n o.stop o (part-on k n o.regs o.memory) h

pub one-at-most : (s : Stop) → stopped_one s ≤ 1
one-at-most On = omega arith
one-at-most s = omega arith
