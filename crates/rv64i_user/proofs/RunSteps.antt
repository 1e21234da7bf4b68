-- Several instructions, one at a time.
use Rattle.std.proofs.Common.{◌≡◌, ℕ, suc, true, false, sym, ap, ◌∙◌, refl}
use Rattle.std.proofs.lemmas.Bool.{false≢true}
use Rattle.mck_word.specs.declared.Regs.{Regs}
use Rattle.isa_model.specs.declared.stops.Stop.{Stop}
use Rattle.isa_model.specs.declared.stops.Stop.TheVariants.{On, Ecall, Break, Illegal, Misaligned, Fault}
use Rattle.isa_model.specs.Memory.{Memory}
use Rattle.isa_model.specs.Instr.{Outcome, outcome, instr}
use Rattle.rv64i_user.specs.Stopping.{is_on}
use Rattle.rv64i_user.specs.Runs.{then_on, then_count, instrs, count_on}

pub on-is : (s : Stop) → is_on s ≡ true → s ≡ On
on-is On h = refl
on-is Ecall h = absurd (false≢true h)
on-is Break h = absurd (false≢true h)
on-is Illegal h = absurd (false≢true h)
on-is Misaligned h = absurd (false≢true h)
on-is (Fault l) h = absurd (false≢true h)

then-stops : (s : Stop) (f : Regs → Memory → Outcome) (o : Outcome) → is_on s ≡ false → then_on s f o ≡ o
then-stops On f o h = absurd (false≢true (sym h))
then-stops s f o h = refl

count-stops : (s : Stop) (f : Regs → Memory → ℕ) (o : Outcome) → is_on s ≡ false → then_count s f o ≡ 0
count-stops On f o h = absurd (false≢true (sym h))
count-stops s f o h = refl

-- an instruction that went on, of k still to do
pub goes-on : (k n : ℕ) (r q : Regs) (m w : Memory) (s : Stop) → k ≡ suc n → outcome q w s ≡ instr r m → is_on s ≡ true → instrs k r m ≡ instrs n q w
unfolding instrs
goes-on k n r q m w s e i h =
    let on : (instr r m).stop ≡ On = ap (λ (o : Outcome). o.stop) (sym i) ∙ on-is s h in
    ap (λ x. instrs x r m) e ∙ ap (λ x. then_on x (instrs n) (instr r m)) on ∙ ap (λ (o : Outcome). instrs n o.regs o.memory) (sym i)

pub counts-on : (k n : ℕ) (r q : Regs) (m w : Memory) (s : Stop) → k ≡ suc n → outcome q w s ≡ instr r m → is_on s ≡ true → count_on k r m ≡ suc (count_on n q w)
unfolding count_on
counts-on k n r q m w s e i h =
    let on : (instr r m).stop ≡ On = ap (λ (o : Outcome). o.stop) (sym i) ∙ on-is s h in
    ap (λ x. count_on x r m) e ∙ ap (λ x. then_count x (count_on n) (instr r m)) on ∙ ap (λ (o : Outcome). suc (count_on n o.regs o.memory)) (sym i)

-- one that stopped
pub stops-there : (k n : ℕ) (r q : Regs) (m w : Memory) (s : Stop) → k ≡ suc n → outcome q w s ≡ instr r m → is_on s ≡ false → instrs k r m ≡ outcome q w s
unfolding instrs
stops-there k n r q m w s e i h =
    let not-on : is_on (instr r m).stop ≡ false = ap (λ (o : Outcome). is_on o.stop) (sym i) ∙ h in
    ap (λ x. instrs x r m) e ∙ then-stops (instr r m).stop (instrs n) (instr r m) not-on ∙ sym i

pub counts-none : (k n : ℕ) (r q : Regs) (m w : Memory) (s : Stop) → k ≡ suc n → outcome q w s ≡ instr r m → is_on s ≡ false → count_on k r m ≡ 0
unfolding count_on
counts-none k n r q m w s e i h =
    let not-on : is_on (instr r m).stop ≡ false = ap (λ (o : Outcome). is_on o.stop) (sym i) ∙ h in
    ap (λ x. count_on x r m) e ∙ count-stops (instr r m).stop (count_on n) (instr r m) not-on

pub no-more : (k : ℕ) (r : Regs) (m : Memory) → k ≡ 0 → instrs k r m ≡ outcome r m On
unfolding instrs
no-more k r m e = ap (λ x. instrs x r m) e

pub count-no-more : (k : ℕ) (r : Regs) (m : Memory) → k ≡ 0 → count_on k r m ≡ 0
unfolding count_on
count-no-more k r m e = ap (λ x. count_on x r m) e
