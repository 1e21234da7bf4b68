-- The step after an act.
use Rattle.file_calls.specs.FileSteps.{IsNumber}
use Rattle.file_model.specs.Files.{Files}
use Rattle.file_model.specs.Operations.{FileResult}
use Rattle.file_model.specs.declared.operations.FileAns.TheVariants as answer
use Rattle.kernel_model.specs.CallPhases.{act_of}
use Rattle.kernel_model.specs.Progress.{After, Progress, acted, settle, with_scatter}
use Rattle.mck_word.specs.Lists.{tail}
use Rattle.std.proofs.Common.{◌≡◌, ℕ, true, false, cond, List, sym, ap, ◌∙◌, arith}
use Rattle.std.proofs.lemmas.Int.{ints}
use Rattle.std.specs.Prelude.{◌||◌, ◌≤ℤ◌, ◌<ℤ◌, ◌^◌, Some, ℤ, pos, negsuc}
use Rattle.system_calls.specs.FileCalls.{is_read, is_write}
use Rattle.system_calls.specs.declared.file_calls.FileCall.{FileCall}
use Rattle.system_calls.specs.declared.file_calls.FileCall.TheVariants.{Pread64, Pwrite64, Read, Readv, Write, Writev}

-- the act of a reading or writing call answers the number of a description
pub small-found : (call : FileCall) (arguments : List ℕ) (value : ℤ) → (is_read call || is_write call) ≡ true → IsNumber (act_of call arguments) (answer.Done value) → value <ℤ pos (2 ^ 32)
small-found Read arguments value e h = h
small-found Write arguments value e h = h
small-found Readv arguments value e h = h
small-found Writev arguments value e h = h
small-found Pread64 arguments value e h = h
small-found Pwrite64 arguments value e h = h
small-found _ arguments value e h = cc

by_answer : Progress → FileResult → ℤ → After
by_answer p r (negsuc n) = record { progress = p; ended = Some (negsuc n); files = r.files }
by_answer p r (pos n) = cond (is_read p.call || is_write p.call)
    (settle (record p { found = Some n; phases = tail p.phases }) r.files)
    (settle (record p { answer = pos n; buffer = r.out; phases = with_scatter r.out (tail p.phases) }) r.files)

-- it goes on with what the act answered and gave out
pub acted-value : (p q : Progress) (r : FileResult) (value : ℤ) (out : List ℕ) (files : Files) → pos 0 ≤ℤ value → value ≡ r.answer → (is_read p.call || is_write p.call) ≡ false
    → q ≡ p → out ≡ r.out → files ≡ r.files
    → settle (record q { answer = value; buffer = out; phases = with_scatter out (tail q.phases) }) files ≡ acted p r
unfolding by_answer
acted-value p q r (negsuc n) out files low e s k o f = absurd (omega (arith, ints, low))
acted-value p q r (pos n) out files low e s k o f =
    (λ i. settle (record (k i) { answer = pos n; buffer = o i; phases = with_scatter (o i) (tail (k i).phases) }) (f i))
    ∙ ap (λ b. cond b (settle (record p { found = Some n; phases = tail p.phases }) r.files) (settle (record p { answer = pos n; buffer = r.out; phases = with_scatter r.out (tail p.phases) }) r.files)) (sym s)
    ∙ ap (by_answer p r) e
