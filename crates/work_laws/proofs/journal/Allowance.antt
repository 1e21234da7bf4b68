-- In a legal journal of a prepared job the work is at most the allowance; and each event lessens what is left to do where the journal leads.
use Rattle.hybrid_laws.proofs.boot.Coherent.{boot-coherent}
use Rattle.hybrid_model.specs.Boot.{boot}
use Rattle.hybrid_model.specs.Events.{may}
use Rattle.hybrid_model.specs.Journals.{IsLegal, state}
use Rattle.hybrid_model.specs.declared.events.Event.{Event}
use Rattle.job_model.specs.Prepared.{IsPrepared}
use Rattle.job_model.specs.declared.image.Image.{Image}
use Rattle.job_model.specs.declared.job.Job.{Job}
use Rattle.offer_laws.proofs.Small.{coherent-journal}
use Rattle.run_model.specs.Work.{allowance, paid, processes_after, work}
use Rattle.std.proofs.Common.{arith}
use Rattle.std.proofs.Math.Nat.{mul-add}
use Rattle.std.specs.Prelude.{List, true, ℕ, ◌*◌, ◌+◌, ◌≡◌, ◌≤◌}
use Rattle.work_laws.proofs.journal.BootLeft.{boot-left, processes-begin}
use Rattle.work_laws.proofs.journal.EachLessens.{event-lessens}
use Rattle.work_laws.proofs.journal.PaidWork.{processes-grow-all, work-paid, workers-stay-all}
use Rattle.work_laws.proofs.pages.Whole.{whole-boot, whole-journal}
use Rattle.work_laws.specs.Left.{Lessens, left_to_do, price_of_trap}

added-up : (end first work price most paid : ℕ) → end + work ≤ first + price * paid → first ≤ price * most → work ≤ price * (paid + most)
added-up end first work price most paid x y = let z = mul-add price paid most in omega (arith, x, y, z)

pub work-allowed : (job : Job) (imgs : List Image) (journal : List Event) → IsPrepared job imgs → IsLegal job imgs journal → work journal ≤ allowance (boot job imgs) journal
work-allowed job imgs journal prepared legal =
    let most = processes_after (boot job imgs) journal in
    let coherent = boot-coherent job imgs prepared legal.0 in
    let grown = processes-grow-all journal (boot job imgs) coherent legal.1 in
    let begun = processes-begin job imgs prepared legal.0 in
    let x = work-paid most journal (boot job imgs) coherent (whole-boot job imgs prepared legal.0) prepared.workers.1 legal.1 (omega arith) in
    let y = boot-left job imgs prepared legal.0 most (omega (arith, grown, begun)) in
    added-up (left_to_do most (state (boot job imgs) journal)) (left_to_do most (boot job imgs)) (work journal) (price_of_trap most) most (paid (boot job imgs) journal) x y

pub lessens-always : (most : ℕ) (job : Job) (imgs : List Image) (journal : List Event) (e : Event) → IsPrepared job imgs → IsLegal job imgs journal → processes_after (boot job imgs) journal ≤ most
    → may (state (boot job imgs) journal) e ≡ true → Lessens most (state (boot job imgs) journal) e
lessens-always most job imgs journal e prepared legal few m =
    let coherent = boot-coherent job imgs prepared legal.0 in
    let whole = whole-journal journal (boot job imgs) coherent legal.1 (whole-boot job imgs prepared legal.0) in
    let w = workers-stay-all journal (boot job imgs) in
    let four = prepared.workers.1 in
    event-lessens most (state (boot job imgs) journal) (coherent-journal journal (boot job imgs) coherent legal.1) whole (omega (arith, w, four)) few e m
