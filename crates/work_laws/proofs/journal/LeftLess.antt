-- Every event leaves less to do.
use Rattle.hybrid_model.specs.declared.events.Event.TheVariants as Events
use Rattle.hybrid_laws.proofs.boot.Coherent.{boot-coherent}
use Rattle.hybrid_laws.proofs.every.Event.{whole_event}
use Rattle.hybrid_laws.proofs.maps.Tests.{both}
use Rattle.hybrid_model.specs.Boot.{boot}
use Rattle.hybrid_model.specs.Events.{after, after_here, may, process_of_event}
use Rattle.hybrid_model.specs.Globals.{Coherent}
use Rattle.hybrid_model.specs.Journals.{IsLegal, may_all, state}
use Rattle.hybrid_model.specs.Run.{left_of_limit}
use Rattle.hybrid_model.specs.Pairs.{Pair, here}
use Rattle.hybrid_model.specs.declared.events.Event.{Event}
use Rattle.job_model.specs.Prepared.{IsPrepared}
use Rattle.job_model.specs.declared.image.Image.{Image}
use Rattle.job_model.specs.declared.job.Job.{Job}
use Rattle.kernel_model.specs.Nodes.{Node, most_processes}
use Rattle.offer_laws.proofs.Sizes.{limit-stays}
use Rattle.offer_laws.proofs.Small.{boot-small, coherent-journal, small-after, small-journal}
use Rattle.offer_laws.specs.Small.{Small}
use Rattle.run_model.specs.Work.{counts_as_work, if_so, pays as is_paid}
use Rattle.std.proofs.Common.{ap, arith, refl}
use Rattle.std.proofs.Math.Nat.{mul-add, mul-le-mul_left}
use Rattle.std.specs.Prelude.{List, [], false, length, suc, true, ℕ, ◌*◌, ◌+◌, ◌<◌, ◌∷◌, ◌≡◌, ◌≤◌}
use Rattle.work_laws.proofs.journal.EachLessens.{event-lessens}
use Rattle.work_laws.proofs.node.Paying.{event-pays, is_run, run-limit, run-stops}
use Rattle.work_laws.proofs.pages.Whole.{whole-after, whole-boot, whole-journal}
use Rattle.work_laws.specs.Left.{left, left_to_do, may_be_paid, price_of_trap}
use Rattle.work_laws.specs.WholePages.{WholePages}

-- ---- over numbers: the limit, what may be paid, and what is left to do
run-falls : (price l l' q q' x x' : ℕ) → l' + 1 ≤ l → q' ≤ q + 1 → x' ≤ x → (price + 1) * l' + price * q' + x' < (price + 1) * l + price * q + x
run-falls price l l' q q' x x' f g h =
    let a = mul-le-mul_left (price + 1) f in
    let b = mul-add (price + 1) l' 1 in
    let c = mul-le-mul_left price g in
    let d = mul-add price q 1 in
    omega (arith, a, b, c, d, h)

event-falls : (price l l' q q' x x' paid : ℕ) → l' ≡ l → q' + paid ≤ q → x' + 1 ≤ x + price * paid → (price + 1) * l' + price * q' + x' < (price + 1) * l + price * q + x
event-falls price l l' q q' x x' paid f g h =
    let a = ap (λ n. (price + 1) * n) f in
    let b = mul-le-mul_left price g in
    let c = mul-add price q' paid in
    omega (arith, a, b, c, h)

module _ (pair : Pair) (c : Coherent pair) (small : Small pair) (whole : WholePages pair) (e : Event) (m : may pair e ≡ true) where
  abbrev p : ℕ
  p = process_of_event pair.node e

  abbrev now : Node
  now = (after_here e p (here pair p)).node

  lessens : left_to_do most_processes (after pair e) + if_so (counts_as_work e) ≤ left_to_do most_processes pair + price_of_trap most_processes * is_paid e
  lessens = event-lessens most_processes pair c whole small.workers small.processes e m

  other : is_run pair c e ≡ false → counts_as_work e ≡ true → left (after pair e) < left pair
  other f g =
      let a = event-pays pair c e f m in
      let i = a.instructions in
      let l = limit-stays e p (here pair p) in
      let n = ap if_so g in
      let x = lessens in
      event-falls (price_of_trap most_processes) (left_of_limit pair.node) (left_of_limit now) (may_be_paid pair.node) (may_be_paid now) (left_to_do most_processes pair) (left_to_do most_processes (after pair e)) (is_paid e)
      (omega (arith, i, l)) a.fewer (by (left_to_do most_processes (after pair e)) (if_so (counts_as_work e)) (left_to_do most_processes pair + price_of_trap most_processes * is_paid e) n x)
    where
      by : (new g bound : ℕ) → g ≡ 1 → new + g ≤ bound → new + 1 ≤ bound
      by new g bound f h = omega (arith, f, h)

pub left-less : (pair : Pair) (e : Event) → Coherent pair → Small pair → WholePages pair → may pair e ≡ true → left (after pair e) < left pair
left-less pair (Events.Run core t n) c small whole m =
    let e = Events.Run core t n in
    let x = lessens pair c small whole e m in
    run-falls (price_of_trap most_processes) (left_of_limit pair.node) (left_of_limit (after pair e).node) (may_be_paid pair.node) (may_be_paid (after pair e).node) (left_to_do most_processes pair) (left_to_do most_processes (after pair e))
    (run-limit pair c core n t m) (run-stops pair c core n t m) (by (left_to_do most_processes (after pair e)) (left_to_do most_processes pair) (price_of_trap most_processes) x)
  where
    by : (new old price : ℕ) → new + 0 ≤ old + price * 0 → new ≤ old
    by new old price h = omega (arith, h)
left-less pair (Events.Trap t) c small whole m = other pair c small whole (Events.Trap t) m refl refl
left-less pair (Events.Script k) c small whole m = other pair c small whole (Events.Script k) m refl refl
left-less pair (Events.Deliver t) c small whole m = other pair c small whole (Events.Deliver t) m refl refl
left-less pair (Events.Intake q) c small whole m = other pair c small whole (Events.Intake q) m refl refl
left-less pair (Events.Answer q w) c small whole m = other pair c small whole (Events.Answer q w) m refl refl
left-less pair (Events.BeginVm t) c small whole m = other pair c small whole (Events.BeginVm t) m refl refl
left-less pair (Events.Interrupt t) c small whole m = other pair c small whole (Events.Interrupt t) m refl refl
left-less pair (Events.Wait t) c small whole m = other pair c small whole (Events.Wait t) m refl refl
left-less pair (Events.Reap q) c small whole m = other pair c small whole (Events.Reap q) m refl refl
left-less pair (Events.Fetch q r) c small whole m = other pair c small whole (Events.Fetch q r) m refl refl
left-less pair (Events.Assign q w) c small whole m = other pair c small whole (Events.Assign q w) m refl refl
left-less pair (Events.Miss q w) c small whole m = other pair c small whole (Events.Miss q w) m refl refl
left-less pair (Events.Pin q w) c small whole m = other pair c small whole (Events.Pin q w) m refl refl
left-less pair (Events.Copy q w) c small whole m = other pair c small whole (Events.Copy q w) m refl refl
left-less pair (Events.Unpin q w) c small whole m = other pair c small whole (Events.Unpin q w) m refl refl
left-less pair (Events.Act q w) c small whole m = other pair c small whole (Events.Act q w) m refl refl
left-less pair (Events.Park q w) c small whole m = other pair c small whole (Events.Park q w) m refl refl
left-less pair (Events.Unpark q n) c small whole m = other pair c small whole (Events.Unpark q n) m refl refl
left-less pair (Events.Finish q w) c small whole m = other pair c small whole (Events.Finish q w) m refl refl
left-less pair (Events.AckClear q) c small whole m = other pair c small whole (Events.AckClear q) m refl refl

-- ---- journals
-- what is left in the state that a legal journal leads to
pub left-always : (job : Job) (imgs : List Image) (journal : List Event) (e : Event) → IsPrepared job imgs → IsLegal job imgs journal → may (state (boot job imgs) journal) e ≡ true
    → left (after (state (boot job imgs) journal) e) < left (state (boot job imgs) journal)
left-always job imgs journal e prepared legal m =
    let c = boot-coherent job imgs prepared legal.0 in
    left-less (state (boot job imgs) journal) e (coherent-journal journal (boot job imgs) c legal.1) (small-journal journal (boot job imgs) c (boot-small job imgs prepared) legal.1)
    (whole-journal journal (boot job imgs) c legal.1 (whole-boot job imgs prepared legal.0)) m

-- a journal is no longer than what was left at first
pub journal-short : (es : List Event) (pair : Pair) → Coherent pair → Small pair → WholePages pair → may_all pair es ≡ true → length es + left (state pair es) ≤ left pair
journal-short [] pair c small whole m = omega arith
journal-short (e ∷ es) pair c small whole m =
    let a = both (may pair e) (may_all (after pair e) es) m in
    let x = left-less pair e c small whole a.0 in
    let y = journal-short es (after pair e) (whole_event pair c e a.0).0 (small-after pair c e a.0 small) (whole-after pair e c a.0 whole) a.1 in
    by (length es) (left (state (after pair e) es)) (left (after pair e)) (left pair) x y
  where
    by : (n last mid first : ℕ) → mid < first → n + last ≤ mid → suc n + last ≤ first
    by n last mid first f h = omega (arith, f, h)

-- so is every legal one
pub left-length : (job : Job) (imgs : List Image) (journal : List Event) → IsPrepared job imgs → IsLegal job imgs journal → length journal ≤ left (boot job imgs)
left-length job imgs journal prepared legal =
    let x = journal-short journal (boot job imgs) (boot-coherent job imgs prepared legal.0) (boot-small job imgs prepared) (whole-boot job imgs prepared legal.0) legal.1 in
    by (length journal) (left (state (boot job imgs) journal)) (left (boot job imgs)) x
  where
    by : (n last first : ℕ) → n + last ≤ first → n ≤ first
    by n last first h = omega (arith, h)
