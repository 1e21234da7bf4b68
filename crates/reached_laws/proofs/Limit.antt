-- Where a run ends at its limit a thread would run on: so no instruction is left.
use Rattle.hybrid_laws.proofs.boot.Coherent.{boot-coherent}
use Rattle.hybrid_laws.proofs.maps.Tests.{both}
use Rattle.hybrid_laws.proofs.memory.Written.{each-entry}
use Rattle.hybrid_laws.proofs.node.Threads.{thread-is}
use Rattle.hybrid_model.specs.Boot.{boot}
use Rattle.hybrid_model.specs.Globals.{Coherent}
use Rattle.hybrid_model.specs.Journals.{IsLegal, IsOver, ending, ending_of_run, is_at_end, runs_on, state}
use Rattle.hybrid_model.specs.Pairs.{Pair}
use Rattle.hybrid_model.specs.Tallies.{Each}
use Rattle.hybrid_model.specs.declared.events.Ending.TheVariants.{Done, Limit, Stalled, Unfinished}
use Rattle.hybrid_model.specs.declared.events.Ending.{Ending}
use Rattle.hybrid_model.specs.declared.events.Event.TheVariants as Events
use Rattle.hybrid_model.specs.declared.events.Event.{Event}
use Rattle.job_model.specs.Prepared.{IsPrepared}
use Rattle.job_model.specs.declared.image.Image.{Image}
use Rattle.job_model.specs.declared.job.Job.{Job}
use Rattle.kernel_model.specs.Nodes.{Process, Thread, has_ended, has_thread, instructions_in_all, is_living, is_there, ready_to_run, thread_of}
use Rattle.kernel_model.specs.Signals.{is_deliverable}
use Rattle.mck_word.specs.Maps.{Map, at, each_row, entries, some_row}
use Rattle.offer_laws.proofs.Over.{end-is-over}
use Rattle.offer_laws.proofs.Small.{coherent-journal}
use Rattle.std.proofs.Common.{ap, arith, refl, ◌∙◌}
use Rattle.std.proofs.lemmas.Bool.Decides.{nat_tests}
use Rattle.std.specs.List.{list_any}
use Rattle.std.specs.Prelude.{Bool, List, Some, [], cond, false, is_some, nat_le, not, true, ℕ, ◌%◌, ◌&&◌, ◌-◌, ◌==◌, ◌||◌, ◌∷◌, ◌≡◌}

-- ---- a row that passes
row-of : {V : Type 0} (test : ℕ → V → Bool) (m : Map V) → some_row test m ≡ true → (k : ℕ) × (v : V) × (at m k ≡ Some v) × (test k v ≡ true)
row-of {V} test m h = go (entries m) (each-entry m) h
  where
    go : (es : List (ℕ × V)) → Each (λ (x : ℕ × V). at m x.0 ≡ Some x.1) es → list_any (λ (e : ℕ × V). test e.0 e.1) es ≡ true → (k : ℕ) × (v : V) × (at m k ≡ Some v) × (test k v ≡ true)
    go [] k e = absurd (grind (arith, e))
    go (x ∷ es) k e = here (test x.0 x.1) refl e (go es k.1)
      where
        here : (b : Bool) → test x.0 x.1 ≡ b → (b || list_any (λ (y : ℕ × V). test y.0 y.1) es) ≡ true → (list_any (λ (y : ℕ × V). test y.0 y.1) es ≡ true → (j : ℕ) × (v : V) × (at m j ≡ Some v) × (test j v ≡ true)) → (j : ℕ) × (v : V) × (at m j ≡ Some v) × (test j v ≡ true)
        here true f g r = (x.0, x.1, k.0, f)
        here false f g r = r g

-- ---- tests, over plain values
delivers : (there thread ready living due : Bool) → there ≡ true → thread ≡ true → ready ≡ true → living ≡ true → (there && (thread && ready && living && due)) ≡ false → due ≡ false
delivers true true true true due a b c d e = e
delivers true true true false due a b c d e = absurd (grind (arith, d))
delivers true true false living due a b c d e = absurd (grind (arith, c))
delivers true false ready living due a b c d e = absurd (grind (arith, b))
delivers false thread ready living due a b c d e = absurd (grind (arith, a))

runs : (there thread ready living due core left : Bool) → there ≡ true → thread ≡ true → ready ≡ true → living ≡ true → due ≡ false → core ≡ true
    → (there && ((thread && ready && living && not due) && core && true && true && left)) ≡ false → left ≡ false
runs true true true true false true left a b c d e f g = g
runs true true true true false false left a b c d e f g = absurd (grind (arith, f))
runs true true true true true core left a b c d e f g = absurd (grind (arith, e))
runs true true true false due core left a b c d e f g = absurd (grind (arith, d))
runs true true false living due core left a b c d e f g = absurd (grind (arith, c))
runs true false ready living due core left a b c d e f g = absurd (grind (arith, b))
runs false thread ready living due core left a b c d e f g = absurd (grind (arith, a))

-- ---- a thread that would run on
module _ (pair : Pair) (c : Coherent pair) (over : IsOver pair) (t : ℕ) (x : Thread) (there : at pair.node.threads t ≡ Some x) (on : runs_on pair t x ≡ true) where
  same : thread_of pair.node t ≡ x
  same = thread-is pair.node t x there

  has : has_thread pair.node t ≡ true
  has = ap is_some there

  ready : ready_to_run (thread_of pair.node t).does ≡ true
  ready = ap (λ (z : Thread). ready_to_run z.does) same ∙ (both (ready_to_run x.does) (is_living pair.node x.process) on).0

  living : is_living pair.node (thread_of pair.node t).process ≡ true
  living = ap (λ (z : Thread). is_living pair.node z.process) same ∙ (both (ready_to_run x.does) (is_living pair.node x.process) on).1

  stands : is_there pair.node (thread_of pair.node t).process ≡ true
  stands = ap (λ (z : Thread). is_there pair.node z.process) same ∙ c.known.threads_there t x there

  not-due : is_deliverable pair.node t ≡ false
  not-due = delivers (is_there pair.node (thread_of pair.node t).process) (has_thread pair.node t) (ready_to_run (thread_of pair.node t).does) (is_living pair.node (thread_of pair.node t).process) (is_deliverable pair.node t)
      stands has ready living (over (Events.Deliver (record { 0 = t })))

  none-left : nat_le 1 (pair.node.limit - instructions_in_all pair.node) ≡ false
  none-left =
      let core : (t % pair.cores == t % pair.cores) ≡ true = grind (arith, nat_tests) in
      runs (is_there pair.node (thread_of pair.node t).process) (has_thread pair.node t) (ready_to_run (thread_of pair.node t).does) (is_living pair.node (thread_of pair.node t).process) (is_deliverable pair.node t)
      (t % pair.cores == t % pair.cores) (nat_le 1 (pair.node.limit - instructions_in_all pair.node)) stands has ready living not-due core (over (Events.Run (t % pair.cores) (record { 0 = t }) 1))

  all-used : instructions_in_all pair.node ≡ pair.node.limit
  all-used =
      let a = c.numbers.limit in
      let b = left (pair.node.limit - instructions_in_all pair.node) none-left in
      omega (arith, a, b)
    where
      left : (n : ℕ) → nat_le 1 n ≡ false → n ≡ 0
      left n e = grind (arith, nat_tests, e)

-- ---- the ending
module _ (pair : Pair) (c : Coherent pair) where
  abbrev by_rows : Bool → Bool → Ending
  by_rows done on = cond done Done (cond on Limit Stalled)

  ended-so : (done on : Bool) → by_rows done on ≡ Limit → on ≡ true
  ended-so true on e = absurd (cc)
  ended-so false true e = refl
  ended-so false false e = absurd (cc)

  by-limit : (b : Bool) → is_at_end pair ≡ b → cond b (ending_of_run pair) Unfinished ≡ Limit → instructions_in_all pair.node ≡ pair.node.limit
  by-limit false e f = absurd (cc)
  by-limit true e f =
      let on = ended-so (each_row (λ p (x : Process). has_ended x.life) pair.node.processes) (some_row (runs_on pair) pair.node.threads) f in
      let r = row-of (runs_on pair) pair.node.threads on in
      all-used pair c (end-is-over pair c e) r.0 r.1 r.2 r.3

pub used-up : (job : Job) (imgs : List Image) (journal : List Event) → IsPrepared job imgs → IsLegal job imgs journal → ending (state (boot job imgs) journal) ≡ Limit
    → instructions_in_all (state (boot job imgs) journal).node ≡ (state (boot job imgs) journal).node.limit
used-up job imgs journal prepared legal e = by-limit pair (coherent-journal journal (boot job imgs) (boot-coherent job imgs prepared legal.0) legal.1) (is_at_end pair) refl e
  where
    pair : Pair
    pair = state (boot job imgs) journal
