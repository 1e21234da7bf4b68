-- Where no actor has an offer no candidate may happen: each candidate that may happen belongs to an actor that then has an offer.
use Rattle.hybrid_model.specs.Events.{may, may_here}
use Rattle.hybrid_model.specs.Journals.{candidates, ending, ending_of_run, events_of_process, events_of_thread, events_of_worker, is_at_end}
use Rattle.hybrid_model.specs.Pairs.{Pair, here}
use Rattle.hybrid_model.specs.Tallies.{Each}
use Rattle.hybrid_model.specs.declared.events.Ending.TheVariants.{Done, Limit, Stalled, Unfinished}
use Rattle.hybrid_model.specs.declared.events.Event.TheVariants.{Trap, Deliver, Intake, Answer, BeginVm, Interrupt, Wait, Reap, Assign, Miss, Pin, Copy, Unpin, Act, Park, Finish, AckClear}
use Rattle.hybrid_model.specs.declared.events.Event.{Event}
use Rattle.kernel_model.specs.Nodes.{Process, has_ended, has_process, is_ended, thread_of}
use Rattle.mck_word.specs.Identifiers.{pid, tid}
use Rattle.mck_word.specs.Lists.{count_from, member}
use Rattle.mck_word.specs.Maps.{at, each_row}
use Rattle.offer_laws.proofs.Each.{count-member, each-mapped, each-member, each-passing, key-member, none-any, none-passes, of-member}
use Rattle.offer_laws.proofs.Silence.{IsSilent, KernelSilent, LinuxSilent, NoneMay, NoneOffers, OffersNone, actors-parts, answers, assigns, begins, candidates-whole, fetches, interrupts, kernel-parts, lines, linux-parts, none-chosen, process-whole, processes, run-one, threads, unparks, waits}
use Rattle.run_model.specs.Walks.{actors, all_workers, core_event, core_offer, first_chosen, first_event, is_above_last, run_of, thread_numbers, worker_offer}
use Rattle.run_model.specs.declared.actors.Actor.TheVariants.{Core, Kernel, Linux, Worker}
use Rattle.std.proofs.Common.{ap, arith, refl, sym, ◌∙◌}
use Rattle.std.proofs.lemmas.Bool.Decides.{nat_tests}
use Rattle.std.specs.Prelude.{Bool, List, None, Option, Some, [], cond, false, filter, find, map, not, true, ℕ, ◌%◌, ◌&&◌, ◌++◌, ◌+◌, ◌<◌, ◌==◌, ◌∷◌, ◌≡◌, ◌≢◌, ◌≤◌}

module _ (pair : Pair) (some_core : 1 ≤ pair.cores) (none : NoneOffers pair) where
  -- ---- a thread and its core
  first-none : (core : ℕ) (ts : List ℕ) → first_event pair core ts ≡ None → Each (λ t. core_event pair core t ≡ None) ts
  first-none core [] e = tt
  first-none core (t ∷ ts) e = go (core_event pair core t) refl e (first-none core ts)
    where
      go : (o : Option Event) → core_event pair core t ≡ o → elim o as (λ _. Option Event) [ None ↦ first_event pair core ts | Some d ↦ Some d ] ≡ None → (first_event pair core ts ≡ None → Each (λ u. core_event pair core u ≡ None) ts) → (core_event pair core t ≡ None) × Each (λ u. core_event pair core u ≡ None) ts
      go None f k r = (f, r k)
      go (Some d) f k r = absurd (grind (arith, k))

  all-none : (core : ℕ) → core_offer pair core ≡ None → first_event pair core (threads pair) ≡ None
  all-none core e = go (first_event pair core (filter (is_above_last (at pair.last core)) (threads pair))) e
    where
      go : (o : Option Event) → elim o as (λ _. Option Event) [ None ↦ first_event pair core (threads pair) | Some d ↦ Some d ] ≡ None → first_event pair core (threads pair) ≡ None
      go None k = k
      go (Some d) k = absurd (grind (arith, k))

  own-events : (core t : ℕ) → (t % pair.cores == core) ≡ true → core_event pair core t ≡ None → Each (IsSilent pair) (Trap (tid t) ∷ Deliver (tid t) ∷ run_of pair core t ∷ [])
  own-events core t own e = none-passes (may pair) events (sym (ap (λ b. cond b (find (may pair) events) None) own) ∙ e)
    where
      events : List Event
      events = Trap (tid t) ∷ Deliver (tid t) ∷ run_of pair core t ∷ []

  by-core : (t : ℕ) → member t (threads pair) ≡ true → Each (IsSilent pair) (Trap (tid t) ∷ Deliver (tid t) ∷ run_of pair (t % pair.cores) t ∷ [])
  by-core t there =
      let core = t % pair.cores in
      let below : core < 0 + pair.cores = omega (arith, some_core) in
      let c : core_offer pair core ≡ None = of-member (λ n. core_offer pair n ≡ None) (count_from 0 pair.cores) core (each-mapped (OffersNone pair) (λ n. Core n) (count_from 0 pair.cores) none.of_cores) (count-member 0 pair.cores core (omega arith) below) in
      let own : (core == core) ≡ true = grind (arith, nat_tests) in
      own-events core t own (of-member (λ u. core_event pair core u ≡ None) (threads pair) t (first-none core (threads pair) (all-none core c)) there)

  -- ---- a process and its actors
  of-process : (p : ℕ) → member p (processes pair) ≡ true → (OffersNone pair (Kernel (pid p))) × (OffersNone pair (Linux (pid p))) × Each (λ w. worker_offer pair p w ≡ None) (all_workers pair)
  of-process p there =
      let h = of-member (λ q. Each (OffersNone pair) (Kernel (pid q) ∷ Linux (pid q) ∷ map (λ w. Worker (pid q) w) (all_workers pair))) (processes pair) p none.of_processes there in
      (h.0, h.1.0, each-mapped (OffersNone pair) (λ w. Worker (pid p) w) (all_workers pair) h.1.1)

  by-kernel : (p : ℕ) → member p (processes pair) ≡ true → KernelSilent pair p
  by-kernel p there = let h = of-process p there in
      kernel-parts pair p (none-passes (may pair) (Intake (pid p) ∷ answers pair p ++ begins pair p ++ interrupts pair p ++ waits pair p ++ (Reap (pid p) ∷ [])) h.0)

  by-linux : (p : ℕ) → member p (processes pair) ≡ true → LinuxSilent pair p
  by-linux p there = let h = of-process p there in
      linux-parts pair p (none-passes (may pair) (fetches pair p ++ AckClear (pid p) ∷ assigns pair p ++ unparks pair p) h.1)

  -- ---- an event of the kernel for a thread
  abbrev process : ℕ → ℕ
  process t = (thread_of pair.node t).process

  of-thread : (f : ℕ → Event) (t : ℕ) → member t (threads pair) ≡ true → (has_process pair.node (process t) ≡ false → IsSilent pair (f t)) → (KernelSilent pair (process t) → Each (IsSilent pair) (map f (thread_numbers pair (process t)))) → IsSilent pair (f t)
  of-thread f t there absent part = go (has_process pair.node (process t)) refl
    where
      go : (b : Bool) → has_process pair.node (process t) ≡ b → IsSilent pair (f t)
      go false e = absent e
      go true e =
          let h = each-mapped (IsSilent pair) f (thread_numbers pair (process t)) (part (by-kernel (process t) (key-member pair.node.processes (process t) e))) in
          let own : (process t == process t) ≡ true = grind (arith, nat_tests) in
          of-member (λ u. (process u == process t) ≡ true → IsSilent pair (f u)) (threads pair) t (each-passing (λ u. IsSilent pair (f u)) (λ u. process u == process t) (threads pair) h) there own

  thread-silent : (t : ℕ) → member t (threads pair) ≡ true → Each (IsSilent pair) (events_of_thread pair t)
  thread-silent t there =
      let c = by-core t there in (
        run-one pair (t % pair.cores) t c.1.1.0,
        (
          c.0,
          (
            c.1.0,
            (
              of-thread (λ u. BeginVm (tid u)) t there (λ e. ap (λ b. b && not (is_ended pair.node (process t)) && may_here (BeginVm (tid t)) (here pair (process t))) e) (λ k. k.begin),
              (
                of-thread (λ u. Interrupt (tid u)) t there (λ e. ap (λ b. b && not (is_ended pair.node (process t)) && may_here (Interrupt (tid t)) (here pair (process t))) e) (λ k. k.interrupt),
                (of-thread (λ u. Wait (tid u)) t there (λ e. ap (λ b. b && not (is_ended pair.node (process t)) && may_here (Wait (tid t)) (here pair (process t))) e) (λ k. k.wait), tt),
              ),
            ),
          ),
        ),
      )

  -- ---- the candidates of a process
  worker-silent : (p : ℕ) → KernelSilent pair p → LinuxSilent pair p → Each (λ w. worker_offer pair p w ≡ None) (all_workers pair) → Each (λ w. Each (IsSilent pair) (events_of_worker p w)) (all_workers pair)
  worker-silent p k l h = all (all_workers pair) (each-mapped (IsSilent pair) (λ w. Answer (pid p) w) (all_workers pair) k.answer) (each-mapped (IsSilent pair) (λ w. Assign (pid p) w) (all_workers pair) l.assign) h
    where
      all : (ws : List ℕ) → Each (λ w. IsSilent pair (Answer (pid p) w)) ws → Each (λ w. IsSilent pair (Assign (pid p) w)) ws → Each (λ w. worker_offer pair p w ≡ None) ws → Each (λ w. Each (IsSilent pair) (events_of_worker p w)) ws
      all [] a b c = tt
      all (w ∷ ws) a b c = ((a.0, (b.0, none-passes (may pair) (let x = pid p in Miss x w ∷ Pin x w ∷ Copy x w ∷ Unpin x w ∷ Act x w ∷ Park x w ∷ Finish x w ∷ []) c.0)), all ws a.1 b.1 c.1)

  process-silent : (p : ℕ) → member p (processes pair) ≡ true → Each (IsSilent pair) (events_of_process pair p)
  process-silent p there =
      let k = by-kernel p there in
      let l = by-linux p there in
      let h = of-process p there in
      process-whole pair p (record { intake = k.intake; reap = k.reap; ack_clear = l.ack_clear; fetch = l.fetch; workers = worker-silent p k l h.2; unpark = l.unpark })

  pub none-may : NoneMay pair
  none-may = record {
    of_threads = each-member (λ t. Each (IsSilent pair) (events_of_thread pair t)) (threads pair) thread-silent;
    of_processes = each-member (λ p. Each (IsSilent pair) (events_of_process pair p)) (processes pair) process-silent;
    of_script = none-passes (may pair) (lines pair) none.of_script;
  }

pub none-ends : (pair : Pair) → 1 ≤ pair.cores → Each (OffersNone pair) (actors pair) → is_at_end pair ≡ true
none-ends pair some_core h = ap not (none-any (may pair) (candidates pair) (candidates-whole pair (none-may pair some_core (actors-parts pair h))))

pub no-offer-ends : (pair : Pair) → 1 ≤ pair.cores → first_chosen pair (actors pair) ≡ None → is_at_end pair ≡ true
no-offer-ends pair some_core e = none-ends pair some_core (none-chosen pair (actors pair) e)

-- the ending of a run that is over is none of a run under way
over-ends : (pair : Pair) → ending_of_run pair ≢ Unfinished
over-ends pair = go (each_row (λ p (x : Process). has_ended x.life) pair.node.processes) _
  where
    go : (a b : Bool) → cond a Done (cond b Limit Stalled) ≢ Unfinished
    go true b e = cc
    go false true e = cc
    go false false e = cc

pub ends : (pair : Pair) → is_at_end pair ≡ true → ending pair ≢ Unfinished
ends pair e f = over-ends pair (sym (ap (λ b. cond b (ending_of_run pair) Unfinished) e) ∙ f)
