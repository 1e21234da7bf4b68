-- Where an actor has an offer a candidate may happen: the event that is offered, or for a run of many instructions the run of one.
use Rattle.hybrid_model.specs.Events.{may}
use Rattle.hybrid_model.specs.Journals.{candidates, ending, ending_of_run, events_of_process, events_of_thread, events_of_worker, is_at_end}
use Rattle.hybrid_model.specs.Pairs.{Pair}
use Rattle.hybrid_model.specs.Tallies.{Each}
use Rattle.hybrid_model.specs.declared.events.Ending.TheVariants.{Unfinished}
use Rattle.hybrid_model.specs.declared.events.Event.TheVariants.{Run, Trap, Deliver, Intake, Answer, BeginVm, Interrupt, Wait, Reap, Assign, Miss, Pin, Copy, Unpin, Act, Park, Finish, AckClear}
use Rattle.hybrid_model.specs.declared.events.Event.{Event}
use Rattle.mck_word.specs.Identifiers.{pid, tid}
use Rattle.mck_word.specs.Lists.{count_from}
use Rattle.mck_word.specs.Maps.{at}
use Rattle.offer_laws.proofs.Each.{any-none, each-all, each-kept, each-map, each-then, none-found}
use Rattle.offer_laws.proofs.NoOffer.{no-offer-ends}
use Rattle.offer_laws.proofs.Silence.{IsSilent, NoneMay, OffersNone, ProcessSilent, actors-whole, answers, assigns, begins, candidates-parts, chosen-none, fetches, interrupts, kernel-whole, lines, linux-whole, process-parts, processes, run-more, threads, unparks, waits}
use Rattle.run_model.specs.Walks.{Chosen, actors, actors_of_process, all_workers, core_event, core_offer, first_chosen, first_event, is_above_last, kernel_offer, linux_offer, offer, run_of, thread_numbers, worker_offer}
use Rattle.run_model.specs.declared.actors.Actor.TheVariants.{Core, Worker}
use Rattle.run_model.specs.declared.actors.Actor.{Actor}
use Rattle.std.proofs.Common.{ap, arith, refl, subst, sym, ◌∙◌}
use Rattle.std.proofs.lemmas.Bool.Decides.{nat_tests}
use Rattle.std.proofs.lemmas.List.Elements.{All-contains, All-from_recursion}
use Rattle.std.specs.List.{list_any}
use Rattle.std.specs.Prelude.{Bool, Contains, List, None, Option, Some, [], cond, false, filter, find, is_none, map, not, true, ℕ, ◌%◌, ◌++◌, ◌==◌, ◌∷◌, ◌≡◌, ◌≤◌}

module _ (pair : Pair) (none : NoneMay pair) where
  of-thread : (P : ℕ → Type 0) → ((t : ℕ) → Each (IsSilent pair) (events_of_thread pair t) → P t) → Each P (threads pair)
  of-thread P f = each-then (λ t. Each (IsSilent pair) (events_of_thread pair t)) P (threads pair) f none.of_threads

  -- ---- cores
  core-none : (core t : ℕ) → Each (IsSilent pair) (events_of_thread pair t) → core_event pair core t ≡ None
  core-none core t h = go (t % pair.cores == core) refl
    where
      events : List Event
      events = Trap (tid t) ∷ Deliver (tid t) ∷ run_of pair core t ∷ []

      go : (b : Bool) → (t % pair.cores == core) ≡ b → cond b (find (may pair) events) None ≡ None
      go false e = refl
      go true e =
          let g : t % pair.cores ≡ core = grind (arith, nat_tests, e) in
          let one : IsSilent pair (Run core (tid t) 1) = subst (λ (c : ℕ). IsSilent pair (Run c (tid t) 1)) g h.0 in
          none-found (may pair) events (h.1.0, (h.1.1.0, (run-more pair core t _ one, tt)))

  first-none : (core : ℕ) (ts : List ℕ) → Each (λ t. core_event pair core t ≡ None) ts → first_event pair core ts ≡ None
  first-none core [] h = refl
  first-none core (t ∷ ts) h = ap (λ (o : Option Event). elim o as (λ _. Option Event) [ None ↦ first_event pair core ts | Some d ↦ Some d ]) h.0 ∙ first-none core ts h.1

  core-offers : (core : ℕ) → core_offer pair core ≡ None
  core-offers core =
      ap (λ (o : Option Event). elim o as (λ _. Option Event) [ None ↦ first_event pair core (threads pair) | Some d ↦ Some d ])
      (first-none core (filter (is_above_last (at pair.last core)) (threads pair)) (each-kept (λ t. core_event pair core t ≡ None) (is_above_last (at pair.last core)) (threads pair) each))
      ∙ first-none core (threads pair) each
    where
      each : Each (λ t. core_event pair core t ≡ None) (threads pair)
      each = of-thread (λ t. core_event pair core t ≡ None) (core-none core)

  -- ---- the actors of a process
  of-numbers : (f : ℕ → Event) (p : ℕ) → ((t : ℕ) → Each (IsSilent pair) (events_of_thread pair t) → IsSilent pair (f t)) → Each (IsSilent pair) (map f (thread_numbers pair p))
  of-numbers f p h = each-map (IsSilent pair) f (thread_numbers pair p) (each-kept (λ t. IsSilent pair (f t)) _ (threads pair) (of-thread (λ t. IsSilent pair (f t)) h))

  module _ (p : ℕ) (s : ProcessSilent pair p) where
    of-workers : (P : ℕ → Type 0) → ((w : ℕ) → Each (IsSilent pair) (events_of_worker p w) → P w) → Each P (all_workers pair)
    of-workers P f = each-then (λ w. Each (IsSilent pair) (events_of_worker p w)) P (all_workers pair) f s.workers

    kernel-none : kernel_offer pair p ≡ None
    kernel-none = none-found (may pair) (Intake (pid p) ∷ answers pair p ++ begins pair p ++ interrupts pair p ++ waits pair p ++ (Reap (pid p) ∷ [])) (kernel-whole pair p (record {
      intake = s.intake;
      answer = each-map (IsSilent pair) (λ w. Answer (pid p) w) (all_workers pair) (of-workers (λ w. IsSilent pair (Answer (pid p) w)) (λ w h. h.0));
      begin = of-numbers (λ t. BeginVm (tid t)) p (λ t h. h.1.1.1.0);
      interrupt = of-numbers (λ t. Interrupt (tid t)) p (λ t h. h.1.1.1.1.0);
      wait = of-numbers (λ t. Wait (tid t)) p (λ t h. h.1.1.1.1.1.0);
      reap = s.reap;
    }))

    linux-none : linux_offer pair p ≡ None
    linux-none = none-found (may pair) (fetches pair p ++ AckClear (pid p) ∷ assigns pair p ++ unparks pair p) (linux-whole pair p (record {
      fetch = s.fetch;
      ack_clear = s.ack_clear;
      assign = each-map (IsSilent pair) (λ w. Assign (pid p) w) (all_workers pair) (of-workers (λ w. IsSilent pair (Assign (pid p) w)) (λ w h. h.1.0));
      unpark = s.unpark;
    }))

    worker-none : (w : ℕ) → Each (IsSilent pair) (events_of_worker p w) → worker_offer pair p w ≡ None
    worker-none w h = none-found (may pair) (let x = pid p in Miss x w ∷ Pin x w ∷ Copy x w ∷ Unpin x w ∷ Act x w ∷ Park x w ∷ Finish x w ∷ []) h.1.1

    process-offers : Each (OffersNone pair) (actors_of_process pair p)
    process-offers = (kernel-none, (linux-none, each-map (OffersNone pair) (λ w. Worker (pid p) w) (all_workers pair) (of-workers (λ w. worker_offer pair p w ≡ None) worker-none)))

  pub none-offers : Each (OffersNone pair) (actors pair)
  none-offers = actors-whole pair (record {
    of_cores = each-map (OffersNone pair) (λ c. Core c) (count_from 0 pair.cores) (each-all (λ c. core_offer pair c ≡ None) (count_from 0 pair.cores) core-offers);
    of_processes = each-then (λ p. Each (IsSilent pair) (events_of_process pair p)) (λ p. Each (OffersNone pair) (actors_of_process pair p)) (processes pair) (λ p h. process-offers p (process-parts pair p h)) none.of_processes;
    of_script = none-found (may pair) (lines pair) none.of_script;
  })

pub none-at-end : (pair : Pair) → is_at_end pair ≡ true → Each (OffersNone pair) (actors pair)
none-at-end pair e = none-offers pair (candidates-parts pair (any-none (may pair) (candidates pair) (turned (list_any (may pair) (candidates pair)) e)))
  where
    turned : (b : Bool) → not b ≡ true → b ≡ false
    turned true e = absurd (grind (arith, e))
    turned false e = refl

pub an-offer : (pair : Pair) (a : Actor) (e : Event) → Contains (actors pair) a → offer pair a ≡ Some e → is_at_end pair ≡ false
an-offer pair a e among offers = go (is_at_end pair) refl
  where
    go : (b : Bool) → is_at_end pair ≡ b → b ≡ false
    go false f = refl
    go true f = absurd (
        let n = All-contains (OffersNone pair) (actors pair) a (All-from_recursion (OffersNone pair) (actors pair) (none-at-end pair f)) among in
        let k = sym n ∙ offers in
        grind (arith, k)
        )

pub goes-on : (pair : Pair) → is_at_end pair ≡ false → ending pair ≡ Unfinished
goes-on pair e = ap (λ b. cond b (ending_of_run pair) Unfinished) e

-- both ways
pub at-end-is : (pair : Pair) → 1 ≤ pair.cores → is_at_end pair ≡ is_none (first_chosen pair (actors pair))
at-end-is pair some_core = go (first_chosen pair (actors pair)) refl (is_at_end pair) refl
  where
    go : (o : Option Chosen) → first_chosen pair (actors pair) ≡ o → (b : Bool) → is_at_end pair ≡ b → is_at_end pair ≡ is_none o
    go None f b g = no-offer-ends pair some_core f
    go (Some c) f false g = g
    go (Some c) f true g = absurd (let n = sym f ∙ chosen-none pair (actors pair) (none-at-end pair g) in grind (arith, n))
