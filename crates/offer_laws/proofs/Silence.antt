-- Where no actor has an offer, and where no candidate may happen: what both say of one thread, of one process and of the script.
use Rattle.hybrid_model.specs.Events.{may}
use Rattle.hybrid_model.specs.Journals.{candidates, events_of_process, events_of_thread, events_of_worker}
use Rattle.hybrid_model.specs.Pairs.{Pair, side_of}
use Rattle.hybrid_model.specs.Tallies.{Each}
use Rattle.hybrid_model.specs.declared.events.Event.TheVariants.{Run, Intake, Answer, BeginVm, Interrupt, Wait, Reap, Script, Fetch, Assign, Unpark, AckClear}
use Rattle.hybrid_model.specs.declared.events.Event.{Event}
use Rattle.kernel_model.specs.Nodes.{ScriptLine, instructions_in_all, is_there, thread_of}
use Rattle.kernel_model.specs.Traps.{may_run}
use Rattle.mck_word.specs.Identifiers.{pid, req, tid}
use Rattle.mck_word.specs.Lists.{count_from}
use Rattle.mck_word.specs.Maps.{keys}
use Rattle.offer_laws.proofs.Each.{each-flat, each-flattened, each-join, each-parts}
use Rattle.run_model.specs.Walks.{Chosen, actors, actors_of_process, all_workers, first_chosen, offer, run_of, thread_numbers}
use Rattle.run_model.specs.declared.actors.Actor.TheVariants.{Core, Script as ScriptActor}
use Rattle.run_model.specs.declared.actors.Actor.{Actor}
use Rattle.std.proofs.Common.{ap, arith, refl, ◌∙◌}
use Rattle.std.proofs.lemmas.Bool.Decides.{nat_tests}
use Rattle.std.specs.Prelude.{Bool, List, None, Option, Some, [], false, flat_map, map, min, nat_le, true, ℕ, ◌%◌, ◌&&◌, ◌++◌, ◌-◌, ◌==◌, ◌∷◌, ◌≡◌}

-- ---- a run of one instruction, of some, and of as many as a core offers
some-run : (a b : Bool) (n left : ℕ) → (a && (b && nat_le 1 1 && nat_le 1 64 && nat_le 1 left)) ≡ false → (a && (b && nat_le 1 n && nat_le n 64 && nat_le n left)) ≡ false
some-run false b n left e = refl
some-run true false n left e = refl
some-run true true n left e = go (nat_le 1 n) refl (nat_le n 64) (nat_le n left) refl
  where
    go : (x : Bool) → nat_le 1 n ≡ x → (y z : Bool) → nat_le n left ≡ z → (x && y && z) ≡ false
    go false f y z g = refl
    go true f false z g = refl
    go true f true false g = refl
    go true f true true g = absurd (let l : nat_le 1 left ≡ true = grind (arith, nat_tests, f, g) in grind (arith, l, e))

offered-run : (a b : Bool) (left : ℕ) → (a && (b && nat_le 1 (min 64 left) && nat_le (min 64 left) 64 && nat_le (min 64 left) left)) ≡ false → (a && (b && nat_le 1 1 && nat_le 1 64 && nat_le 1 left)) ≡ false
offered-run false b left e = refl
offered-run true false left e = refl
offered-run true true left e = go (nat_le 1 left) refl
  where
    go : (x : Bool) → nat_le 1 left ≡ x → x ≡ false
    go false f = refl
    go true f = absurd (
        let n : nat_le 1 (min 64 left) ≡ true = grind (arith, nat_tests, f) in
        let m : nat_le (min 64 left) 64 ≡ true = grind (arith, nat_tests) in
        let l : nat_le (min 64 left) left ≡ true = grind (arith, nat_tests) in
        grind (arith, n, m, l, e)
        )

module _ (pair : Pair) where
  abbrev pub IsSilent : Event → Type 0
  IsSilent e = may pair e ≡ false

  abbrev pub OffersNone : Actor → Type 0
  OffersNone a = offer pair a ≡ None

  abbrev left : ℕ
  left = pair.node.limit - instructions_in_all pair.node

  pub run-more : (core t n : ℕ) → IsSilent (Run core (tid t) 1) → IsSilent (Run core (tid t) n)
  run-more core t n e = some-run (is_there pair.node (thread_of pair.node t).process) (may_run pair.node t && t % pair.cores == core) n left e

  pub run-one : (core t : ℕ) → IsSilent (run_of pair core t) → IsSilent (Run core (tid t) 1)
  run-one core t e = offered-run (is_there pair.node (thread_of pair.node t).process) (may_run pair.node t && t % pair.cores == core) left e

  -- ---- no actor of a list has an offer
  pub none-chosen : (all : List Actor) → first_chosen pair all ≡ None → Each OffersNone all
  none-chosen [] e = tt
  none-chosen (a ∷ all) e = go (offer pair a) refl e (none-chosen all)
    where
      go : (o : Option Event) → offer pair a ≡ o
          → elim (elim o as (λ _. Option Chosen) [ None ↦ None | Some e ↦ Some (record { actor = a; event = e }) ]) as (λ _. Option Chosen) [ None ↦ first_chosen pair all | Some c ↦ Some c ] ≡ None
          → (first_chosen pair all ≡ None → Each OffersNone all) → OffersNone a × Each OffersNone all
      go None f k r = (f, r k)
      go (Some d) f k r = absurd (grind (arith, k))

  pub chosen-none : (all : List Actor) → Each OffersNone all → first_chosen pair all ≡ None
  chosen-none [] h = refl
  chosen-none (a ∷ all) h =
      ap (λ (o : Option Event). elim (elim o as (λ _. Option Chosen) [ None ↦ None | Some e ↦ Some (record { actor = a; event = e }) ]) as (λ _. Option Chosen) [ None ↦ first_chosen pair all | Some c ↦ Some c ]) h.0
      ∙ chosen-none all h.1

  -- ---- the parts of the lists
  abbrev pub answers : ℕ → List Event
  answers p = map (λ w. Answer (pid p) w) (all_workers pair)

  abbrev pub begins : ℕ → List Event
  begins p = map (λ t. BeginVm (tid t)) (thread_numbers pair p)

  abbrev pub interrupts : ℕ → List Event
  interrupts p = map (λ t. Interrupt (tid t)) (thread_numbers pair p)

  abbrev pub waits : ℕ → List Event
  waits p = map (λ t. Wait (tid t)) (thread_numbers pair p)

  abbrev pub fetches : ℕ → List Event
  fetches p = map (λ r. Fetch (pid p) r) (count_from 0 pair.rings)

  abbrev pub assigns : ℕ → List Event
  assigns p = map (λ w. Assign (pid p) w) (all_workers pair)

  abbrev pub unparks : ℕ → List Event
  unparks p = map (λ q. Unpark (pid p) (req q)) (keys (side_of pair p).book.rows)

  abbrev pub lines : List Event
  lines = map (λ (l : ScriptLine). Script l.index) pair.node.unsent

  abbrev pub processes : List ℕ
  processes = keys pair.node.processes

  abbrev pub threads : List ℕ
  threads = keys pair.node.threads

  -- the events of the lightweight kernel for a process
  pub record KernelSilent (p : ℕ) : Type 0 where
    pub intake : IsSilent (Intake (pid p))
    pub answer : Each IsSilent (answers p)
    pub begin : Each IsSilent (begins p)
    pub interrupt : Each IsSilent (interrupts p)
    pub wait : Each IsSilent (waits p)
    pub reap : IsSilent (Reap (pid p))

  pub kernel-parts : (p : ℕ) → Each IsSilent (Intake (pid p) ∷ answers p ++ begins p ++ interrupts p ++ waits p ++ (Reap (pid p) ∷ [])) → KernelSilent p
  kernel-parts p h =
      let a = each-parts IsSilent (Intake (pid p) ∷ answers p ++ begins p ++ interrupts p ++ waits p) (Reap (pid p) ∷ []) h in
      let b = each-parts IsSilent (Intake (pid p) ∷ answers p ++ begins p ++ interrupts p) (waits p) a.0 in
      let c = each-parts IsSilent (Intake (pid p) ∷ answers p ++ begins p) (interrupts p) b.0 in
      let d = each-parts IsSilent (Intake (pid p) ∷ answers p) (begins p) c.0 in
      record { intake = d.0.0; answer = d.0.1; begin = d.1; interrupt = c.1; wait = b.1; reap = a.1.0 }

  pub kernel-whole : (p : ℕ) → KernelSilent p → Each IsSilent (Intake (pid p) ∷ answers p ++ begins p ++ interrupts p ++ waits p ++ (Reap (pid p) ∷ []))
  kernel-whole p s =
      each-join IsSilent (Intake (pid p) ∷ answers p ++ begins p ++ interrupts p ++ waits p) (Reap (pid p) ∷ [])
      (each-join IsSilent (Intake (pid p) ∷ answers p ++ begins p ++ interrupts p) (waits p)
      (each-join IsSilent (Intake (pid p) ∷ answers p ++ begins p) (interrupts p)
      (each-join IsSilent (Intake (pid p) ∷ answers p) (begins p) (s.intake, s.answer) s.begin) s.interrupt) s.wait) (s.reap, tt)

  -- the events of the proxy for a process, but those of its workers
  pub record LinuxSilent (p : ℕ) : Type 0 where
    pub fetch : Each IsSilent (fetches p)
    pub ack_clear : IsSilent (AckClear (pid p))
    pub assign : Each IsSilent (assigns p)
    pub unpark : Each IsSilent (unparks p)

  pub linux-parts : (p : ℕ) → Each IsSilent (fetches p ++ AckClear (pid p) ∷ assigns p ++ unparks p) → LinuxSilent p
  linux-parts p h =
      let a = each-parts IsSilent (fetches p ++ AckClear (pid p) ∷ assigns p) (unparks p) h in
      let b = each-parts IsSilent (fetches p) (AckClear (pid p) ∷ assigns p) a.0 in
      record { fetch = b.0; ack_clear = b.1.0; assign = b.1.1; unpark = a.1 }

  pub linux-whole : (p : ℕ) → LinuxSilent p → Each IsSilent (fetches p ++ AckClear (pid p) ∷ assigns p ++ unparks p)
  linux-whole p s = each-join IsSilent (fetches p ++ AckClear (pid p) ∷ assigns p) (unparks p) (each-join IsSilent (fetches p) (AckClear (pid p) ∷ assigns p) s.fetch (s.ack_clear, s.assign)) s.unpark

  -- the candidates of a process
  pub record ProcessSilent (p : ℕ) : Type 0 where
    pub intake : IsSilent (Intake (pid p))
    pub reap : IsSilent (Reap (pid p))
    pub ack_clear : IsSilent (AckClear (pid p))
    pub fetch : Each IsSilent (fetches p)
    pub workers : Each (λ w. Each IsSilent (events_of_worker p w)) (all_workers pair)
    pub unpark : Each IsSilent (unparks p)

  pub process-parts : (p : ℕ) → Each IsSilent (events_of_process pair p) → ProcessSilent p
  process-parts p h =
      let a = each-parts IsSilent (Intake (pid p) ∷ Reap (pid p) ∷ AckClear (pid p) ∷ fetches p ++ flat_map (events_of_worker p) (all_workers pair)) (unparks p) h in
      let b = each-parts IsSilent (Intake (pid p) ∷ Reap (pid p) ∷ AckClear (pid p) ∷ fetches p) (flat_map (events_of_worker p) (all_workers pair)) a.0 in
      record { intake = b.0.0; reap = b.0.1.0; ack_clear = b.0.1.1.0; fetch = b.0.1.1.1; workers = each-flattened IsSilent (events_of_worker p) (all_workers pair) b.1; unpark = a.1 }

  pub process-whole : (p : ℕ) → ProcessSilent p → Each IsSilent (events_of_process pair p)
  process-whole p s =
      each-join IsSilent (Intake (pid p) ∷ Reap (pid p) ∷ AckClear (pid p) ∷ fetches p ++ flat_map (events_of_worker p) (all_workers pair)) (unparks p)
      (each-join IsSilent (Intake (pid p) ∷ Reap (pid p) ∷ AckClear (pid p) ∷ fetches p) (flat_map (events_of_worker p) (all_workers pair))
      (s.intake, (s.reap, (s.ack_clear, s.fetch))) (each-flat IsSilent (events_of_worker p) (all_workers pair) s.workers)) s.unpark

  -- all candidates
  pub record NoneMay : Type 0 where
    pub of_threads : Each (λ t. Each IsSilent (events_of_thread pair t)) threads
    pub of_processes : Each (λ p. Each IsSilent (events_of_process pair p)) processes
    pub of_script : Each IsSilent lines

  pub candidates-parts : Each IsSilent (candidates pair) → NoneMay
  candidates-parts h =
      let a = each-parts IsSilent (flat_map (events_of_thread pair) threads ++ flat_map (events_of_process pair) processes) lines h in
      let b = each-parts IsSilent (flat_map (events_of_thread pair) threads) (flat_map (events_of_process pair) processes) a.0 in
      record { of_threads = each-flattened IsSilent (events_of_thread pair) threads b.0; of_processes = each-flattened IsSilent (events_of_process pair) processes b.1; of_script = a.1 }

  pub candidates-whole : NoneMay → Each IsSilent (candidates pair)
  candidates-whole s =
      each-join IsSilent (flat_map (events_of_thread pair) threads ++ flat_map (events_of_process pair) processes) lines
      (each-join IsSilent (flat_map (events_of_thread pair) threads) (flat_map (events_of_process pair) processes)
      (each-flat IsSilent (events_of_thread pair) threads s.of_threads) (each-flat IsSilent (events_of_process pair) processes s.of_processes)) s.of_script

  -- all actors
  abbrev pub cores : List Actor
  cores = map (λ c. Core c) (count_from 0 pair.cores)

  pub record NoneOffers : Type 0 where
    pub of_cores : Each OffersNone cores
    pub of_processes : Each (λ p. Each OffersNone (actors_of_process pair p)) processes
    pub of_script : OffersNone ScriptActor

  pub actors-parts : Each OffersNone (actors pair) → NoneOffers
  actors-parts h =
      let a = each-parts OffersNone (cores ++ flat_map (actors_of_process pair) processes) (ScriptActor ∷ []) h in
      let b = each-parts OffersNone cores (flat_map (actors_of_process pair) processes) a.0 in
      record { of_cores = b.0; of_processes = each-flattened OffersNone (actors_of_process pair) processes b.1; of_script = a.1.0 }

  pub actors-whole : NoneOffers → Each OffersNone (actors pair)
  actors-whole s =
      each-join OffersNone (cores ++ flat_map (actors_of_process pair) processes) (ScriptActor ∷ [])
      (each-join OffersNone cores (flat_map (actors_of_process pair) processes) s.of_cores (each-flat OffersNone (actors_of_process pair) processes s.of_processes)) (s.of_script, tt)
