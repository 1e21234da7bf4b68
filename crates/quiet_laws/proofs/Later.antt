-- What the actors of a process offer after a run whose thread is still ready: what they offered before it.
use Rattle.hybrid_model.specs.Events.{after, may}
use Rattle.hybrid_model.specs.Pairs.{Pair, side_of}
use Rattle.hybrid_model.specs.Run.{run}
use Rattle.hybrid_model.specs.declared.events.Event.TheVariants.{Run}
use Rattle.hybrid_model.specs.declared.events.Event.{Event}
use Rattle.kernel_model.specs.Nodes.{Node, ready_to_run, thread_of}
use Rattle.mck_word.specs.Identifiers.{pid}
use Rattle.mck_word.specs.Maps.{keys}
use Rattle.mck_word.specs.declared.Tid.{Tid}
use Rattle.quiet_laws.proofs.Asked.{asks, asks-may, asks-plain, of_process_actor}
use Rattle.quiet_laws.proofs.Own.{kernel-finds, kernel_events, linux-finds, linux_events, worker-finds}
use Rattle.quiet_laws.proofs.Plain.{plain, thread-plain, threads-plain}
use Rattle.quiet_laws.proofs.Running.{later-plain, later-side}
use Rattle.quiet_laws.specs.Quiet.{IsQuiet}
use Rattle.run_model.specs.Walks.{Chosen, actors_of_process, all_workers, first_chosen, first_that_may, kernel_offer, linux_offer, offer, thread_numbers, worker_offer}
use Rattle.run_model.specs.declared.actors.Actor.TheVariants.{Kernel, Linux, Worker}
use Rattle.run_model.specs.declared.actors.Actor.{Actor}
use Rattle.std.proofs.Common.{ap, refl, sym, ◌∙◌}
use Rattle.std.specs.Prelude.{List, None, Option, Some, [], filter, map, true, ℕ, ◌==◌, ◌∷◌, ◌≡◌}

module _ (pair : Pair) (core : ℕ) (t : Tid) (n : ℕ) (m : may pair (Run core t n) ≡ true) (ready : ready_to_run (thread_of (after pair (Run core t n)).node t.0).does ≡ true) where
  abbrev later : Pair
  later = after pair (Run core t n)

  may-same : (e : Event) → of_process_actor e ≡ true → may later e ≡ may pair e
  unfolding run
  may-same e h =
      asks-may later e h
      ∙ asks-plain later.node (side_of later) pair.turns pair.workers e h
      ∙ (λ i. asks (later-plain pair core t n m ready i) (λ q. later-side pair core t n q i) pair.turns pair.workers e)
      ∙ sym (asks-plain pair.node (side_of pair) pair.turns pair.workers e h)
      ∙ sym (asks-may pair e h)

  -- the threads of a process
  numbers-plain : (node : Node) (p : ℕ) → filter (λ u. (thread_of node u).process == p) (keys node.threads)
      ≡ filter (λ u. (thread_of (plain node) u).process == p) (keys (plain node).threads)
  numbers-plain node p = λ i. filter (λ u. (thread-plain node u i).process == p) (threads-plain node i)

  numbers-same : (p : ℕ) → thread_numbers later p ≡ thread_numbers pair p
  numbers-same p =
      numbers-plain later.node p
      ∙ ap (λ (a : Node). filter (λ u. (thread_of a u).process == p) (keys a.threads)) (later-plain pair core t n m ready)
      ∙ sym (numbers-plain pair.node p)

  module _ (p : ℕ) where
    kernel-same : kernel_offer later p ≡ kernel_offer pair p
    unfolding run
    kernel-same = ap (λ ts. first_that_may later (kernel_events pair p ts)) (numbers-same p) ∙ kernel-finds (may later) (may pair) pair p (λ e h _. may-same e h)

    linux-same : linux_offer later p ≡ linux_offer pair p
    unfolding run
    linux-same =
        ap (λ side. first_that_may later (linux_events pair p (keys side.book.rows))) (later-side pair core t n p)
        ∙ linux-finds (may later) (may pair) pair p (λ e h _. may-same e h) (keys (side_of pair p).book.rows)

    worker-same : (w : ℕ) → worker_offer later p w ≡ worker_offer pair p w
    worker-same w = worker-finds (may later) (may pair) pair p (λ e h _. may-same e h) w

    -- the first choice among the actors
    abbrev SameChoice : List Actor → Type 0
    SameChoice as_ = first_chosen later as_ ≡ first_chosen pair as_

    chosen-same : (a : Actor) (as_ : List Actor) → offer later a ≡ offer pair a → SameChoice as_ → SameChoice (a ∷ as_)
    chosen-same a as_ e h = λ i. elim (elim (e i) as (λ _. Option Chosen) [ None ↦ None | Some d ↦ Some (record { actor = a; event = d }) ]) as (λ _. Option Chosen) [ None ↦ h i | Some c ↦ Some c ]

    workers-same : (ws : List ℕ) → SameChoice (map (λ w. Worker (pid p) w) ws)
    workers-same [] = refl
    workers-same (w ∷ ws) = chosen-same (Worker (pid p) w) (map (λ v. Worker (pid p) v) ws) (worker-same w) (workers-same ws)

    process-same : first_chosen later (actors_of_process later p) ≡ first_chosen pair (actors_of_process pair p)
    unfolding run
    process-same =
        let ws = map (λ w. Worker (pid p) w) (all_workers pair) in
        chosen-same (Kernel (pid p)) (Linux (pid p) ∷ ws) kernel-same (chosen-same (Linux (pid p)) ws linux-same (workers-same (all_workers pair)))

  pub stays-quiet : IsQuiet pair → IsQuiet (after pair (Run core t n))
  stays-quiet quiet = λ p. process-same p ∙ quiet p
