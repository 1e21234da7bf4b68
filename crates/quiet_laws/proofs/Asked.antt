-- What the tests of the events of a process's actors read: the plain node, the sides, the turns and the number of workers.
use Rattle.hybrid_model.specs.Events.{may, may_here, process_of_event}
use Rattle.hybrid_model.specs.Interrupt.{caller_at, is_calling}
use Rattle.hybrid_model.specs.Pairs.{Here, Pair, side_of}
use Rattle.hybrid_model.specs.Rings.{all_empty}
use Rattle.hybrid_model.specs.Sides.{Side, Turn}
use Rattle.hybrid_model.specs.declared.events.Event.TheVariants.{AckClear, Act, Answer, Assign, BeginVm, Copy, Deliver, Fetch, Finish, Intake, Interrupt, Miss, Park, Pin, Reap, Run, Script, Trap, Unpark, Unpin, Wait}
use Rattle.hybrid_model.specs.declared.events.Event.{Event}
use Rattle.kernel_model.specs.Nodes.{Node, Process, Thread, change_in, dying, has_thread, is_there, lives, process_of, rests, thread_of}
use Rattle.kernel_model.specs.Signals.{next_of_sets}
use Rattle.kernel_model.specs.Traps.{may_end_wait_of, wait_of}
use Rattle.mck_word.specs.Maps.{Map, no_rows}
use Rattle.quiet_laws.proofs.Plain.{called-plain, has-plain, plain, plain_thread, process-plain, there-plain, thread-plain, wait-plain}
use Rattle.std.proofs.Common.{ap, arith, refl, ◌∙◌}
use Rattle.std.specs.Prelude.{Bool, None, [], cond, false, is_none, is_some, length, not, true, ℕ, ◌&&◌, ◌==◌, ◌||◌, ◌≡◌}

-- an event of a process's kernel, of its Linux side or of one of its workers
abbrev pub of_process_actor : Event → Bool
of_process_actor (Run core t n) = false
of_process_actor (Trap t) = false
of_process_actor (Deliver t) = false
of_process_actor (Script k) = false
of_process_actor _ = true

abbrev asked_here : Node → Side → Map Turn → ℕ → Here
asked_here node side turns workers = record {
  side = side;
  node = node;
  frames = no_rows;
  free = [];
  turns = turns;
  last = no_rows;
  cores = 0;
  workers = workers;
  rings = 0;
  born = None;
}

-- the test of an event, by what it reads
abbrev pub asks : Node → (ℕ → Side) → Map Turn → ℕ → Event → Bool
asks node sides turns workers e =
    let p = process_of_event node e in is_there node p && may_here e (asked_here node (sides p) turns workers)

pub asks-may : (pair : Pair) (e : Event) → of_process_actor e ≡ true → may pair e ≡ asks pair.node (side_of pair) pair.turns pair.workers e
asks-may pair (Run core t n) e = absurd (grind (arith, e))
asks-may pair (Trap t) e = absurd (grind (arith, e))
asks-may pair (Deliver t) e = absurd (grind (arith, e))
asks-may pair (Script k) e = absurd (grind (arith, e))
asks-may pair (Intake q) e = refl
asks-may pair (Answer q w) e = refl
asks-may pair (BeginVm t) e = refl
asks-may pair (Interrupt t) e = refl
asks-may pair (Wait t) e = refl
asks-may pair (Reap q) e = refl
asks-may pair (Fetch q r) e = refl
asks-may pair (Assign q w) e = refl
asks-may pair (Miss q w) e = refl
asks-may pair (Pin q w) e = refl
asks-may pair (Copy q w) e = refl
asks-may pair (Unpin q w) e = refl
asks-may pair (Act q w) e = refl
asks-may pair (Park q w) e = refl
asks-may pair (Unpark q n) e = refl
asks-may pair (Finish q w) e = refl
asks-may pair (AckClear q) e = refl

-- ---- the three events of a thread, by whether it is there and what it is
module _ (sides : ℕ → Side) (t : ℕ) where
  abbrev begins : Node → Bool → Thread → Bool
  begins node has x =
      is_there node x.process && (has && is_some (change_in x.does) && lives (process_of node x.process).life && is_none (sides x.process).round)

  abbrev is_next : Process → Thread → Bool
  is_next p x = is_some (next_of_sets x.pending p.pending x.mask)

  abbrev interrupts : Node → Bool → Thread → Bool
  interrupts node has x = let p = process_of node x.process in is_there node x.process
      && cond (is_calling (sides x.process) t) (not (caller_at (sides x.process) t).marked && (is_next p x || dying p.life))
      (has && rests x.does && lives p.life && is_next p x)

  abbrev waits : Node → Bool → Thread → Bool
  waits node has x = is_there node x.process && (has && lives (process_of node x.process).life && may_end_wait_of node x.process (wait_of x.does))

  module _ (node : Node) where
    -- a test of the thread holds of the plain node and the plain thread as well
    of-plain : (test : Node → Bool → Thread → Bool) → ((has : Bool) (x : Thread) → test node has x ≡ test (plain node) has (plain_thread x))
        → test node (has_thread node t) (thread_of node t) ≡ test (plain node) (has_thread (plain node) t) (thread_of (plain node) t)
    of-plain test same = same (has_thread node t) (thread_of node t) ∙ (λ i. test (plain node) (has-plain node t i) (thread-plain node t i))

    begins-plain : (has : Bool) (x : Thread) → begins node has x ≡ begins (plain node) has (plain_thread x)
    begins-plain has x = λ i. there-plain node x.process i
        && (has && is_some (change_in x.does) && lives (process-plain node x.process i).life && is_none (sides x.process).round)

    interrupts-plain : (has : Bool) (x : Thread) → interrupts node has x ≡ interrupts (plain node) has (plain_thread x)
    interrupts-plain has x = λ i. there-plain node x.process i
        && cond (is_calling (sides x.process) t)
        (not (caller_at (sides x.process) t).marked && (is_next (process-plain node x.process i) x || dying (process-plain node x.process i).life))
        (has && rests x.does && lives (process-plain node x.process i).life && is_next (process-plain node x.process i) x)

    waits-plain : (has : Bool) (x : Thread) → waits node has x ≡ waits (plain node) has (plain_thread x)
    waits-plain has x = λ i. there-plain node x.process i
        && (has && lives (process-plain node x.process i).life && wait-plain node x.process (wait_of x.does) i)

-- ---- each test reads the plain node alone
module _ (node : Node) (sides : ℕ → Side) (turns : Map Turn) (workers : ℕ) where
  -- a test of the process's side, of the turns and the files
  of-side : (e : Event) (p : ℕ) → is_there node p && may_here e (asked_here node (sides p) turns workers) ≡ is_there (plain node) p && may_here e (asked_here node (sides p) turns workers)
  of-side e p = ap (λ b. b && may_here e (asked_here node (sides p) turns workers)) (there-plain node p)

  pub asks-plain : (e : Event) → of_process_actor e ≡ true → asks node sides turns workers e ≡ asks (plain node) sides turns workers e
  asks-plain (Run core t n) e = absurd (grind (arith, e))
  asks-plain (Trap t) e = absurd (grind (arith, e))
  asks-plain (Deliver t) e = absurd (grind (arith, e))
  asks-plain (Script k) e = absurd (grind (arith, e))
  asks-plain (BeginVm t) e = of-plain sides t.0 node (begins sides t.0) (begins-plain sides t.0 node)
  asks-plain (Interrupt t) e = of-plain sides t.0 node (interrupts sides t.0) (interrupts-plain sides t.0 node)
  asks-plain (Wait t) e = of-plain sides t.0 node (waits sides t.0) (waits-plain sides t.0 node)
  asks-plain (Reap q) e = λ i. there-plain node q.0 i && (dying (process-plain node q.0 i).life && not (called-plain node q.0 i)
      && is_none (sides q.0).round && all_empty (sides q.0).to_linux && length (sides q.0).to_lwk == 0)
  asks-plain (Intake q) e = of-side (Intake q) q.0
  asks-plain (Answer q w) e = of-side (Answer q w) q.0
  asks-plain (Fetch q r) e = of-side (Fetch q r) q.0
  asks-plain (Assign q w) e = of-side (Assign q w) q.0
  asks-plain (Miss q w) e = of-side (Miss q w) q.0
  asks-plain (Pin q w) e = of-side (Pin q w) q.0
  asks-plain (Copy q w) e = of-side (Copy q w) q.0
  asks-plain (Unpin q w) e = of-side (Unpin q w) q.0
  asks-plain (Act q w) e = of-side (Act q w) q.0
  asks-plain (Park q w) e = of-side (Park q w) q.0
  asks-plain (Unpark q n) e = of-side (Unpark q n) q.0
  asks-plain (Finish q w) e = of-side (Finish q w) q.0
  asks-plain (AckClear q) e = of-side (AckClear q) q.0
