-- Intake of an Ack in the whole state.
use Rattle.hybrid_model.specs.declared.events.Event.TheVariants as Events
use Rattle.kernel_model.specs.declared.steps.Step.TheVariants as OneSteps
use Rattle.hybrid_laws.proofs.intake.Ack as ack
use Rattle.file_model.specs.Files.{Files, description_of}
use Rattle.hybrid_laws.proofs.calls.Closed.{finishes-closed}
use Rattle.hybrid_laws.proofs.intake.Ack.{ack-is, fits_at_end, is-none}
use Rattle.hybrid_laws.proofs.maps.Tests.{some-is}
use Rattle.hybrid_laws.proofs.memory.EffectCounts.{absent-at-end}
use Rattle.hybrid_laws.proofs.node.Goes.{GoesAwake, GoesOn, IsAwake, goes-closed}
use Rattle.hybrid_laws.proofs.node.Sound.{Sound, goes-sound, goes-stays, is-awake, same-ended, same-instructions, same-made, sound-of, stopped-less}
use Rattle.hybrid_laws.proofs.node.Threads.{thread-is}
use Rattle.hybrid_laws.proofs.states.Effect.{below-after, break-sound, counted-after, framed-effect, set-ended, set-instructions, set-made, shown-else}
use Rattle.hybrid_laws.proofs.states.Node.{Keeping, coherent-later}
use Rattle.hybrid_laws.proofs.states.Pair.{has-side, there-has, there-open}
use Rattle.hybrid_laws.proofs.states.Quiet.{own-frames, sleeping-after}
use Rattle.hybrid_laws.proofs.states.Steps.{AtMostOne, SimulatedPair, simulated-pair}
use Rattle.hybrid_laws.proofs.states.Turns.{holders-same}
use Rattle.hybrid_model.specs.Coherence.{OfProcess}
use Rattle.hybrid_model.specs.Events.{after, after_here}
use Rattle.hybrid_model.specs.Globals.{CallsHold, Coherent, HeapHolds, StatusHolds, description_held, holders, ring_number, table_of}
use Rattle.hybrid_model.specs.Images.{image_here}
use Rattle.hybrid_model.specs.Intake.{image_of_intake}
use Rattle.hybrid_model.specs.Turns.{pipe_end}
use Rattle.hybrid_model.specs.Intake.{changed, intake, round_over}
use Rattle.hybrid_model.specs.OneProcess.{memory_here, set_break, space_here}
use Rattle.hybrid_model.specs.Pairs.{Here, Pair, here, put_here, side_of, with_side}
use Rattle.hybrid_model.specs.Shown.{shown_own, status_of}
use Rattle.hybrid_model.specs.Sides.{Caller, Row, Side, service_of}
use Rattle.hybrid_model.specs.Spaces.{Space, after_effect}
use Rattle.ikc_ring.specs.declared.Msg.TheVariants.{Ack}
use Rattle.ikc_ring.specs.declared.Msg.{Msg}
use Rattle.isa_model.specs.Memory.{Memory}
use Rattle.kernel_model.specs.MemoryCalls.{Effect, answer_of_change, effect_of, most_heap, refusal_at_end}
use Rattle.kernel_model.specs.Nodes.{Node, Process, Thread, is_asleep, is_there, no_process, process_of}
use Rattle.kernel_model.specs.Traps.{finishes}
use Rattle.kernel_model.specs.declared.Change.TheVariants.{Brk, Map as ChangeMap, Protect, Unmap}
use Rattle.kernel_model.specs.declared.Change.{Change}
use Rattle.mck_word.specs.Identifiers.{tid}
use Rattle.mck_word.specs.Maps.{Map, at}
use Rattle.mck_word.specs.declared.Pid.{Pid}
use Rattle.std.proofs.Common.{ap, arith, refl, subst, sym, ◌∙◌}
use Rattle.std.proofs.lemmas.Bool.Decides.{nat_tests}
use Rattle.std.specs.Prelude.{List, None, Option, Some, [], false, length, nat_lt, pos, true, unwrap_or, ℕ, ℤ, ◌+◌, ◌<◌, ◌==◌, ◌∷◌, ◌≡◌, ◌≤◌}

-- the break after a change that is made is in bounds, where the one before was
pub break-bound : (x : Process) → HeapHolds x → (m : Memory) (free : ℕ) (c : Change) → refusal_at_end x m free c ≡ None → (effect_of x c).program_break ≤ x.heap_base + most_heap
break-bound x h m free (ChangeMap r rights) none = h.below
break-bound x h m free (Unmap r) none = h.below
break-bound x h m free (Protect r rights) none = h.below
break-bound x h m free (Brk a) none =
    let l : a < x.program_break = (let t = is-none (nat_lt a x.program_break) (pos x.program_break) none in grind (arith, nat_tests, t)) in
    let b = h.below in omega (arith, l, b)

module _ (pair : Pair) (c : Coherent pair) (q : Pid) (there : is_there pair.node q.0 ≡ true) (rest : List Msg) (first : (side_of pair q.0).to_lwk ≡ Ack ∷ rest) where
  abbrev p : ℕ
  p = q.0

  abbrev h : Here
  h = here pair p

  abbrev k : OfProcess p h.side h.node pair.workers (ring_number pair)
  k = c.whole p

  made : (x : Process) × (at pair.node.processes p ≡ Some x)
  made = some-is (at pair.node.processes p) (there-has pair.node p there)

  process-is : process_of pair.node p ≡ made.0
  process-is = ap (λ (o : Option Process). unwrap_or o no_process) made.1

  heap : HeapHolds (process_of pair.node p)
  heap = subst HeapHolds (sym process-is) (c.heaps p made.0 made.1)

  abbrev thread : ℕ
  thread = ack.t p h pair.workers (ring_number pair) k rest first heap

  abbrev change : Change
  change = ack.c p h pair.workers (ring_number pair) k rest first heap

  abbrev e : Effect
  e = effect_of (process_of pair.node p) change

  abbrev refusal : Option ℤ
  refusal = refusal_at_end (process_of pair.node p) (memory_here h) (length h.free) change

  awake : IsAwake thread pair.node
  awake =
      let w = (ack.w p h pair.workers (ring_number pair) k rest first heap).owns in
      is-awake pair.node thread w.thread w.there (ap is_asleep w.does) c.sleeping

  abbrev over : Side
  over = round_over rest h.side

  after-is : after pair (Events.Intake q) ≡ put_here pair p (changed p thread change refusal (with_side h over))
  after-is = ap (λ (ms : List Msg). put_here pair p (intake p ms h)) first ∙ ap (put_here pair p) (ack.ack-is p h pair.workers (ring_number pair) k rest first heap)

  -- the calls, whatever the table
  module _ (table : Map Row) where
    abbrev side : Side
    side = record h.side { lwk = record h.side.lwk { table = table; changing = None }; round = None; to_lwk = rest }

    same-status : (u : ℕ) (x : Caller) → at h.side.lwk.callers u ≡ Some x → status_of side x.request ≡ status_of h.side x.request
    same-status u x f = rw first refl

    held-same : (d : ℕ) → holders d side ≡ holders d h.side
    held-same d = holders-same side h.side refl (λ u x f. ap description_held (same-status u x f)) d

    calls-hold : CallsHold side
    calls-hold u x f = subst StatusHolds (sym (same-status u x f)) (c.calls p u x f)

  -- ---- refused at the end
  module _ (answer : ℤ) where
    abbrev node : Node
    node = finishes thread answer pair.node

    goes : GoesAwake thread pair.node node
    goes = finishes-closed thread (GoesAwake thread) (GoesOn thread) (goes-closed thread) pair.node answer

    refused : refusal ≡ Some answer → Keeping pair c p there (side h.side.lwk.table) node pair.frames pair.free pair.last
    refused r =
        let stays = goes-stays pair.node node goes.goes in
        record {
          own = subst (λ (o : Option ℤ). OfProcess p (changed p thread change o (with_side h over)).side (changed p thread change o (with_side h over)).node pair.workers (ring_number pair)) r (ack.keeps-changed p h pair.workers (ring_number pair) k rest first heap refusal refl);
          others = λ x d. ack.others-changed p h pair.workers (ring_number pair) k rest first heap (Some answer) x (side_of pair x) pair.workers (ring_number pair) d (c.whole x);
          framed = own-frames pair c p;
          rows_below = c.counted.rows_below p;
          free_below = c.counted.free_below;
          counted = refl;
          frame_count = goes.goes.frames;
          made = same-made pair.node node stays;
          ended_others = λ x d f. sym (same-ended pair.node node stays x) ∙ f;
          ended_own = λ f. absurd (let a = there-open pair.node p there in let b = sym (same-ended pair.node node stays p) ∙ f in grind (arith, a, b));
          rings = refl;
          turns = λ x u. (u, refl);
          ends = λ t e i u. ap (λ (f : Files). pipe_end f (service_of (side_of pair t.process).linux.services t.request).progress) goes.goes.files ∙ u;
          held = λ d. (let a = held-same h.side.lwk.table d in let b = ap (λ (f : Files). (description_of f d).calls) goes.goes.files in omega (arith, a, b));
          calls = calls-hold h.side.lwk.table;
          sound = goes-sound pair.node node goes.goes (sound-of pair c) (sleeping-after thread pair.node node goes awake c.sleeping);
          paid = (let a = stopped-less pair.node node goes.goes in let b = same-instructions pair.node node goes.goes in let d = goes.goes.next in omega (arith, a, b, d));
          limit = (let a = same-instructions pair.node node goes.goes in let b = goes.goes.limit in let d = c.numbers.limit in omega (arith, a, b, d));
        }

  -- ---- made
  abbrev set : Node
  set = set_break p e.program_break pair.node

  abbrev done : Node
  done = finishes thread (answer_of_change change) set

  done-goes : GoesAwake thread set done
  done-goes = finishes-closed thread (GoesAwake thread) (GoesOn thread) (goes-closed thread) set (answer_of_change change)

  set-sound : refusal ≡ None → Sound set
  set-sound r = break-sound pair.node p e.program_break (λ x f. (let b = break-bound (process_of pair.node p) heap (memory_here h) (length h.free) change r in let g = sym made.1 ∙ f in let z : made.0 ≡ x = cc in
      let y = ap (λ (w : Process). w.heap_base) (process-is ∙ z) in omega (arith, b, y))) (sound-of pair c)

  abbrev sp : Space
  sp = after_effect e (space_here h)

  made-change : refusal ≡ None → Keeping pair c p there (side sp.table) done sp.frames sp.free pair.last
  made-change r =
      let stays = goes-stays set done done-goes.goes in
      let l = fits_at_end (process_of pair.node p) (space_here h) change r in
      let none = absent-at-end (process_of pair.node p) (space_here h) change r in
      let ended = λ (x : ℕ). same-ended set done stays x ∙ set-ended pair.node p e.program_break x in
      record {
        own = subst (λ (o : Option ℤ). OfProcess p (changed p thread change o (with_side h over)).side (changed p thread change o (with_side h over)).node pair.workers (ring_number pair)) r (ack.keeps-changed p h pair.workers (ring_number pair) k rest first heap refusal refl);
        others = λ x d. ack.others-changed p h pair.workers (ring_number pair) k rest first heap None x (side_of pair x) pair.workers (ring_number pair) d (c.whole x);
        framed = framed-effect pair c p e l none;
        rows_below = (below-after pair c p e l none).rows;
        free_below = (below-after pair c p e l none).free;
        counted = counted-after pair c p e l none;
        frame_count = done-goes.goes.frames;
        made = λ x. same-made set done stays x ∙ set-made pair.node p e.program_break x;
        ended_others = λ x d f. sym (ended x) ∙ f;
        ended_own = λ f. absurd (let a = there-open pair.node p there in let b = sym (ended p) ∙ f in grind (arith, a, b));
        rings = refl;
        turns = λ x u. (u, refl);
        ends = λ t e i u. ap (λ (f : Files). pipe_end f (service_of (side_of pair t.process).linux.services t.request).progress) done-goes.goes.files ∙ u;
        held = λ d. (let a = held-same sp.table d in let b = ap (λ (f : Files). (description_of f d).calls) done-goes.goes.files in omega (arith, a, b));
        calls = calls-hold sp.table;
        sound = goes-sound set done done-goes.goes (set-sound r) (sleeping-after thread set done done-goes awake (set-sound r).sleeping);
        paid = (let a = stopped-less set done done-goes.goes in let b = same-instructions set done done-goes.goes in let d = done-goes.goes.next in let f = set-instructions pair.node p e.program_break in omega (arith, a, b, d, f));
        limit = (let a = same-instructions set done done-goes.goes in let b = done-goes.goes.limit in let d = c.numbers.limit in let f = set-instructions pair.node p e.program_break in omega (arith, a, b, d, f));
      }

  -- ---- together
  coherent-changed : (o : Option ℤ) → refusal ≡ o → Coherent (put_here pair p (changed p thread change o (with_side h over)))
  coherent-changed (Some answer) r = coherent-later pair c p there (side h.side.lwk.table) (node answer) pair.frames pair.free pair.last (refused answer r)
  coherent-changed None r = coherent-later pair c p there (side sp.table) done sp.frames sp.free pair.last (made-change r)

  pub coherent_intake_ack : Coherent (after pair (Events.Intake q))
  coherent_intake_ack = subst Coherent (sym after-is) (coherent-changed refusal refl)

  pub simulated_pair_ack : SimulatedPair pair (Events.Intake q)
  simulated_pair_ack = simulated-pair pair p (has-side pair c.known p there) (Events.Intake q) refl (ack.simulated_ack p h pair.workers (ring_number pair) k rest first heap (table_of pair) (own-frames pair c p) refl) most
      (ap (λ (y : Here). y.born) whole ∙ unborn refusal) (λ x s m f. ap (λ (y : Here). shown_own y.frames s) whole ∙ others refusal refl x s m f)
    where
      whole : after_here (Events.Intake q) p h ≡ changed p thread change refusal (with_side h over)
      whole = ap (λ (ms : List Msg). intake p ms h) first ∙ ack.ack-is p h pair.workers (ring_number pair) k rest first heap

      unborn : (o : Option ℤ) → (changed p thread change o (with_side h over)).born ≡ None
      unborn None = refl
      unborn (Some a) = refl

      others : (o : Option ℤ) → refusal ≡ o → (x : ℕ) (s : Side) → (x == p) ≡ false → at pair.sides x ≡ Some s → shown_own (changed p thread change o (with_side h over)).frames s ≡ shown_own pair.frames s
      others (Some a) r x s m f = refl
      others None r x s m f = shown-else pair c p e (fits_at_end (process_of pair.node p) (space_here h) change r) x s m f

      most : AtMostOne pair.node p (image_here (Events.Intake q) p h)
      most =
          let w = ack.w p h pair.workers (ring_number pair) k rest first heap in
          subst (AtMostOne pair.node p) (sym (ap (λ (ms : List Msg). image_of_intake ms h.side) first ∙ ap (λ (o : Option ℕ). OneSteps.VmFinish (tid (unwrap_or o 0)) ∷ []) w.changing))
          (ap (λ (z : Thread). z.process) (thread-is pair.node thread w.owns.thread w.owns.there) ∙ w.owns.own)
