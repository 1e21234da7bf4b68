-- Reap in the whole state.
use Rattle.std.specs.FinMap as finmap
use Rattle.hybrid_model.specs.declared.events.Event.TheVariants as Events
use Rattle.hybrid_laws.proofs.reap.Reap as reaping
use Rattle.file_model.specs.Files.{Files, close_all, description_of}
use Rattle.hybrid_laws.proofs.files.Operations.{carries-settled}
use Rattle.hybrid_laws.proofs.maps.Tests.{both}
use Rattle.hybrid_laws.proofs.maps.Totals.{entries-least}
use Rattle.hybrid_laws.proofs.memory.Freeing.{frames_freed, not-kept}
use Rattle.hybrid_laws.proofs.node.Sound.{Sound, sound-of}
use Rattle.hybrid_laws.proofs.reap.EndedNode.{closed-ended, closed-instructions, closed-made, closed-stops, node-closed, told}
use Rattle.hybrid_laws.proofs.reap.Reap.{MayReap, keeps_reap, length-freed, others_reap, simulated_reap}
use Rattle.hybrid_laws.proofs.states.Calls.{Holder, counts_one, holder-of}
use Rattle.hybrid_laws.proofs.states.Node.{Keeping, coherent-later}
use Rattle.hybrid_laws.proofs.states.Pair.{has-side}
use Rattle.hybrid_laws.proofs.states.Steps.{SimulatedPair, simulated-pair}
use Rattle.hybrid_laws.proofs.trap.Goes.{NodeSteps}
use Rattle.hybrid_laws.specs.CallSteps.{Carries}
use Rattle.hybrid_model.specs.Events.{after, may, may_here}
use Rattle.hybrid_model.specs.Globals.{Coherent, Empty, copies, holders, ring_number, table_of}
use Rattle.hybrid_model.specs.Turns.{end_of_found, end_of_target, pipe_end}
use Rattle.hybrid_model.specs.Reap.{emptied, reap}
use Rattle.hybrid_model.specs.Pairs.{Here, Pair, here, side_of}
use Rattle.hybrid_model.specs.Sides.{Noted, Row, Side, Turn, new_side, service_of}
use Rattle.hybrid_model.specs.Spaces.{freed}
use Rattle.kernel_model.specs.Nodes.{Node, is_there}
use Rattle.kernel_model.specs.Traps.{process_ended}
use Rattle.mck_word.specs.MapLaws.{at-none, same_rows}
use Rattle.mck_word.specs.Maps.{at, cut, entries, no_rows}
use Rattle.mck_word.specs.declared.Pid.{Pid}
use Rattle.std.proofs.Common.{ap, arith, refl, sym, ◌∙◌}
use Rattle.std.proofs.lemmas.Bool.Decides.{nat_tests}
use Rattle.std.specs.Ordering.{nat_cmp}
use Rattle.std.specs.Prelude.{Bool, List, None, Option, Some, false, nat_lt, true, unwrap_or, ℕ, ◌<◌, ◌==◌, ◌≡◌, ◌≢◌, ◌≤◌}

module _ (pair : Pair) (c : Coherent pair) (q : Pid) (e : may pair (Events.Reap q) ≡ true) where
  abbrev p : ℕ
  p = q.0

  abbrev h : Here
  h = here pair p

  abbrev old : Side
  old = side_of pair p

  there : is_there pair.node p ≡ true
  there = (both (is_there pair.node p) (may_here (Events.Reap q) h) e).0

  allowed : may_here (Events.Reap q) h ≡ true
  allowed = (both (is_there pair.node p) (may_here (Events.Reap q) h) e).1

  abbrev m : MayReap p h
  m = reaping.w p q h allowed refl

  abbrev side : Side
  side = emptied old

  abbrev node : Node
  node = process_ended p pair.node

  sound : Sound pair.node
  sound = sound-of pair c

  abbrev free : List ℕ
  free = freed old.lwk.table pair.free

  goes : NodeSteps (node-closed pair.node p sound) node
  goes = told pair.node p sound

  apart : (x : ℕ) → p ≢ x → (x == p) ≡ false
  apart x d = go (x == p) refl
    where
      go : (b : Bool) → (x == p) ≡ b → b ≡ false
      go false f = refl
      go true f = absurd (d (let y : x ≡ p = grind (arith, nat_tests, f) in sym y))

  -- no worker, so no noted fault
  none-noted : (v : ℕ) → at old.lwk.noted v ≡ None
  none-noted v = go (at old.lwk.noted v) refl
    where
      go : (o : Option Noted) → at old.lwk.noted v ≡ o → at old.lwk.noted v ≡ None
      go None f = f
      go (Some n) f = absurd (let a = ((c.whole p).served.noted_for v n f).serves in let b = sym (reaping.no-worker p q h allowed refl pair.workers (ring_number pair) (c.whole p) v) ∙ a in grind (arith, b))

  empty : Empty side
  empty = record {
    table = refl;
    mirror = refl;
    pins = same_rows old.linux.pins no_rows (λ v. reaping.no-pinned p q h allowed refl pair.workers (ring_number pair) (c.whole p) v ∙ sym (at-none v));
    round = m.round;
    to_linux = m.to_linux;
    to_lwk = m.to_lwk;
    noted = same_rows old.lwk.noted no_rows (λ v. none-noted v ∙ sym (at-none v));
    workers = same_rows old.linux.workers no_rows (λ v. reaping.no-worker p q h allowed refl pair.workers (ring_number pair) (c.whole p) v ∙ sym (at-none v));
  }

  -- descriptions that calls hold stay
  carried : Carries None None pair.node.files.descriptions (close_all p pair.node.files).descriptions
  carried = carries-settled (record pair.node.files { descriptors = cut pair.node.files.descriptors p })

  turn-held : (t : Turn) (x : ℕ) → at pair.turns x ≡ Some t → (d : ℕ) → (service_of (side_of pair t.process).linux.services t.request).progress.found ≡ Some d → 1 ≤ (description_of pair.node.files d).calls
  turn-held t x i d g =
      let a = entries-least (counts_one d (side_of pair t.process)) (side_of pair t.process).lwk.callers held-by.thread held-by.caller held-by.there in
      let b = held-by.counts in
      let s = entries-least (λ (y : ℕ × Side). holders d y.1) pair.sides t.process (side_of pair t.process) present in
      let f = c.held d in
      omega (arith, a, b, s, f)
    where
      held-by : Holder t.process (side_of pair t.process) pair.node pair.workers (ring_number pair) (c.whole t.process) t.request (c.turns x t i).waits d g
      held-by = holder-of t.process (side_of pair t.process) pair.node pair.workers (ring_number pair) (c.whole t.process) t.request (c.turns x t i).waits d g

      present : at pair.sides t.process ≡ Some (side_of pair t.process)
      present = go (at pair.sides t.process) refl
        where
          go : (o : Option Side) → at pair.sides t.process ≡ o → at pair.sides t.process ≡ Some (side_of pair t.process)
          go (Some s) z = z ∙ ap (λ (o : Option Side). Some (unwrap_or o (new_side 0))) (sym z)
          go None z = absurd (let v = ap (λ (o : Option Side). at (unwrap_or o (new_side 0)).lwk.callers held-by.thread) z in let y = sym held-by.there ∙ v ∙ at-none held-by.thread in grind (arith, y))

  ends-stay : (t : Turn) (x : ℕ) → at pair.turns x ≡ Some t → let j = (service_of (side_of pair t.process).linux.services t.request).progress in pipe_end pair.node.files j ≡ Some x → pipe_end node.files j ≡ Some x
  ends-stay t x i u = ap (λ (f : Files). pipe_end f (service_of (side_of pair t.process).linux.services t.request).progress) goes.files ∙ go (service_of (side_of pair t.process).linux.services t.request).progress.found refl u
    where
      go : (o : Option ℕ) → (service_of (side_of pair t.process).linux.services t.request).progress.found ≡ o → end_of_found pair.node.files o ≡ Some x → end_of_found (close_all p pair.node.files) o ≡ Some x
      go None g k = k
      go (Some d) g k = ap end_of_target (carried.targets d (turn-held t x i d g)) ∙ k

  below : (f : ℕ) → 1 ≤ copies f free → f < pair.node.frame_count
  below f l = go (nat_lt f pair.node.frame_count) refl
    where
      go : (b : Bool) → nat_lt f pair.node.frame_count ≡ b → f < pair.node.frame_count
      go true g = grind (arith, nat_tests, g)
      go false g =
          let s = not-kept (table_of pair) p old.lwk.table refl pair.free c.frames f (λ k r i. differ k r i (f == r.0.0) refl) in
          c.counted.free_below f (omega (arith, l, s))
        where
          differ : (k : ℕ) (r : Row) → at old.lwk.table k ≡ Some r → (b : Bool) → (f == r.0.0) ≡ b → b ≡ false
          differ k r i false z = refl
          differ k r i true z = absurd (let a = c.counted.rows_below p k r i in grind (arith, nat_tests, a, z, g))

  keeping : Keeping pair c p there side node pair.frames free pair.last
  unfolding reap
  keeping = record {
    own = keeps_reap p q h allowed refl pair.workers (ring_number pair) (c.whole p);
    others = λ x d. others_reap p q h allowed refl x (side_of pair x) pair.workers (ring_number pair) d (c.whole x);
    framed = frames_freed (table_of pair) p old.lwk.table refl pair.free c.frames;
    rows_below = λ i r f. absurd (let a = sym (at-none {V = Row} i) ∙ f in grind (arith, a));
    free_below = below;
    counted = (let a = length-freed (entries old.lwk.table) pair.free in let b = finmap.len-entries old.lwk.table in let d = finmap.len-empty nat_cmp Row in omega (arith, a, b, d));
    frame_count = goes.frames;
    made = λ x. goes.made x ∙ closed-made pair.node p sound x;
    ended_others = λ x d f. sym (goes.ended x ∙ closed-ended pair.node p sound x (apart x d)) ∙ f;
    ended_own = λ f. empty;
    rings = refl;
    turns = λ x u. (u, refl);
    ends = ends-stay;
    held = λ d. (let a = carried.calls d in let b = ap (λ (f : Files). (description_of f d).calls) goes.files in omega (arith, a, b));
    calls = c.calls p;
    sound = goes.sound;
    paid = (let a = goes.paid in let b = goes.numbers in let d = closed-stops pair.node p sound in let f = goes.instructions in let g = closed-instructions pair.node p sound in omega (arith, a, b, d, f, g));
    limit = (let a = goes.instructions in let b = closed-instructions pair.node p sound in let d = goes.limit in let f = c.numbers.limit in omega (arith, a, b, d, f));
  }

  pub coherent_reap : Coherent (after pair (Events.Reap q))
  unfolding reap
  coherent_reap = coherent-later pair c p there side node pair.frames free pair.last keeping

  pub simulated_pair_reap : SimulatedPair pair (Events.Reap q)
  unfolding reap
  simulated_pair_reap = simulated-pair pair p (has-side pair c.known p there) (Events.Reap q) refl
      (simulated_reap p q h allowed refl pair.workers (ring_number pair) (c.whole p) refl) refl refl (λ x s n f. refl)
