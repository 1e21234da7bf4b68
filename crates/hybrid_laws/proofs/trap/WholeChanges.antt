-- Trap in the whole state, where it changes the memory at once.
use Rattle.hybrid_model.specs.declared.events.Event.TheVariants as Events
use Rattle.hybrid_laws.proofs.trap.Changes as changes
use Rattle.file_model.specs.Files.{Files, description_of}
use Rattle.hybrid_laws.proofs.calls.Closed.{finishes-closed}
use Rattle.hybrid_laws.proofs.maps.Tests.{both}
use Rattle.hybrid_laws.proofs.memory.EffectCounts.{Absent, absent-now}
use Rattle.hybrid_laws.proofs.node.Goes.{GoesAwake, GoesOn, IsAwake, goes-closed}
use Rattle.hybrid_laws.proofs.node.Sound.{Sound, node-holds, sound-of}
use Rattle.hybrid_laws.proofs.node.Threads.{thread-is}
use Rattle.hybrid_laws.proofs.states.Effect.{below-after, break-sound, counted-after, framed-effect, set-ended, set-instructions, set-made, shown-else}
use Rattle.hybrid_laws.proofs.states.Node.{Keeping, coherent-later}
use Rattle.hybrid_laws.proofs.states.Pair.{has-side, there-open}
use Rattle.hybrid_laws.proofs.states.Quiet.{own-frames}
use Rattle.hybrid_laws.proofs.states.Steps.{SimulatedPair, simulated-pair}
use Rattle.hybrid_laws.proofs.trap.Begins.{Traps, may-traps}
use Rattle.hybrid_laws.proofs.trap.Changes.{keeps_changes, now-fits, others_changes}
use Rattle.hybrid_laws.proofs.trap.DecideSays.{NowSays}
use Rattle.hybrid_laws.proofs.trap.DoneAtOnce.{awake-steps, awake-stopped, past-steps}
use Rattle.hybrid_laws.proofs.trap.Goes.{NodeSteps}
use Rattle.hybrid_laws.proofs.trap.Says.{TrappedSays, call_regs, trap-says}
use Rattle.hybrid_laws.proofs.trap.Trap.{simulated_trap}
use Rattle.hybrid_model.specs.Events.{after, may, may_here}
use Rattle.hybrid_model.specs.Globals.{Coherent, holders, ring_number, table_of}
use Rattle.hybrid_model.specs.Turns.{pipe_end}
use Rattle.hybrid_model.specs.OneProcess.{memory_here, ran_last, set_break, space_here, view_here}
use Rattle.hybrid_model.specs.Trap.{after_trap, trapped}
use Rattle.hybrid_model.specs.Pairs.{Here, Pair, here, put_here, side_of}
use Rattle.hybrid_model.specs.Shown.{shown_own}
use Rattle.hybrid_model.specs.Sides.{Side, service_of}
use Rattle.hybrid_model.specs.Spaces.{Space, after_effect, drop_page}
use Rattle.kernel_model.specs.MemoryCalls.{Effect, answer_of_change, effect_of, most_heap}
use Rattle.kernel_model.specs.Nodes.{Node, Process, Thread, is_ended, is_there, no_process, process_of, thread_of}
use Rattle.kernel_model.specs.Spaces.{each_in}
use Rattle.kernel_model.specs.Traps.{Changes, Trapped, arguments_of, finishes, past_ecall, trap}
use Rattle.kernel_model.specs.declared.Change.{Change}
use Rattle.mck_word.specs.Maps.{Map, at, put}
use Rattle.mck_word.specs.declared.Tid.{Tid}
use Rattle.std.proofs.Common.{ap, arith, refl, subst, sym, ◌∙◌}
use Rattle.std.specs.Prelude.{List, Option, Some, length, true, unwrap_or, ℕ, ◌%◌, ◌+◌, ◌-◌, ◌≡◌, ◌≤◌}
use Rattle.system_calls.specs.declared.MemoryCall.{MemoryCall}

module _ (pair : Pair) (c : Coherent pair) (t : Tid) (allowed : may pair (Events.Trap t) ≡ true) (change : Change) where
  abbrev p : ℕ
  p = (thread_of pair.node t.0).process

  abbrev h : Here
  h = here pair p

  there : is_there pair.node p ≡ true
  there = (both (is_there pair.node p) (may_here (Events.Trap t) h) allowed).0

  allowed-here : may_here (Events.Trap t) h ≡ true
  allowed-here = (both (is_there pair.node p) (may_here (Events.Trap t) h) allowed).1

  abbrev x : Traps pair.node t.0
  x = may-traps pair.node t.0 allowed-here

  own-process : x.thread.process ≡ p
  own-process = sym (ap (λ (z : Thread). z.process) (thread-is pair.node t.0 x.thread x.there))

  abbrev behind : Node
  behind = (past_ecall t.0 (view_here h)).node

  past : NodeSteps pair.node behind
  past = past-steps t.0 (view_here h) (sound-of pair c) x.thread x.there x.stop x.stopped

  awake : IsAwake t.0 behind
  awake = awake-stopped t.0 (view_here h) (sound-of pair c) x.thread x.there x.stop x.stopped

  abbrev last : Map ℕ
  last = put pair.last (t.0 % pair.cores) t.0

  module _ (is : trap t.0 (length pair.free) (view_here h) ≡ Changes behind change) where
    trap-said : TrappedSays t.0 (length pair.free) (view_here h) (Changes behind change)
    trap-said = subst (TrappedSays t.0 (length pair.free) (view_here h)) is (trap-says t.0 (length pair.free) (view_here h))

    abbrev call : MemoryCall
    call = trap-said.1

    abbrev arguments : List ℕ
    arguments = arguments_of (call_regs t.0 pair.node)

    now : NowSays (process_of behind p) (memory_here h) (length h.free) change
    now = changes.says p t.0 h x own-process behind change refl call arguments trap-said.2

    abbrev e : Effect
    e = effect_of (process_of behind p) change

    fits : e.added.hi - e.added.lo ≤ length (each_in drop_page e.dropped (space_here h)).free
    fits = now-fits (process_of behind p) change (space_here h) now

    none : Absent e (space_here h)
    none = absent-now (process_of behind p) (space_here h) change now

    abbrev sp : Space
    sp = after_effect e (space_here h)

    abbrev set : Node
    set = set_break p e.program_break behind

    abbrev done : Node
    done = finishes t.0 (answer_of_change change) set

    goes : GoesAwake t.0 set done
    goes = finishes-closed t.0 (GoesAwake t.0) (GoesOn t.0) (goes-closed t.0) set (answer_of_change change)

    set-sound : Sound set
    set-sound = break-sound behind p e.program_break bound past.sound
      where
        bound : (y : Process) → at behind.processes p ≡ Some y → e.program_break ≤ y.heap_base + most_heap
        bound y f =
            let s : process_of behind p ≡ y = ap (λ (o : Option Process). unwrap_or o no_process) f in
            let l = now.bound (subst (λ (z : Process). z.program_break ≤ z.heap_base + most_heap) (sym s) (past.sound.heaps p y f).below) in
            let b = ap (λ (z : Process). z.heap_base) s in
            omega (arith, l, b)

    finished : NodeSteps set done
    finished = awake-steps t.0 set done set-sound awake goes

    abbrev side : Side
    side = record h.side { lwk = record h.side.lwk { table = sp.table } }

    ended : (q : ℕ) → is_ended done q ≡ is_ended pair.node q
    ended q = finished.ended q ∙ set-ended behind p e.program_break q ∙ past.ended q

    keeping : Keeping pair c p there side done sp.frames sp.free last
    keeping = record {
      own = keeps_changes p t.0 h x own-process behind change refl call arguments trap-said.2 pair.workers (ring_number pair) (c.whole p);
      others = λ q d. others_changes p t.0 h x own-process behind change refl call arguments trap-said.2 q (side_of pair q) pair.workers (ring_number pair) (c.whole q);
      framed = framed-effect pair c p e fits none;
      rows_below = (below-after pair c p e fits none).rows;
      free_below = (below-after pair c p e fits none).free;
      counted = counted-after pair c p e fits none;
      frame_count = finished.frames;
      made = λ q. finished.made q ∙ set-made behind p e.program_break q ∙ past.made q;
      ended_others = λ q d f. sym (ended q) ∙ f;
      ended_own = λ f. absurd (let a = there-open pair.node p there in let b = sym (ended p) ∙ f in grind (arith, a, b));
      rings = refl;
      turns = λ q u. (u, refl);
      ends = λ t e i u. ap (λ (f : Files). pipe_end f (service_of (side_of pair t.process).linux.services t.request).progress) finished.files ∙ u;
      held = λ d. ap (λ (f : Files). (description_of f d).calls + holders d (side_of pair p)) finished.files;
      calls = c.calls p;
      sound = finished.sound;
      paid = (let a = finished.paid in let b = finished.numbers in let d = past.paid in let f = past.numbers in let g = finished.instructions in let i = set-instructions behind p e.program_break in let j = past.instructions in omega (arith, a, b, d, f, g, i, j));
      limit = (let g = finished.instructions in let i = set-instructions behind p e.program_break in let j = past.instructions in let l = finished.limit in let d = c.numbers.limit in omega (arith, g, i, j, l, d));
    }

    pub coherent_trap_behind : Coherent (after pair (Events.Trap t))
    unfolding after_trap
    coherent_trap_behind = subst (λ (y : Trapped). Coherent (put_here pair p (ran_last t.0 (trapped p t.0 y h)))) (sym is)
        (coherent-later pair c p there side done sp.frames sp.free last keeping)

    pub simulated_pair_trap_behind : SimulatedPair pair (Events.Trap t)
    unfolding after_trap
    simulated_pair_trap_behind = simulated-pair pair p (has-side pair c.known p there) (Events.Trap t) refl
        (simulated_trap p t h allowed-here refl (node-holds pair.node (sound-of pair c)) pair.workers (c.whole p) (table_of pair) (own-frames pair c p) refl) refl
        (ap (λ (y : Trapped). (trapped p t.0 y h).born) is)
        (λ q s n f. ap (λ (y : Trapped). shown_own (trapped p t.0 y h).frames s) is ∙ shown-else pair c p e fits q s n f)

  -- whatever node is said to be left
  module _ (node : Node) (is : trap t.0 (length pair.free) (view_here h) ≡ Changes node change) where
    behind-is : trap t.0 (length pair.free) (view_here h) ≡ Changes behind change
    behind-is = is ∙ ap (λ (m : Node). Changes m change) (subst (TrappedSays t.0 (length pair.free) (view_here h)) is (trap-says t.0 (length pair.free) (view_here h))).0

    pub coherent_trap_changes : Coherent (after pair (Events.Trap t))
    coherent_trap_changes = coherent_trap_behind behind-is

    pub simulated_pair_trap_changes : SimulatedPair pair (Events.Trap t)
    simulated_pair_trap_changes = simulated_pair_trap_behind behind-is
