-- Interrupt in the whole state.
use Rattle.hybrid_model.specs.declared.events.Event.TheVariants as Events
use Rattle.file_model.specs.Files.{Files, description_of}
use Rattle.hybrid_laws.proofs.begin_vm.Whole.{length-post, rings-hold}
use Rattle.hybrid_laws.proofs.calls.Closed.{Leaves, moved-closed}
use Rattle.hybrid_laws.proofs.interrupt.Interrupt.{keeps_interrupt, marked-was, marks-at, others_interrupt, simulated_interrupt}
use Rattle.hybrid_laws.proofs.maps.Reading.{Each-map, reads-put}
use Rattle.hybrid_laws.proofs.maps.Sums.{counted_at, total-put-by}
use Rattle.hybrid_laws.proofs.maps.Tests.{both, not-true}
use Rattle.hybrid_laws.proofs.maps.Totals.{entries-same}
use Rattle.hybrid_laws.proofs.node.Goes.{Goes, GoesAwake, GoesOn, IsAwake, SleeperIs, each-passes, goes-closed, goes-moves, tally-filter}
use Rattle.hybrid_laws.proofs.node.LocalKeeps.{Each-filter}
use Rattle.hybrid_laws.proofs.node.Sound.{goes-sound, goes-stays, is-awake, node-holds, same-ended, same-instructions, same-made, sleep-once, sleepers-are, sleeping-of, sound-of, stopped-less}
use Rattle.hybrid_laws.proofs.requests.Showing.{has_empty-post}
use Rattle.hybrid_laws.proofs.states.Node.{Keeping, coherent-later}
use Rattle.hybrid_laws.proofs.states.Pair.{has-side, there-open}
use Rattle.hybrid_laws.proofs.states.Quiet.{keeping-quiet, own-frames, sleeping-after}
use Rattle.hybrid_laws.proofs.states.Steps.{AtMostOne, SimulatedPair, simulated-pair}
use Rattle.hybrid_laws.proofs.trap.Begins.{ring-there}
use Rattle.hybrid_model.specs.Coherence.{OfProcess}
use Rattle.hybrid_model.specs.Events.{after, may, may_here}
use Rattle.hybrid_model.specs.Globals.{CallsHold, Coherent, Sleeping, StatusHolds, description_held, holders, is_number, ring_number}
use Rattle.hybrid_model.specs.Interrupt.{image_of_interrupt}
use Rattle.hybrid_model.specs.Turns.{pipe_end}
use Rattle.hybrid_model.specs.Interrupt.{interrupt_as, is_calling, no_caller, post_interrupt}
use Rattle.hybrid_model.specs.Pairs.{Here, Pair, here, put_here, ring_of, side_of}
use Rattle.hybrid_model.specs.Rings.{post}
use Rattle.hybrid_model.specs.Shown.{reply_code, shown_own, status_in, status_of}
use Rattle.hybrid_model.specs.Sides.{Caller, Side, call_in, no_service, service_of, state_in}
use Rattle.hybrid_model.specs.Tallies.{if_same}
use Rattle.ikc_ring.specs.declared.Msg.TheVariants.{Interrupt}
use Rattle.ikc_ring.specs.declared.Msg.{Msg}
use Rattle.kernel_model.specs.Nodes.{Node, Sleeper, Thread, change_thread, is_asleep, is_called, is_there, set_pc, thread_of, without_sleeper}
use Rattle.kernel_model.specs.Signals.{moved_to_own}
use Rattle.kernel_model.specs.Traps.{called_back, may_be_marked}
use Rattle.kernel_model.specs.declared.Does.TheVariants.{Asleep, Called, InVm, InWait, Ready, Stopped}
use Rattle.kernel_model.specs.declared.Does.{Does}
use Rattle.mck_word.specs.Maps.{put, at}
use Rattle.mck_word.specs.declared.Tid.{Tid}
use Rattle.std.proofs.Common.{ap, arith, refl, subst, sym, ◌∙◌}
use Rattle.std.specs.Prelude.{Bool, None, Option, Some, cond, false, filter, is_some, not, true, unwrap_or, ℕ, ◌+◌, ◌-◌, ◌==◌, ◌^◌, ◌≡◌, ◌≤◌}

-- ---- a resting thread is back on its ecall
module _ (t : ℕ) (a : Node) where
  abbrev up : Node
  up = without_sleeper t a

  abbrev back : Thread → Thread
  back x = record x { regs = set_pc (x.regs.pc + (2 ^ 64 - 4)) x.regs; back = true; does = Ready }

  back-leaves : Leaves back
  back-leaves = record { process = λ x. refl; place = λ x. refl; plain = λ x. refl }

  pub back-goes : Goes a (called_back t a)
  unfolding called_back
  back-goes = let g = goes-moves up t back back-leaves in record { rows = g.rows; processes = g.processes; next = g.next; frames = g.frames; limit = g.limit; files = g.files }

  pub back-sleeps : Sleeping a → Sleeping (called_back t a)
  unfolding called_back
  back-sleeps s = sleeping-after t up (change_thread t back up) ((goes-closed t).moves up back back-leaves) awake
      (sleeping-of up (Each-filter (SleeperIs a) (λ x. not (x.thread == t)) a.sleepers (sleepers-are a s)) (λ u. le-trans (tally-filter (λ (x : Sleeper). if_same x.thread u) (λ x. not (x.thread == t)) a.sleepers) (sleep-once a s u)))
    where
      le-trans : {x y z : ℕ} → x ≤ y → y ≤ z → x ≤ z
      le-trans f g = omega (arith, f, g)

      awake : IsAwake t up
      awake = Each-map (λ (x : Sleeper). not (x.thread == t) ≡ true) (λ (x : Sleeper). (x.thread == t) ≡ false) (filter (λ x. not (x.thread == t)) a.sleepers) (λ x e. not-true (x.thread == t) e) (each-passes (λ x. not (x.thread == t)) a.sleepers)

module _ (pair : Pair) (c : Coherent pair) (t : Tid) (e : may pair (Events.Interrupt t) ≡ true) where
  abbrev p : ℕ
  p = (thread_of pair.node t.0).process

  abbrev h : Here
  h = here pair p

  there : is_there pair.node p ≡ true
  there = (both (is_there pair.node p) (may_here (Events.Interrupt t) h) e).0

  allowed : may_here (Events.Interrupt t) h ≡ true
  allowed = (both (is_there pair.node p) (may_here (Events.Interrupt t) h) e).1

  -- ---- of a thread that rests
  others-rest : is_calling h.side t.0 ≡ false → (q : ℕ) → OfProcess q (side_of pair q) (called_back t.0 pair.node) pair.workers (ring_number pair)
  others-rest f q = subst (λ b. OfProcess q (side_of pair q) (interrupt_as b t.0 h).node pair.workers (ring_number pair)) f (others_interrupt p t h allowed q (side_of pair q) pair.workers (ring_number pair) (c.whole q))

  rest : is_calling h.side t.0 ≡ false → Coherent (put_here pair p (interrupt_as false t.0 h))
  rest f = coherent-later pair c p there (side_of pair p) (called_back t.0 pair.node) pair.frames pair.free pair.last
      (keeping-quiet pair c p there (called_back t.0 pair.node) pair.frames pair.last (others-rest f) (back-goes t.0 pair.node) (back-sleeps t.0 pair.node c.sleeping))

  -- ---- of a thread that calls
  module _ (f : is_calling h.side t.0 ≡ true) where
    abbrev calls : (x : Caller) × (at h.side.lwk.callers t.0 ≡ Some x) × (x.marked ≡ false) × (may_be_marked h.node t.0 ≡ true)
    calls = marks-at p t h allowed f

    abbrev marked : Caller
    marked = record calls.0 { marked = true }

    abbrev r : ℕ
    r = ring_of h t.0

    abbrev message : Msg
    message = Interrupt (record { 0 = calls.0.request }) (thread_of pair.node t.0).place

    abbrev side : Side
    side = record h.side { lwk = record h.side.lwk { callers = put h.side.lwk.callers t.0 marked }; to_linux = post r message h.side.to_linux }

    side-is : post_interrupt r t.0 (thread_of pair.node t.0).place h.side ≡ side
    unfolding post_interrupt
    side-is = ap (λ (y : Caller). record h.side { lwk = record h.side.lwk { callers = put h.side.lwk.callers t.0 (record y { marked = true }) }; to_linux = post r (Interrupt (record { 0 = y.request }) (thread_of pair.node t.0).place) h.side.to_linux })
        (ap (λ (o : Option Caller). unwrap_or o no_caller) calls.1)

    abbrev node : Node
    node = moved_to_own t.0 pair.node

    goes : GoesAwake t.0 pair.node node
    goes = moved-closed t.0 (GoesAwake t.0) (GoesOn t.0) (goes-closed t.0) pair.node t.0

    thread-there : (x : Thread) × (at pair.node.threads t.0 ≡ Some x) × (x.process ≡ p)
    thread-there = (c.whole p).calls.there t.0 calls.0 calls.1

    awake : IsAwake t.0 pair.node
    awake = is-awake pair.node t.0 thread-there.0 thread-there.1 (not-asleep thread-there.0.does ((c.whole p).calls.called t.0 thread-there.0 thread-there.1 thread-there.2 ∙ ap is_some calls.1)) c.sleeping
      where
        not-asleep : (d : Does) → is_called d ≡ true → is_asleep d ≡ false
        not-asleep Called e = refl
        not-asleep Ready e = refl
        not-asleep (Stopped s) e = refl
        not-asleep (InVm x) e = refl
        not-asleep (InWait a b) e = refl
        not-asleep (Asleep a) e = absurd (grind (arith, e))

    same-status : (q : ℕ) → status_of side q ≡ status_of h.side q
    same-status q = ap (λ b. status_in (state_in (at h.side.book.rows q)) (call_in (at h.side.book.rows q)) (unwrap_or (at h.side.linux.services q) no_service) b (reply_code q h.side.to_lwk)) (has_empty-post (at h.side.linux.workers) q r message h.side.to_linux refl)

    counts : ℕ → Side → ℕ × Caller → ℕ
    counts d s x = cond (is_number d (description_held (status_of s x.1.request))) 1 0

    held-same : (d : ℕ) → holders d side ≡ holders d h.side
    unfolding counts
    held-same d =
        let a = total-put-by (counts d side) h.side.lwk.callers t.0 marked in
        let b = ap (counted_at (counts d side) t.0) calls.1 in
        let z = entries-same (counts d side) (counts d h.side) h.side.lwk.callers (λ u x e. ap (λ s. cond (is_number d (description_held s)) 1 0) (same-status x.request)) in
        omega (arith, a, b, z)

    calls-hold : CallsHold side
    calls-hold u x e =
        let m = marked-was (at h.side.book.rows) (at h.side.lwk.callers) h.side.book.next h.side.to_lwk t.0 calls.0 calls.1 u x (sym (ap (λ (o : ℕ → Option Caller). o u) (reads-put h.side.lwk.callers t.0 marked)) ∙ e) in
        subst StatusHolds (sym (same-status x.request)) (subst (λ (v : ℕ). StatusHolds (status_of h.side v)) m.2 (c.calls p u m.0 m.1))

    whole : interrupt_as true t.0 h ≡ record h { side = side; node = node }
    whole = ap (λ (s : Side). record h { side = s; node = node }) side-is

    own : OfProcess p side node pair.workers (ring_number pair)
    own = subst (λ (y : Here). OfProcess p y.side y.node pair.workers (ring_number pair)) whole
        (subst (λ b. OfProcess p (interrupt_as b t.0 h).side (interrupt_as b t.0 h).node pair.workers (ring_number pair)) f (keeps_interrupt p t h allowed pair.workers (node-holds pair.node (sound-of pair c)) (rings-hold pair c p there) (c.whole p)))

    keeping : Keeping pair c p there side node pair.frames pair.free pair.last
    keeping =
        let stays = goes-stays pair.node node goes.goes in
        record {
          own = own;
          others = λ x d. subst (λ b. OfProcess x (side_of pair x) (interrupt_as b t.0 h).node pair.workers (ring_number pair)) f (others_interrupt p t h allowed x (side_of pair x) pair.workers (ring_number pair) (c.whole x));
          framed = own-frames pair c p;
          rows_below = c.counted.rows_below p;
          free_below = c.counted.free_below;
          counted = refl;
          frame_count = goes.goes.frames;
          made = same-made pair.node node stays;
          ended_others = λ x d g. sym (same-ended pair.node node stays x) ∙ g;
          ended_own = λ g. absurd (let a = there-open pair.node p there in let b = sym (same-ended pair.node node stays p) ∙ g in grind (arith, a, b));
          rings = length-post r message h.side.to_linux (ring-there h t.0 (rings-hold pair c p there));
          turns = λ x u. (u, refl);
          ends = λ t e i u. ap (λ (g : Files). pipe_end g (service_of (side_of pair t.process).linux.services t.request).progress) goes.goes.files ∙ u;
          held = λ d. (let a = held-same d in let b = ap (λ (g : Files). (description_of g d).calls) goes.goes.files in omega (arith, a, b));
          calls = calls-hold;
          sound = goes-sound pair.node node goes.goes (sound-of pair c) (sleeping-after t.0 pair.node node goes awake c.sleeping);
          paid = (let a = stopped-less pair.node node goes.goes in let b = same-instructions pair.node node goes.goes in let d = goes.goes.next in omega (arith, a, b, d));
          limit = (let a = same-instructions pair.node node goes.goes in let b = goes.goes.limit in let d = c.numbers.limit in omega (arith, a, b, d));
        }

    mark : Coherent (put_here pair p (interrupt_as true t.0 h))
    mark = subst (λ (y : Here). Coherent (put_here pair p y)) (sym whole) (coherent-later pair c p there side node pair.frames pair.free pair.last keeping)

  pub coherent_interrupt : Coherent (after pair (Events.Interrupt t))
  coherent_interrupt = go (is_calling h.side t.0) refl
    where
      go : (b : Bool) → is_calling h.side t.0 ≡ b → Coherent (put_here pair p (interrupt_as b t.0 h))
      go true f = mark f
      go false f = rest f

  pub simulated_pair_interrupt : SimulatedPair pair (Events.Interrupt t)
  simulated_pair_interrupt = simulated-pair pair p (has-side pair c.known p there) (Events.Interrupt t) refl (simulated_interrupt p t h allowed) (most (is_calling h.side t.0)) (unborn (is_calling h.side t.0)) (λ q s n f. same (is_calling h.side t.0) s)
    where
      most : (b : Bool) → AtMostOne pair.node p (image_of_interrupt b t.0)
      most true = refl
      most false = refl

      unborn : (b : Bool) → (interrupt_as b t.0 h).born ≡ None
      unborn true = refl
      unborn false = refl

      same : (b : Bool) (s : Side) → shown_own (interrupt_as b t.0 h).frames s ≡ shown_own pair.frames s
      same true s = refl
      same false s = refl
