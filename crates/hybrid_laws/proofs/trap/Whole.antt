-- Trap in the whole state, where it is done at once or begins a delegated call.
use Rattle.hybrid_model.specs.declared.events.Event.TheVariants as Events
use Rattle.hybrid_laws.proofs.trap.CallShown as call_shown
use Rattle.file_model.specs.Files.{Files, description_of}
use Rattle.hybrid_laws.proofs.begin_vm.Whole.{length-post, rings-hold}
use Rattle.hybrid_laws.proofs.maps.Reading.{reads-put}
use Rattle.hybrid_laws.proofs.maps.Sums.{counted_at, total-put-by}
use Rattle.hybrid_laws.proofs.maps.Tests.{both, no-none}
use Rattle.hybrid_laws.proofs.maps.Totals.{entries-same}
use Rattle.hybrid_laws.proofs.node.Goes.{IsAwake, called-goes}
use Rattle.hybrid_laws.proofs.node.Keeps.{node-keeps}
use Rattle.hybrid_laws.proofs.node.Sound.{node-holds, sound-of}
use Rattle.hybrid_laws.proofs.node.Threads.{thread-is}
use Rattle.hybrid_laws.proofs.states.Node.{Keeping, coherent-later}
use Rattle.hybrid_laws.proofs.states.Pair.{has-side, there-open}
use Rattle.hybrid_laws.proofs.states.Quiet.{other-shown, own-frames}
use Rattle.hybrid_laws.proofs.states.Steps.{SimulatedPair, simulated-pair}
use Rattle.hybrid_laws.proofs.trap.Begins.{Traps, keeps_begins, may-traps, others_begins, ring-there}
use Rattle.hybrid_laws.proofs.trap.DoneAtOnce.{TrappedSteps, awake-steps, awake-stopped, past-steps, past-there, trap-steps}
use Rattle.hybrid_laws.proofs.trap.Goes.{NodeSteps, steps-then, stops-fewer}
use Rattle.hybrid_laws.proofs.trap.Keeps.{TrappedKeeps, next-new, sleepers-free, trap-idle, trap-keeps, trap_free}
use Rattle.hybrid_laws.proofs.trap.Says.{TrappedSays, trap-says}
use Rattle.hybrid_laws.proofs.trap.Started.{starts-under-way}
use Rattle.hybrid_laws.proofs.trap.Trap.{simulated_trap}
use Rattle.hybrid_laws.specs.OneProcess.{NodeHolds}
use Rattle.hybrid_laws.specs.Stopped.{stops}
use Rattle.hybrid_model.specs.Coherence.{OfProcess}
use Rattle.hybrid_model.specs.Events.{after, may, may_here}
use Rattle.hybrid_model.specs.Globals.{CallsHold, Coherent, IsUnderWay, StatusHolds, description_held, holders, is_number, ring_number, table_of, waits_or_held}
use Rattle.hybrid_model.specs.Fetch.{first_progress}
use Rattle.hybrid_model.specs.Turns.{pipe_end}
use Rattle.hybrid_model.specs.OneProcess.{memory_here, ran_last, view_here, with_view}
use Rattle.hybrid_model.specs.Trap.{after_trap, begin_call, call_made, trapped}
use Rattle.hybrid_model.specs.Pairs.{Here, Pair, here, put_here, ring_of, side_of}
use Rattle.hybrid_model.specs.Rings.{post}
use Rattle.hybrid_model.specs.Shown.{shown_own, status_by, status_of}
use Rattle.hybrid_model.specs.Sides.{Caller, Side, service_of, state_in, state_of}
use Rattle.hybrid_model.specs.Tallies.{Reads}
use Rattle.ikc_ring.specs.declared.CallRequest.{CallRequest}
use Rattle.ikc_ring.specs.declared.Msg.TheVariants.{Request}
use Rattle.kernel_model.specs.Nodes.{Node, Thread, is_asleep, is_called, is_stopped, is_there, set_does, set_pc, thread_of}
use Rattle.kernel_model.specs.OneKernel.{Active}
use Rattle.kernel_model.specs.Progress.{Progress}
use Rattle.kernel_model.specs.Signals.{View, stored_all}
use Rattle.kernel_model.specs.Traps.{Begins, Done, Trapped, past_ecall, trap}
use Rattle.kernel_model.specs.declared.Does.TheVariants.{Called}
use Rattle.mck_word.specs.MapLaws.{at-put}
use Rattle.mck_word.specs.Maps.{Map, at, put, total}
use Rattle.mck_word.specs.declared.Tid.{Tid}
use Rattle.request_book.specs.declared.ReqState.TheVariants.{Posted}
use Rattle.request_book.specs.declared.ReqState.{ReqState}
use Rattle.std.proofs.Common.{ap, arith, refl, subst, sym, ◌∙◌}
use Rattle.std.proofs.lemmas.Bool.Decides.{nat_tests}
use Rattle.std.specs.Prelude.{Bool, List, None, Option, Some, cond, false, length, not, true, ℕ, ◌%◌, ◌+◌, ◌==◌, ◌||◌, ◌≡◌, ◌≤◌}

module _ (pair : Pair) (c : Coherent pair) (p : ℕ) (there : is_there pair.node p ≡ true) (node : Node) (frames : Map (List ℕ)) (last : Map ℕ) where
  pub keeping-steps : ((q : ℕ) → OfProcess q (side_of pair q) node pair.workers (ring_number pair)) → NodeSteps pair.node node → Keeping pair c p there (side_of pair p) node frames pair.free last
  keeping-steps whole s = record {
    own = whole p;
    others = λ q n. whole q;
    framed = own-frames pair c p;
    rows_below = c.counted.rows_below p;
    free_below = c.counted.free_below;
    counted = refl;
    frame_count = s.frames;
    made = s.made;
    ended_others = λ q n e. sym (s.ended q) ∙ e;
    ended_own = λ e. absurd (let a = there-open pair.node p there in let b = sym (s.ended p) ∙ e in grind (arith, a, b));
    rings = refl;
    turns = λ x u. (u, refl);
    ends = λ t e i u. ap (λ (f : Files). pipe_end f (service_of (side_of pair t.process).linux.services t.request).progress) s.files ∙ u;
    held = λ d. ap (λ (f : Files). (description_of f d).calls + holders d (side_of pair p)) s.files;
    calls = c.calls p;
    sound = s.sound;
    paid = (let a = s.paid in let n = s.numbers in let b = s.instructions in omega (arith, a, n, b));
    limit = (let a = s.instructions in let b = s.limit in let d = c.numbers.limit in omega (arith, a, b, d));
  }

module _ (pair : Pair) (c : Coherent pair) (t : Tid) (e : may pair (Events.Trap t) ≡ true) where
  abbrev p : ℕ
  p = (thread_of pair.node t.0).process

  abbrev h : Here
  h = here pair p

  there : is_there pair.node p ≡ true
  there = (both (is_there pair.node p) (may_here (Events.Trap t) h) e).0

  allowed : may_here (Events.Trap t) h ≡ true
  allowed = (both (is_there pair.node p) (may_here (Events.Trap t) h) e).1

  abbrev x : Traps pair.node t.0
  x = may-traps pair.node t.0 allowed

  nodes : NodeHolds pair.node
  nodes = node-holds pair.node (sound-of pair c)

  own-process : x.thread.process ≡ p
  own-process = sym (ap (λ (z : Thread). z.process) (thread-is pair.node t.0 x.thread x.there))

  steps : TrappedSteps t.0 pair.node (trap t.0 (length pair.free) (view_here h))
  steps = trap-steps t.0 (view_here h) (sound-of pair c) x.thread x.there x.stop x.stopped (length pair.free)

  abbrev last : Map ℕ
  last = put pair.last (t.0 % pair.cores) t.0

  -- ---- done at once
  module _ (v : View) (is : trap t.0 (length pair.free) (view_here h) ≡ Done v) where
    done-whole : (q : ℕ) → OfProcess q (side_of pair q) v.node pair.workers (ring_number pair)
    done-whole q =
        let x = may-traps pair.node t.0 allowed in
        node-keeps q (trap_free t.0 pair.node) (side_of pair q) pair.node v.node pair.workers (ring_number pair)
        (subst (TrappedKeeps q (trap_free t.0 pair.node) pair.node) is (trap-keeps q (trap_free t.0 pair.node) t.0 free-own (length pair.free) (view_here h) (sleepers-free t.0 pair.node c.sleeping) (next-new pair.node nodes)))
        (trap-idle q t.0 pair.node x.thread x.there (let s = x.stopped in rw s refl)) (c.whole q)
      where
        free-own : trap_free t.0 pair.node t.0 ≡ true
        free-own = or-left (t.0 == t.0) (is_asleep (thread_of pair.node t.0).does) (grind (arith, nat_tests))
          where
            or-left : (a b : Bool) → a ≡ true → (a || b) ≡ true
            or-left true b f = refl
            or-left false b f = absurd (grind (arith, f))

    abbrev done : Here
    done = with_view v h

    pub coherent_trap_done : Coherent (after pair (Events.Trap t))
    unfolding after_trap
    coherent_trap_done = subst (λ (y : Trapped). Coherent (put_here pair p (ran_last t.0 (trapped p t.0 y h)))) (sym is)
        (coherent-later pair c p there (side_of pair p) v.node done.frames pair.free last
        (keeping-steps pair c p there v.node done.frames last done-whole (subst (TrappedSteps t.0 pair.node) is steps)))

    pub simulated_pair_trap_done : SimulatedPair pair (Events.Trap t)
    unfolding after_trap
    simulated_pair_trap_done = simulated-pair pair p (has-side pair c.known p there) (Events.Trap t) refl
        (simulated_trap p t h allowed refl nodes pair.workers (c.whole p) (table_of pair) (own-frames pair c p) refl) refl
        (ap (λ (y : Trapped). (trapped p t.0 y h).born) is)
        (λ q s n f. ap (λ (y : Trapped). shown_own (trapped p t.0 y h).frames s) is ∙ other-shown pair c p (stored_all v.stores (memory_here h)) q s n f)

  -- ---- a delegated call begins
  module _ (new_node : Node) (progress : Progress) (is : trap t.0 (length pair.free) (view_here h) ≡ Begins new_node progress) where
    says : TrappedSays t.0 (length pair.free) (view_here h) (Begins new_node progress)
    says = subst (TrappedSays t.0 (length pair.free) (view_here h)) is (trap-says t.0 (length pair.free) (view_here h))

    abbrev behind : Node
    behind = (past_ecall t.0 (view_here h)).node

    abbrev node : Node
    node = set_does t.0 Called behind

    abbrev old : Side
    old = side_of pair p

    abbrev side : Side
    side = begin_call (ring_of h t.0) t.0 progress old

    past : NodeSteps pair.node behind
    past = past-steps t.0 (view_here h) (sound-of pair c) x.thread x.there x.stop x.stopped

    behind-there : at behind.threads t.0 ≡ Some (record x.thread { regs = set_pc (x.thread.regs.pc + 4) x.thread.regs })
    behind-there = past-there t.0 (view_here h) (sound-of pair c) x.thread x.there x.stop x.stopped

    awake : IsAwake t.0 behind
    awake = awake-stopped t.0 (view_here h) (sound-of pair c) x.thread x.there x.stop x.stopped

    begun : NodeSteps behind node
    begun = awake-steps t.0 behind node past.sound awake (called-goes t.0 behind)

    fewer : total stops node.threads + 1 ≡ total stops behind.threads
    fewer = stops-fewer behind t.0 (record x.thread { regs = set_pc (x.thread.regs.pc + 4) x.thread.regs }) (λ y. record y { does = Called }) behind-there (ap is_stopped x.stopped) refl

    past-stops : total stops behind.threads ≤ total stops pair.node.threads
    past-stops = let a = past.paid in let n = past.numbers in omega (arith, a, n)

    k : OfProcess p old pair.node pair.workers (ring_number pair)
    k = c.whole p

    idle : at old.lwk.callers t.0 ≡ None
    idle = no-none (at old.lwk.callers t.0) (ap not (sym (k.calls.called t.0 x.thread x.there own-process) ∙ ap is_called x.stopped))

    abbrev call : CallRequest
    call = call_made old.book.next t.0 progress

    abbrev caller : Caller
    caller = record { request = old.book.next; marked = false }

    -- the statuses
    own-status : status_of side old.book.next ≡ Active (first_progress call)
    unfolding begin_call
    own-status = ap (λ (m : Reads (ReqState × CallRequest)). status_by m (at old.linux.services) (at old.linux.workers) (post (ring_of h t.0) (Request call) old.to_linux) old.to_lwk old.book.next) (reads-put old.book.rows old.book.next (Posted, call))
        ∙ call_shown.status-own p old pair.node pair.workers (ring_number pair) k (ring_of h t.0) t.0 progress

    same-status : (u : ℕ) (y : Caller) → at old.lwk.callers u ≡ Some y → status_of side y.request ≡ status_of old y.request
    unfolding begin_call
    same-status u y f = ap (λ (m : Reads (ReqState × CallRequest)). status_by m (at old.linux.services) (at old.linux.workers) (post (ring_of h t.0) (Request call) old.to_linux) old.to_lwk y.request) (reads-put old.book.rows old.book.next (Posted, call))
        ∙ call_shown.status-other p old pair.node pair.workers (ring_number pair) k (ring_of h t.0) t.0 progress u y f

    abbrev counts : ℕ → Side → ℕ × Caller → ℕ
    counts d s y = cond (is_number d (description_held (status_of s y.1.request))) 1 0

    held-same : (d : ℕ) → holders d side ≡ holders d old
    unfolding begin_call
    held-same d =
        let a = total-put-by (counts d side) old.lwk.callers t.0 caller in
        let b = ap (counted_at (counts d side) t.0) idle in
        let z : counts d side (t.0, caller) ≡ 0 = ap (λ s. cond (is_number d (description_held s)) 1 0) own-status in
        let w = entries-same (counts d side) (counts d old) old.lwk.callers (λ u y f. ap (λ s. cond (is_number d (description_held s)) 1 0) (same-status u y f)) in
        omega (arith, a, b, z, w)

    under-way : IsUnderWay (first_progress call)
    under-way = starts-under-way progress.call progress.arguments

    calls-hold : CallsHold side
    unfolding begin_call
    calls-hold u y f = go (u == t.0) refl (sym (at-put old.lwk.callers t.0 caller u) ∙ f)
      where
        go : (b : Bool) → (u == t.0) ≡ b → cond b (Some caller) (at old.lwk.callers u) ≡ Some y → StatusHolds (status_of side y.request)
        go true g j = let s : caller ≡ y = cc in subst (λ (z : Caller). StatusHolds (status_of side z.request)) s (subst StatusHolds (sym own-status) under-way)
        go false g j = subst StatusHolds (sym (same-status u y j)) (c.calls p u y j)

    turns-hold : (q : ℕ) → waits_or_held (state_of old.book q) ≡ true → (waits_or_held (state_of side.book q) ≡ true) × ((service_of side.linux.services q).progress ≡ (service_of old.linux.services q).progress)
    unfolding begin_call
    turns-hold q u = (ap (λ (o : Option (ReqState × CallRequest)). waits_or_held (state_in o)) (at-put old.book.rows old.book.next (Posted, call) q) ∙ go (q == old.book.next) refl, refl)
      where
        go : (b : Bool) → (q == old.book.next) ≡ b → waits_or_held (state_in (cond b (Some (Posted, call)) (at old.book.rows q))) ≡ true
        go false g = u
        go true g =
            let y : q ≡ old.book.next = grind (arith, nat_tests, g) in
            let n = ap (at old.book.rows) y ∙ k.answered.fresh old.book.next (omega arith) in
            absurd (let w = sym (ap (λ (o : Option (ReqState × CallRequest)). waits_or_held (state_in o)) n) ∙ u in grind (arith, w))

    whole-is : trapped p t.0 (Begins new_node progress) h ≡ record h { side = side; node = node }
    whole-is = λ i. record h { side = side; node = set_does t.0 Called (says.0 i) }

    keeping : Keeping pair c p there side node pair.frames pair.free last
    unfolding begin_call
    keeping =
        let both-steps = steps-then pair.node behind node past begun in
        record {
          own = subst (λ (y : Here). OfProcess p y.side y.node pair.workers (ring_number pair)) whole-is (keeps_begins p t.0 h x progress new_node says.0 pair.workers own-process nodes (rings-hold pair c p there) k);
          others = λ q d. subst (λ (y : Here). OfProcess q (side_of pair q) y.node pair.workers (ring_number pair)) whole-is (others_begins p t.0 h x progress new_node says.0 q (side_of pair q) pair.workers (ring_number pair) (λ f. d (sym own-process ∙ f)) (c.whole q));
          framed = own-frames pair c p;
          rows_below = c.counted.rows_below p;
          free_below = c.counted.free_below;
          counted = refl;
          frame_count = both-steps.frames;
          made = both-steps.made;
          ended_others = λ q n f. sym (both-steps.ended q) ∙ f;
          ended_own = λ f. absurd (let a = there-open pair.node p there in let b = sym (both-steps.ended p) ∙ f in grind (arith, a, b));
          rings = length-post (ring_of h t.0) (Request call) old.to_linux (ring-there h t.0 (rings-hold pair c p there));
          turns = turns-hold;
          ends = λ t e i u. ap (λ (f : Files). pipe_end f (service_of (side_of pair t.process).linux.services t.request).progress) both-steps.files ∙ u;
          held = λ d. (let a = held-same d in let b = ap (λ (f : Files). (description_of f d).calls) both-steps.files in omega (arith, a, b));
          calls = calls-hold;
          sound = both-steps.sound;
          paid = (let a = fewer in let b = past-stops in let d = both-steps.instructions in omega (arith, a, b, d));
          limit = (let a = both-steps.instructions in let b = both-steps.limit in let d = c.numbers.limit in omega (arith, a, b, d));
        }

    pub coherent_trap_begins : Coherent (after pair (Events.Trap t))
    unfolding after_trap
    coherent_trap_begins = subst (λ (y : Trapped). Coherent (put_here pair p (ran_last t.0 (trapped p t.0 y h)))) (sym is)
        (subst (λ (y : Here). Coherent (put_here pair p (ran_last t.0 y))) (sym whole-is) (coherent-later pair c p there side node pair.frames pair.free last keeping))

    pub simulated_pair_trap_begins : SimulatedPair pair (Events.Trap t)
    unfolding after_trap
    simulated_pair_trap_begins = simulated-pair pair p (has-side pair c.known p there) (Events.Trap t) refl
        (simulated_trap p t h allowed refl nodes pair.workers k (table_of pair) (own-frames pair c p) refl) refl
        (ap (λ (y : Trapped). (trapped p t.0 y h).born) is)
        (λ q s n f. ap (λ (y : Trapped). shown_own (trapped p t.0 y h).frames s) is)
