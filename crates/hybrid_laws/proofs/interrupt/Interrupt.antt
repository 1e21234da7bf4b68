-- Interrupt keeps what holds of every process: of a thread that calls it is the step Mark of the one-kernel machine, of one that rests the step Interrupted.
use Rattle.kernel_model.specs.Steps as OneSteps
use Rattle.kernel_model.specs.declared.steps.Step.TheVariants as Steps
use Rattle.hybrid_model.specs.declared.events.Event.TheVariants as Events
use Rattle.hybrid_laws.proofs.interrupt.Posted.{Messages-interrupt}
use Rattle.hybrid_laws.proofs.maps.Reading.{Each-map, EachRing-post, reads-put, sum-post}
use Rattle.hybrid_laws.proofs.maps.Tests.{both, not-true, some-is}
use Rattle.hybrid_laws.proofs.memory.ViewShown.{none-idle, none_free}
use Rattle.hybrid_laws.proofs.node.Keeps.{node-keeps}
use Rattle.hybrid_laws.proofs.node.Primitives.{called_back-free, moved-keeps}
use Rattle.hybrid_laws.proofs.node.Threads.{IsThread, idle-one, rests-free, thread-is}
use Rattle.hybrid_laws.proofs.requests.Showing.{has_empty-post}
use Rattle.hybrid_laws.proofs.states.Simulated.{simulated-one}
use Rattle.hybrid_laws.proofs.trap.Begins.{ring-there}
use Rattle.hybrid_laws.specs.OneProcess.{NodeHolds, RingsHold}
use Rattle.hybrid_laws.specs.Simulated.{Simulated}
use Rattle.hybrid_model.specs.Coherence.{AnswerCovered, AnswerIsFor, Answered, CallHolds, CallsAgree, ClearIsOf, InterruptIs, IsOutside, Marked, NotAhead, OfProcess, ReplyIsAwaited, RequestIs, answers_to, asks, calls_it, clears, goes_to_linux, interrupts_of, place_in, service_at, tid_in}
use Rattle.hybrid_model.specs.Events.{after_here, may_here}
use Rattle.hybrid_model.specs.Interrupt.{image_of_interrupt}
use Rattle.hybrid_model.specs.Interrupt.{caller_at, interrupt_as, is_calling, no_caller, post_interrupt}
use Rattle.hybrid_model.specs.Pairs.{Here, ring_of}
use Rattle.hybrid_model.specs.Rings.{post}
use Rattle.hybrid_model.specs.Shown.{reply_code, shown_born, shown_call, shown_here, status_in, status_of}
use Rattle.hybrid_model.specs.Sides.{Caller, Round, Side, call_in, no_service, state_in}
use Rattle.hybrid_model.specs.Spaces.{shown_memory}
use Rattle.hybrid_model.specs.Tallies.{Reads, as_number, if_same, sum_rings, with_at}
use Rattle.ikc_ring.specs.declared.CallRequest.{CallRequest}
use Rattle.ikc_ring.specs.declared.Msg.TheVariants.{Ack, Answer, Clear, Fault, Interrupt, Reply, Request}
use Rattle.ikc_ring.specs.declared.Msg.{Msg}
use Rattle.kernel_model.specs.Nodes.{Node, Thread, is_living, rests, thread_of}
use Rattle.kernel_model.specs.Progress.{is_not_ready, next_kind}
use Rattle.kernel_model.specs.Signals.{is_deliverable, moved_to_own}
use Rattle.kernel_model.specs.Traps.{called_back, may_be_called_back, may_be_marked}
use Rattle.mck_word.specs.Identifiers.{tid}
use Rattle.mck_word.specs.MapLaws.{at-collect, at-put, same_rows}
use Rattle.mck_word.specs.Maps.{and_then, at, each, put}
use Rattle.mck_word.specs.declared.Req.{Req}
use Rattle.mck_word.specs.declared.Tid.{Tid}
use Rattle.request_book.specs.declared.ReqState.{ReqState}
use Rattle.std.proofs.Common.{ap, arith, refl, subst, sym, ◌∙◌}
use Rattle.std.proofs.lemmas.Bool.Decides.{nat_tests}
use Rattle.std.specs.Prelude.{Bool, List, None, Option, Some, cond, false, if◌then◌else◌, is_some, length, not, true, unwrap_or, ℕ, ◌&&◌, ◌+◌, ◌<◌, ◌==◌, ◌||◌, ◌≡◌, ◌≤◌}

-- ---- a call is marked
module _ (rows : Reads (ReqState × CallRequest)) (callers : Reads Caller) (next : ℕ) (bs : List Msg) (t : ℕ) (c : Caller) (calls : callers t ≡ Some c) where
  abbrev pub marking : Reads Caller
  marking = with_at callers t (Some (record c { marked = true }))

  -- a caller after is one before, with the same number
  pub marked-was : (u : ℕ) (d : Caller) → marking u ≡ Some d → (e : Caller) × (callers u ≡ Some e) × (e.request ≡ d.request)
  marked-was u d f = go (u == t) refl f
    where
      go : (b : Bool) → (u == t) ≡ b → (if b then Some (record c { marked = true }) else callers u) ≡ Some d → (e : Caller) × (callers u ≡ Some e) × (e.request ≡ d.request)
      go true e k = let z : u ≡ t = grind (arith, nat_tests, e) in let s : record c { marked = true } ≡ d = cc in (c, ap callers z ∙ calls, ap (λ (v : Caller). v.request) s)
      go false e k = (d, k, refl)

  -- and the other way round
  pub marked-now : (u : ℕ) (d : Caller) → callers u ≡ Some d → (e : Caller) × (marking u ≡ Some e) × (e.request ≡ d.request)
  marked-now u d f = go (u == t) refl
    where
      go : (b : Bool) → (u == t) ≡ b → (e : Caller) × ((if b then Some (record c { marked = true }) else callers u) ≡ Some e) × (e.request ≡ d.request)
      go true e = let z : u ≡ t = grind (arith, nat_tests, e) in let o = sym calls ∙ ap callers (sym z) ∙ f in let s : c ≡ d = cc in (record c { marked = true }, refl, ap (λ (v : Caller). v.request) s)
      go false e = (d, f, refl)

  marked-awaited : (m : Msg) → ReplyIsAwaited rows callers m → ReplyIsAwaited rows marking m
  marked-awaited (Reply k code) h = let w = marked-now h.thread h.caller h.calls in record { gone = h.gone; thread = h.thread; caller = w.0; calls = w.1; number = w.2 ∙ h.number }
  marked-awaited (Request x) h = tt
  marked-awaited (Clear x) h = tt
  marked-awaited (Answer w i x row) h = tt
  marked-awaited (Interrupt x place) h = tt
  marked-awaited Ack h = tt
  marked-awaited (Fault w i x) h = tt

  calls-same : (q u : ℕ) → calls_it q (marking u) ≡ calls_it q (callers u)
  calls-same q u = go (u == t) refl
    where
      go : (b : Bool) → (u == t) ≡ b → calls_it q (if b then Some (record c { marked = true }) else callers u) ≡ calls_it q (callers u)
      go true e = let z : u ≡ t = grind (arith, nat_tests, e) in rw (z, calls) refl
      go false e = refl

  pub Answered-mark : Answered rows callers next bs → Answered rows marking next bs
  Answered-mark a = record {
    awaited = Each-map (ReplyIsAwaited rows callers) (ReplyIsAwaited rows marking) bs marked-awaited a.awaited;
    calls = λ u d e. (let w = marked-was u d e in subst (λ (v : ℕ). CallHolds rows next u v bs) w.2 (a.calls u w.0 w.1));
    alone = λ u v d e f g s. (let x = marked-was u d f in let y = marked-was v e g in a.alone u v x.0 y.0 x.1 y.1 (x.2 ∙ s ∙ sym y.2));
    live = λ q l. calls-same q (tid_in (rows q)) ∙ a.live q l;
    replies = a.replies;
    fresh = a.fresh;
    not_replied = a.not_replied;
  }

  some-same : (u : ℕ) → is_some (marking u) ≡ is_some (callers u)
  some-same u = go (u == t) refl
    where
      go : (b : Bool) → (u == t) ≡ b → is_some (if b then Some (record c { marked = true }) else callers u) ≡ is_some (callers u)
      go true e = let z : u ≡ t = grind (arith, nat_tests, e) in rw (z, calls) refl
      go false e = refl

  pub Calls-mark : (p : ℕ) (threads : Reads Thread) → CallsAgree p threads callers → CallsAgree p threads marking
  Calls-mark p threads g = record {
    called = λ u x e own. g.called u x e own ∙ sym (some-same u);
    there = λ u d e. let w = marked-was u d e in g.there u w.0 w.1;
  }

interrupt-clear : (round : Option Round) (n : Req) (place : ℕ) → ClearIsOf round (Interrupt n place)
interrupt-clear None n place = tt
interrupt-clear (Some r) n place = tt

module _ (p t : ℕ) (side : Side) (node : Node) (workers : ℕ) (ring : ℕ → ℕ) (k : OfProcess p side node workers ring) (nodes : NodeHolds node) (there_is : ring t < length side.to_linux) (c : Caller) (calls : at side.lwk.callers t ≡ Some c) (unmarked : c.marked ≡ false) where
  abbrev n : Req
  n = record { 0 = c.request }

  abbrev pub thread : (x : Thread) × (at node.threads t ≡ Some x) × (x.process ≡ p)
  thread = k.calls.there t c calls

  abbrev place : ℕ
  place = thread.0.place

  abbrev message : Msg
  message = Interrupt n place

  none-posted : sum_rings (interrupts_of c.request) side.to_linux ≡ 0
  none-posted = at-most-none (subst (λ b. sum_rings (interrupts_of c.request) side.to_linux ≤ as_number b) unmarked (k.marked.posted t c calls))
    where
      at-most-none : sum_rings (interrupts_of c.request) side.to_linux ≤ 0 → sum_rings (interrupts_of c.request) side.to_linux ≡ 0
      at-most-none l = omega (arith, l)

  marks : Marked (at side.linux.services) (marking (at side.book.rows) (at side.lwk.callers) side.book.next side.to_lwk t c calls) (post (ring t) message side.to_linux)
  marks = record { fetched = λ u d e f. fetched-of (u == t) u d refl e f; posted = λ u d e. posted-of (u == t) u d refl e }
    where
      fetched-of : (b : Bool) (u : ℕ) (d : Caller) → (u == t) ≡ b → (if b then Some (record c { marked = true }) else at side.lwk.callers u) ≡ Some d → (service_at (at side.linux.services) d.request).interrupted ≡ true → d.marked ≡ true
      fetched-of true u d f e i = let s : record c { marked = true } ≡ d = cc in ap (λ (v : Caller). v.marked) (sym s)
      fetched-of false u d f e i = k.marked.fetched u d e i

      posted-of : (b : Bool) (u : ℕ) (d : Caller) → (u == t) ≡ b → (if b then Some (record c { marked = true }) else at side.lwk.callers u) ≡ Some d → sum_rings (interrupts_of d.request) (post (ring t) message side.to_linux) ≤ as_number d.marked
      posted-of true u d f e =
          let s : record c { marked = true } ≡ d = cc in
          subst (λ (v : Caller). sum_rings (interrupts_of v.request) (post (ring t) message side.to_linux) ≤ as_number v.marked) s
          (one (sum-post (interrupts_of c.request) (ring t) message side.to_linux))
        where
          one : sum_rings (interrupts_of c.request) (post (ring t) message side.to_linux) ≡ sum_rings (interrupts_of c.request) side.to_linux + if_same c.request c.request → sum_rings (interrupts_of c.request) (post (ring t) message side.to_linux) ≤ 1
          one e = grind (arith, nat_tests, e, none-posted)
      posted-of false u d f e =
          let o = k.marked.posted u d e in
          let s = sum-post (interrupts_of d.request) (ring t) message side.to_linux in
          let n : (c.request == d.request) ≡ false = differ (c.request == d.request) refl in
          grind (arith, nat_tests, o, s, n)
        where
          differ : (b : Bool) → (c.request == d.request) ≡ b → b ≡ false
          differ false g = refl
          differ true g = absurd (let z = k.answered.alone t u c d calls e (grind (arith, nat_tests, g)) in grind (arith, nat_tests, z, f))

  pub keeps_post_interrupt : OfProcess p (post_interrupt (ring t) t place side) node workers ring
  unfolding post_interrupt
  keeps_post_interrupt =
      let s = k.served in
      let r = k.rounded in
      let named = (k.answered.calls t c calls).named in
      let b = reads-put side.lwk.callers t (record c { marked = true }) in
      rw calls (record {
        covered = record {
          mirror_rows = k.covered.mirror_rows;
          answers = EachRing-post (AnswerCovered (at side.lwk.table) side.linux.cleared) (ring t) message side.to_linux k.covered.answers tt;
          not_ahead = EachRing-post (NotAhead side.lwk.begun) (ring t) message side.to_linux k.covered.not_ahead tt;
          pin_rows = k.covered.pin_rows;
        };
        rounded = record {
          clears_are = omega (arith, sum-post clears (ring t) message side.to_linux, r.clears_are);
          acks_are = r.acks_are;
          clear_of = EachRing-post (ClearIsOf side.round) (ring t) message side.to_linux r.clear_of (interrupt-clear side.round n place);
          fetched = r.fetched;
          outside = EachRing-post (IsOutside side.round side.lwk.begun) (ring t) message side.to_linux r.outside tt;
          mirror_outside = r.mirror_outside;
          pins_outside = r.pins_outside;
        };
        owned = k.owned;
        served = record {
          worker_below = s.worker_below;
          requests = λ q. omega (arith, sum-post (asks q) (ring t) message side.to_linux, s.requests q);
          waits = s.waits;
          known = s.known;
          workers_hold = s.workers_hold;
          held_by = s.held_by;
          faults = λ w. omega (arith, sum-post (answers_to w) (ring t) message side.to_linux, s.faults w);
          fault_for = s.fault_for;
          noted_for = s.noted_for;
          answer_for = EachRing-post (AnswerIsFor (at side.linux.workers) (at side.linux.services)) (ring t) message side.to_linux s.answer_for tt;
          pins_serve = s.pins_serve;
        };
        answered = rw b (Answered-mark (at side.book.rows) (at side.lwk.callers) side.book.next side.to_lwk t c calls k.answered);
        calls = rw b (Calls-mark (at side.book.rows) (at side.lwk.callers) side.book.next side.to_lwk t c calls p (at node.threads) k.calls);
        asked = EachRing-post (RequestIs (at side.book.rows)) (ring t) message side.to_linux k.asked tt;
        interrupts = EachRing-post (InterruptIs side.book.next (at side.book.rows) (at node.threads)) (ring t) message side.to_linux k.interrupts
            ((k.answered.calls t c calls).given, nodes.places.below t thread.0 thread.1, λ l. ap (λ (u : ℕ). place_in place (at node.threads u)) (named l) ∙ ap (place_in place) thread.1 ∙ (let e : (place == place) ≡ true = grind (arith, nat_tests) in e));
        directions = record { to_linux = EachRing-post (λ m. goes_to_linux m ≡ true) (ring t) message side.to_linux k.directions.to_linux refl; to_lwk = k.directions.to_lwk };
        messages = rw b (Messages-interrupt p (at side.book.rows) (at node.threads) ring (at side.lwk.callers) side.book.next side.to_lwk k.answered k.calls t thread.0 thread.1 thread.2 nodes.places.apart c calls n refl side.to_linux there_is k.asked none-posted (s.requests c.request) k.messages);
        marked = rw b marks;
      })

-- ---- the event
module _ (p : ℕ) (t : Tid) (h : Here) (m : may_here (Events.Interrupt t) h ≡ true) where
  -- of a thread that rests
  pub rests-at : is_calling h.side t.0 ≡ false → (x : Thread) × (IsThread h.node t.0 x) × (rests x.does ≡ true) × (may_be_called_back h.node t.0 ≡ true)
  rests-at e =
      let f = sym (ap (λ b. cond b (not (caller_at h.side t.0).marked && may_be_marked h.node t.0) (may_be_called_back h.node t.0)) e) ∙ m in
      let x = thread_of h.node t.0 in
      let a = both (is_some (at h.node.threads t.0) && rests x.does && is_living h.node x.process) (is_deliverable h.node t.0) f in
      let b = both (is_some (at h.node.threads t.0) && rests x.does) (is_living h.node x.process) a.0 in
      let c = both (is_some (at h.node.threads t.0)) (rests x.does) b.0 in
      let y = some-is (at h.node.threads t.0) c.0 in
      (y.0, y.1, ap (λ (z : Thread). rests z.does) (sym (thread-is h.node t.0 y.0 y.1)) ∙ c.1, f)

  pub marks-at : is_calling h.side t.0 ≡ true → (c : Caller) × (at h.side.lwk.callers t.0 ≡ Some c) × (c.marked ≡ false) × (may_be_marked h.node t.0 ≡ true)
  marks-at e =
      let f = sym (ap (λ b. cond b (not (caller_at h.side t.0).marked && may_be_marked h.node t.0) (may_be_called_back h.node t.0)) e) ∙ m in
      let a = both (not (caller_at h.side t.0).marked) (may_be_marked h.node t.0) f in
      let c = some-is (at h.side.lwk.callers t.0) e in
      (c.0, c.1, sym (ap (λ (o : Option Caller). (unwrap_or o no_caller).marked) c.1) ∙ not-true (caller_at h.side t.0).marked a.0, a.1)

  -- whatever it is of, the node keeps all that other processes need
  pub others_interrupt : (q : ℕ) (side : Side) (workers : ℕ) (ring : ℕ → ℕ) → OfProcess q side h.node workers ring → OfProcess q side (after_here (Events.Interrupt t) p h).node workers ring
  others_interrupt q side workers ring k = go (is_calling h.side t.0) refl
    where
      go : (b : Bool) → is_calling h.side t.0 ≡ b → OfProcess q side (interrupt_as b t.0 h).node workers ring
      go true e = node-keeps q none_free side h.node (moved_to_own t.0 h.node) workers ring (moved-keeps q none_free h.node t.0) (none-idle q h.node) k
      go false e =
          let x = rests-at e in
          node-keeps q (λ u. u == t.0) side h.node (called_back t.0 h.node) workers ring (called_back-free q (λ u. u == t.0) h.node t.0 (let s : (t.0 == t.0) ≡ true = grind (arith, nat_tests) in s)) (idle-one q t.0 h.node x.0 x.1 (rests-free x.0.does x.2)) k

  pub keeps_interrupt : (workers : ℕ) → NodeHolds h.node → RingsHold h → OfProcess p h.side h.node workers (ring_of h) → OfProcess p (after_here (Events.Interrupt t) p h).side (after_here (Events.Interrupt t) p h).node workers (ring_of h)
  keeps_interrupt workers nodes rings k = go (is_calling h.side t.0) refl
    where
      called : is_calling h.side t.0 ≡ true → OfProcess p (post_interrupt (ring_of h t.0) t.0 (thread_of h.node t.0).place h.side) h.node workers (ring_of h)
      called e =
          let c = marks-at e in
          let x = k.calls.there t.0 c.0 c.1 in
          subst (λ (z : Thread). OfProcess p (post_interrupt (ring_of h t.0) t.0 z.place h.side) h.node workers (ring_of h)) (sym (thread-is h.node t.0 x.0 x.1))
          (keeps_post_interrupt p t.0 h.side h.node workers (ring_of h) k nodes (ring-there h t.0 rings) c.0 c.1 c.2)

      go : (b : Bool) → is_calling h.side t.0 ≡ b → OfProcess p (interrupt_as b t.0 h).side (interrupt_as b t.0 h).node workers (ring_of h)
      go true e = node-keeps p none_free (post_interrupt (ring_of h t.0) t.0 (thread_of h.node t.0).place h.side) h.node (moved_to_own t.0 h.node) workers (ring_of h) (moved-keeps p none_free h.node t.0) (none-idle p h.node) (called e)
      go false e =
          let x = rests-at e in
          node-keeps p (λ u. u == t.0) h.side h.node (called_back t.0 h.node) workers (ring_of h) (called_back-free p (λ u. u == t.0) h.node t.0 (let s : (t.0 == t.0) ≡ true = grind (arith, nat_tests) in s)) (idle-one p t.0 h.node x.0 x.1 (rests-free x.0.does x.2)) k

  -- ---- the steps
  shown-calling : is_some (at (each (shown_call h.side) h.side.lwk.callers) t.0) ≡ is_calling h.side t.0
  shown-calling = ap is_some (at-collect (λ j y. Some (shown_call h.side y)) h.side.lwk.callers t.0) ∙ go (at h.side.lwk.callers t.0)
    where
      go : (o : Option Caller) → is_some (and_then o (λ y. Some (shown_call h.side y))) ≡ is_some o
      go None = refl
      go (Some c) = refl

  rest-step : is_calling h.side t.0 ≡ false → Simulated (Events.Interrupt t) p h
  rest-step e =
      simulated-one (Events.Interrupt t) p h (Steps.Interrupted (tid t.0)) (ap (λ b. image_of_interrupt b t.0) e) may (ap (λ b. OneSteps.interrupted_as b t.0 (shown_here h)) none ∙ ap (λ b. shown_here (interrupt_as b t.0 h)) (sym e))
    where
      none : OneSteps.has_call (shown_here h) t.0 ≡ false
      none = shown-calling ∙ e

      may : OneSteps.may_here (Steps.Interrupted (tid t.0)) (shown_here h) ≡ true
      may = or-right (OneSteps.is_active (shown_here h) t.0 (λ y. (OneSteps.call_at (shown_here h) t.0).marked && is_not_ready (next_kind h.node.files y))) (may_be_called_back h.node t.0) (rests-at e).3
        where
          or-right : (a b : Bool) → b ≡ true → (a || b) ≡ true
          or-right true b e = refl
          or-right false b e = e

  mark-step : is_calling h.side t.0 ≡ true → Simulated (Events.Interrupt t) p h
  unfolding post_interrupt
  mark-step e =
      simulated-one (Events.Interrupt t) p h (Steps.Mark (tid t.0)) (ap (λ b. image_of_interrupt b t.0) e) may (leads ∙ ap (λ b. shown_here (interrupt_as b t.0 h)) (sym e))
    where
      c : (c : Caller) × (at h.side.lwk.callers t.0 ≡ Some c) × (c.marked ≡ false) × (may_be_marked h.node t.0 ≡ true)
      c = marks-at e

      r : ℕ
      r = ring_of h t.0

      side' : Side
      side' = post_interrupt r t.0 (thread_of h.node t.0).place h.side

      shown-at : at (each (shown_call h.side) h.side.lwk.callers) t.0 ≡ Some (shown_call h.side c.0)
      shown-at = at-collect (λ j y. Some (shown_call h.side y)) h.side.lwk.callers t.0 ∙ ap (λ o. and_then o (λ y. Some (shown_call h.side y))) c.1

      may : OneSteps.may_here (Steps.Mark (tid t.0)) (shown_here h) ≡ true
      may = let s = shown-at in let f = c.2 in let g = c.3 in rw (s, f, g) refl

      status : (q : ℕ) → status_of side' q ≡ status_of h.side q
      status q = ap (λ b. status_in (state_in (at h.side.book.rows q)) (call_in (at h.side.book.rows q)) (unwrap_or (at h.side.linux.services q) no_service) b (reply_code q h.side.to_lwk))
          (has_empty-post (at h.side.linux.workers) q r (Interrupt (record { 0 = (caller_at h.side t.0).request }) (thread_of h.node t.0).place) h.side.to_linux refl)

      caller-is : caller_at h.side t.0 ≡ c.0
      caller-is = ap (λ (o : Option Caller). unwrap_or o no_caller) c.1

      calls : put (each (shown_call h.side) h.side.lwk.callers) t.0 (record { marked = true; status = status_of h.side c.0.request }) ≡ each (shown_call side') side'.lwk.callers
      calls = same_rows _ _ (λ j.
          at-put (each (shown_call h.side) h.side.lwk.callers) t.0 (record { marked = true; status = status_of h.side c.0.request }) j
          ∙ ap (cond (j == t.0) (Some (record { marked = true; status = status_of h.side c.0.request }))) (at-collect (λ k y. Some (shown_call h.side y)) h.side.lwk.callers j)
          ∙ row (j == t.0) (at h.side.lwk.callers j)
          ∙ ap (λ o. and_then o (λ y. Some (shown_call side' y))) (sym (at-put h.side.lwk.callers t.0 (record (caller_at h.side t.0) { marked = true }) j))
          ∙ sym (at-collect (λ k y. Some (shown_call side' y)) side'.lwk.callers j))
        where
          row : (b : Bool) (o : Option Caller) → cond b (Some (record { marked = true; status = status_of h.side c.0.request })) (and_then o (λ y. Some (shown_call h.side y))) ≡ and_then (cond b (Some (record (caller_at h.side t.0) { marked = true })) o) (λ y. Some (shown_call side' y))
          row true o = let f = sym (ap (λ (z : Caller). status_of side' z.request) caller-is ∙ status c.0.request) in λ i. Some (record { marked = true; status = f i })
          row false None = refl
          row false (Some d) = let f = sym (status d.request) in λ i. Some (record { marked = d.marked; status = f i })

      leads : OneSteps.after_here (Steps.Mark (tid t.0)) p (shown_here h) ≡ shown_here (interrupt_as true t.0 h)
      leads = let s = shown-at in let f = calls in rw s (λ i. record { own = record { memory = shown_memory h.side.lwk.table h.frames; calls = f i }; node = moved_to_own t.0 h.node; free = length h.free; born = shown_born h.frames h.born })

  pub simulated_interrupt : Simulated (Events.Interrupt t) p h
  simulated_interrupt = go (is_calling h.side t.0) refl
    where
      go : (b : Bool) → is_calling h.side t.0 ≡ b → Simulated (Events.Interrupt t) p h
      go true e = mark-step e
      go false e = rest-step e
