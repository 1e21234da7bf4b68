-- Intake of a Reply keeps what holds of every process, and is the step Return of the one-kernel machine.
use Rattle.kernel_model.specs.Steps as OneSteps
use Rattle.kernel_model.specs.declared.steps.Step.TheVariants as Steps
use Rattle.hybrid_model.specs.declared.events.Event.TheVariants as Events
use Rattle.hybrid_laws.proofs.maps.Lookups.{CallerIs, caller-found}
use Rattle.hybrid_laws.proofs.maps.Reading.{Each-where, reads-cut}
use Rattle.hybrid_laws.proofs.node.Keeps.{Keeps, calls-found, interrupts-stay, messages-stay, node-keeps, owned-keeps}
use Rattle.hybrid_laws.proofs.node.Primitives.{returns-free}
use Rattle.hybrid_laws.proofs.node.Threads.{called_in, returned-not}
use Rattle.hybrid_laws.proofs.rings.Placing.{EachNumbered-map}
use Rattle.hybrid_laws.proofs.states.Simulated.{simulated-one}
use Rattle.hybrid_laws.specs.Simulated.{Simulated}
use Rattle.hybrid_model.specs.Coherence.{Answered, CallHolds, IsAwaited, Marked, Messages, OnlyOwn, ReplyIsAwaited, calls_it, is_live, replies_to, state_at, tid_in, OfProcess, CallsAgree, Directions, Rounded, Served, place_in}
use Rattle.hybrid_model.specs.Events.{after_here}
use Rattle.hybrid_model.specs.Images.{image_here}
use Rattle.hybrid_model.specs.Intake.{caller_number, image_of_intake}
use Rattle.hybrid_model.specs.Intake.{take_reply, intake}
use Rattle.hybrid_model.specs.Pairs.{Here}
use Rattle.hybrid_model.specs.Shown.{shown_born, shown_call, shown_here, status_of}
use Rattle.hybrid_model.specs.Sides.{Caller, Service, Side}
use Rattle.hybrid_model.specs.Spaces.{shown_memory}
use Rattle.hybrid_model.specs.Tallies.{Reads, if_same, tally, with_at}
use Rattle.ikc_ring.specs.declared.CallRequest.{CallRequest}
use Rattle.ikc_ring.specs.declared.Msg.TheVariants.{Ack, Answer, Clear, Fault, Interrupt, Reply, Request}
use Rattle.ikc_ring.specs.declared.Msg.{Msg}
use Rattle.kernel_model.specs.Nodes.{Node, Thread, is_called, change_in, process_of}
use Rattle.kernel_model.specs.OneKernel.{Over}
use Rattle.kernel_model.specs.Traps.{returns}
use Rattle.kernel_model.specs.declared.Does.TheVariants.{Asleep, Called, InVm, InWait, Ready, Stopped}
use Rattle.kernel_model.specs.declared.Does.{Does}
use Rattle.mck_word.specs.Identifiers.{pid, tid}
use Rattle.mck_word.specs.MapLaws.{at-collect, at-cut, same_rows}
use Rattle.mck_word.specs.Maps.{at, and_then, cut, each}
use Rattle.mck_word.specs.declared.Req.{Req}
use Rattle.request_book.specs.declared.ReqState.{ReqState}
use Rattle.std.proofs.Common.{ap, arith, refl, subst, sym, ◌∙◌}
use Rattle.std.proofs.lemmas.Bool.Decides.{nat_tests}
use Rattle.std.specs.Prelude.{Bool, List, None, Some, false, if◌then◌else◌, true, ℕ, ℤ, ◌==◌, ◌∷◌, ◌≡◌, is_some, ◌≢◌, Option, [], cond, length}

-- ---- replies and callers
module _ (rows : Reads (ReqState × CallRequest)) (callers : Reads Caller) (next q : ℕ) (n : Req) (number : n.0 ≡ q) (code : ℤ) (bs : List Msg) (a : Answered rows callers next (Reply n code ∷ bs)) (t : ℕ) (c : Caller) (calls : callers t ≡ Some c) (calls_q : c.request ≡ q) where
  abbrev callers' : Reads Caller
  callers' = with_at callers t None

  gone : rows q ≡ None
  gone = subst (λ (x : ℕ). rows x ≡ None) number (a.awaited.0).gone

  no-more : tally (replies_to q) bs ≡ 0
  no-more = let r = a.replies q in grind (arith, nat_tests, r, number)

  none-to : (m : Msg) → replies_to q m ≡ 0 → ReplyIsAwaited rows callers m → ReplyIsAwaited rows callers' m
  none-to (Reply k d) e h =
      let o = a.alone in
      let b = differ k.0 h e in
      record { gone = h.gone; thread = h.thread; caller = h.caller; calls = grind (arith, nat_tests, h.calls, b); number = h.number }
    where
      differ : (k : ℕ) (h : IsAwaited rows callers k) → if_same k q ≡ 0 → (h.thread == t) ≡ false
      differ k h e = go (h.thread == t) refl
        where
          go : (b : Bool) → (h.thread == t) ≡ b → b ≡ false
          go false f = refl
          go true f =
              let g : h.thread ≡ t = grind (arith, nat_tests, f) in
              let o = sym h.calls ∙ ap callers g ∙ calls in
              let s : h.caller ≡ c = cc in
              let r = sym h.number ∙ ap (λ (z : Caller). z.request) s ∙ calls_q in
              absurd (grind (arith, nat_tests, r, e))
  none-to (Request x) e h = tt
  none-to (Clear r) e h = tt
  none-to (Answer w i k row) e h = tt
  none-to (Interrupt k place) e h = tt
  none-to Ack e h = tt
  none-to (Fault w i x) e h = tt

  -- another caller calls with another number
  other-number : (u : ℕ) (d : Caller) → (u == t) ≡ false → callers u ≡ Some d → (d.request == q) ≡ false
  other-number u d f e = go (d.request == q) refl
    where
      go : (b : Bool) → (d.request == q) ≡ b → b ≡ false
      go false g = refl
      go true g = absurd (let s = a.alone u t d c e calls (let k : d.request ≡ q = grind (arith, nat_tests, g) in k ∙ sym calls_q) in grind (arith, nat_tests, s, f))

  was : (u : ℕ) (d : Caller) → callers' u ≡ Some d → ((u == t) ≡ false) × (callers u ≡ Some d)
  was u d e = go (u == t) refl e
    where
      go : (b : Bool) → (u == t) ≡ b → (if b then None else callers u) ≡ Some d → ((u == t) ≡ false) × (callers u ≡ Some d)
      go true f k = absurd (grind (arith, k))
      go false f k = (f, k)

  holds-on : (u : ℕ) (d : Caller) → callers' u ≡ Some d → CallHolds rows next u d.request bs
  holds-on u d e =
      let w = was u d e in
      let k = a.calls u d w.1 in
      let o = other-number u d w.0 w.1 in
      record { given = k.given; named = k.named; replied = λ z. (let r = k.replied z in let s = other o in grind (arith, nat_tests, r, s)) }
    where
      other : (d.request == q) ≡ false → if_same n.0 d.request ≡ 0
      other o = grind (arith, nat_tests, o, number)

  live-on : (x : ℕ) → is_live (state_at rows x) ≡ true → calls_it x (callers' (tid_in (rows x))) ≡ true
  live-on x l = go (tid_in (rows x) == t) refl (a.live x l)
    where
      go : (b : Bool) → (tid_in (rows x) == t) ≡ b → calls_it x (callers (tid_in (rows x))) ≡ true → calls_it x (if b then None else callers (tid_in (rows x))) ≡ true
      go false f k = k
      go true f k =
          let g : tid_in (rows x) ≡ t = grind (arith, nat_tests, f) in
          let k' = rw (g, calls) at k in
          let y : x ≡ q = grind (arith, nat_tests, k', calls_q) in
          absurd (let l' = rw (y, gone) at l in grind (arith, l'))

  pub answered_reply : Answered rows callers' next bs
  answered_reply = record {
    awaited = Each-where (replies_to q) (ReplyIsAwaited rows callers) (ReplyIsAwaited rows callers') bs no-more none-to a.awaited.1;
    calls = holds-on;
    alone = λ u v x y e f s. a.alone u v x y (was u x e).1 (was v y f).1 s;
    live = live-on;
    replies = λ x. omega (arith, a.replies x);
    fresh = a.fresh;
    not_replied = a.not_replied;
  }

-- ---- fewer callers
module _ (rows : Reads (ReqState × CallRequest)) (threads : Reads Thread) (ring_of : ℕ → ℕ) (callers : Reads Caller) (t : ℕ) where
  fewer : (u : ℕ) (d : Caller) → with_at callers t None u ≡ Some d → callers u ≡ Some d
  fewer u d e = go (u == t) e
    where
      go : (b : Bool) → (if b then None else callers u) ≡ Some d → callers u ≡ Some d
      go true k = absurd (grind (arith, k))
      go false k = k

  pub Messages-fewer : (rings : List (List Msg)) → Messages rows threads ring_of callers rings → Messages rows threads ring_of (with_at callers t None) rings
  Messages-fewer rings h = record {
    placed = h.placed;
    only = EachNumbered-map (OnlyOwn rows threads ring_of callers) (OnlyOwn rows threads ring_of (with_at callers t None)) 0 rings (λ r ms k u x d a b e f. k u x d a (fewer u d b) e f) h.only;
  }

  pub Marked-fewer : (services : Reads Service) (rings : List (List Msg)) → Marked services callers rings → Marked services (with_at callers t None) rings
  Marked-fewer services rings h = record { fetched = λ u d e f. h.fetched u d (fewer u d e) f; posted = λ u d e. h.posted u d (fewer u d e) }

-- ---- the whole process
module _ (p : ℕ) (h : Here) (n : Req) (code : ℤ) (rest : List Msg) (first : h.side.to_lwk ≡ Reply n code ∷ rest) (workers : ℕ) (ring : ℕ → ℕ) (k : OfProcess p h.side h.node workers ring) where
  answers : Answered (at h.side.book.rows) (at h.side.lwk.callers) h.side.book.next (Reply n code ∷ rest)
  answers = rw first at k.answered

  pub awaits : IsAwaited (at h.side.book.rows) (at h.side.lwk.callers) n.0
  awaits = answers.awaited.0

  abbrev pub t : ℕ
  t = awaits.thread

  pub caller : CallerIs h.side.lwk.callers n.0 t
  caller = caller-found h.side.lwk.callers n.0 t awaits.caller k.answered.alone awaits.calls awaits.number

  -- the thread that calls
  pub thread : (x : Thread) × (at h.node.threads t ≡ Some x) × (x.process ≡ p)
  thread = k.calls.there t awaits.caller awaits.calls

  pub called : is_called thread.0.does ≡ true
  called = k.calls.called t thread.0 thread.1 thread.2 ∙ ap is_some awaits.calls

  abbrev pub new : Node
  new = returns t code h.node

  abbrev one_free : ℕ → Bool
  one_free u = u == t

  keeps : (q : ℕ) → Keeps q one_free h.node new
  keeps q = returns-free q one_free h.node t code (let e : (t == t) ≡ true = grind (arith, nat_tests) in e)

  others : (q : ℕ) (side : Side) (workers : ℕ) (ring : ℕ → ℕ) → p ≢ q → OfProcess q side h.node workers ring → OfProcess q side new workers ring
  others q side workers ring other = node-keeps q one_free side h.node new workers ring (keeps q) (λ u y e f own. absurd (other (
      let g : u ≡ t = grind (arith, nat_tests, e) in
      let o = sym thread.1 ∙ ap (at h.node.threads) (sym g) ∙ f in
      let s : thread.0 ≡ y = cc in sym thread.2 ∙ ap (λ (z : Thread). z.process) s ∙ own)))

  -- a thread other than t that calls stays
  stays : (u : ℕ) (c : Caller) → (u == t) ≡ false → at h.side.lwk.callers u ≡ Some c → (x : Thread) × (at h.node.threads u ≡ Some x) × (y : Thread) × (at new.threads u ≡ Some y) × (y.process ≡ p) × (y.place ≡ x.place) × (is_called y.does ≡ true)
  stays u c f e =
      let x = k.calls.there u c e in
      let l : is_called x.0.does ≡ true = k.calls.called u x.0 x.1 x.2 ∙ ap is_some e in
      let y = ((keeps p).threads u).kept x.0 x.1 x.2 f (rw l refl) in
      (x.0, x.1, y.0, y.1, y.2, y.3, ap is_called y.4 ∙ l)

  places : (u : ℕ) (c : Caller) → with_at (at h.side.lwk.callers) t None u ≡ Some c → (j : ℕ) → place_in j (at new.threads u) ≡ place_in j (at h.node.threads u)
  places u c e j =
      let w = was (at h.side.book.rows) (at h.side.lwk.callers) h.side.book.next n.0 n refl code rest answers t awaits.caller awaits.calls awaits.number u c e in
      let y = stays u c w.0 w.1 in
      ap (place_in j) y.3 ∙ ap (λ (q : ℕ). q == j) y.5 ∙ sym (ap (place_in j) y.1)

  agree : CallsAgree p (at new.threads) (with_at (at h.side.lwk.callers) t None)
  agree = record {
    called = λ u y e own. row u y e own (u == t) refl (at h.side.lwk.callers u) refl;
    there = λ u c e.
        let w = was (at h.side.book.rows) (at h.side.lwk.callers) h.side.book.next n.0 n refl code rest answers t awaits.caller awaits.calls awaits.number u c e in
        let y = stays u c w.0 w.1 in (y.2, y.3, y.4);
  }
    where
      row : (u : ℕ) (y : Thread) → at new.threads u ≡ Some y → y.process ≡ p → (b : Bool) → (u == t) ≡ b → (o : Option Caller) → at h.side.lwk.callers u ≡ o → is_called y.does ≡ is_some (if b then None else o)
      row u y e own true f o g = let v : u ≡ t = grind (arith, nat_tests, f) in sym (ap called_in (sym (ap (at new.threads) v) ∙ e)) ∙ returned-not t code h.node
      row u y e own false f (Some c) g =
          let z = stays u c f g in
          let o = sym z.3 ∙ e in
          let s : z.2 ≡ y = cc in
          ap (λ (v : Thread). is_called v.does) (sym s) ∙ z.6
      row u y e own false f None g = not-called (is_called y.does) refl
        where
          not-called : (b : Bool) → is_called y.does ≡ b → b ≡ false
          not-called false l = refl
          not-called true l = absurd (
              let x = ((keeps p).threads u).called y e own l in
              let m = sym x.3 ∙ k.calls.called u x.0 x.1 x.2 ∙ ap is_some g in grind (arith, m))

  pub keeps_reply : OfProcess p (take_reply n.0 code rest h).side (take_reply n.0 code rest h).node workers ring
  unfolding take_reply
  keeps_reply =
      let a = answered_reply (at h.side.book.rows) (at h.side.lwk.callers) h.side.book.next n.0 n refl code rest answers t awaits.caller awaits.calls awaits.number in
      let c = reads-cut h.side.lwk.callers t in
      let f = caller.found in
      let r : Rounded h.side.round (at h.side.linux.mirror) (at h.side.linux.pins) h.side.lwk.begun h.side.linux.cleared h.side.to_linux (Reply n code ∷ rest) = rw first at k.rounded in
      let s : Served workers (at h.side.linux.workers) (at h.side.book.rows) (at h.side.linux.services) (at h.side.linux.pins) h.side.book.waiting (at h.side.lwk.noted) h.side.to_linux (Reply n code ∷ rest) = rw first at k.served in
      let d : Directions h.side.to_linux (Reply n code ∷ rest) = rw first at k.directions in
      let live : (q : ℕ) → is_live (state_at (at h.side.book.rows) q) ≡ true → (c : Caller) × (with_at (at h.side.lwk.callers) t None (tid_in (at h.side.book.rows q)) ≡ Some c) = λ q l. calls-found q (with_at (at h.side.lwk.callers) t None (tid_in (at h.side.book.rows q))) (a.live q l) in
      rw f (record {
        covered = k.covered;
        rounded = record { clears_are = r.clears_are; acks_are = omega (arith, r.acks_are); clear_of = r.clear_of; fetched = r.fetched; outside = r.outside; mirror_outside = r.mirror_outside; pins_outside = r.pins_outside };
        owned = owned-keeps p one_free (at h.node.threads) (at new.threads) idle (keeps p).threads (process_of h.node p) (process_of new p) (keeps p).heap h.side.round h.side.lwk.changing k.owned;
        served = record {
          worker_below = s.worker_below;
          requests = s.requests;
          waits = s.waits;
          known = s.known;
          workers_hold = s.workers_hold;
          held_by = s.held_by;
          faults = λ w. omega (arith, s.faults w);
          fault_for = s.fault_for.1;
          noted_for = s.noted_for;
          answer_for = s.answer_for;
          pins_serve = s.pins_serve;
        };
        answered = rw c a;
        calls = rw c agree;
        asked = k.asked;
        interrupts = interrupts-stay (at h.side.book.rows) (with_at (at h.side.lwk.callers) t None) (at h.node.threads) (at new.threads) places live h.side.book.next h.side.to_linux k.interrupts;
        directions = record { to_linux = d.to_linux; to_lwk = d.to_lwk.1 };
        messages = rw c (messages-stay (at h.side.book.rows) (with_at (at h.side.lwk.callers) t None) (at h.node.threads) (at new.threads) places live ring h.side.to_linux k.asked
            (Messages-fewer (at h.side.book.rows) (at h.node.threads) ring (at h.side.lwk.callers) t h.side.to_linux k.messages));
        marked = rw c (Marked-fewer (at h.side.book.rows) (at h.node.threads) ring (at h.side.lwk.callers) t (at h.side.linux.services) h.side.to_linux k.marked);
      })
    where
      idle : (u : ℕ) (x : Thread) → one_free u ≡ true → at h.node.threads u ≡ Some x → x.process ≡ p → change_in x.does ≡ None
      idle u x f e own =
          let g : u ≡ t = grind (arith, nat_tests, f) in
          let o = sym thread.1 ∙ ap (at h.node.threads) (sym g) ∙ e in
          let s : thread.0 ≡ x = cc in
          calls-no x.does (ap (λ (z : Thread). is_called z.does) (sym s) ∙ called)
        where
          calls-no : (d : Does) → is_called d ≡ true → change_in d ≡ None
          calls-no Called l = refl
          calls-no Ready l = absurd (grind (arith, l))
          calls-no (Stopped z) l = absurd (grind (arith, l))
          calls-no (InVm z) l = absurd (grind (arith, l))
          calls-no (Asleep z) l = absurd (grind (arith, l))
          calls-no (InWait z y) l = absurd (grind (arith, l))

  -- ---- the step
  -- the calls that are shown: that of t is over with the answer, and the others stay
  pub status-own : status_of h.side awaits.caller.request ≡ Over code
  status-own =
      let number = awaits.number in let gone = awaits.gone in
      let same : (n.0 == n.0) ≡ true = grind (arith, nat_tests) in
      ap (status_of h.side) number ∙ rw (gone, first, same) refl

  call-own : at (each (shown_call h.side) h.side.lwk.callers) t ≡ Some (record { marked = awaits.caller.marked; status = Over code })
  call-own = at-collect (λ k y. Some (shown_call h.side y)) h.side.lwk.callers t ∙ ap (λ o. and_then o (λ y. Some (shown_call h.side y))) awaits.calls ∙ (λ i. Some (record { marked = awaits.caller.marked; status = status-own i }))

  abbrev pub side' : Side
  side' = record h.side { lwk = record h.side.lwk { callers = cut h.side.lwk.callers t }; to_lwk = rest }

  pub status-other : (u : ℕ) (d : Caller) → (u == t) ≡ false → at h.side.lwk.callers u ≡ Some d → status_of side' d.request ≡ status_of h.side d.request
  status-other u d f e =
      let o = other-number (at h.side.book.rows) (at h.side.lwk.callers) h.side.book.next n.0 n refl code rest answers t awaits.caller awaits.calls awaits.number u d f e in
      let b : (n.0 == d.request) ≡ false = grind (arith, nat_tests, o) in
      rw (first, b) refl

  calls-after : cut (each (shown_call h.side) h.side.lwk.callers) t ≡ each (shown_call side') (cut h.side.lwk.callers t)
  calls-after = same_rows (cut (each (shown_call h.side) h.side.lwk.callers) t) (each (shown_call side') (cut h.side.lwk.callers t)) (λ j.
      at-cut (each (shown_call h.side) h.side.lwk.callers) t j ∙ ap (cond (j == t) None) (at-collect (λ k y. Some (shown_call h.side y)) h.side.lwk.callers j)
      ∙ row j (j == t) refl (at h.side.lwk.callers j) refl
      ∙ ap (λ o. and_then o (λ y. Some (shown_call side' y))) (sym (at-cut h.side.lwk.callers t j)) ∙ sym (at-collect (λ k y. Some (shown_call side' y)) (cut h.side.lwk.callers t) j))
    where
      row : (j : ℕ) (b : Bool) → (j == t) ≡ b → (o : Option Caller) → at h.side.lwk.callers j ≡ o → cond b None (and_then o (λ y. Some (shown_call h.side y))) ≡ and_then (cond b None o) (λ y. Some (shown_call side' y))
      row j true f o e = refl
      row j false f None e = refl
      row j false f (Some d) e = let s = sym (status-other j d f e) in λ i. Some (record { marked = d.marked; status = s i })

  pub may_return : OneSteps.may_here (Steps.Return (tid t)) (shown_here h) ≡ true
  may_return = let c = call-own in rw c refl

  pub leads_reply : OneSteps.after_here (Steps.Return (tid t)) p (shown_here h) ≡ shown_here (take_reply n.0 code rest h)
  unfolding take_reply
  leads_reply =
      let c = call-own in let f = caller.found in let a = calls-after in
      rw (c, f) (λ i. record { own = record { memory = shown_memory h.side.lwk.table h.frames; calls = a i }; node = returns t code h.node; free = length h.free; born = shown_born h.frames h.born })

  pub simulated_reply : Simulated (Events.Intake (pid p)) p h
  simulated_reply = simulated-one (Events.Intake (pid p)) p h (Steps.Return (tid t)) image may_return leads
    where
      image : image_here (Events.Intake (pid p)) p h ≡ Steps.Return (tid t) ∷ []
      image = ap (λ (ms : List Msg). image_of_intake ms h.side) first ∙ ap (λ (o : Option ℕ). Steps.Return (tid (caller_number o)) ∷ []) caller.found

      leads : OneSteps.after_here (Steps.Return (tid t)) p (shown_here h) ≡ shown_here (intake p h.side.to_lwk h)
      leads = leads_reply ∙ ap (λ (ms : List Msg). shown_here (intake p ms h)) (sym first)

  pub keeps_intake_reply : OfProcess p (after_here (Events.Intake (pid p)) p h).side (after_here (Events.Intake (pid p)) p h).node workers ring
  keeps_intake_reply = subst (λ (ms : List Msg). OfProcess p (intake p ms h).side (intake p ms h).node workers ring) (sym first) keeps_reply

  pub others_intake_reply : (q : ℕ) (side : Side) (workers : ℕ) (ring : ℕ → ℕ) → p ≢ q → OfProcess q side h.node workers ring → OfProcess q side (after_here (Events.Intake (pid p)) p h).node workers ring
  unfolding take_reply
  others_intake_reply q side workers ring other o = subst (λ (ms : List Msg). OfProcess q side (intake p ms h).node workers ring) (sym first) (then-node q side workers ring other o)
    where
      then-node : (q : ℕ) (side : Side) (workers : ℕ) (ring : ℕ → ℕ) → p ≢ q → OfProcess q side h.node workers ring → OfProcess q side (take_reply n.0 code rest h).node workers ring
      then-node q side workers ring other o = let f = caller.found in rw f (others q side workers ring other o)
