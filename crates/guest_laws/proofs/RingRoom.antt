-- No ring is ever full. A ring to Linux has at most three messages for each of the sixteen places of threads, one Clear and one Answer for each worker;
-- the ring to the lightweight kernel has at most a Reply for each place, one Ack and a Fault for each worker.
use Rattle.clear_rounds.specs.declared.Phase.TheVariants.{Posted as RoundPosted, Taken, Acked}
use Rattle.clear_rounds.specs.declared.Phase.{Phase}
use Rattle.guest_laws.proofs.Counting.{each-at, no-more-than, numbered-at, same-one, sum-at, sum-in, sum-ones, sum-threes, tally-sum}
use Rattle.guest_laws.specs.Counting.{sum_below}
use Rattle.guest_laws.specs.RingRoom.{FindsRoom, RingsFit}
use Rattle.hybrid_laws.proofs.calls.Last.{workers-stay}
use Rattle.hybrid_laws.proofs.rings.Placing.{EachNumbered-map}
use Rattle.hybrid_model.specs.Claims.{Holds}
use Rattle.hybrid_model.specs.Coherence.{AnswerIsFor, AtMostInterrupt, AtMostRequest, FaultIsFor, InterruptIs, IsAwaited, IsPart, OfProcess, Placed, ReplyIsAwaited, RequestIs, acked, acks, answers_to, calls_it, clears, faulting, faults_of, goes_to_linux, is_acked_phase, is_faulted, is_live, is_of_place, is_posted_phase, of_place, place_in, posted, replies_to, state_at, tid_in}
use Rattle.hybrid_model.specs.Events.{after, process_of_event}
use Rattle.hybrid_model.specs.Globals.{Coherent, Places, ring_number}
use Rattle.hybrid_model.specs.Pairs.{Pair, here, side_of}
use Rattle.hybrid_model.specs.Rings.{ring}
use Rattle.hybrid_model.specs.Sides.{Caller, Round, Side, state_in}
use Rattle.hybrid_model.specs.Tallies.{Each, Reads, as_number, if_same, tally}
use Rattle.hybrid_model.specs.declared.events.Event.{Event}
use Rattle.ikc_ring.specs.declared.CallRequest.{CallRequest}
use Rattle.ikc_ring.specs.declared.Msg.TheVariants.{Request, Clear, Answer, Interrupt, Reply, Ack, Fault}
use Rattle.ikc_ring.specs.declared.Msg.{Msg}
use Rattle.kernel_model.specs.Nodes.{Node, Thread}
use Rattle.mck_word.specs.Maps.{at}
use Rattle.request_book.specs.declared.ReqState.TheVariants.{Posted, Waiting, Held, Parked, Faulted, Ended, Replied}
use Rattle.request_book.specs.declared.ReqState.{ReqState}
use Rattle.std.proofs.Common.{ap, arith, inl, inr, refl, sym, ◌∙◌}
use Rattle.std.proofs.lemmas.Bool.Decides.{nat_tests}
use Rattle.std.specs.Prelude.{Bool, List, None, Option, Some, [], false, if◌then◌else◌, length, true, ℕ, ◌+◌, ◌<◌, ◌==◌, ◌∷◌, ◌≡◌, ◌≤◌, ◌⊎◌}

-- ---- at most three for a place

interrupt-length : (q : ℕ) (ms : List Msg) → AtMostInterrupt q ms → length ms ≤ 1
interrupt-length q [] h = omega arith
interrupt-length q (Interrupt n place ∷ []) h = omega arith
interrupt-length q (Interrupt n place ∷ m ∷ ms) h = absurd h
interrupt-length q (Request c ∷ ms) h = absurd h
interrupt-length q (Clear x ∷ ms) h = absurd h
interrupt-length q (Answer w i n row ∷ ms) h = absurd h
interrupt-length q (Reply n code ∷ ms) h = absurd h
interrupt-length q (Ack ∷ ms) h = absurd h
interrupt-length q (Fault w i a ∷ ms) h = absurd h

request-length : (ms : List Msg) → AtMostRequest ms → length ms ≤ 2
request-length [] h = omega arith
request-length (Request c ∷ ms) h = omega (arith, interrupt-length c.q.0 ms h)
request-length (Interrupt n place ∷ ms) h = absurd h
request-length (Clear x ∷ ms) h = absurd h
request-length (Answer w i n row ∷ ms) h = absurd h
request-length (Reply n code ∷ ms) h = absurd h
request-length (Ack ∷ ms) h = absurd h
request-length (Fault w i a ∷ ms) h = absurd h

part-length : (state : ℕ → ReqState) (ms : List Msg) → IsPart state ms → length ms ≤ 3
part-length state [] h = omega arith
part-length state (Interrupt n place ∷ ms) h = omega (arith, request-length ms h.1)
part-length state (Request c ∷ ms) h = omega (arith, interrupt-length c.q.0 ms h)
part-length state (Clear x ∷ ms) h = absurd h
part-length state (Answer w i n row ∷ ms) h = absurd h
part-length state (Reply n code ∷ ms) h = absurd h
part-length state (Ack ∷ ms) h = absurd h
part-length state (Fault w i a ∷ ms) h = absurd h

place-tally : (threads : Reads Thread) (k : ℕ) (ms : List Msg) → tally (λ m. as_number (is_of_place threads k m)) ms ≡ length (of_place threads k ms)
place-tally threads k [] = refl
place-tally threads k (m ∷ ms) = go (is_of_place threads k m) (place-tally threads k ms)
  where
    go : (b : Bool) → tally (λ m. as_number (is_of_place threads k m)) ms ≡ length (of_place threads k ms)
        → as_number b + tally (λ m. as_number (is_of_place threads k m)) ms ≡ length (if b then m ∷ of_place threads k ms else of_place threads k ms)
    go true i = omega (arith, i)
    go false i = omega (arith, i)

-- ---- at most one

posted-most : (o : Option Round) → posted o ≤ 1
posted-most None = omega arith
posted-most (Some r) = go r.0
  where
    go : (x : Phase) → is_posted_phase x ≤ 1
    go RoundPosted = omega arith
    go Taken = omega arith
    go Acked = omega arith

acked-most : (o : Option Round) → acked o ≤ 1
acked-most None = omega arith
acked-most (Some r) = go r.0
  where
    go : (x : Phase) → is_acked_phase x ≤ 1
    go RoundPosted = omega arith
    go Taken = omega arith
    go Acked = omega arith

faulting-most : (rows : Reads (ReqState × CallRequest)) (o : Option ℕ) → faulting rows o ≤ 1
faulting-most rows None = omega arith
faulting-most rows (Some q) = go (state_at rows q)
  where
    go : (s : ReqState) → is_faulted s ≤ 1
    go Posted = omega arith
    go Waiting = omega arith
    go Held = omega arith
    go Parked = omega arith
    go Faulted = omega arith
    go Ended = omega arith
    go Replied = omega arith

-- ---- one process
module _ (p : ℕ) (side : Side) (node : Node) (worker_count : ℕ) (ring_of : ℕ → ℕ) (k : OfProcess p side node worker_count ring_of) (places : Places node) where
  abbrev threads : Reads Thread
  threads = at node.threads

  abbrev rows : Reads (ReqState × CallRequest)
  rows = at side.book.rows

  abbrev callers : Reads Caller
  callers = at side.lwk.callers

  -- ---- to Linux: a message counts at its place, as the Clear, or at its worker
  abbrev weight : Msg → ℕ
  weight m = sum_below (λ i. as_number (is_of_place threads i m)) 16 + (clears m + sum_below (λ w. answers_to w m) worker_count)

  at-place : (m : Msg) (i : ℕ) → i < 16 → is_of_place threads i m ≡ true → 1 ≤ sum_below (λ j. as_number (is_of_place threads j m)) 16
  at-place m i l e =
      let a = sum-in (λ j. as_number (is_of_place threads j m)) i 16 l in
      let b = ap as_number e in
      omega (arith, a, b)

  request-place : (c : CallRequest) → rows c.q.0 ≡ Some (Posted, c) → 1 ≤ sum_below (λ j. as_number (is_of_place threads j (Request c))) 16
  request-place c e = go (callers c.tid.0) refl (sym (ap (λ t. calls_it c.q.0 (callers t)) (ap tid_in e)) ∙ k.answered.live c.q.0 (ap (λ o. is_live (state_in o)) e))
    where
      go : (o : Option Caller) → callers c.tid.0 ≡ o → calls_it c.q.0 o ≡ true → 1 ≤ sum_below (λ j. as_number (is_of_place threads j (Request c))) 16
      go None f u = absurd (grind (arith, u))
      go (Some d) f u =
          let x = k.calls.there c.tid.0 d f in
          let s : (x.0.place == x.0.place) ≡ true = grind (arith, nat_tests) in
          at-place (Request c) x.0.place (places.below c.tid.0 x.0 x.1) (ap (place_in x.0.place) x.1 ∙ s)

  weighs : (m : Msg) → RequestIs rows m → InterruptIs side.book.next rows threads m → AnswerIsFor (at side.linux.workers) (at side.linux.services) m → goes_to_linux m ≡ true → 1 ≤ weight m
  weighs (Request c) a b d e = let z = request-place c a in omega (arith, z)
  weighs (Interrupt n place) a b d e =
      let s : (place == place) ≡ true = grind (arith, nat_tests) in
      let z = at-place (Interrupt n place) place b.1 s in
      omega (arith, z)
  weighs (Clear x) a b d e = omega arith
  weighs (Answer w i n row) a b d e =
      let l = k.served.worker_below w d.next.number d.next.serves in
      let z = sum-in (λ v. answers_to v (Answer w i n row)) w worker_count l in
      let y = same-one w in
      omega (arith, z, y)
  weighs (Reply n code) a b d e = absurd (grind (arith, e))
  weighs Ack a b d e = absurd (grind (arith, e))
  weighs (Fault w i x) a b d e = absurd (grind (arith, e))

  all-weigh : (ms : List Msg) → Each (RequestIs rows) ms → Each (InterruptIs side.book.next rows threads) ms → Each (AnswerIsFor (at side.linux.workers) (at side.linux.services)) ms → Each (λ m. goes_to_linux m ≡ true) ms
      → length ms ≤ sum_below (λ i. tally (λ m. as_number (is_of_place threads i m)) ms) 16 + (tally clears ms + sum_below (λ w. tally (answers_to w) ms) worker_count)
  all-weigh ms a b d e =
      let z = whole ms a b d e in
      let y = tally-sum (λ i m. as_number (is_of_place threads i m)) 16 ms in
      let x = tally-sum answers_to worker_count ms in
      omega (arith, z, y, x)
    where
      whole : (ns : List Msg) → Each (RequestIs rows) ns → Each (InterruptIs side.book.next rows threads) ns → Each (AnswerIsFor (at side.linux.workers) (at side.linux.services)) ns → Each (λ m. goes_to_linux m ≡ true) ns
          → length ns ≤ tally (λ m. sum_below (λ i. as_number (is_of_place threads i m)) 16) ns + (tally clears ns + tally (λ m. sum_below (λ w. answers_to w m) worker_count) ns)
      whole [] a b d e = omega arith
      whole (m ∷ ns) a b d e = let z = weighs m a.0 b.0 d.0 e.0 in let i = whole ns a.1 b.1 d.1 e.1 in omega (arith, z, i)

  pub linux-fits : (r : ℕ) → length (ring r side.to_linux) ≤ 49 + worker_count
  linux-fits r =
      let a = all-weigh (ring r side.to_linux) (each-at (RequestIs rows) r side.to_linux k.asked) (each-at (InterruptIs side.book.next rows threads) r side.to_linux k.interrupts)
      (each-at (AnswerIsFor (at side.linux.workers) (at side.linux.services)) r side.to_linux k.served.answer_for) (each-at (λ m. goes_to_linux m ≡ true) r side.to_linux k.directions.to_linux) in
      let b = sum-threes (λ i. tally (λ m. as_number (is_of_place threads i m)) (ring r side.to_linux)) 16 three in
      let c = sum-at clears r side.to_linux in
      let d = posted-most side.round in
      let e = sum-ones (λ w. tally (answers_to w) (ring r side.to_linux)) worker_count one in
      let f = k.rounded.clears_are in
      omega (arith, a, b, c, d, e, f)
    where
      parts : (i : ℕ) → IsPart (state_at rows) (of_place threads i (ring r side.to_linux))
      parts = numbered-at (λ ns. (i : ℕ) → IsPart (state_at rows) (of_place threads i ns)) 0 r side.to_linux (λ i. tt)
          (EachNumbered-map (Placed rows threads ring_of) (λ j ns. (i : ℕ) → IsPart (state_at rows) (of_place threads i ns)) 0 side.to_linux (λ j ns h. h.parts) k.messages.placed)

      three : (i : ℕ) → tally (λ m. as_number (is_of_place threads i m)) (ring r side.to_linux) ≤ 3
      three i = let a = place-tally threads i (ring r side.to_linux) in let b = part-length (state_at rows) (of_place threads i (ring r side.to_linux)) (parts i) in omega (arith, a, b)

      one : (w : ℕ) → tally (answers_to w) (ring r side.to_linux) ≤ 1
      one w =
          let a = sum-at (answers_to w) r side.to_linux in
          let b = k.served.faults w in
          let c = faulting-most rows (at side.linux.workers w) in
          omega (arith, a, b, c)

  -- ---- to the lightweight kernel: a Reply counts at the place of the thread that calls
  abbrev Awaited : Msg → Type 0
  Awaited = ReplyIsAwaited rows callers

  abbrev place_of : {q : ℕ} → IsAwaited rows callers q → ℕ
  place_of h = (k.calls.there h.thread h.caller h.calls).0.place

  abbrev reply_places : (bs : List Msg) → Each Awaited bs → List ℕ
  reply_places [] h = []
  reply_places (Reply n code ∷ bs) h = place_of h.0 ∷ reply_places bs h.1
  reply_places (Request c ∷ bs) h = reply_places bs h.1
  reply_places (Clear x ∷ bs) h = reply_places bs h.1
  reply_places (Answer w i n row ∷ bs) h = reply_places bs h.1
  reply_places (Interrupt n place ∷ bs) h = reply_places bs h.1
  reply_places (Ack ∷ bs) h = reply_places bs h.1
  reply_places (Fault w i a ∷ bs) h = reply_places bs h.1

  places-below : (bs : List Msg) (h : Each Awaited bs) → Each (λ i. i < 16) (reply_places bs h)
  places-below [] h = tt
  places-below (Reply n code ∷ bs) h = let x = k.calls.there h.0.thread h.0.caller h.0.calls in (places.below h.0.thread x.0 x.1, places-below bs h.1)
  places-below (Request c ∷ bs) h = places-below bs h.1
  places-below (Clear x ∷ bs) h = places-below bs h.1
  places-below (Answer w i n row ∷ bs) h = places-below bs h.1
  places-below (Interrupt n place ∷ bs) h = places-below bs h.1
  places-below (Ack ∷ bs) h = places-below bs h.1
  places-below (Fault w i a ∷ bs) h = places-below bs h.1

  -- a thread at the place calls
  record CallsAt (j : ℕ) : Type 0 where
    number : ℕ
    awaited : IsAwaited rows callers number
    place : place_of awaited ≡ j

  found : (j : ℕ) (bs : List Msg) (h : Each Awaited bs) → (tally (if_same j) (reply_places bs h) ≡ 0) ⊎ CallsAt j
  found j [] h = inl refl
  found j (Reply n code ∷ bs) h = go (j == place_of h.0) refl (found j bs h.1)
    where
      go : (b : Bool) → (j == place_of h.0) ≡ b → (tally (if_same j) (reply_places bs h.1) ≡ 0) ⊎ CallsAt j → ((if b then 1 else 0) + tally (if_same j) (reply_places bs h.1) ≡ 0) ⊎ CallsAt j
      go true e i = inr (record { number = n.0; awaited = h.0; place = (let g : j ≡ place_of h.0 = grind (arith, nat_tests, e) in sym g) })
      go false e (inl z) = inl (omega (arith, z))
      go false e (inr a) = inr a
  found j (Request c ∷ bs) h = found j bs h.1
  found j (Clear x ∷ bs) h = found j bs h.1
  found j (Answer w i n row ∷ bs) h = found j bs h.1
  found j (Interrupt n place ∷ bs) h = found j bs h.1
  found j (Ack ∷ bs) h = found j bs h.1
  found j (Fault w i a ∷ bs) h = found j bs h.1

  -- two replies that are awaited at one place have one number
  same-number : {q n : ℕ} (a : IsAwaited rows callers q) (b : IsAwaited rows callers n) → place_of a ≡ place_of b → n ≡ q
  same-number a b e =
      let x = k.calls.there a.thread a.caller a.calls in
      let y = k.calls.there b.thread b.caller b.calls in
      let t = places.apart a.thread b.thread x.0 y.0 x.1 y.1 (x.2 ∙ sym y.2) e in
      let c : Some a.caller ≡ Some b.caller = sym a.calls ∙ ap callers t ∙ b.calls in
      sym b.number ∙ sym (ap (λ (d : Caller). d.request) (inside a.caller b.caller c)) ∙ a.number
    where
      inside : (c d : Caller) → Some c ≡ Some d → c ≡ d
      inside c d e = cc

  most : (j : ℕ) (x : CallsAt j) (bs : List Msg) (h : Each Awaited bs) → tally (if_same j) (reply_places bs h) ≤ tally (replies_to x.number) bs
  most j x [] h = omega arith
  most j x (Reply n code ∷ bs) h = go (j == place_of h.0) refl (most j x bs h.1)
    where
      go : (b : Bool) → (j == place_of h.0) ≡ b → tally (if_same j) (reply_places bs h.1) ≤ tally (replies_to x.number) bs
          → (if b then 1 else 0) + tally (if_same j) (reply_places bs h.1) ≤ if_same n.0 x.number + tally (replies_to x.number) bs
      go true e i =
          let g : j ≡ place_of h.0 = grind (arith, nat_tests, e) in
          let s = same-number x.awaited h.0 (x.place ∙ g) in
          let z = ap (if_same n.0) s in
          let y = same-one n.0 in
          omega (arith, z, y, i)
      go false e i = omega (arith, i)
  most j x (Request c ∷ bs) h = omega (arith, most j x bs h.1)
  most j x (Clear r ∷ bs) h = omega (arith, most j x bs h.1)
  most j x (Answer w i n row ∷ bs) h = omega (arith, most j x bs h.1)
  most j x (Interrupt n place ∷ bs) h = omega (arith, most j x bs h.1)
  most j x (Ack ∷ bs) h = omega (arith, most j x bs h.1)
  most j x (Fault w i a ∷ bs) h = omega (arith, most j x bs h.1)

  once : (j : ℕ) → tally (if_same j) (reply_places side.to_lwk k.answered.awaited) ≤ 1
  once j = go (found j side.to_lwk k.answered.awaited)
    where
      go : (tally (if_same j) (reply_places side.to_lwk k.answered.awaited) ≡ 0) ⊎ CallsAt j → tally (if_same j) (reply_places side.to_lwk k.answered.awaited) ≤ 1
      go (inl e) = omega (arith, e)
      go (inr x) = let a = most j x side.to_lwk k.answered.awaited in let b = k.answered.replies x.number in omega (arith, a, b)

  back-length : (bs : List Msg) (h : Each Awaited bs) → Each (FaultIsFor (at side.linux.workers) (at side.linux.services)) bs → Each (λ m. goes_to_linux m ≡ false) bs
      → length bs ≤ length (reply_places bs h) + (tally acks bs + tally (λ m. sum_below (λ w. faults_of w m) worker_count) bs)
  back-length [] h f d = omega arith
  back-length (Reply n code ∷ bs) h f d = let i = back-length bs h.1 f.1 d.1 in omega (arith, i)
  back-length (Ack ∷ bs) h f d = let i = back-length bs h.1 f.1 d.1 in omega (arith, i)
  back-length (Fault w page a ∷ bs) h f d =
      let i = back-length bs h.1 f.1 d.1 in
      let l = k.served.worker_below w f.0.number f.0.serves in
      let z = sum-in (λ v. faults_of v (Fault w page a)) w worker_count l in
      let y = same-one w in
      omega (arith, z, y, i)
  back-length (Request c ∷ bs) h f d = absurd (let e = d.0 in grind (arith, e))
  back-length (Clear r ∷ bs) h f d = absurd (let e = d.0 in grind (arith, e))
  back-length (Answer w i n row ∷ bs) h f d = absurd (let e = d.0 in grind (arith, e))
  back-length (Interrupt n place ∷ bs) h f d = absurd (let e = d.0 in grind (arith, e))

  pub lwk-fits : length side.to_lwk ≤ 17 + worker_count
  lwk-fits =
      let a = back-length side.to_lwk k.answered.awaited k.served.fault_for k.directions.to_lwk in
      let b = no-more-than 16 (reply_places side.to_lwk k.answered.awaited) (places-below side.to_lwk k.answered.awaited) once in
      let c = k.rounded.acks_are in
      let d = acked-most side.round in
      let e = tally-sum faults_of worker_count side.to_lwk in
      let f = sum-ones (λ w. tally (faults_of w) side.to_lwk) worker_count one in
      omega (arith, a, b, c, d, e, f)
    where
      one : (w : ℕ) → tally (faults_of w) side.to_lwk ≤ 1
      one w = let b = k.served.faults w in let c = faulting-most rows (at side.linux.workers w) in omega (arith, b, c)

-- ---- the whole state
pub rings-fit : (pair : Pair) → Coherent pair → RingsFit pair
rings-fit pair c = record {
  to_linux = λ p r. linux-fits p (side_of pair p) pair.node pair.workers (ring_number pair) (c.whole p) c.places r;
  to_lwk = λ p. lwk-fits p (side_of pair p) pair.node pair.workers (ring_number pair) (c.whole p) c.places;
}

pub finds-room : (pair : Pair) (e : Event) → Holds pair e → FindsRoom pair e
finds-room pair e h = record {
  to_linux = λ p r longer. (let a = (rings-fit (after pair e) h.coherent).to_linux p r in omega (arith, a, longer, same));
  to_lwk = λ p longer. (let a = (rings-fit (after pair e) h.coherent).to_lwk p in omega (arith, a, longer, same));
}
  where
    same : (after pair e).workers ≡ pair.workers
    same = workers-stay e (process_of_event pair.node e) (here pair (process_of_event pair.node e))
