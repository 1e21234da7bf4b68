-- Fetch of a Request keeps what holds of the process.
use Rattle.hybrid_laws.proofs.maps.Reading.{Each-map, EachRing-take, EachRing-where, first-of, reads-put, reads-stated, sum-take, tally-push}
use Rattle.hybrid_laws.proofs.requests.Requests.{Answered-state, IsForNext-keeps, PinServes-keeps, answers-keep, directions-take, faults-keep, interrupts-state, live-state, noted-keep, tid-state}
use Rattle.hybrid_laws.proofs.rings.Placing.{Marked-take}
use Rattle.hybrid_model.specs.Coherence.{Covered, Rounded, Served, Answered, IsForNext, AnswerCovered, AnswerIsFor, AtMostInterrupt, ClearIsOf, InOwnRing, IsOutside, IsPart, NotAhead, RequestIs, answers_to, asks, clears, is_live, is_posted, of_place, place_in, state_at, tid_in, Marked, Messages, OnlyOwn, Placed, OfProcess, InterruptIs}
use Rattle.hybrid_model.specs.Fetch.{fetch_request, new_service}
use Rattle.hybrid_model.specs.Rings.{ring, with_ring}
use Rattle.hybrid_model.specs.Sides.{Row, Round, Noted, Service, Caller, state_in, Side, no_service}
use Rattle.hybrid_model.specs.Tallies.{Reads, with_at, sum_rings, EachRing, EachNumbered, if_same}
use Rattle.ikc_ring.specs.declared.CallRequest.{CallRequest}
use Rattle.ikc_ring.specs.declared.Msg.TheVariants.{Request, Clear, Answer, Interrupt, Reply, Ack, Fault}
use Rattle.ikc_ring.specs.declared.Msg.{Msg}
use Rattle.kernel_model.specs.Nodes.{Thread, Node}
use Rattle.mck_word.specs.Maps.{at}
use Rattle.mck_word.specs.declared.Access.{Access}
use Rattle.page_pins.specs.declared.Pin.{Pin}
use Rattle.request_book.specs.declared.ReqState.TheVariants.{Posted, Waiting}
use Rattle.request_book.specs.declared.ReqState.{ReqState}
use Rattle.std.proofs.Common.{ap, arith, refl, subst, sym, ◌∙◌}
use Rattle.std.proofs.lemmas.Bool.Decides.{nat_tests}
use Rattle.std.specs.Prelude.{zero, suc, Bool, List, Option, Some, [], false, if◌then◌else◌, true, ℕ, ◌++◌, ◌+◌, ◌<◌, ◌==◌, ◌∷◌, ◌≡◌, ◌≢◌, unwrap_or}

-- ---- requests
module _ (worker_count : ℕ) (workers : Reads ℕ) (rows : Reads (ReqState × CallRequest)) (services : Reads Service) (pins : Reads Pin) (waiting : List ℕ) (noted : Reads Noted) (rings : List (List Msg)) (bs : List Msg) (s : Served worker_count workers rows services pins waiting noted rings bs) (r q : ℕ) (c : CallRequest) (ms : List Msg) (first : ring r rings ≡ Request c ∷ ms) (number : c.q.0 ≡ q) (is : rows q ≡ Some (Posted, c)) (k : Service) where
  abbrev rows' : Reads (ReqState × CallRequest)
  rows' = with_at rows q (Some (Waiting, c))

  abbrev services' : Reads Service
  services' = with_at services q (Some k)

  asks-it : (p : ℕ) → if_same c.q.0 p ≡ if_same q p
  asks-it p = ap (λ n. if_same n p) number

  not-served : (v n : ℕ) → workers v ≡ Some n → (n == q) ≡ false
  not-served v n e = go (n == q) refl
    where
      go : (b : Bool) → (n == q) ≡ b → b ≡ false
      go false f = refl
      go true f = absurd (let g : n ≡ q = grind (arith, nat_tests, f) in let a = s.workers_hold v n e in grind (arith, a, g, is))

  others : (v i : ℕ) (a : Access) → IsForNext workers services v i a → IsForNext workers services' v i a
  others v i a h = IsForNext-keeps workers workers services services' v i a h h.serves (rw (not-served v h.number h.serves) refl)

  pub served_fetch : Served worker_count workers rows' services' pins (waiting ++ q ∷ []) noted (with_ring r ms rings) bs
  served_fetch = record {
    worker_below = s.worker_below;
    requests = λ p. let t = sum-take (asks p) r (Request c) ms rings first in grind (arith, nat_tests, t, asks-it p, is, s.requests p);
    waits = λ p. let t = tally-push (if_same p) waiting q in grind (arith, nat_tests, t, is, s.waits p);
    known = λ p. grind (arith, nat_tests, is, s.known p);
    workers_hold = λ v p e. let n = not-served v p e in grind (arith, nat_tests, is, e, n, s.workers_hold v p);
    held_by = λ p v e. grind (arith, nat_tests, is, e, s.held_by p v);
    faults = λ v. let t = sum-take (answers_to v) r (Request c) ms rings first in grind (arith, nat_tests, t, is, s.faults v, s.workers_hold v q);
    fault_for = faults-keep workers workers services services' others bs s.fault_for;
    noted_for = noted-keep workers workers services services' others noted s.noted_for;
    answer_for = answers-keep workers workers services services' others (with_ring r ms rings) (EachRing-take (AnswerIsFor workers services) r (Request c) ms rings first s.answer_for);
    pins_serve = λ v x e.
        let z = s.pins_serve v x e in
        let n = not-served v z.number z.serves in
        PinServes-keeps workers workers rows rows' services services' v x z z.serves (rw n z.not_faulted) (λ u. (rw n refl, rw n refl));
  }

  none-left : sum_rings (asks q) (with_ring r ms rings) ≡ 0
  none-left = let t = sum-take (asks q) r (Request c) ms rings first in grind (arith, nat_tests, t, asks-it q, is, s.requests q)

  asked-other : (m : Msg) → asks q m ≡ 0 → RequestIs rows m → RequestIs rows' m
  asked-other (Request z) e h = let n : (z.q.0 == q) ≡ false = grind (arith, nat_tests, e) in rw n h
  asked-other (Clear x) e h = tt
  asked-other (Answer v i n row) e h = tt
  asked-other (Interrupt n place) e h = tt
  asked-other (Reply n code) e h = tt
  asked-other Ack e h = tt
  asked-other (Fault v i a) e h = tt

  pub asked_fetch : EachRing (RequestIs rows) rings → EachRing (RequestIs rows') (with_ring r ms rings)
  asked_fetch h = EachRing-where (asks q) (RequestIs rows) (RequestIs rows') (with_ring r ms rings) none-left asked-other (EachRing-take (RequestIs rows) r (Request c) ms rings first h)

-- ---- the table and the round
module _ (round : Option Round) (mirror table : Reads Row) (pins : Reads Pin) (begun cleared : ℕ) (rings : List (List Msg)) (bs : List Msg) (r : ℕ) (c : CallRequest) (ms : List Msg) (first : ring r rings ≡ Request c ∷ ms) where
  pub covered_fetch : Covered table mirror pins begun cleared rings → Covered table mirror pins begun cleared (with_ring r ms rings)
  covered_fetch h = record {
    mirror_rows = h.mirror_rows;
    answers = EachRing-take (AnswerCovered table cleared) r (Request c) ms rings first h.answers;
    not_ahead = EachRing-take (NotAhead begun) r (Request c) ms rings first h.not_ahead;
    pin_rows = h.pin_rows;
  }

  pub rounded_fetch : Rounded round mirror pins begun cleared rings bs → Rounded round mirror pins begun cleared (with_ring r ms rings) bs
  rounded_fetch h = record {
    clears_are = let t = sum-take clears r (Request c) ms rings first in omega (arith, t, h.clears_are);
    acks_are = h.acks_are;
    clear_of = EachRing-take (ClearIsOf round) r (Request c) ms rings first h.clear_of;
    fetched = h.fetched;
    outside = EachRing-take (IsOutside round begun) r (Request c) ms rings first h.outside;
    mirror_outside = h.mirror_outside;
    pins_outside = h.pins_outside;
  }

-- ---- the messages of each place
take-numbered : (P Q : ℕ → List Msg → Type 0) (m : Msg) (k r : ℕ) (ms : List Msg) (rs : List (List Msg)) → ring r rs ≡ m ∷ ms
    → ((j : ℕ) (ns : List Msg) → j ≢ k + r → P j ns → Q j ns) → (P (k + r) (m ∷ ms) → Q (k + r) ms) → EachNumbered P k rs → EachNumbered Q k (with_ring r ms rs)
take-numbered P Q m k r ms [] e f g h = tt
take-numbered P Q m k zero ms (ns ∷ rs) e f g h =
    let z : k + 0 ≡ k = omega arith in
    (subst (λ (j : ℕ). Q j ms) z (g (subst (λ (j : ℕ). P j (m ∷ ms)) (sym z) (rw e at h.0))), later (suc k) rs (omega arith) h.1)
  where
    later : (j : ℕ) (ns : List (List Msg)) → k < j → EachNumbered P j ns → EachNumbered Q j ns
    later j [] u x = tt
    later j (y ∷ ns) u x = (f j y (λ e. omega (arith, u, e)) x.0, later (suc j) ns (omega (arith, u)) x.1)
take-numbered P Q m k (suc r) ms (ns ∷ rs) e f g h =
    let z : suc k + r ≡ k + suc r = omega arith in
    (f k ns (λ x. omega (arith, x)) h.0, take-numbered P Q m (suc k) r ms rs e (λ j x n y. f j x (λ w. n (w ∙ sym z)) y) (λ y. subst (λ (j : ℕ). Q j ms) (sym z) (g (subst (λ (j : ℕ). P j (m ∷ ms)) z y))) h.1)

module _ (rows : Reads (ReqState × CallRequest)) (threads : Reads Thread) (ring_of : ℕ → ℕ) (callers : Reads Caller) (next : ℕ) (bs : List Msg) (a : Answered rows callers next bs) (q : ℕ) (c : CallRequest) (number : c.q.0 ≡ q) (is : rows q ≡ Some (Posted, c)) where
  abbrev now : Reads (ReqState × CallRequest)
  now = with_at rows q (Some (Waiting, c))

  unposted : (n : ℕ) → is_posted (state_at rows n) ≡ 0 → is_posted (state_at now n) ≡ 0
  unposted n e = grind (arith, nat_tests, e)

  unposted-it : is_posted (state_at now q) ≡ 0
  unposted-it = grind (arith, nat_tests)

  part-now : (ms : List Msg) → IsPart (state_at rows) ms → IsPart (state_at now) ms
  part-now [] h = h
  part-now (Interrupt n place ∷ ms) h = (unposted n.0 h.0, h.1)
  part-now (Request z ∷ ms) h = h
  part-now (Clear z ∷ ms) h = h
  part-now (Answer v i n row ∷ ms) h = h
  part-now (Reply n code ∷ ms) h = h
  part-now (Ack ∷ ms) h = h
  part-now (Fault v i z ∷ ms) h = h

  part-behind : (L : List Msg) → AtMostInterrupt c.q.0 L → IsPart (state_at now) L
  part-behind [] h = tt
  part-behind (Interrupt n place ∷ []) h = (subst (λ (j : ℕ). is_posted (state_at now j) ≡ 0) (sym (h ∙ number)) unposted-it, tt)
  part-behind (Interrupt n place ∷ z ∷ ms) h = absurd h
  part-behind (Request z ∷ ms) h = absurd h
  part-behind (Clear z ∷ ms) h = absurd h
  part-behind (Answer v i n row ∷ ms) h = absurd h
  part-behind (Reply n code ∷ ms) h = absurd h
  part-behind (Ack ∷ ms) h = absurd h
  part-behind (Fault v i z ∷ ms) h = absurd h

  part-taken : (k : ℕ) (ms : List Msg) → IsPart (state_at rows) (of_place threads k (Request c ∷ ms)) → IsPart (state_at now) (of_place threads k ms)
  part-taken k ms h = go (place_in k (threads c.tid.0)) h
    where
      go : (b : Bool) → IsPart (state_at rows) (if b then Request c ∷ of_place threads k ms else of_place threads k ms) → IsPart (state_at now) (of_place threads k ms)
      go true h = part-behind (of_place threads k ms) h
      go false h = part-now (of_place threads k ms) h

  own-now : (r : ℕ) (m : Msg) → InOwnRing ring_of rows r m → InOwnRing ring_of now r m
  own-now r (Interrupt n place) h = λ u. go (n.0 == q) refl u
    where
      go : (b : Bool) → (n.0 == q) ≡ b → is_live (state_in (if b then Some (Waiting, c) else rows n.0)) ≡ true → ring_of (tid_in (if b then Some (Waiting, c) else rows n.0)) ≡ r
      go true e u = let f : n.0 ≡ q = grind (arith, nat_tests, e) in rw (f, is) at h refl
      go false e u = h u
  own-now r (Request z) h = h
  own-now r (Clear z) h = tt
  own-now r (Answer v i n row) h = tt
  own-now r (Reply n code) h = tt
  own-now r Ack h = tt
  own-now r (Fault v i z) h = tt

  abbrev IsPartsOf : ℕ → List Msg → Type 0
  IsPartsOf r ms = (k : ℕ) → IsPart (state_at rows) (of_place threads k (Request c ∷ ms))

  placed-now : (r : ℕ) (ms : List Msg) → Placed rows threads ring_of r ms → Placed now threads ring_of r ms
  placed-now r ms h = record { parts = λ k. part-now (of_place threads k ms) (h.parts k); own = Each-map (InOwnRing ring_of rows r) (InOwnRing ring_of now r) ms (own-now r) h.own }

  placed-taken : (r : ℕ) (ms : List Msg) → Placed rows threads ring_of r (Request c ∷ ms) → Placed now threads ring_of r ms
  placed-taken r ms h = record { parts = λ k. part-taken k ms (h.parts k); own = Each-map (InOwnRing ring_of rows r) (InOwnRing ring_of now r) ms (own-now r) h.own.1 }

  -- the caller of q is the thread that the call names
  caller-is : (u : ℕ) (d : Caller) → callers u ≡ Some d → d.request ≡ q → c.tid.0 ≡ u
  caller-is u d e f =
      let k = a.calls u d e in
      let live : is_live (state_at rows d.request) ≡ true = rw (f, is) refl in
      let z = k.named live in
      sym (ap (λ (j : ℕ). tid_in (rows j)) f ∙ ap tid_in is) ∙ z

  still-unposted : (n : ℕ) → (n == q) ≡ false → is_posted (state_at now n) ≡ 0 → is_posted (state_at rows n) ≡ 0
  still-unposted n e f = rw e at f

  -- another ring than that of the Request
  only-other : (r : ℕ) (own : ring_of c.tid.0 ≡ r) (j : ℕ) (ms : List Msg) → j ≢ r → OnlyOwn rows threads ring_of callers j ms → OnlyOwn now threads ring_of callers j ms
  only-other r own j ms n h u z d e f i s = go (d.request == q) refl
    where
      go : (b : Bool) → (d.request == q) ≡ b → AtMostInterrupt d.request (of_place threads z.place ms)
      go true k = absurd (let t = caller-is u d f (grind (arith, nat_tests, k)) in n (sym i ∙ ap ring_of (sym t) ∙ own))
      go false k = h u z d e f i (still-unposted d.request k s)

  only-taken : (r : ℕ) (ms : List Msg) → IsPartsOf r ms → OnlyOwn rows threads ring_of callers r (Request c ∷ ms) → OnlyOwn now threads ring_of callers r ms
  only-taken r ms parts h u z d e f i s = go (d.request == q) refl
    where
      mine : (b : Bool) → IsPart (state_at rows) (if b then Request c ∷ of_place threads z.place ms else of_place threads z.place ms) → b ≡ true → AtMostInterrupt c.q.0 (of_place threads z.place ms)
      mine true k y = k
      mine false k y = absurd (grind (arith, y))

      theirs : (b : Bool) → AtMostInterrupt d.request (if b then Request c ∷ of_place threads z.place ms else of_place threads z.place ms) → AtMostInterrupt d.request (of_place threads z.place ms)
      theirs true k = absurd k
      theirs false k = k

      go : (b : Bool) → (d.request == q) ≡ b → AtMostInterrupt d.request (of_place threads z.place ms)
      go true k =
          let g : d.request ≡ q = grind (arith, nat_tests, k) in
          let t = caller-is u d f g in
          let pl : place_in z.place (threads c.tid.0) ≡ true = ap (λ (v : ℕ). place_in z.place (threads v)) t ∙ ap (place_in z.place) e ∙ (let w : (z.place == z.place) ≡ true = grind (arith, nat_tests) in w) in
          subst (λ (j : ℕ). AtMostInterrupt j (of_place threads z.place ms)) (number ∙ sym g) (mine (place_in z.place (threads c.tid.0)) (parts z.place) pl)
      go false k = theirs (place_in z.place (threads c.tid.0)) (h u z d e f i (still-unposted d.request k s))

  both-of : (k : ℕ) (rs : List (List Msg)) → EachNumbered (Placed rows threads ring_of) k rs → EachNumbered (OnlyOwn rows threads ring_of callers) k rs → EachNumbered (λ j ms. Placed rows threads ring_of j ms × OnlyOwn rows threads ring_of callers j ms) k rs
  both-of k [] h o = tt
  both-of k (ms ∷ rs) h o = ((h.0, o.0), both-of (suc k) rs h.1 o.1)

  -- the first message of a ring stands in its own ring
  own-first : (k r : ℕ) (ms : List Msg) (rs : List (List Msg)) → ring r rs ≡ Request c ∷ ms → EachNumbered (Placed rows threads ring_of) k rs → ring_of c.tid.0 ≡ k + r
  own-first k r ms [] e h = absurd (grind (arith, e))
  own-first k zero ms (ns ∷ rs) e h = let o = rw e at h.0.own in let z : k ≡ k + 0 = omega arith in o.0 ∙ z
  own-first k (suc r) ms (ns ∷ rs) e h = let z : suc k + r ≡ k + suc r = omega arith in own-first (suc k) r ms rs e h.1 ∙ z

  pub Messages-fetch : (r : ℕ) (ms : List Msg) (rings : List (List Msg)) → ring r rings ≡ Request c ∷ ms → Messages rows threads ring_of callers rings → Messages now threads ring_of callers (with_ring r ms rings)
  Messages-fetch r ms rings first h =
      let own = own-first 0 r ms rings first h.placed in
      record {
        placed = take-numbered (Placed rows threads ring_of) (Placed now threads ring_of) (Request c) 0 r ms rings first (λ j ns n y. placed-now j ns y) (λ y. placed-taken (0 + r) ms y) h.placed;
        only = take-numbered (λ j ns. Placed rows threads ring_of j ns × OnlyOwn rows threads ring_of callers j ns) (OnlyOwn now threads ring_of callers) (Request c) 0 r ms rings first
            (λ j ns n y. only-other (0 + r) own j ns n y.1) (λ y. only-taken (0 + r) ms y.0.parts y.1) (both-of 0 rings h.placed h.only);
      }

module _ (p : ℕ) (side : Side) (node : Node) (worker_count : ℕ) (ring_of : ℕ → ℕ) (h : OfProcess p side node worker_count ring_of) (r : ℕ) (c : CallRequest) (ms : List Msg) (first : ring r side.to_linux ≡ Request c ∷ ms) where
  abbrev q : ℕ
  q = c.q.0

  is : at side.book.rows q ≡ Some (Posted, c)
  is = first-of (RequestIs (at side.book.rows)) r (Request c) ms side.to_linux first h.asked

  pub keeps_fetch_request : OfProcess p (record side { linux = (fetch_request c side.linux side.book side.round).linux; book = (fetch_request c side.linux side.book side.round).book; round = (fetch_request c side.linux side.book side.round).round; to_linux = with_ring r ms side.to_linux }) node worker_count ring_of
  unfolding fetch_request
  keeps_fetch_request =
      let b = reads-stated Waiting q side.book.rows c Posted is in
      let d = reads-put side.linux.services q (new_service c) in
      record {
        covered = covered_fetch side.round (at side.linux.mirror) (at side.lwk.table) (at side.linux.pins) side.lwk.begun side.linux.cleared side.to_linux side.to_lwk r c ms first h.covered;
        rounded = rounded_fetch side.round (at side.linux.mirror) (at side.lwk.table) (at side.linux.pins) side.lwk.begun side.linux.cleared side.to_linux side.to_lwk r c ms first h.rounded;
        owned = h.owned;
        served = rw (b, d) (served_fetch worker_count (at side.linux.workers) (at side.book.rows) (at side.linux.services) (at side.linux.pins) side.book.waiting (at side.lwk.noted) side.to_linux side.to_lwk h.served r q c ms first refl is (new_service c));
        answered = rw b (Answered-state (at side.book.rows) q Posted Waiting c is refl refl (at side.lwk.callers) side.book.next side.to_lwk h.answered);
        calls = h.calls;
        asked = rw b (asked_fetch worker_count (at side.linux.workers) (at side.book.rows) (at side.linux.services) (at side.linux.pins) side.book.waiting (at side.lwk.noted) side.to_linux side.to_lwk h.served r q c ms first refl is (new_service c) h.asked);
        interrupts = rw b (interrupts-state (at side.book.rows) (with_at (at side.book.rows) q (Some (Waiting, c))) (at node.threads) side.book.next (λ y u. sym (live-state (at side.book.rows) q Posted Waiting c is refl refl y) ∙ u) (λ y u. tid-state (at side.book.rows) q Posted Waiting c is refl refl y) (with_ring r ms side.to_linux) (EachRing-take (InterruptIs side.book.next (at side.book.rows) (at node.threads)) r (Request c) ms side.to_linux first h.interrupts));
        directions = directions-take r (Request c) ms side.to_linux side.to_lwk first h.directions;
        messages = rw b (Messages-fetch (at side.book.rows) (at node.threads) ring_of (at side.lwk.callers) side.book.next side.to_lwk h.answered q c refl is r ms side.to_linux first h.messages);
        marked = rw d (marks (Marked-take (at side.linux.services) (at side.lwk.callers) r (Request c) ms side.to_linux first h.marked));
      }
    where
      marks : Marked (at side.linux.services) (at side.lwk.callers) (with_ring r ms side.to_linux) → Marked (with_at (at side.linux.services) q (Some (new_service c))) (at side.lwk.callers) (with_ring r ms side.to_linux)
      marks m = record { fetched = λ t x e u. go t x e (x.request == q) refl u; posted = m.posted }
        where
          go : (t : ℕ) (x : Caller) → at side.lwk.callers t ≡ Some x → (b : Bool) → (x.request == q) ≡ b → (unwrap_or (if b then Some (new_service c) else at side.linux.services x.request) no_service).interrupted ≡ true → x.marked ≡ true
          go t x e true k u = absurd (grind (arith, u))
          go t x e false k u = m.fetched t x e u
