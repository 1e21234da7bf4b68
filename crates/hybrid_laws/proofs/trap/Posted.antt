-- A Request posted to its thread's ring keeps what is said of the messages of each place.
use Rattle.hybrid_laws.proofs.maps.Reading.{Each-both, Each-map, Each-push, EachRing-both}
use Rattle.hybrid_model.specs.Coherence.{IsPart, is_of_place, is_posted, of_place, Answered, CallsAgree, InOwnRing, Placed, RequestIs, calls_it, is_live, place_in, state_at, tid_in, AtMostInterrupt, Messages, OnlyOwn}
use Rattle.hybrid_model.specs.Rings.{post}
use Rattle.hybrid_model.specs.Sides.{Caller}
use Rattle.hybrid_model.specs.Tallies.{Reads, Each, EachNumbered, with_at, EachRing}
use Rattle.ikc_ring.specs.declared.CallRequest.{CallRequest}
use Rattle.ikc_ring.specs.declared.Msg.TheVariants.{Request, Clear, Answer, Interrupt, Reply, Ack, Fault}
use Rattle.ikc_ring.specs.declared.Msg.{Msg}
use Rattle.kernel_model.specs.Nodes.{Thread}
use Rattle.request_book.specs.declared.ReqState.TheVariants.{Posted}
use Rattle.request_book.specs.declared.ReqState.{ReqState}
use Rattle.std.proofs.Common.{arith, refl, sym, ◌∙◌, ap, subst}
use Rattle.std.proofs.lemmas.Bool.Decides.{nat_tests}
use Rattle.std.specs.Prelude.{zero, suc, Bool, List, [], false, if◌then◌else◌, length, true, ℕ, ◌++◌, ◌+◌, ◌<◌, ◌∷◌, ◌≡◌, ◌≢◌, None, Option, Some, ◌==◌}

-- an Interrupt is of a number below the next one
abbrev pub IsGiven : ℕ → Msg → Type 0
IsGiven next (Interrupt q place) = q.0 < next
IsGiven next _ = Unit {0}

-- ring r gets a message, and all others stay
pub post-numbered : (P Q : ℕ → List Msg → Type 0) (m : Msg) (k r : ℕ) (rs : List (List Msg)) → r < length rs
    → ((j : ℕ) (ms : List Msg) → j ≢ k + r → P j ms → Q j ms) → ((ms : List Msg) → P (k + r) ms → Q (k + r) (ms ++ m ∷ [])) → EachNumbered P k rs → EachNumbered Q k (post r m rs)
post-numbered P Q m k r [] l f g h = absurd (omega (arith, l))
post-numbered P Q m k zero (ms ∷ rs) l f g h =
    let e : k + 0 ≡ k = omega arith in
    (rw e at (g ms (rw e h.0)), later (suc k) rs (omega arith) h.1)
  where
    later : (j : ℕ) (ns : List (List Msg)) → k < j → EachNumbered P j ns → EachNumbered Q j ns
    later j [] u x = tt
    later j (y ∷ ns) u x = (f j y (λ e. omega (arith, u, e)) x.0, later (suc j) ns (omega (arith, u)) x.1)
post-numbered P Q m k (suc r) (ms ∷ rs) l f g h =
    let e : suc k + r ≡ k + suc r = omega arith in
    (f k ms (λ z. omega (arith, z)) h.0, post-numbered P Q m (suc k) r rs (omega (arith, l)) (λ j x n y. f j x (λ z. n (z ∙ sym e)) y) (λ x y. rw (sym e) at (g x (rw e at y))) h.1)

abbrev NoRequest : Msg → Type 0
NoRequest (Request c) = ⊥
NoRequest _ = Unit {0}

-- a Request behind the messages of its place, none of which is a Request
push-part : (state state' : ℕ → ReqState) (next : ℕ) (L : List Msg) (c : CallRequest) → Each (λ m. NoRequest m × IsGiven next m) L → ((n : ℕ) → n < next → is_posted (state n) ≡ 0 → is_posted (state' n) ≡ 0) → IsPart state L → IsPart state' (L ++ Request c ∷ [])
push-part state state' next [] c nr f h = tt
push-part state state' next (Interrupt n place ∷ []) c nr f h = (f n.0 nr.0.1 h.0, tt)
push-part state state' next (Interrupt n place ∷ Request x ∷ ms) c nr f h = absurd nr.1.0.0
push-part state state' next (Interrupt n place ∷ Interrupt x y ∷ ms) c nr f h = absurd h.1
push-part state state' next (Interrupt n place ∷ Clear x ∷ ms) c nr f h = absurd h.1
push-part state state' next (Interrupt n place ∷ Answer v i y row ∷ ms) c nr f h = absurd h.1
push-part state state' next (Interrupt n place ∷ Reply x y ∷ ms) c nr f h = absurd h.1
push-part state state' next (Interrupt n place ∷ Ack ∷ ms) c nr f h = absurd h.1
push-part state state' next (Interrupt n place ∷ Fault v i a ∷ ms) c nr f h = absurd h.1
push-part state state' next (Request x ∷ ms) c nr f h = absurd nr.0.0
push-part state state' next (Clear x ∷ ms) c nr f h = absurd h
push-part state state' next (Answer v i n row ∷ ms) c nr f h = absurd h
push-part state state' next (Reply x y ∷ ms) c nr f h = absurd h
push-part state state' next (Ack ∷ ms) c nr f h = absurd h
push-part state state' next (Fault v i a ∷ ms) c nr f h = absurd h

-- what holds of each message of a ring, and of its place, holds of those of the place
pub Each-place : (P : Msg → Type 0) (threads : Reads Thread) (k : ℕ) (ms : List Msg) → Each P ms → Each (λ m. P m × (is_of_place threads k m ≡ true)) (of_place threads k ms)
Each-place P threads k [] h = tt
Each-place P threads k (m ∷ ms) h = go (is_of_place threads k m) refl (Each-place P threads k ms h.1)
  where
    go : (b : Bool) → is_of_place threads k m ≡ b → Each (λ x. P x × (is_of_place threads k x ≡ true)) (of_place threads k ms) → Each (λ x. P x × (is_of_place threads k x ≡ true)) (if b then m ∷ of_place threads k ms else of_place threads k ms)
    go true e r = ((h.0, e), r)
    go false e r = r

module _ (p : ℕ) (rows : Reads (ReqState × CallRequest)) (threads threads' : Reads Thread) (ring_of : ℕ → ℕ) (callers : Reads Caller) (q : ℕ) (bs : List Msg) (a : Answered rows callers q bs) (g : CallsAgree p threads callers)
    (t : ℕ) (x y : Thread) (there : threads t ≡ Some x) (mine : x.process ≡ p) (now : threads' t ≡ Some y) (place : y.place ≡ x.place) (others : (u : ℕ) → u ≢ t → threads' u ≡ threads u)
    (apart : (u v : ℕ) (d e : Thread) → threads u ≡ Some d → threads v ≡ Some e → d.process ≡ e.process → d.place ≡ e.place → u ≡ v) (idle : callers t ≡ None) (c : CallRequest) (number : c.q.0 ≡ q) (tid : c.tid.0 ≡ t) where
  abbrev rows' : Reads (ReqState × CallRequest)
  rows' = with_at rows q (Some (Posted, c))

  abbrev callers' : Reads Caller
  callers' = with_at callers t (Some (record { request = q; marked = false }))

  place-stays : (k u : ℕ) → place_in k (threads' u) ≡ place_in k (threads u)
  place-stays k u = go (u == t) refl
    where
      go : (b : Bool) → (u == t) ≡ b → place_in k (threads' u) ≡ place_in k (threads u)
      go true e = let f : u ≡ t = grind (arith, nat_tests, e) in rw (f, now, there, place) refl
      go false e = ap (place_in k) (others u (λ f. grind (arith, nat_tests, e, f)))

  of-place-one : (k : ℕ) (m : Msg) → is_of_place threads' k m ≡ is_of_place threads k m
  of-place-one k (Request z) = place-stays k z.tid.0
  of-place-one k (Interrupt n w) = refl
  of-place-one k (Clear z) = refl
  of-place-one k (Answer v i n row) = refl
  of-place-one k (Reply n code) = refl
  of-place-one k Ack = refl
  of-place-one k (Fault v i z) = refl

  of-place-stays : (k : ℕ) (ms : List Msg) → of_place threads' k ms ≡ of_place threads k ms
  of-place-stays k [] = refl
  of-place-stays k (m ∷ ms) = λ i. if of-place-one k m i then m ∷ of-place-stays k ms i else of-place-stays k ms i

  of-push : (k : ℕ) (ms : List Msg) (m : Msg) → of_place threads' k (ms ++ m ∷ []) ≡ of_place threads' k ms ++ (if is_of_place threads' k m then m ∷ [] else [])
  of-push k [] m = refl
  of-push k (z ∷ ms) m = go (is_of_place threads' k z) (of-push k ms m)
    where
      go : (b : Bool) → of_place threads' k (ms ++ m ∷ []) ≡ of_place threads' k ms ++ (if is_of_place threads' k m then m ∷ [] else [])
          → (if b then z ∷ of_place threads' k (ms ++ m ∷ []) else of_place threads' k (ms ++ m ∷ [])) ≡ (if b then z ∷ of_place threads' k ms else of_place threads' k ms) ++ (if is_of_place threads' k m then m ∷ [] else [])
      go true e = ap (λ ys. z ∷ ys) e
      go false e = e

  posted-other : (n : ℕ) → n < q → is_posted (state_at rows n) ≡ 0 → is_posted (state_at rows' n) ≡ 0
  posted-other n l e = grind (arith, nat_tests, l, e)

  -- no Request of the thread's place is under way
  fine : (m : Msg) → (RequestIs rows m × IsGiven q m) × (is_of_place threads x.place m ≡ true) → NoRequest m × IsGiven q m
  fine (Request z) h = absurd (idle-not (tid_in (rows z.q.0)) refl)
    where
      live : is_live (state_at rows z.q.0) ≡ true
      live = rw h.0.0 refl

      calls : calls_it z.q.0 (callers z.tid.0) ≡ true
      calls = rw h.0.0 at (a.live z.q.0 live)

      known : (o : Option Caller) → callers z.tid.0 ≡ o → calls_it z.q.0 o ≡ true → ⊥
      known None e k = grind (arith, k)
      known (Some d) e k =
          let w = g.there z.tid.0 d e in
          let pl : place_in x.place (Some w.0) ≡ true = ap (place_in x.place) (sym w.1) ∙ h.1 in
          let same : z.tid.0 ≡ t = apart z.tid.0 t w.0 x w.1 there (w.2 ∙ sym mine) (grind (arith, nat_tests, pl)) in
          let none = ap callers same ∙ idle in
          grind (arith, none, e)

      idle-not : (u : ℕ) → tid_in (rows z.q.0) ≡ u → ⊥
      idle-not u e = known (callers z.tid.0) refl calls
  fine (Interrupt n w) h = (tt, h.0.1)
  fine (Clear z) h = (tt, tt)
  fine (Answer v i n row) h = (tt, tt)
  fine (Reply n code) h = (tt, tt)
  fine Ack h = (tt, tt)
  fine (Fault v i z) h = (tt, tt)

  part-stays : (ms : List Msg) → Each (IsGiven q) ms → IsPart (state_at rows) ms → IsPart (state_at rows') ms
  part-stays [] l h = h
  part-stays (Interrupt n w ∷ ms) l h = (posted-other n.0 l.0 h.0, h.1)
  part-stays (Request z ∷ ms) l h = h
  part-stays (Clear z ∷ ms) l h = h
  part-stays (Answer v i n row ∷ ms) l h = h
  part-stays (Reply n code ∷ ms) l h = h
  part-stays (Ack ∷ ms) l h = h
  part-stays (Fault v i z ∷ ms) l h = h

  own-stays : (r : ℕ) (m : Msg) → InOwnRing ring_of rows r m × IsGiven q m → InOwnRing ring_of rows' r m
  own-stays r (Interrupt n w) h = λ u. let e : (n.0 == q) ≡ false = (let k = h.1 in grind (arith, nat_tests, k)) in rw e (h.0 (rw e at u))
  own-stays r (Request z) h = h.0
  own-stays r (Clear z) h = tt
  own-stays r (Answer v i n row) h = tt
  own-stays r (Reply n code) h = tt
  own-stays r Ack h = tt
  own-stays r (Fault v i z) h = tt

  abbrev Ring : ℕ → List Msg → Type 0
  Ring r ms = Placed rows threads ring_of r ms × Each (λ m. RequestIs rows m × IsGiven q m) ms

  given-of : (ms : List Msg) → Each (λ m. RequestIs rows m × IsGiven q m) ms → Each (IsGiven q) ms
  given-of ms h = Each-map (λ m. RequestIs rows m × IsGiven q m) (IsGiven q) ms (λ m k. k.1) h

  given-place : (k : ℕ) (ms : List Msg) → Each (IsGiven q) ms → Each (IsGiven q) (of_place threads k ms)
  given-place k ms h = Each-map (λ m. IsGiven q m × (is_of_place threads k m ≡ true)) (IsGiven q) (of_place threads k ms) (λ m z. z.0) (Each-place (IsGiven q) threads k ms h)

  placed-stays : (r : ℕ) (ms : List Msg) → Ring r ms → Placed rows' threads' ring_of r ms
  placed-stays r ms h = record {
    parts = λ k. subst (IsPart (state_at rows')) (sym (of-place-stays k ms)) (part-stays (of_place threads k ms) (given-place k ms (given-of ms h.1)) (h.0.parts k));
    own = Each-map (λ m. InOwnRing ring_of rows r m × IsGiven q m) (InOwnRing ring_of rows' r) ms (own-stays r) (Each-both (InOwnRing ring_of rows r) (IsGiven q) ms h.0.own (given-of ms h.1));
  }

  placed-posted : (r : ℕ) → ring_of t ≡ r → (ms : List Msg) → Ring r ms → Placed rows' threads' ring_of r (ms ++ Request c ∷ [])
  placed-posted r at_r ms h = record {
    parts = λ k. subst (IsPart (state_at rows')) (sym (of-push k ms (Request c) ∙ ap (λ L. L ++ (if place_in k (threads' c.tid.0) then Request c ∷ [] else [])) (of-place-stays k ms))) (go k (x.place == k) refl);
    own = Each-push (InOwnRing ring_of rows' r) ms (Request c) (placed-stays r ms h).own (ap ring_of tid ∙ at_r);
  }
    where
      ofc : (k : ℕ) → place_in k (threads' c.tid.0) ≡ (x.place == k)
      ofc k = ap (λ u. place_in k (threads' u)) tid ∙ place-stays k t ∙ ap (place_in k) there

      go : (k : ℕ) (b : Bool) → (x.place == k) ≡ b → IsPart (state_at rows') (of_place threads k ms ++ (if place_in k (threads' c.tid.0) then Request c ∷ [] else []))
      go k true e =
          let f : x.place ≡ k = grind (arith, nat_tests, e) in
          rw (ofc k, e) (push-part (state_at rows) (state_at rows') q (of_place threads k ms) c
          (subst (λ j. Each (λ m. NoRequest m × IsGiven q m) (of_place threads j ms)) f (Each-map (λ m. (RequestIs rows m × IsGiven q m) × (is_of_place threads x.place m ≡ true)) (λ m. NoRequest m × IsGiven q m) (of_place threads x.place ms) fine (Each-place (λ m. RequestIs rows m × IsGiven q m) threads x.place ms h.1)))
          posted-other (h.0.parts k))
      go k false e = rw (ofc k, e) (subst (IsPart (state_at rows')) (nothing (of_place threads k ms)) (part-stays (of_place threads k ms) (given-place k ms (given-of ms h.1)) (h.0.parts k)))
        where
          nothing : (L : List Msg) → L ≡ L ++ []
          nothing [] = refl
          nothing (m ∷ L) = ap (λ ys. m ∷ ys) (nothing L)

  -- where the Request of a call was fetched
  request-is : (b : Bool) (u : ℕ) (d : Caller) → (if b then Some (record { request = q; marked = false }) else callers u) ≡ Some d → is_posted (state_at rows' d.request) ≡ 0 → (b ≡ false) × (callers u ≡ Some d) × (is_posted (state_at rows d.request) ≡ 0)
  request-is true u d e f =
      let k : record { request = q; marked = false } ≡ d = cc in
      let m : q ≡ d.request = ap (λ (z : Caller). z.request) k in
      absurd (let s : (d.request == q) ≡ true = grind (arith, nat_tests, m) in let z = rw s at f in grind (arith, z))
  request-is false u d e f = (refl, e, (let l = (a.calls u d e).given in grind (arith, nat_tests, l, f)))

  only-stays : (r : ℕ) (ms : List Msg) → OnlyOwn rows threads ring_of callers r ms → OnlyOwn rows' threads' ring_of callers' r ms
  only-stays r ms h u z d e f i s =
      let k = request-is (u == t) u d f s in
      let th = sym (others u (λ w. grind (arith, nat_tests, w, k.0))) ∙ e in
      subst (AtMostInterrupt d.request) (sym (of-place-stays z.place ms)) (h u z d th k.1 i k.2)

  only-posted : (r : ℕ) (ms : List Msg) → OnlyOwn rows threads ring_of callers r ms → OnlyOwn rows' threads' ring_of callers' r (ms ++ Request c ∷ [])
  only-posted r ms h u z d e f i s =
      let k = request-is (u == t) u d f s in
      let th = sym (others u (λ w. grind (arith, nat_tests, w, k.0))) ∙ e in
      let w = g.there u d k.1 in
      let zw : w.0 ≡ z = (let o = sym w.1 ∙ th in (let j : w.0 ≡ z = cc in j)) in
      let differ : place_in z.place (threads' c.tid.0) ≡ false = ap (λ v. place_in z.place (threads' v)) tid ∙ place-stays z.place t ∙ ap (place_in z.place) there ∙ no-clash z u k.0 th (ap (λ (v : Thread). v.process) (sym zw) ∙ w.2) in
      subst (AtMostInterrupt d.request) (sym (of-push z.place ms (Request c) ∙ ap (λ b. of_place threads' z.place ms ++ (if b then Request c ∷ [] else [])) differ ∙ end (of_place threads' z.place ms) ∙ of-place-stays z.place ms)) (h u z d th k.1 i k.2)
    where
      end : (L : List Msg) → L ++ [] ≡ L
      end [] = refl
      end (m ∷ L) = ap (λ ys. m ∷ ys) (end L)

      no-clash : (z : Thread) (u : ℕ) → (u == t) ≡ false → threads u ≡ Some z → z.process ≡ p → (x.place == z.place) ≡ false
      no-clash z u k th own = go (x.place == z.place) refl
        where
          go : (b : Bool) → (x.place == z.place) ≡ b → b ≡ false
          go false v = refl
          go true v = absurd (let s = apart u t z x th there (own ∙ sym mine) (grind (arith, nat_tests, v)) in grind (arith, nat_tests, s, k))

  with-messages : (k : ℕ) (rs : List (List Msg)) → EachNumbered (Placed rows threads ring_of) k rs → EachRing (λ m. RequestIs rows m × IsGiven q m) rs → EachNumbered Ring k rs
  with-messages k [] h m = tt
  with-messages k (ms ∷ rs) h m = ((h.0, m.0), with-messages (suc k) rs h.1 m.1)

  pub Messages-request : (r : ℕ) (rings : List (List Msg)) → ring_of t ≡ r → r < length rings → EachRing (RequestIs rows) rings → EachRing (IsGiven q) rings → Messages rows threads ring_of callers rings → Messages rows' threads' ring_of callers' (post r (Request c) rings)
  Messages-request r rings at_r l asked given h =
      let e : 0 + r ≡ r = omega arith in
      record {
        placed = post-numbered Ring (Placed rows' threads' ring_of) (Request c) 0 r rings l (λ j ms n z. placed-stays j ms z) (λ ms z. subst (λ (j : ℕ). Placed rows' threads' ring_of j (ms ++ Request c ∷ [])) (sym e) (placed-posted r at_r ms (subst (λ (j : ℕ). Ring j ms) e z)))
            (with-messages 0 rings h.placed (EachRing-both (RequestIs rows) (IsGiven q) rings asked given));
        only = post-numbered (OnlyOwn rows threads ring_of callers) (OnlyOwn rows' threads' ring_of callers') (Request c) 0 r rings l (λ j ms n z. only-stays j ms z) (λ ms z. subst (λ (j : ℕ). OnlyOwn rows' threads' ring_of callers' j (ms ++ Request c ∷ [])) (sym e) (only-posted r ms (subst (λ (j : ℕ). OnlyOwn rows threads ring_of callers j ms) e z))) h.only;
      }
