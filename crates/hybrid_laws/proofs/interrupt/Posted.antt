-- The Interrupt of a call that is not marked, posted to its thread's ring, keeps what is said of the messages of each place.
use Rattle.hybrid_laws.proofs.maps.Reading.{Each-both, Each-map, Each-push, Each-where}
use Rattle.hybrid_laws.proofs.rings.Placing.{EachNumbered-map}
use Rattle.hybrid_laws.proofs.trap.Posted.{Each-place, post-numbered}
use Rattle.hybrid_model.specs.Coherence.{Answered, AtMostInterrupt, CallsAgree, InOwnRing, IsPart, Messages, OnlyOwn, Placed, RequestIs, asks, calls_it, interrupts_of, is_live, is_of_place, is_posted, of_place, place_in, posted, state_at, tid_in}
use Rattle.hybrid_model.specs.Rings.{post}
use Rattle.hybrid_model.specs.Sides.{Caller}
use Rattle.hybrid_model.specs.Tallies.{Each, EachNumbered, EachRing, Reads, if_same, sum_rings, tally, with_at}
use Rattle.ikc_ring.specs.declared.CallRequest.{CallRequest}
use Rattle.ikc_ring.specs.declared.Msg.TheVariants.{Ack, Answer, Clear, Fault, Interrupt, Reply, Request}
use Rattle.ikc_ring.specs.declared.Msg.{Msg}
use Rattle.kernel_model.specs.Nodes.{Thread}
use Rattle.mck_word.specs.declared.Req.{Req}
use Rattle.request_book.specs.declared.ReqState.{ReqState}
use Rattle.std.proofs.Common.{ap, arith, refl, subst, sym, ◌∙◌}
use Rattle.std.proofs.lemmas.Bool.Decides.{nat_tests}
use Rattle.std.specs.Prelude.{Bool, List, None, Option, Some, [], false, if◌then◌else◌, length, suc, true, ℕ, ◌++◌, ◌+◌, ◌<◌, ◌==◌, ◌∷◌, ◌≡◌, ◌≢◌}

-- the Requests among these are of q, and the Interrupts are not
abbrev pub OnlyAsks : ℕ → Msg → Type 0
OnlyAsks q (Request c) = c.q.0 ≡ q
OnlyAsks q (Interrupt n place) = if_same n.0 q ≡ 0
OnlyAsks q _ = Unit {0}

-- behind the messages of the place, the Interrupt of q stands as it may
push-interrupt : (state : ℕ → ReqState) (n : Req) (place : ℕ) (L : List Msg) → IsPart state L → Each (OnlyAsks n.0) L → (is_posted (state n.0) ≡ 0 → AtMostInterrupt n.0 L) → tally (asks n.0) L ≡ is_posted (state n.0) → IsPart state (L ++ Interrupt n place ∷ [])
push-interrupt state n place [] h o f e = (sym e, tt)
push-interrupt state n place (Interrupt x y ∷ []) h o f e = absurd (let z = f (sym e) in let d = o.0 in grind (arith, nat_tests, z, d))
push-interrupt state n place (Interrupt x y ∷ Request c ∷ []) h o f e = (h.0, sym o.1.0)
push-interrupt state n place (Interrupt x y ∷ Request c ∷ Interrupt z w ∷ []) h o f e = absurd (let a = h.1 in let b = o.1.0 in let d = o.1.1.0 in grind (arith, nat_tests, a, b, d))
push-interrupt state n place (Interrupt x y ∷ Request c ∷ Interrupt z w ∷ m ∷ ms) h o f e = absurd h.1
push-interrupt state n place (Interrupt x y ∷ Request c ∷ Request z ∷ ms) h o f e = absurd h.1
push-interrupt state n place (Interrupt x y ∷ Request c ∷ Clear z ∷ ms) h o f e = absurd h.1
push-interrupt state n place (Interrupt x y ∷ Request c ∷ Answer v i z row ∷ ms) h o f e = absurd h.1
push-interrupt state n place (Interrupt x y ∷ Request c ∷ Reply z w ∷ ms) h o f e = absurd h.1
push-interrupt state n place (Interrupt x y ∷ Request c ∷ Ack ∷ ms) h o f e = absurd h.1
push-interrupt state n place (Interrupt x y ∷ Request c ∷ Fault v i a ∷ ms) h o f e = absurd h.1
push-interrupt state n place (Interrupt x y ∷ Interrupt z w ∷ ms) h o f e = absurd h.1
push-interrupt state n place (Interrupt x y ∷ Clear z ∷ ms) h o f e = absurd h.1
push-interrupt state n place (Interrupt x y ∷ Answer v i z row ∷ ms) h o f e = absurd h.1
push-interrupt state n place (Interrupt x y ∷ Reply z w ∷ ms) h o f e = absurd h.1
push-interrupt state n place (Interrupt x y ∷ Ack ∷ ms) h o f e = absurd h.1
push-interrupt state n place (Interrupt x y ∷ Fault v i a ∷ ms) h o f e = absurd h.1
push-interrupt state n place (Request c ∷ []) h o f e = sym o.0
push-interrupt state n place (Request c ∷ Interrupt z w ∷ []) h o f e = absurd (let b = o.0 in let d = o.1.0 in grind (arith, nat_tests, h, b, d))
push-interrupt state n place (Request c ∷ Interrupt z w ∷ m ∷ ms) h o f e = absurd h
push-interrupt state n place (Request c ∷ Request z ∷ ms) h o f e = absurd h
push-interrupt state n place (Request c ∷ Clear z ∷ ms) h o f e = absurd h
push-interrupt state n place (Request c ∷ Answer v i z row ∷ ms) h o f e = absurd h
push-interrupt state n place (Request c ∷ Reply z w ∷ ms) h o f e = absurd h
push-interrupt state n place (Request c ∷ Ack ∷ ms) h o f e = absurd h
push-interrupt state n place (Request c ∷ Fault v i a ∷ ms) h o f e = absurd h
push-interrupt state n place (Clear z ∷ ms) h o f e = absurd h
push-interrupt state n place (Answer v i z row ∷ ms) h o f e = absurd h
push-interrupt state n place (Reply z w ∷ ms) h o f e = absurd h
push-interrupt state n place (Ack ∷ ms) h o f e = absurd h
push-interrupt state n place (Fault v i a ∷ ms) h o f e = absurd h

-- where at most the Interrupt of q may stand and none does, nothing stands
none-stands : (q : ℕ) (L : List Msg) → AtMostInterrupt q L → Each (OnlyAsks q) L → L ≡ []
none-stands q [] h o = refl
none-stands q (Interrupt x y ∷ []) h o = absurd (let d = o.0 in grind (arith, nat_tests, h, d))
none-stands q (Interrupt x y ∷ m ∷ ms) h o = absurd h
none-stands q (Request c ∷ ms) h o = absurd h
none-stands q (Clear z ∷ ms) h o = absurd h
none-stands q (Answer v i z row ∷ ms) h o = absurd h
none-stands q (Reply z w ∷ ms) h o = absurd h
none-stands q (Ack ∷ ms) h o = absurd h
none-stands q (Fault v i a ∷ ms) h o = absurd h

-- a sum over the rings, each ring's part known but one
module _ (f : Msg → ℕ) (P : ℕ → List Msg → Type 0) (own : ℕ) (elsewhere : (r : ℕ) (ms : List Msg) → r ≢ own → P r ms → tally f ms ≡ 0) where
  sum-above : (k : ℕ) (rs : List (List Msg)) → own < k → EachNumbered P k rs → sum_rings f rs ≡ 0
  sum-above k [] l h = refl
  sum-above k (ms ∷ rs) l h = let a = elsewhere k ms (λ e. omega (arith, l, e)) h.0 in let b = sum-above (suc k) rs (omega (arith, l)) h.1 in omega (arith, a, b)

  pub sum-own : (k : ℕ) (rs : List (List Msg)) → EachNumbered P k rs → EachNumbered (λ r ms. r ≡ own → tally f ms ≡ sum_rings f rs) k rs
  sum-own k [] h = tt
  sum-own k (ms ∷ rs) h = go (k == own) refl (sum-own (suc k) rs h.1)
    where
      later : (j : ℕ) (ns : List (List Msg)) (n m : ℕ) → n ≡ m → EachNumbered (λ r xs. r ≡ own → tally f xs ≡ n) j ns → EachNumbered (λ r xs. r ≡ own → tally f xs ≡ m) j ns
      later j ns n m e z = subst (λ (v : ℕ). EachNumbered (λ r xs. r ≡ own → tally f xs ≡ v) j ns) e z

      above : (j : ℕ) (ns : List (List Msg)) (n : ℕ) → own < j → EachNumbered (λ r xs. r ≡ own → tally f xs ≡ n) j ns
      above j [] n l = tt
      above j (xs ∷ ns) n l = ((λ e. absurd (omega (arith, l, e))), above (suc j) ns n (omega (arith, l)))

      go : (b : Bool) → (k == own) ≡ b → EachNumbered (λ r xs. r ≡ own → tally f xs ≡ sum_rings f rs) (suc k) rs → EachNumbered (λ r xs. r ≡ own → tally f xs ≡ tally f ms + sum_rings f rs) k (ms ∷ rs)
      go true e i =
          let g : k ≡ own = grind (arith, nat_tests, e) in
          let z = sum-above (suc k) rs (omega (arith, g)) h.1 in
          ((λ _. omega (arith, z)), above (suc k) rs (tally f ms + sum_rings f rs) (omega (arith, g)))
      go false e i =
          let n : k ≢ own = (λ g. grind (arith, nat_tests, e, g)) in
          let z = elsewhere k ms n h.0 in
          ((λ g. absurd (n g)), later (suc k) rs (sum_rings f rs) (tally f ms + sum_rings f rs) (omega (arith, z)) i)

pub numbered-zero : (f : Msg → ℕ) (k : ℕ) (rs : List (List Msg)) → sum_rings f rs ≡ 0 → EachNumbered (λ r ms. tally f ms ≡ 0) k rs
numbered-zero f k [] e = tt
numbered-zero f k (ms ∷ rs) e = (omega (arith, e), numbered-zero f (suc k) rs (omega (arith, e)))

pub numbered-each : (P : Msg → Type 0) (k : ℕ) (rs : List (List Msg)) → EachRing P rs → EachNumbered (λ r ms. Each P ms) k rs
numbered-each P k [] h = tt
numbered-each P k (ms ∷ rs) h = (h.0, numbered-each P (suc k) rs h.1)

pub numbered-both : (P Q : ℕ → List Msg → Type 0) (k : ℕ) (rs : List (List Msg)) → EachNumbered P k rs → EachNumbered Q k rs → EachNumbered (λ r ms. P r ms × Q r ms) k rs
numbered-both P Q k [] a b = tt
numbered-both P Q k (ms ∷ rs) a b = ((a.0, b.0), numbered-both P Q (suc k) rs a.1 b.1)

module _ (p : ℕ) (rows : Reads (ReqState × CallRequest)) (threads : Reads Thread) (ring_of : ℕ → ℕ) (callers : Reads Caller) (next : ℕ) (bs : List Msg) (a : Answered rows callers next bs) (g : CallsAgree p threads callers)
    (t : ℕ) (x : Thread) (there : threads t ≡ Some x) (mine : x.process ≡ p) (apart : (u v : ℕ) (d e : Thread) → threads u ≡ Some d → threads v ≡ Some e → d.process ≡ e.process → d.place ≡ e.place → u ≡ v)
    (c : Caller) (calls : callers t ≡ Some c) (n : Req) (number : n.0 ≡ c.request) where
  abbrev callers' : Reads Caller
  callers' = with_at callers t (Some (record c { marked = true }))

  abbrev message : Msg
  message = Interrupt n x.place

  calls-n : calls_it n.0 (callers t) ≡ true
  calls-n = ap (calls_it n.0) calls ∙ (let e : (c.request == n.0) ≡ true = grind (arith, nat_tests, number) in e)

  -- a Request of q is of thread t
  tid-of : (z : CallRequest) → RequestIs rows (Request z) → z.q.0 ≡ n.0 → z.tid.0 ≡ t
  tid-of z h e =
      let k = a.calls t c calls in
      let live : is_live (state_at rows c.request) ≡ true = (let f = e ∙ number in ap (λ (v : ℕ). is_live (state_at rows v)) (sym f) ∙ rw h refl) in
      let f = e ∙ number in
      sym (ap tid_in h) ∙ ap (λ (v : ℕ). tid_in (rows v)) f ∙ k.named live

  -- a Request of t's place is of q
  request-of : (z : CallRequest) → RequestIs rows (Request z) → place_in x.place (threads z.tid.0) ≡ true → z.q.0 ≡ n.0
  request-of z h e = go (callers z.tid.0) refl (rw h at (a.live z.q.0 (rw h refl)))
    where
      go : (o : Option Caller) → callers z.tid.0 ≡ o → calls_it z.q.0 o ≡ true → z.q.0 ≡ n.0
      go None f k = absurd (grind (arith, k))
      go (Some d) f k =
          let w = g.there z.tid.0 d f in
          let pl : place_in x.place (Some w.0) ≡ true = ap (place_in x.place) (sym w.1) ∙ e in
          let same : z.tid.0 ≡ t = apart z.tid.0 t w.0 x w.1 there (w.2 ∙ sym mine) (grind (arith, nat_tests, pl)) in
          let o = sym f ∙ ap callers same ∙ calls in
          let s : d ≡ c = cc in
          let r = ap (λ (v : Caller). v.request) s in
          grind (arith, nat_tests, k, r, number)

  asks-only : (m : Msg) → (RequestIs rows m × (interrupts_of n.0 m ≡ 0)) × (is_of_place threads x.place m ≡ true) → OnlyAsks n.0 m
  asks-only (Request z) h = request-of z h.0.0 h.1
  asks-only (Interrupt k place) h = h.0.1
  asks-only (Clear r) h = tt
  asks-only (Answer w i k row) h = tt
  asks-only (Reply k code) h = tt
  asks-only Ack h = tt
  asks-only (Fault w i z) h = tt

  -- the Requests of q are those of the place
  asks-place : (ms : List Msg) → Each (RequestIs rows) ms → tally (asks n.0) (of_place threads x.place ms) ≡ tally (asks n.0) ms
  asks-place [] h = refl
  asks-place (m ∷ ms) h = go (is_of_place threads x.place m) refl (asks-place ms h.1)
    where
      none : (m : Msg) → RequestIs rows m → is_of_place threads x.place m ≡ false → asks n.0 m ≡ 0
      none (Request z) h e = no (z.q.0 == n.0) refl
        where
          no : (b : Bool) → (z.q.0 == n.0) ≡ b → ◌≡◌ {A = ℕ} (if b then 1 else 0) 0
          no false f = refl
          no true f =
              let s : z.q.0 ≡ n.0 = grind (arith, nat_tests, f) in
              let u = tid-of z h s in
              let same : (x.place == x.place) ≡ true = grind (arith, nat_tests) in
              absurd (let k = sym e ∙ ap (λ (v : ℕ). place_in x.place (threads v)) u ∙ ap (place_in x.place) there ∙ same in grind (arith, k))
      none (Interrupt k place) h e = refl
      none (Clear r) h e = refl
      none (Answer w i k row) h e = refl
      none (Reply k code) h e = refl
      none Ack h e = refl
      none (Fault w i z) h e = refl

      go : (b : Bool) → is_of_place threads x.place m ≡ b → tally (asks n.0) (of_place threads x.place ms) ≡ tally (asks n.0) ms → tally (asks n.0) (if b then m ∷ of_place threads x.place ms else of_place threads x.place ms) ≡ asks n.0 m + tally (asks n.0) ms
      go true e i = omega (arith, i)
      go false e i = omega (arith, i, none m h.0 e)

  asks-elsewhere : (r : ℕ) (ms : List Msg) → r ≢ ring_of t → Each (λ m. InOwnRing ring_of rows r m × RequestIs rows m) ms → tally (asks n.0) ms ≡ 0
  asks-elsewhere r [] d h = refl
  asks-elsewhere r (m ∷ ms) d h = omega (arith, one m h.0, asks-elsewhere r ms d h.1)
    where
      one : (m : Msg) → InOwnRing ring_of rows r m × RequestIs rows m → asks n.0 m ≡ 0
      one (Request z) h = no (z.q.0 == n.0) refl
        where
          no : (b : Bool) → (z.q.0 == n.0) ≡ b → ◌≡◌ {A = ℕ} (if b then 1 else 0) 0
          no false f = refl
          no true f = let s : z.q.0 ≡ n.0 = grind (arith, nat_tests, f) in absurd (d (sym h.0 ∙ ap ring_of (tid-of z h.1 s)))
      one (Interrupt k place) h = refl
      one (Clear y) h = refl
      one (Answer w i k row) h = refl
      one (Reply k code) h = refl
      one Ack h = refl
      one (Fault w i z) h = refl

  of-push : (k : ℕ) (ms : List Msg) → of_place threads k (ms ++ message ∷ []) ≡ of_place threads k ms ++ (if x.place == k then message ∷ [] else [])
  of-push k [] = refl
  of-push k (z ∷ ms) = go (is_of_place threads k z) (of-push k ms)
    where
      go : (b : Bool) → of_place threads k (ms ++ message ∷ []) ≡ of_place threads k ms ++ (if x.place == k then message ∷ [] else [])
          → (if b then z ∷ of_place threads k (ms ++ message ∷ []) else of_place threads k (ms ++ message ∷ [])) ≡ (if b then z ∷ of_place threads k ms else of_place threads k ms) ++ (if x.place == k then message ∷ [] else [])
      go true e = ap (λ ys. z ∷ ys) e
      go false e = e

  end : (L : List Msg) → L ++ [] ≡ L
  end [] = refl
  end (m ∷ L) = ap (λ ys. m ∷ ys) (end L)

  -- what is known of a ring before
  abbrev Ring : ℕ → List Msg → Type 0
  Ring r ms = (Placed rows threads ring_of r ms × OnlyOwn rows threads ring_of callers r ms) × (Each (RequestIs rows) ms × (tally (interrupts_of n.0) ms ≡ 0)) × (r ≡ ring_of t → tally (asks n.0) ms ≡ is_posted (state_at rows n.0))

  in-place : (r : ℕ) (ms : List Msg) → Ring r ms → Each (OnlyAsks n.0) (of_place threads x.place ms)
  in-place r ms h = Each-map (λ m. (RequestIs rows m × (interrupts_of n.0 m ≡ 0)) × (is_of_place threads x.place m ≡ true)) (OnlyAsks n.0) (of_place threads x.place ms) asks-only
      (Each-place (λ m. RequestIs rows m × (interrupts_of n.0 m ≡ 0)) threads x.place ms (Each-where (interrupts_of n.0) (RequestIs rows) (λ m. RequestIs rows m × (interrupts_of n.0 m ≡ 0)) ms h.1.1 (λ m e k. (k, e)) h.1.0))

  only-here : (r : ℕ) (ms : List Msg) → r ≡ ring_of t → Ring r ms → is_posted (state_at rows n.0) ≡ 0 → AtMostInterrupt n.0 (of_place threads x.place ms)
  only-here r ms e h f = subst (λ (v : ℕ). AtMostInterrupt v (of_place threads x.place ms)) (sym number) (h.0.1 t x c there calls (sym e) (ap (λ (v : ℕ). is_posted (state_at rows v)) (sym number) ∙ f))

  placed-own : (r : ℕ) (ms : List Msg) → r ≡ ring_of t → Ring r ms → Placed rows threads ring_of r (ms ++ message ∷ [])
  placed-own r ms e h = record {
    parts = λ k. subst (IsPart (state_at rows)) (sym (of-push k ms)) (go k (x.place == k) refl);
    own = Each-push (InOwnRing ring_of rows r) ms message h.0.0.own (λ l. ap ring_of (ap (λ (v : ℕ). tid_in (rows v)) number ∙ (a.calls t c calls).named (ap (λ (v : ℕ). is_live (state_at rows v)) (sym number) ∙ l)) ∙ sym e);
  }
    where
      go : (k : ℕ) (b : Bool) → (x.place == k) ≡ b → IsPart (state_at rows) (of_place threads k ms ++ (if b then message ∷ [] else []))
      go k true f =
          let z : x.place ≡ k = grind (arith, nat_tests, f) in
          subst (λ (j : ℕ). IsPart (state_at rows) (of_place threads j ms ++ message ∷ [])) z
          (push-interrupt (state_at rows) n x.place (of_place threads x.place ms) (h.0.0.parts x.place) (in-place r ms h) (only-here r ms e h) (asks-place ms h.1.0 ∙ h.2 e))
      go k false f = subst (IsPart (state_at rows)) (sym (end (of_place threads k ms))) (h.0.0.parts k)

  -- a caller after is one before, with the same number
  caller-was : (u : ℕ) (d : Caller) → callers' u ≡ Some d → (e : Caller) × (callers u ≡ Some e) × (e.request ≡ d.request)
  caller-was u d f = go (u == t) refl f
    where
      go : (b : Bool) → (u == t) ≡ b → (if b then Some (record c { marked = true }) else callers u) ≡ Some d → (e : Caller) × (callers u ≡ Some e) × (e.request ≡ d.request)
      go true e k = let z : u ≡ t = grind (arith, nat_tests, e) in let s : record c { marked = true } ≡ d = cc in (c, ap callers z ∙ calls, ap (λ (v : Caller). v.request) s)
      go false e k = (d, k, refl)

  only-other : (r : ℕ) (ms : List Msg) → OnlyOwn rows threads ring_of callers r ms → OnlyOwn rows threads ring_of callers' r ms
  only-other r ms h u y d f i e s =
      let w = caller-was u d i in
      subst (λ (v : ℕ). AtMostInterrupt v (of_place threads y.place ms)) w.2 (h u y w.0 f w.1 e (ap (λ (v : ℕ). is_posted (state_at rows v)) w.2 ∙ s))

  only-own : (r : ℕ) (ms : List Msg) → r ≡ ring_of t → Ring r ms → OnlyOwn rows threads ring_of callers' r (ms ++ message ∷ [])
  only-own r ms e h u y d f i k s =
      subst (AtMostInterrupt d.request) (sym (of-push y.place ms)) (go (x.place == y.place) refl)
    where
      before : AtMostInterrupt d.request (of_place threads y.place ms)
      before = only-other r ms h.0.1 u y d f i k s

      w : (e : Caller) × (callers u ≡ Some e) × (e.request ≡ d.request)
      w = caller-was u d i

      go : (b : Bool) → (x.place == y.place) ≡ b → AtMostInterrupt d.request (of_place threads y.place ms ++ (if b then message ∷ [] else []))
      go false j = subst (AtMostInterrupt d.request) (sym (end (of_place threads y.place ms))) before
      go true j =
          let th = g.there u w.0 w.1 in
          let o = sym th.1 ∙ f in
          let v : th.0 ≡ y = cc in
          let z : x.place ≡ y.place = grind (arith, nat_tests, j) in
          let same : u ≡ t = apart u t y x f there (ap (λ (q : Thread). q.process) (sym v) ∙ th.2 ∙ sym mine) (sym z) in
          let o' = sym w.1 ∙ ap callers same ∙ calls in
          let s' : w.0 ≡ c = cc in
          let num : d.request ≡ n.0 = sym w.2 ∙ ap (λ (q : Caller). q.request) s' ∙ sym number in
          let none = none-stands n.0 (of_place threads x.place ms) (only-here r ms e h (ap (λ (q : ℕ). is_posted (state_at rows q)) (sym num) ∙ s)) (in-place r ms h) in
          subst (λ (L : List Msg). AtMostInterrupt d.request (L ++ message ∷ [])) (sym none ∙ ap (λ (q : ℕ). of_place threads q ms) z) (sym num)

  pub Messages-interrupt : (rings : List (List Msg)) → ring_of t < length rings → EachRing (RequestIs rows) rings → sum_rings (interrupts_of n.0) rings ≡ 0 → sum_rings (asks n.0) rings ≡ is_posted (state_at rows n.0)
      → Messages rows threads ring_of callers rings → Messages rows threads ring_of callers' (post (ring_of t) message rings)
  Messages-interrupt rings l asked none posted h =
      record {
        placed = post-numbered Ring (Placed rows threads ring_of) message 0 (ring_of t) rings l (λ j ms d z. z.0.0) (λ ms z. placed-own (0 + ring_of t) ms zero-plus z) all;
        only = post-numbered Ring (OnlyOwn rows threads ring_of callers') message 0 (ring_of t) rings l (λ j ms d z. only-other j ms z.0.1) (λ ms z. only-own (0 + ring_of t) ms zero-plus z) all;
      }
    where
      zero-plus : 0 + ring_of t ≡ ring_of t
      zero-plus = omega arith

      owns : EachNumbered (λ r ms. Each (λ m. InOwnRing ring_of rows r m × RequestIs rows m) ms) 0 rings
      owns = EachNumbered-map (λ r ms. Placed rows threads ring_of r ms × Each (RequestIs rows) ms) (λ r ms. Each (λ m. InOwnRing ring_of rows r m × RequestIs rows m) ms) 0 rings
          (λ r ms k. Each-both (InOwnRing ring_of rows r) (RequestIs rows) ms k.0.own k.1) (numbered-both (Placed rows threads ring_of) (λ r ms. Each (RequestIs rows) ms) 0 rings h.placed (numbered-each (RequestIs rows) 0 rings asked))

      counts : EachNumbered (λ r ms. r ≡ ring_of t → tally (asks n.0) ms ≡ is_posted (state_at rows n.0)) 0 rings
      counts = EachNumbered-map (λ r ms. r ≡ ring_of t → tally (asks n.0) ms ≡ sum_rings (asks n.0) rings) (λ r ms. r ≡ ring_of t → tally (asks n.0) ms ≡ is_posted (state_at rows n.0)) 0 rings (λ r ms k e. k e ∙ posted)
          (sum-own (asks n.0) (λ r ms. Each (λ m. InOwnRing ring_of rows r m × RequestIs rows m) ms) (ring_of t) asks-elsewhere 0 rings owns)

      all : EachNumbered Ring 0 rings
      all = EachNumbered-map
          (λ r ms. (Placed rows threads ring_of r ms × OnlyOwn rows threads ring_of callers r ms) × ((Each (RequestIs rows) ms × (tally (interrupts_of n.0) ms ≡ 0)) × (r ≡ ring_of t → tally (asks n.0) ms ≡ is_posted (state_at rows n.0)))) Ring 0 rings
          (λ r ms k. (k.0, k.1.0, k.1.1))
          (numbered-both (λ r ms. Placed rows threads ring_of r ms × OnlyOwn rows threads ring_of callers r ms) (λ r ms. (Each (RequestIs rows) ms × (tally (interrupts_of n.0) ms ≡ 0)) × (r ≡ ring_of t → tally (asks n.0) ms ≡ is_posted (state_at rows n.0))) 0 rings
          (numbered-both (Placed rows threads ring_of) (OnlyOwn rows threads ring_of callers) 0 rings h.placed h.only)
          (numbered-both (λ r ms. Each (RequestIs rows) ms × (tally (interrupts_of n.0) ms ≡ 0)) (λ r ms. r ≡ ring_of t → tally (asks n.0) ms ≡ is_posted (state_at rows n.0)) 0 rings
          (numbered-both (λ r ms. Each (RequestIs rows) ms) (λ r ms. tally (interrupts_of n.0) ms ≡ 0) 0 rings (numbered-each (RequestIs rows) 0 rings asked) (numbered-zero (interrupts_of n.0) 0 rings none)) counts))
