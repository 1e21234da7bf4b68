-- How many requests and answers a process has at once: a request for each place of a thread, and an answer for each worker.
use Rattle.std.specs.FinMap as finmap
use Rattle.std.specs.FinMap.Entries as fin
use Rattle.guest_laws.proofs.Counting.{no-more-than, same-one, sum-in, sum-ones}
use Rattle.guest_laws.specs.Counting.{sum_below}
use Rattle.hybrid_laws.proofs.maps.Reading.{Each-map}
use Rattle.hybrid_laws.proofs.maps.Tests.{both}
use Rattle.hybrid_laws.proofs.memory.Written.{below-apart, each-entry, sorted-true}
use Rattle.hybrid_model.specs.Coherence.{AnswerIsFor, OfProcess, answers_to, calls_it, faulting, is_faulted, is_live, state_at, tid_in}
use Rattle.hybrid_model.specs.Globals.{Coherent, Places, ring_number}
use Rattle.hybrid_model.specs.Pairs.{Pair, side_of}
use Rattle.hybrid_model.specs.Sides.{Caller, Side, new_side}
use Rattle.hybrid_model.specs.Tallies.{Each, EachRing, if_same, sum_rings, tally}
use Rattle.ikc_ring.specs.declared.CallRequest.{CallRequest}
use Rattle.ikc_ring.specs.declared.Msg.TheVariants.{Request, Clear, Answer, Interrupt, Reply, Ack, Fault}
use Rattle.ikc_ring.specs.declared.Msg.{Msg}
use Rattle.kernel_model.specs.Nodes.{Node, Thread, no_thread}
use Rattle.mck_word.specs.Maps.{Map, at, count, entries}
use Rattle.request_book.specs.declared.ReqState.TheVariants.{Posted, Waiting, Held, Parked, Faulted, Ended, Replied}
use Rattle.request_book.specs.declared.ReqState.{ReqState}
use Rattle.std.proofs.Common.{ap, arith, refl, sym, ◌∙◌}
use Rattle.std.proofs.lemmas.Bool.Decides.{nat_tests}
use Rattle.std.specs.Ordering.{nat_cmp}
use Rattle.std.specs.Prelude.{zero, suc, Bool, List, None, Option, Some, [], false, if◌then◌else◌, length, map, true, unwrap_or, ℕ, ◌+◌, ◌<◌, ◌==◌, ◌∷◌, ◌≡◌, ◌≤◌}
use Rattle.work_laws.proofs.fetch.Clear.{answers}
use Rattle.work_laws.proofs.sides.Wholes.{FewRequests}

-- ---- rows that differ in what f makes of them
module _ {V : Type 0} (f : ℕ × V → ℕ) (P : ℕ × V → Type 0) (same : (e d : ℕ × V) → P e → P d → f e ≡ f d → e.0 ≡ d.0) where
  none-more : (k : ℕ) (e : ℕ × V) (es : List (ℕ × V)) → k ≡ f e → P e → Each P es → Each (λ (x : ℕ × V). (x.0 == e.0) ≡ false) es → tally (if_same k) (map f es) ≡ 0
  none-more k e [] g i u h = refl
  none-more k e (x ∷ es) g i u h = go (k == f x) refl (none-more k e es g i u.1 h.1)
    where
      go : (b : Bool) → (k == f x) ≡ b → tally (if_same k) (map f es) ≡ 0 → (if b then 1 else 0) + tally (if_same k) (map f es) ≡ 0
      go true v j = absurd (let a : f x ≡ f e = grind (arith, nat_tests, v, g) in let b = same x e u.0 i a in let c = h.0 in grind (arith, nat_tests, b, c))
      go false v j = omega (arith, j)

  at-most-one : (k : ℕ) (es : List (ℕ × V)) → fin.is_sorted nat_cmp es ≡ true → Each P es → tally (if_same k) (map f es) ≤ 1
  at-most-one k [] s u = omega arith
  at-most-one k (e ∷ es) s u = go (k == f e) refl (at-most-one k es a.1 u.1)
    where
      a : (fin.below_all nat_cmp e.0 es ≡ true) × (fin.is_sorted nat_cmp es ≡ true)
      a = both (fin.below_all nat_cmp e.0 es) (fin.is_sorted nat_cmp es) s

      go : (b : Bool) → (k == f e) ≡ b → tally (if_same k) (map f es) ≤ 1 → (if b then 1 else 0) + tally (if_same k) (map f es) ≤ 1
      go true v i = let g : k ≡ f e = grind (arith, nat_tests, v) in let z = none-more k e es g u.0 u.1 (below-apart e.0 es a.0) in omega (arith, z)
      go false v i = omega (arith, i)

length-map : {A B : Type 0} (f : A → B) (xs : List A) → length (map f xs) ≡ length xs
length-map f [] = refl
length-map f (x ∷ xs) = ap (λ n. suc n) (length-map f xs)

each-map : {A : Type 0} (f : A → ℕ) (P : ℕ → Type 0) (xs : List A) → Each (λ x. P (f x)) xs → Each P (map f xs)
each-map f P [] h = tt
each-map f P (x ∷ xs) h = (h.0, each-map f P xs h.1)

-- ---- one process
module _ (p : ℕ) (side : Side) (node : Node) (worker_count : ℕ) (ring_of : ℕ → ℕ) (k : OfProcess p side node worker_count ring_of) (places : Places node) where
  abbrev rows : Map (ReqState × CallRequest)
  rows = side.book.rows

  -- the thread that calls with a request
  record CallerAt (q : ℕ) (r : ReqState × CallRequest) : Type 0 where
    caller : Caller
    calls : at side.lwk.callers r.1.tid.0 ≡ Some caller
    number : caller.request ≡ q
    thread : Thread
    there : at node.threads r.1.tid.0 ≡ Some thread
    own : thread.process ≡ p

  caller-at : (q : ℕ) (r : ReqState × CallRequest) → at rows q ≡ Some r → CallerAt q r
  caller-at q r is = go (at side.lwk.callers r.1.tid.0) refl (sym (ap (λ (o : Option (ReqState × CallRequest)). calls_it q (at side.lwk.callers (tid_in o))) is) ∙ k.answered.live q live)
    where
      live : is_live (state_at (at rows) q) ≡ true
      live = ap (λ (o : Option (ReqState × CallRequest)). is_live (elim o [ None ↦ Replied | Some s ↦ s.0 ])) is ∙ k.answered.not_replied q r is

      go : (o : Option Caller) → at side.lwk.callers r.1.tid.0 ≡ o → calls_it q o ≡ true → CallerAt q r
      go None f u = absurd (grind (arith, u))
      go (Some c) f u = let x = k.calls.there r.1.tid.0 c f in record { caller = c; calls = f; number = grind (arith, nat_tests, u); thread = x.0; there = x.1; own = x.2 }

  -- the place of that thread
  abbrev place_at : ℕ × (ReqState × CallRequest) → ℕ
  place_at e = (unwrap_or (at node.threads e.1.1.tid.0) no_thread).place

  abbrev InBook : ℕ × (ReqState × CallRequest) → Type 0
  InBook e = at rows e.0 ≡ Some e.1

  place-is : (e : ℕ × (ReqState × CallRequest)) (i : InBook e) → place_at e ≡ (caller-at e.0 e.1 i).thread.place
  place-is e i = ap (λ (o : Option Thread). (unwrap_or o no_thread).place) (caller-at e.0 e.1 i).there

  one-place : (e d : ℕ × (ReqState × CallRequest)) → InBook e → InBook d → place_at e ≡ place_at d → e.0 ≡ d.0
  one-place e d i j g =
      let x = caller-at e.0 e.1 i in
      let y = caller-at d.0 d.1 j in
      let t = places.apart e.1.1.tid.0 d.1.1.tid.0 x.thread y.thread x.there y.there (x.own ∙ sym y.own) (sym (place-is e i) ∙ g ∙ place-is d j) in
      let c : Some x.caller ≡ Some y.caller = sym x.calls ∙ ap (at side.lwk.callers) t ∙ y.calls in
      sym x.number ∙ ap (λ (o : Option Caller). (unwrap_or o x.caller).request) c ∙ y.number

  below : (e : ℕ × (ReqState × CallRequest)) → InBook e → place_at e < 16
  below e i = let x = caller-at e.0 e.1 i in let a = places.below e.1.1.tid.0 x.thread x.there in let b = place-is e i in omega (arith, a, b)

  pub few-requests : count rows ≤ 16
  few-requests =
      let a = no-more-than 16 (map place_at (entries rows)) (each-map place_at (λ n. n < 16) (entries rows) (Each-map InBook (λ e. place_at e < 16) (entries rows) below (each-entry rows)))
      (λ n. at-most-one place_at InBook one-place n (entries rows) (sorted-true rows) (each-entry rows)) in
      let b = length-map place_at (entries rows) in
      let c = finmap.len-entries rows in
      omega (arith, a, b, c)

  -- ---- answers
  faulting-most : (o : Option ℕ) → faulting (at rows) o ≤ 1
  faulting-most None = omega arith
  faulting-most (Some q) = go (state_at (at rows) q)
    where
      go : (s : ReqState) → is_faulted s ≤ 1
      go Posted = omega arith
      go Waiting = omega arith
      go Held = omega arith
      go Parked = omega arith
      go Faulted = omega arith
      go Ended = omega arith
      go Replied = omega arith

  abbrev by_worker : Msg → ℕ
  by_worker m = sum_below (λ w. answers_to w m) worker_count

  one-answer : (m : Msg) → AnswerIsFor (at side.linux.workers) (at side.linux.services) m → answers m ≤ by_worker m
  one-answer (Answer w i n row) d =
      let l = k.served.worker_below w d.next.number d.next.serves in
      let a = sum-in (λ v. answers_to v (Answer w i n row)) w worker_count l in
      let b = same-one w in
      omega (arith, a, b)
  one-answer (Request c) d = omega arith
  one-answer (Clear r) d = omega arith
  one-answer (Interrupt n place) d = omega arith
  one-answer (Reply n code) d = omega arith
  one-answer Ack d = omega arith
  one-answer (Fault w i a) d = omega arith

  ring-answers : (ms : List Msg) → Each (AnswerIsFor (at side.linux.workers) (at side.linux.services)) ms → tally answers ms ≤ tally by_worker ms
  ring-answers [] h = omega arith
  ring-answers (m ∷ ms) h = let a = one-answer m h.0 in let b = ring-answers ms h.1 in omega (arith, a, b)

  all-answers : (rs : List (List Msg)) → EachRing (AnswerIsFor (at side.linux.workers) (at side.linux.services)) rs → sum_rings answers rs ≤ sum_rings by_worker rs
  all-answers [] h = omega arith
  all-answers (ms ∷ rs) h = let a = ring-answers ms h.0 in let b = all-answers rs h.1 in omega (arith, a, b)

  pub few-answers : sum_rings answers side.to_linux ≤ worker_count
  few-answers =
      let a = all-answers side.to_linux k.served.answer_for in
      let b = rings-sum worker_count side.to_linux in
      let c = sum-ones (λ w. sum_rings (answers_to w) side.to_linux) worker_count one in
      omega (arith, a, b, c)
    where
      one : (w : ℕ) → sum_rings (answers_to w) side.to_linux ≤ 1
      one w = let b = k.served.faults w in let c = faulting-most (at side.linux.workers w) in omega (arith, b, c)

      zero-tally : (ms : List Msg) → tally (λ (m : Msg). 0) ms ≡ 0
      zero-tally [] = refl
      zero-tally (m ∷ ms) = let a = zero-tally ms in omega (arith, a)

      zero-rings : (rs : List (List Msg)) → sum_rings (λ (m : Msg). 0) rs ≡ 0
      zero-rings [] = refl
      zero-rings (ms ∷ rs) = let a = zero-tally ms in let b = zero-rings rs in omega (arith, a, b)

      plus-tally : (f g : Msg → ℕ) (ms : List Msg) → tally (λ m. f m + g m) ms ≡ tally f ms + tally g ms
      plus-tally f g [] = omega arith
      plus-tally f g (m ∷ ms) = let a = plus-tally f g ms in omega (arith, a)

      plus-rings : (f g : Msg → ℕ) (rs : List (List Msg)) → sum_rings (λ m. f m + g m) rs ≡ sum_rings f rs + sum_rings g rs
      plus-rings f g [] = omega arith
      plus-rings f g (ms ∷ rs) = let a = plus-tally f g ms in let b = plus-rings f g rs in omega (arith, a, b)

      rings-sum : (n : ℕ) (rs : List (List Msg)) → sum_rings (λ m. sum_below (λ w. answers_to w m) n) rs ≡ sum_below (λ w. sum_rings (answers_to w) rs) n
      rings-sum zero rs = zero-rings rs
      rings-sum (suc n) rs = let a = plus-rings (answers_to n) (λ m. sum_below (λ w. answers_to w m) n) rs in let b = rings-sum n rs in omega (arith, a, b)

-- ---- the whole state
pub all-few : (pair : Pair) → Coherent pair → FewRequests pair.sides
all-few pair c p s e =
    let a = few-requests p (side_of pair p) pair.node pair.workers (ring_number pair) (c.whole p) c.places in
    let b = ap (λ (o : Option Side). count (unwrap_or o (new_side 0)).book.rows) e in
    omega (arith, a, b)
