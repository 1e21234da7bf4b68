-- What may change in the node while what holds of a process stays: its threads that are Called or InVm keep their process, place and doing, and no other thread of it is Called.
use Rattle.hybrid_laws.proofs.maps.Reading.{EachRing-map}
use Rattle.hybrid_model.specs.Coherence.{AtMostInterrupt, CallsAgree, InterruptIs, IsPart, Messages, OfProcess, OnlyOwn, Owned, Placed, RequestIs, calls_it, is_live, is_of_place, of_place, place_in, state_at, tid_in}
use Rattle.hybrid_model.specs.Sides.{Caller, Side, Round}
use Rattle.hybrid_model.specs.Tallies.{Each, EachNumbered, EachRing, Reads}
use Rattle.ikc_ring.specs.declared.CallRequest.{CallRequest}
use Rattle.ikc_ring.specs.declared.Msg.TheVariants.{Ack, Clear, Request, Answer, Fault, Interrupt, Reply}
use Rattle.ikc_ring.specs.declared.Msg.{Msg}
use Rattle.kernel_model.specs.MemoryCalls.{closing_range, most_heap}
use Rattle.kernel_model.specs.Nodes.{Node, Process, Thread, change_in, is_called, process_of}
use Rattle.kernel_model.specs.Pages.{page_end, page_number, range}
use Rattle.kernel_model.specs.declared.Change.TheVariants.{Brk, Protect, Unmap, Map as ChangeMap}
use Rattle.kernel_model.specs.declared.Change.{Change}
use Rattle.kernel_model.specs.declared.Does.TheVariants.{Asleep, Called, InVm, InWait, Ready, Stopped}
use Rattle.kernel_model.specs.declared.Does.{Does}
use Rattle.mck_word.specs.Maps.{at}
use Rattle.request_book.specs.declared.ReqState.{ReqState}
use Rattle.std.proofs.Common.{arith, refl, subst, sym, ◌∙◌, ap}
use Rattle.std.proofs.lemmas.Bool.Decides.{nat_tests}
use Rattle.std.specs.Prelude.{Bool, List, None, Option, Some, [], false, if◌then◌else◌, is_some, suc, true, ◌+◌, ◌==◌, ◌||◌, ◌∷◌, ◌≡◌, ℕ}

-- Called or InVm: a thread on which something of the process's side depends
abbrev pub is_pinned : Does → Bool
is_pinned d = is_called d || is_some (change_in d)

-- A thread's row before and after, for process p. A pinned thread of p that is not free stays as it is, and a thread of p that is Called was so.
pub record ThreadKeeps (p : ℕ) (free : Bool) (o o' : Option Thread) : Type 0 where
  pub kept : (x : Thread) → o ≡ Some x → x.process ≡ p → free ≡ false → is_pinned x.does ≡ true → (y : Thread) × (o' ≡ Some y) × (y.process ≡ p) × (y.place ≡ x.place) × (y.does ≡ x.does)
  pub called : (y : Thread) → o' ≡ Some y → y.process ≡ p → is_called y.does ≡ true → (x : Thread) × (o ≡ Some x) × (x.process ≡ p) × (is_called x.does ≡ true)

pub record Keeps (p : ℕ) (free : ℕ → Bool) (node node' : Node) : Type 0 where
  pub threads : (u : ℕ) → ThreadKeeps p (free u) (at node.threads u) (at node'.threads u)
  pub heap : (process_of node' p).heap_base ≡ (process_of node p).heap_base

-- ---- over rows of threads

pub thread-same : (p : ℕ) (free : Bool) (o o' : Option Thread) → o' ≡ o → ThreadKeeps p free o o'
thread-same p free o o' e = record {
  kept = λ x f m n k. (x, e ∙ f, m, refl, refl);
  called = λ y f m k. (y, sym e ∙ f, m, k);
}

pub thread-then : (p : ℕ) (free : Bool) (o o' o'' : Option Thread) → ThreadKeeps p free o o' → ThreadKeeps p free o' o'' → ThreadKeeps p free o o''
thread-then p free o o' o'' a b = record {
  kept = λ x f m n k.
      let y = a.kept x f m n k in
      let z = b.kept y.0 y.1 y.2 n (ap is_pinned y.4 ∙ k) in
      (z.0, z.1, z.2, z.3 ∙ y.3, z.4 ∙ y.4);
  called = λ y f m k. let x = b.called y f m k in a.called x.0 x.1 x.2 x.3;
}

pub Keeps-same : (p : ℕ) (free : ℕ → Bool) (node node' : Node) → node'.threads ≡ node.threads → (process_of node' p).heap_base ≡ (process_of node p).heap_base → Keeps p free node node'
Keeps-same p free node node' e f = record {
  threads = λ u. thread-same p (free u) (at node.threads u) (at node'.threads u) (ap (λ m. at m u) e);
  heap = f;
}

pub Keeps-then : (p : ℕ) (free : ℕ → Bool) (a b c : Node) → Keeps p free a b → Keeps p free b c → Keeps p free a c
Keeps-then p free a b c k l = record {
  threads = λ u. thread-then p (free u) (at a.threads u) (at b.threads u) (at c.threads u) (k.threads u) (l.threads u);
  heap = l.heap ∙ k.heap;
}

-- ---- messages by place, where the threads that call keep their places
pub place-found : (k : ℕ) (o : Option Thread) → place_in k o ≡ true → (x : Thread) × (o ≡ Some x) × (x.place ≡ k)
place-found k None e = absurd (grind (arith, e))
place-found k (Some x) e = (x, refl, grind (arith, nat_tests, e))

module _ (rows : Reads (ReqState × CallRequest)) (callers : Reads Caller) (threads threads' : Reads Thread)
    (stays : (u : ℕ) (c : Caller) → callers u ≡ Some c → (k : ℕ) → place_in k (threads' u) ≡ place_in k (threads u))
    (live : (q : ℕ) → is_live (state_at rows q) ≡ true → (c : Caller) × (callers (tid_in (rows q)) ≡ Some c)) where
  interrupt-stays : (next : ℕ) (m : Msg) → InterruptIs next rows threads m → InterruptIs next rows threads' m
  interrupt-stays next (Interrupt n place) h = (h.0, h.1, λ l. let c = live n.0 l in stays (tid_in (rows n.0)) c.0 c.1 place ∙ h.2 l)
  interrupt-stays next (Request c) h = tt
  interrupt-stays next (Clear r) h = tt
  interrupt-stays next (Answer w i n row) h = tt
  interrupt-stays next (Reply n code) h = tt
  interrupt-stays next Ack h = tt
  interrupt-stays next (Fault w i a) h = tt

  pub interrupts-stay : (next : ℕ) (rings : List (List Msg)) → EachRing (InterruptIs next rows threads) rings → EachRing (InterruptIs next rows threads') rings
  interrupts-stay next rings h = EachRing-map (InterruptIs next rows threads) (InterruptIs next rows threads') rings (interrupt-stays next) h

  place-same : (k : ℕ) (m : Msg) → RequestIs rows m → is_of_place threads' k m ≡ is_of_place threads k m
  place-same k (Request c) h = let l = live c.q.0 (rw h refl) in stays c.tid.0 l.0 (sym (ap (λ (o : Option (ReqState × CallRequest)). callers (tid_in o)) h) ∙ l.1) k
  place-same k (Interrupt n place) h = refl
  place-same k (Clear r) h = refl
  place-same k (Answer w i n row) h = refl
  place-same k (Reply n code) h = refl
  place-same k Ack h = refl
  place-same k (Fault w i a) h = refl

  of_place-same : (k : ℕ) (ms : List Msg) → Each (RequestIs rows) ms → of_place threads' k ms ≡ of_place threads k ms
  of_place-same k [] h = refl
  of_place-same k (m ∷ ms) h = λ i. if place-same k m h.0 i then m ∷ of_place-same k ms h.1 i else of_place-same k ms h.1 i

  module _ (ring_of : ℕ → ℕ) where
    placed-stay : (r : ℕ) (rs : List (List Msg)) → EachRing (RequestIs rows) rs → EachNumbered (Placed rows threads ring_of) r rs → EachNumbered (Placed rows threads' ring_of) r rs
    placed-stay r [] n h = tt
    placed-stay r (ms ∷ rs) n h = (record { parts = λ k. subst (IsPart (state_at rows)) (sym (of_place-same k ms n.0)) (h.0.parts k); own = h.0.own }, placed-stay (suc r) rs n.1 h.1)

    only-stay : (r : ℕ) (rs : List (List Msg)) → EachRing (RequestIs rows) rs → EachNumbered (OnlyOwn rows threads ring_of callers) r rs → EachNumbered (OnlyOwn rows threads' ring_of callers) r rs
    only-stay r [] n h = tt
    only-stay r (ms ∷ rs) n h = (go, only-stay (suc r) rs n.1 h.1)
      where
        go : OnlyOwn rows threads' ring_of callers r ms
        go u x c a b e f =
            let same : (x.place == x.place) ≡ true = grind (arith, nat_tests) in
            let w = place-found x.place (threads u) (sym (stays u c b x.place) ∙ ap (place_in x.place) a ∙ same) in
            subst (AtMostInterrupt c.request) (ap (λ (k : ℕ). of_place threads k ms) w.2 ∙ sym (of_place-same x.place ms n.0)) (h.0 u w.0 c w.1 b e f)

    pub messages-stay : (rings : List (List Msg)) → EachRing (RequestIs rows) rings → Messages rows threads ring_of callers rings → Messages rows threads' ring_of callers rings
    messages-stay rings n h = record { placed = placed-stay 0 rings n h.placed; only = only-stay 0 rings n h.only }

-- the thread that calls with a request that is live
pub calls-found : (q : ℕ) (o : Option Caller) → calls_it q o ≡ true → (c : Caller) × (o ≡ Some c)
calls-found q None e = absurd (grind (arith, e))
calls-found q (Some c) e = (c, refl)

pub closing-same : (a b : Process) (c : Change) → b.heap_base ≡ a.heap_base → closing_range b c ≡ closing_range a c
closing-same a b (ChangeMap r rights) e = refl
closing-same a b (Unmap r) e = refl
closing-same a b (Protect r rights) e = refl
closing-same a b (Brk x) e = ap (λ (h : ℕ). range (page_end x) (page_number (h + most_heap))) e

-- ---- the process whose side stays, where no free thread of it is Called
module _ (p : ℕ) (free : ℕ → Bool) (threads threads' : Reads Thread)
    (idle : (u : ℕ) (x : Thread) → free u ≡ true → threads u ≡ Some x → x.process ≡ p → is_called x.does ≡ false)
    (keeps : (u : ℕ) → ThreadKeeps p (free u) (threads u) (threads' u)) where
  pub called-stays : (u : ℕ) (x : Thread) → threads u ≡ Some x → x.process ≡ p → is_called x.does ≡ true → (y : Thread) × (threads' u ≡ Some y) × (y.process ≡ p) × (y.place ≡ x.place) × (y.does ≡ x.does)
  called-stays u x e own k = (keeps u).kept x e own (not-free (free u) refl) (rw k refl)
    where
      not-free : (b : Bool) → free u ≡ b → free u ≡ false
      not-free false f = f
      not-free true f = absurd (let i = idle u x f e own in grind (arith, i, k))

  module _ (callers : Reads Caller) (agree : CallsAgree p threads callers) where
    caller-thread : (u : ℕ) (c : Caller) → callers u ≡ Some c → (x : Thread) × (threads u ≡ Some x) × (x.process ≡ p) × (is_called x.does ≡ true)
    caller-thread u c e = let k = agree.there u c e in (k.0, k.1, k.2, agree.called u k.0 k.1 k.2 ∙ ap is_some e)

    pub places-stay : (u : ℕ) (c : Caller) → callers u ≡ Some c → (k : ℕ) → place_in k (threads' u) ≡ place_in k (threads u)
    places-stay u c e k =
        let x = caller-thread u c e in
        let y = called-stays u x.0 x.1 x.2 x.3 in
        let a = y.1 in let b = x.1 in let d = y.3 in rw (a, b, d) refl

    pub calls-stay : CallsAgree p threads' callers
    calls-stay = record {
      called = λ u y e own. go u y e own (is_called y.does) refl (callers u) refl;
      there = λ u c e. let x = caller-thread u c e in let y = called-stays u x.0 x.1 x.2 x.3 in (y.0, y.1, y.2);
    }
      where
        go : (u : ℕ) (y : Thread) → threads' u ≡ Some y → y.process ≡ p → (b : Bool) → is_called y.does ≡ b → (o : Option Caller) → callers u ≡ o → b ≡ is_some o
        go u y e own true f o g = let x = (keeps u).called y e own f in sym x.3 ∙ agree.called u x.0 x.1 x.2 ∙ ap is_some g
        go u y e own false f None g = refl
        go u y e own false f (Some c) g =
            let x = caller-thread u c g in
            let z = called-stays u x.0 x.1 x.2 x.3 in
            let o = sym z.1 ∙ e in
            let s : z.0 ≡ y = cc in
            absurd (let t = sym (ap is_called z.4 ∙ x.3) ∙ ap (λ (w : Thread). is_called w.does) s ∙ f in grind (arith, t))

-- the round's thread stays, where no free thread of the process is InVm
module _ (p : ℕ) (free : ℕ → Bool) (threads threads' : Reads Thread)
    (idle : (u : ℕ) (x : Thread) → free u ≡ true → threads u ≡ Some x → x.process ≡ p → change_in x.does ≡ None)
    (keeps : (u : ℕ) → ThreadKeeps p (free u) (threads u) (threads' u)) (process process' : Process) (heap : process'.heap_base ≡ process.heap_base) where
  pub owned-keeps : (round : Option Round) (changing : Option ℕ) → Owned process threads p round changing → Owned process' threads' p round changing
  owned-keeps None None h = tt
  owned-keeps None (Some t) h = absurd h
  owned-keeps (Some r) None h = absurd h
  owned-keeps (Some r) (Some t) h =
      let does = h.does in
      let y = (keeps t).kept h.thread h.there h.own (not-free (free t) refl) (rw does refl) in
      record { thread = y.0; there = y.1; own = y.2; change = h.change; does = y.4 ∙ does; range_is = closing-same process process' h.change heap ∙ h.range_is }
    where
      not-free : (b : Bool) → free t ≡ b → free t ≡ false
      not-free false f = f
      not-free true f = absurd (let n = sym (idle t h.thread f h.there h.own) ∙ ap change_in h.does in grind (arith, n))

-- a thread that is not pinned changes nothing
pub no-change : (d : Does) → is_pinned d ≡ false → change_in d ≡ None
no-change (InVm c) e = absurd (grind (arith, e))
no-change Called e = absurd (grind (arith, e))
no-change Ready e = refl
no-change (Stopped s) e = refl
no-change (Asleep a) e = refl
no-change (InWait n s) e = refl

pub no-call : (d : Does) → is_pinned d ≡ false → is_called d ≡ false
no-call Called e = absurd (grind (arith, e))
no-call (InVm c) e = refl
no-call Ready e = refl
no-call (Stopped s) e = refl
no-call (Asleep a) e = refl
no-call (InWait n s) e = refl

module _ (p : ℕ) (free : ℕ → Bool) (side : Side) (node node' : Node) (worker_count : ℕ) (ring_of : ℕ → ℕ) (k : Keeps p free node node')
    (idle : (u : ℕ) (x : Thread) → free u ≡ true → at node.threads u ≡ Some x → x.process ≡ p → is_pinned x.does ≡ false) where
  -- what holds of a process stays where its own part does, and the node changes so
  pub node-keeps : OfProcess p side node worker_count ring_of → OfProcess p side node' worker_count ring_of
  node-keeps h =
      let live : (q : ℕ) → is_live (state_at (at side.book.rows) q) ≡ true → (c : Caller) × (at side.lwk.callers (tid_in (at side.book.rows q)) ≡ Some c) = λ q l. calls-found q (at side.lwk.callers (tid_in (at side.book.rows q))) (h.answered.live q l) in
      let stays = places-stay p free (at node.threads) (at node'.threads) (λ u x f e own. no-call x.does (idle u x f e own)) k.threads (at side.lwk.callers) h.calls in
      record {
        covered = h.covered;
        rounded = h.rounded;
        owned = owned-keeps p free (at node.threads) (at node'.threads) (λ u x f e own. no-change x.does (idle u x f e own)) k.threads (process_of node p) (process_of node' p) k.heap side.round side.lwk.changing h.owned;
        served = h.served;
        answered = h.answered;
        calls = calls-stay p free (at node.threads) (at node'.threads) (λ u x f e own. no-call x.does (idle u x f e own)) k.threads (at side.lwk.callers) h.calls;
        asked = h.asked;
        interrupts = interrupts-stay (at side.book.rows) (at side.lwk.callers) (at node.threads) (at node'.threads) stays live side.book.next side.to_linux h.interrupts;
        directions = h.directions;
        messages = messages-stay (at side.book.rows) (at side.lwk.callers) (at node.threads) (at node'.threads) stays live ring_of side.to_linux h.asked h.messages;
        marked = h.marked;
      }
