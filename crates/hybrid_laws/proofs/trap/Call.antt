-- The Trap of a delegated call: the whole process.
use Rattle.hybrid_laws.proofs.maps.Reading.{EachRing-map, EachRing-post, reads-put, sum-post}
use Rattle.hybrid_laws.proofs.maps.Tests.{no-none}
use Rattle.hybrid_laws.proofs.node.Keeps.{closing-same}
use Rattle.hybrid_laws.proofs.trap.BeginCall.{answered_call, covered-call, rounded-call, served_call}
use Rattle.hybrid_laws.proofs.trap.Posted.{IsGiven, Messages-request}
use Rattle.hybrid_model.specs.Coherence.{OfProcess, Owned, CallsAgree, Marked, RequestIs, interrupts_of, service_at, is_fetched, state_at, InterruptIs, goes_to_linux, place_in, tid_in}
use Rattle.hybrid_model.specs.Trap.{begin_call}
use Rattle.hybrid_model.specs.Rings.{post}
use Rattle.hybrid_model.specs.Sides.{Side, Round, Caller}
use Rattle.hybrid_model.specs.Tallies.{Reads, with_at, tally, Each, sum_rings, EachRing, as_number}
use Rattle.ikc_ring.specs.declared.CallRequest.{CallRequest}
use Rattle.ikc_ring.specs.declared.Msg.TheVariants.{Request, Clear, Answer, Interrupt, Reply, Ack, Fault}
use Rattle.ikc_ring.specs.declared.Msg.{Msg}
use Rattle.kernel_model.specs.Nodes.{Node, Thread, Process, process_of, is_called, change_in}
use Rattle.kernel_model.specs.Progress.{Progress, stays}
use Rattle.mck_word.specs.Maps.{at}
use Rattle.request_book.specs.declared.ReqState.TheVariants.{Posted}
use Rattle.request_book.specs.declared.ReqState.{ReqState}
use Rattle.std.proofs.Common.{ap, arith, refl, subst, sym, ◌∙◌}
use Rattle.std.proofs.lemmas.Bool.Decides.{nat_tests}
use Rattle.std.specs.Prelude.{Bool, List, None, Option, Some, [], false, if◌then◌else◌, is_some, length, not, true, ℕ, ◌+◌, ◌<◌, ◌==◌, ◌∷◌, ◌≡◌, ◌≢◌, ◌≤◌}

-- a round belongs to a thread that is InVm, so not to the one that traps
owned-others : (process process' : Process) → process'.heap_base ≡ process.heap_base → (threads threads' : Reads Thread) (p t : ℕ) (x : Thread) → threads t ≡ Some x → change_in x.does ≡ None → ((u : ℕ) → u ≢ t → threads' u ≡ threads u) → (round : Option Round) (changing : Option ℕ) → Owned process threads p round changing → Owned process' threads' p round changing
owned-others process process' heap threads threads' p t x there no-change others None None h = tt
owned-others process process' heap threads threads' p t x there no-change others None (Some u) h = absurd h
owned-others process process' heap threads threads' p t x there no-change others (Some r) None h = absurd h
owned-others process process' heap threads threads' p t x there no-change others (Some r) (Some u) h =
    record { thread = h.thread; there = others u differ ∙ h.there; own = h.own; change = h.change; does = h.does; range_is = closing-same process process' h.change heap ∙ h.range_is }
  where
    differ : u ≢ t
    differ e =
        let o = sym there ∙ ap threads (sym e) ∙ h.there in
        let k : x ≡ h.thread = cc in
        let n = sym no-change ∙ ap (λ (z : Thread). change_in z.does) k ∙ ap change_in h.does in
        grind (arith, n)

interrupts-none : (q : ℕ) (m : Msg) → IsGiven q m → interrupts_of q m ≡ 0
interrupts-none q (Interrupt n place) h = grind (arith, nat_tests, h)
interrupts-none q (Request c) h = refl
interrupts-none q (Clear r) h = refl
interrupts-none q (Answer v i n row) h = refl
interrupts-none q (Reply n code) h = refl
interrupts-none q Ack h = refl
interrupts-none q (Fault v i a) h = refl

none-in : (q : ℕ) (ms : List Msg) → Each (IsGiven q) ms → tally (interrupts_of q) ms ≡ 0
none-in q [] h = refl
none-in q (m ∷ ms) h = omega (arith, interrupts-none q m h.0, none-in q ms h.1)

none-in-rings : (q : ℕ) (rs : List (List Msg)) → EachRing (IsGiven q) rs → sum_rings (interrupts_of q) rs ≡ 0
none-in-rings q [] h = refl
none-in-rings q (ms ∷ rs) h = omega (arith, none-in q ms h.0, none-in-rings q rs h.1)

given-one : (rows : Reads (ReqState × CallRequest)) (threads : Reads Thread) (q : ℕ) (m : Msg) → InterruptIs q rows threads m → IsGiven q m
given-one rows threads q (Interrupt n place) h = h.0
given-one rows threads q (Request c) h = tt
given-one rows threads q (Clear r) h = tt
given-one rows threads q (Answer v i n row) h = tt
given-one rows threads q (Reply n code) h = tt
given-one rows threads q Ack h = tt
given-one rows threads q (Fault v i a) h = tt

interrupt-more : (rows : Reads (ReqState × CallRequest)) (threads threads' : Reads Thread) (q : ℕ) (c : CallRequest) → ((k u : ℕ) → place_in k (threads' u) ≡ place_in k (threads u)) → (m : Msg) → InterruptIs q rows threads m → InterruptIs (q + 1) (with_at rows q (Some (Posted, c))) threads' m
interrupt-more rows threads threads' q c stays (Interrupt n place) h =
    let l = h.0 in
    let d : (n.0 == q) ≡ false = grind (arith, nat_tests, l) in
    (omega (arith, l), h.1, rw d (λ u. stays place (tid_in (rows n.0)) ∙ h.2 u))
interrupt-more rows threads threads' q c stays (Request z) h = tt
interrupt-more rows threads threads' q c stays (Clear r) h = tt
interrupt-more rows threads threads' q c stays (Answer v i n row) h = tt
interrupt-more rows threads threads' q c stays (Reply n code) h = tt
interrupt-more rows threads threads' q c stays Ack h = tt
interrupt-more rows threads threads' q c stays (Fault v i a) h = tt

asked-more : (rows : Reads (ReqState × CallRequest)) (q : ℕ) (c : CallRequest) → rows q ≡ None → (m : Msg) → RequestIs rows m → RequestIs (with_at rows q (Some (Posted, c))) m
asked-more rows q c none (Request z) h = grind (arith, nat_tests, none, h)
asked-more rows q c none (Interrupt n place) h = tt
asked-more rows q c none (Clear r) h = tt
asked-more rows q c none (Answer v i n row) h = tt
asked-more rows q c none (Reply n code) h = tt
asked-more rows q c none Ack h = tt
asked-more rows q c none (Fault v i a) h = tt

module _ (p : ℕ) (side : Side) (node node' : Node) (worker_count : ℕ) (ring_of : ℕ → ℕ) (h : OfProcess p side node worker_count ring_of) (t : ℕ) (x y : Thread) (there : at node.threads t ≡ Some x) (mine : x.process ≡ p) (no-change : change_in x.does ≡ None) (not-called : is_called x.does ≡ false)
    (now : at node'.threads t ≡ Some y) (place : y.place ≡ x.place) (mine' : y.process ≡ p) (calls : is_called y.does ≡ true) (others : (u : ℕ) → u ≢ t → at node'.threads u ≡ at node.threads u) (heap : (process_of node' p).heap_base ≡ (process_of node p).heap_base)
    (apart : (u v : ℕ) (d e : Thread) → at node.threads u ≡ Some d → at node.threads v ≡ Some e → d.process ≡ e.process → d.place ≡ e.place → u ≡ v)
    (there_is : ring_of t < length side.to_linux) (progress : Progress) where
  abbrev q : ℕ
  q = side.book.next

  abbrev call : CallRequest
  call = record { q = record { 0 = q }; tid = record { 0 = t }; call = progress.call; args = progress.arguments }

  idle : at side.lwk.callers t ≡ None
  idle = no-none (at side.lwk.callers t) (ap not (sym (h.calls.called t x there mine) ∙ not-called))

  fresh : at side.book.rows q ≡ None
  fresh = h.answered.fresh q (omega arith)

  given : EachRing (IsGiven q) side.to_linux
  given = EachRing-map (InterruptIs q (at side.book.rows) (at node.threads)) (IsGiven q) side.to_linux (given-one (at side.book.rows) (at node.threads) q) h.interrupts

  places : (k u : ℕ) → place_in k (at node'.threads u) ≡ place_in k (at node.threads u)
  places k u = go (u == t) refl
    where
      go : (b : Bool) → (u == t) ≡ b → place_in k (at node'.threads u) ≡ place_in k (at node.threads u)
      go true e = let g : u ≡ t = grind (arith, nat_tests, e) in rw (g, now, there, place) refl
      go false e = ap (place_in k) (others u (λ g. grind (arith, nat_tests, e, g)))

  calls-agree : CallsAgree p (at node'.threads) (with_at (at side.lwk.callers) t (Some (record { request = q; marked = false })))
  calls-agree = record { called = λ u d e own. go (u == t) u d refl e own; there = λ u d e. back (u == t) u d refl e }
    where
      go : (b : Bool) (u : ℕ) (d : Thread) → (u == t) ≡ b → at node'.threads u ≡ Some d → d.process ≡ p → is_called d.does ≡ is_some (if b then Some (record { request = q; marked = false }) else at side.lwk.callers u)
      go true u d e f own = let k : u ≡ t = grind (arith, nat_tests, e) in let o = sym f ∙ ap (at node'.threads) k ∙ now in let z : d ≡ y = cc in ap (λ (w : Thread). is_called w.does) z ∙ calls
      go false u d e f own = h.calls.called u d (sym (others u (λ k. grind (arith, nat_tests, e, k))) ∙ f) own

      back : (b : Bool) (u : ℕ) (d : Caller) → (u == t) ≡ b → (if b then Some (record { request = q; marked = false }) else at side.lwk.callers u) ≡ Some d → (w : Thread) × (at node'.threads u ≡ Some w) × (w.process ≡ p)
      back true u d e f = let k : u ≡ t = grind (arith, nat_tests, e) in (y, ap (at node'.threads) k ∙ now, mine')
      back false u d e f = let w = h.calls.there u d f in (w.0, others u (λ k. grind (arith, nat_tests, e, k)) ∙ w.1, w.2)

  marks : Marked (at side.linux.services) (with_at (at side.lwk.callers) t (Some (record { request = q; marked = false }))) (post (ring_of t) (Request call) side.to_linux)
  marks = record { fetched = λ u d e f. fetched-of (u == t) u d e f; posted = λ u d e. posted-of (u == t) u d e }
    where
      unknown : is_fetched (state_at (at side.book.rows) q) ≡ false
      unknown = rw fresh refl

      none : at side.linux.services q ≡ None
      none = no-none (at side.linux.services q) (ap not (sym (h.served.known q) ∙ unknown))

      fetched-of : (b : Bool) (u : ℕ) (d : Caller) → (if b then Some (record { request = q; marked = false }) else at side.lwk.callers u) ≡ Some d → (service_at (at side.linux.services) d.request).interrupted ≡ true → d.marked ≡ true
      fetched-of true u d e f = let k : record { request = q; marked = false } ≡ d = cc in let m : q ≡ d.request = ap (λ (z : Caller). z.request) k in absurd (let f' = rw (sym m, none) at f in grind (arith, f'))
      fetched-of false u d e f = h.marked.fetched u d e f

      posted-of : (b : Bool) (u : ℕ) (d : Caller) → (if b then Some (record { request = q; marked = false }) else at side.lwk.callers u) ≡ Some d → sum_rings (interrupts_of d.request) (post (ring_of t) (Request call) side.to_linux) ≤ as_number d.marked
      posted-of true u d e =
          let k : record { request = q; marked = false } ≡ d = cc in
          subst (λ (z : Caller). sum_rings (interrupts_of z.request) (post (ring_of t) (Request call) side.to_linux) ≤ as_number z.marked) k
          (omega (arith, sum-post (interrupts_of q) (ring_of t) (Request call) side.to_linux, none-in-rings q side.to_linux given))
      posted-of false u d e = omega (arith, sum-post (interrupts_of d.request) (ring_of t) (Request call) side.to_linux, h.marked.posted u d e)

  pub keeps_begin_call : OfProcess p (begin_call (ring_of t) t progress side) node' worker_count ring_of
  unfolding begin_call
  keeps_begin_call =
      let a = reads-put side.lwk.callers t (record { request = q; marked = false }) in
      let b = reads-put side.book.rows q (Posted, call) in
      record {
        covered = covered-call side.round (at side.lwk.table) (at side.linux.mirror) (at side.linux.pins) side.lwk.begun side.linux.cleared (ring_of t) call side.to_linux side.to_lwk h.covered;
        rounded = rounded-call side.round (at side.lwk.table) (at side.linux.mirror) (at side.linux.pins) side.lwk.begun side.linux.cleared (ring_of t) call side.to_linux side.to_lwk h.rounded;
        owned = owned-others (process_of node p) (process_of node' p) heap (at node.threads) (at node'.threads) p t x there no-change others side.round side.lwk.changing h.owned;
        served = rw b (served_call worker_count (at side.linux.workers) (at side.book.rows) (at side.linux.services) (at side.linux.pins) side.book.waiting (at side.lwk.noted) side.to_linux side.to_lwk h.served (ring_of t) q call refl fresh);
        answered = rw (a, b) (answered_call (at side.book.rows) (at side.lwk.callers) q side.to_lwk h.answered t idle call refl);
        calls = rw a calls-agree;
        asked = rw b (EachRing-post (RequestIs (with_at (at side.book.rows) q (Some (Posted, call)))) (ring_of t) (Request call) side.to_linux (EachRing-map (RequestIs (at side.book.rows)) (RequestIs (with_at (at side.book.rows) q (Some (Posted, call)))) side.to_linux (asked-more (at side.book.rows) q call fresh) h.asked) (let same : (q == q) ≡ true = grind (arith, nat_tests) in rw same refl));
        interrupts = rw b (EachRing-post (InterruptIs (q + 1) (with_at (at side.book.rows) q (Some (Posted, call))) (at node'.threads)) (ring_of t) (Request call) side.to_linux
            (EachRing-map (InterruptIs q (at side.book.rows) (at node.threads)) (InterruptIs (q + 1) (with_at (at side.book.rows) q (Some (Posted, call))) (at node'.threads)) side.to_linux (interrupt-more (at side.book.rows) (at node.threads) (at node'.threads) q call places) h.interrupts) tt);
        directions = record { to_linux = EachRing-post (λ m. goes_to_linux m ≡ true) (ring_of t) (Request call) side.to_linux h.directions.to_linux refl; to_lwk = h.directions.to_lwk };
        messages = rw (a, b) (Messages-request p (at side.book.rows) (at node.threads) (at node'.threads) ring_of (at side.lwk.callers) q side.to_lwk h.answered h.calls t x y there mine now place others apart idle call refl refl (ring_of t) side.to_linux refl there_is h.asked given h.messages);
        marked = rw a marks;
      }
