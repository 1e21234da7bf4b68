-- Fetch in the whole state.
use Rattle.hybrid_model.specs.declared.events.Event.TheVariants as Events
use Rattle.hybrid_laws.proofs.fetch.AnswerKeeps.{found}
use Rattle.hybrid_laws.proofs.fetch.Fetch.{goes, keeps_any, shows_any, simulates_fetch}
use Rattle.hybrid_laws.proofs.maps.Reading.{first-of}
use Rattle.hybrid_laws.proofs.maps.Tests.{both}
use Rattle.hybrid_laws.proofs.requests.Statuses.{put-other}
use Rattle.hybrid_laws.proofs.states.Pair.{has-side}
use Rattle.hybrid_laws.proofs.states.Silent.{coherent-silent, turns-stay}
use Rattle.hybrid_laws.proofs.states.Steps.{SimulatedPair, simulated-pair}
use Rattle.hybrid_laws.proofs.states.Turns.{stated-other}
use Rattle.hybrid_model.specs.Coherence.{OfProcess, RequestIs, goes_to_linux}
use Rattle.hybrid_model.specs.Events.{after, may, may_here}
use Rattle.hybrid_model.specs.Fetch.{fetch_from}
use Rattle.hybrid_model.specs.Globals.{Coherent, ring_number, waits_or_held}
use Rattle.hybrid_model.specs.Fetch.{fetch_clear, fetch_empty, fetch_interrupt, fetch_message, fetch_request, fetch_row, marked_for_linux, new_service}
use Rattle.hybrid_model.specs.Workers.{is_ended_or_replied}
use Rattle.hybrid_model.specs.Pairs.{Here, Pair, here, put_here}
use Rattle.hybrid_model.specs.Rings.{ring, with_ring}
use Rattle.hybrid_model.specs.Shown.{shown_own}
use Rattle.hybrid_model.specs.Sides.{Book, Row, Service, no_service, service_of, state_in, state_of}
use Rattle.ikc_ring.specs.declared.CallRequest.{CallRequest}
use Rattle.ikc_ring.specs.declared.Msg.TheVariants.{Ack, Answer, Clear, Fault, Interrupt, Reply, Request}
use Rattle.ikc_ring.specs.declared.Msg.{Msg}
use Rattle.kernel_model.specs.Nodes.{is_there}
use Rattle.kernel_model.specs.OneKernel.{OneHere}
use Rattle.kernel_model.specs.Progress.{fault_answer}
use Rattle.mck_word.specs.MapLaws.{at-put}
use Rattle.mck_word.specs.Maps.{Map, at}
use Rattle.mck_word.specs.declared.PageRange.{PageRange}
use Rattle.mck_word.specs.declared.Pid.{Pid}
use Rattle.mck_word.specs.declared.Req.{Req}
use Rattle.request_book.specs.declared.ReqState.TheVariants.{Ended, Faulted, Held, Posted, Waiting}
use Rattle.request_book.specs.declared.ReqState.{ReqState}
use Rattle.std.proofs.Common.{ap, arith, refl, sym, ◌∙◌}
use Rattle.std.proofs.lemmas.Bool.Decides.{nat_tests}
use Rattle.std.specs.Prelude.{Bool, List, None, Option, Some, [], cond, false, length, suc, true, unwrap_or, zero, ℕ, ◌==◌, ◌∷◌, ◌≡◌}

pub length-with_ring : (r : ℕ) (ms : List Msg) (rs : List (List Msg)) → length (with_ring r ms rs) ≡ length rs
length-with_ring r ms [] = refl
length-with_ring zero ms (ns ∷ rs) = refl
length-with_ring (suc r) ms (ns ∷ rs) = ap suc (length-with_ring r ms rs)

-- a request in another state isn't one that waits or is held
pub not-that : (b : Book) (n : ℕ) (s : ReqState) (call : CallRequest) → at b.rows n ≡ Some (s, call) → waits_or_held s ≡ false → (x : ℕ) → waits_or_held (state_of b x) ≡ true → (x == n) ≡ false
not-that b n s call is idle x u = go (x == n) refl
  where
    go : (t : Bool) → (x == n) ≡ t → t ≡ false
    go false f = refl
    go true f = absurd (let y : x ≡ n = grind (arith, nat_tests, f) in let z = ap (λ o. waits_or_held (state_in o)) is in let v = ap (λ (j : ℕ). waits_or_held (state_of b j)) (sym y) ∙ u in grind (arith, z, v, idle))

module _ (pair : Pair) (c : Coherent pair) (q : Pid) (r : ℕ) (e : may pair (Events.Fetch q r) ≡ true) where
  abbrev p : ℕ
  p = q.0

  abbrev h : Here
  h = here pair p

  there : is_there pair.node p ≡ true
  there = let a = both (is_there pair.node p) (may_here (Events.Fetch q r) h) e in a.0

  k : OfProcess p h.side h.node h.workers (ring_number pair)
  k = c.whole p

  abbrev Stays : Msg → Type 0
  Stays m = (x : ℕ) → waits_or_held (state_of h.side.book x) ≡ true → (waits_or_held (state_of (fetch_message m h.side.linux h.side.book h.side.round).book x) ≡ true) × ((service_of (fetch_message m h.side.linux h.side.book h.side.round).linux.services x).progress ≡ (service_of h.side.linux.services x).progress)

  stays-request : (n : CallRequest) (ms : List Msg) → ring r h.side.to_linux ≡ Request n ∷ ms → Stays (Request n)
  unfolding fetch_request
  stays-request n ms first x u =
      let is = first-of (RequestIs (at h.side.book.rows)) r (Request n) ms h.side.to_linux first k.asked in
      let f = not-that h.side.book n.q.0 Posted n is refl x u in (
        ap (λ o. waits_or_held (state_in o)) (stated-other Waiting n.q.0 h.side.book.rows x f) ∙ u,
        ap (λ (o : Option Service). (unwrap_or o no_service).progress) (put-other h.side.linux.services n.q.0 (new_service n) x f),
      )

  stays-row : (w i n : ℕ) (row : Row) (ms : List Msg) → ring r h.side.to_linux ≡ Answer w i n (Some row) ∷ ms → Stays (Answer w i n (Some row))
  unfolding fetch_row
  stays-row w i n row ms first x u =
      let a = found p h.side h.node h.workers (ring_number pair) k r w i n (Some row) ms first in
      let s = a.2 in
      let f = not-that h.side.book a.0 Faulted a.1 a.3 refl x u in
      rw s (ap (λ o. waits_or_held (state_in o)) (stated-other Held a.0 h.side.book.rows x f) ∙ u, refl)

  stays-empty : (w i n : ℕ) (ms : List Msg) → ring r h.side.to_linux ≡ Answer w i n None ∷ ms → Stays (Answer w i n None)
  unfolding fetch_empty
  stays-empty w i n ms first x u =
      let a = found p h.side h.node h.workers (ring_number pair) k r w i n None ms first in
      let s = a.2 in
      let f = not-that h.side.book a.0 Faulted a.1 a.3 refl x u in
      rw s (
        ap (λ o. waits_or_held (state_in o)) (stated-other Ended a.0 h.side.book.rows x f) ∙ u,
        ap (λ (o : Option Service). (unwrap_or o no_service).progress) (put-other h.side.linux.services a.0 (record (service_of h.side.linux.services a.0) { answer = fault_answer (service_of h.side.linux.services a.0).progress }) x f),
      )

  stays-clear : (range : PageRange) → Stays (Clear range)
  unfolding fetch_clear
  stays-clear range x u = (u, refl)

  stays-interrupt : (n : Req) (place : ℕ) → Stays (Interrupt n place)
  unfolding fetch_interrupt
  stays-interrupt n place x u = (u, by-mark (is_ended_or_replied (state_of h.side.book n.0)))
    where
      by-mark : (b : Bool) → (service_of (marked_for_linux b h.side.linux n.0).services x).progress ≡ (service_of h.side.linux.services x).progress
      by-mark true = refl
      by-mark false = ap (λ (o : Option Service). (unwrap_or o no_service).progress) (at-put h.side.linux.services n.0 (record (service_of h.side.linux.services n.0) { interrupted = true }) x) ∙ go (x == n.0) refl
        where
          go : (b : Bool) → (x == n.0) ≡ b → (unwrap_or (cond b (Some (record (service_of h.side.linux.services n.0) { interrupted = true })) (at h.side.linux.services x)) no_service).progress ≡ (service_of h.side.linux.services x).progress
          go false f = refl
          go true f = let y : n.0 ≡ x = grind (arith, nat_tests, f) in ap (λ (j : ℕ). (service_of h.side.linux.services j).progress) y

  stays-first : (m : Msg) (ms : List Msg) → ring r h.side.to_linux ≡ m ∷ ms → goes_to_linux m ≡ true → Stays m
  stays-first (Request n) ms first g = stays-request n ms first
  stays-first (Clear range) ms first g = stays-clear range
  stays-first (Answer w i n (Some row)) ms first g = stays-row w i n row ms first
  stays-first (Answer w i n None) ms first g = stays-empty w i n ms first
  stays-first (Interrupt n place) ms first g = stays-interrupt n place
  stays-first (Reply n code) ms first g = absurd (grind (arith, g))
  stays-first Ack ms first g = absurd (grind (arith, g))
  stays-first (Fault w i a) ms first g = absurd (grind (arith, g))

  next-same : (m : Msg) → (fetch_message m h.side.linux h.side.book h.side.round).book.next ≡ h.side.book.next
  unfolding fetch_request fetch_clear fetch_row fetch_empty fetch_interrupt
  next-same (Request n) = refl
  next-same (Clear range) = refl
  next-same (Answer w i n (Some row)) = refl
  next-same (Answer w i n None) = refl
  next-same (Interrupt n place) = refl
  next-same (Reply n code) = refl
  next-same Ack = refl
  next-same (Fault w i a) = refl

  coherent_any : (xs : List Msg) → ring r h.side.to_linux ≡ xs → Coherent (put_here pair p (fetch_from r xs h))
  coherent_any [] f = coherent-silent pair c p there h.side pair.turns k refl refl refl refl refl (turns-stay pair c p there h.side (λ x u. (u, refl)))
  coherent_any (m ∷ ms) f =
      coherent-silent pair c p there (fetch_from r (m ∷ ms) h).side pair.turns (keeps_any p h (ring_number pair) k q r (m ∷ ms) f) refl refl (next-same m) (length-with_ring r ms h.side.to_linux)
      (ap (λ (o : OneHere). o.own) (shows_any p h (ring_number pair) k q r (m ∷ ms) f))
      (turns-stay pair c p there (fetch_from r (m ∷ ms) h).side (stays-first m ms f (goes p h (ring_number pair) k q r m ms f)))

  pub coherent_fetch : Coherent (after pair (Events.Fetch q r))
  coherent_fetch = coherent_any (ring r h.side.to_linux) refl

  same-born : (xs : List Msg) → (fetch_from r xs h).born ≡ None
  same-born [] = refl
  same-born (m ∷ ms) = refl

  same-frames : (xs : List Msg) → (fetch_from r xs h).frames ≡ pair.frames
  same-frames [] = refl
  same-frames (m ∷ ms) = refl

  pub simulated_fetch : SimulatedPair pair (Events.Fetch q r)
  simulated_fetch = simulated-pair pair p (has-side pair c.known p there) (Events.Fetch q r) refl (simulates_fetch p h (ring_number pair) k q r) tt (same-born (ring r h.side.to_linux))
      (λ x s n f. ap (λ (m : Map (List ℕ)). shown_own m s) (same-frames (ring r h.side.to_linux)))
