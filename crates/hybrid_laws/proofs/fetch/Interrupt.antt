-- Fetch of an Interrupt keeps what holds of the process, and shows nothing: the service of its request is marked, or it is dropped.
use Rattle.hybrid_laws.proofs.maps.Reading.{EachRing-take, reads-put, sum-take}
use Rattle.hybrid_laws.proofs.requests.Requests.{IsForNext-keeps, PinServes-keeps, answers-keep, directions-take, faults-keep, noted-keep}
use Rattle.hybrid_laws.proofs.requests.Showing.{has_empty-take}
use Rattle.hybrid_laws.proofs.requests.Silent.{shown-silent}
use Rattle.hybrid_laws.proofs.rings.Placing.{Marked-take}
use Rattle.hybrid_laws.proofs.rings.Taking.{taken-covered, taken-rounded, taken-served}
use Rattle.hybrid_model.specs.Coherence.{AtMostInterrupt, AtMostRequest, InterruptIs, IsForNext, IsPart, Marked, Messages, OfProcess, OnlyOwn, Placed, RequestIs, Served, holder, interrupts_of, is_fetched, is_posted, of_place, service_at, state_at}
use Rattle.hybrid_model.specs.Fetch.{with_fetched}
use Rattle.hybrid_model.specs.Fetch.{fetch_interrupt, marked_for_linux}
use Rattle.hybrid_model.specs.Workers.{is_ended_or_replied}
use Rattle.hybrid_model.specs.Pairs.{Here, with_side}
use Rattle.hybrid_model.specs.Rings.{ring, with_ring}
use Rattle.hybrid_model.specs.Shown.{has_empty, reply_code, shown_here, status_by, status_in, status_of}
use Rattle.hybrid_model.specs.Sides.{Caller, Noted, Service, Side, call_in, no_service, service_of, state_in, state_of}
use Rattle.hybrid_model.specs.Tallies.{EachNumbered, Reads, as_number, if_same, with_at}
use Rattle.ikc_ring.specs.declared.CallRequest.{CallRequest}
use Rattle.ikc_ring.specs.declared.Msg.TheVariants.{Ack, Answer, Clear, Fault, Interrupt, Reply, Request}
use Rattle.ikc_ring.specs.declared.Msg.{Msg}
use Rattle.kernel_model.specs.Nodes.{Node, Thread}
use Rattle.kernel_model.specs.OneKernel.{Active, Blocked, Over}
use Rattle.kernel_model.specs.Progress.{Progress}
use Rattle.mck_word.specs.Maps.{Map, at, put}
use Rattle.mck_word.specs.declared.Access.{Access}
use Rattle.mck_word.specs.declared.Req.{Req}
use Rattle.page_pins.specs.declared.Pin.{Pin}
use Rattle.request_book.specs.declared.ReqState.TheVariants.{Ended, Faulted, Held, Parked, Posted, Replied, Waiting}
use Rattle.request_book.specs.declared.ReqState.{ReqState}
use Rattle.std.proofs.Common.{ap, arith, refl, sym, ◌∙◌}
use Rattle.std.proofs.lemmas.Bool.Decides.{nat_tests}
use Rattle.std.specs.Prelude.{Bool, List, Some, [], false, if◌then◌else◌, is_some, suc, true, unwrap_or, zero, ℕ, ℤ, ◌==◌, ◌∷◌, ◌≡◌, ◌≤◌}

-- ---- the messages of each place
each-taken : (P : ℕ → List Msg → Type 0) (m : Msg) → ((j : ℕ) (ns : List Msg) → P j (m ∷ ns) → P j ns) → (k r : ℕ) (ms : List Msg) (rs : List (List Msg)) → ring r rs ≡ m ∷ ms → EachNumbered P k rs → EachNumbered P k (with_ring r ms rs)
each-taken P m f k r ms [] e h = tt
each-taken P m f k zero ms (ns ∷ rs) e h = (f k ms (rw e at h.0), h.1)
each-taken P m f k (suc r) ms (ns ∷ rs) e h = (h.0, each-taken P m f (suc k) r ms rs e h.1)

first-numbered : (P : ℕ → List Msg → Type 0) (m : Msg) (k r : ℕ) (ms : List Msg) (rs : List (List Msg)) → ring r rs ≡ m ∷ ms → EachNumbered P k rs → (j : ℕ) × P j (m ∷ ms)
first-numbered P m k r ms [] e h = absurd (grind (arith, e))
first-numbered P m k zero ms (ns ∷ rs) e h = (k, rw e at h.0)
first-numbered P m k (suc r) ms (ns ∷ rs) e h = first-numbered P m (suc k) r ms rs e h.1

module _ (rows : Reads (ReqState × CallRequest)) (threads : Reads Thread) (ring_of : ℕ → ℕ) (callers : Reads Caller) (n : Req) (place : ℕ) where
  part-of-request : (L : List Msg) → AtMostRequest L → IsPart (state_at rows) L
  part-of-request [] h = h
  part-of-request (Request c ∷ ms) h = h
  part-of-request (Clear x ∷ ms) h = absurd h
  part-of-request (Answer w i k row ∷ ms) h = absurd h
  part-of-request (Interrupt k y ∷ ms) h = absurd h
  part-of-request (Reply k code ∷ ms) h = absurd h
  part-of-request (Ack ∷ ms) h = absurd h
  part-of-request (Fault w i a ∷ ms) h = absurd h

  part-rest : (b : Bool) (L : List Msg) → IsPart (state_at rows) (if b then Interrupt n place ∷ L else L) → IsPart (state_at rows) L
  part-rest true L h = part-of-request L h.1
  part-rest false L h = h

  only-rest : (q : ℕ) (b : Bool) (L : List Msg) → AtMostInterrupt q (if b then Interrupt n place ∷ L else L) → AtMostInterrupt q L
  only-rest q true [] h = tt
  only-rest q true (z ∷ L) h = absurd h
  only-rest q false L h = h

  pub Messages-interrupt : (r : ℕ) (ms : List Msg) (rings : List (List Msg)) → ring r rings ≡ Interrupt n place ∷ ms → Messages rows threads ring_of callers rings → Messages rows threads ring_of callers (with_ring r ms rings)
  Messages-interrupt r ms rings first h = record {
    placed = each-taken (Placed rows threads ring_of) (Interrupt n place) (λ j ns x. record { parts = λ k. part-rest (place == k) (of_place threads k ns) (x.parts k); own = x.own.1 }) 0 r ms rings first h.placed;
    only = each-taken (OnlyOwn rows threads ring_of callers) (Interrupt n place) (λ j ns x t y c a b d u. only-rest c.request (place == y.place) (of_place threads y.place ns) (x t y c a b d u)) 0 r ms rings first h.only;
  }

  -- an Interrupt that stands first is of a request that was fetched
  pub fetched-first : (r : ℕ) (ms : List Msg) (rings : List (List Msg)) → ring r rings ≡ Interrupt n place ∷ ms → Messages rows threads ring_of callers rings → is_posted (state_at rows n.0) ≡ 0
  fetched-first r ms rings first h = go (place == place) (let b : (place == place) ≡ true = grind (arith, nat_tests) in b) ((first-numbered (Placed rows threads ring_of) (Interrupt n place) 0 r ms rings first h.placed).1.parts place)
    where
      go : (b : Bool) → b ≡ true → IsPart (state_at rows) (if b then Interrupt n place ∷ of_place threads place ms else of_place threads place ms) → is_posted (state_at rows n.0) ≡ 0
      go true e h = h.0
      go false e h = absurd (grind (arith, e))

fetched-state : (s : ReqState) → is_ended_or_replied s ≡ false → is_posted s ≡ 0 → is_fetched s ≡ true
fetched-state Posted e f = absurd (omega (arith, f))
fetched-state Waiting e f = refl
fetched-state Held e f = refl
fetched-state Parked e f = refl
fetched-state Faulted e f = refl
fetched-state Ended e f = absurd (grind (arith, e))
fetched-state Replied e f = absurd (grind (arith, e))

-- ---- services that move as far, for the same worker
pub served-services : (worker_count : ℕ) (workers : Reads ℕ) (rows : Reads (ReqState × CallRequest)) (services services' : Reads Service) (pins : Reads Pin) (waiting : List ℕ) (noted : Reads Noted) (rings : List (List Msg)) (bs : List Msg)
    → ((x : ℕ) → (service_at services' x).progress ≡ (service_at services x).progress) → ((x : ℕ) → (service_at services' x).worker ≡ (service_at services x).worker) → ((x : ℕ) → is_some (services' x) ≡ is_some (services x))
    → Served worker_count workers rows services pins waiting noted rings bs → Served worker_count workers rows services' pins waiting noted rings bs
served-services worker_count workers rows services services' pins waiting noted rings bs same_progress same_worker same_known c = record {
  worker_below = c.worker_below;
  requests = c.requests;
  waits = c.waits;
  known = λ x. c.known x ∙ sym (same_known x);
  workers_hold = λ v x e. ap (holder (state_at rows x)) (same_worker x) ∙ c.workers_hold v x e;
  held_by = λ x v e. c.held_by x v (ap (holder (state_at rows x)) (sym (same_worker x)) ∙ e);
  faults = c.faults;
  fault_for = faults-keep workers workers services services' others bs c.fault_for;
  noted_for = noted-keep workers workers services services' others noted c.noted_for;
  answer_for = answers-keep workers workers services services' others rings c.answer_for;
  pins_serve = λ v x e. let k = c.pins_serve v x e in PinServes-keeps workers workers rows rows services services' v x k k.serves k.not_faulted (λ u. (refl, same_progress k.number));
}
  where
    others : (v j : ℕ) (a : Access) → IsForNext workers services v j a → IsForNext workers services' v j a
    others v j a k = IsForNext-keeps workers workers services services' v j a k k.serves (same_progress k.number)

module _ (p : ℕ) (side : Side) (node : Node) (worker_count : ℕ) (ring_of : ℕ → ℕ) (h : OfProcess p side node worker_count ring_of) (r : ℕ) (q : Req) (place : ℕ) (ms : List Msg) (first : ring r side.to_linux ≡ Interrupt q place ∷ ms) where
  abbrev left : List (List Msg)
  left = with_ring r ms side.to_linux

  abbrev services : Reads Service
  services = at side.linux.services

  abbrev new : Service
  new = record (service_at services q.0) { interrupted = true }

  abbrev services' : Reads Service
  services' = with_at services q.0 (Some new)

  -- the process with the message taken, for services that move as far and are marked where the call is
  with_services : (m : Map Service) → ((x : ℕ) → (service_at (at m) x).progress ≡ (service_at services x).progress) → ((x : ℕ) → (service_at (at m) x).worker ≡ (service_at services x).worker) → ((x : ℕ) → is_some (at m x) ≡ is_some (services x))
      → Marked (at m) (at side.lwk.callers) left → OfProcess p (record side { linux = record side.linux { services = m }; to_linux = left }) node worker_count ring_of
  with_services m f g k marked = record {
    covered = taken-covered r (Interrupt q place) ms side.to_linux first (at side.lwk.table) (at side.linux.mirror) (at side.linux.pins) side.lwk.begun side.linux.cleared h.covered;
    rounded = taken-rounded r (Interrupt q place) ms side.to_linux first refl side.round (at side.linux.mirror) (at side.linux.pins) side.lwk.begun side.linux.cleared side.to_lwk h.rounded;
    owned = h.owned;
    served = served-services worker_count (at side.linux.workers) (at side.book.rows) services (at m) (at side.linux.pins) side.book.waiting (at side.lwk.noted) left side.to_lwk f g k
        (taken-served r (Interrupt q place) ms side.to_linux first (λ x. refl) (λ w. refl) worker_count (at side.linux.workers) (at side.book.rows) services (at side.linux.pins) side.book.waiting (at side.lwk.noted) side.to_lwk h.served);
    answered = h.answered;
    calls = h.calls;
    asked = EachRing-take (RequestIs (at side.book.rows)) r (Interrupt q place) ms side.to_linux first h.asked;
    interrupts = EachRing-take (InterruptIs side.book.next (at side.book.rows) (at node.threads)) r (Interrupt q place) ms side.to_linux first h.interrupts;
    directions = directions-take r (Interrupt q place) ms side.to_linux side.to_lwk first h.directions;
    messages = Messages-interrupt (at side.book.rows) (at node.threads) ring_of (at side.lwk.callers) q place r ms side.to_linux first h.messages;
    marked = marked;
  }

  marked-left : Marked services (at side.lwk.callers) left
  marked-left = Marked-take services (at side.lwk.callers) r (Interrupt q place) ms side.to_linux first h.marked

  -- the call of an Interrupt under way is marked
  is-marked : (t : ℕ) (c : Caller) → at side.lwk.callers t ≡ Some c → c.request ≡ q.0 → c.marked ≡ true
  is-marked t c e f =
      let one : if_same q.0 c.request ≡ 1 = grind (arith, nat_tests, f) in
      go c.marked (omega (arith, sum-take (interrupts_of c.request) r (Interrupt q place) ms side.to_linux first, h.marked.posted t c e, one))
    where
      go : (b : Bool) → 1 ≤ as_number b → b ≡ true
      go true u = refl
      go false u = absurd (omega (arith, u))

  marked-now : Marked services' (at side.lwk.callers) left
  marked-now = record { fetched = λ t c e u. go t c e (c.request == q.0) refl u; posted = marked-left.posted }
    where
      go : (t : ℕ) (c : Caller) → at side.lwk.callers t ≡ Some c → (b : Bool) → (c.request == q.0) ≡ b → (unwrap_or (if b then Some new else services c.request) no_service).interrupted ≡ true → c.marked ≡ true
      go t c e true f u = is-marked t c e (grind (arith, nat_tests, f))
      go t c e false f u = h.marked.fetched t c e u

  known-it : is_ended_or_replied (state_at (at side.book.rows) q.0) ≡ false → is_some (services q.0) ≡ true
  known-it e = sym (h.served.known q.0) ∙ fetched-state (state_at (at side.book.rows) q.0) e (fetched-first (at side.book.rows) (at node.threads) ring_of (at side.lwk.callers) q place r ms side.to_linux first h.messages)

  by_state : (b : Bool) → is_ended_or_replied (state_of side.book q.0) ≡ b → OfProcess p (record side { linux = marked_for_linux b side.linux q.0; to_linux = left }) node worker_count ring_of
  by_state true e = with_services side.linux.services (λ x. refl) (λ x. refl) (λ x. refl) marked-left
  by_state false e =
      let d = reads-put side.linux.services q.0 new in
      let k = known-it e in
      with_services (put side.linux.services q.0 new) (λ x. rw d (same-progress services q.0 x)) (λ x. rw d (same-worker services q.0 x)) (λ x. rw d (same-known services q.0 x k)) (rw d marked-now)
    where
      same-progress : (services : Reads Service) (q x : ℕ) → (service_at (with_at services q (Some (record (service_at services q) { interrupted = true }))) x).progress ≡ (service_at services x).progress
      same-progress services q x = grind (arith, nat_tests)

      same-worker : (services : Reads Service) (q x : ℕ) → (service_at (with_at services q (Some (record (service_at services q) { interrupted = true }))) x).worker ≡ (service_at services x).worker
      same-worker services q x = grind (arith, nat_tests)

      same-known : (services : Reads Service) (q x : ℕ) → is_some (services q) ≡ true → is_some (with_at services q (Some (record (service_at services q) { interrupted = true })) x) ≡ is_some (services x)
      same-known services q x k = grind (arith, nat_tests, k)

  pub keeps_fetch_interrupt : OfProcess p (record side { linux = (fetch_interrupt q.0 side.linux side.book side.round).linux; book = (fetch_interrupt q.0 side.linux side.book side.round).book; round = (fetch_interrupt q.0 side.linux side.book side.round).round; to_linux = left }) node worker_count ring_of
  unfolding fetch_interrupt
  keeps_fetch_interrupt = by_state (is_ended_or_replied (state_of side.book q.0)) refl

-- ---- it shows nothing
module _ (h : Here) (r : ℕ) (q : Req) (place : ℕ) (ms : List Msg) (first : ring r h.side.to_linux ≡ Interrupt q place ∷ ms) where
  same-status : (x : ℕ) (s : ReqState) (c : CallRequest) (e : Bool) (code : ℤ) → status_in s c (service_at (with_at (at h.side.linux.services) q.0 (Some (record (service_at (at h.side.linux.services) q.0) { interrupted = true }))) x) e code ≡ status_in s c (service_at (at h.side.linux.services) x) e code
  same-status x s c e code = go s
    where
      progress : (service_at (with_at (at h.side.linux.services) q.0 (Some (record (service_at (at h.side.linux.services) q.0) { interrupted = true }))) x).progress ≡ (service_at (at h.side.linux.services) x).progress
      progress = grind (arith, nat_tests)

      answer : (service_at (with_at (at h.side.linux.services) q.0 (Some (record (service_at (at h.side.linux.services) q.0) { interrupted = true }))) x).answer ≡ (service_at (at h.side.linux.services) x).answer
      answer = grind (arith, nat_tests)

      go : (s : ReqState) → status_in s c (service_at (with_at (at h.side.linux.services) q.0 (Some (record (service_at (at h.side.linux.services) q.0) { interrupted = true }))) x) e code ≡ status_in s c (service_at (at h.side.linux.services) x) e code
      go Posted = refl
      go Waiting = ap Active progress
      go Held = ap Active progress
      go Parked = ap Blocked progress
      go Faulted = ap (λ (y : Progress). status_in Faulted c (record no_service { progress = y }) e code) progress
      go Ended = ap Over answer
      go Replied = refl

  taken-status : (x : ℕ) → status_by (at h.side.book.rows) (at h.side.linux.services) (at h.side.linux.workers) (with_ring r ms h.side.to_linux) h.side.to_lwk x ≡ status_of h.side x
  taken-status x = ap (λ b. status_in (state_in (at h.side.book.rows x)) (call_in (at h.side.book.rows x)) (service_of h.side.linux.services x) b (reply_code x h.side.to_lwk)) (has_empty-take (at h.side.linux.workers) x r (Interrupt q place) ms h.side.to_linux refl first)

  statuses : (b : Bool) (x : ℕ) → status_by (at h.side.book.rows) (at (marked_for_linux b h.side.linux q.0).services) (at (marked_for_linux b h.side.linux q.0).workers) (with_ring r ms h.side.to_linux) h.side.to_lwk x ≡ status_of h.side x
  statuses true x = taken-status x
  statuses false x =
      let d = reads-put h.side.linux.services q.0 (record (service_of h.side.linux.services q.0) { interrupted = true }) in
      rw d (same-status x (state_in (at h.side.book.rows x)) (call_in (at h.side.book.rows x)) (has_empty (at h.side.linux.workers) x (with_ring r ms h.side.to_linux)) (reply_code x h.side.to_lwk)) ∙ taken-status x

  by_mark : (b : Bool) → shown_here (with_side h (record h.side { linux = marked_for_linux b h.side.linux q.0; to_linux = with_ring r ms h.side.to_linux })) ≡ shown_here h
  by_mark true = shown-silent h.frames h (record h.side { to_linux = with_ring r ms h.side.to_linux }) h.turns refl refl (statuses true)
  by_mark false = shown-silent h.frames h (record h.side { linux = marked_for_linux false h.side.linux q.0; to_linux = with_ring r ms h.side.to_linux }) h.turns refl refl (statuses false)

  pub image_fetch_interrupt : shown_here (with_fetched r ms (fetch_interrupt q.0 h.side.linux h.side.book h.side.round) h) ≡ shown_here h
  unfolding fetch_interrupt
  image_fetch_interrupt = by_mark (is_ended_or_replied (state_of h.side.book q.0))
