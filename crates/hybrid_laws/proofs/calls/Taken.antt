-- What Fetch leaves of a process's calls: a Request is under way as its call asked, and an Interrupt that is taken is told to the request.
use Rattle.hybrid_model.specs.declared.events.Event.TheVariants as Events
use Rattle.hybrid_laws.proofs.calls.Go.{CallsGo, callers-stay, posts_none, restated, service-put, stays, stays-same, told-by}
use Rattle.hybrid_laws.proofs.fetch.Answer.{answered-for}
use Rattle.hybrid_laws.proofs.maps.Reading.{first-of, sum-take}
use Rattle.hybrid_laws.specs.Lasting.{IsTold}
use Rattle.hybrid_model.specs.Coherence.{OfProcess, RequestIs, interrupts_of, is_fetched}
use Rattle.hybrid_model.specs.Events.{after_here}
use Rattle.hybrid_model.specs.Fetch.{fetch_from, with_fetched}
use Rattle.hybrid_model.specs.Fetch.{Fetched, fetch_clear, fetch_empty, fetch_interrupt, fetch_request, fetch_row, fetched_as, marked_for_linux, new_service}
use Rattle.hybrid_model.specs.Workers.{is_ended_or_replied}
use Rattle.hybrid_model.specs.Pairs.{Here}
use Rattle.hybrid_model.specs.Rings.{ring, with_ring}
use Rattle.hybrid_model.specs.Sides.{Row, Service, Side, no_service, served, serves, service_of, state_in, state_of}
use Rattle.hybrid_model.specs.Tallies.{as_number, if_same, sum_rings}
use Rattle.ikc_ring.specs.declared.CallRequest.{CallRequest}
use Rattle.ikc_ring.specs.declared.Msg.TheVariants.{Ack, Answer, Clear, Fault, Interrupt, Reply, Request}
use Rattle.ikc_ring.specs.declared.Msg.{Msg}
use Rattle.kernel_model.specs.Progress.{fault_answer}
use Rattle.mck_word.specs.MapLaws.{at-put}
use Rattle.mck_word.specs.Maps.{at}
use Rattle.mck_word.specs.declared.PageRange.{PageRange}
use Rattle.mck_word.specs.declared.Pid.{Pid}
use Rattle.mck_word.specs.declared.Req.{Req}
use Rattle.request_book.specs.declared.ReqState.TheVariants.{Ended, Faulted, Held, Posted, Waiting}
use Rattle.std.proofs.Common.{ap, arith, inl, refl, sym, ◌∙◌}
use Rattle.std.proofs.lemmas.Bool.Decides.{nat_tests}
use Rattle.std.specs.Prelude.{Bool, List, None, Option, Some, [], cond, false, is_some, true, unwrap_or, ℕ, ◌+◌, ◌==◌, ◌∷◌, ◌≡◌, ◌≤◌}

module _ (p : ℕ) (h : Here) (worker_count : ℕ) (ring_number : ℕ → ℕ) (k : OfProcess p h.side h.node worker_count ring_number) (r : ℕ) (ms : List Msg) where
  -- the process with the message taken, and another proxy's side, book and round
  abbrev pub with_taken : Fetched → Side
  with_taken f = (with_fetched r ms f h).side

  module _ (m : Msg) (first : ring r h.side.to_linux ≡ m ∷ ms) where
    rings-less : (x : ℕ) → sum_rings (interrupts_of x) h.side.to_linux ≡ interrupts_of x m + sum_rings (interrupts_of x) (with_ring r ms h.side.to_linux)
    rings-less x = sum-take (interrupts_of x) r m ms h.side.to_linux first

    no-interrupt : ((x : ℕ) → interrupts_of x m ≡ 0) → (x : ℕ) → sum_rings (interrupts_of x) h.side.to_linux ≤ sum_rings (interrupts_of x) (with_ring r ms h.side.to_linux)
    no-interrupt none x = let a = rings-less x in let b = none x in omega (arith, a, b)

  -- the service of a Posted request is not there yet
  unserved : (q : ℕ) (c : CallRequest) → at h.side.book.rows q ≡ Some (Posted, c) → false ≡ (service_of h.side.linux.services q).interrupted
  unserved q c e = go (at h.side.linux.services q) refl (sym (k.served.known q) ∙ ap (λ o. is_fetched (state_in o)) e)
    where
      go : (o : Option Service) → at h.side.linux.services q ≡ o → is_some (at h.side.linux.services q) ≡ false → false ≡ (service_of h.side.linux.services q).interrupted
      go None f u = sym (ap (λ (o : Option Service). (unwrap_or o no_service).interrupted) f)
      go (Some y) f u = absurd (let a = sym (ap is_some f) ∙ u in grind (arith, a))

  take-request : (c : CallRequest) → ring r h.side.to_linux ≡ Request c ∷ ms → CallsGo posts_none h.side (with_taken (fetch_request c h.side.linux h.side.book h.side.round))
  unfolding fetch_request
  take-request c first =
      let is = first-of (RequestIs (at h.side.book.rows)) r (Request c) ms h.side.to_linux first k.asked in
      restated h.side c.q.0 Posted Waiting c is (inl refl) (with_taken (fetch_request c h.side.linux h.side.book h.side.round)) refl refl refl (no-interrupt (Request c) first (λ x. refl))
      (service-put h.side.linux.services c.q.0 (new_service c) (unserved c.q.0 c is))

  take-clear : (range : PageRange) → ring r h.side.to_linux ≡ Clear range ∷ ms → CallsGo posts_none h.side (with_taken (fetch_clear range h.side.linux h.side.book h.side.round))
  unfolding fetch_clear
  take-clear range first = stays h.side (with_taken (fetch_clear range h.side.linux h.side.book h.side.round)) refl refl refl (no-interrupt (Clear range) first (λ x. refl)) (λ x. refl)

  module _ (w page number : ℕ) (o : Option Row) (first : ring r h.side.to_linux ≡ Answer w page number o ∷ ms) where
    served-is : (call : CallRequest) × (at h.side.book.rows (serves h.side.linux w) ≡ Some (Faulted, call))
    served-is =
        let a = answered-for worker_count (at h.side.linux.workers) (at h.side.book.rows) (at h.side.linux.services) (at h.side.linux.pins) h.side.book.waiting (at h.side.lwk.noted) h.side.to_linux h.side.to_lwk k.served r w page number o ms first in
        (a.1, (ap (λ (x : Option ℕ). at h.side.book.rows (unwrap_or x 0)) a.2 ∙ a.3))

    take-row : (row : Row) → CallsGo posts_none h.side (with_taken (fetch_row w page number row h.side.linux h.side.book h.side.round))
    unfolding fetch_row
    take-row row = restated h.side (serves h.side.linux w) Faulted Held served-is.0 served-is.1 (inl refl) (with_taken (fetch_row w page number row h.side.linux h.side.book h.side.round)) refl refl refl
        (no-interrupt (Answer w page number o) first (λ x. refl)) (λ x. refl)

    take-nothing : CallsGo posts_none h.side (with_taken (fetch_empty w h.side.linux h.side.book h.side.round))
    unfolding fetch_empty
    take-nothing = restated h.side (serves h.side.linux w) Faulted Ended served-is.0 served-is.1 (inl refl) (with_taken (fetch_empty w h.side.linux h.side.book h.side.round)) refl refl refl
        (no-interrupt (Answer w page number o) first (λ x. refl)) (service-put h.side.linux.services (serves h.side.linux w) (record (served h.side.linux w) { answer = fault_answer (served h.side.linux w).progress }) refl)

  -- an Interrupt
  module _ (n : Req) (place : ℕ) (first : ring r h.side.to_linux ≡ Interrupt n place ∷ ms) where
    abbrev left : Bool → Side
    left b = with_taken (fetched_as (marked_for_linux b h.side.linux n.0) h.side.book h.side.round)

    other-sum : (x : ℕ) → (n.0 == x) ≡ false → sum_rings (interrupts_of x) h.side.to_linux ≤ sum_rings (interrupts_of x) (with_ring r ms h.side.to_linux)
    other-sum x e = let a = rings-less (Interrupt n place) first x in let b : if_same n.0 x ≡ 0 = rw e refl in omega (arith, a, b)

    told-true : is_ended_or_replied (state_of h.side.book n.0) ≡ true → (x : ℕ) → IsTold h.side x → IsTold (left true) x
    told-true ended x i e = go (n.0 == x) refl
      where
        go : (b : Bool) → (n.0 == x) ≡ b → 1 ≤ sum_rings (interrupts_of x) (left true).to_linux + as_number (service_of (left true).linux.services x).interrupted
        go true f = absurd (let y : n.0 ≡ x = grind (arith, nat_tests, f) in let a = sym (ap (λ (j : ℕ). is_ended_or_replied (state_of h.side.book j)) y) ∙ ended in grind (arith, a, e))
        go false f = told-by h.side (left true) x (λ u. u) (other-sum x f) refl i e

    told-false : (x : ℕ) → IsTold h.side x → IsTold (left false) x
    told-false x i e = go (x == n.0) refl
      where
        services-at : (b : Bool) → (x == n.0) ≡ b → (service_of (left false).linux.services x).interrupted ≡ (unwrap_or (cond b (Some (record (service_of h.side.linux.services n.0) { interrupted = true })) (at h.side.linux.services x)) no_service).interrupted
        services-at b f = ap (λ (o : Option Service). (unwrap_or o no_service).interrupted) (at-put h.side.linux.services n.0 (record (service_of h.side.linux.services n.0) { interrupted = true }) x ∙ ap (λ y. cond y (Some (record (service_of h.side.linux.services n.0) { interrupted = true })) (at h.side.linux.services x)) f)

        go : (b : Bool) → (x == n.0) ≡ b → 1 ≤ sum_rings (interrupts_of x) (left false).to_linux + as_number (service_of (left false).linux.services x).interrupted
        go true f = let a = ap as_number (services-at true f) in omega (arith, a)
        go false f = told-by h.side (left false) x (λ u. u) (other-sum x (grind (arith, nat_tests, f))) (services-at false f) i e

    take-interrupt : CallsGo posts_none h.side (with_taken (fetch_interrupt n.0 h.side.linux h.side.book h.side.round))
    unfolding fetch_interrupt
    take-interrupt = go (is_ended_or_replied (state_of h.side.book n.0)) refl
      where
        go : (b : Bool) → is_ended_or_replied (state_of h.side.book n.0) ≡ b → CallsGo posts_none h.side (left b)
        go true e = record { told = callers-stay h.side (left true) refl (told-true e); gone_more = λ q. omega arith }
        go false e = record { told = callers-stay h.side (left false) refl told-false; gone_more = λ q. omega arith }

pub go-fetch : (p : ℕ) (h : Here) (worker_count : ℕ) (ring_number : ℕ → ℕ) → OfProcess p h.side h.node worker_count ring_number → (q : Pid) (r : ℕ) → CallsGo posts_none h.side (after_here (Events.Fetch q r) p h).side
go-fetch p h worker_count ring_number k q r = go (ring r h.side.to_linux) refl
  where
    go : (ms : List Msg) → ring r h.side.to_linux ≡ ms → CallsGo posts_none h.side (fetch_from r ms h).side
    go [] e = stays-same h.side
    go (Request c ∷ ms) e = take-request p h worker_count ring_number k r ms c e
    go (Clear range ∷ ms) e = take-clear p h worker_count ring_number k r ms range e
    go (Answer w page number None ∷ ms) e = take-nothing p h worker_count ring_number k r ms w page number None e
    go (Answer w page number (Some row) ∷ ms) e = take-row p h worker_count ring_number k r ms w page number (Some row) e row
    go (Interrupt n place ∷ ms) e = take-interrupt p h worker_count ring_number k r ms n place e
    go (Reply n code ∷ ms) e = stays h.side (with_taken p h worker_count ring_number k r ms (fetched_as h.side.linux h.side.book h.side.round)) refl refl refl (no-interrupt p h worker_count ring_number k r ms (Reply n code) e (λ x. refl)) (λ x. refl)
    go (Ack ∷ ms) e = stays h.side (with_taken p h worker_count ring_number k r ms (fetched_as h.side.linux h.side.book h.side.round)) refl refl refl (no-interrupt p h worker_count ring_number k r ms Ack e (λ x. refl)) (λ x. refl)
    go (Fault w page a ∷ ms) e = stays h.side (with_taken p h worker_count ring_number k r ms (fetched_as h.side.linux h.side.book h.side.round)) refl refl refl (no-interrupt p h worker_count ring_number k r ms (Fault w page a) e (λ x. refl)) (λ x. refl)
