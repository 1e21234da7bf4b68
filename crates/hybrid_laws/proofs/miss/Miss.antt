-- Miss keeps what holds of the process, and shows nothing.
use Rattle.hybrid_model.specs.declared.events.Event.TheVariants as Events
use Rattle.hybrid_laws.proofs.maps.Reading.{Each-push, reads-stated, tally-push}
use Rattle.hybrid_laws.proofs.maps.Tests.{both}
use Rattle.hybrid_laws.proofs.requests.OneRequest.{with_messages}
use Rattle.hybrid_laws.proofs.requests.Ready.{ready-piece}
use Rattle.hybrid_laws.proofs.requests.Requests.{PinServes-keeps}
use Rattle.hybrid_laws.proofs.requests.Serving.{Serves, free-to-act}
use Rattle.hybrid_laws.proofs.requests.Showing.{no_empty}
use Rattle.hybrid_laws.proofs.requests.Silent.{code-other, shown-silent, status-one}
use Rattle.hybrid_laws.proofs.rings.Back.{Answered-back, Rounded-back, one-worker, other-request}
use Rattle.hybrid_laws.proofs.rings.InRings.{in_rings, rings-back}
use Rattle.hybrid_laws.proofs.states.Simulated.{simulated-none}
use Rattle.hybrid_laws.specs.Simulated.{Simulated}
use Rattle.hybrid_model.specs.Coherence.{FaultIsFor, OfProcess, Served, faults_of, service_at}
use Rattle.hybrid_model.specs.Events.{after_here, may_here}
use Rattle.hybrid_model.specs.Miss.{miss}
use Rattle.hybrid_model.specs.Miss.{may_miss}
use Rattle.hybrid_model.specs.Turns.{turn_given_up}
use Rattle.hybrid_model.specs.Workers.{is_free_to_act, kind_for, row_for}
use Rattle.hybrid_model.specs.Pairs.{Here}
use Rattle.hybrid_model.specs.Shown.{has_empty, serves_it, status_of}
use Rattle.hybrid_model.specs.Sides.{Noted, Service, service_of, with_state}
use Rattle.hybrid_model.specs.Tallies.{Reads, with_at}
use Rattle.ikc_ring.specs.declared.CallRequest.{CallRequest}
use Rattle.ikc_ring.specs.declared.Msg.TheVariants.{Fault}
use Rattle.ikc_ring.specs.declared.Msg.{Msg}
use Rattle.kernel_model.specs.Progress.{Progress, has_piece, is_ready, needed_access, next_kind, next_piece}
use Rattle.mck_word.specs.Maps.{at}
use Rattle.mck_word.specs.declared.Pid.{Pid}
use Rattle.page_pins.specs.declared.Pin.{Pin}
use Rattle.request_book.specs.declared.ReqState.TheVariants.{Faulted, Held}
use Rattle.request_book.specs.declared.ReqState.{ReqState}
use Rattle.std.proofs.Common.{ap, arith, refl, ◌∙◌}
use Rattle.std.proofs.lemmas.Bool.Decides.{nat_tests}
use Rattle.std.specs.Prelude.{List, None, Option, Some, [], false, is_none, nat_lt, true, ℕ, ◌&&◌, ◌++◌, ◌<◌, ◌∷◌, ◌≡◌}

pub record MayMiss (h : Here) (w : ℕ) : Type 0 where
  pub below : w < h.workers
  pub request : Serves h.side.linux h.side.book w Held
  pub no_pin : at h.side.linux.pins w ≡ None
  pub ready : is_ready (next_kind h.node.files (service_of h.side.linux.services request.number).progress) ≡ true

pub may-miss : (h : Here) (q : Pid) (w : ℕ) → may_here (Events.Miss q w) h ≡ true → MayMiss h w
may-miss h q w e =
    let a = both (nat_lt w h.workers) (may_miss h.side.linux h.side.book h.node.files w) e in
    let d = both (is_free_to_act h.side.linux h.side.book w && is_ready (kind_for h.side.linux h.node.files w)) (is_none (row_for h.side.linux w)) a.1 in
    let b = both (is_free_to_act h.side.linux h.side.book w) (is_ready (kind_for h.side.linux h.node.files w)) d.0 in
    let c = free-to-act h.side.linux h.side.book w b.0 in
    let s = c.0.serving in
    record { below = grind (arith, nat_tests, a.0); request = c.0; no_pin = c.1; ready = rw s at b.1 }

-- ---- requests
module _ (worker_count : ℕ) (workers : Reads ℕ) (rows : Reads (ReqState × CallRequest)) (services : Reads Service) (pins : Reads Pin) (waiting : List ℕ) (noted : Reads Noted) (rings : List (List Msg)) (bs : List Msg) (c : Served worker_count workers rows services pins waiting noted rings bs) (w q : ℕ) (call : CallRequest) (serving : workers w ≡ Some q) (is : rows q ≡ Some (Held, call)) (no_pin : pins w ≡ None) (left : has_piece (service_at services q).progress ≡ true) where
  abbrev rows' : Reads (ReqState × CallRequest)
  rows' = with_at rows q (Some (Faulted, call))

  abbrev fault : Msg
  fault = Fault w (next_piece (service_at services q).progress).page (needed_access (service_at services q).progress)

  pub served_miss : Served worker_count workers rows' services pins waiting noted rings (bs ++ fault ∷ [])
  served_miss = record {
    worker_below = c.worker_below;
    requests = λ p. grind (arith, nat_tests, is, c.requests p);
    waits = λ p. grind (arith, nat_tests, is, c.waits p);
    known = λ p. grind (arith, nat_tests, is, c.known p);
    workers_hold = λ v p e. grind (arith, nat_tests, is, e, c.workers_hold v p);
    held_by = λ p v e. grind (arith, nat_tests, is, e, c.held_by p v);
    faults = λ v. let t = tally-push (faults_of v) bs fault in grind (arith, nat_tests, t, is, serving, c.faults v, c.workers_hold v q, c.workers_hold w q);
    fault_for = Each-push (FaultIsFor workers services) bs fault c.fault_for (record { number = q; serves = serving; left = left; page_is = refl; access_is = refl });
    noted_for = c.noted_for;
    answer_for = c.answer_for;
    pins_serve = λ v x e.
        let k = c.pins_serve v x e in
        let n = other-request worker_count workers rows services pins waiting noted rings bs c w q serving v k.number k.serves (λ (g : v ≡ w). grind (arith, e, g, no_pin)) in
        PinServes-keeps workers workers rows rows' services services v x k k.serves (rw n k.not_faulted) (λ u. (rw n refl, refl));
  }

module _ (p : ℕ) (h : Here) (ring_number : ℕ → ℕ) (k : OfProcess p h.side h.node h.workers ring_number) (q : Pid) (w : ℕ) (e : may_here (Events.Miss q w) h ≡ true) where
  abbrev m : MayMiss h w
  m = may-miss h q w e

  abbrev n : ℕ
  n = m.request.number

  abbrev progress : Progress
  progress = (service_of h.side.linux.services n).progress

  abbrev fault_sent : Msg
  fault_sent = Fault w (next_piece progress).page (needed_access progress)

  kept : OfProcess p (record h.side { book = with_state h.side.book n Faulted; to_lwk = h.side.to_lwk ++ fault_sent ∷ [] }) h.node h.workers ring_number
  kept = with_messages p h.side h.node h.workers ring_number k n Held Faulted m.request.call m.request.is refl refl refl refl h.side.linux h.side.book.waiting h.side.to_linux (h.side.to_lwk ++ fault_sent ∷ [])
      k.covered
      (Rounded-back h.side.round (at h.side.linux.mirror) (at h.side.linux.pins) h.side.lwk.begun h.side.linux.cleared h.side.to_linux h.side.to_lwk fault_sent refl k.rounded)
      (served_miss h.workers (at h.side.linux.workers) (at h.side.book.rows) (at h.side.linux.services) (at h.side.linux.pins) h.side.book.waiting (at h.side.lwk.noted) h.side.to_linux h.side.to_lwk k.served w n m.request.call m.request.serving m.request.is m.no_pin (ready-piece h.node.files progress m.ready))
      (Answered-back (at h.side.book.rows) (at h.side.lwk.callers) h.side.book.next h.side.to_lwk fault_sent (λ x. refl) tt k.answered)
      (rings-back (at h.side.book.rows) h.side.book.next (at h.node.threads) ring_number (at h.side.lwk.callers) (at h.side.linux.services) h.side.to_linux h.side.to_lwk (in_rings k) fault_sent refl)

  pub keeps_miss : OfProcess p (after_here (Events.Miss q w) p h).side (after_here (Events.Miss q w) p h).node h.workers ring_number
  unfolding miss
  keeps_miss = let s = m.request.serving in rw s kept

  -- no empty answer is there for the worker's request
  none-empty : has_empty (at h.side.linux.workers) n h.side.to_linux ≡ false
  none-empty = no_empty (at h.side.linux.workers) n w alone h.side.to_linux (let is = m.request.is in let s = m.request.serving in grind (arith, nat_tests, k.served.faults w, s, is))
    where
      alone : (v : ℕ) → serves_it n (at h.side.linux.workers v) ≡ true → v ≡ w
      alone v u = go (at h.side.linux.workers v) refl u
        where
          go : (o : Option ℕ) → at h.side.linux.workers v ≡ o → serves_it n o ≡ true → v ≡ w
          go None f u = absurd (grind (arith, u))
          go (Some y) f u = let g : y ≡ n = grind (arith, nat_tests, u) in
              one-worker h.workers (at h.side.linux.workers) (at h.side.book.rows) (at h.side.linux.services) (at h.side.linux.pins) h.side.book.waiting (at h.side.lwk.noted) h.side.to_linux h.side.to_lwk k.served v w n (f ∙ ap Some g) m.request.serving

  statuses : (x : ℕ) → status_of (record h.side { book = with_state h.side.book n Faulted; to_lwk = h.side.to_lwk ++ fault_sent ∷ [] }) x ≡ status_of h.side x
  statuses x =
      let b = reads-stated Faulted n h.side.book.rows m.request.call Held m.request.is in
      let is = m.request.is in
      rw b (status-one (at h.side.book.rows) (at h.side.linux.services) (at h.side.linux.services) (at h.side.linux.workers) (at h.side.linux.workers) h.side.to_linux h.side.to_linux h.side.to_lwk (h.side.to_lwk ++ fault_sent ∷ []) n (Some (Faulted, m.request.call))
      (rw (none-empty, is) refl) (λ y f. refl) (λ y f. refl) (λ y f. code-other y h.side.to_lwk fault_sent (λ rest. refl)) x)

  pub simulates_miss : Simulated (Events.Miss q w) p h
  unfolding miss
  simulates_miss = simulated-none (Events.Miss q w) p h refl
      (let s = m.request.serving in rw s (shown-silent h.frames h (record h.side { book = with_state h.side.book n Faulted; to_lwk = h.side.to_lwk ++ fault_sent ∷ [] }) (turn_given_up p h.side.linux h.node.files w h.turns) refl refl statuses))
