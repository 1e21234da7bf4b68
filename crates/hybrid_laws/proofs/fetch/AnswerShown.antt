-- Fetch of an answer shows nothing.
use Rattle.hybrid_laws.proofs.fetch.AnswerKeeps.{found}
use Rattle.hybrid_laws.proofs.maps.Reading.{reads-put, reads-stated, sum-take}
use Rattle.hybrid_laws.proofs.requests.Showing.{empty-there, has_empty-take, no_empty, shown-same}
use Rattle.hybrid_model.specs.Coherence.{OfProcess, Served, answers_to, service_at}
use Rattle.hybrid_model.specs.Fetch.{fetch_row, fetch_empty, installed}
use Rattle.hybrid_model.specs.Rings.{ring, with_ring}
use Rattle.hybrid_model.specs.Shown.{has_empty, serves_it, status_by, status_in, shown_own, reply_code}
use Rattle.hybrid_model.specs.Sides.{Side, Row, Service, no_service, state_in, call_in, service_of, with_state, Noted}
use Rattle.hybrid_model.specs.Tallies.{Reads, with_at, sum_rings}
use Rattle.ikc_ring.specs.declared.CallRequest.{CallRequest}
use Rattle.ikc_ring.specs.declared.Msg.TheVariants.{Answer}
use Rattle.ikc_ring.specs.declared.Msg.{Msg}
use Rattle.kernel_model.specs.Nodes.{Node}
use Rattle.kernel_model.specs.Progress.{fault_answer}
use Rattle.mck_word.specs.Maps.{Map, at, put}
use Rattle.page_pins.specs.declared.Pin.{Pin}
use Rattle.request_book.specs.declared.ReqState.TheVariants.{Held, Faulted, Ended}
use Rattle.request_book.specs.declared.ReqState.{ReqState}
use Rattle.std.proofs.Common.{ap, arith, refl, sym, ◌∙◌}
use Rattle.std.proofs.lemmas.Bool.Decides.{nat_tests}
use Rattle.std.specs.Prelude.{Bool, List, None, Option, Some, false, if◌then◌else◌, nat_lt, true, unwrap_or, ℕ, ◌==◌, ◌∷◌, ◌≡◌}

module _ (worker_count : ℕ) (workers : Reads ℕ) (rows : Reads (ReqState × CallRequest)) (services : Reads Service) (pins : Reads Pin) (waiting : List ℕ) (noted : Reads Noted) (rings : List (List Msg)) (bs : List Msg) (c : Served worker_count workers rows services pins waiting noted rings bs) (r w i n : ℕ) (ms : List Msg) (q : ℕ) (call : CallRequest) (serving : workers w ≡ Some q) (is : rows q ≡ Some (Faulted, call)) where
  alone : (v : ℕ) → serves_it q (workers v) ≡ true → v ≡ w
  alone v e = go (workers v) refl e
    where
      go : (x : Option ℕ) → workers v ≡ x → serves_it q x ≡ true → v ≡ w
      go None k u = absurd (grind (arith, u))
      go (Some y) k u =
          let g : y ≡ q = grind (arith, nat_tests, u) in
          let a = c.workers_hold v y k in
          let b = c.workers_hold w q serving in
          grind (arith, nat_tests, g, a, b)

  module _ (o : Option Row) (first : ring r rings ≡ Answer w i n o ∷ ms) where
    abbrev rings' : List (List Msg)
    rings' = with_ring r ms rings

    none-left : sum_rings (answers_to w) rings' ≡ 0
    none-left = let t = sum-take (answers_to w) r (Answer w i n o) ms rings first in grind (arith, nat_tests, t, c.faults w, serving, is)

  -- with a row
  module _ (row : Row) (first : ring r rings ≡ Answer w i n (Some row) ∷ ms) where
    pub status-row : (x : ℕ) → status_by (with_at rows q (Some (Held, call))) services workers (with_ring r ms rings) bs x ≡ status_by rows services workers rings bs x
    status-row x = go (x == q) refl
      where
        before : has_empty workers q rings ≡ false
        before = sym (has_empty-take workers q r (Answer w i n (Some row)) ms rings refl first) ∙ no_empty workers q w alone (with_ring r ms rings) (none-left (Some row) first)

        go : (b : Bool) → (x == q) ≡ b
            → status_in (state_in (if b then Some (Held, call) else rows x)) (call_in (if b then Some (Held, call) else rows x)) (unwrap_or (services x) no_service) (has_empty workers x (with_ring r ms rings)) (reply_code x bs)
            ≡ status_by rows services workers rings bs x
        go true e = let g : x ≡ q = grind (arith, nat_tests, e) in rw (g, is, before) refl
        go false e = ap (λ b. status_in (state_in (rows x)) (call_in (rows x)) (unwrap_or (services x) no_service) b (reply_code x bs)) (has_empty-take workers x r (Answer w i n (Some row)) ms rings refl first)

  -- an empty one
  module _ (first : ring r rings ≡ Answer w i n None ∷ ms) where
    abbrev services' : Reads Service
    services' = with_at services q (Some (record (service_at services q) { answer = fault_answer (service_at services q).progress }))

    pub status-empty : (x : ℕ) → status_by (with_at rows q (Some (Ended, call))) services' workers (with_ring r ms rings) bs x ≡ status_by rows services workers rings bs x
    status-empty x = go (x == q) refl
      where
        is_for : serves_it q (workers w) ≡ true
        is_for = grind (arith, nat_tests, serving)

        before : has_empty workers q rings ≡ true
        before = empty-there workers q r (Answer w i n None) ms rings is_for first

        is_not : (x == q) ≡ false → serves_it x (workers w) ≡ false
        is_not e = grind (arith, nat_tests, serving, e)

        go : (b : Bool) → (x == q) ≡ b
            → status_in (state_in (if b then Some (Ended, call) else rows x)) (call_in (if b then Some (Ended, call) else rows x)) (unwrap_or (if b then Some (record (service_at services q) { answer = fault_answer (service_at services q).progress }) else services x) no_service) (has_empty workers x (with_ring r ms rings)) (reply_code x bs)
            ≡ status_by rows services workers rings bs x
        go true e = let g : x ≡ q = grind (arith, nat_tests, e) in rw (g, is, before) refl
        go false e = ap (λ b. status_in (state_in (rows x)) (call_in (rows x)) (unwrap_or (services x) no_service) b (reply_code x bs)) (has_empty-take workers x r (Answer w i n None) ms rings (is_not e) first)

module _ (p : ℕ) (side : Side) (node : Node) (worker_count : ℕ) (ring_of : ℕ → ℕ) (h : OfProcess p side node worker_count ring_of) (r w i n : ℕ) (ms : List Msg) where
  pub image_fetch_row : (frames : Map (List ℕ)) (row : Row) → ring r side.to_linux ≡ Answer w i n (Some row) ∷ ms
      → shown_own frames (record side { linux = (fetch_row w i n row side.linux side.book side.round).linux; book = (fetch_row w i n row side.linux side.book side.round).book; round = side.round; to_linux = with_ring r ms side.to_linux }) ≡ shown_own frames side
  unfolding fetch_row
  image_fetch_row frames row first =
      let f = found p side node worker_count ring_of h r w i n (Some row) ms first in
      let b = reads-stated Held f.0 side.book.rows f.1 Faulted f.3 in
      let side' : Side = record side { linux = record side.linux { mirror = installed (nat_lt n side.linux.cleared) side.linux.mirror i row }; book = with_state side.book f.0 Held; to_linux = with_ring r ms side.to_linux } in
      rw f.2 (shown-same frames side side' refl refl (λ t c u. rw b (status-row worker_count (at side.linux.workers) (at side.book.rows) (at side.linux.services) (at side.linux.pins) side.book.waiting (at side.lwk.noted) side.to_linux side.to_lwk h.served r w i n ms f.0 f.1 f.2 f.3 row first c.request)))

  pub image_fetch_empty : (frames : Map (List ℕ)) → ring r side.to_linux ≡ Answer w i n None ∷ ms
      → shown_own frames (record side { linux = (fetch_empty w side.linux side.book side.round).linux; book = (fetch_empty w side.linux side.book side.round).book; round = side.round; to_linux = with_ring r ms side.to_linux }) ≡ shown_own frames side
  unfolding fetch_empty
  image_fetch_empty frames first =
      let f = found p side node worker_count ring_of h r w i n None ms first in
      let k = service_of side.linux.services f.0 in
      let b = reads-stated Ended f.0 side.book.rows f.1 Faulted f.3 in
      let d = reads-put side.linux.services f.0 (record k { answer = fault_answer k.progress }) in
      let side' : Side = record side { linux = record side.linux { services = put side.linux.services f.0 (record k { answer = fault_answer k.progress }) }; book = with_state side.book f.0 Ended; to_linux = with_ring r ms side.to_linux } in
      rw f.2 (shown-same frames side side' refl refl (λ t c u. rw (b, d) (status-empty worker_count (at side.linux.workers) (at side.book.rows) (at side.linux.services) (at side.linux.pins) side.book.waiting (at side.lwk.noted) side.to_linux side.to_lwk h.served r w i n ms f.0 f.1 f.2 f.3 first c.request)))
