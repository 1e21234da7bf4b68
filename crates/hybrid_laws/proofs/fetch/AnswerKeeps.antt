-- Fetch of an answer: the whole process, and what is shown.
use Rattle.hybrid_laws.proofs.fetch.Answer.{answered-for, covered-install, covered-take, not-taken, rounded-install, rounded-take, served_answer}
use Rattle.hybrid_laws.proofs.maps.Reading.{first-of, reads-put}
use Rattle.hybrid_laws.proofs.requests.OneRequest.{with_messages}
use Rattle.hybrid_laws.proofs.rings.InRings.{InRings, in_rings, rings-services, rings-take}
use Rattle.hybrid_model.specs.Coherence.{OfProcess, Covered, Rounded, AnswerCovered, IsOutside, NotAhead, is_fetched, is_posted, state_at, service_at}
use Rattle.hybrid_model.specs.Fetch.{fetch_row, fetch_empty, installed}
use Rattle.hybrid_model.specs.Rings.{ring, with_ring}
use Rattle.hybrid_model.specs.Sides.{Side, Row, Service, service_of, with_state, LinuxSide}
use Rattle.hybrid_model.specs.Tallies.{Reads, with_at}
use Rattle.ikc_ring.specs.declared.CallRequest.{CallRequest}
use Rattle.ikc_ring.specs.declared.Msg.TheVariants.{Answer}
use Rattle.ikc_ring.specs.declared.Msg.{Msg}
use Rattle.kernel_model.specs.Nodes.{Node}
use Rattle.kernel_model.specs.Progress.{fault_answer}
use Rattle.mck_word.specs.Maps.{Map, at, put}
use Rattle.request_book.specs.declared.ReqState.TheVariants.{Held, Faulted, Ended}
use Rattle.request_book.specs.declared.ReqState.{ReqState}
use Rattle.std.proofs.Common.{arith, refl}
use Rattle.std.proofs.lemmas.Bool.Decides.{nat_tests}
use Rattle.std.specs.Prelude.{Bool, List, Option, Some, false, is_some, nat_lt, true, ℕ, ℤ, ◌∷◌, ◌≡◌, ◌≤◌}

not-posted : (rows : Reads (ReqState × CallRequest)) (q : ℕ) (now : ReqState) (c : CallRequest) → is_posted now ≡ 0 → rows q ≡ Some (Faulted, c) → (x : ℕ) → is_posted (state_at (with_at rows q (Some (now, c))) x) ≡ is_posted (state_at rows x)
not-posted rows q now c z e x = grind (arith, nat_tests, e, z)

module _ (p : ℕ) (side : Side) (node : Node) (worker_count : ℕ) (ring_of : ℕ → ℕ) (h : OfProcess p side node worker_count ring_of) (r w i n : ℕ) (o : Option Row) (ms : List Msg) (first : ring r side.to_linux ≡ Answer w i n o ∷ ms) where
  abbrev rows : Reads (ReqState × CallRequest)
  rows = at side.book.rows

  abbrev services : Reads Service
  services = at side.linux.services

  pub found : (q : ℕ) × (call : CallRequest) × (at side.linux.workers w ≡ Some q) × (rows q ≡ Some (Faulted, call))
  found = answered-for worker_count (at side.linux.workers) rows services (at side.linux.pins) side.book.waiting (at side.lwk.noted) side.to_linux side.to_lwk h.served r w i n o ms first

  abbrev left : List (List Msg)
  left = with_ring r ms side.to_linux

  rings-left : InRings rows side.book.next (at node.threads) ring_of (at side.lwk.callers) services left side.to_lwk
  rings-left = rings-take rows side.book.next (at node.threads) ring_of (at side.lwk.callers) services side.to_linux side.to_lwk (in_rings h) r (Answer w i n o) ms first (λ threads k. refl) (λ k. tt)

  -- the process with a new mirror, where the request goes on
  with_mirror : (m : Map Row) → Covered (at side.lwk.table) (at m) (at side.linux.pins) side.lwk.begun side.linux.cleared left → Rounded side.round (at m) (at side.linux.pins) side.lwk.begun side.linux.cleared left side.to_lwk
      → OfProcess p (record side { linux = record side.linux { mirror = m }; book = with_state side.book found.0 Held; to_linux = left }) node worker_count ring_of
  with_mirror m c d =
      with_messages p side node worker_count ring_of h found.0 Faulted Held found.1 found.3 refl refl refl refl (record side.linux { mirror = m }) side.book.waiting left side.to_lwk c d
      (served_answer worker_count (at side.linux.workers) rows services (at side.linux.pins) side.book.waiting (at side.lwk.noted) side.to_linux side.to_lwk h.served r w i n o ms first found.0 found.1 found.2 found.3 Held services refl refl refl refl (λ v. refl) (λ x. refl) (λ x. refl) (λ x. refl))
      h.answered rings-left

  taken-covered : Covered (at side.lwk.table) (at side.linux.mirror) (at side.linux.pins) side.lwk.begun side.linux.cleared left
  taken-covered = covered-take side.round (at side.linux.mirror) (at side.lwk.table) (at side.linux.pins) side.lwk.begun side.linux.cleared side.to_linux side.to_lwk r w i n o ms first h.covered

  taken-rounded : Rounded side.round (at side.linux.mirror) (at side.linux.pins) side.lwk.begun side.linux.cleared left side.to_lwk
  taken-rounded = rounded-take side.round (at side.linux.mirror) (at side.lwk.table) (at side.linux.pins) side.lwk.begun side.linux.cleared side.to_linux side.to_lwk r w i n o ms first h.rounded

  -- the process where the request ends
  pub keeps_fetch_empty : OfProcess p (record side { linux = (fetch_empty w side.linux side.book side.round).linux; book = (fetch_empty w side.linux side.book side.round).book; round = (fetch_empty w side.linux side.book side.round).round; to_linux = left }) node worker_count ring_of
  unfolding fetch_empty
  keeps_fetch_empty =
      let q = found.0 in
      let k = service_of side.linux.services q in
      let new = fault_answer k.progress in
      let d = reads-put side.linux.services q (record k { answer = new }) in
      let services' = with_at services q (Some (record k { answer = new })) in
      let linux : LinuxSide = record side.linux { services = put side.linux.services q (record k { answer = new }) } in
      rw found.2 (with_messages p side node worker_count ring_of h q Faulted Ended found.1 found.3 refl refl refl refl linux side.book.waiting left side.to_lwk taken-covered taken-rounded
      (rw d (served_answer worker_count (at side.linux.workers) rows services (at side.linux.pins) side.book.waiting (at side.lwk.noted) side.to_linux side.to_lwk h.served r w i n o ms first q found.1 found.2 found.3 Ended services' refl refl refl refl (λ v. refl) (same-progress services q new) (same-worker services q new) (same-known services q new (h.served.known q) found.3)))
      h.answered
      (rw d (rings-services rows side.book.next (at node.threads) ring_of (at side.lwk.callers) services left side.to_lwk rings-left services' (same-interrupted services q new))))
    where
      same-progress : (services : Reads Service) (q : ℕ) (a : ℤ) (x : ℕ) → (service_at (with_at services q (Some (record (service_at services q) { answer = a }))) x).progress ≡ (service_at services x).progress
      same-progress services q a x = grind (arith, nat_tests)

      same-worker : (services : Reads Service) (q : ℕ) (a : ℤ) (x : ℕ) → (service_at (with_at services q (Some (record (service_at services q) { answer = a }))) x).worker ≡ (service_at services x).worker
      same-worker services q a x = grind (arith, nat_tests)

      same-interrupted : (services : Reads Service) (q : ℕ) (a : ℤ) (x : ℕ) → (service_at (with_at services q (Some (record (service_at services q) { answer = a }))) x).interrupted ≡ (service_at services x).interrupted
      same-interrupted services q a x = grind (arith, nat_tests)

      same-known : (services : Reads Service) (q : ℕ) (a : ℤ) → is_fetched (state_at rows q) ≡ is_some (services q) → rows q ≡ Some (Faulted, found.1) → (x : ℕ) → is_some (with_at services q (Some (record (service_at services q) { answer = a })) x) ≡ is_some (services x)
      same-known services q a known is x = grind (arith, nat_tests, known, is)

module _ (p : ℕ) (side : Side) (node : Node) (worker_count : ℕ) (ring_of : ℕ → ℕ) (h : OfProcess p side node worker_count ring_of) (r w i n : ℕ) (row : Row) (ms : List Msg) (first : ring r side.to_linux ≡ Answer w i n (Some row) ∷ ms) where
  abbrev rest : List (List Msg)
  rest = with_ring r ms side.to_linux

  abbrev taken : (q : ℕ) × (call : CallRequest) × (at side.linux.workers w ≡ Some q) × (at side.book.rows q ≡ Some (Faulted, call))
  taken = found p side node worker_count ring_of h r w i n (Some row) ms first

  by_age : (b : Bool) → nat_lt n side.linux.cleared ≡ b → OfProcess p (record side { linux = record side.linux { mirror = installed b side.linux.mirror i row }; book = with_state side.book taken.0 Held; to_linux = rest }) node worker_count ring_of
  by_age true e = with_mirror p side node worker_count ring_of h r w i n (Some row) ms first side.linux.mirror (taken-covered p side node worker_count ring_of h r w i n (Some row) ms first) (taken-rounded p side node worker_count ring_of h r w i n (Some row) ms first)
  by_age false e =
      let new : side.linux.cleared ≤ n = grind (arith, nat_tests, e) in
      let covers = first-of (AnswerCovered (at side.lwk.table) side.linux.cleared) r (Answer w i n (Some row)) ms side.to_linux first h.covered.answers new in
      let out = not-taken side.round side.lwk.begun side.linux.cleared i n h.rounded.fetched new (first-of (NotAhead side.lwk.begun) r (Answer w i n (Some row)) ms side.to_linux first h.covered.not_ahead) (first-of (IsOutside side.round side.lwk.begun) r (Answer w i n (Some row)) ms side.to_linux first h.rounded.outside) in
      let a = reads-put side.linux.mirror i row in
      with_mirror p side node worker_count ring_of h r w i n (Some row) ms first (put side.linux.mirror i row)
      (rw a (covered-install side.round (at side.linux.mirror) (at side.lwk.table) (at side.linux.pins) side.lwk.begun side.linux.cleared rest side.to_lwk i row covers out (taken-covered p side node worker_count ring_of h r w i n (Some row) ms first)))
      (rw a (rounded-install side.round (at side.linux.mirror) (at side.lwk.table) (at side.linux.pins) side.lwk.begun side.linux.cleared rest side.to_lwk i row covers out (taken-rounded p side node worker_count ring_of h r w i n (Some row) ms first)))

  -- installed, or dropped where a later Clear has overtaken it
  pub keeps_fetch_row : OfProcess p (record side { linux = (fetch_row w i n row side.linux side.book side.round).linux; book = (fetch_row w i n row side.linux side.book side.round).book; round = (fetch_row w i n row side.linux side.book side.round).round; to_linux = rest }) node worker_count ring_of
  unfolding fetch_row
  keeps_fetch_row = rw taken.2 (by_age (nat_lt n side.linux.cleared) refl)
