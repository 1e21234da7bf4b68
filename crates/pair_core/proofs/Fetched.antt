-- What coherence says of the first message of a ring.
use Rattle.clear_rounds.specs.Round.{phase_of}
use Rattle.clear_rounds.specs.declared.Phase.TheVariants.{Posted as RoundPosted}
use Rattle.hybrid_laws.proofs.fetch.Answer.{answered-for}
use Rattle.hybrid_laws.proofs.fetch.Interrupt.{fetched-first}
use Rattle.hybrid_laws.proofs.maps.Reading.{first-of}
use Rattle.hybrid_model.specs.Coherence.{ClearIsOf, OfProcess, RequestIs, is_fetched, is_posted, is_posted_phase, posted, state_at}
use Rattle.hybrid_model.specs.Workers.{is_ended_or_replied}
use Rattle.hybrid_model.specs.Rings.{head_of, ring}
use Rattle.hybrid_model.specs.Sides.{Round, Row, Side, serves, state_in, state_of}
use Rattle.ikc_ring.specs.declared.Msg.{Msg}
use Rattle.ikc_ring.specs.declared.Msg.TheVariants.{Ack, Answer, Clear, Fault, Interrupt, Reply, Request}
use Rattle.kernel_model.specs.Nodes.{Node}
use Rattle.mck_word.specs.Maps.{at}
use Rattle.mck_word.specs.declared.PageRange.{PageRange}
use Rattle.pair_core.proofs.Linux.{has-service}
use Rattle.pair_core.specs.LinuxRoom.{HasFetchRoom}
use Rattle.proxy_worker.specs.Fits.{FetchFits}
use Rattle.proxy_worker.specs.Shown.{linux_of}
use Rattle.proxy_worker.specs.declared.proxy.Proxy.{Proxy}
use Rattle.request_book.specs.declared.ReqState.{ReqState}
use Rattle.request_book.specs.declared.ReqState.TheVariants.{Ended, Faulted, Held, Parked, Posted, Replied, Waiting}
use Rattle.std.proofs.Common.{ap, arith, refl, ◌∙◌}
use Rattle.std.proofs.lemmas.Bool.Decides.{nat_tests}
use Rattle.std.specs.Prelude.{List, None, Option, Some, [], false, is_some, length, not, true, unwrap_or, ℕ, ◌+◌, ◌-◌, ◌<◌, ◌==◌, ◌^◌, ◌∷◌, ◌≡◌}

-- a list with that head
pub first-some : (ms : List Msg) (m : Msg) → head_of ms ≡ Some m → (rest : List Msg) × (ms ≡ m ∷ rest)
first-some [] m e = absurd (grind (arith, e))
first-some (x ∷ ms) m e = let a : x ≡ m = cc in (ms, ap (λ y. y ∷ ms) a)

-- a list with a message has a head
pub no-first : (ms : List Msg) (o : Option Msg) → ((m : Msg) → o ≡ Some m → ⊥) → o ≡ head_of ms → not (length ms == 0) ≡ true → ⊥
no-first [] o none e some = grind (arith, nat_tests, some)
no-first (m ∷ ms) o none e some = none m e

fetched-from : (s : ReqState) → is_ended_or_replied s ≡ false → is_posted s ≡ 0 → is_fetched s ≡ true
fetched-from Posted e f = absurd (grind (arith, f))
fetched-from Waiting e f = refl
fetched-from Held e f = refl
fetched-from Parked e f = refl
fetched-from Faulted e f = refl
fetched-from Ended e f = refl
fetched-from Replied e f = absurd (grind (arith, e))

-- a Clear comes while the round is Posted, and fewer were fetched than rounds began
clear-fits : (range : PageRange) (cleared begun : ℕ) (o : Option Round) → ClearIsOf o (Clear range) → cleared + posted o ≡ begun → begun < 2 ^ 64 → (phase_of o ≡ Some RoundPosted) × (cleared < 2 ^ 64 - 1)
clear-fits range cleared begun None h f few = absurd h
clear-fits range cleared begun (Some x) h f few =
    let one : posted (Some x) ≡ 1 = ap is_posted_phase h.1 in
    (ap Some h.1, omega (arith, f, one, few))

module _ (p : ℕ) (proxy : Proxy) (rest : Side) (node : Node) (worker_count : ℕ) (ring_of : ℕ → ℕ) (k : OfProcess p (record rest { linux = linux_of proxy }) node worker_count ring_of) (few : rest.lwk.begun < 2 ^ 64) (r : ℕ) where
  abbrev side : Side
  side = record rest { linux = linux_of proxy }

  known : (q : ℕ) (s : ReqState) → state_at (at side.book.rows) q ≡ s → is_fetched s ≡ true → is_some (at side.linux.services q) ≡ true
  known q s e f = has-service p side node worker_count ring_of k q s e f

  faulted : (w i n : ℕ) (o : Option Row) (ms : List Msg) → ring r side.to_linux ≡ Answer w i n o ∷ ms → state_of side.book (serves side.linux w) ≡ Faulted
  faulted w i n o ms e =
      let a = answered-for worker_count (at side.linux.workers) (at side.book.rows) (at side.linux.services) (at side.linux.pins) side.book.waiting (at side.lwk.noted) side.to_linux side.to_lwk k.served r w i n o ms e in
      ap (λ x. state_of side.book (unwrap_or x 0)) a.2 ∙ ap state_in a.3

  pub fetch-fits : (m : Msg) (ms : List Msg) → ring r side.to_linux ≡ m ∷ ms → HasFetchRoom (Some m) proxy → FetchFits m proxy side.book side.round
  fetch-fits (Request c) ms e room = (ap state_in (first-of (RequestIs (at side.book.rows)) r (Request c) ms side.to_linux e k.asked), room)
  fetch-fits (Clear range) ms e room = clear-fits range side.linux.cleared side.lwk.begun side.round (first-of (ClearIsOf side.round) r (Clear range) ms side.to_linux e k.rounded.clear_of) k.rounded.fetched few
  fetch-fits (Answer w i n None) ms e room = (faulted w i n None ms e, known (serves side.linux w) Faulted (faulted w i n None ms e) refl)
  fetch-fits (Answer w i n (Some row)) ms e room = (faulted w i n (Some row) ms e, room)
  fetch-fits (Interrupt q place) ms e room = λ live. known q.0 (state_of side.book q.0) refl (fetched-from (state_of side.book q.0) live
      (fetched-first (at side.book.rows) (at node.threads) ring_of (at side.lwk.callers) q place r ms side.to_linux e k.messages))
  fetch-fits (Reply q code) ms e room = tt
  fetch-fits Ack ms e room = tt
  fetch-fits (Fault w i a) ms e room = tt
