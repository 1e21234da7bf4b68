-- Miss lessens the work: a ready request without a row counts more than a Faulted one and its Fault.
use Rattle.hybrid_model.specs.declared.events.Event.TheVariants as Events
use Rattle.hybrid_laws.proofs.maps.Reading.{tally-push}
use Rattle.hybrid_laws.proofs.maps.Tests.{both}
use Rattle.hybrid_laws.proofs.miss.Miss.{may-miss}
use Rattle.hybrid_model.specs.Coherence.{OfProcess}
use Rattle.hybrid_model.specs.Events.{may_here}
use Rattle.hybrid_model.specs.Miss.{miss}
use Rattle.hybrid_model.specs.Copy.{is_uncopied}
use Rattle.hybrid_model.specs.Miss.{fault_of, may_miss}
use Rattle.hybrid_model.specs.Workers.{is_free_to_act, kind_for, row_for}
use Rattle.hybrid_model.specs.Pairs.{Here}
use Rattle.hybrid_model.specs.Sides.{served, serves}
use Rattle.kernel_model.specs.Progress.{is_ready}
use Rattle.mck_word.specs.Maps.{at}
use Rattle.mck_word.specs.declared.Pid.{Pid}
use Rattle.request_book.specs.declared.ReqState.TheVariants.{Faulted, Held}
use Rattle.std.proofs.Common.{ap, arith, refl, ◌∙◌}
use Rattle.std.specs.Prelude.{is_none, nat_lt, true, ℕ, ◌&&◌, ◌+◌, ◌≡◌}
use Rattle.work_laws.proofs.sides.Services.{number-is, row-is, stated-row, worker-is}
use Rattle.work_laws.proofs.sides.Wholes.{HerePays}
use Rattle.work_laws.specs.Weights.{of_back, of_reply, of_request, rank_held}

module _ (p : ℕ) (h : Here) (ring_number : ℕ → ℕ) (k : OfProcess p h.side h.node h.workers ring_number) (q : Pid) (w : ℕ) (e : may_here (Events.Miss q w) h ≡ true) where
  allowed : (is_free_to_act h.side.linux h.side.book w && is_ready (kind_for h.side.linux h.node.files w) ≡ true) × (is_none (row_for h.side.linux w) ≡ true)
  allowed =
      let a = both (nat_lt w h.workers) (may_miss h.side.linux h.side.book h.node.files w) e in
      both (is_free_to_act h.side.linux h.side.book w && is_ready (kind_for h.side.linux h.node.files w)) (is_none (row_for h.side.linux w)) a.1

  pub here_miss : HerePays p (Events.Miss q w) h 1 0
  unfolding miss
  here_miss =
      let m = may-miss h q w e in
      let l = h.side.linux in
      let f = of_request h.node.files l in
      let is = row-is l h.side.book w Held m.request in
      let a = stated-row f f h.side.book (serves l w) Held Faulted m.request.call is (λ j u x g. refl) in
      let v = worker-is (at h.side.book.rows) (at l.services) m.request.number w m.request.call m.request.is (k.served.workers_hold w m.request.number m.request.serving) in
      let n = number-is l h.side.book w Held m.request in
      let v' : (served l w).worker ≡ w = ap (λ (j : ℕ). (served l w).worker) n ∙ (rw n at v) in
      let ready = both (is_free_to_act l h.side.book w) (is_ready (kind_for l h.node.files w)) allowed.0 in
      let no_pin = ap is_uncopied (ap (at l.pins) v' ∙ m.no_pin) in
      let b : f (serves l w, (Held, m.request.call)) ≡ of_reply + 12 = (λ i. of_reply + rank_held (ready.1 i) (allowed.1 i) (no_pin i)) in
      let t = tally-push of_back h.side.to_lwk (fault_of l w) in
      record { files = refl; own = omega (arith, a, b, t) }
