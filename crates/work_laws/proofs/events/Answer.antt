-- Answer lessens the work: a noted fault counts more than its answer, which has the table's rights. Without a row it ends the call, whose description is given back.
use Rattle.hybrid_model.specs.declared.events.Event.TheVariants as Events
use Rattle.hybrid_laws.proofs.answer.Answer.{may_be_answered}
use Rattle.hybrid_laws.proofs.maps.Reading.{sum-post}
use Rattle.hybrid_laws.proofs.maps.Sums.{counted_in, total-cut}
use Rattle.hybrid_model.specs.Coherence.{OfProcess}
use Rattle.hybrid_model.specs.Events.{may_here}
use Rattle.hybrid_model.specs.Answer.{answer_to, files_after_answer, noted_of, post_answer, thread_served}
use Rattle.hybrid_model.specs.Pairs.{Here, ring_of}
use Rattle.hybrid_model.specs.Sides.{Row, looked_up, served}
use Rattle.ikc_ring.specs.declared.Msg.TheVariants.{Answer}
use Rattle.isa_model.specs.Memory.{allows}
use Rattle.mck_word.specs.Maps.{at, count}
use Rattle.mck_word.specs.declared.Access.{Access}
use Rattle.mck_word.specs.declared.Pid.{Pid}
use Rattle.std.proofs.Common.{ap, arith, refl, ◌∙◌}
use Rattle.std.proofs.lemmas.Bool.Decides.{nat_tests}
use Rattle.std.specs.Prelude.{Bool, None, Option, Some, cond, false, if◌then◌else◌, nat_lt, true, ℕ, ◌+◌, ◌==◌, ◌≡◌, ◌≤◌}
use Rattle.work_laws.proofs.sides.Wholes.{HerePays, HereSteps, side-any}
use Rattle.work_laws.specs.Weights.{any_change, of_message, of_noted, of_row, of_side}

-- the row that a look-up in the table finds has the table's rights
current : (now : Option Row) (a : Access) → of_row now (looked_up now a) ≡ 0
current None a = refl
current (Some r) a = go (allows a r.1)
  where
    go : (b : Bool) → of_row (Some r) (if b then Some r else None) ≡ 0
    go false = refl
    go true = let e : (r.1.0 == r.1.0) ≡ true = grind (arith, nat_tests) in ap (λ b. cond b 0 any_change) e

module _ (p : ℕ) (h : Here) (ring_number : ℕ → ℕ) (k : OfProcess p h.side h.node h.workers ring_number) (q : Pid) (w : ℕ) (e : may_here (Events.Answer q w) h ≡ true) where
  answered : of_side h.workers h.node.files (post_answer (ring_of h (thread_served h.side w)) w h.side) + 5 ≤ of_side h.workers h.node.files h.side
  unfolding post_answer
  answered =
      let m = may_be_answered p q w h e in
      let s = h.side in
      let f = of_message h.workers s.linux.cleared (at s.lwk.table) in
      let new = Answer w (noted_of s w).0 s.lwk.begun (answer_to s w) in
      let t = sum-post f (ring_of h (thread_served s w)) new s.to_linux in
      let fetched = k.rounded.fetched in
      let old : nat_lt s.lwk.begun s.linux.cleared ≡ false = grind (arith, nat_tests, fetched) in
      let v : f new ≡ 3 = ap (λ b. cond b 11 (3 + of_row (at s.lwk.table (noted_of s w).0) (answer_to s w))) old ∙ ap (λ n. 3 + n) (current (at s.lwk.table (noted_of s w).0) (noted_of s w).1) in
      let c = total-cut of_noted s.lwk.noted w in
      let d = ap (counted_in of_noted) m.there in
      omega (arith, t, v, c, d)

  pub here_answer_row : (row : Row) → answer_to h.side w ≡ Some row → HerePays p (Events.Answer q w) h 1 0
  here_answer_row row is = let a = answered in record { files = rw is refl; own = omega (arith, a) }

  pub here_answer_empty : count h.side.book.rows ≤ 16 → answer_to h.side w ≡ None → HereSteps p (Events.Answer q w) h 0
  unfolding post_answer
  here_answer_empty few is =
      let a = answered in
      let s' = post_answer (ring_of h (thread_served h.side w)) w h.side in
      let progress = (served h.side.linux w).progress in
      let b = side-any h.workers h.node.files (files_after_answer None progress h.node.files) s' few in
      let c = ap (λ (o : Option Row). of_side h.workers (files_after_answer o progress h.node.files) s') is in
      record { own = omega (arith, a, b, c) }
