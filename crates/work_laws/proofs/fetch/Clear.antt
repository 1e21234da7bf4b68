-- Fetch of a Clear lessens the work: it counts more than all that it sets back, the requests without their rows and the answers that it overtakes.
use Rattle.clear_rounds.specs.declared.Phase.TheVariants.{Taken}
use Rattle.hybrid_laws.proofs.maps.Reading.{first-of, sum-take}
use Rattle.hybrid_model.specs.Coherence.{ClearIsOf, OfProcess}
use Rattle.hybrid_model.specs.Fetch.{fetch_from}
use Rattle.hybrid_model.specs.Fetch.{fetch_clear}
use Rattle.hybrid_model.specs.Pairs.{Here}
use Rattle.hybrid_model.specs.Rings.{ring, with_ring}
use Rattle.hybrid_model.specs.Sides.{LinuxSide, Round, Row, with_phase}
use Rattle.hybrid_model.specs.Tallies.{Reads, sum_rings, tally}
use Rattle.ikc_ring.specs.declared.Msg.TheVariants.{Ack, Answer, Clear, Fault, Interrupt, Reply, Request}
use Rattle.ikc_ring.specs.declared.Msg.{Msg}
use Rattle.mck_word.specs.Maps.{at, count, keep}
use Rattle.mck_word.specs.Pages.{in_range}
use Rattle.mck_word.specs.declared.PageRange.{PageRange}
use Rattle.std.proofs.Common.{arith, refl}
use Rattle.std.proofs.lemmas.Bool.Decides.{nat_tests}
use Rattle.std.specs.Prelude.{Bool, List, None, Option, Some, [], cond, false, nat_lt, not, true, ℕ, ◌*◌, ◌+◌, ◌∷◌, ◌≡◌, ◌≤◌}
use Rattle.work_laws.proofs.sides.AnyRank.{requests-any}
use Rattle.work_laws.specs.Weights.{of_message, of_round, of_row, of_side}

-- whether a message is an answer, as a number
abbrev pub answers : Msg → ℕ
answers (Answer w page number row) = 1
answers _ = 0

-- an answer that is overtaken counts little more than before
module _ (workers cleared : ℕ) (table : Reads Row) where
  overtaken : (m : Msg) → of_message workers (cleared + 1) table m ≤ of_message workers cleared table m + 8 * answers m
  overtaken (Request c) = omega arith
  overtaken (Clear r) = omega arith
  overtaken (Interrupt q place) = omega arith
  overtaken (Reply q code) = omega arith
  overtaken Ack = omega arith
  overtaken (Fault w page a) = omega arith
  overtaken (Answer w page number row) = go (nat_lt number (cleared + 1)) refl (nat_lt number cleared) refl
    where
      go : (b : Bool) → nat_lt number (cleared + 1) ≡ b → (d : Bool) → nat_lt number cleared ≡ d → cond b 11 (3 + of_row (table page) row) ≤ cond d 11 (3 + of_row (table page) row) + 8
      go true e true f = omega arith
      go true e false f = omega arith
      go false e false f = omega arith
      go false e true f = absurd (grind (arith, nat_tests, e, f))

  ring-overtaken : (ms : List Msg) → tally (of_message workers (cleared + 1) table) ms ≤ tally (of_message workers cleared table) ms + 8 * tally answers ms
  ring-overtaken [] = omega arith
  ring-overtaken (m ∷ ms) = let a = overtaken m in let b = ring-overtaken ms in omega (arith, a, b)

  pub rings-overtaken : (rs : List (List Msg)) → sum_rings (of_message workers (cleared + 1) table) rs ≤ sum_rings (of_message workers cleared table) rs + 8 * sum_rings answers rs
  rings-overtaken [] = omega arith
  rings-overtaken (ms ∷ rs) = let a = ring-overtaken ms in let b = rings-overtaken rs in omega (arith, a, b)

module _ (p : ℕ) (h : Here) (ring_number : ℕ → ℕ) (k : OfProcess p h.side h.node h.workers ring_number) (few : count h.side.book.rows ≤ 16) (few_answers : sum_rings answers h.side.to_linux ≤ h.workers) (r : ℕ) (range : PageRange) (ms : List Msg) (first : ring r h.side.to_linux ≡ Clear range ∷ ms) where
  abbrev l : LinuxSide
  l = h.side.linux

  abbrev l' : LinuxSide
  l' = record l { mirror = keep l.mirror (λ page. not (in_range range page)); cleared = l.cleared + 1 }

  -- the round was Posted
  same-round : of_round h.workers (with_phase h.side.round Taken) ≡ of_round h.workers h.side.round
  same-round = go h.side.round (first-of (ClearIsOf h.side.round) r (Clear range) ms h.side.to_linux first k.rounded.clear_of)
    where
      go : (o : Option Round) → ClearIsOf o (Clear range) → of_round h.workers (with_phase o Taken) ≡ of_round h.workers o
      go None u = absurd u
      go (Some x) u = let s = u.1 in rw s refl

  pub clear-fetched : of_side h.workers h.node.files (fetch_from r (Clear range ∷ ms) h).side + 1 ≤ of_side h.workers h.node.files h.side
  unfolding fetch_clear
  clear-fetched =
      let a = requests-any h.node.files h.node.files l l' h.side.book.rows h.side.book.rows (omega arith) few in
      let b = rings-overtaken h.workers l.cleared (at h.side.lwk.table) (with_ring r ms h.side.to_linux) in
      let d = sum-take answers r (Clear range) ms h.side.to_linux first in
      let t = sum-take (of_message h.workers l.cleared (at h.side.lwk.table)) r (Clear range) ms h.side.to_linux first in
      let s = same-round in
      omega (arith, a, b, d, t, s, few_answers)
