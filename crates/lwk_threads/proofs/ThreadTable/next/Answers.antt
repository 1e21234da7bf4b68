use Rattle.std.proofs.Common.{arith, ap, sym, ◌∙◌, inl, inr, true≢false}
use Rattle.std.proofs.lemmas.Bool.{cases_lt}
use Rattle.std.specs.Prelude.{is_some}
use Rattle.lwk_threads.proofs.Keys.{key_from-stands}
use Rattle.lwk_threads.specs.Threads.{Spared}
use Rattle.lwk_threads.proofs.ThreadTable.next.Goals as goal

pub overflow_cast-result : goal.overflow_cast-result
overflow_cast-result g c =
    let there = key_from-stands c.self.inside.rows.map c.args.from.0 c.in-Some.key (sym c.in-Some.ensures) in
    elim (cases_lt c.in-Some.key c.self.inside.next_tid) [
      | inl l ↦ let limit = c.fresh-limit.ensures.next in let next = ap (λ (v : Spared g.row.S.Denot). v.threads.next) c.self.view_is in record { fits = omega arith }
      | inr up ↦ absurd (true≢false (sym there ∙ ap is_some (c.self.invariant.unused c.in-Some.key up)))
    ]

pub returns-in-Some-clause-below : goal.returns-in-Some-clause-below
returns-in-Some-clause-below g c =
    let there = key_from-stands c.self.inside.rows.map c.args.from.0 c.in-Some.key (sym c.in-Some.ensures) in
    elim (cases_lt c.in-Some.key c.self.inside.next_tid) [
      | inl l ↦ let next = ap (λ (v : Spared g.row.S.Denot). v.threads.next) c.self.view_is in omega arith
      | inr up ↦ absurd (true≢false (sym there ∙ ap is_some (c.self.invariant.unused c.in-Some.key up)))
    ]
