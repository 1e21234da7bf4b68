use Rattle.page_map.specs.NextLaws.{next-is, next-is-none}
use Rattle.slab.specs.Slab.{get}
use Rattle.std.proofs.Common.{sym, ap, ◌∙◌, arith, inl, inr}
use Rattle.std.proofs.lemmas.Bool.{cases_lt}
use Rattle.std.specs.Prelude.{is_some, ◌^◌}
use Rattle.sv_table.proofs.Walked.{at-rows_high, at-rows_low}
use Rattle.sv_table.proofs.pages.next_page.Goals as goal
use Rattle.sv_table.specs.Walks.{rows_of}

pub returns-then-next-page : goal.returns-then-next-page
returns-then-next-page c =
    let node = get c.args.nodes.now in
    let p = c.loop-page.page in
    sym (next-is (rows_of node) c.args.from p (record {
      low = c.loop-page.invariant.0;
      there = ap is_some (at-rows_low node p (omega arith)) ∙ c.skip-next.ensures.there c.if-next-page.true;
      least = λ j a b. at-rows_low node j (omega arith) ∙ c.loop-page.invariant.1 j a b;
    }))

pub returns : goal.returns
returns c =
    let node = get c.args.nodes.now in
    sym (next-is-none (rows_of node) c.args.from (λ j a. elim (cases_lt j (2 ^ 27)) [
      | inl low ↦ at-rows_low node j low ∙ c.loop-page.invariant.1 j a (omega arith)
      | inr high ↦ at-rows_high node j high
    ]))
