use Rattle.lwk_changes.proofs.decide.Goals as goal
use Rattle.isa_model.specs.Memory.{Memory}
use Rattle.kernel_model.specs.MemoryCalls.{decide}
use Rattle.kernel_model.specs.Nodes.{Process, no_process}
use Rattle.lwk_space.specs.Lacks.{memory}
use Rattle.offer_laws.proofs.ChangeFits.{decide-fits}
use Rattle.offer_laws.specs.ChangeFits.{DecisionFits}
use Rattle.std.proofs.Common.{ap, arith, refl, subst, sym, ◌∙◌}
use Rattle.std.specs.Prelude.{[]}

pub decide-requires-clause-heap : goal.decide-requires-clause-heap
decide-requires-clause-heap g c = let b = c.facts_for_call-facts.ensures.base in let h = c.requires.heap in omega (arith, b, h)

pub returns-clause-fits : goal.returns-clause-fits
returns-clause-fits g c =
    let p : Process = record no_process { program_break = c.args.brk; heap_base = c.args.base } in
    let m : Memory = memory (g.T.PageTable.rows c.args.own.now.table) [] in
    subst DecisionFits (sym (c.decide.ensures.decides p m (c.facts_for_call-facts.ensures.describes p m [] refl refl refl)))
    (decide-fits p m c.facts_for_call-facts.result.free c.requires.heap c.args.call c.args.args.now)

pub returns-clause-decides : goal.returns-clause-decides
returns-clause-decides g c = λ p m pages b h e.
    c.decide.ensures.decides p m (c.facts_for_call-facts.ensures.describes p m pages b h e) ∙ ap (λ free. decide p m free c.args.call c.args.args.now) c.facts_for_call-facts.ensures.free
