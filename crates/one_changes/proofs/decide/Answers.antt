use Rattle.one_changes.proofs.decide.Goals as goal
use Rattle.kernel_model.specs.MemoryCalls.{decide}
use Rattle.kernel_model.specs.Nodes.{Process, no_process}
use Rattle.offer_laws.proofs.ChangeFits.{decide-fits}
use Rattle.offer_laws.specs.ChangeFits.{DecisionFits}
use Rattle.std.proofs.Common.{ap, refl, subst, sym, ◌∙◌}

pub returns-clause-fits : goal.returns-clause-fits
returns-clause-fits c =
    let p : Process = record no_process { program_break = c.args.brk; heap_base = c.args.base } in
    let m = c.args.memory.now.map in
    subst DecisionFits (sym (c.decide.ensures.decides p m (c.facts_for_call-facts.ensures.describes p refl refl)))
    (decide-fits p m c.facts_for_call-facts.result.free c.requires.heap c.args.call c.args.args.now)

pub returns-clause-decides : goal.returns-clause-decides
returns-clause-decides c = λ p b h.
    let m = c.args.memory.now.map in
    c.decide.ensures.decides p m (c.facts_for_call-facts.ensures.describes p b h) ∙ ap (λ free. decide p m free c.args.call c.args.args.now) c.facts_for_call-facts.ensures.free
