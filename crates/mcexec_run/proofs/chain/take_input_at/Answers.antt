use Rattle.job_model.specs.declared.job.InputLine.{InputLine}
use Rattle.mcexec_run.proofs.Names.{input_among, input_text}
use Rattle.mcexec_run.proofs.Steps.{got}
use Rattle.mcexec_run.proofs.chain.take_input_at.Goals as goal
use Rattle.mcexec_run.specs.Chain.{Gives, take_input}
use Rattle.std.proofs.Common.{List, Option, ap, get_or, subst, sym, ◌∙◌, ◌≡◌}

pub take_input-requires : goal.take_input-requires
take_input-requires g c =
    let line = c.index-as_slice-place.result in
    let is : line ≡ get_or c.args.job.now.inputs c.args.place line = c.index-as_slice-place.is ∙ ap (λ (xs : List InputLine). get_or xs c.args.place line) c.as_slice.ensures in
    input_text c.args.job.now c.args.place line c.requires.job c.requires.placed is

pub returns-clause-value : goal.returns-clause-value
returns-clause-value g c held told =
    let line = c.index-as_slice-place.result in
    let is : line ≡ get_or c.args.job.now.inputs c.args.place line = c.index-as_slice-place.is ∙ ap (λ (xs : List InputLine). get_or xs c.args.place line) c.as_slice.ensures in
    subst (λ (o : Option InputLine). Gives (λ _. c.take_input.new.fetched) c.take_input.result (take_input held c.args.fetched.now o))
    (sym (got c.args.job.now.inputs c.args.place line c.requires.placed is)) (c.take_input.ensures.value held told)

pub returns-clause-fault : goal.returns-clause-fault
returns-clause-fault g c at_fault =
    let line = c.index-as_slice-place.result in
    let is : line ≡ get_or c.args.job.now.inputs c.args.place line = c.index-as_slice-place.is ∙ ap (λ (xs : List InputLine). get_or xs c.args.place line) c.as_slice.ensures in
    (line.name, input_among c.args.job.now c.args.place line c.requires.placed is, c.take_input.ensures.fault at_fault)
