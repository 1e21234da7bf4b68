use Rattle.job_model.specs.declared.job.FileLine.{FileLine}
use Rattle.mcexec_run.proofs.Names.{file_among, file_text}
use Rattle.mcexec_run.proofs.Steps.{got}
use Rattle.mcexec_run.proofs.chain.take_file_at.Goals as goal
use Rattle.mcexec_run.specs.Chain.{Gives, take_file}
use Rattle.std.proofs.Common.{List, Option, ap, get_or, subst, sym, ◌∙◌, ◌≡◌}

pub take_file-requires : goal.take_file-requires
take_file-requires g c =
    let line = c.index-as_slice-place.result in
    let is : line ≡ get_or c.args.job.now.files c.args.place line = c.index-as_slice-place.is ∙ ap (λ (xs : List FileLine). get_or xs c.args.place line) c.as_slice.ensures in
    file_text c.args.job.now c.args.place line c.requires.job c.requires.placed is

pub returns-clause-value : goal.returns-clause-value
returns-clause-value g c held told =
    let line = c.index-as_slice-place.result in
    let is : line ≡ get_or c.args.job.now.files c.args.place line = c.index-as_slice-place.is ∙ ap (λ (xs : List FileLine). get_or xs c.args.place line) c.as_slice.ensures in
    subst (λ (o : Option FileLine). Gives (λ _. c.take_file.new.fetched) c.take_file.result (take_file held c.args.fetched.now o))
    (sym (got c.args.job.now.files c.args.place line c.requires.placed is)) (c.take_file.ensures.value held told)

pub returns-clause-fault : goal.returns-clause-fault
returns-clause-fault g c at_fault =
    let line = c.index-as_slice-place.result in
    let is : line ≡ get_or c.args.job.now.files c.args.place line = c.index-as_slice-place.is ∙ ap (λ (xs : List FileLine). get_or xs c.args.place line) c.as_slice.ensures in
    (line.name, file_among c.args.job.now c.args.place line c.requires.placed is, c.take_file.ensures.fault at_fault)
