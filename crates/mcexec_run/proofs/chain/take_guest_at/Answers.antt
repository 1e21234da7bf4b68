use Rattle.job_model.specs.declared.job.GuestLine.{GuestLine}
use Rattle.mcexec_run.proofs.Names.{guest_among, guest_text}
use Rattle.mcexec_run.proofs.Steps.{got}
use Rattle.mcexec_run.proofs.chain.take_guest_at.Goals as goal
use Rattle.mcexec_run.specs.Chain.{Gives, image_name, take_guest}
use Rattle.std.proofs.Common.{List, Option, ap, get_or, subst, sym, ◌+◌, ◌∙◌, ◌≡◌}

pub take_guest-requires : goal.take_guest-requires
take_guest-requires g c =
    let line = c.index-as_slice-place.result in
    let is : line ≡ get_or c.args.job.now.guests c.args.place line = c.index-as_slice-place.is ∙ ap (λ (xs : List GuestLine). get_or xs c.args.place line) c.as_slice.ensures in
    guest_text c.args.job.now c.args.place line c.requires.job c.requires.placed is

pub returns-clause-value : goal.returns-clause-value
returns-clause-value g c held told =
    let line = c.index-as_slice-place.result in
    let is : line ≡ get_or c.args.job.now.guests c.args.place line = c.index-as_slice-place.is ∙ ap (λ (xs : List GuestLine). get_or xs c.args.place line) c.as_slice.ensures in
    subst (λ (o : Option GuestLine). Gives (λ _. c.take_guest.new.fetched) c.take_guest.result (take_guest held (c.args.place + 1) c.args.fetched.now o))
    (sym (got c.args.job.now.guests c.args.place line c.requires.placed is)) (c.take_guest.ensures.value held told)

pub returns-clause-fault : goal.returns-clause-fault
returns-clause-fault g c at_fault =
    let line = c.index-as_slice-place.result in
    let is : line ≡ get_or c.args.job.now.guests c.args.place line = c.index-as_slice-place.is ∙ ap (λ (xs : List GuestLine). get_or xs c.args.place line) c.as_slice.ensures in
    (image_name line, guest_among c.args.job.now c.args.place line c.requires.placed is, c.take_guest.ensures.fault at_fault)
