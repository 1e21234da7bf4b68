use Rattle.kernel_model.specs.Steps.{may}
use Rattle.one_files.specs.Seen.{seen}
use Rattle.one_kernel.proofs.parts.One.may.Goals as goal
use Rattle.one_kernel.specs.Parts.{one_of}
use Rattle.std.proofs.Common.{ap, sym, ◌∙◌}

pub returns-in-Trap : goal.returns-in-Trap
unfolding one_of
returns-in-Trap c = c.may_trap.ensures (seen c.args.self.now.files) ∙ sym (ap (may (one_of c.args.self.now)) c.in-Trap.is)

pub returns-in-Deliver : goal.returns-in-Deliver
unfolding one_of
returns-in-Deliver c = c.may_deliver.ensures (seen c.args.self.now.files) ∙ sym (ap (may (one_of c.args.self.now)) c.in-Deliver.is)

pub returns-in-VmFinish : goal.returns-in-VmFinish
unfolding one_of
returns-in-VmFinish c = c.may_change.ensures (seen c.args.self.now.files) ∙ sym (ap (may (one_of c.args.self.now)) c.in-VmFinish.is)

pub returns-in-Wait : goal.returns-in-Wait
unfolding one_of
returns-in-Wait c = c.may_wait.ensures (seen c.args.self.now.files) ∙ sym (ap (may (one_of c.args.self.now)) c.in-Wait.is)

pub returns-in-Script : goal.returns-in-Script
unfolding one_of
returns-in-Script c = c.may_script.ensures (seen c.args.self.now.files) ∙ sym (ap (may (one_of c.args.self.now)) c.in-Script.is)

pub returns-in-End : goal.returns-in-End
unfolding one_of
returns-in-End c = c.may_end.ensures (seen c.args.self.now.files) ∙ sym (ap (may (one_of c.args.self.now)) c.in-End.is)
