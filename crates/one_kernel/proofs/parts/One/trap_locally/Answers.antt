use Rattle.kernel_model.specs.declared.steps.Step.TheVariants.{Trap}
use Rattle.kernel_tables.specs.Shown.{node_of}
use Rattle.one_kernel.proofs.After.{after-is, process-is}
use Rattle.one_kernel.proofs.Calling.{both}
use Rattle.one_kernel.proofs.Sleepers.{may-clone, may-rest}
use Rattle.one_kernel.proofs.Viewing.{own-thread, rest_of}
use Rattle.one_kernel.proofs.parts.One.trap_locally.Goals as goal
use Rattle.one_kernel.specs.Parts.{one_of}
use Rattle.std.proofs.Common.{refl}

pub row_mut-own-requires : goal.row_mut-own-requires
row_mut-own-requires c =
    let x = c.args.self.now in
    let p = c.process_of_thread-p.result.0 in
    own-thread x p c.args.t.0 c.requires.ready.shown (process-is x c.args.t.0 p c.process_of_thread-p.ensures) (both _ _ (both _ _ c.requires.ready.may).0).0

pub trap-requires-clause-local : goal.trap-requires-clause-local
unfolding one_of node_of
trap-requires-clause-local c = λ files. c.requires.local

pub trap-requires-clause-rest : goal.trap-requires-clause-rest
trap-requires-clause-rest c = λ files e. may-rest c.args.self.now c.args.t.0 c.requires.ready.shown c.requires.ready.may c.requires.sleeper

pub trap-requires-clause-clone : goal.trap-requires-clause-clone
trap-requires-clause-clone c = λ files e. may-clone c.args.self.now c.args.t.0 c.requires.ready.shown c.requires.ready.may c.requires.thread

pub returns : goal.returns
returns c =
    let x = c.args.self.now in
    let p = c.process_of_thread-p.result.0 in
    let w = c.row_mut-own.result.now in
    after-is x _ p w _ (Trap c.args.t) c.row_mut-own.ensures.value refl (process-is x c.args.t.0 p c.process_of_thread-p.ensures) (c.trap.ensures p (rest_of x w))
