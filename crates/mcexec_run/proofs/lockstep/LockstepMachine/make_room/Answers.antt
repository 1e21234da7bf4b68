use Rattle.hybrid_model.specs.Shown.{one}
use Rattle.mcexec_run.proofs.InStep.{room_both, shown}
use Rattle.mcexec_run.proofs.lockstep.LockstepMachine.make_room.Goals as goal
use Rattle.std.proofs.Common.{ap, sym, ◌∙◌}

pub make_room-requires-2 : goal.make_room-requires-2
make_room-requires-2 g c =
    shown (g.O.SingleKernel.one c.args.self.now.single) (g.M.Offers.pair c.make_room.new.self) (c.args.self.now.same ∙ ap one (sym c.make_room.ensures.state)) c.reached.ensures

pub returns-clause-room : goal.returns-clause-room
returns-clause-room g c =
    room_both c.make_room-2.result (g.M.Machine.has_room c.make_room.new.self c.args.event.now) (g.O.SingleKernel.has_room c.make_room-2.new.single) c.args.event.now (g.M.Offers.pair c.make_room.new.self) c.run_thread.result c.step_of-step.result
    c.step_of-step.ensures c.run_thread.ensures c.in_ok-make_room.ensures.room c.make_room-2.ensures.room
