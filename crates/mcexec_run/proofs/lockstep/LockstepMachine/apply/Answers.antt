use Rattle.hybrid_model.specs.Globals.{Coherent}
use Rattle.hybrid_model.specs.Images.{image}
use Rattle.mcexec_run.proofs.InStep.{may_steps, room_steps, shown, steps_are, still_same}
use Rattle.mcexec_run.proofs.lockstep.LockstepMachine.apply.Goals as goal
use Rattle.mcexec_run.specs.Lockstep.{steps_by}
use Rattle.std.proofs.Common.{◌≡◌}
use Rattle.std.proofs.Math.Logic.{∥∥₁_map}

pub follow-requires-clause-shown : goal.follow-requires-clause-shown
follow-requires-clause-shown g c = shown (g.O.SingleKernel.one c.args.self.now.single) (g.M.Offers.pair c.args.self.now.machine) c.args.self.now.same c.reached.ensures

pub follow-requires-clause-may : goal.follow-requires-clause-may
follow-requires-clause-may g c =
    let pair = g.M.Offers.pair c.args.self.now.machine in
    let e = c.args.event.now in
    let steps : image pair e ≡ steps_by c.run_thread.result c.step_of-step.result c.apply-executed.result =
    steps_are e pair c.run_thread.result c.step_of-step.result c.apply-executed.result c.step_of-step.ensures c.run_thread.ensures c.apply-executed.ensures.executed in
    let coherent : Coherent pair = c.every_told_state.ensures.coherent pair (∥∥₁_map c.reached.ensures (λ s. s.coherent)) in
    may_steps (g.O.SingleKernel.one c.args.self.now.single) e pair c.run_thread.result c.step_of-step.result c.apply-executed.result c.args.self.now.same steps ((c.every_event.ensures pair e coherent c.requires.may).1)

pub follow-requires-clause-room : goal.follow-requires-clause-room
follow-requires-clause-room g c =
    let pair = g.M.Offers.pair c.args.self.now.machine in
    let e = c.args.event.now in
    let steps : image pair e ≡ steps_by c.run_thread.result c.step_of-step.result c.apply-executed.result =
    steps_are e pair c.run_thread.result c.step_of-step.result c.apply-executed.result c.step_of-step.ensures c.run_thread.ensures c.apply-executed.ensures.executed in
    let coherent : Coherent pair = c.every_told_state.ensures.coherent pair (∥∥₁_map c.reached.ensures (λ s. s.coherent)) in
    room_steps (g.O.SingleKernel.one c.args.self.now.single) e pair c.run_thread.result c.step_of-step.result c.apply-executed.result c.args.self.now.same steps ((c.every_event.ensures pair e coherent c.requires.may).1)
    (g.O.SingleKernel.has_room c.args.self.now.single) c.run_thread.ensures c.requires.room.1

pub invariant_of-self : goal.invariant_of-self
invariant_of-self g c =
    let pair = g.M.Offers.pair c.args.self.now.machine in
    let e = c.args.event.now in
    let steps : image pair e ≡ steps_by c.run_thread.result c.step_of-step.result c.apply-executed.result =
    steps_are e pair c.run_thread.result c.step_of-step.result c.apply-executed.result c.step_of-step.ensures c.run_thread.ensures c.apply-executed.ensures.executed in
    let coherent : Coherent pair = c.every_told_state.ensures.coherent pair (∥∥₁_map c.reached.ensures (λ s. s.coherent)) in
    record {
      same = still_same (g.O.SingleKernel.one c.args.self.now.single) e pair c.run_thread.result c.step_of-step.result c.apply-executed.result c.args.self.now.same steps ((c.every_event.ensures pair e coherent c.requires.may).1)
          (g.O.SingleKernel.one c.follow.new.single) (g.M.Offers.pair c.apply-executed.new.self) c.follow.ensures c.apply-executed.ensures.after;
    }
