use Rattle.std.proofs.Common.{◌≡◌, ◌-◌, suc, true, false, sym, ap, ◌∙◌, arith}
use Rattle.isa_model.specs.Instr.{outcome, instr}
use Rattle.rv64i_user.specs.Stopping.{is_on}
use Rattle.rv64i_user.proofs.Leading.{leads-on, leads-off}
use Rattle.rv64i_user.proofs.known_runs.run_some.Goals as goal

pub returns-then-step_known-clause-leads : goal.returns-then-step_known-clause-leads
returns-then-step_known-clause-leads g c =
    let some = c.requires.some in
    let one : c.args.most ≡ suc (c.args.most - 1) = omega arith in
    let r = c.args.r.now in
    let m = g.P.PageMem.memory c.args.mem.now.mem in
    let w = g.P.PageMem.memory c.step_known.new.mem.mem in
    let did : outcome c.step_known.new.r w c.step_known.new.stop ≡ instr r m = c.step_known.ensures.did ∙ ap (λ x. instr r (g.P.PageMem.memory x)) c.is_in_code.ensures.same in
    let on : is_on c.step_known.new.stop ≡ true = sym c.if-step_known.ensures.went in
    leads-on c.args.most (c.args.most - 1) r c.step_known.new.r m w c.step_known.new.stop one did on

pub returns-else-step_known-clause-leads : goal.returns-else-step_known-clause-leads
returns-else-step_known-clause-leads g c =
    let some = c.requires.some in
    let one : c.args.most ≡ suc (c.args.most - 1) = omega arith in
    let r = c.args.r.now in
    let m = g.P.PageMem.memory c.args.mem.now.mem in
    let w = g.P.PageMem.memory c.step_known.new.mem.mem in
    let did : outcome c.step_known.new.r w c.step_known.new.stop ≡ instr r m = c.step_known.ensures.did ∙ ap (λ x. instr r (g.P.PageMem.memory x)) c.is_in_code.ensures.same in
    let off : is_on c.step_known.new.stop ≡ false = sym c.if-step_known.ensures.went in
    leads-off c.args.most (c.args.most - 1) r c.step_known.new.r m w c.step_known.new.stop one did off
