use Rattle.std.proofs.Common.{◌≡◌, suc, ◌+◌, ◌-◌, ◌≤◌, true, false, sym, ap, ◌∙◌, arith}
use Rattle.isa_model.specs.Instr.{outcome, instr}
use Rattle.rv64i_user.specs.Stopping.{is_on}
use Rattle.rv64i_user.proofs.RunSteps.{on-is, goes-on, counts-on, stops-there, counts-none, no-more, count-no-more}
use Rattle.rv64i_user.proofs.several.run_most.Goals as goal

pub returns-then-not-step_to-clause-did : goal.returns-then-not-step_to-clause-did
returns-then-not-step_to-clause-did g c =
    let r = c.loop-k.r in
    let m = g.P.PageMem.memory c.loop-k.mem.mem in
    let w = g.P.PageMem.memory c.step_to.new.mem.mem in
    let left : c.args.most - c.loop-k.k ≡ suc (c.args.most - (c.loop-k.k + 1)) = omega arith in
    let did : outcome c.step_to.new.r w c.step_to.new.stop ≡ instr r m = c.step_to.ensures.did ∙ ap (λ x. instr r (g.P.PageMem.memory x)) c.look.ensures.same in
    let off : is_on c.step_to.new.stop ≡ false = sym c.if-not-step_to.ensures.went in
    sym (stops-there (c.args.most - c.loop-k.k) (c.args.most - (c.loop-k.k + 1)) r c.step_to.new.r m w c.step_to.new.stop left did off) ∙ c.loop-k.invariant.rest

pub returns-then-not-step_to-clause-count : goal.returns-then-not-step_to-clause-count
returns-then-not-step_to-clause-count g c =
    let r = c.loop-k.r in
    let m = g.P.PageMem.memory c.loop-k.mem.mem in
    let w = g.P.PageMem.memory c.step_to.new.mem.mem in
    let left : c.args.most - c.loop-k.k ≡ suc (c.args.most - (c.loop-k.k + 1)) = omega arith in
    let did : outcome c.step_to.new.r w c.step_to.new.stop ≡ instr r m = c.step_to.ensures.did ∙ ap (λ x. instr r (g.P.PageMem.memory x)) c.look.ensures.same in
    let off : is_on c.step_to.new.stop ≡ false = sym c.if-not-step_to.ensures.went in
    let none = counts-none (c.args.most - c.loop-k.k) (c.args.most - (c.loop-k.k + 1)) r c.step_to.new.r m w c.step_to.new.stop left did off in
    let all = c.loop-k.invariant.counted in
    omega arith

pub loop-k-preserved : goal.loop-k-preserved
loop-k-preserved g c =
    let r = c.loop-k.r in
    let m = g.P.PageMem.memory c.loop-k.mem.mem in
    let w = g.P.PageMem.memory c.step_to.new.mem.mem in
    let left : c.args.most - c.loop-k.k ≡ suc (c.args.most - (c.loop-k.k + 1)) = omega arith in
    let did : outcome c.step_to.new.r w c.step_to.new.stop ≡ instr r m = c.step_to.ensures.did ∙ ap (λ x. instr r (g.P.PageMem.memory x)) c.look.ensures.same in
    let on : is_on c.step_to.new.stop ≡ true = sym c.if-not-step_to.ensures.went in
    let rest = goes-on (c.args.most - c.loop-k.k) (c.args.most - (c.loop-k.k + 1)) r c.step_to.new.r m w c.step_to.new.stop left did on in
    let more = counts-on (c.args.most - c.loop-k.k) (c.args.most - (c.loop-k.k + 1)) r c.step_to.new.r m w c.step_to.new.stop left did on in
    let all = c.loop-k.invariant.counted in
    record {
      on = on-is c.step_to.new.stop on;
      rest = sym rest ∙ c.loop-k.invariant.rest;
      counted = omega arith;
    }

pub returns-clause-did : goal.returns-clause-did
returns-clause-did g c =
    let r = c.loop-k.r in
    let m = g.P.PageMem.memory c.loop-k.mem.mem in
    let left : c.args.most - c.loop-k.k ≡ 0 = omega arith in
    ap (λ s. outcome r m s) c.loop-k.invariant.on ∙ sym (no-more (c.args.most - c.loop-k.k) r m left) ∙ c.loop-k.invariant.rest

pub returns-clause-count : goal.returns-clause-count
returns-clause-count g c =
    let r = c.loop-k.r in
    let m = g.P.PageMem.memory c.loop-k.mem.mem in
    let left : c.args.most - c.loop-k.k ≡ 0 = omega arith in
    let none = count-no-more (c.args.most - c.loop-k.k) r m left in
    let all = c.loop-k.invariant.counted in
    let past : c.args.most ≤ c.loop-k.k = omega arith in
    let not-past : c.loop-k.k ≤ c.args.most = omega arith in
    omega arith
