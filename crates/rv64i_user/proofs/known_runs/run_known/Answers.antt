use Rattle.std.proofs.Common.{◌≡◌, sym, arith}
use Rattle.rv64i_user.proofs.Leading.{leads-all, counts-all}
use Rattle.rv64i_user.proofs.known_runs.run_known.Goals as goal

pub returns-clause-did : goal.returns-clause-did
returns-clause-did g c =
    let l = c.loop-left in
    let none : l.left ≡ 0 = omega arith in
    sym (leads-all c.args.most l.left c.args.r.now l.r (g.P.PageMem.memory c.args.mem.now.mem) (g.P.PageMem.memory l.mem.mem) l.stop l.invariant.leads none l.invariant.on)

pub returns-clause-count : goal.returns-clause-count
returns-clause-count g c =
    let l = c.loop-left in
    let none : l.left ≡ 0 = omega arith in
    let all = counts-all c.args.most l.left c.args.r.now l.r (g.P.PageMem.memory c.args.mem.now.mem) (g.P.PageMem.memory l.mem.mem) l.stop l.invariant.leads none l.invariant.on in
    omega arith
