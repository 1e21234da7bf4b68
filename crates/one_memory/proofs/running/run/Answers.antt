use Rattle.one_memory.proofs.Counted.{within}
use Rattle.std.proofs.Common.{rules, ◌+◌, ◌≤◌}
use Rattle.one_memory.proofs.running.run.Goals as goal

pub overflow_add-result : goal.overflow_add-result
overflow_add-result c =
    let went = c.run_known-went in
    let l : went.result + c.stopped.result ≤ c.args.most = within c.args.most c.args.regs.now _ _ went.result c.stopped.result went.ensures.did went.ensures.count c.stopped.ensures in
    search rules

pub returns-clause-most : goal.returns-clause-most
returns-clause-most c =
    let went = c.run_known-went in
    within c.args.most c.args.regs.now _ _ went.result c.stopped.result went.ensures.did went.ensures.count c.stopped.ensures
