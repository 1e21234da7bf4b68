use Rattle.lwk_run.proofs.Counted.{within}
use Rattle.lwk_space.proofs.WrittenBack.{written-back}
use Rattle.std.proofs.Common.{rules, ◌+◌, ◌≤◌}
use Rattle.lwk_run.proofs.running.run_lent.Goals as goal

pub overflow_add-result : goal.overflow_add-result
overflow_add-result g c =
    let went = c.run_known-went in
    let l : went.result + c.stopped.result ≤ c.args.most = within c.args.most c.args.regs.now _ _ went.result c.stopped.result went.ensures.did went.ensures.count c.stopped.ensures in
    search rules

pub returns-clause-most : goal.returns-clause-most
returns-clause-most g c =
    let went = c.run_known-went in
    within c.args.most c.args.regs.now _ _ went.result c.stopped.result went.ensures.did went.ensures.count c.stopped.ensures

pub returns-clause-stored : goal.returns-clause-stored
returns-clause-stored g c =
    let stays = c.into_frames.ensures.stays in
    written-back g.B.Begun.rows g.B.Begun.frames c.into_frames.result.mem.now c.requires.inside stays.others stays.len
