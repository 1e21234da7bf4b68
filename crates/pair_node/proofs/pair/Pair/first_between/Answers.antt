use Rattle.pair_core.specs.Shown.{pair_of}
use Rattle.pair_offers.proofs.OnCore.{asked-alone, asked-fewer, asked-is, asked-none, asked-not}
use Rattle.pair_node.proofs.pair.Pair.first_between.Goals as goal
use Rattle.pair_offers.specs.Seeking.{thread_number}
use Rattle.std.proofs.Common.{sym, ◌∙◌}
use Rattle.std.specs.Prelude.{option_map}

pub loop-t-init : goal.loop-t-init
loop-t-init g c = asked-alone (pair_of g.T.PageTable.rows g.F.FileStore.files c.args.self.now.parts) c.args.core (option_map thread_number c.args.end) (option_map thread_number c.args.last)

pub returns-in-Some-event_on_core : goal.returns-in-Some-event_on_core
returns-in-Some-event_on_core g c =
    let pair = pair_of g.T.PageTable.rows g.F.FileStore.files c.args.self.now.parts in
    sym (c.loop-t.invariant
    ∙ asked-is pair c.args.core (option_map thread_number c.args.end) (option_map thread_number c.loop-t.passed) c.in-Some.t.0 (sym c.in-Some.ensures) c.in-Some-event_on_core.event (sym c.in-Some-event_on_core.ensures))

pub loop-t-smaller : goal.loop-t-smaller
loop-t-smaller g c = asked-fewer (pair_of g.T.PageTable.rows g.F.FileStore.files c.args.self.now.parts) c.args.core (option_map thread_number c.args.end) (option_map thread_number c.loop-t.passed) c.in-Some.t.0 (sym c.in-Some.ensures)

pub loop-t-preserved : goal.loop-t-preserved
loop-t-preserved g c =
    let pair = pair_of g.T.PageTable.rows g.F.FileStore.files c.args.self.now.parts in
    c.loop-t.invariant
    ∙ asked-not pair c.args.core (option_map thread_number c.args.end) (option_map thread_number c.loop-t.passed) c.in-Some.t.0 (sym c.in-Some.ensures) (sym c.in_default-event_on_core.ensures)

pub returns : goal.returns
returns g c =
    let pair = pair_of g.T.PageTable.rows g.F.FileStore.files c.args.self.now.parts in
    sym (c.loop-t.invariant ∙ asked-none pair c.args.core (option_map thread_number c.args.end) (option_map thread_number c.loop-t.passed) (sym c.in_default.ensures))
