use Rattle.pair_core.specs.Shown.{pair_of}
use Rattle.pair_offers.proofs.OnCore.{next-past}
use Rattle.pair_offers.proofs.Between.{kept-found, kept-nothing}
use Rattle.pair_node.proofs.pair.Pair.on_core_between.Goals as goal
use Rattle.pair_offers.specs.Seeking.{is_up_to, thread_number, threads_on}
use Rattle.run_model.specs.Walks.{is_above_last}
use Rattle.std.proofs.Common.{sym, ◌∙◌}
use Rattle.std.specs.Prelude.{option_map}

pub returns-in_default : goal.returns-in_default
returns-in_default g c =
    let pair = pair_of g.T.PageTable.rows g.F.FileStore.files c.args.self.now.parts in
    sym (kept-nothing (is_above_last (option_map thread_number c.args.last)) (is_up_to (option_map thread_number c.args.end)) (threads_on pair c.args.core) (sym c.in_default.ensures))

pub returns-then-is_up_to : goal.returns-then-is_up_to
returns-then-is_up_to g c =
    let pair = pair_of g.T.PageTable.rows g.F.FileStore.files c.args.self.now.parts in
    sym (kept-found (is_above_last (option_map thread_number c.args.last)) (is_up_to (option_map thread_number c.args.end)) c.in-Some.t.0 (threads_on pair c.args.core) (sym c.in-Some.ensures) (sym c.is_up_to.ensures ∙ c.if-is_up_to.true))

pub returns-else-is_up_to : goal.returns-else-is_up_to
returns-else-is_up_to g c =
    let pair = pair_of g.T.PageTable.rows g.F.FileStore.files c.args.self.now.parts in
    sym (next-past pair c.args.core (option_map thread_number c.args.last) (option_map thread_number c.args.end) c.in-Some.t.0 (sym c.in-Some.ensures) (sym c.is_up_to.ensures ∙ c.if-is_up_to.false))
