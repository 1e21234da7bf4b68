use Rattle.mck_word.specs.declared.Pid.{Pid}
use Rattle.pair_node.proofs.Shows.{made-is}
use Rattle.pair_node.proofs.pair.note_made.Goals as goal
use Rattle.std.proofs.Common.{ap, sym, ◌∙◌}
use Rattle.std.specs.Prelude.{List, [], cond, ◌++◌, ◌∷◌}

pub push_reserved-requires : goal.push_reserved-requires
push_reserved-requires g c =
    c.requires (sym (made-is g.T.PageTable.rows g.F.FileStore.files c.args.parts.now c.args.p.0 c.has_process.result c.has_process.ensures) ∙ c.if-has_process.true)

pub returns-then-has_process : goal.returns-then-has_process
returns-then-has_process g c =
    let ps : List Pid = c.args.pids.now.items in
    c.push_reserved.ensures.items
    ∙ sym (ap (λ b. cond b (ps ++ c.args.p ∷ []) ps) (sym (made-is g.T.PageTable.rows g.F.FileStore.files c.args.parts.now c.args.p.0 c.has_process.result c.has_process.ensures) ∙ c.if-has_process.true))

pub returns-else-has_process : goal.returns-else-has_process
returns-else-has_process g c =
    let ps : List Pid = c.args.pids.now.items in
    sym (ap (λ b. cond b (ps ++ c.args.p ∷ []) ps) (sym (made-is g.T.PageTable.rows g.F.FileStore.files c.args.parts.now c.args.p.0 c.has_process.result c.has_process.ensures) ∙ c.if-has_process.false))
