use Rattle.hybrid_model.specs.Intake.{changed}
use Rattle.hybrid_model.specs.Pairs.{with_node}
use Rattle.kernel_model.specs.Nodes.{process_of}
use Rattle.kernel_model.specs.Traps.{finishes}
use Rattle.lwk_changes.specs.GoAhead.{ahead-at-end}
use Rattle.kernel_tables.specs.Shown.{node_of}
use Rattle.lwk_side.proofs.kernel.Lwk.ends_change.Goals as goal
use Rattle.lwk_side.specs.Changing.{HasEndRoom}
use Rattle.lwk_side.specs.Shown.{here_of}
use Rattle.lwk_space.specs.Lacks.{memory}
use Rattle.std.proofs.Common.{ap, of_z, rules, subst, sym, to_z, w64, ◌∙◌, ◌≡◌}
use Rattle.std.specs.Prelude.{Option, length, ℤ}

pub make_change-requires-clause-room : goal.make_change-requires-clause-room
make_change-requires-clause-room g c = λ files.
    let own = c.args.task.now.space in
    let brk = (process_of (node_of c.args.self.now.node files) c.args.p.0).program_break in
    subst (λ (o : Option ℤ). HasEndRoom (g.T.PageTable.has_room own.table) own.areas.spare brk c.args.change.now o) (sym (c.in-Make.ensures files)) (c.requires.room files)

pub make_change-requires-clause-ahead : goal.make_change-requires-clause-ahead
make_change-requires-clause-ahead g c = λ files.
    let lwk = c.args.self.now in
    ahead-at-end (process_of (node_of lwk.node files) c.args.p.0) (memory (g.T.PageTable.rows c.args.task.now.space.table) lwk.frames) (length lwk.pool.free) c.args.change.now (sym (c.in-Make.ensures files))

pub returns-in-Reply-clause-after : goal.returns-in-Reply-clause-after
returns-in-Reply-clause-after g c = λ channel r.
    let h = here_of c.args.self.now (g.T.PageTable.rows c.args.task.now.space.table) c.args.task.now channel r in
    let t = c.args.t.0 in
    let same : to_z w64 (of_z w64 c.in-Reply.answer) ≡ c.in-Reply.answer = search rules in
    (λ i. with_node h ((c.finishes.ensures.node r.files ∙ ap (λ z. finishes t z h.node) same) i))
    ∙ ap (λ (o : Option ℤ). changed c.args.p.0 t c.args.change.now o h) (c.in-Reply.ensures r.files)

pub returns-in-Make-clause-after : goal.returns-in-Make-clause-after
returns-in-Make-clause-after g c = λ channel r.
    let h = here_of c.args.self.now (g.T.PageTable.rows c.args.task.now.space.table) c.args.task.now channel r in
    c.make_change.ensures.after channel r ∙ ap (λ (o : Option ℤ). changed c.args.p.0 c.args.t.0 c.args.change.now o h) (c.in-Make.ensures r.files)
