use Rattle.mck_word.specs.Maps.{at}
use Rattle.mck_word.specs.declared.Access.TheVariants.{Write}
use Rattle.lwk_space.proofs.BytesRead.{looked-there}
use Rattle.lwk_space.proofs.BytesWritten.{write-piece}
use Rattle.lwk_space.specs.Lacks.{memory}
use Rattle.std.proofs.Common.{ap, sym, ◌∙◌}
use Rattle.lwk_space.proofs.bytes.write_piece.Goals as goal

pub returns-clause-memory : goal.returns-clause-memory
returns-clause-memory g c =
    let rows = g.T.PageTable.rows c.args.table.now in
    let there = looked-there (at rows c.args.page) Write c.in-Some.row (sym c.in-Some.ensures.row) in
    ap (memory rows) c.copy_in.ensures.written
    ∙ write-piece rows c.args.mem.now c.args.page c.args.off c.args.from.now c.in-Some.row there c.requires.apart (c.requires.frames c.args.page c.in-Some.row there) c.requires.inside c.copy_in.ensures.len
