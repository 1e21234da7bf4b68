use Rattle.mck_word.specs.Maps.{at}
use Rattle.mck_word.specs.declared.Access.TheVariants.{Read}
use Rattle.lwk_space.proofs.BytesRead.{looked-there, read-piece}
use Rattle.std.proofs.Common.{length, sym, ◌∙◌}
use Rattle.lwk_space.proofs.bytes.read_piece.Goals as goal

pub returns : goal.returns
returns g c =
    let rows = g.T.PageTable.rows c.args.table.now in
    let there = looked-there (at rows c.args.page) Read c.in-Some.row (sym c.in-Some.ensures.row) in
    c.copy_out.ensures.copied ∙ read-piece rows c.args.mem.now c.args.page c.args.off (length c.args.into.now) c.in-Some.row there (c.requires.frames c.args.page c.in-Some.row there) c.requires.inside c.copy_out.ensures.len
