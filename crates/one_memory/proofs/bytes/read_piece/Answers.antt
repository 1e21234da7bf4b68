use Rattle.one_memory.proofs.BytesRead.{read-in-page}
use Rattle.std.proofs.Common.{length, sym, ◌∙◌}
use Rattle.one_memory.proofs.bytes.read_piece.Goals as goal

pub returns : goal.returns
returns c =
    c.copy_out.ensures.copied ∙ sym (read-in-page c.args.rows.now.map c.args.page c.args.off (length c.args.into.now) c.in-Some.row.now (sym c.in-Some.ensures) c.requires.inside c.copy_out.ensures.len)
