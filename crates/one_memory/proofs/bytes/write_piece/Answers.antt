use Rattle.mck_word.specs.Maps.{put}
use Rattle.one_memory.proofs.BytesWritten.{write-in-page}
use Rattle.std.proofs.Common.{ap, sym, ◌∙◌}
use Rattle.one_memory.proofs.bytes.write_piece.Goals as goal

pub returns-clause-memory : goal.returns-clause-memory
returns-clause-memory c =
    ap (put c.args.rows.now.map c.args.page) c.copy_in.ensures.written
    ∙ sym (write-in-page c.args.from.now c.args.rows.now.map c.args.page c.args.off c.row_mut.result.now c.row_mut.ensures.value c.copy_in.ensures.len c.requires.inside)
