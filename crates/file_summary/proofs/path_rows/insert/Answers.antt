use Rattle.file_summary.proofs.Ordered.{put-at}
use Rattle.file_summary.proofs.path_rows.insert.Goals as goal
use Rattle.file_summary.specs.Rows.{row_before}
use Rattle.std.proofs.Common.{ap, ◌∙◌}
use Rattle.std.specs.List.{insert, position_or_len}

pub returns : goal.returns
returns c =
    c.in_ok-insert.ensures.items
    ∙ ap (λ i. insert c.args.rows.now.items i c.args.row) (c.place_of-place.ensures.place ∙ ap (position_or_len (row_before c.args.row)) c.deref.ensures.value)
    ∙ put-at row_before c.args.row c.args.rows.now.items
