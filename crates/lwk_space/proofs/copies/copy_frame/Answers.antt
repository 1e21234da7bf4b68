use Rattle.lwk_space.proofs.Copied.{whole-copy}
use Rattle.lwk_space.proofs.copies.copy_frame.Goals as goal
use Rattle.std.proofs.Common.{ap, ◌∙◌}
use Rattle.std.specs.Prelude.{[], slice_index_or, slice_set}

pub returns : goal.returns
returns c =
    let pages = c.args.mem.now in
    c.copy_in.ensures.written ∙ ap (slice_set pages c.args.to.0) (whole-copy 4096 (slice_index_or pages c.args.to.0 []) (slice_index_or pages c.args.from.0 []) c.copy_out.new.into c.copy_in.ensures.len c.copy_out.ensures.len c.copy_out.ensures.copied)
