use Rattle.mck_word.specs.Maps.{put}
use Rattle.slab.specs.Slab.{get}
use Rattle.std.proofs.Common.{Some, ap, ◌∙◌}
use Rattle.sv_table.proofs.SvTablePageTable.insert.Goals as goal
use Rattle.sv_table.proofs.Walked.{rows-set}
use Rattle.sv_table.specs.Walks.{rows_of}

pub returns-clause-row : goal.returns-clause-row
returns-clause-row c =
    rows-set (get c.self.inside.nodes) (get c.put_in.new.nodes) c.args.page (Some (c.args.f, c.args.r)) c.requires.below c.put_in.ensures.here c.put_in.ensures.others
    ∙ ap (λ s. put (rows_of (get s)) c.args.page (c.args.f, c.args.r)) c.self.view_is
