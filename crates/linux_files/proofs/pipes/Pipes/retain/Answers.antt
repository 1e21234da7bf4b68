use Rattle.std.proofs.Common.{◌∙◌, ap}
use Rattle.key_rows.specs.Keeping.{kept}
use Rattle.linux_files.proofs.RowKeeps.{kept-each}
use Rattle.linux_files.specs.Rings.{bytes_of, is_counted}
use Rattle.mck_word.specs.Maps.{each}
use Rattle.linux_files.proofs.pipes.Pipes.retain.Goals as goal

pub returns : goal.returns
returns c =
    ap (each bytes_of) c.retain.ensures.rest ∙ kept-each bytes_of (is_counted c.args.readers.now.counts c.args.writers.now.counts) c.self.inside.rows.map
    ∙ ap (λ t. kept (λ pipe bytes. is_counted c.args.readers.now.counts c.args.writers.now.counts pipe) t.map) c.self.view_is
