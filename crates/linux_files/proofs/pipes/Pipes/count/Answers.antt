use Rattle.std.proofs.Common.{◌∙◌, ap, sym}
use Rattle.file_tree.proofs.EachRows.{count-each}
use Rattle.linux_files.specs.Rings.{bytes_of}
use Rattle.mck_word.specs.Maps.{count}
use Rattle.linux_files.proofs.pipes.Pipes.count.Goals as goal

pub returns : goal.returns
returns c = c.len.ensures ∙ sym (count-each bytes_of c.self.inside.rows.map) ∙ ap (λ t. count t.map) c.self.view_is
