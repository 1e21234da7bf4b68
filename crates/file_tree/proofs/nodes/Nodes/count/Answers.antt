use Rattle.std.proofs.Common.{ap, sym, ◌∙◌}
use Rattle.file_tree.proofs.Changed.{inode}
use Rattle.file_tree.proofs.EachRows.{count-each}
use Rattle.file_tree.specs.Shown.{row_at}
use Rattle.mck_word.specs.Maps.{count}
use Rattle.file_tree.proofs.nodes.Nodes.count.Goals as goal

pub returns : goal.returns
returns c = c.len.ensures ∙ sym (count-each (λ key. inode (row_at c.self.inside.slab key)) c.self.inside.keys.map) ∙ ap (λ t. count t.map) c.self.view_is
