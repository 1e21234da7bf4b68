use Rattle.std.proofs.Common.{◌∙◌, ap, arith, sym}
use Rattle.file_tree.proofs.Changed.{inode}
use Rattle.file_tree.proofs.EachRows.{key-here, key-past, keys-each}
use Rattle.file_tree.specs.Shown.{row_at}
use Rattle.mck_word.specs.Maps.{keys}
use Rattle.file_tree.proofs.nodes.Nodes.number_at.Goals as goal

pub returns-then-place-rows : goal.returns-then-place-rows
returns-then-place-rows c =
    key-past c.self.inside.keys.map c.args.self.now.map c.as_slice-rows.result.now c.args.place (ap (λ t. keys t.map) (sym c.self.view_is) ∙ keys-each (λ key. inode (row_at c.self.inside.slab key)) c.self.inside.keys.map)
    c.as_slice-rows.ensures (omega arith)

pub returns : goal.returns
returns c =
    key-here c.self.inside.keys.map c.args.self.now.map c.as_slice-rows.result.now c.args.place (ap (λ t. keys t.map) (sym c.self.view_is) ∙ keys-each (λ key. inode (row_at c.self.inside.slab key)) c.self.inside.keys.map)
    c.as_slice-rows.ensures (0, 0) (omega arith)
