use Rattle.std.proofs.Common.{◌∙◌}
use Rattle.file_model.specs.Files.{Inode, change_node, settled}
use Rattle.linux_files.proofs.Drops.{node-settles}
use Rattle.linux_files.specs.Seen.{seen_parts}
use Rattle.std.specs.Prelude.{None}
use Rattle.linux_files.proofs.parts.Parts.unlink.Goals as goal

pub returns-clause-files : goal.returns-clause-files
returns-clause-files c =
    let old = c.args.self.now in
    c.settle.ensures.files ∙ (λ i. settled (record (seen_parts old) { nodes = c.unlink.ensures.map i; next_node = c.unlink.ensures.next i }))
    ∙ node-settles (change_node c.args.node (λ (x : Inode). record x { name = None }) (seen_parts old)) old.tree.holds c.args.node (c.requires.kept.counted.holds c.args.node)
