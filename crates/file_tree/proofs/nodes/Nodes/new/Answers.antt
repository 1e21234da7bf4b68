use Rattle.std.proofs.Common.{ap, ◌∙◌}
use Rattle.file_tree.proofs.Changed.{none-shown, none-stored}
use Rattle.mck_word.specs.Maps.{put}
use Rattle.file_tree.proofs.nodes.Nodes.new.Goals as goal

pub invariant_of-nodes : goal.invariant_of-nodes
invariant_of-nodes c = none-stored c.new.result c.new-2.result.map (ap (λ t. t.map) c.new-2.ensures)

pub returns-clause-map : goal.returns-clause-map
returns-clause-map c =
    let rows = c.reserve.ensures.map ∙ none-shown c.new.result c.new-2.result.map (ap (λ t. t.map) c.new-2.ensures) in
    c.add.ensures.map ∙ (λ i. put (rows i) (c.reserve.ensures.next i) (c.root.ensures.inode i))
