use Rattle.slab.specs.Slab.{get}
use Rattle.std.proofs.Common.{◌≡◌, ◌+◌, ◌/◌, ap, ◌∙◌, arith}
use Rattle.sv_table.proofs.EntryWords.{page_in-none}
use Rattle.sv_table.proofs.Keys.{key_at-root}
use Rattle.sv_table.proofs.Opening.{opened}
use Rattle.sv_table.proofs.pages.take_out.Goals as goal
use Rattle.sv_table.specs.Walks.{above, key_at}

pub set_word-requires-clause-tree : goal.set_word-requires-clause-tree
set_word-requires-clause-tree c = opened (get c.args.nodes.now) c.path_of-middle.result.1 c.requires.tree

pub give_back-requires-2-clause-parent : goal.give_back-requires-2-clause-parent
give_back-requires-2-clause-parent c =
    let low = c.requires.low in
    let root : above (1 + c.args.page / 262144) ≡ 0 = omega arith in
    ap (key_at (get c.give_back.new.nodes)) root ∙ key_at-root (get c.give_back.new.nodes)

pub returns-clause-gone : goal.returns-clause-gone
returns-clause-gone c =
    c.give_back-2.ensures.walks c.args.page c.requires.low ∙ c.give_back.ensures.walks c.args.page c.requires.low ∙ c.set_word.ensures.here ∙ page_in-none
