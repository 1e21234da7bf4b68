use Rattle.slab.specs.Slab.{get}
use Rattle.std.proofs.Common.{sym, ap, subst, ◌∙◌, arith}
use Rattle.sv_table.proofs.Keys.{met}
use Rattle.sv_table.proofs.Paging.{entry_there, word_there}
use Rattle.sv_table.proofs.pages.word_of.Goals as goal
use Rattle.sv_table.specs.Trees.{IsEntry}
use Rattle.sv_table.specs.Walks.{place_of_leaf}
use Rattle.sv_table.specs.Words.{page_in}

pub index-requires : goal.index-requires
index-requires c = met (get c.args.nodes.now) 0 (place_of_leaf c.args.page) c.args.leaf c.requires.tree (let l = c.requires.low in omega arith) c.requires.leaf

pub returns-clause-entry : goal.returns-clause-entry
returns-clause-entry c = subst IsEntry (sym c.word.ensures) (entry_there (get c.args.nodes.now) 0 c.args.page c.args.leaf c.index.result.now c.requires.low c.requires.leaf c.index.ensures c.requires.tree)

pub returns-clause-value : goal.returns-clause-value
returns-clause-value c = ap page_in c.word.ensures ∙ word_there (get c.args.nodes.now) 0 c.args.page c.args.leaf c.index.result.now c.requires.low c.requires.leaf c.index.ensures
