use Rattle.slab.specs.Slab.{get}
use Rattle.std.proofs.Common.{length, sym, ap, ◌∙◌, subst}
use Rattle.sv_table.proofs.SvTable.node.Goals as goal
use Rattle.sv_table.proofs.Walked.{at-rows_low}
use Rattle.sv_table.specs.Trees.{Kept}
use Rattle.sv_table.specs.Words.{HasEntry}

kept : (c : goal.After-words) → Kept (get c.self.inside.nodes) c.self.invariant.tree.home 0 c.args.key c.in-Some.node.now
kept c = c.self.invariant.tree.tree.each c.args.key c.in-Some.node.now (sym c.in-Some.ensures)

pub returns-in-Some-clause-long : goal.returns-in-Some-clause-long
returns-in-Some-clause-long c = ap length c.words.ensures ∙ (kept c).long

pub returns-in-Some-clause-full : goal.returns-in-Some-clause-full
returns-in-Some-clause-full c = λ other. subst HasEntry (sym c.words.ensures) ((kept c).full other other)

pub returns-in-Some-clause-finds : goal.returns-in-Some-clause-finds
returns-in-Some-clause-finds c = at-rows_low (get c.args.self.now)

pub returns-in-None-clause-finds : goal.returns-in-None-clause-finds
returns-in-None-clause-finds c = at-rows_low (get c.args.self.now)
