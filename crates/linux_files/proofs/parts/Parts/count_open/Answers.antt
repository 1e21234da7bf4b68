use Rattle.std.proofs.Common.{refl}
use Rattle.linux_files.proofs.Opening.{target-raised}
use Rattle.file_model.specs.declared.descriptions.Target.TheVariants.{OfNode, ReadEnd, WriteEnd}
use Rattle.linux_files.proofs.parts.Parts.count_open.Goals as goal

pub returns-in-OfNode-clause-holds : goal.returns-in-OfNode-clause-holds
returns-in-OfNode-clause-holds c n = target-raised c.args.self.now.tree.holds _ c.in-OfNode.node n c.args.target OfNode (λ a b. refl) c.in-OfNode.is c.hold.ensures.holds

pub returns-in-ReadEnd-clause-readers : goal.returns-in-ReadEnd-clause-readers
returns-in-ReadEnd-clause-readers c q = target-raised c.args.self.now.readers.counts _ c.in-ReadEnd.pipe q c.args.target ReadEnd (λ a b. refl) c.in-ReadEnd.is c.raise.ensures.counts

pub returns-in-WriteEnd-clause-writers : goal.returns-in-WriteEnd-clause-writers
returns-in-WriteEnd-clause-writers c q = target-raised c.args.self.now.writers.counts _ c.in-WriteEnd.pipe q c.args.target WriteEnd (λ a b. refl) c.in-WriteEnd.is c.raise-in-WriteEnd.ensures.counts
