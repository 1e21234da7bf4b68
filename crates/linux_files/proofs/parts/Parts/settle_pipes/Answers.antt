use Rattle.std.proofs.Common.{refl}
use Rattle.linux_files.proofs.Settles.{every-kept, every-settles, one-kept, one-settles}
use Rattle.linux_files.specs.declared.parts.Loose.TheVariants.{AllOpen}
use Rattle.linux_files.proofs.parts.Parts.settle_pipes.Goals as goal

pub returns-in-One-clause-kept : goal.returns-in-One-clause-kept
returns-in-One-clause-kept c = one-kept c.args.self.now c.settle_pipe.new.self c.requires c.in-One.pipe c.in-One.is c.settle_pipe.ensures.rest c.settle_pipe.ensures.map

pub returns-in-One-clause-settles : goal.returns-in-One-clause-settles
returns-in-One-clause-settles c = one-settles c.args.self.now c.settle_pipe.new.self c.requires c.in-One.pipe c.settle_pipe.ensures.rest c.settle_pipe.ensures.map

pub returns-in-Any-clause-kept : goal.returns-in-Any-clause-kept
returns-in-Any-clause-kept c = every-kept c.args.self.now (record c.args.self.now { pipes = c.retain.new.self; loose = AllOpen }) c.requires refl c.retain.ensures

pub returns-in-Any-clause-settles : goal.returns-in-Any-clause-settles
returns-in-Any-clause-settles c = every-settles c.args.self.now (record c.args.self.now { pipes = c.retain.new.self; loose = AllOpen }) c.requires refl c.retain.ensures
