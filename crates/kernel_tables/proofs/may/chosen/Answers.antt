use Rattle.kernel_tables.proofs.Chosen.{least_of, most_of}
use Rattle.kernel_tables.proofs.may.chosen.Goals as goal

pub returns-clause-least : goal.returns-clause-least
returns-clause-least c = least_of c.args.own.0 c.args.shared.0 c.args.mask.0 c.choose.result c.choose.ensures

pub returns-clause-most : goal.returns-clause-most
returns-clause-most c = most_of c.args.own.0 c.args.shared.0 c.args.mask.0 c.choose.result c.choose.ensures
