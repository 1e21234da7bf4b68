use Rattle.isa_model.specs.Memory.{may_access}
use Rattle.lwk_space.specs.Lacks.{memory}
use Rattle.std.proofs.Common.{subst, ◌≡◌}
use Rattle.lwk_space.proofs.Space.may_access.Goals as goal

pub returns : goal.returns
returns g c = λ pages. subst (λ s. c.may_access.result ≡ may_access (memory (g.T.PageTable.rows s.table) pages) c.args.a c.args.address c.args.len) c.self.view_is (c.may_access.ensures pages)
