use Rattle.isa_model.specs.Memory.{may_access}
use Rattle.lwk_space.specs.Lacks.{memory}
use Rattle.mck_word.specs.declared.Access.TheVariants.{Write}
use Rattle.std.proofs.Common.{ap, sym, ◌∙◌}
use Rattle.std.proofs.lemmas.Bool.{eq-eqb, ne_eqb}
use Rattle.std.specs.Prelude.{◌||◌}
use Rattle.lwk_calls.proofs.pointers.writable.Goals as goal

pub returns-then-address-eq0 : goal.returns-then-address-eq0
returns-then-address-eq0 g c = λ pages.
    sym (ap (λ b. b || may_access (memory (g.T.PageTable.rows c.args.space.now.table) pages) Write c.args.address c.args.len) (eq-eqb c.args.address 0 c.if-address-eq0.true))

pub returns : goal.returns
returns g c = λ pages.
    c.can_write.ensures pages ∙ sym (ap (λ b. b || may_access (memory (g.T.PageTable.rows c.args.space.now.table) pages) Write c.args.address c.args.len) (ne_eqb c.args.address 0 c.if-address-eq0.false))
