use Rattle.number_groups.proofs.Groups.remove.Goals as goal
use Rattle.number_groups.specs.Laws.{in-without, without-absent}
use Rattle.number_groups.specs.Groups.{is_in}
use Rattle.key_rows.specs.Table.{Table}
use Rattle.mck_word.specs.Maps.{at, cut}
use Rattle.std.proofs.Common.{ap, Bor, arith, refl, sym, ◌∙◌}
use Rattle.std.specs.Option.{option_copied}
use Rattle.std.specs.Prelude.{None, Option, Some, false, is_some, ◌≡◌}

none-there : (r : Option (Bor (Unit {0}))) → false ≡ is_some r → option_copied r ≡ None
none-there None e = refl
none-there (Some x) e = absurd (grind (arith, e))

pub returns-else-is_some-clause-map : goal.returns-else-is_some-clause-map
returns-else-is_some-clause-map c =
    let there = c.get.ensures ∙ (λ i. at (c.self.view_is i).map (c.key_of-key.ensures i)) in
    sym (without-absent c.args.self.now.map c.args.group c.args.number (sym there ∙ none-there c.get.result (c.if-is_some.ensures)))

pub returns-then-is_some-clause-numbers : goal.returns-then-is_some-clause-numbers
returns-then-is_some-clause-numbers c = λ g n.
    ap (λ m. is_in m g n) (ap (λ (t : Table (Unit {0})). t.map) c.remove.ensures.rest ∙ (λ i. cut (c.self.view_is i).map (c.key_of-key.ensures i)))
    ∙ in-without c.args.self.now.map c.args.group c.args.number c.ranges.number.fits g n
