use Rattle.key_rows.specs.Table.{key_from}
use Rattle.number_groups.proofs.Groups.next.Goals as goal
use Rattle.number_groups.specs.Laws.{next-is, none-left, none-of-others, search-tells}
use Rattle.std.proofs.Common.{ap, ◌∙◌}

pub returns-in_default : goal.returns-in_default
returns-in_default c =
    let told = search-tells c.args.self.now.map c.key_of.result _ c.key_of.ensures _ (c.in_default.ensures ∙ ap (λ t. key_from t.map c.key_of.result) c.self.view_is) in
    none-left c.args.self.now.map c.args.group c.args.from told

pub returns-then-key-group : goal.returns-then-key-group
returns-then-key-group c =
    let told = search-tells c.args.self.now.map c.key_of.result _ c.key_of.ensures _ (c.in-Some.ensures ∙ ap (λ t. key_from t.map c.key_of.result) c.self.view_is) in
    next-is c.args.self.now.map c.args.group c.args.from c.in-Some.key told c.if-key-group.true

pub returns-else-key-group : goal.returns-else-key-group
returns-else-key-group c =
    let told = search-tells c.args.self.now.map c.key_of.result _ c.key_of.ensures _ (c.in-Some.ensures ∙ ap (λ t. key_from t.map c.key_of.result) c.self.view_is) in
    none-of-others c.args.self.now.map c.args.group c.args.from c.in-Some.key told c.if-key-group.false
