use Rattle.std.proofs.Common.{ap, length}
use Rattle.linux_files.proofs.RowKeeps.{absent-shown, guest-put, none-taken}
use Rattle.linux_files.specs.Consoles.{console_of_row}
use Rattle.std.specs.Prelude.{Option, [], unwrap_or}
use Rattle.file_model.specs.Files.{Console}
use Rattle.linux_files.proofs.consoles.Consoles.take_input.Goals as goal

pub invariant_of-self : goal.invariant_of-self
invariant_of-self c = guest-put c.self.inside.rows.map c.args.guest c.take_input.new.self c.ranges.guest.fits c.self.invariant

pub returns-else-is_some-clause-bytes : goal.returns-else-is_some-clause-bytes
returns-else-is_some-clause-bytes c =
    let none = absent-shown console_of_row c.self.inside.rows.map c.args.guest c.args.self.now.map c.get.result c.is_some.result (ap (λ t. t.map) c.self.view_is) c.get.ensures c.is_some.ensures c.if-is_some.false in
    none-taken c.args.into.now _ c.requires (ap (λ (o : Option Console). length (unwrap_or o (record { input = []; output = [] })).input) none)
