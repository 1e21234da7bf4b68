use Rattle.std.proofs.Common.{ap, length}
use Rattle.linux_files.proofs.RowKeeps.{absent-shown, none-taken}
use Rattle.linux_files.specs.Rings.{bytes_of}
use Rattle.std.specs.Prelude.{[], unwrap_or}
use Rattle.linux_files.proofs.pipes.Pipes.take.Goals as goal

pub returns-else-is_some-clause-bytes : goal.returns-else-is_some-clause-bytes
returns-else-is_some-clause-bytes c =
    let none = absent-shown bytes_of c.self.inside.rows.map c.args.pipe c.args.self.now.map c.get.result c.is_some.result (ap (λ t. t.map) c.self.view_is) c.get.ensures c.is_some.ensures c.if-is_some.false in
    none-taken c.args.into.now _ c.requires (ap (λ o. length (unwrap_or o [])) none)
