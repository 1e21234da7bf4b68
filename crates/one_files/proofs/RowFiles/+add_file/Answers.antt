use Rattle.std.proofs.Common.{◌≡◌, false, rules}
use Rattle.file_model.specs.Paths.{names_of}
use Rattle.one_files.proofs.JobFiles.{add-last, none-case}
use Rattle.one_files.specs.Seen.{seen}
use Rattle.std.specs.Prelude.{is_some}
use Rattle.one_files.proofs.RowFiles.+add_file.Goals as goal

pub returns-then-is_none : goal.returns-then-is_none
returns-then-is_none t c =
    let gone : is_some c.next_name-2.result ≡ false = search rules in
    let none = none-case _ _ c.next_name-2.result gone c.next_name-2.ensures.names in
    add-last (seen c.args.self.now) c.args.here (names_of c.args.path.now) (names_of c.in-Some.more.now) c.in-Some.name.now c.args.bytes c.add.new.self.map c.add.new.self.next c.with_bytes.result
    c.in-Some.ensures.names none c.with_bytes.ensures c.add.ensures.map c.add.ensures.next
