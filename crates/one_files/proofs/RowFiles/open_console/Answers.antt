use Rattle.std.proofs.Common.{arith}
use Rattle.one_files.proofs.Counts.{count-no-row}
use Rattle.one_files.proofs.RowFiles.open_console.Goals as goal

pub open_file-requires-clause-free : goal.open_file-requires-clause-free
open_file-requires-clause-free c = let none = count-no-row c.args.self.now.descriptors.map c.args.pid.0 c.requires.none in omega arith

pub open_file-requires-2-clause-free : goal.open_file-requires-2-clause-free
open_file-requires-2-clause-free c =
    let none = count-no-row c.args.self.now.descriptors.map c.args.pid.0 c.requires.none in
    let one = c.open_file.ensures.used in
    omega arith

pub open_file-requires-3-clause-free : goal.open_file-requires-3-clause-free
open_file-requires-3-clause-free c =
    let none = count-no-row c.args.self.now.descriptors.map c.args.pid.0 c.requires.none in
    let one = c.open_file.ensures.used in
    let two = c.open_file-2.ensures.used in
    omega arith
