use Rattle.std.proofs.Common.{arith}
use Rattle.linux_files.proofs.Closing.{none-counted}
use Rattle.linux_files.proofs.parts.Parts.open_console.Goals as goal

pub open_target-requires-clause-free : goal.open_target-requires-clause-free
open_target-requires-clause-free c = let none = none-counted c.args.self.now.descriptors.map c.args.pid.0 c.requires.none in omega arith

pub open_target-requires-2-clause-free : goal.open_target-requires-2-clause-free
open_target-requires-2-clause-free c =
    let none = none-counted c.args.self.now.descriptors.map c.args.pid.0 c.requires.none in
    let one = c.open_target.ensures.used in
    omega arith

pub open_target-requires-3-clause-free : goal.open_target-requires-3-clause-free
open_target-requires-3-clause-free c =
    let none = none-counted c.args.self.now.descriptors.map c.args.pid.0 c.requires.none in
    let one = c.open_target.ensures.used in
    let two = c.open_target-2.ensures.used in
    omega arith
