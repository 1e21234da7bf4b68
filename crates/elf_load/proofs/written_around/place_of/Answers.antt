use Rattle.std.proofs.Common.{sym}
use Rattle.elf_load.specs.Written.{is_around}
use Rattle.elf_load.specs.declared.placed.Placed.{Placed}
use Rattle.elf_load.proofs.Around.{around_is}
use Rattle.elf_load.proofs.Found.{found}
use Rattle.elf_load.proofs.written_around.place_of.Goals as goal

pub overflow_sub-address : goal.overflow_sub-address
overflow_sub-address c =
    let f = found Placed (is_around c.args.address) c.args.placed.now c.in-Some.p.now (sym c.in-Some.ensures) in (around_is c.args.address c.in-Some.p.now f.passes).low
