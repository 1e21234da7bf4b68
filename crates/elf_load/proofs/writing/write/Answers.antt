use Rattle.std.proofs.Common.{sym}
use Rattle.elf_load.proofs.Written.{around_again, apart_again, carried}
use Rattle.elf_load.proofs.writing.write.Goals as goal

pub returns-in-Some : goal.returns-in-Some
returns-in-Some c = carried c.args.image.now _ c.write_around.result (around_again c.args.image.now c.in-Some.table.now c.requires (sym c.in-Some.ensures.value)) c.write_around.ensures

pub returns-in-None : goal.returns-in-None
returns-in-None c = carried c.args.image.now _ c.write_apart.result (apart_again c.args.image.now c.requires (sym c.in-None.ensures.value)) c.write_apart.ensures
