use Rattle.file_model.specs.Files.{root_only}
use Rattle.one_kernel.proofs.changing.plan_end.Goals as goal
use Rattle.std.proofs.Common.{arith}

pub finish-requires : goal.finish-requires
finish-requires c =
    let brk = c.program_break.ensures root_only in
    let fits = c.requires root_only in
    let base = fits.base in
    let limit = fits.limit in
    omega (arith, brk, base, limit)
