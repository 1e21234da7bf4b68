use Rattle.file_model.specs.Files.{root_only}
use Rattle.one_kernel.proofs.changing.plan_call.Goals as goal
use Rattle.std.proofs.Common.{arith}

pub decide-requires-clause-small : goal.decide-requires-clause-small
decide-requires-clause-small c =
    let brk = c.program_break-brk.ensures root_only in
    let fits = c.requires root_only in
    let base = fits.base in
    let limit = fits.limit in
    omega (arith, brk, base, limit)

pub decide-requires-clause-heap : goal.decide-requires-clause-heap
decide-requires-clause-heap c =
    let e = c.heap_base-base.ensures root_only in
    let base = (c.requires root_only).base in
    omega (arith, e, base)
