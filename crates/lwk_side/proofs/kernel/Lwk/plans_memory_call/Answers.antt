use Rattle.file_model.specs.Files.{root_only}
use Rattle.lwk_side.proofs.kernel.Lwk.plans_memory_call.Goals as goal
use Rattle.kernel_model.specs.MemoryCalls.{decide}
use Rattle.kernel_model.specs.Nodes.{process_of}
use Rattle.kernel_tables.specs.Shown.{node_of}
use Rattle.lwk_space.specs.Lacks.{memory}
use Rattle.std.proofs.Common.{ap, arith, refl, ◌∙◌}
use Rattle.std.specs.Prelude.{ℕ}

pub decide-requires-clause-small : goal.decide-requires-clause-small
decide-requires-clause-small g c =
    let brk = c.program_break-brk.ensures root_only in
    let fits = c.requires root_only in
    let base = fits.base in
    let limit = fits.limit in
    omega (arith, brk, base, limit)

pub decide-requires-clause-heap : goal.decide-requires-clause-heap
decide-requires-clause-heap g c =
    let e = c.heap_base-base.ensures root_only in
    let base = (c.requires root_only).base in
    omega (arith, e, base)

pub returns-clause-is : goal.returns-clause-is
returns-clause-is g c = λ files.
    let pages = c.args.self.now.frames in
    let m = memory (g.T.PageTable.rows c.args.space.now.table) pages in
    let p = process_of (node_of c.args.self.now.node files) c.args.p.0 in
    c.decide.ensures.decides p m pages (c.program_break-brk.ensures files) (c.heap_base-base.ensures files) refl
    ∙ ap (λ (free : ℕ). decide p m free c.args.call c.args.args.now) c.free.ensures
