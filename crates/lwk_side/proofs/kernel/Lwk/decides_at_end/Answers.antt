use Rattle.file_model.specs.Files.{root_only}
use Rattle.kernel_model.specs.MemoryCalls.{refusal_at_end}
use Rattle.kernel_model.specs.Nodes.{process_of}
use Rattle.kernel_tables.specs.Shown.{node_of}
use Rattle.lwk_side.proofs.kernel.Lwk.decides_at_end.Goals as goal
use Rattle.lwk_space.specs.Lacks.{memory}
use Rattle.std.proofs.Common.{ap, arith, refl, ◌∙◌}
use Rattle.std.specs.Prelude.{ℕ}

pub finish-requires : goal.finish-requires
finish-requires g c =
    let brk = c.program_break-brk.ensures root_only in
    let fits = c.requires root_only in
    let base = fits.base in
    let limit = fits.limit in
    omega (arith, brk, base, limit)

pub returns : goal.returns
returns g c = λ files.
    let pages = c.args.self.now.frames in
    let m = memory (g.T.PageTable.rows c.args.space.now.table) pages in
    let p = process_of (node_of c.args.self.now.node files) c.args.p.0 in
    c.finish.ensures p m pages (c.program_break-brk.ensures files) refl ∙ ap (λ (free : ℕ). refusal_at_end p m free c.args.change.now) c.free.ensures
