use Rattle.kernel_model.specs.Traps.{may_be_called_back}
use Rattle.one_files.specs.Seen.{seen}
use Rattle.one_kernel.proofs.MayCalls.{node-of}
use Rattle.one_kernel.proofs.parts.One.may_interrupt.Goals as goal
use Rattle.one_kernel.specs.Parts.{here_at}
use Rattle.std.proofs.Common.{ap, sym, ◌∙◌}
use Rattle.std.specs.Prelude.{◌||◌}

pub returns-else-is_interrupted : goal.returns-else-is_interrupted
returns-else-is_interrupted c =
    let x = c.args.self.now in
    c.may_be_called_back.ensures (seen x.files) ∙ ap (λ n. may_be_called_back n c.args.t.0) (node-of x c.args.t.0)
    ∙ ap (λ b. b || may_be_called_back (here_at x c.args.t.0).node c.args.t.0) (sym c.if-is_interrupted.false ∙ c.is_interrupted.ensures)
