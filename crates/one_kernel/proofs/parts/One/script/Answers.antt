use Rattle.kernel_model.specs.Nodes.{Node, ScriptLine, is_living}
use Rattle.kernel_model.specs.Steps.{of_line}
use Rattle.kernel_model.specs.Traps.{line_may, line_of}
use Rattle.kernel_model.specs.declared.steps.Step.TheVariants.{Script}
use Rattle.one_files.specs.Seen.{seen}
use Rattle.one_kernel.proofs.After.{after-same, row-of}
use Rattle.one_kernel.proofs.Calling.{both}
use Rattle.one_kernel.proofs.Facts.{living-own}
use Rattle.one_kernel.proofs.parts.One.script.Goals as goal
use Rattle.one_kernel.specs.Parts.{here_in, one_of}
use Rattle.std.proofs.Common.{refl}
use Rattle.std.specs.Prelude.{None, Option, Some, true, ◌≡◌}

living-line : (node : Node) (o : Option ScriptLine) → line_may node o ≡ true → is_living node (of_line o) ≡ true
living-line node None e = absurd (cc)
living-line node (Some l) e = (both _ _ e).0

pub returns : goal.returns
returns c =
    let x = c.args.self.now in
    let node = (one_of x).node in
    let p = of_line (line_of node c.args.k) in
    let w = row-of x p (living-own (one_of x) c.requires.shown p (living-line node (line_of node c.args.k) c.requires.may)) in
    after-same x _ p w.0 (Script c.args.k) w.1 refl refl (λ i. record (here_in x w.0) { node = c.script_sent.ensures.node (seen x.files) i })
