use Rattle.std.proofs.Common.{◌≡◌, ◌-◌, suc, ◌∙◌, arith}
use Rattle.file_calls.proofs.PathNames.{names-trim}
use Rattle.file_calls.proofs.names.trimmed.Goals as goal

pub loop-end-preserved : goal.loop-end-preserved
loop-end-preserved c =
    let end = c.loop-end.end in
    let is : end ≡ suc (end - 1) = omega arith in
    (names-trim c.args.text.now (end - 1) end is c.loop-end.invariant.1 c.if-text-end-eq47.true ∙ c.loop-end.invariant.0, omega arith)
