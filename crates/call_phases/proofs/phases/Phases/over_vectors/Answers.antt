use Rattle.std.proofs.Common.{◌≡◌, List, ◌++◌, ap, ◌∙◌, arith}
use Rattle.kernel_model.specs.CallPhases.{most_moved}
use Rattle.kernel_model.specs.Progress.{cut_ranges, vectors, without_empty}
use Rattle.kernel_model.specs.declared.ranges.Range.{Range}
use Rattle.call_phases.specs.StreamBytes.{total_len}
use Rattle.call_phases.proofs.StreamLens.{cut-len, full-len}
use Rattle.call_phases.proofs.phases.Phases.over_vectors.Goals as goal

pub returns-clause-few : goal.returns-clause-few
returns-clause-few c =
    let cut = cut_ranges most_moved (vectors 16 c.args.bytes.now) in
    let there : c.add_vectors.new.ranges.items ≡ without_empty cut = c.if-add_vectors.ensures.items ∙ ap (λ (rs : List Range). rs ++ without_empty cut) c.new-ranges.ensures in
    let same : total_len c.add_vectors.new.ranges.items ≡ total_len (without_empty cut) = ap total_len there in
    let full = full-len cut in
    let few = cut-len most_moved (vectors 16 c.args.bytes.now) in
    omega arith
