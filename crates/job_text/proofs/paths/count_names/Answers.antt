use Rattle.std.proofs.Common.{◌∙◌, ◌+◌, ◌==◌, sym, ap}
use Rattle.std.proofs.lemmas.List.Splits.{length-slice_split}
use Rattle.job_text.proofs.paths.count_names.Goals as goal

pub returns : goal.returns
returns c = ap (λ n. n + 1) c.count_slashes.ensures.value ∙ sym (length-slice_split (λ b. b == 47) c.args.text.now)
