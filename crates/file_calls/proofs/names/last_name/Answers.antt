use Rattle.std.proofs.Common.{sym, ◌∙◌, ◌≡◌, ◌<◌, ◌++◌, ◌∷◌, [], length, arith, false, List, ℕ}
use Rattle.std.proofs.lemmas.Bool.Decides.{nat_tests}
use Rattle.std.specs.Prelude.{◌==◌}
use Rattle.file_model.specs.Paths.{names_of}
use Rattle.file_calls.proofs.PathNames.{names-last}
use Rattle.file_calls.proofs.names.last_name.Goals as goal

some : (xs : List ℕ) → (length xs == 0) ≡ false → 0 < length xs
some xs e = grind (arith, nat_tests, e)

pub returns : goal.returns
returns c =
    let body = c.trimmed-body.result.now in
    let full = some body (sym c.is_empty.ensures ∙ c.if-is_empty.false) in
    sym c.trimmed-body.ensures.names
    ∙ names-last body c.last_run.result c.last_run.ensures.run c.last_run.ensures.within c.last_run.ensures.cut full (c.trimmed-body.ensures.last full)
    ∙ (λ i. names_of (sym c.split_at.ensures.front i) ++ sym c.split_at.ensures.back i ∷ [])
