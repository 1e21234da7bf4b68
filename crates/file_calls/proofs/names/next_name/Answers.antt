use Rattle.std.proofs.Common.{sym, ap, ◌∙◌, drop, take}
use Rattle.std.specs.Prelude.{◌∷◌}
use Rattle.file_model.specs.Paths.{names_of}
use Rattle.file_calls.proofs.PathNames.{first_name, no_name}
use Rattle.file_calls.proofs.names.next_name.Goals as goal

pub returns-then-is_empty-clause-names : goal.returns-then-is_empty-clause-names
returns-then-is_empty-clause-names c =
    let t = c.args.text.now in let r = c.split_at.result.1.now in
    no_name t r _ (c.split_at.ensures.back ∙ ap (λ k. drop k t) c.slashes.ensures.at)
    (c.split_at-2.ensures.front ∙ ap (λ k. take k r) c.run_len.ensures.at) (sym c.is_empty.ensures ∙ c.if-is_empty.true)

pub returns-clause-names : goal.returns-clause-names
returns-clause-names c =
    let t = c.args.text.now in let r = c.split_at.result.1.now in let after = c.split_at-2.result.1.now in
    first_name t r c.split_at-2.result.0.now after (c.split_at.ensures.back ∙ ap (λ k. drop k t) c.slashes.ensures.at)
    (c.split_at-2.ensures.front ∙ ap (λ k. take k r) c.run_len.ensures.at) (c.split_at-2.ensures.back ∙ ap (λ k. drop k r) c.run_len.ensures.at)
    (sym c.is_empty.ensures ∙ c.if-is_empty.false)
    ∙ ap (λ s. c.split_at-2.result.0.now ∷ names_of s) (sym (c.split_at-3.ensures.back ∙ ap (λ k. drop k after) c.min.ensures))
