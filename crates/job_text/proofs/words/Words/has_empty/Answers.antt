use Rattle.std.proofs.Common.{◌≡◌, ◌∙◌, ◌==◌, ap, sym, length, map}
use Rattle.std.specs.List.{list_any}
use Rattle.job_text.specs.Words.{is_empty}
use Rattle.job_text.proofs.Parts.{list_any-map}
use Rattle.job_text.proofs.words.Words.has_empty.Goals as goal

pub returns : goal.returns
returns c =
    let seen : map (λ x. x.now) c.self.inside.words.items ≡ c.args.self.now = cc in
    c.any_empty.ensures ∙ (ap (list_any (λ word. length word.now == 0)) c.deref.ensures.value ∙ (sym (list_any-map is_empty (λ x. x.now) c.self.inside.words.items) ∙ ap (list_any is_empty) seen))
