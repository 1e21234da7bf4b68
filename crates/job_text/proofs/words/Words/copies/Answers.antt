use Rattle.std.proofs.Common.{◌≡◌, ◌∙◌, ap, sym, subst, map, drop, List, ℕ, IfOk}
use Rattle.std.proofs.lemmas.List.{drop-map}
use Rattle.job_text.proofs.words.Words.copies.Goals as goal

pub returns : goal.returns
returns c =
    let seen : map (λ x. x.now) c.self.inside.words.items ≡ c.args.self.now = cc in
    let rest : c.split_at.result.1.now ≡ drop c.args.from c.self.inside.words.items = c.split_at.ensures.back ∙ ap (drop c.args.from) c.deref.ensures.value in
    let all : map (λ x. x.now) c.split_at.result.1.now ≡ drop c.args.from c.args.self.now =
    ap (map (λ x. x.now)) rest ∙ (sym (drop-map (λ x. x.now) c.args.from c.self.inside.words.items) ∙ ap (drop c.args.from) seen) in
    subst (λ (xs : List (List ℕ)). IfOk c.copies_of.result (λ args. args ≡ xs)) all c.copies_of.ensures
