use Rattle.isa_model.specs.Memory.{Page}
use Rattle.std.proofs.Common.{ap, length, replicate, ◌∙◌, List, ℕ, ◌≡◌}
use Rattle.one_memory.proofs.page_row.PageRow.clear.Goals as goal

pub returns : goal.returns
returns c =
    let long : length c.deref_mut.result.now ≡ 4096 = search in
    ap (λ (b : List ℕ). let g : Page = record { rights = c.args.rights; bytes = b } in g) (c.fill.ensures.after (λ y e. e) ∙ ap (λ n. replicate n 0) long)
