use Rattle.std.proofs.Common.{rules, slice_index_or, slice_set, [], refl, ap, ◌∙◌}
use Rattle.frame_mem.proofs.FrameMem.array_mut.Goals as goal

pub returns : goal.returns
returns c =
    let i = c.args.f.0 in (
      (refl, λ w. ap (λ ps. slice_set ps i w) c.self.view_is),
      record { writes_back = tt; page = c.page_at_mut.ensures.page ∙ ap (λ ps. slice_index_or ps i []) c.self.view_is; len = search rules },
    )
