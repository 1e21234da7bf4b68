use Rattle.hybrid_model.specs.Rings.{all_empty}
use Rattle.ikc_channel.proofs.Places.{empty-all}
use Rattle.ikc_channel.proofs.Rings.are_empty.Goals as goal
use Rattle.ikc_channel.specs.Lines.{Lines}
use Rattle.std.proofs.Common.{ap, sym, ◌∙◌}

pub returns : goal.returns
returns c = rw (c.all_are_empty.ensures, c.deref.ensures.value) (sym (empty-all c.self.inside.rings.items) ∙ ap (λ (v : Lines). all_empty v.messages) c.self.view_is)
