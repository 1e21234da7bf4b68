use Rattle.std.proofs.Common.{◌∙◌, ap, ◌==◌}
use Rattle.mck_word.specs.Maps.{some_row}
use Rattle.one_files.proofs.Slots.{some-slots}
use Rattle.one_files.proofs.descriptors.Descriptors.names.Goals as goal

pub returns : goal.returns
returns c = c.some_names.ensures ∙ some-slots (λ n. n == c.args.d) c.self.inside.slots ∙ ap (some_row (λ fd named. named == c.args.d)) c.self.view_is
