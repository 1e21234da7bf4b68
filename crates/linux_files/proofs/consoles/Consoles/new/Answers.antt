use Rattle.std.proofs.Common.{ap, ◌∙◌}
use Rattle.mck_word.specs.MapLaws.{at-none}
use Rattle.mck_word.specs.Maps.{at}
use Rattle.linux_files.proofs.consoles.Consoles.new.Goals as goal

pub invariant_of-result : goal.invariant_of-result
invariant_of-result c = λ k _. ap (λ t. at t.map k) c.new.ensures ∙ at-none k
