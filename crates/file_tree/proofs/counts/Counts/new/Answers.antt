use Rattle.std.proofs.Common.{◌∙◌, ap, arith}
use Rattle.file_tree.specs.Counting.{count_in}
use Rattle.file_tree.specs.CountLaws.{count-none}
use Rattle.file_tree.proofs.counts.Counts.new.Goals as goal

pub invariant_of-result : goal.invariant_of-result
invariant_of-result c = λ n. let none = ap (λ t. count_in t.map n) c.new.ensures ∙ count-none n in omega arith
