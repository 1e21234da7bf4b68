-- What a map of labels says.
use Rattle.std.specs.BTreeMap.{get_by}
use Rattle.std.specs.Cmp.Lexicographic.{slice_cmp}
use Rattle.std.specs.Ordering.{nat_cmp}
use Rattle.guest_asm.specs.declared.labels.Labels.{Labels}
use Rattle.guest_asm.specs.Lines.{Marks}

-- where each label is defined first
abbrev pub marks_in : Labels → Marks
marks_in l name = get_by (λ k. slice_cmp nat_cmp name k.now) l.marks
