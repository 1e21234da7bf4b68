use Rattle.std.proofs.Common.{◌≡◌, ◌+◌, ◌≤◌, ℕ, List, map, drop}
use Rattle.std.specs.Option.{option_or}
use Rattle.guest_asm.specs.Assembly.{marks_from}
use Rattle.guest_asm.specs.Labels.{marks_in}
use Rattle.guest_asm.proofs.assembling.labels_of.Given as goal

abbrev pub invariant-loop-text : goal.invariant-loop-text
invariant-loop-text l = record {
  value : (name : List ℕ) → option_or (marks_in l.labels name) (marks_from l.line l.place (map (λ x. x.now) (drop l.text-index l.lines)) name) ≡ marks_from 1 0 (map (λ x. x.now) l.lines) name;
  line : l.line ≡ l.text-index + 1;
  place : l.place ≤ l.text-index;
}
