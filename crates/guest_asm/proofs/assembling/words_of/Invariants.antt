use Rattle.std.proofs.Common.{◌≡◌, ◌+◌, ◌≤◌, map, drop}
use Rattle.guest_asm.specs.Assembly.{words_from, after_these}
use Rattle.guest_asm.specs.Labels.{marks_in}
use Rattle.guest_asm.proofs.assembling.words_of.Given as goal

abbrev pub invariant-loop-text : goal.invariant-loop-text
invariant-loop-text l = record {
  value : after_these l.words (words_from (marks_in l.labels) l.line l.place (map (λ x. x.now) (drop l.text-index l.lines))) ≡ words_from (marks_in l.labels) 1 0 (map (λ x. x.now) l.lines);
  line : l.line ≡ l.text-index + 1;
  place : l.place ≤ l.text-index;
}
