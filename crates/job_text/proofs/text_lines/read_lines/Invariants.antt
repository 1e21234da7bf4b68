use Rattle.std.proofs.Common.{◌≡◌, ◌+◌, ◌≤◌, length}
use Rattle.job_text.specs.TextLines.{add_lines, lines_of}
use Rattle.job_text.proofs.text_lines.read_lines.Given as goal

abbrev pub invariant-loop-rest : goal.invariant-loop-rest
invariant-loop-rest g l = let adds = g.D.TakesLines.adds in record {
  value : add_lines adds l.line l.taken (lines_of l.rest) ≡ add_lines adds 1 l.fn.start (lines_of l.text);
  kept : g.D.TakesLines.keeps l.taken;
  line : l.line + length l.rest ≤ length l.text + 1;
}

abbrev pub decreases-loop-rest : goal.decreases-loop-rest
decreases-loop-rest g l = length l.rest
