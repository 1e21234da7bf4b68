use Rattle.std.proofs.Common.{codes, [], ◌∷◌}
use Rattle.run_model.specs.Reports.{count_line, faults, rounds}
use Rattle.run_model.specs.Texts.{Part}
use Rattle.mck_report.proofs.Lines.{last_line, line_then}
use Rattle.mck_report.proofs.report_text.add_counts.Goals as goal

pub returns : goal.returns
returns c =
    let s = c.args.summary.now in
    let requests : Part = count_line (codes "requests") c.args.requests in
    let misses : Part = count_line (codes "faults") (faults c.args.journal.now) in
    let changes : Part = count_line (codes "rounds") (rounds c.args.journal.now) in
    let free : Part = count_line (codes "free") s.free in
    line_then _ _ _ (count_line (codes "instructions") s.instructions) (requests ∷ misses ∷ changes ∷ free ∷ []) c.in_ok-add_count.ensures
    (line_then _ _ _ requests (misses ∷ changes ∷ free ∷ []) c.in_ok-add_count-2.ensures
    (line_then _ _ _ misses (changes ∷ free ∷ []) (rw c.faults.ensures at c.in_ok-add_count-3.ensures)
    (line_then _ _ _ changes (free ∷ []) (rw c.rounds.ensures at c.in_ok-add_count-4.ensures)
    (last_line _ _ free c.in_ok-add_count-5.ensures))))
