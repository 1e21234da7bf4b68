use Rattle.std.proofs.Common.{◌≡◌, false, length, nat_lt, subst, sym, arith}
use Rattle.std.proofs.lemmas.Bool.Decides.{nat_tests}
use Rattle.std.specs.List.{list_any}
use Rattle.job_text.specs.TextLines.{IsLine, is_odd_byte}
use Rattle.job_text.proofs.WordLists.{line_words}
use Rattle.job_text.proofs.text_lines.add_line.Goals as goal

pub add_words-requires-clause-line : goal.add_words-requires-clause-line
add_words-requires-clause-line g c =
    let short : nat_lt 1024 (length c.args.bytes.now) ≡ false = grind (arith, nat_tests) in
    let even : list_any is_odd_byte c.args.bytes.now ≡ false = grind (arith, nat_tests) in
    subst IsLine (sym c.in_ok-words.ensures) (line_words c.args.bytes.now short even)
