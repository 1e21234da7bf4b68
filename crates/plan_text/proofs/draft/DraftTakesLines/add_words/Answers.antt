use Rattle.std.proofs.Common.{subst, sym}
use Rattle.job_text.proofs.TextLines.{kept_on_ok}
use Rattle.plan_text.specs.Kept.{IsPlanned}
use Rattle.plan_text.proofs.Planned.{first_kept, next_kept}
use Rattle.plan_text.proofs.draft.DraftTakesLines.add_words.Goals as goal

pub returns-in-Some-clause-kept : goal.returns-in-Some-clause-kept
returns-in-Some-clause-kept c =
    let so_far = subst IsPlanned c.in-Some.is c.requires.so_far in
    kept_on_ok _ _ _ _ c.next_command.ensures (next_kept _ _ c.args.line c.args.words.now c.requires.line so_far)

pub returns-in_ok-first_command-in-None-clause-kept : goal.returns-in_ok-first_command-in-None-clause-kept
returns-in_ok-first_command-in-None-clause-kept c = first_kept _ c.args.words.now (sym c.in_ok-first_command-in-None.ensures)
