use Rattle.job_text.specs.Words.{word_at}
use Rattle.job_text.proofs.Drafts.{add_key_kept}
use Rattle.job_text.proofs.TextLines.{kept_on_ok}
use Rattle.job_text.proofs.draft.DraftTakesLines.add_words.Goals as goal

pub returns-clause-kept : goal.returns-clause-kept
returns-clause-kept c =
    kept_on_ok _ _ _ _ c.add_key.ensures (add_key_kept _ _ c.args.line (word_at c.args.words.now 0) c.args.words.now c.requires.line c.requires.so_far)
