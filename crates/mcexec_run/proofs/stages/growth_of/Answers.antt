use Rattle.hybrid_model.specs.Journals.{ending}
use Rattle.hybrid_model.specs.Shown.{one}
use Rattle.mcexec_run.proofs.stages.growth_of.Goals as goal
use Rattle.mck_report.specs.Grow.{grow_summary}
use Rattle.run_model.specs.Reports.{ending_line, requests}
use Rattle.run_model.specs.Texts.{Line, Number, Text, text_of}
use Rattle.run_summary.specs.Summaries.{summary_of}
use Rattle.std.proofs.Common.{[], ap, codes, sym, ◌∙◌, ◌∷◌}

pub returns : goal.returns
returns g c =
    let pair = g.M.Offers.pair c.args.machine.now in
    let n = c.args.guests in
    let s = summary_of (one pair) in
    let js = c.args.journal.now in
    c.in_ok-text.ensures ∙ (ap (λ x. text_of (grow_summary n x c.ending.result c.requests.result js)) c.in_ok-summary.ensures
    ∙ (ap (λ e. text_of (grow_summary n s e c.requests.result js)) c.ending.ensures.value ∙ (ap (λ k. text_of (grow_summary n s (ending pair) k js)) c.requests.ensures
    ∙ ap (λ ls. text_of (ending_line (ending pair) ∷ Line (Text (codes "guests") ∷ Number n ∷ []) ∷ ls)) (sym (c.one_count.ensures (one pair) (requests pair) js)))))
