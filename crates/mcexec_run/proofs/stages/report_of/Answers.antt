use Rattle.hybrid_model.specs.Journals.{ending}
use Rattle.hybrid_model.specs.Shown.{one}
use Rattle.mcexec_run.proofs.stages.report_of.Goals as goal
use Rattle.run_model.specs.Reports.{requests}
use Rattle.run_model.specs.Texts.{text_of}
use Rattle.run_summary.specs.Summaries.{summary_of, summary_parts}
use Rattle.std.proofs.Common.{ap, sym, ◌∙◌}

pub returns : goal.returns
returns g c =
    let pair = g.M.Offers.pair c.args.machine.now in
    let s = summary_of (one pair) in
    let js = c.args.journal.now in
    c.in_ok-text.ensures ∙ (ap (λ x. text_of (summary_parts x c.ending.result c.requests.result js)) c.in_ok-summary.ensures
    ∙ (ap (λ e. text_of (summary_parts s e c.requests.result js)) c.ending.ensures.value ∙ (ap (λ n. text_of (summary_parts s (ending pair) n js)) c.requests.ensures
    ∙ ap text_of (sym (c.one_report.ensures (one pair) (ending pair) (requests pair) js)))))
