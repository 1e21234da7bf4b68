use Rattle.file_summary.proofs.Consoles.{all-outputs, one-output}
use Rattle.file_summary.proofs.Places.{place-within}
use Rattle.file_summary.proofs.console_rows.outputs.Goals as goal
use Rattle.mck_word.specs.Maps.{keys}
use Rattle.std.proofs.Common.{sym, ◌∙◌}
use Rattle.std.specs.Prelude.{[], ◌++◌, ◌∷◌}

pub consoles-preserved : goal.consoles-preserved
consoles-preserved g c =
    let files = g.F.FileStore.files c.args.files.now in
    let there = sym c.in-Some.ensures.guest in
    record {
      within = place-within (keys files.consoles) c.consoles.place c.in-Some.pid.0 there;
      outputs = c.in_ok-push.ensures.ok
          ∙ (λ i. c.consoles.invariant.outputs i ++ c.in_ok-output_of.ensures i ∷ [])
          ∙ sym (one-output files (keys files.consoles) c.consoles.place c.in-Some.pid.0 there);
    }

pub returns : goal.returns
returns g c = c.consoles.invariant.outputs ∙ all-outputs (g.F.FileStore.files c.args.files.now) c.consoles.place (sym c.in_default.ensures.guest)
