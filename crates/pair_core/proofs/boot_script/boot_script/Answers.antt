use Rattle.job_model.specs.Prepared.{IsForGuest}
use Rattle.job_model.specs.declared.job.SignalLine.{SignalLine}
use Rattle.kernel_model.specs.Nodes.{ScriptLine as KernelLine}
use Rattle.kernel_model.specs.OneKernel.{script_lines}
use Rattle.kernel_tables.specs.Shown.{shown_line}
use Rattle.kernel_tables.specs.declared.script_lines.ScriptLine.{ScriptLine}
use Rattle.pair_core.proofs.BootLists.{all-rest, map-more}
use Rattle.pair_core.proofs.boot_script.boot_script.Goals as goal
use Rattle.std.proofs.Common.{List, ap, arith, length, map, sym, ◌+◌, ◌++◌, ◌∙◌, ◌∷◌}

pub loop-line-preserved : goal.loop-line-preserved
loop-line-preserved c =
    let was = c.loop-line.invariant in
    let split = c.in-Some.ensures.cases.0 in
    let done = c.loop-line.script.items in
    let index = c.loop-line.index in
    let more = c.in-Some.more.now in
    let long = ap length split in
    record {
      left = ap (λ (xs : List ScriptLine). map shown_line xs ++ script_lines (index + 1) more) c.in_ok-push.ensures.items
          ∙ (map-more shown_line done c.in_ok-script_line.field-0 (script_lines (index + 1) more)
          ∙ (ap (λ (y : KernelLine). map shown_line done ++ (y ∷ script_lines (index + 1) more)) c.in_ok-script_line.ensures
          ∙ (ap (λ (rest : List SignalLine). map shown_line done ++ script_lines index rest) (sym split) ∙ was.left)));
      kept = all-rest (IsForGuest (length c.args.job.now.guests)) c.loop-line.rest.now more c.in-Some.line.now split was.kept;
      few = omega (arith, was.few, long);
    }
