use Rattle.std.proofs.Common.{rules, ◌≡◌, ◌≤ℤ◌, ◌<ℤ◌, ◌^◌, true, false, of_z, pos, subst, sym, to_z, w64, ap, ◌∙◌}
use Rattle.std.specs.Prelude.{◌||◌}
use Rattle.call_progress.specs.Kept.{HasActed, Kept}
use Rattle.file_calls.specs.FileSteps.{IsNumber}
use Rattle.file_model.specs.FileSteps.{file_step}
use Rattle.file_model.specs.declared.operations.FileAns.TheVariants as answer
use Rattle.kernel_model.specs.CallPhases.{act_of}
use Rattle.kernel_model.specs.Progress.{Progress}
use Rattle.system_calls.specs.FileCalls.{is_read, is_write}
use Rattle.call_progress.proofs.ActSteps.{acted-value, small-found}
use Rattle.call_progress.proofs.progress.Progress.act.Goals as goal

pub take_found-requires-clause-high : goal.take_found-requires-clause-high
take_found-requires-clause-high g c =
    let p = c.args.self.now.progress in
    let value = c.make_act-value.result in
    let op = c.act_of-op.ensures ∙ ap (λ (k : Kept). act_of k.progress.call k.progress.arguments) c.self.view_is in
    let keeps = c.make_act-value.ensures.acted.keeps in
    let stream : (is_read p.call || is_write p.call) ≡ true = ap (λ (q : Progress). is_read q.call || is_write q.call) (sym keeps) ∙ sym c.has_stream.ensures ∙ c.if-has_stream.true in
    let same : to_z w64 (of_z w64 value) ≡ value = search rules in
    subst (λ v. v <ℤ pos (2 ^ 32)) (sym same) (small-found p.call p.arguments value stream (subst (λ o. IsNumber o (answer.Done value)) op c.make_act-value.ensures.few))

pub returns : goal.returns
returns g c =
    let p = c.args.self.now.progress in
    let files = g.S.FileStore.files c.args.files.now in
    let value = c.make_act-value.result in
    let mid = c.make_act-value.new.self in
    let left = g.S.FileStore.files c.make_act-value.new.files in
    let op = c.act_of-op.ensures ∙ ap (λ (k : Kept). act_of k.progress.call k.progress.arguments) c.self.view_is in
    let acts = subst (λ o. HasActed (file_step files c.args.pid.0 o p.buffer) value left c.args.self.now mid) op c.make_act-value.ensures.acted in
    let stream : (is_read p.call || is_write p.call) ≡ false = ap (λ (q : Progress). is_read q.call || is_write q.call) (sym acts.keeps) ∙ sym c.has_stream.ensures ∙ c.if-has_stream.false in
    let same : to_z w64 (of_z w64 value) ≡ value = search rules in
    let low : pos 0 ≤ℤ to_z w64 (of_z w64 value) = search rules in
    let r = file_step files c.args.pid.0 (act_of p.call p.arguments) p.buffer in
    c.take_value.ensures ∙ acted-value p mid.progress r (to_z w64 (of_z w64 value)) mid.out left low (same ∙ acts.answers) stream acts.keeps (acts.gives (subst (λ v. pos 0 ≤ℤ v) same low)) acts.leaves
