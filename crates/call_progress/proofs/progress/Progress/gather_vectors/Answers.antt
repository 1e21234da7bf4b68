use Rattle.std.proofs.Common.{◌≡◌, List, ℕ, true, drop, length, get_or, sym, ap, ◌∙◌}
use Rattle.std.specs.Prelude.{◌==◌}
use Rattle.call_progress.specs.Kept.{Kept}
use Rattle.kernel_model.specs.CallPhases.{Act}
use Rattle.kernel_model.specs.Progress.{advanced, ranges_left, ranges_of, without_empty}
use Rattle.call_progress.proofs.VectorSteps.{over-vectors}
use Rattle.call_progress.proofs.progress.Progress.gather_vectors.Goals as goal

pub returns-in-Some : goal.returns-in-Some
returns-in-Some g c =
    let p = c.args.self.now.progress in
    let last : (length (advanced c.args.n (ranges_left p)) == 0) ≡ true =
    ap (λ (k : Kept). length (advanced c.args.n (without_empty (ranges_of (get_or k.progress.phases 0 Act)))) == 0) (sym c.self.view_is) ∙ sym c.is_last.ensures ∙ c.if-not-is_last.false in
    let bytes : c.split_at.result.1.now ≡ p.buffer =
    c.split_at.ensures.back ∙ ap (λ (bs : List ℕ). drop c.self.inside.from bs) c.deref.ensures.value ∙ ap (λ (k : Kept). k.progress.buffer) c.self.view_is in
    c.take_vectors.ensures ∙ over-vectors p (advanced c.args.n (ranges_left p)) (g.S.FileStore.files c.args.files.now) c.split_at.result.1.now c.in-Some.phases last bytes c.in-Some.ensures.is.0 c.in-Some.ensures.is.1
