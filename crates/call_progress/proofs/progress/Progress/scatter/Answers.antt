use Rattle.std.proofs.Common.{List, ◌∷◌, drop, take, ap, ◌∙◌}
use Rattle.call_progress.specs.Kept.{moved}
use Rattle.kernel_model.specs.CallPhases.{Phase, Scatter}
use Rattle.kernel_model.specs.Progress.{advanced, ranges_left, settle}
use Rattle.mck_word.specs.Lists.{spliced, tail}
use Rattle.mck_word.specs.declared.parts.Piece.{Piece}
use Rattle.call_progress.proofs.PhaseCases.{scatter-past}
use Rattle.call_progress.proofs.progress.Progress.scatter.Goals as goal

pub returns : goal.returns
returns g c =
    let p = c.args.self.now.progress in
    let files = g.S.FileStore.files c.args.files.now in
    let piece = c.next_piece-piece.ensures in
    let page = c.put_front.ensures ∙ ap (λ (q : Piece). spliced c.args.page.now q.off (take q.len p.buffer)) piece in
    let rest = c.pass_front.ensures
    ∙ ap (λ (phases : List Phase). settle (record p { buffer = drop c.next_piece-piece.result.len p.buffer; phases = phases }) files) (scatter-past c.next_piece-piece.result.len p.phases c.requires.kind)
    ∙ ap (λ (q : Piece). settle (record p { buffer = drop q.len p.buffer; phases = Scatter (advanced q.len (ranges_left p)) ∷ tail p.phases }) files) piece in
    λ i. moved (page i) (rest i)
