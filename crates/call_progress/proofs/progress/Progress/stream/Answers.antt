use Rattle.std.proofs.Common.{◌≤◌, length, take, drop, ◌∙◌, arith}
use Rattle.call_progress.specs.Kept.{moved}
use Rattle.file_model.specs.FileSteps.{file_step}
use Rattle.file_model.specs.Operations.{FileResult}
use Rattle.file_model.specs.declared.operations.FileOp.{FileOp}
use Rattle.kernel_model.specs.Progress.{Moved, nat_of, next_piece, ranges_left, settle, streamed_on}
use Rattle.mck_word.specs.Lists.{spliced}
use Rattle.mck_word.specs.declared.parts.Piece.{Piece}
use Rattle.call_progress.proofs.StreamSteps.{stream-step}
use Rattle.call_progress.proofs.progress.Progress.stream.Goals as goal

pub returns : goal.returns
returns g c =
    let p = c.args.self.now.progress in
    let files = g.S.FileStore.files c.args.files.now in
    let page = c.args.page.now in
    let step : FileOp → Piece → FileResult = λ op piece. file_step files c.args.pid.0 op (take piece.len (drop piece.off page)) in
    let by : FileOp → Piece → Moved = λ op piece. moved (spliced page piece.off (step op piece).out) (settle (streamed_on p (ranges_left p) (nat_of (step op piece).answer)) (step op piece).files) in
    let low : (next_piece p).off ≤ length page = omega (arith, c.requires.page) in
    (λ i. moved (c.step_within-n.ensures.page i) ((c.pass_moved.ensures ∙ (λ j. settle (streamed_on p (ranges_left p) (c.step_within-n.ensures.moves j)) (c.step_within-n.ensures.files j))) i))
    ∙ (λ i. by (c.stream_operation-op.ensures i) (c.next_piece-piece.ensures i))
    ∙ stream-step p (ranges_left p) files c.args.pid.0 page low
