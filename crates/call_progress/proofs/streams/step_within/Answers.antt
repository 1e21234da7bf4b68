use Rattle.std.proofs.Common.{rules, ◌≡◌, ◌≤◌, List, ℕ, ◌++◌, length, take, drop, subst, ap, ◌∙◌, arith}
use Rattle.file_calls.specs.Placed.{placed}
use Rattle.file_model.specs.FileSteps.{file_step}
use Rattle.call_progress.proofs.PageBytes.{filled-in}
use Rattle.call_progress.proofs.streams.step_within.Goals as goal

pub returns-clause-page : goal.returns-clause-page
returns-clause-page g c =
    let page = c.args.page.now in
    let piece = c.args.piece in
    let given = take piece.len (drop piece.off page) in
    let files = g.S.FileStore.files c.args.files.now in
    let out : List ℕ → List ℕ = λ bytes. (file_step files c.args.pid.0 c.args.op.now bytes).out in
    let front : c.split_at_mut-rest.result.0.now ≡ take piece.off page = search rules in
    let there : c.split_at_mut-there.result.0.now ≡ given = search rules in
    let back : c.split_at_mut-there.result.1.now ≡ drop piece.len (drop piece.off page) = search rules in
    let filled : c.step_piece.new.bytes ≡ placed (out given) given = c.step_piece.ensures.fills ∙ ap (λ (bytes : List ℕ). placed (out bytes) bytes) there in
    let short : length (out given) ≤ length given = subst (λ (bytes : List ℕ). length (out bytes) ≤ length bytes) there c.step_piece.ensures.gives in
    (λ i. front i ++ (filled i ++ back i)) ∙ filled-in page piece.off piece.len (out given) short (omega arith)
