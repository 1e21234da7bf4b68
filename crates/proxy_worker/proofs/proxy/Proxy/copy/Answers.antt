use Rattle.hybrid_model.specs.Workers.{state_if}
use Rattle.hybrid_model.specs.Sides.{with_state}
use Rattle.kernel_model.specs.Progress.{Moved}
use Rattle.proxy_worker.proofs.PiecesCopied.{copy-kind, copy-linux, copy-low, copy-moved, copy-there}
use Rattle.std.proofs.Common.{ap, ◌∙◌}
use Rattle.proxy_worker.proofs.proxy.Proxy.copy.Goals as goal

pub row_mut-requires : goal.row_mut-requires
row_mut-requires g c = copy-there c.args.self.now c.args.book.now.requests (g.S.FileStore.files c.args.files.now) c.args.worker c.requires.may c.serves-q.result.0 c.serves-q.ensures

pub copy-ended-requires-clause-kind : goal.copy-ended-requires-clause-kind
copy-ended-requires-clause-kind g c =
    copy-kind c.args.self.now c.args.book.now.requests (g.S.FileStore.files c.args.files.now) c.args.worker c.requires.may c.serves-q.result.0 c.row_mut.result.now c.serves-q.ensures c.row_mut.ensures.value

pub copy-ended-requires-clause-low : goal.copy-ended-requires-clause-low
copy-ended-requires-clause-low g c = copy-low c.args.self.now c.args.worker c.serves-q.result.0 c.row_mut.result.now c.serves-q.ensures c.row_mut.ensures.value c.requires.low

pub returns-clause-page : goal.returns-clause-page
returns-clause-page g c =
    c.copy-ended.ensures.page
    ∙ ap (λ (m : Moved). m.page) (copy-moved c.args.self.now c.args.worker c.serves-q.result.0 c.row_mut.result.now c.serves-q.ensures c.row_mut.ensures.value (g.S.FileStore.files c.args.files.now) c.args.pid.0 c.args.page.now)

pub returns-clause-linux : goal.returns-clause-linux
returns-clause-linux g c =
    copy-linux c.args.self.now c.args.worker c.serves-q.result.0 c.row_mut.result.now c.serves-q.ensures c.row_mut.ensures.value c.copy-ended.new.self c.args.self.now.services.spare c.copied.new.self (g.S.FileStore.files c.args.files.now) c.args.pid.0 c.args.page.now
    c.copy-ended.ensures.service c.copied.ensures

pub returns-clause-book : goal.returns-clause-book
returns-clause-book g c =
    let after = copy-moved c.args.self.now c.args.worker c.serves-q.result.0 c.row_mut.result.now c.serves-q.ensures c.row_mut.ensures.value (g.S.FileStore.files c.args.files.now) c.args.pid.0 c.args.page.now in
    let ended = c.copy-ended.ensures.ended ∙ ap (λ (m : Moved). m.after.ended) after in
    c.step_book.ensures ∙ (λ i. with_state c.args.book.now.requests (c.serves-q.ensures i) (state_if (ended i)))

pub returns-clause-files : goal.returns-clause-files
returns-clause-files g c =
    c.copy-ended.ensures.files
    ∙ ap (λ (m : Moved). m.after.files) (copy-moved c.args.self.now c.args.worker c.serves-q.result.0 c.row_mut.result.now c.serves-q.ensures c.row_mut.ensures.value (g.S.FileStore.files c.args.files.now) c.args.pid.0 c.args.page.now)
