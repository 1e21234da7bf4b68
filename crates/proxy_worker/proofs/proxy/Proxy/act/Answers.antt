use Rattle.hybrid_model.specs.Workers.{state_if}
use Rattle.hybrid_model.specs.Sides.{with_state}
use Rattle.kernel_model.specs.Progress.{After}
use Rattle.proxy_worker.proofs.Acts.{act-after, act-kind, act-linux}
use Rattle.proxy_worker.proofs.Parts.{has-service}
use Rattle.proxy_worker.specs.Fits.{HasService}
use Rattle.std.proofs.Common.{ap, subst, sym, ◌∙◌}
use Rattle.std.specs.Prelude.{ℕ}
use Rattle.proxy_worker.proofs.proxy.Proxy.act.Goals as goal

pub row_mut-requires : goal.row_mut-requires
row_mut-requires g c = has-service c.args.self.now.services.map c.serves-q.result.0 (subst (λ (j : ℕ). HasService c.args.self.now j) (sym c.serves-q.ensures) c.requires.service)

pub act-ended-requires-clause-kind : goal.act-ended-requires-clause-kind
act-ended-requires-clause-kind g c =
    act-kind c.args.self.now c.args.worker c.serves-q.result.0 c.row_mut.result.now c.serves-q.ensures c.row_mut.ensures.value c.args.book.now.requests (g.S.FileStore.files c.args.files.now) c.requires.may

pub returns-clause-linux : goal.returns-clause-linux
returns-clause-linux g c =
    act-linux c.args.self.now c.args.worker c.serves-q.result.0 c.row_mut.result.now c.serves-q.ensures c.row_mut.ensures.value c.act-ended.new.self c.args.self.now.services.spare (g.S.FileStore.files c.args.files.now) c.args.pid.0
    c.act-ended.ensures.service

pub returns-clause-book : goal.returns-clause-book
returns-clause-book g c =
    let after = act-after c.args.self.now c.args.worker c.serves-q.result.0 c.row_mut.result.now c.serves-q.ensures c.row_mut.ensures.value (g.S.FileStore.files c.args.files.now) c.args.pid.0 in
    let ended = c.act-ended.ensures.ended ∙ ap (λ (a : After). a.ended) after in
    c.step_book.ensures ∙ (λ i. with_state c.args.book.now.requests (c.serves-q.ensures i) (state_if (ended i)))

pub returns-clause-files : goal.returns-clause-files
returns-clause-files g c =
    c.act-ended.ensures.files
    ∙ ap (λ (a : After). a.files) (act-after c.args.self.now c.args.worker c.serves-q.result.0 c.row_mut.result.now c.serves-q.ensures c.row_mut.ensures.value (g.S.FileStore.files c.args.files.now) c.args.pid.0)
