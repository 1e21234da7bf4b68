use Rattle.hybrid_model.specs.Intake.{take_reply}
use Rattle.hybrid_model.specs.Rings.{rest_of as rest}
use Rattle.hybrid_model.specs.declared.events.Event.TheVariants.{Intake}
use Rattle.pair_core.proofs.Found.{after-is, has-row, of-process}
use Rattle.pair_core.proofs.KernelFacts.{kept-after, sound-table}
use Rattle.pair_core.proofs.Memory.{acked-round, at-ack, fits-in, heap-in, takes-ack}
use Rattle.pair_core.proofs.Taken.{callers-fit, fault-of-worker, leaves-empty, leaves-other, takes-fault, takes-reply}
use Rattle.pair_core.proofs.parts.Parts.intake.Goals as goal
use Rattle.pair_core.specs.Shown.{here_in, pair_of, rest_of, shown_side}
use Rattle.std.proofs.Common.{ap, of_z, refl, rules, sym, to_z, w64, ◌∙◌, ◌≡◌}
use Rattle.std.specs.Prelude.{Some}

pub row_mut-side-requires : goal.row_mut-side-requires
row_mut-side-requires g c = has-row g.T.PageTable.rows g.F.FileStore.files c.args.self.now c.args.p.0 (Intake c.args.p) refl c.requires.ready

pub take_reply-requires : goal.take_reply-requires
take_reply-requires g c =
    let x = c.args.self.now in
    let s = c.row_mut-side.result.now in
    let pair = pair_of g.T.PageTable.rows g.F.FileStore.files x in
    let sound = c.requires.ready.sound in
    let k = of-process g.T.PageTable.rows g.F.FileStore.files x c.args.p.0 s c.row_mut-side.ensures.value sound.coherent in
    callers-fit c.args.p.0 pair (shown_side g.T.PageTable.rows s) k s.task.callers.map refl (c.few.ensures.numbers pair sound.coherent sound.small)

pub take_fault-requires : goal.take_fault-requires
unfolding pair_of
take_fault-requires g c =
    let x = c.args.self.now in
    let s = c.row_mut-side.result.now in
    let pair = pair_of g.T.PageTable.rows g.F.FileStore.files x in
    let sound = c.requires.ready.sound in
    let k = of-process g.T.PageTable.rows g.F.FileStore.files x c.args.p.0 s c.row_mut-side.ensures.value sound.coherent in
    fault-of-worker c.args.p.0 pair (shown_side g.T.PageTable.rows s) k c.in-Fault.worker c.in-Fault.page c.in-Fault.access sound.small.workers
    (sym c.head.ensures ∙ sym c.copied.ensures ∙ c.in-Some.is ∙ ap Some c.in-Fault.is)

pub take_ack-requires : goal.take_ack-requires
unfolding pair_of
take_ack-requires g c =
    let x = c.args.self.now in
    let p = c.args.p.0 in
    let s = c.row_mut-side.result.now in
    let rows = g.T.PageTable.rows in
    let files = g.F.FileStore.files in
    let pair = pair_of rows files x in
    let there = c.row_mut-side.ensures.value in
    let sound = c.requires.ready.sound in
    let k = of-process rows files x p s there sound.coherent in
    let first = sym c.head.ensures ∙ sym c.copied.ensures ∙ c.in-Some.is ∙ ap Some c.in-Ack.is in
    record {
      sound = sound-table rows files x p s there sound.coherent c.requires.kept;
      acked = acked-round p pair (shown_side rows s) k first;
      heap = heap-in rows files x sound p;
      fits = fits-in rows files x sound;
      room = at-ack _ s.channel.to_lwk.items first (c.requires.room s there);
    }

pub returns-in-Ack-clause-after : goal.returns-in-Ack-clause-after
returns-in-Ack-clause-after g c =
    let x = c.args.self.now in
    let s = c.row_mut-side.result.now in
    let h = here_in g.T.PageTable.rows g.F.FileStore.files x s in
    after-is g.T.PageTable.rows g.F.FileStore.files x _ c.args.p.0 s _ (Intake c.args.p) c.row_mut-side.ensures.value refl refl
    (c.take_ack.ensures.event (rest_of g.T.PageTable.rows g.F.FileStore.files x s)
    ∙ takes-ack c.args.p.0 s.channel.to_lwk.items h (sym c.head.ensures ∙ sym c.copied.ensures ∙ c.in-Some.is ∙ ap Some c.in-Ack.is))

pub returns-in-Ack-clause-kept : goal.returns-in-Ack-clause-kept
returns-in-Ack-clause-kept g c =
    kept-after g.T.PageTable.rows g.F.FileStore.files c.args.self.now _ c.args.p.0 c.row_mut-side.result.now _ (Intake c.args.p) c.requires.kept c.row_mut-side.ensures.value refl refl (returns-in-Ack-clause-after g c)
    c.take_ack.ensures.frames.pages c.take_ack.ensures.frames.pool c.take_ack.ensures.rings.to_linux c.take_ack.ensures.rings.to_lwk

pub returns-in-Reply-clause-after : goal.returns-in-Reply-clause-after
returns-in-Reply-clause-after g c =
    let x = c.args.self.now in
    let s = c.row_mut-side.result.now in
    let h = here_in g.T.PageTable.rows g.F.FileStore.files x s in
    let same : to_z w64 (of_z w64 c.in-Reply.code) ≡ c.in-Reply.code = search rules in
    after-is g.T.PageTable.rows g.F.FileStore.files x _ c.args.p.0 s _ (Intake c.args.p) c.row_mut-side.ensures.value refl refl
    (c.take_reply.ensures.event (rest_of g.T.PageTable.rows g.F.FileStore.files x s)
    ∙ ap (λ z. take_reply c.in-Reply.q.0 z (rest s.channel.to_lwk.items) h) same
    ∙ takes-reply c.args.p.0 s.channel.to_lwk.items c.in-Reply.q c.in-Reply.code h (sym c.head.ensures ∙ sym c.copied.ensures ∙ c.in-Some.is ∙ ap Some c.in-Reply.is))

pub returns-in-Reply-clause-kept : goal.returns-in-Reply-clause-kept
returns-in-Reply-clause-kept g c =
    kept-after g.T.PageTable.rows g.F.FileStore.files c.args.self.now _ c.args.p.0 c.row_mut-side.result.now _ (Intake c.args.p) c.requires.kept c.row_mut-side.ensures.value refl refl (returns-in-Reply-clause-after g c)
    c.take_reply.ensures.frames.pages c.take_reply.ensures.frames.pool c.take_reply.ensures.rings.to_linux c.take_reply.ensures.rings.to_lwk

pub returns-in-Fault-clause-after : goal.returns-in-Fault-clause-after
returns-in-Fault-clause-after g c =
    let x = c.args.self.now in
    let s = c.row_mut-side.result.now in
    let h = here_in g.T.PageTable.rows g.F.FileStore.files x s in
    after-is g.T.PageTable.rows g.F.FileStore.files x _ c.args.p.0 s _ (Intake c.args.p) c.row_mut-side.ensures.value refl refl
    (c.take_fault.ensures.event (rest_of g.T.PageTable.rows g.F.FileStore.files x s)
    ∙ takes-fault c.args.p.0 s.channel.to_lwk.items c.in-Fault.worker c.in-Fault.page c.in-Fault.access h (sym c.head.ensures ∙ sym c.copied.ensures ∙ c.in-Some.is ∙ ap Some c.in-Fault.is))

pub returns-in-Fault-clause-kept : goal.returns-in-Fault-clause-kept
returns-in-Fault-clause-kept g c =
    kept-after g.T.PageTable.rows g.F.FileStore.files c.args.self.now _ c.args.p.0 c.row_mut-side.result.now _ (Intake c.args.p) c.requires.kept c.row_mut-side.ensures.value refl refl (returns-in-Fault-clause-after g c)
    refl refl c.take_fault.ensures.rings.to_linux c.take_fault.ensures.rings.to_lwk

pub returns-in_default-clause-after : goal.returns-in_default-clause-after
returns-in_default-clause-after g c =
    let x = c.args.self.now in
    let s = c.row_mut-side.result.now in
    let h = here_in g.T.PageTable.rows g.F.FileStore.files x s in
    after-is g.T.PageTable.rows g.F.FileStore.files x _ c.args.p.0 s s (Intake c.args.p) c.row_mut-side.ensures.value refl refl
    (leaves-empty c.args.p.0 s.channel.to_lwk.items h (sym c.head.ensures ∙ sym c.copied.ensures ∙ c.in_default.is))

pub returns-in_default-clause-kept : goal.returns-in_default-clause-kept
returns-in_default-clause-kept g c =
    let s = c.row_mut-side.result.now in
    kept-after g.T.PageTable.rows g.F.FileStore.files c.args.self.now _ c.args.p.0 s s (Intake c.args.p) c.requires.kept c.row_mut-side.ensures.value refl refl (returns-in_default-clause-after g c)
    refl refl refl refl

pub returns-in_default-m : goal.returns-in_default-m
returns-in_default-m g c =
    let x = c.args.self.now in
    let s = c.row_mut-side.result.now in
    let h = here_in g.T.PageTable.rows g.F.FileStore.files x s in
    let is = after-is g.T.PageTable.rows g.F.FileStore.files x _ c.args.p.0 s s (Intake c.args.p) c.row_mut-side.ensures.value refl refl
    (leaves-other c.args.p.0 s.channel.to_lwk.items c.in-Some.m h (sym c.head.ensures ∙ sym c.copied.ensures ∙ c.in-Some.is) c.in_default-m.not-Ack c.in_default-m.not-Reply c.in_default-m.not-Fault) in
    record { after = is; kept = kept-after g.T.PageTable.rows g.F.FileStore.files x _ c.args.p.0 s s (Intake c.args.p) c.requires.kept c.row_mut-side.ensures.value refl refl is refl refl refl refl }
