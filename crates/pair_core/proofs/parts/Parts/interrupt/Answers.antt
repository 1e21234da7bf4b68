use Rattle.hybrid_model.specs.declared.events.Event.TheVariants.{Interrupt}
use Rattle.pair_core.proofs.Found.{after-is, has-row}
use Rattle.pair_core.proofs.KernelFacts.{kept-after, process-is, wired}
use Rattle.pair_core.proofs.Posting.{interrupt-posts, own-ring, place-of}
use Rattle.pair_core.proofs.parts.Parts.interrupt.Goals as goal
use Rattle.pair_core.specs.Shown.{here_in, pair_of, rest_of}
use Rattle.std.proofs.Common.{refl}

pub row_mut-side-requires : goal.row_mut-side-requires
row_mut-side-requires g c =
    let x = c.args.self.now in
    has-row g.T.PageTable.rows g.F.FileStore.files x c.process_of_thread-p.result.0 (Interrupt c.args.t)
    (process-is g.T.PageTable.rows g.F.FileStore.files x c.args.t.0 c.process_of_thread-p.result.0 c.process_of_thread-p.ensures) c.requires.ready

pub interrupt-requires : goal.interrupt-requires
interrupt-requires g c =
    let x = c.args.self.now in
    let p = c.process_of_thread-p.result.0 in
    let s = c.row_mut-side.result.now in
    let h = here_in g.T.PageTable.rows g.F.FileStore.files x s in
    let process = process-is g.T.PageTable.rows g.F.FileStore.files x c.args.t.0 p c.process_of_thread-p.ensures in
    let there = c.row_mut-side.ensures.value in
    let sound = c.requires.ready.sound in
    let wires = wired g.T.PageTable.rows g.F.FileStore.files x p s there sound in
    record {
      wired = wires;
      place = λ calls. place-of g.T.PageTable.rows g.F.FileStore.files x p s there (Interrupt c.args.t) c.args.t.0 process
          (interrupt-posts s.task.callers.map c.args.t.0 h refl refl calls (own-ring x.lwk s.channel.to_linux c.args.t.0 wires))
          (c.no_ring_is_full.ensures.room (pair_of g.T.PageTable.rows g.F.FileStore.files x) (Interrupt c.args.t) sound.coherent c.requires.ready.may) c.requires.kept;
    }

pub returns-clause-after : goal.returns-clause-after
returns-clause-after g c =
    let x = c.args.self.now in
    let p = c.process_of_thread-p.result.0 in
    let s = c.row_mut-side.result.now in
    let process = process-is g.T.PageTable.rows g.F.FileStore.files x c.args.t.0 p c.process_of_thread-p.ensures in
    after-is g.T.PageTable.rows g.F.FileStore.files x _ p s _ (Interrupt c.args.t) c.row_mut-side.ensures.value refl process
    (c.interrupt.ensures.event (rest_of g.T.PageTable.rows g.F.FileStore.files x s))

pub returns-clause-kept : goal.returns-clause-kept
returns-clause-kept g c =
    let s = c.row_mut-side.result.now in
    kept-after g.T.PageTable.rows g.F.FileStore.files c.args.self.now _ c.process_of_thread-p.result.0 s _ (Interrupt c.args.t) c.requires.kept c.row_mut-side.ensures.value refl refl (returns-clause-after g c)
    c.interrupt.ensures.frames.pages c.interrupt.ensures.frames.pool c.interrupt.ensures.rings.to_linux c.interrupt.ensures.rings.to_lwk
