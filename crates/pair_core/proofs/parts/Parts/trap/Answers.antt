use Rattle.hybrid_model.specs.Sides.{Side as SideOf}
use Rattle.hybrid_model.specs.declared.events.Event.TheVariants.{Trap}
use Rattle.kernel_model.specs.Traps.{trap}
use Rattle.lwk_side.specs.Changing.{HasTrappedRoom}
use Rattle.lwk_views.specs.Views.{seen}
use Rattle.mck_word.specs.Maps.{at}
use Rattle.pair_core.proofs.Begun.{begins-any, begun-posts, stopped-any}
use Rattle.pair_core.proofs.Clones.{may-clone}
use Rattle.pair_core.proofs.Found.{after-is, has-row, may-here}
use Rattle.pair_core.proofs.KernelFacts.{kept-after, process-is, side-is, sound-table, wired}
use Rattle.pair_core.proofs.Memory.{heap-in}
use Rattle.pair_core.proofs.Posting.{own-ring, place-of}
use Rattle.pair_core.proofs.Sleepers.{may-rest}
use Rattle.pair_core.proofs.parts.Parts.trap.Goals as goal
use Rattle.pair_core.specs.Shown.{here_in, pair_of, rest_of}
use Rattle.std.specs.Prelude.{length, ℕ}
use Rattle.std.proofs.Common.{ap, arith, refl, subst, sym, ◌∙◌}

pub row_mut-side-requires : goal.row_mut-side-requires
row_mut-side-requires g c =
    let x = c.args.self.now in
    has-row g.T.PageTable.rows g.F.FileStore.files x c.process_of_thread-p.result.0 (Trap c.args.t)
    (process-is g.T.PageTable.rows g.F.FileStore.files x c.args.t.0 c.process_of_thread-p.result.0 c.process_of_thread-p.ensures) c.requires.ready

pub trap-requires : goal.trap-requires
unfolding pair_of
trap-requires g c =
    let x = c.args.self.now in
    let t = c.args.t.0 in
    let p = c.process_of_thread-p.result.0 in
    let s = c.row_mut-side.result.now in
    let there = c.row_mut-side.ensures.value in
    let sound = c.requires.ready.sound in
    let pair = pair_of g.T.PageTable.rows g.F.FileStore.files x in
    let process = process-is g.T.PageTable.rows g.F.FileStore.files x t p c.process_of_thread-p.ensures in
    let h = here_in g.T.PageTable.rows g.F.FileStore.files x s in
    let may = may-here g.T.PageTable.rows g.F.FileStore.files x p s (Trap c.args.t) there process c.requires.ready in
    let rings = wired g.T.PageTable.rows g.F.FileStore.files x p s there sound in
    let room = c.requires.room.call s (ap (λ (q : ℕ). at x.sides.map q) process ∙ there) in
    let next = (c.few.ensures.numbers pair sound.coherent sound.small).requests p in
    let own = ap (λ (side : SideOf). side.book.next) (side-is g.T.PageTable.rows g.F.FileStore.files x p s there) in
    record {
      sound = sound-table g.T.PageTable.rows g.F.FileStore.files x p s there sound.coherent c.requires.kept;
      begin = record { wired = rings; room = room.0; callers = room.1; more = omega (arith, next, own) };
      place = λ files e. place-of g.T.PageTable.rows g.F.FileStore.files x p s there (Trap c.args.t) t process
          (begun-posts p t h refl (begins-any x.lwk.node t files (g.F.FileStore.files x.files) e) (own-ring x.lwk s.channel.to_linux t rings))
          (c.no_ring_is_full.ensures.room pair (Trap c.args.t) sound.coherent c.requires.ready.may) c.requires.kept;
      fits = λ files. record {
        rest = λ e. may-rest x.lwk.node (g.F.FileStore.files x.files) t sound.coherent.sleeping sound.coherent.places may c.requires.room.sleeper;
        clone = λ e. may-clone g.T.PageTable.rows g.F.FileStore.files x t sound may c.requires.room.thread;
      };
      no_fork = c.requires.no_fork;
      stopped = λ files. stopped-any x.lwk.node t (g.F.FileStore.files x.files) files may;
      own = record { own = λ files. sym (c.process_of_thread-p.ensures files); heap = heap-in g.T.PageTable.rows g.F.FileStore.files x sound p };
      change = λ files. subst (λ (q : ℕ). HasTrappedRoom (g.T.PageTable.has_room s.task.space.table) s.task.space.areas.spare q (trap t (length x.lwk.pool.free) (seen (g.T.PageTable.rows s.task.space.table) x.lwk.node x.lwk.frames files))) process
          (c.requires.room.change s (ap (λ (q : ℕ). at x.sides.map q) process ∙ there) files);
    }

pub returns-clause-after : goal.returns-clause-after
returns-clause-after g c =
    let x = c.args.self.now in
    let p = c.process_of_thread-p.result.0 in
    let s = c.row_mut-side.result.now in
    after-is g.T.PageTable.rows g.F.FileStore.files x _ p s _ (Trap c.args.t) c.row_mut-side.ensures.value refl
    (process-is g.T.PageTable.rows g.F.FileStore.files x c.args.t.0 p c.process_of_thread-p.ensures)
    (c.trap.ensures.event (rest_of g.T.PageTable.rows g.F.FileStore.files x s))

pub returns-clause-kept : goal.returns-clause-kept
returns-clause-kept g c =
    kept-after g.T.PageTable.rows g.F.FileStore.files c.args.self.now _ c.process_of_thread-p.result.0 c.row_mut-side.result.now _ (Trap c.args.t) c.requires.kept c.row_mut-side.ensures.value refl refl (returns-clause-after g c)
    c.trap.ensures.frames.pages c.trap.ensures.frames.pool c.trap.ensures.rings.to_linux c.trap.ensures.rings.to_lwk
