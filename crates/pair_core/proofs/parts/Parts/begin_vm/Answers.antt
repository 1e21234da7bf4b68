use Rattle.hybrid_model.specs.Pairs.{Here}
use Rattle.hybrid_model.specs.declared.events.Event.TheVariants.{BeginVm}
use Rattle.kernel_model.specs.Nodes.{change_in, process_of}
use Rattle.mck_word.specs.Maps.{at}
use Rattle.pair_core.proofs.Found.{after-is, has-row, may-here, row-there}
use Rattle.pair_core.proofs.KernelFacts.{kept-after, process-is, wired}
use Rattle.pair_core.proofs.Posting.{MayBegin, begin-is, begin-posts, may-begin-is, no-change, own-ring, place-of}
use Rattle.pair_core.proofs.parts.Parts.begin_vm.Goals as goal
use Rattle.pair_core.specs.Shown.{here_in, pair_of, rest_of}
use Rattle.std.proofs.Common.{ap, refl, sym, ◌∙◌}
use Rattle.std.specs.Prelude.{is_some, ℕ}

pub returns-in_default : goal.returns-in_default
returns-in_default g c = absurd (
    let x = c.args.self.now in
    let p = c.process_of_thread-p.result.0 in
    let process = process-is g.T.PageTable.rows g.F.FileStore.files x c.args.t.0 p c.process_of_thread-p.ensures in
    let row = row-there g.T.PageTable.rows g.F.FileStore.files x p (BeginVm c.args.t) process c.requires.ready in
    let h : Here = here_in g.T.PageTable.rows g.F.FileStore.files x row.0 in
    let may : MayBegin c.args.t.0 h = may-begin-is c.args.t.0 h (may-here g.T.PageTable.rows g.F.FileStore.files x p row.0 (BeginVm c.args.t) row.1 process c.requires.ready) in
    no-change c.does.result (ap (λ d. is_some (change_in d)) (c.does.ensures (g.F.FileStore.files x.files)) ∙ may.changes) c.in_default.not-InVm)

pub row_mut-side-requires : goal.row_mut-side-requires
row_mut-side-requires g c =
    let x = c.args.self.now in
    has-row g.T.PageTable.rows g.F.FileStore.files x c.process_of_thread-p.result.0 (BeginVm c.args.t)
    (process-is g.T.PageTable.rows g.F.FileStore.files x c.args.t.0 c.process_of_thread-p.result.0 c.process_of_thread-p.ensures) c.requires.ready

pub begin_round-requires-clause-wired : goal.begin_round-requires-clause-wired
begin_round-requires-clause-wired g c =
    wired g.T.PageTable.rows g.F.FileStore.files c.args.self.now c.process_of_thread-p.result.0 c.row_mut-side.result.now c.row_mut-side.ensures.value c.requires.ready.sound

pub begin_round-requires-clause-place : goal.begin_round-requires-clause-place
begin_round-requires-clause-place g c =
    let x = c.args.self.now in
    let p = c.process_of_thread-p.result.0 in
    let s = c.row_mut-side.result.now in
    let h : Here = here_in g.T.PageTable.rows g.F.FileStore.files x s in
    let process = process-is g.T.PageTable.rows g.F.FileStore.files x c.args.t.0 p c.process_of_thread-p.ensures in
    let there = c.row_mut-side.ensures.value in
    let sound = c.requires.ready.sound in
    let wires = wired g.T.PageTable.rows g.F.FileStore.files x p s there sound in
    let change = ap change_in (sym (c.does.ensures (g.F.FileStore.files x.files)) ∙ c.in-InVm.is) in
    place-of g.T.PageTable.rows g.F.FileStore.files x p s there (BeginVm c.args.t) c.args.t.0 process
    (begin-posts p c.args.t.0 c.in-InVm.change h change refl (own-ring x.lwk s.channel.to_linux c.args.t.0 wires))
    (c.no_ring_is_full.ensures.room (pair_of g.T.PageTable.rows g.F.FileStore.files x) (BeginVm c.args.t) sound.coherent c.requires.ready.may) c.requires.kept

pub begin_round-requires-clause-none : goal.begin_round-requires-clause-none
begin_round-requires-clause-none g c =
    let x = c.args.self.now in
    let p = c.process_of_thread-p.result.0 in
    let s = c.row_mut-side.result.now in
    let h : Here = here_in g.T.PageTable.rows g.F.FileStore.files x s in
    let process = process-is g.T.PageTable.rows g.F.FileStore.files x c.args.t.0 p c.process_of_thread-p.ensures in
    let may : MayBegin c.args.t.0 h = may-begin-is c.args.t.0 h (may-here g.T.PageTable.rows g.F.FileStore.files x p s (BeginVm c.args.t) c.row_mut-side.ensures.value process c.requires.ready) in
    may.none

pub begin_round-requires-clause-few : goal.begin_round-requires-clause-few
unfolding pair_of
begin_round-requires-clause-few g c =
    let x = c.args.self.now in
    let process = process-is g.T.PageTable.rows g.F.FileStore.files x c.args.t.0 c.process_of_thread-p.result.0 c.process_of_thread-p.ensures in
    c.requires.room.few c.row_mut-side.result.now (ap (λ (q : ℕ). at x.sides.map q) process ∙ c.row_mut-side.ensures.value)

pub returns-clause-after : goal.returns-clause-after
returns-clause-after g c =
    let x = c.args.self.now in
    let p = c.process_of_thread-p.result.0 in
    let s = c.row_mut-side.result.now in
    let h : Here = here_in g.T.PageTable.rows g.F.FileStore.files x s in
    let process = process-is g.T.PageTable.rows g.F.FileStore.files x c.args.t.0 p c.process_of_thread-p.ensures in
    let change = ap change_in (sym (c.does.ensures (g.F.FileStore.files x.files)) ∙ c.in-InVm.is) in
    let range = c.closing_range-range.ensures (process_of h.node p) (sym (c.heap_base.ensures (g.F.FileStore.files x.files))) in
    after-is g.T.PageTable.rows g.F.FileStore.files x _ p s _ (BeginVm c.args.t) c.row_mut-side.ensures.value refl process
    (c.begin_round.ensures.event (rest_of g.T.PageTable.rows g.F.FileStore.files x s)
    ∙ begin-is p c.args.t.0 c.in-InVm.change c.closing_range-range.result h change range)

pub returns-clause-kept : goal.returns-clause-kept
returns-clause-kept g c =
    let s = c.row_mut-side.result.now in
    kept-after g.T.PageTable.rows g.F.FileStore.files c.args.self.now _ c.process_of_thread-p.result.0 s _ (BeginVm c.args.t) c.requires.kept c.row_mut-side.ensures.value refl refl (returns-clause-after g c)
    refl refl c.begin_round.ensures.rings.to_linux c.begin_round.ensures.rings.to_lwk
