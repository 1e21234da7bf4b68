use Rattle.hybrid_model.specs.Spaces.{copied_pages}
use Rattle.kernel_model.specs.Layout.{guest_memory}
use Rattle.kernel_tables.specs.Shown.{node_of}
use Rattle.lwk_space.specs.Frames.{space}
use Rattle.mck_word.specs.EachLaws.{each-put}
use Rattle.mck_word.specs.Maps.{Map, each, entries, no_rows, put}
use Rattle.pair_core.proofs.BootFolds.{pair-more}
use Rattle.pair_core.proofs.BootNode.{any-files, rings-more, same-frames}
use Rattle.pair_core.proofs.parts.Parts.load.Goals as goal
use Rattle.pair_core.specs.Booting.{IsBefore, guest_at, node_with}
use Rattle.pair_core.specs.Shown.{pair_of, shown_side}
use Rattle.pair_core.specs.declared.parts.Side.{Side}
use Rattle.std.proofs.Common.{List, ap, subst, sym, ℕ, ◌+◌, ◌∙◌}

pub put_guest-requires-clause-before : goal.put_guest-requires-clause-before
unfolding pair_of
put_guest-requires-clause-before g c = λ files.
    subst (IsBefore c.args.number) (sym (c.reserve_guest.ensures.node files)) (any-files c.args.number c.args.self.now.lwk.node (g.F.FileStore.files c.args.self.now.files) files c.requires.before)

pub returns-clause-state : goal.returns-clause-state
unfolding pair_of
returns-clause-state g c =
    let shown = shown_side g.T.PageTable.rows in
    let x = c.args.self.now in
    let files = g.F.FileStore.files x.files in
    let guest = guest_at c.args.number c.args.line.now c.args.image.now in
    let side = c.in_ok-side.side in
    let node = c.put_guest.ensures files ∙ ap (node_with guest) (c.reserve_guest.ensures.node files) in
    let puts = ap (each shown) c.put.ensures.row
    ∙ (each-put shown c.reserve.new.self.map c.args.number side ∙ ap (λ (m : Map (Side g.row.T.Denot)). put (each shown m) c.args.number (shown side)) c.reserve.ensures.same) in
    let loaded = c.in_ok-space.ensures.loaded
    ∙ ap (λ (arguments : List (List ℕ)). copied_pages (entries (guest_memory c.args.image.now arguments)) (space no_rows x.lwk.frames x.lwk.pool)) c.as_slice.ensures in
    pair-more (pair_of g.T.PageTable.rows g.F.FileStore.files x) (node_of c.put_guest.new.node files) (each shown c.put.new.self.map) (shown side)
    (space (g.T.PageTable.rows c.in_ok-space.space.table) c.load_guest.new.mem c.load_guest.new.pool) guest node puts c.in_ok-side.ensures.side loaded

pub returns-clause-kept : goal.returns-clause-kept
returns-clause-kept g c =
    let x = c.args.self.now in
    let files = g.F.FileStore.files x.files in
    let guest = guest_at c.args.number c.args.line.now c.args.image.now in
    let same = same-frames x.lwk.node c.put_guest.new.node files guest (c.put_guest.ensures files ∙ ap (node_with guest) (c.reserve_guest.ensures.node files)) in
    let row = c.put.ensures.row ∙ ap (λ (m : Map (Side g.row.T.Denot)). put m c.args.number c.in_ok-side.side) c.reserve.ensures.same in
    record {
      rings = rings-more (49 + x.workers) x.sides.map c.put.new.self.map c.args.number c.in_ok-side.side row c.requires.kept.rings c.in_ok-side.ensures.rings;
      pages = c.in_ok-space.ensures.mem ∙ (c.requires.kept.pages ∙ sym same);
      pool = c.in_ok-space.ensures.pool ∙ (c.requires.kept.pool ∙ sym same);
    }
