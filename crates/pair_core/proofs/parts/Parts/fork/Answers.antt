use Rattle.hybrid_model.specs.Sides.{Side as SideOf}
use Rattle.hybrid_model.specs.declared.events.Event.TheVariants.{Trap}
use Rattle.lwk_side.specs.Forked.{born_of, born_side, shared}
use Rattle.lwk_side.specs.Shown.{here_of}
use Rattle.mck_word.specs.Maps.{at}
use Rattle.pair_core.proofs.Begins.{after-born, is-newborn, kept-born, may-fork}
use Rattle.pair_core.proofs.Found.{after-is, may-here, row-there}
use Rattle.pair_core.proofs.KernelFacts.{kept-after, process-is, sound-table}
use Rattle.pair_core.proofs.parts.Parts.fork.Goals as goal
use Rattle.pair_core.specs.Shown.{pair_of, rest_of}
use Rattle.proxy_worker.proofs.Parts.{put-same}
use Rattle.std.proofs.Common.{ap, refl, sym, ◌∙◌}
use Rattle.std.specs.Option.{option_copied}
use Rattle.std.specs.Prelude.{Some, ◌≡◌}

pub unreachable-requires : goal.unreachable-requires
unreachable-requires g c =
    let x = c.args.self.now in
    let t = c.args.t.0 in
    let p = c.process_of_thread-p.result.0 in
    let rows = g.T.PageTable.rows in
    let files = g.F.FileStore.files in
    let process = process-is rows files x t p c.process_of_thread-p.ensures in
    let row = row-there rows files x p (Trap c.args.t) process c.requires.ready in
    let kept = ((c.requires.room (files x.files)).newborn row.0 (ap (at x.sides.map) (sym (c.process_of_thread-p.ensures (files x.files))) ∙ row.1)).kept in
    let none = sym c.take.ensures.value ∙ c.in_default.is in
    cc

pub unreachable-requires-in_default-get : goal.unreachable-requires-in_default-get
unreachable-requires-in_default-get g c =
    let x = c.args.self.now in
    let t = c.args.t.0 in
    let p = c.process_of_thread-p.result.0 in
    let rows = g.T.PageTable.rows in
    let files = g.F.FileStore.files in
    let process = process-is rows files x t p c.process_of_thread-p.ensures in
    let row = row-there rows files x p (Trap c.args.t) process c.requires.ready in
    let some = row.1 in
    let none = sym c.get.ensures ∙ ap option_copied c.in_default-get.is in
    cc

pub fork-requires : goal.fork-requires
unfolding pair_of
fork-requires g c =
    let x = c.args.self.now in
    let t = c.args.t.0 in
    let p = c.process_of_thread-p.result.0 in
    let rows = g.T.PageTable.rows in
    let files = g.F.FileStore.files in
    let process = process-is rows files x t p c.process_of_thread-p.ensures in
    let s = c.in-Some-get.side.now in
    let there : at x.sides.map p ≡ Some s = sym c.get.ensures ∙ ap option_copied c.in-Some-get.is in
    let child = c.in-Some.child in
    let newborn = is-newborn rows g.T.PageTable.has_room g.F.FileStore.room x p _ s child (c.requires.room (files x.files)) (sym (c.process_of_thread-p.ensures (files x.files))) there (sym c.take.ensures.value ∙ c.in-Some.is) in
    let sound = c.requires.ready.sound in
    let room = c.requires.room (files x.files) in
    record {
      some_core = sound.coherent.rings.cores;
      few_cores = sound.small.cores;
      sound = sound-table rows files x p s there sound.coherent c.requires.kept;
      may = may-fork rows files x p c.args.t room.process room.thread c.process_of_thread-p.ensures c.requires.ready (may-here rows files x p s (Trap c.args.t) there process c.requires.ready);
      fork = c.requires.fork;
      empty = ap (λ (z : SideOf). z.lwk.table) newborn.side;
      copy = newborn.room;
    }

pub share-requires : goal.share-requires
share-requires g c = let room = c.requires.room (g.F.FileStore.files c.args.self.now.files) in room.files

pub put-requires : goal.put-requires
put-requires g c = let room = c.requires.room (g.F.FileStore.files c.args.self.now.files) in room.sides

pub returns-in_default-fork-clause-after : goal.returns-in_default-fork-clause-after
returns-in_default-fork-clause-after g c =
    let x = c.args.self.now in
    let t = c.args.t.0 in
    let p = c.process_of_thread-p.result.0 in
    let rows = g.T.PageTable.rows in
    let files = g.F.FileStore.files in
    let process = process-is rows files x t p c.process_of_thread-p.ensures in
    let s = c.in-Some-get.side.now in
    let there : at x.sides.map p ≡ Some s = sym c.get.ensures ∙ ap option_copied c.in-Some-get.is in
    let table = rows c.fork.new.child.table in
    let rest = rest_of rows files x s in
    after-is rows files x _ p s s (Trap c.args.t) there (sym (put-same x.sides.map p s there)) process
    ((λ i. record (here_of c.fork.new.self (rows s.task.space.table) s.task s.channel (shared p (sym c.in_default-fork.is i) rest)) { born = born_of c.fork.new.self.rings table (sym c.in_default-fork.is i) })
    ∙ c.fork.ensures.event s.channel rest)

pub returns-in_default-fork-clause-kept : goal.returns-in_default-fork-clause-kept
returns-in_default-fork-clause-kept g c =
    let x = c.args.self.now in
    let t = c.args.t.0 in
    let p = c.process_of_thread-p.result.0 in
    let rows = g.T.PageTable.rows in
    let files = g.F.FileStore.files in
    let process = process-is rows files x t p c.process_of_thread-p.ensures in
    let s = c.in-Some-get.side.now in
    let there : at x.sides.map p ≡ Some s = sym c.get.ensures ∙ ap option_copied c.in-Some-get.is in
    kept-after rows files x _ p s s (Trap c.args.t) c.requires.kept there (sym (put-same x.sides.map p s there)) refl (returns-in_default-fork-clause-after g c)
    c.fork.ensures.frames.pages c.fork.ensures.frames.pool refl refl

pub returns-clause-after : goal.returns-clause-after
returns-clause-after g c =
    let x = c.args.self.now in
    let t = c.args.t.0 in
    let p = c.process_of_thread-p.result.0 in
    let rows = g.T.PageTable.rows in
    let files = g.F.FileStore.files in
    let process = process-is rows files x t p c.process_of_thread-p.ensures in
    let s = c.in-Some-get.side.now in
    let there : at x.sides.map p ≡ Some s = sym c.get.ensures ∙ ap option_copied c.in-Some-get.is in
    let child = c.in-Some.child in
    let newborn = is-newborn rows g.T.PageTable.has_room g.F.FileStore.room x p _ s child (c.requires.room (files x.files)) (sym (c.process_of_thread-p.ensures (files x.files))) there (sym c.take.ensures.value ∙ c.in-Some.is) in
    let q = c.in-Some-fork.q in
    let table = rows c.fork.new.child.table in
    let rest = rest_of rows files x s in
    let side = ap (λ (z : SideOf). record z { lwk = record z.lwk { table = table } }) newborn.side ∙ ap (λ n. born_side n table) (sym c.fork.ensures.rings) in
    after-born rows files x _ p q.0 s _ (Trap c.args.t) there c.put.ensures.row process
    ((λ i. record (here_of c.fork.new.self (rows s.task.space.table) s.task s.channel (record rest { files = c.share.ensures i })) { born = Some (q.0, side i) })
    ∙ (λ i. record (here_of c.fork.new.self (rows s.task.space.table) s.task s.channel (shared p (sym c.in-Some-fork.is i) rest)) { born = born_of c.fork.new.self.rings table (sym c.in-Some-fork.is i) })
    ∙ c.fork.ensures.event s.channel rest)

pub returns-clause-kept : goal.returns-clause-kept
returns-clause-kept g c =
    let x = c.args.self.now in
    let t = c.args.t.0 in
    let p = c.process_of_thread-p.result.0 in
    let rows = g.T.PageTable.rows in
    let files = g.F.FileStore.files in
    let process = process-is rows files x t p c.process_of_thread-p.ensures in
    let s = c.in-Some-get.side.now in
    let there : at x.sides.map p ≡ Some s = sym c.get.ensures ∙ ap option_copied c.in-Some-get.is in
    let child = c.in-Some.child in
    let newborn = is-newborn rows g.T.PageTable.has_room g.F.FileStore.room x p _ s child (c.requires.room (files x.files)) (sym (c.process_of_thread-p.ensures (files x.files))) there (sym c.take.ensures.value ∙ c.in-Some.is) in
    kept-born rows files x _ p c.in-Some-fork.q.0 s _ (Trap c.args.t) c.requires.kept c.put.ensures.row newborn.takes refl (returns-clause-after g c) c.fork.ensures.frames.pages c.fork.ensures.frames.pool
