use Rattle.hybrid_model.specs.Pairs.{Pair}
use Rattle.hybrid_model.specs.declared.events.Event.{Event}
use Rattle.kernel_model.specs.Nodes.{has_process}
use Rattle.mck_word.specs.Maps.{keys}
use Rattle.mck_word.specs.declared.Pid.{Pid}
use Rattle.pair_core.specs.Ready.{Ready}
use Rattle.pair_core.specs.Shown.{pair_of}
use Rattle.pair_node.proofs.Numbered.{begins-by-trap, keys-after, numbers-added}
use Rattle.pair_node.proofs.Shows.{cores-are, next-is, touched-is}
use Rattle.pair_node.proofs.Sound.{sound-after, sound-told, told-along}
use Rattle.pair_node.proofs.pair.Pair.apply_listed.Goals as goal
use Rattle.pair_node.specs.Listed.{HasRoomToList}
use Rattle.pair_node.specs.Room.{HasPlace}
use Rattle.pair_node.specs.declared.members.Touched.{Touched}
use Rattle.pair_node.proofs.Moves.{room-to-list}
use Rattle.pair_node.proofs.Relisted.{listed-after}
use Rattle.std.proofs.Common.{ap, arith, subst, sym, ◌∙◌}
use Rattle.std.specs.Prelude.{[], cond, map, vec_len, ℕ, ◌++◌, ◌-◌, ◌∷◌, ◌≤◌}
use Rattle.std.specs.Vec.{vec_capacity}

pub happen-executed-requires-clause-ready : goal.happen-executed-requires-clause-ready
happen-executed-requires-clause-ready g c = record { sound = sound-told (pair_of g.T.PageTable.rows g.F.FileStore.files c.args.self.now.parts) c.args.self.now.sound; may = c.requires.may }

pub note_made-requires : goal.note_made-requires
note_made-requires g c = λ made.
    let x = c.args.self.now.parts in
    let files = g.F.FileStore.files in
    let pair = pair_of g.T.PageTable.rows files x in
    let event = c.args.event.now in
    let sound = sound-told pair c.args.self.now.sound in
    let next = next-is g.T.PageTable.rows files x c.next_number-next.result c.next_number-next.ensures in
    let there = (λ i. has_process (sym c.happen-executed.ensures.after i).node (sym next i)) ∙ made in
    let trap = begins-by-trap pair sound.coherent event c.requires.may there in
    let room : 1 ≤ vec_capacity c.args.self.now.pids - vec_len c.args.self.now.pids = subst (λ (e : Event). HasPlace e (vec_capacity c.args.self.now.pids - vec_len c.args.self.now.pids)) trap.1 c.requires.place in
    omega (arith, room)

pub note-requires-clause-some : goal.note-requires-clause-some
note-requires-clause-some g c =
    let x = c.args.self.now.parts in
    let files = g.F.FileStore.files in
    let pair = pair_of g.T.PageTable.rows files x in
    let some = (sound-told pair c.args.self.now.sound).coherent.rings.cores in
    subst (λ (n : ℕ). 1 ≤ n) (cores-are g.T.PageTable.rows files x) some

pub note-requires-clause-room : goal.note-requires-clause-room
note-requires-clause-room g c =
    let x = c.args.self.now.parts in
    let files = g.F.FileStore.files in
    let pair = pair_of g.T.PageTable.rows files x in
    let event = c.args.event.now in
    let touched = touched-is g.T.PageTable.rows files x event c.touched_by-touched.result c.touched_by-touched.ensures in
    subst (λ (z : Touched). HasRoomToList z c.args.self.now.members) (sym touched) (room-to-list pair event c.args.self.now.members c.requires.lists)

pub invariant_of-self : goal.invariant_of-self
invariant_of-self g c =
    let x = c.args.self.now.parts in
    let files = g.F.FileStore.files in
    let pair = pair_of g.T.PageTable.rows files x in
    let event = c.args.event.now in
    let ready : Ready pair event = record { sound = sound-told pair c.args.self.now.sound; may = c.requires.may } in
    let next = next-is g.T.PageTable.rows files x c.next_number-next.result c.next_number-next.ensures in
    let q : Pid = record { 0 = c.next_number-next.result } in
    record {
      sound = told-along c.happen-executed.ensures.after (sound-after pair event ready);
      kept = c.happen-executed.ensures.kept;
      numbered = ap (map (λ (p : Pid). p.0)) c.note_made.ensures
          ∙ numbers-added (has_process (pair_of g.T.PageTable.rows files c.happen-executed.new.parts).node q.0) c.args.self.now.pids.items q
          ∙ (λ i. cond (has_process (c.happen-executed.ensures.after i).node (next i)) (c.args.self.now.numbered i ++ next i ∷ []) (c.args.self.now.numbered i))
          ∙ sym (ap (λ (y : Pair). keys y.node.processes) c.happen-executed.ensures.after ∙ keys-after pair ready.sound.coherent event c.requires.may);
      listed = listed-after g.T.PageTable.rows files x c.happen-executed.new.parts c.args.self.now.members c.note.new.self event c.touched_by-touched.result c.next_number-next.result
          ready.sound.coherent c.requires.may c.happen-executed.ensures.after (touched-is g.T.PageTable.rows files x event c.touched_by-touched.result c.touched_by-touched.ensures) next
          c.args.self.now.listed c.note.ensures;
    }
