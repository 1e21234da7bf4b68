use Rattle.pair_node.proofs.Lists.{listed-same}
use Rattle.pair_node.proofs.Noted.{own-noted, was-there}
use Rattle.pair_node.proofs.members.Members.note.Goals as goal
use Rattle.pair_node.specs.Listed.{Moves, owners, with_owner, without_gone}
use Rattle.pair_node.specs.declared.members.Touched.{Touched}
use Rattle.std.proofs.Common.{subst}

pub returns-in-Nothing : goal.returns-in-Nothing
returns-in-Nothing c = λ f h l.
    let now = owners c.args.table.now in
    listed-same f now c.args.cores c.args.self.now (subst (λ (e : Touched). Moves e c.args.next.0 f now) c.in-Nothing.is h) l

pub returns-in-Own : goal.returns-in-Own
returns-in-Own c = λ f h l.
    let now = owners c.args.table.now in
    let next = c.args.next.0 in
    let t = c.in-Own.t.0 in
    let p = c.in-Own.p.0 in
    let moves = subst (λ (e : Touched). Moves e next f now) c.in-Own.is h in
    own-noted t p next f now moves c.args.cores c.take_if_gone.new.self
    (c.take_if_gone.ensures (with_owner next (now next) f) (was-there t p next f now moves) (c.add_if_made.ensures f moves.fresh l))

pub returns-in-Group : goal.returns-in-Group
returns-in-Group c = λ f h l.
    let now = owners c.args.table.now in
    let moves = subst (λ (e : Touched). Moves e c.args.next.0 f now) c.in-Group.is h in
    listed-same (without_gone c.in-Group.p.0 now f) now c.args.cores c.take_gone.new.self moves (c.take_gone.ensures f l)
