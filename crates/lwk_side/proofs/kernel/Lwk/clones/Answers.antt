use Rattle.kernel_model.specs.CloneCalls.{clone}
use Rattle.kernel_model.specs.Signals.{View}
use Rattle.kernel_model.specs.Traps.{past_ecall}
use Rattle.lwk_side.proofs.Behind.{behind, did-after}
use Rattle.lwk_side.proofs.Cloned.{may-clone}
use Rattle.lwk_side.proofs.Viewing.{did-is}
use Rattle.lwk_side.proofs.kernel.Lwk.clones.Goals as goal
use Rattle.std.specs.Prelude.{slice_index}

pub clone-requires : goal.clone-requires
clone-requires g c =
    let may = may-clone c.args.self.now.node c.past_ecall.new.self c.args.t.0 c.past_ecall.ensures.room c.past_ecall.ensures.node c.requires.clone in
    record { frames = c.requires.sound.inside; apart = c.requires.sound.apart; room = may.room; lives = may.lives; below = may.below }

pub returns-clause-after : goal.returns-clause-after
returns-clause-after g c = λ channel r.
    let rows = g.T.PageTable.rows c.args.task.now.space.table in
    let lwk = c.args.self.now in
    let t = c.args.t.0 in
    let xs = c.args.args.now in
    let word : View → View = λ v. clone t (slice_index xs 0) (slice_index xs 1) (slice_index xs 2) (slice_index xs 3) (slice_index xs 4) v in
    did-is lwk c.clone.new.node c.clone.new.mem rows c.args.task.now channel r (λ v. word (past_ecall t v))
    (did-after rows lwk.node c.past_ecall.new.self c.clone.new.node lwk.frames c.clone.new.mem (behind t) word c.past_ecall.ensures.node c.clone.ensures.did)
