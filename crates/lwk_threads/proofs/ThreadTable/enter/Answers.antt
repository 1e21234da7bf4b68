use Rattle.std.proofs.Common.{◌+◌, ◌<◌, ◌≡◌, max, ap, subst, sym, ◌∙◌}
use Rattle.kernel_model.specs.Nodes.{most_threads}
use Rattle.mck_word.specs.Maps.{at, values}
use Rattle.lwk_threads.proofs.Counts.{passing}
use Rattle.lwk_threads.proofs.Tables.{IsTable-enter}
use Rattle.lwk_threads.specs.Threads.{Spared, Threads, live_threads, stands_at}
use Rattle.lwk_threads.proofs.ThreadTable.enter.Goals as goal

pub invariant_of-self : goal.invariant_of-self
invariant_of-self g c =
    let x = c.args.thread in
    let t : Threads g.row.S.Denot = record { next = c.self.inside.next_tid; rows = c.self.inside.rows.map } in
    let is : t ≡ c.args.self.now.threads = ap (λ (v : Spared g.row.S.Denot). v.threads) c.self.view_is in
    let absent = ap (λ (t : Threads g.row.S.Denot). at t.rows x.tid.0) is ∙ c.requires.absent in
    let few = subst (λ (t : Threads g.row.S.Denot). live_threads x.pid.0 t < most_threads) (sym is) c.requires.few in
    let free = ap (λ (t : Threads g.row.S.Denot). passing (stands_at x.pid.0 x.place) (values t.rows)) is ∙ c.requires.free in
    let known = subst (λ (t : Threads g.row.S.Denot). x.pid.0 < max t.next (x.tid.0 + 1)) (sym is) c.requires.known in
    rw (c.max-self-inside.ensures, c.insert.ensures, c.join.ensures.rows) (IsTable-enter t c.self.inside.groups.map c.self.invariant x absent few c.requires.within free known)
