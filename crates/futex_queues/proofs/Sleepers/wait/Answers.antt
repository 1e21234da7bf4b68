use Rattle.std.proofs.Common.{◌<◌, ap, length, subst, sym, ◌∙◌}
use Rattle.std.specs.List.{list_any}
use Rattle.std.specs.Prelude.{map}
use Rattle.futex_queues.specs.Sleep.{IsQueue, Queue, is_thread, shown, waiters}
use Rattle.futex_queues.proofs.Queues.{IsQueue-push, map-push}
use Rattle.futex_queues.specs.declared.Waiter.{Waiter}
use Rattle.kernel_model.specs.Nodes.{most_threads}
use Rattle.futex_queues.proofs.Sleepers.wait.Goals as goal

pub invariant_of-self : goal.invariant_of-self
invariant_of-self c =
    let x : Waiter = record { pid = c.args.pid; addr = c.args.addr; tid = c.args.tid } in
    let awake = ap (λ (q : Queue). list_any (is_thread c.args.tid.0) q.list) c.self.view_is ∙ c.requires.awake in
    let few = subst (λ (q : Queue). length (waiters c.args.pid.0 c.args.addr q.list) < most_threads) (sym c.self.view_is) c.requires.few in
    subst IsQueue (sym (ap (map shown) c.push_reserved.ensures.items ∙ map-push shown c.self.inside.rows.items x)) (IsQueue-push (shown x) (map shown c.self.inside.rows.items) c.self.invariant awake few)
