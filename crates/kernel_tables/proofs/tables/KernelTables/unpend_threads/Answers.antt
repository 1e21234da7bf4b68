use Rattle.kernel_model.specs.Nodes.{Thread as KernelThread}
use Rattle.kernel_model.specs.SignalSets.{without_signal}
use Rattle.kernel_model.specs.declared.Does.{Does}
use Rattle.kernel_tables.proofs.Collected.{threads_collected}
use Rattle.kernel_tables.proofs.Rows.{shown_thread}
use Rattle.kernel_tables.specs.Passes.{without_pending}
use Rattle.lwk_threads.specs.declared.Thread.{Thread}
use Rattle.std.proofs.Common.{ℕ, Bool, Some, cond, false, refl, true, ◌==◌, ◌≡◌}
use Rattle.std.specs.Prelude.{option_map}
use Rattle.kernel_tables.proofs.tables.KernelTables.unpend_threads.Goals as goal

shows : (p signal : ℕ) (x : Thread Does) → option_map shown_thread (without_pending p signal x) ≡ Some (cond (x.pid.0 == p) (record (shown_thread x) { pending = without_signal signal x.pending.0 }) (shown_thread x))
shows p signal x = go (x.pid.0 == p)
  where
    go : (b : Bool) → option_map shown_thread (Some (cond b (record x { pending = record { 0 = without_signal signal x.pending.0 } }) x)) ≡ Some (cond b (record (shown_thread x) { pending = without_signal signal x.pending.0 }) (shown_thread x))
    go true = refl
    go false = refl

pub returns-clause-node : goal.returns-clause-node
returns-clause-node c = λ files. threads_collected c.args.self.now files (without_pending c.args.p.0 c.args.signal)
    (λ (y : KernelThread). Some (cond (y.process == c.args.p.0) (record y { pending = without_signal c.args.signal y.pending }) y))
    (shows c.args.p.0 c.args.signal) c.unpend_all.new.threads c.unpend_all.ensures.threads
