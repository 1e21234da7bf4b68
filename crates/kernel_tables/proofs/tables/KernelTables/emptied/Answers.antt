use Rattle.file_model.specs.Files.{close_all}
use Rattle.futex_queues.specs.Sleep.{is_of}
use Rattle.kernel_model.specs.Nodes.{Node as KernelNode, Thread as KernelThread}
use Rattle.kernel_model.specs.declared.Does.{Does}
use Rattle.kernel_tables.proofs.Collected.{threads_collected}
use Rattle.kernel_tables.proofs.Living.{files_are, files_set}
use Rattle.kernel_tables.proofs.Rows.{shown_thread, sleepers_are}
use Rattle.kernel_tables.specs.Passes.{unless_of}
use Rattle.kernel_tables.specs.Shown.{node_of}
use Rattle.kernel_tables.specs.Steps.{emptied}
use Rattle.lwk_threads.specs.declared.Thread.{Thread}
use Rattle.mck_word.specs.Lists.{without}
use Rattle.std.proofs.Common.{ap, Bool, None, Some, cond, false, refl, sym, true, ℕ, ◌==◌, ◌≡◌, ◌∙◌}
use Rattle.std.specs.Prelude.{option_map}
use Rattle.kernel_tables.proofs.tables.KernelTables.emptied.Goals as goal

shows : (p : ℕ) (x : Thread Does) → option_map shown_thread (unless_of p x) ≡ cond (x.pid.0 == p) None (Some (shown_thread x))
shows p x = go (x.pid.0 == p)
  where
    go : (b : Bool) → option_map shown_thread (cond b None (Some x)) ≡ cond b None (Some (shown_thread x))
    go true = refl
    go false = refl

pub returns-clause-node : goal.returns-clause-node
returns-clause-node c = λ files.
    let p = c.args.p.0 in
    let n = c.args.self.now in
    let mid = record n { threads = c.end_all.new.threads } in
    let sleepers = sleepers_are mid files c.leave_process.new.self (λ ss. without (is_of p) ss) c.leave_process.ensures.list in
    let threads = threads_collected n files (unless_of p) (λ (y : KernelThread). cond (y.process == p) None (Some y)) (shows p) c.end_all.new.threads c.end_all.ensures.threads in
    files_set (record mid { sleepers = c.leave_process.new.self }) files (close_all p files)
    ∙ ap (λ (k : KernelNode). record k { files = close_all p files }) (sleepers ∙ ap (λ (k : KernelNode). record k { sleepers = without (is_of p) k.sleepers }) threads)
    ∙ ap (λ fs. record (emptied p (node_of n files)) { files = close_all p fs }) (sym (files_are n files))
