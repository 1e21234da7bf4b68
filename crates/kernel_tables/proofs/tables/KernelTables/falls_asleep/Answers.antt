use Rattle.file_model.specs.Files.{root_only}
use Rattle.futex_queues.specs.Sleep.{Queue, is_thread, waiters}
use Rattle.kernel_model.specs.Nodes.{Node as KernelNode, Sleeper, most_threads, set_does}
use Rattle.kernel_model.specs.declared.Does.TheVariants.{Asleep}
use Rattle.kernel_tables.proofs.Rows.{sleepers_are, sleepers_shown}
use Rattle.kernel_tables.specs.Shown.{node_of}
use Rattle.std.proofs.Common.{ap, length, List, [], subst, sym, ◌++◌, ◌<◌, ◌∙◌, ◌∷◌}
use Rattle.std.specs.List.{list_any}
use Rattle.kernel_tables.proofs.tables.KernelTables.falls_asleep.Goals as goal

pub wait-requires-clause-awake : goal.wait-requires-clause-awake
wait-requires-clause-awake c = ap (list_any (is_thread c.args.t.0)) (sym (sleepers_shown c.args.self.now root_only)) ∙ c.requires.awake root_only

pub wait-requires-clause-few : goal.wait-requires-clause-few
wait-requires-clause-few c =
    let node = node_of c.args.self.now root_only in
    let few = subst (λ p. length (waiters p c.args.address node.sleepers) < most_threads) (sym (c.process_of_thread-p.ensures root_only)) (c.requires.few root_only) in
    subst (λ ss. length (waiters c.process_of_thread-p.result.0 c.args.address ss) < most_threads) (sleepers_shown c.args.self.now root_only) few

pub returns-clause-node : goal.returns-clause-node
returns-clause-node c = λ files.
    let node = node_of c.args.self.now files in
    let last = λ (ss : List Sleeper). ss ++ record { process = c.process_of_thread-p.result.0; address = c.args.address; thread = c.args.t.0 } ∷ [] in
    let queued = sleepers_are c.args.self.now files c.wait.new.self last (ap (λ (q : Queue). q.list) c.wait.ensures) in
    let named = ap (λ p. record node { sleepers = node.sleepers ++ record { process = p; address = c.args.address; thread = c.args.t.0 } ∷ [] }) (c.process_of_thread-p.ensures files) in
    c.set_does.ensures.node files ∙ ap (λ (n : KernelNode). set_does c.args.t.0 (Asleep c.args.address) n) (queued ∙ named)
