use Rattle.file_model.specs.Files.{root_only}
use Rattle.kernel_tables.proofs.Made.{clone_put, lives_shown, peers_shown}
use Rattle.kernel_tables.proofs.Rows.{next_is}
use Rattle.kernel_model.specs.Nodes.{most_threads}
use Rattle.std.proofs.Common.{subst, sym, ◌-◌, ◌<◌, ◌^◌, ◌∙◌}
use Rattle.kernel_tables.proofs.tables.KernelTables.clone_thread.Goals as goal

pub clone_thread-requires-clause-lives : goal.clone_thread-requires-clause-lives
clone_thread-requires-clause-lives c = sym (lives_shown c.args.self.now root_only c.args.t.0) ∙ c.requires.lives root_only

pub clone_thread-requires-clause-few : goal.clone_thread-requires-clause-few
clone_thread-requires-clause-few c =
    let lives = sym (lives_shown c.args.self.now root_only c.args.t.0) ∙ c.requires.lives root_only in
    subst (λ k. k < most_threads) (sym (peers_shown c.args.self.now root_only c.args.t.0 lives)) (c.requires.few root_only)

pub clone_thread-requires-clause-below : goal.clone_thread-requires-clause-below
clone_thread-requires-clause-below c = subst (λ k. k < 2 ^ 32 - 1) (next_is c.args.self.now root_only) (c.requires.below root_only)

pub returns-clause-number : goal.returns-clause-number
returns-clause-number c = λ files. c.clone_thread.ensures.number ∙ sym (next_is c.args.self.now files)

pub returns-clause-node : goal.returns-clause-node
returns-clause-node c = λ files.
    let lives = sym (lives_shown c.args.self.now root_only c.args.t.0) ∙ c.requires.lives root_only in
    clone_put c.args.self.now files c.clone_thread.new.self c.args.t.0 c.args.args.now lives c.clone_thread.ensures.threads
