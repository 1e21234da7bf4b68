use Rattle.kernel_model.specs.CloneCalls.{clone, clones}
use Rattle.kernel_model.specs.Nodes.{thread_of, threads_of}
use Rattle.kernel_model.specs.Signals.{View}
use Rattle.lwk_calls.proofs.Refusing.{clone_is, refused_did}
use Rattle.lwk_calls.specs.Words.{clone_refusal}
use Rattle.kernel_tables.specs.Shown.{node_of}
use Rattle.std.proofs.Common.{ap, length, of_z, rules, slice_index, sym, to_z, w64, ◌≡◌, ◌∙◌}
use Rattle.lwk_calls.proofs.cloning.clone.Goals as goal

pub returns-in-Some-clause-did : goal.returns-in-Some-clause-did
returns-in-Some-clause-did g c =
    let rows = g.T.PageTable.rows c.args.space.now.table in
    let n = c.args.node.now in
    let pages = c.args.mem.now in
    let t = c.args.t.0 in
    let xs = c.args.args.now in
    let z = c.in-Some.answer in
    let same : to_z w64 (of_z w64 z) ≡ z = search rules in
    refused_did rows pages n c.answers.new.node pages t (clone t (slice_index xs 0) (slice_index xs 1) (slice_index xs 2) (slice_index xs 3) (slice_index xs 4)) (clones t (slice_index xs 0) (slice_index xs 1) (slice_index xs 2) (slice_index xs 3) (slice_index xs 4))
    (λ (v : View). clone_refusal (slice_index xs 0) (length (threads_of v.node (thread_of v.node t).process))) (clone_is t (slice_index xs 0) (slice_index xs 1) (slice_index xs 2) (slice_index xs 3) (slice_index xs 4)) _ z same
    (λ files. sym (c.clone_refusal.ensures ∙ ap (clone_refusal (slice_index xs 0)) (c.live_threads-threads.ensures.is files ∙ ap (λ p. length (threads_of (node_of n files) p)) (c.process_of_thread-p.ensures files))) ∙ c.in-Some.is)
    (c.answers.ensures.did rows pages c.requires.frames)
