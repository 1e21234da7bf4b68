use Rattle.file_model.specs.Files.{share}
use Rattle.kernel_model.specs.CloneCalls.{with_child}
use Rattle.kernel_model.specs.Nodes.{answered, thread_of}
use Rattle.kernel_tables.specs.Shown.{node_of}
use Rattle.one_calls.proofs.Begun.{begins-node, begins-stored}
use Rattle.one_calls.proofs.forking.begins_child.Goals as goal
use Rattle.one_calls.specs.Words.{told}
use Rattle.std.proofs.Common.{ap, pos, rules, slice_index, sym, to_z, w64, ◌≡◌, ◌∙◌}

pub returns-clause-node : goal.returns-clause-node
returns-clause-node c = λ files.
    let k = node_of c.args.node.now files in
    let t = c.args.t.0 in
    let xs = c.args.args.now in
    let child = c.fork-child.result.0 in
    let number : to_z w64 child ≡ pos child = search rules in
    let is = c.fork-child.ensures.number files in
    let later = share (thread_of k t).process child files in
    c.answered.ensures.node later
    ∙ (λ i. answered t ((number ∙ ap pos is) i) ((c.fork-child.ensures.node files ∙ ap (λ n. with_child t n (slice_index xs 0) (slice_index xs 1) (slice_index xs 3) (slice_index xs 4) k) is) i))
    ∙ sym (begins-node t (slice_index xs 0) (slice_index xs 1) (slice_index xs 2) (slice_index xs 3) (slice_index xs 4) k c.args.memory.now.map)

pub returns-clause-stored : goal.returns-clause-stored
returns-clause-stored c = λ files.
    let k = node_of c.args.node.now files in
    let m = c.args.memory.now.map in
    let t = c.args.t.0 in
    let xs = c.args.args.now in
    c.tells_number.ensures
    ∙ (λ i. told (c.has_bit-asked.ensures i) (slice_index xs 2) (c.next_number-number.ensures files i) m)
    ∙ sym (begins-stored t (slice_index xs 0) (slice_index xs 1) (slice_index xs 2) (slice_index xs 3) (slice_index xs 4) k m)
