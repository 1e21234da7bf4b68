use Rattle.file_model.specs.Files.{share}
use Rattle.hybrid_model.specs.Spaces.{written_back}
use Rattle.kernel_model.specs.Nodes.{thread_of}
use Rattle.lwk_calls.proofs.Children.{child_stands}
use Rattle.lwk_calls.proofs.forking.begins_child.Goals as goal
use Rattle.lwk_calls.specs.Words.{told}
use Rattle.kernel_tables.specs.Shown.{node_of}
use Rattle.lwk_space.proofs.WrittenBack.{written-back}
use Rattle.lwk_space.specs.Frames.{frames_map}
use Rattle.lwk_space.specs.Lacks.{memory}
use Rattle.std.proofs.Common.{ap, pos, rules, slice_index, sym, to_z, w64, ◌≡◌, ◌∙◌}

pub returns-clause-node : goal.returns-clause-node
returns-clause-node g c = λ files.
    let rows = g.T.PageTable.rows c.args.space.now.table in
    let n = c.args.node.now in
    let pages = c.args.mem.now in
    let t = c.args.t.0 in
    let xs = c.args.args.now in
    let child = c.fork-child.result.0 in
    let number : to_z w64 child ≡ pos child = search rules in
    let later = share (thread_of (node_of n files) t).process child files in
    let same = c.next_number-number.ensures files ∙ sym (c.fork-child.ensures.number files) in
    let stands = child_stands rows pages t (slice_index xs 0) (slice_index xs 1) (slice_index xs 2) (slice_index xs 3) (slice_index xs 4) child _ (node_of n files) (node_of c.fork-child.new.self later) (node_of c.answered.new.self later) c.tells_number.new.mem
    (c.fork-child.ensures.number files) (c.tells_number.ensures.memory ∙ (λ i. told (c.has_bit-asked.ensures i) (slice_index xs 2) (same i) (memory rows pages))) (c.fork-child.ensures.node files) number (c.answered.ensures.node later) in
    stands.now

pub returns-clause-frames : goal.returns-clause-frames
returns-clause-frames g c = λ files.
    let rows = g.T.PageTable.rows c.args.space.now.table in
    let n = c.args.node.now in
    let pages = c.args.mem.now in
    let t = c.args.t.0 in
    let xs = c.args.args.now in
    let child = c.fork-child.result.0 in
    let number : to_z w64 child ≡ pos child = search rules in
    let later = share (thread_of (node_of n files) t).process child files in
    let same = c.next_number-number.ensures files ∙ sym (c.fork-child.ensures.number files) in
    let stands = child_stands rows pages t (slice_index xs 0) (slice_index xs 1) (slice_index xs 2) (slice_index xs 3) (slice_index xs 4) child _ (node_of n files) (node_of c.fork-child.new.self later) (node_of c.answered.new.self later) c.tells_number.new.mem
    (c.fork-child.ensures.number files) (c.tells_number.ensures.memory ∙ (λ i. told (c.has_bit-asked.ensures i) (slice_index xs 2) (same i) (memory rows pages))) (c.fork-child.ensures.node files) number (c.answered.ensures.node later) in
    written-back rows pages c.tells_number.new.mem c.requires.inside c.tells_number.ensures.others c.tells_number.ensures.count ∙ ap (λ m. written_back rows m (frames_map pages)) stands.stored
