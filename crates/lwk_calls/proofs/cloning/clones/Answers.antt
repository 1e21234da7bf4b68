use Rattle.kernel_model.specs.CloneCalls.{clones}
use Rattle.lwk_calls.proofs.Begun.{clones_stand}
use Rattle.lwk_calls.specs.Words.{told}
use Rattle.kernel_tables.specs.Shown.{node_of}
use Rattle.lwk_space.specs.Lacks.{memory}
use Rattle.lwk_views.proofs.Doing.{did}
use Rattle.lwk_views.proofs.Reading.{others_more}
use Rattle.std.proofs.Common.{ap, pos, rules, slice_index, to_z, w64, ◌≡◌, ◌∙◌}
use Rattle.lwk_calls.proofs.cloning.clones.Goals as goal

pub returns-clause-did : goal.returns-clause-did
returns-clause-did g c =
    let rows = g.T.PageTable.rows c.args.space.now.table in
    let n = c.args.node.now in
    let pages = c.args.mem.now in
    let middle = c.tells_number.new.mem in
    let left = c.tells_number-2.new.mem in
    let after = c.answered.new.self in
    let t = c.args.t.0 in
    let xs = c.args.args.now in
    let m = c.clone_thread-number.result.0 in
    let number : to_z w64 m ≡ pos m = search rules in
    did rows pages n after left (clones t (slice_index xs 0) (slice_index xs 1) (slice_index xs 2) (slice_index xs 3) (slice_index xs 4)) c.requires.frames
    (others_more rows pages middle left c.tells_number.ensures.others c.tells_number-2.ensures.others) (c.tells_number-2.ensures.count ∙ c.tells_number.ensures.count)
    (λ files. clones_stand rows pages t (slice_index xs 0) (slice_index xs 1) (slice_index xs 2) (slice_index xs 3) (slice_index xs 4) m _ (node_of n files) (node_of c.clone_thread-number.new.self files) (node_of after files) middle left
    (c.clone_thread-number.ensures.number files) (c.clone_thread-number.ensures.node files)
    (c.tells_number.ensures.memory ∙ ap (λ b. told b (slice_index xs 2) m (memory rows pages)) c.has_bit-parent_asks.ensures)
    (c.tells_number-2.ensures.memory ∙ ap (λ b. told b (slice_index xs 4) m (memory rows middle)) c.has_bit-child_asks.ensures)
    number (c.answered.ensures.node files))
