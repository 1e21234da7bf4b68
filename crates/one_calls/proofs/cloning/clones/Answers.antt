use Rattle.kernel_model.specs.Nodes.{answered}
use Rattle.kernel_tables.specs.Shown.{node_of}
use Rattle.one_calls.proofs.Begun.{clones-node, clones-stored}
use Rattle.one_calls.specs.Words.{told}
use Rattle.std.proofs.Common.{ap, pos, rules, slice_index, sym, to_z, w64, ◌≡◌, ◌∙◌}
use Rattle.one_calls.proofs.cloning.clones.Goals as goal

pub returns : goal.returns
returns c =
    let n = c.args.node.now in
    let m = c.args.memory.now.map in
    let t = c.args.t.0 in
    let xs = c.args.args.now in
    let child = c.clone_thread-number.result.0 in
    let number : to_z w64 child ≡ pos child = search rules in
    record {
      node = λ files. let k = node_of n files in
          let same = number ∙ ap pos (c.clone_thread-number.ensures.number files) in
          c.answered.ensures.node files
          ∙ (λ i. answered t (same i) (c.clone_thread-number.ensures.node files i))
          ∙ sym (clones-node t (slice_index xs 0) (slice_index xs 1) (slice_index xs 2) (slice_index xs 3) (slice_index xs 4) k m);
      memory = λ files. let k = node_of n files in
          let is = c.clone_thread-number.ensures.number files in
          c.tells_number-2.ensures
          ∙ (λ i. told (c.has_bit-child_asks.ensures i) (slice_index xs 4) (is i) ((c.tells_number.ensures ∙ (λ j. told (c.has_bit-parent_asks.ensures j) (slice_index xs 2) (is j) m)) i))
          ∙ sym (clones-stored t (slice_index xs 0) (slice_index xs 1) (slice_index xs 2) (slice_index xs 3) (slice_index xs 4) k m);
    }
