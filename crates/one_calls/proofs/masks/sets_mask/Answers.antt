use Rattle.isa_model.specs.Memory.{write_bytes}
use Rattle.kernel_model.specs.Nodes.{answered}
use Rattle.kernel_tables.specs.Shown.{node_of}
use Rattle.mck_word.specs.Words.{little_endian}
use Rattle.one_calls.proofs.Acting.{sets_mask-node, sets_mask-stored}
use Rattle.one_calls.specs.SignalWords.{given_mask}
use Rattle.std.proofs.Common.{ap, of_z, pos, rules, sym, to_z, w32, ◌≡◌, ◌∙◌}
use Rattle.std.specs.Prelude.{cond, ◌==◌}
use Rattle.one_calls.proofs.masks.sets_mask.Goals as goal

pub returns : goal.returns
returns c =
    let n = c.args.node.now in
    let m = c.args.memory.now.map in
    let t = c.args.t.0 in
    let how = c.args.how in
    let address = c.args.address in
    let old = c.args.old in
    let given : to_z w32 (of_z w32 how) ≡ how = search rules in
    record {
      node = λ files. let k = node_of n files in
          c.answered.ensures.node files ∙ ap (answered t (pos 0)) (c.give_mask.ensures files ∙ (λ i. given_mask t (given i) (c.asked_set-set.ensures i) k)) ∙ sym (sets_mask-node t how address old k m);
      memory = λ files. c.store_set.ensures ∙ ap (λ x. cond (old == 0) m (write_bytes m old (little_endian 8 x))) (c.mask-before.ensures files) ∙ sym (sets_mask-stored t how address old (node_of n files) m);
    }
