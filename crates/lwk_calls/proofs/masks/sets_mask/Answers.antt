use Rattle.kernel_model.specs.LocalCalls.{answers}
use Rattle.kernel_model.specs.Nodes.{Node as KernelNode, answered}
use Rattle.kernel_model.specs.SignalCalls.{sets_mask}
use Rattle.kernel_model.specs.Signals.{View, on_node}
use Rattle.lwk_calls.proofs.Acting.{sets_mask_as}
use Rattle.lwk_calls.proofs.Pointing.{stores_there}
use Rattle.lwk_calls.specs.SignalWords.{given_mask, stores_at}
use Rattle.kernel_tables.specs.Shown.{node_of}
use Rattle.lwk_views.proofs.Doing.{begins, did, did_as, steps}
use Rattle.lwk_views.specs.Views.{seen}
use Rattle.mck_word.specs.Words.{little_endian}
use Rattle.std.proofs.Common.{ap, of_z, pos, rules, to_z, w32, ◌≡◌, ◌∙◌}
use Rattle.lwk_calls.proofs.masks.sets_mask.Goals as goal

pub returns-clause-did : goal.returns-clause-did
returns-clause-did g c =
    let rows = g.T.PageTable.rows c.args.space.now.table in
    let n = c.args.node.now in
    let pages = c.args.mem.now in
    let left = c.store_set.new.mem in
    let after = c.answered.new.self in
    let t = c.args.t.0 in
    let how = c.args.how in
    let old = c.args.old in
    let m = c.mask-before.result.0 in
    let o = c.asked_set-set.result in
    let bytes = little_endian 8 m in
    let given : to_z w32 (of_z w32 how) ≡ how = search rules in
    let word = λ (v : View). answers t (pos 0) (on_node (given_mask t how o) (stores_at old bytes v)) in
    did_as rows pages n after left word (sets_mask t how c.args.address old)
    (λ files. sets_mask_as t how c.args.address old m o (seen rows n pages files) c.asked_set-set.ensures (c.mask-before.ensures files))
    (did rows pages n after left word c.requires.frames c.store_set.ensures.others c.store_set.ensures.count
    (λ files. let k = node_of n files in let v = seen rows n pages files in
    steps rows pages (λ (x : KernelNode). answered t (pos 0) (given_mask t how o x)) k (node_of after files) left (stores_at old bytes v)
    (c.answered.ensures.node files ∙ ap (answered t (pos 0)) (c.give_mask.ensures.is files ∙ ap (λ z. given_mask t z o k) given))
    (stores_there rows pages old bytes k pages left v c.requires.written c.store_set.ensures.memory (begins rows pages k))))
