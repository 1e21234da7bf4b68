use Rattle.kernel_model.specs.LocalCalls.{wake}
use Rattle.kernel_model.specs.Nodes.{Node as KernelNode}
use Rattle.kernel_model.specs.Signals.{View, on_node, try_store}
use Rattle.lwk_calls.specs.Words.{cleared}
use Rattle.kernel_tables.specs.Shown.{node_of}
use Rattle.lwk_views.proofs.Doing.{begins, did, did_as, did_on_node, steps, tries}
use Rattle.lwk_views.specs.Views.{seen}
use Rattle.mck_word.specs.Words.{little_endian}
use Rattle.std.proofs.Common.{List, ap, cond, refl, ℕ}
use Rattle.std.proofs.lemmas.Bool.{eq-eqb, ne_eqb}
use Rattle.lwk_calls.proofs.endings.clear_word.Goals as goal

pub returns-then-address-ne0-clause-did : goal.returns-then-address-ne0-clause-did
returns-then-address-ne0-clause-did g c =
    let rows = g.T.PageTable.rows c.args.space.now.table in
    let n = c.args.node.now in
    let after = c.wake.new.self in
    let pages = c.args.mem.now in
    let left = c.try_store.new.mem in
    let p = c.args.p.0 in
    let a = c.args.address in
    let zeros : List ℕ = little_endian 4 0 in
    let word = λ (v : View). on_node (wake p a 1) (try_store a zeros v) in
    did_as rows pages n after left word (cleared p a) (λ files. let v = seen rows n pages files in ap (λ b. cond b v (word v)) (ne_eqb a 0 c.if-address-ne0.true))
    (did rows pages n after left word c.requires.frames c.try_store.ensures.others c.try_store.ensures.count
    (λ files. let k = node_of n files in let v = seen rows n pages files in
    steps rows pages (wake p a 1) k (node_of after files) left (try_store a zeros v) (c.wake.ensures.node files)
    (tries rows pages a zeros k pages left v c.try_store.ensures.memory (begins rows pages k))))

pub returns-else-address-ne0-clause-did : goal.returns-else-address-ne0-clause-did
returns-else-address-ne0-clause-did g c =
    let rows = g.T.PageTable.rows c.args.space.now.table in
    let n = c.args.node.now in
    let pages = c.args.mem.now in
    let p = c.args.p.0 in
    let a = c.args.address in
    did_as rows pages n n pages (on_node (λ (k : KernelNode). k)) (cleared p a)
    (λ files. let v = seen rows n pages files in ap (λ b. cond b v (on_node (wake p a 1) (try_store a (little_endian 4 0) v))) (eq-eqb a 0 c.if-address-ne0.false))
    (did_on_node rows pages n n (λ (k : KernelNode). k) c.requires.frames (λ files. refl))
