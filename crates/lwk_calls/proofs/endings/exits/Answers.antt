use Rattle.kernel_model.specs.LocalCalls.{exits}
use Rattle.kernel_model.specs.Signals.{View, on_node}
use Rattle.lwk_calls.proofs.Ending.{exits_is}
use Rattle.lwk_calls.specs.Words.{cleared, leaves}
use Rattle.lwk_views.proofs.Doing.{did_as, did_then}
use Rattle.lwk_views.specs.Views.{seen}
use Rattle.std.proofs.Common.{sym}
use Rattle.lwk_calls.proofs.endings.exits.Goals as goal

pub returns-clause-did : goal.returns-clause-did
returns-clause-did g c =
    let rows = g.T.PageTable.rows c.args.space.now.table in
    let n = c.args.node.now in
    let pages = c.args.mem.now in
    let left = c.clear_word.new.mem in
    let t = c.args.t.0 in
    let p = c.process_of_thread-p.result.0 in
    let a = c.clear_address-address.result in
    let after = c.leaves.new.node in
    let word = λ (v : View). on_node (leaves t p c.args.code) (cleared p a v) in
    did_as rows pages n after left word (exits t c.args.code)
    (λ files. sym (exits_is t c.args.code p a (seen rows n pages files) (c.process_of_thread-p.ensures files) (c.clear_address-address.ensures files)))
    (did_then rows pages n c.clear_word.new.node after left (cleared p a) (leaves t p c.args.code) c.clear_word.ensures.did c.leaves.ensures.is)
