use Rattle.file_model.specs.Errno.{EFAULT}
use Rattle.isa_model.specs.Memory.{may_access, write_bytes}
use Rattle.kernel_model.specs.CloneCalls.{status_of_life, tells_end}
use Rattle.kernel_model.specs.Nodes.{Node as KernelNode, Process, answered, change_process}
use Rattle.kernel_model.specs.Signals.{View, on_node}
use Rattle.lwk_calls.proofs.Told.{stored_end, tells_nowhere, tells_not, tells_there, told_end}
use Rattle.kernel_tables.specs.Shown.{node_of}
use Rattle.lwk_space.specs.Lacks.{memory}
use Rattle.lwk_views.proofs.Doing.{begins, did, did_as, did_on_node, steps, stores, unstored}
use Rattle.lwk_views.proofs.Reading.{tried_done}
use Rattle.lwk_views.specs.Views.{seen}
use Rattle.mck_word.specs.Words.{little_endian, refused}
use Rattle.mck_word.specs.declared.Access.TheVariants.{Write}
use Rattle.std.proofs.Common.{ap, cond, false, pos, rules, sym, to_z, true, w64, ◌≡◌, ◌∙◌}
use Rattle.std.proofs.lemmas.Bool.{eq-eqb, ne_eqb}
use Rattle.lwk_calls.proofs.waiting.tells_end.Goals as goal

pub returns-then-status-eq0-clause-did : goal.returns-then-status-eq0-clause-did
returns-then-status-eq0-clause-did g c =
    let rows = g.T.PageTable.rows c.args.space.now.table in
    let n = c.args.node.now in
    let pages = c.args.mem.now in
    let t = c.args.t.0 in
    let child = c.args.child.0 in
    let number : to_z w64 child ≡ pos child = search rules in
    let waited = λ (k : KernelNode). change_process child (λ (x : Process). record x { waited = true }) k in
    did_as rows pages n c.answered.new.self pages (on_node (λ (k : KernelNode). answered t (pos child) (waited k))) (tells_end t child c.args.status)
    (λ files. tells_nowhere t child c.args.status (seen rows n pages files) (eq-eqb c.args.status 0 c.if-status-eq0.true))
    (did_on_node rows pages n c.answered.new.self (λ (k : KernelNode). answered t (pos child) (waited k)) c.requires.frames
    (λ files. c.answered.ensures.node files ∙ (λ i. answered t (number i) (c.noted_waited.ensures.node files i))))

pub returns-then-store_number-clause-did : goal.returns-then-store_number-clause-did
returns-then-store_number-clause-did g c =
    let rows = g.T.PageTable.rows c.args.space.now.table in
    let n = c.args.node.now in
    let pages = c.args.mem.now in
    let left = c.store_number.new.mem in
    let after = c.answered-then-store_number.new.self in
    let t = c.args.t.0 in
    let child = c.args.child.0 in
    let status = c.args.status in
    let word = c.status_of_life-word.result in
    let number : to_z w64 child ≡ pos child = search rules in
    let may : may_access (memory rows pages) Write status 4 ≡ true = sym c.store_number.ensures.may ∙ c.if-store_number.true in
    let done = λ (k : KernelNode). answered t (pos child) (change_process child (λ (x : Process). record x { waited = true }) k) in
    did_as rows pages n after left (λ (v : View). stored_end t child status v word) (tells_end t child status)
    (λ files. tells_there t child status (seen rows n pages files) word (ne_eqb status 0 c.if-status-eq0.false) may (c.status_of_life-word.ensures ∙ ap status_of_life (c.life.ensures files)))
    (did rows pages n after left (λ (v : View). stored_end t child status v word) c.requires.frames c.store_number.ensures.others c.store_number.ensures.count
    (λ files. let k = node_of n files in let v = seen rows n pages files in
    stores rows pages status (little_endian 4 word) (node_of after files) pages left (told_end t child status v) (c.store_number.ensures.memory ∙ tried_done (memory rows pages) status (little_endian 4 word) may)
    (steps rows pages done k (node_of after files) pages v (c.answered-then-store_number.ensures.node files ∙ (λ i. answered t (number i) (c.noted_waited.ensures.node files i))) (begins rows pages k))))

pub returns-else-store_number-clause-did : goal.returns-else-store_number-clause-did
returns-else-store_number-clause-did g c =
    let rows = g.T.PageTable.rows c.args.space.now.table in
    let n = c.args.node.now in
    let pages = c.args.mem.now in
    let left = c.store_number.new.mem in
    let after = c.answered-else-store_number.new.self in
    let t = c.args.t.0 in
    let child = c.args.child.0 in
    let status = c.args.status in
    let bytes = little_endian 4 c.status_of_life-word.result in
    let may : may_access (memory rows pages) Write status 4 ≡ false = sym c.store_number.ensures.may ∙ c.if-store_number.false in
    let done = λ (k : KernelNode). answered t (refused EFAULT) (change_process child (λ (x : Process). record x { waited = true }) k) in
    let same : memory rows left ≡ memory rows pages = c.store_number.ensures.memory ∙ ap (λ b. cond b (write_bytes (memory rows pages) status bytes) (memory rows pages)) may in
    did_as rows pages n after left (on_node done) (tells_end t child status)
    (λ files. tells_not t child status (seen rows n pages files) (ne_eqb status 0 c.if-status-eq0.false) may)
    (did rows pages n after left (on_node done) c.requires.frames c.store_number.ensures.others c.store_number.ensures.count
    (λ files. let k = node_of n files in
    unstored rows pages (node_of after files) left (on_node done (seen rows n pages files)) same
    (steps rows pages done k (node_of after files) pages (seen rows n pages files) (c.answered-else-store_number.ensures.node files ∙ ap (answered t (refused EFAULT)) (c.noted_waited.ensures.node files)) (begins rows pages k))))
