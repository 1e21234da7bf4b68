use Rattle.file_model.specs.Errno.{EFAULT, EINVAL}
use Rattle.isa_model.specs.Memory.{may_access, write_bytes}
use Rattle.kernel_model.specs.LocalCalls.{answers, refuses}
use Rattle.kernel_model.specs.Nodes.{answered}
use Rattle.kernel_model.specs.SignalCalls.{sigpending}
use Rattle.kernel_model.specs.Signals.{View, on_node, store}
use Rattle.lwk_calls.proofs.Pending.{length_little, pending_large, pending_not, pending_told}
use Rattle.kernel_tables.specs.Shown.{node_of}
use Rattle.lwk_space.specs.Lacks.{memory}
use Rattle.lwk_views.proofs.Doing.{begins, did, did_as, steps, stores, unstored}
use Rattle.lwk_views.proofs.Reading.{tried_done}
use Rattle.lwk_views.specs.Views.{seen}
use Rattle.mck_word.specs.Words.{little_endian, refused}
use Rattle.mck_word.specs.declared.Access.TheVariants.{Write}
use Rattle.std.proofs.Common.{ap, cond, false, length, pos, sym, true, ◌≡◌, ◌∙◌}
use Rattle.lwk_calls.proofs.masks.sigpending.Goals as goal

pub returns-then-size-gt8-clause-did : goal.returns-then-size-gt8-clause-did
returns-then-size-gt8-clause-did g c =
    let rows = g.T.PageTable.rows c.args.space.now.table in
    let n = c.args.node.now in
    let pages = c.args.mem.now in
    let t = c.args.t.0 in
    did_as rows pages n c.answers.new.node pages (refuses t EINVAL) (sigpending t c.args.address c.args.size)
    (λ files. pending_large t c.args.address c.args.size (seen rows n pages files) c.if-size-gt8.true) (c.answers.ensures.did rows pages c.requires.frames)

pub returns-then-store_part-clause-did : goal.returns-then-store_part-clause-did
returns-then-store_part-clause-did g c =
    let rows = g.T.PageTable.rows c.args.space.now.table in
    let n = c.args.node.now in
    let pages = c.args.mem.now in
    let left = c.store_part.new.mem in
    let after = c.answered.new.self in
    let t = c.args.t.0 in
    let a = c.args.address in
    let size = c.args.size in
    let set = c.pending_and_masked-set.result.0 in
    let bytes = little_endian size set in
    let may : may_access (memory rows pages) Write a size ≡ true = sym c.store_part.ensures.may ∙ c.if-store_part.true in
    let word = λ (v : View). answers t (pos 0) (store a bytes v) in
    did_as rows pages n after left word (sigpending t a size)
    (λ files. pending_told t a size (seen rows n pages files) set c.if-size-gt8.false may (c.pending_and_masked-set.ensures files))
    (did rows pages n after left word c.requires.frames c.store_part.ensures.others c.store_part.ensures.count
    (λ files. let k = node_of n files in let v = seen rows n pages files in
    steps rows pages (answered t (pos 0)) k (node_of after files) left (store a bytes v) (c.answered.ensures.node files)
    (stores rows pages a bytes k pages left v
    (c.store_part.ensures.memory ∙ tried_done (memory rows pages) a bytes (ap (may_access (memory rows pages) Write a) (length_little size set) ∙ may)) (begins rows pages k))))

pub returns-else-store_part-clause-did : goal.returns-else-store_part-clause-did
returns-else-store_part-clause-did g c =
    let rows = g.T.PageTable.rows c.args.space.now.table in
    let n = c.args.node.now in
    let pages = c.args.mem.now in
    let left = c.store_part.new.mem in
    let after = c.answered-else-store_part.new.self in
    let t = c.args.t.0 in
    let a = c.args.address in
    let size = c.args.size in
    let set = c.pending_and_masked-set.result.0 in
    let bytes = little_endian size set in
    let may : may_access (memory rows pages) Write a size ≡ false = sym c.store_part.ensures.may ∙ c.if-store_part.false in
    let tried : may_access (memory rows pages) Write a (length bytes) ≡ false = ap (may_access (memory rows pages) Write a) (length_little size set) ∙ may in
    let same : memory rows left ≡ memory rows pages = c.store_part.ensures.memory ∙ ap (λ b. cond b (write_bytes (memory rows pages) a bytes) (memory rows pages)) tried in
    did_as rows pages n after left (on_node (answered t (refused EFAULT))) (sigpending t a size)
    (λ files. pending_not t a size (seen rows n pages files) c.if-size-gt8.false may)
    (did rows pages n after left (on_node (answered t (refused EFAULT))) c.requires.frames c.store_part.ensures.others c.store_part.ensures.count
    (λ files. let k = node_of n files in
    unstored rows pages (node_of after files) left (on_node (answered t (refused EFAULT)) (seen rows n pages files)) same
    (steps rows pages (answered t (refused EFAULT)) k (node_of after files) pages (seen rows n pages files) (c.answered-else-store_part.ensures.node files) (begins rows pages k))))
