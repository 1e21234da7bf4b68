use Rattle.isa_model.specs.Memory.{may_access, read_bytes}
use Rattle.kernel_model.specs.Signals.{frame_size, on_node, raised, return_from_handler}
use Rattle.isa_model.specs.Registers.{reg}
use Rattle.lwk_calls.proofs.Delivering.{comes_back, comes_not, goes_back}
use Rattle.lwk_space.specs.Lacks.{memory}
use Rattle.lwk_views.proofs.Doing.{did_as, did_on_node}
use Rattle.lwk_views.specs.Views.{seen}
use Rattle.mck_word.specs.declared.Access.TheVariants.{Read}
use Rattle.mck_word.specs.declared.Regs.{Regs}
use Rattle.std.proofs.Common.{ap, cond, false, sym, true, ◌≡◌, ◌∙◌}
use Rattle.std.specs.Prelude.{replicate}
use Rattle.lwk_calls.proofs.delivers.return_from_handler.Goals as goal

pub returns-then-read_into-clause-did : goal.returns-then-read_into-clause-did
returns-then-read_into-clause-did g c =
    let rows = g.T.PageTable.rows c.args.space.now.table in
    let n = c.args.node.now in
    let pages = c.args.mem.now in
    let t = c.args.t.0 in
    let m = memory rows pages in
    let sp = c.stack_pointer-sp.result in
    let bytes = c.read_into.new.into in
    let r = c.pop_frame.result.0 in
    let mask = c.pop_frame.result.1.0 in
    let may : may_access m Read sp frame_size ≡ true = sym c.read_into.ensures.may ∙ c.if-read_into.true in
    did_as rows pages n c.returns_from_handler.new.self pages (on_node (goes_back t r mask)) (return_from_handler t)
    (λ files. comes_back t sp (seen rows n pages files) (c.stack_pointer-sp.ensures ∙ ap (λ (x : Regs). reg x 2) (c.regs.ensures files)) bytes r mask may
    (c.read_into.ensures.read ∙ ap (λ b. cond b (read_bytes m sp frame_size) (replicate 272 0)) may) c.pop_frame.ensures.registers c.pop_frame.ensures.mask)
    (did_on_node rows pages n c.returns_from_handler.new.self (goes_back t r mask) c.requires.frames c.returns_from_handler.ensures.node)

pub returns-else-read_into-clause-did : goal.returns-else-read_into-clause-did
returns-else-read_into-clause-did g c =
    let rows = g.T.PageTable.rows c.args.space.now.table in
    let n = c.args.node.now in
    let pages = c.args.mem.now in
    let t = c.args.t.0 in
    let sp = c.stack_pointer-sp.result in
    let may : may_access (memory rows pages) Read sp frame_size ≡ false = sym c.read_into.ensures.may ∙ c.if-read_into.false in
    did_as rows pages n c.raised.new.self pages (on_node (raised t 11)) (return_from_handler t)
    (λ files. comes_not t sp (seen rows n pages files) (c.stack_pointer-sp.ensures ∙ ap (λ (x : Regs). reg x 2) (c.regs.ensures files)) may)
    (did_on_node rows pages n c.raised.new.self (raised t 11) c.requires.frames c.raised.ensures.node)
