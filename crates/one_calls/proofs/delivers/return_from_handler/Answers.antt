use Rattle.isa_model.specs.Memory.{may_access, read_bytes}
use Rattle.isa_model.specs.Registers.{reg}
use Rattle.kernel_model.specs.Signals.{frame_size, on_node, raised, return_from_handler}
use Rattle.mck_word.specs.declared.Access.TheVariants.{Read}
use Rattle.mck_word.specs.declared.Regs.{Regs}
use Rattle.one_calls.proofs.Delivering.{comes_back, comes_not, goes_back}
use Rattle.one_calls.proofs.Doing.{did_as, did_on_node}
use Rattle.one_calls.specs.Views.{seen}
use Rattle.std.proofs.Common.{ap, cond, false, sym, true, ◌≡◌, ◌∙◌}
use Rattle.std.specs.Prelude.{replicate}
use Rattle.one_calls.proofs.delivers.return_from_handler.Goals as goal

pub returns-then-read_into : goal.returns-then-read_into
returns-then-read_into c =
    let n = c.args.node.now in
    let m = c.args.memory.now.map in
    let t = c.args.t.0 in
    let sp = c.stack_pointer-sp.result in
    let bytes = c.read_into.new.into in
    let r = c.pop_frame.result.0 in
    let mask = c.pop_frame.result.1.0 in
    let may : may_access m Read sp frame_size ≡ true = sym c.read_into.ensures.may ∙ c.if-read_into.true in
    did_as m n c.returns_from_handler.new.self m (on_node (goes_back t r mask)) (return_from_handler t)
    (λ files. comes_back t sp (seen n m files) (c.stack_pointer-sp.ensures ∙ ap (λ (x : Regs). reg x 2) (c.regs.ensures files)) bytes r mask may
    (c.read_into.ensures.read ∙ ap (λ b. cond b (read_bytes m sp frame_size) (replicate 272 0)) may) c.pop_frame.ensures.registers c.pop_frame.ensures.mask)
    (did_on_node m n c.returns_from_handler.new.self (goes_back t r mask) c.returns_from_handler.ensures.node)

pub returns-else-read_into : goal.returns-else-read_into
returns-else-read_into c =
    let n = c.args.node.now in
    let m = c.args.memory.now.map in
    let t = c.args.t.0 in
    let sp = c.stack_pointer-sp.result in
    let may : may_access m Read sp frame_size ≡ false = sym c.read_into.ensures.may ∙ c.if-read_into.false in
    did_as m n c.raised.new.self m (on_node (raised t 11)) (return_from_handler t)
    (λ files. comes_not t sp (seen n m files) (c.stack_pointer-sp.ensures ∙ ap (λ (x : Regs). reg x 2) (c.regs.ensures files)) may)
    (did_on_node m n c.raised.new.self (raised t 11) c.raised.ensures.node)
