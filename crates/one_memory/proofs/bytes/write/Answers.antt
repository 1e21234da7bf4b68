use Rattle.isa_model.specs.Memory.{write_bytes}
use Rattle.mck_word.specs.declared.Access.TheVariants.{Write}
use Rattle.one_memory.proofs.BytesRead.{present}
use Rattle.one_memory.proofs.BytesWritten.{some-after, write-none, write-step}
use Rattle.std.proofs.Common.{◌≡◌, ◌+◌, ◌-◌, ◌*◌, ◌/◌, ◌%◌, arith, drop, refl, sym, take, ◌∙◌}
use Rattle.one_memory.proofs.bytes.write.Goals as goal

pub loop-done-init : goal.loop-done-init
loop-done-init c = record { within = omega arith; memory = sym (write-none _ c.args.address); spare = refl }

pub write_piece-requires-clause-there : goal.write_piece-requires-clause-there
write_piece-requires-clause-there c =
    let m = c.args.rows.now.map in
    let page = c.args.address / 4096 + (c.args.address % 4096 + c.loop-done.done) / 4096 in
    let x = present m Write page (c.requires page (omega arith) (omega arith) (omega arith)) in
    some-after (take c.loop-done.done c.args.from.now) m c.loop-done.rows.map c.args.address page x.0 c.loop-done.invariant.memory x.1

pub loop-done-preserved : goal.loop-done-preserved
loop-done-preserved c =
    let was = c.loop-done.invariant in
    let done = c.loop-done.done in
    let a = c.args.address in
    let e : (a / 4096 + (a % 4096 + done) / 4096) * 4096 + (a % 4096 + done) % 4096 ≡ a + done = omega arith in
    let d : done + c.min-len.result - done ≡ c.min-len.result = omega arith in
    record {
      within = omega arith;
      memory = c.write_piece.ensures.memory
          ∙ ((λ j. write_bytes (was.memory j) (e j) (take (d j) (drop done c.args.from.now)))
          ∙ write-step c.args.rows.now.map a done c.min-len.result c.args.from.now (omega arith));
      spare = c.write_piece.ensures.spare ∙ was.spare;
    }
