use Rattle.isa_model.specs.Memory.{write_bytes}
use Rattle.lwk_space.proofs.BytesWritten.{write-none, write-step}
use Rattle.lwk_space.specs.Lacks.{memory}
use Rattle.std.proofs.Common.{◌≡◌, ◌+◌, ◌-◌, ◌*◌, ◌/◌, ◌%◌, arith, drop, refl, sym, take, ◌∙◌}
use Rattle.lwk_space.proofs.bytes.write_pieces.Goals as goal

pub loop-done-init : goal.loop-done-init
loop-done-init g c = record { within = omega arith; memory = sym (write-none _ c.args.address); others = λ f h. refl; len = refl }

pub loop-done-preserved : goal.loop-done-preserved
loop-done-preserved g c =
    let was = c.loop-done.invariant in
    let at = c.args.address + c.loop-done.done in
    let e : at / 4096 * 4096 + at % 4096 ≡ at = omega arith in
    let d : c.loop-done.done + c.min-len.result - c.loop-done.done ≡ c.min-len.result = omega arith in
    record {
      within = omega arith;
      memory = c.write_piece.ensures.memory
          ∙ ((λ j. write_bytes (was.memory j) (e j) (take (d j) (drop c.loop-done.done c.args.from.now)))
          ∙ write-step (memory (g.T.PageTable.rows c.args.table.now) c.args.mem.now) c.args.address c.loop-done.done c.min-len.result c.args.from.now (omega arith));
      others = λ f h. c.write_piece.ensures.others f h ∙ was.others f h;
      len = c.write_piece.ensures.len ∙ was.len;
    }
