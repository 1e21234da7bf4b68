use Rattle.isa_model.specs.Memory.{read_bytes}
use Rattle.lwk_space.proofs.BytesRead.{length-read, read-more}
use Rattle.lwk_space.specs.Lacks.{memory}
use Rattle.std.proofs.Common.{◌≡◌, ◌+◌, ◌-◌, ◌*◌, ◌/◌, ◌%◌, ◌++◌, arith, ap, drop, length, sym, take, ◌∙◌}
use Rattle.std.proofs.lemmas.List.{length-drop, length-take}
use Rattle.std.proofs.lemmas.Slice.{take-put_mid}
use Rattle.lwk_space.proofs.bytes.read_pieces.Goals as goal

pub loop-done-preserved : goal.loop-done-preserved
loop-done-preserved g c =
    let m = memory (g.T.PageTable.rows c.args.table.now) c.args.mem.now in
    let at = c.args.address + c.loop-done.done in
    let e : at / 4096 * 4096 + at % 4096 ≡ at = omega arith in
    let part = c.read_piece.ensures in
    let k : length (take (c.loop-done.done + c.min-len.result - c.loop-done.done) (drop c.loop-done.done c.loop-done.into)) ≡ c.min-len.result
    = omega (arith, length-take (c.loop-done.done + c.min-len.result - c.loop-done.done) (drop c.loop-done.done c.loop-done.into), length-drop c.loop-done.done c.loop-done.into) in
    let n : length c.read_piece.new.into ≡ c.min-len.result = ap length part ∙ (length-read m _ _ ∙ k) in
    record {
      within = omega arith;
      read = take-put_mid c.loop-done.done (c.loop-done.done + c.min-len.result - c.loop-done.done) c.loop-done.into c.read_piece.new.into (c.loop-done.done + c.min-len.result) (omega (arith, n)) (omega (arith, c.loop-done.invariant.within))
          ∙ ((λ j. c.loop-done.invariant.read j ++ (part ∙ (λ i. read_bytes m (e i) (k i))) j) ∙ sym (read-more m c.args.address c.loop-done.done c.min-len.result));
    }
