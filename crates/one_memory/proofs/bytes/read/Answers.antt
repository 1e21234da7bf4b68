use Rattle.isa_model.specs.Memory.{read_bytes}
use Rattle.one_memory.proofs.BytesRead.{length-read, read-more}
use Rattle.std.proofs.Common.{◌≡◌, ◌+◌, ◌-◌, ◌*◌, ◌/◌, ◌%◌, ◌++◌, arith, ap, drop, length, sym, take, ◌∙◌}
use Rattle.std.proofs.lemmas.List.{length-drop, length-take}
use Rattle.std.proofs.lemmas.Slice.{take-put_mid}
use Rattle.one_memory.proofs.bytes.read.Goals as goal

pub loop-done-preserved : goal.loop-done-preserved
loop-done-preserved c =
    let m = c.args.rows.now.map in
    let done = c.loop-done.done in
    let a = c.args.address in
    let e : (a / 4096 + (a % 4096 + done) / 4096) * 4096 + (a % 4096 + done) % 4096 ≡ a + done = omega arith in
    let part = c.read_piece.ensures in
    let k : length (take (done + c.min-len.result - done) (drop done c.loop-done.into)) ≡ c.min-len.result
    = omega (arith, length-take (done + c.min-len.result - done) (drop done c.loop-done.into), length-drop done c.loop-done.into) in
    let n : length c.read_piece.new.into ≡ c.min-len.result = ap length part ∙ (length-read m _ _ ∙ k) in
    record {
      within = omega arith;
      read = take-put_mid done (done + c.min-len.result - done) c.loop-done.into c.read_piece.new.into (done + c.min-len.result) (omega (arith, n)) (omega (arith, n))
          ∙ ((λ j. c.loop-done.invariant.read j ++ (part ∙ (λ i. read_bytes m (e i) (k i))) j) ∙ sym (read-more m a done c.min-len.result));
    }
