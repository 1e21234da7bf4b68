use Rattle.kernel_model.specs.Layout.{addresses_from}
use Rattle.one_memory.proofs.GuestStack.{drop-here, strings-less}
use Rattle.std.proofs.Common.{[], ap, append_assoc, arith, drop, length, sym, ◌+◌, ◌++◌, ◌∙◌, ◌∷◌, ◌≡◌}
use Rattle.std.specs.Prelude.{List, ℕ}
use Rattle.one_memory.proofs.stack.add_addresses.Goals as goal

pub loop-argument-preserved : goal.loop-argument-preserved
loop-argument-preserved c =
    let was = c.loop-argument.invariant in
    let all = c.args.arguments.now in
    let i = c.loop-argument.argument-index in
    let a = c.argument-item.result in
    let from = c.loop-argument.address in
    let done = c.loop-argument.words.items in
    let here = drop-here all i a (omega arith) c.argument-item.is in
    let more = strings-less all i a (omega arith) c.argument-item.is in
    let next : from + (c.len.result + 1) ≡ from + length a + 1 = omega (arith, c.len.ensures) in
    record {
      left = (λ j. c.in_ok-push.ensures.items j ++ addresses_from (next j) (drop (i + 1) all))
          ∙ (append_assoc done (from ∷ []) (addresses_from (from + length a + 1) (drop (i + 1) all))
          ∙ (sym (ap (λ (ss : List (List ℕ)). done ++ addresses_from from ss) here) ∙ was.left));
      address = omega (arith, more, was.address, next);
    }
