use Rattle.std.proofs.Common.{◌≡◌, ◌+◌, ◌-◌, ◌∙◌, ◌++◌, Option, suc, ap, arith}
use Rattle.std.specs.Option.{option_to_list}
use Rattle.elf_load.specs.declared.placed.Placed.{Placed}
use Rattle.elf_load.proofs.Joins.{placed_more, placed_done}
use Rattle.elf_load.proofs.written_around.read_placed.Goals as goal

pub loop-number-preserved : goal.loop-number-preserved
loop-number-preserved c =
    let n : c.args.count - c.loop-number.number ≡ suc (c.args.count - (c.loop-number.number + 1)) = omega arith in
    let added = c.in_ok-add_found.ensures ∙ ap (λ (o : Option Placed). c.loop-number.placed ++ option_to_list o) c.placed_at.ensures in
    record {
      value = placed_more _ _ _ _ _ _ _ _ n added c.loop-number.invariant.value;
      at = omega arith;
      most = omega arith;
    }

pub returns : goal.returns
returns c = let n : c.args.count - c.loop-number.number ≡ 0 = omega arith in placed_done _ _ _ _ _ _ n c.loop-number.invariant.value
