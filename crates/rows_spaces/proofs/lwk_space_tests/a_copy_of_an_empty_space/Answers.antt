use Rattle.hybrid_model.specs.Sides.{Row}
use Rattle.rows_spaces.proofs.lwk_space_tests.a_copy_of_an_empty_space.Goals as goal
use Rattle.mck_word.specs.Maps.{Map, count, no_rows}
use Rattle.std.proofs.Common.{ap, arith, rules, ◌∙◌, ◌≡◌}
use Rattle.std.specs.FinMap as finmap
use Rattle.std.specs.Ordering.{nat_cmp}

pub copy_space-requires-clause-enough : goal.copy_space-requires-clause-enough
copy_space-requires-clause-enough g c =
    let empty : c.set_brk.new.self.table.map ≡ no_rows = search rules in
    let none = ap (λ (m : Map Row). count m) empty ∙ finmap.len-empty nat_cmp Row in
    omega (arith, none)
