use Rattle.std.proofs.Common.{◌+◌, ◌≤◌, subst, sym, ℕ}
use Rattle.file_tree.specs.Counting.{count_in}
use Rattle.file_tree.specs.CountLaws.{raised-most}
use Rattle.mck_word.specs.Maps.{Map}
use Rattle.file_tree.proofs.counts.Counts.raise.Goals as goal

pub invariant_of-self : goal.invariant_of-self
invariant_of-self c = subst (λ (m : Map ℕ). (n : ℕ) → count_in m n ≤ c.self.inside.raises + 1) (sym c.raise_row.ensures.map) (raised-most c.args.n c.self.inside.rows.map c.self.inside.raises c.self.invariant)
