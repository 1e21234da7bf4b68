use Rattle.std.proofs.Common.{◌≤◌, subst, sym}
use Rattle.file_tree.specs.Counting.{count_in}
use Rattle.file_tree.specs.CountLaws.{lowered-most}
use Rattle.mck_word.specs.Maps.{Map}
use Rattle.std.proofs.Common.{ℕ}
use Rattle.file_tree.proofs.counts.Counts.lower.Goals as goal

pub invariant_of-self : goal.invariant_of-self
invariant_of-self c = subst (λ (m : Map ℕ). (n : ℕ) → count_in m n ≤ c.self.inside.raises) (sym c.lower_row.ensures.map) (lowered-most c.args.n c.self.inside.rows.map c.self.inside.raises c.self.invariant)
