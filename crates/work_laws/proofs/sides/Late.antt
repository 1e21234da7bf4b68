-- Where the table changes, an answer may get other rights than the table has: each counts a little more at most. And what a message counts that is posted.
use Rattle.hybrid_model.specs.Sides.{Row}
use Rattle.hybrid_model.specs.Tallies.{Reads, sum_rings, tally}
use Rattle.ikc_ring.specs.declared.Msg.TheVariants.{Ack, Answer, Clear, Fault, Interrupt, Reply, Request}
use Rattle.ikc_ring.specs.declared.Msg.{Msg}
use Rattle.std.proofs.Common.{arith}
use Rattle.std.specs.Prelude.{Bool, List, None, Option, Some, [], cond, false, nat_lt, true, ℕ, ◌*◌, ◌+◌, ◌==◌, ◌∷◌, ◌≤◌}
use Rattle.work_laws.proofs.fetch.Clear.{answers}
use Rattle.work_laws.specs.Weights.{any_change, of_message, of_row}

late-most : (now : Option Row) (row : Option Row) → of_row now row ≤ any_change
late-most now None = omega arith
late-most None (Some r) = omega arith
late-most (Some t) (Some r) = go (t.1.0 == r.1.0)
  where
    go : (b : Bool) → cond b 0 any_change ≤ any_change
    go true = omega arith
    go false = omega arith

module _ (workers cleared : ℕ) (table table' : Reads Row) where
  late : (m : Msg) → of_message workers cleared table' m ≤ of_message workers cleared table m + any_change * answers m
  late (Request c) = omega arith
  late (Clear r) = omega arith
  late (Interrupt q place) = omega arith
  late (Reply q code) = omega arith
  late Ack = omega arith
  late (Fault w page a) = omega arith
  late (Answer w page number row) = let a = late-most (table' page) row in go (nat_lt number cleared) a
    where
      go : (b : Bool) → of_row (table' page) row ≤ any_change → cond b 11 (3 + of_row (table' page) row) ≤ cond b 11 (3 + of_row (table page) row) + any_change * 1
      go true a = omega arith
      go false a = omega (arith, a)

  ring-late : (ms : List Msg) → tally (of_message workers cleared table') ms ≤ tally (of_message workers cleared table) ms + any_change * tally answers ms
  ring-late [] = omega arith
  ring-late (m ∷ ms) = let a = late m in let b = ring-late ms in omega (arith, a, b)

  pub rings-late : (rs : List (List Msg)) → sum_rings (of_message workers cleared table') rs ≤ sum_rings (of_message workers cleared table) rs + any_change * sum_rings answers rs
  rings-late [] = omega arith
  rings-late (ms ∷ rs) = let a = ring-late ms in let b = rings-late rs in omega (arith, a, b)
