-- What a side counts at its beginning: the Clear of its first round to come.
use Rattle.file_model.specs.Files.{Files}
use Rattle.hybrid_laws.proofs.memory.NewSide.{no-at}
use Rattle.hybrid_model.specs.Sides.{Row, Side, new_side, no_lwk}
use Rattle.hybrid_model.specs.Tallies.{sum_rings}
use Rattle.ikc_ring.specs.declared.Msg.{Msg}
use Rattle.mck_word.specs.Maps.{Map, at, entries, no_rows}
use Rattle.std.proofs.Common.{arith, refl}
use Rattle.std.specs.Prelude.{[], replicate, suc, sum_by, zero, ℕ, ◌+◌, ◌≡◌}
use Rattle.work_laws.proofs.sides.Rows.{rows-le}
use Rattle.work_laws.proofs.steps.OneProcess.{total-none}
use Rattle.work_laws.specs.Weights.{of_clear, of_message, of_noted, of_pin, of_request, of_side}

entries-none : {V : Type 0} (f : ℕ × V → ℕ) → sum_by f (entries no_rows) ≡ 0
entries-none {V} f =
    let a = rows-le f (λ (e : ℕ × V). 0) no_rows (λ k v e. absurd (no-at k v e)) in
    let b = total-none (λ (v : V). 0) in
    omega (arith, a, b)

rings-none : (f : Msg → ℕ) (rings : ℕ) → sum_rings f (replicate rings []) ≡ 0
rings-none f zero = refl
rings-none f (suc n) = let a = rings-none f n in omega (arith, a)

pub new-left : (workers : ℕ) (files : Files) (rings : ℕ) (table : Map Row) → of_side workers files (record (new_side rings) { lwk = record no_lwk { table = table } }) ≡ of_clear workers + 4
new-left workers files rings table =
    let s : Side = record (new_side rings) { lwk = record no_lwk { table = table } } in
    let a = entries-none (of_request files s.linux) in
    let b = rings-none (of_message workers s.linux.cleared (at table)) rings in
    let c = total-none of_noted in
    let d = total-none of_pin in
    omega (arith, a, b, c, d)
