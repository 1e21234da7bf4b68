use Rattle.isa_model.specs.Memory.{Memory, Page}
use Rattle.mck_word.specs.Maps.{entries}
use Rattle.one_memory.proofs.Copied.{IsFilling, begins-filling, fills-one, is-filled}
use Rattle.one_memory.proofs.copies.copy_rows.Goals as goal
use Rattle.std.proofs.Common.{List, length, ap, arith, drop, drop-cons, subst, sym, ℕ, ◌+◌, ◌<◌, ◌≤◌, ◌≡◌, ◌∷◌, ◌∙◌, suc, slice_index_or}
use Rattle.std.proofs.lemmas.List.{drop_all}
use Rattle.std.specs.FinMap as finmap

pub loop-row-init : goal.loop-row-init
loop-row-init c =
    let m = c.args.from.now.map in
    let some = c.requires.some in
    record {
      left = subst (λ (x : Memory). IsFilling (entries m) x m) (sym c.requires.empty) (begins-filling m);
      unused = omega (arith, some);
      room = c.requires.room;
    }

pub copy_row-requires-clause-some : goal.copy_row-requires-clause-some
copy_row-requires-clause-some c =
    let m = c.args.from.now.map in
    let i = c.loop-row.row-index in
    let more : i < length (entries m) = subst (λ (xs : List (ℕ × Page)). i < length xs) c.as_slice-row-items.ensures c.loop-row-test.true in
    let count = finmap.len-entries m in
    let unused = c.loop-row.invariant.unused in
    omega (arith, more, count, unused)

pub loop-row-preserved : goal.loop-row-preserved
loop-row-preserved c =
    let m = c.args.from.now.map in
    let i = c.loop-row.row-index in
    let e = c.row-item.result in
    let rest = drop (i + 1) (entries m) in
    let more : i < length (entries m) = subst (λ (xs : List (ℕ × Page)). i < length xs) c.as_slice-row-items.ensures c.loop-row-test.true in
    let here = c.row-item.is ∙ ap (λ (xs : List (ℕ × Page)). slice_index_or xs i e) c.as_slice-row-items.ensures in
    let next : suc i ≡ i + 1 = omega arith in
    let split : drop i (entries m) ≡ e ∷ rest = drop-cons (entries m) i e more ∙ (λ k. sym here k ∷ drop (next k) (entries m)) in
    let unused = c.loop-row.invariant.unused in
    let taken = c.copy_row.ensures.unused in
    record {
      left = subst (λ (x : Memory). IsFilling rest x m) (sym c.copy_row.ensures.page)
          (fills-one e rest c.loop-row.rows.map m (subst (λ (xs : List (ℕ × Page)). IsFilling xs c.loop-row.rows.map m) split c.loop-row.invariant.left));
      unused = omega (arith, unused, taken);
      room = c.copy_row.ensures.room;
    }

pub returns-clause-same : goal.returns-clause-same
returns-clause-same c =
    let m = c.args.from.now.map in
    let i = c.loop-row.row-index in
    let over : length (entries m) ≤ i = subst (λ (xs : List (ℕ × Page)). length xs ≤ i) c.as_slice-row-items.ensures c.loop-row-test.false in
    is-filled c.loop-row.rows.map m (subst (λ (xs : List (ℕ × Page)). IsFilling xs c.loop-row.rows.map m) (drop_all i (entries m) over) c.loop-row.invariant.left)
