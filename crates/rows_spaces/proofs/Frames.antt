-- Frames of a table that is gone through from page to page.
use Rattle.hybrid_model.specs.Sides.{Row}
use Rattle.key_rows.specs.Table.{key_from}
use Rattle.mck_word.specs.Maps.{Map, at}
use Rattle.page_map.specs.NextLaws.{next-none, next-some}
use Rattle.std.proofs.Common.{None, Some, ap, arith, inl, inr, ℕ, ◌+◌, ◌<◌, ◌≡◌, ◌≤◌}
use Rattle.std.proofs.lemmas.Bool.{cases_eq, cases_lt}

module _ (rows : Map Row) (frames from : ℕ) (below : (k : ℕ) (w : Row) → k < from → at rows k ≡ Some w → w.0.0 < frames) where
  pub next_low : (page : ℕ) → key_from rows from ≡ Some page → from ≤ page
  next_low page e = (next-some rows from page e).low

  pub in_more : (page : ℕ) (row : Row) → key_from rows from ≡ Some page → at rows page ≡ Some row → row.0.0 < frames → (k : ℕ) (w : Row) → k < page + 1 → at rows k ≡ Some w → w.0.0 < frames
  in_more page row e here fits k w l is = elim (cases_lt k from) [
    | inl low ↦ below k w low is
    | inr high ↦ elim (cases_eq k page) [
      | inl same ↦
          let both : w ≡ row = (let there = ap (at rows) same in cc) in
          let number : w.0.0 ≡ row.0.0 = ap (λ (r : Row). r.0.0) both in
          omega arith
      | inr other ↦ absurd (let none = (next-some rows from page e).least k high (omega arith) in cc)
    ]
  ]

  pub in_all : key_from rows from ≡ None → (k : ℕ) (w : Row) → at rows k ≡ Some w → w.0.0 < frames
  in_all e k w is = elim (cases_lt k from) [
    | inl low ↦ below k w low is
    | inr high ↦ absurd (let none = next-none rows from e k high in cc)
  ]
