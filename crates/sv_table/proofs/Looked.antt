-- How far the ranges were looked at.
use Rattle.mck_word.specs.declared.PageRange.{PageRange}
use Rattle.page_map.specs.Tables.{AreRanges, RiseFrom}
use Rattle.std.proofs.Common.{◌≡◌, ℕ, ◌+◌, ◌-◌, ◌/◌, ◌<◌, ◌≤◌, List, ◌∷◌, length, drop, ap, subst, ◌∙◌, arith}
use Rattle.std.proofs.lemmas.List.{drop_all}
use Rattle.std.specs.Prelude.{max}
use Rattle.sv_table.proofs.Looking.{left, left-all, left-empty, left-more, left-none}
use Rattle.sv_table.specs.Room.{absent, absent_from}
use Rattle.sv_table.specs.Walks.{Nodes}

pub record Looked (node : Nodes) (ranges : List PageRange) (i lacking middle leaf : ℕ) : Type 0 where
  pub counted : lacking + left node (drop i ranges) middle leaf ≡ absent node ranges
  pub rising : (lo : ℕ) × RiseFrom lo (drop i ranges)
  pub low : 1 ≤ middle
  pub high : 513 ≤ leaf

module _ (node : Nodes) (ranges : List PageRange) where
  pub looked-none : AreRanges ranges → Looked node ranges 0 0 1 513
  looked-none rise = record { counted = (let all = left-all node ranges in omega arith); rising = (0, rise); low = omega arith; high = omega arith }

  pub looked-all : (i n middle leaf : ℕ) → Looked node ranges i n middle leaf → length ranges ≤ i → n ≡ absent node ranges
  looked-all i n middle leaf l past =
      let none : left node (drop i ranges) middle leaf ≡ 0 = ap (λ rs. left node rs middle leaf) (drop_all i ranges past) ∙ left-none node middle leaf in
      let counted = l.counted in
      omega arith

  module _ (i n middle leaf : ℕ) (l : Looked node ranges i n middle leaf) (within : i < length ranges) (r : PageRange) (here : drop i ranges ≡ r ∷ drop (i + 1) ranges) where
    rise : RiseFrom l.rising.0 (r ∷ drop (i + 1) ranges)
    rise = subst (λ rs. RiseFrom l.rising.0 rs) here l.rising.1

    pub looked-over : r.hi ≤ r.lo → Looked node ranges (i + 1) n middle leaf
    looked-over none =
        let same : left node (drop i ranges) middle leaf ≡ left node (drop (i + 1) ranges) middle leaf = ap (λ rs. left node rs middle leaf) here ∙ left-empty node r (drop (i + 1) ranges) middle leaf l.low l.high none in
        let counted = l.counted in
        record { counted = omega arith; rising = (r.hi, rise.3); low = l.low; high = l.high }

    pub looked-more : (a b n2 first_middle first_leaf middle2 leaf2 : ℕ) → r.lo < r.hi
        → first_middle ≡ max middle (1 + r.lo / 262144) → a ≡ absent_from node first_middle (2 + (r.hi - 1) / 262144)
        → first_leaf ≡ max leaf (513 + r.lo / 512) → b ≡ absent_from node first_leaf (514 + (r.hi - 1) / 512)
        → n2 ≡ n + a + b → middle2 ≡ max middle (2 + (r.hi - 1) / 262144) → leaf2 ≡ max leaf (514 + (r.hi - 1) / 512)
        → Looked node ranges (i + 1) n2 middle2 leaf2
    looked-more a b n2 first_middle first_leaf middle2 leaf2 some fm am fl bl total m2 l2 =
        let step : left node (drop i ranges) middle leaf ≡ absent_from node (max middle (1 + r.lo / 262144)) (2 + (r.hi - 1) / 262144) + absent_from node (max leaf (513 + r.lo / 512)) (514 + (r.hi - 1) / 512)
        + left node (drop (i + 1) ranges) (max middle (2 + (r.hi - 1) / 262144)) (max leaf (514 + (r.hi - 1) / 512)) =
        ap (λ rs. left node rs middle leaf) here ∙ left-more node r (drop (i + 1) ranges) middle leaf l.low l.high some rise.2 rise.3 in
        let first : a ≡ absent_from node (max middle (1 + r.lo / 262144)) (2 + (r.hi - 1) / 262144) = am ∙ ap (λ f. absent_from node f (2 + (r.hi - 1) / 262144)) fm in
        let second : b ≡ absent_from node (max leaf (513 + r.lo / 512)) (514 + (r.hi - 1) / 512) = bl ∙ ap (λ f. absent_from node f (514 + (r.hi - 1) / 512)) fl in
        let rest : left node (drop (i + 1) ranges) middle2 leaf2 ≡ left node (drop (i + 1) ranges) (max middle (2 + (r.hi - 1) / 262144)) (max leaf (514 + (r.hi - 1) / 512)) =
        ap (λ m. left node (drop (i + 1) ranges) m leaf2) m2 ∙ ap (λ m. left node (drop (i + 1) ranges) (max middle (2 + (r.hi - 1) / 262144)) m) l2 in
        let counted = l.counted in
        let low = l.low in
        let high = l.high in
        record { counted = omega arith; rising = (r.hi, rise.3); low = omega arith; high = omega arith }
