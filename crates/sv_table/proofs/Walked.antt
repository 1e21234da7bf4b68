-- The walk for a page goes over the node at its leaf's place; the rows of a table have what the walk finds.
use Rattle.mck_flags.specs.declared.rights.Rights.{Rights}
use Rattle.mck_word.specs.MapLaws.{at-none, at-set_or_cut, same_rows}
use Rattle.mck_word.specs.Maps.{and_then, at, change, change_row, set_or_cut}
use Rattle.mck_word.specs.declared.Frame.{Frame}
use Rattle.std.proofs.Common.{◌≡◌, ◌≢◌, ℕ, zero, suc, ◌/◌, ◌%◌, ◌^◌, ◌<◌, ◌≤◌, cond, ltb, Option, None, Some, refl, sym, ap, ◌∙◌, inl, inr, arith}
use Rattle.std.proofs.lemmas.Bool.{cases_eq, cases_lt, eq-eqb, lt-ltb, le-ltb, ne_eqb}
use Rattle.std.specs.Prelude.{IsTrue, is_some, option_map}
use Rattle.sv_table.proofs.Keys.{key_at-root, key_at-step}
use Rattle.sv_table.specs.Walks.{Nodes, above, child, entry_above, key_at, place_of_leaf, place_of_middle, rows_below, rows_of, walk, word}
use Rattle.sv_table.specs.Words.{page_in}

module _ (node : Nodes) where
  pub key_at-middle : (page : ℕ) → page < 2 ^ 27 → key_at node (place_of_middle page) ≡ child node 0 (page / 262144)
  key_at-middle page l =
      let parent : above (place_of_middle page) ≡ 0 = omega arith in
      let index : entry_above (place_of_middle page) ≡ page / 262144 = omega arith in
      key_at-step node (place_of_middle page) (omega arith) (omega arith)
      ∙ ap (λ o. and_then o (λ k. child node k (entry_above (place_of_middle page)))) (ap (key_at node) parent ∙ key_at-root node)
      ∙ ap (child node 0) index

  pub above-leaf : (page : ℕ) → above (place_of_leaf page) ≡ place_of_middle page
  above-leaf page = omega arith

  pub entry_above-leaf : (page : ℕ) → entry_above (place_of_leaf page) ≡ page / 512 % 512
  entry_above-leaf page = omega arith

  pub key_at-leaf : (page : ℕ) → page < 2 ^ 27 → key_at node (place_of_leaf page) ≡ and_then (child node 0 (page / 262144)) (λ middle. child node middle (page / 512 % 512))
  key_at-leaf page l =
      key_at-step node (place_of_leaf page) (omega arith) (omega arith)
      ∙ ap (λ o. and_then o (λ k. child node k (entry_above (place_of_leaf page)))) (ap (key_at node) (above-leaf page) ∙ key_at-middle page l)
      ∙ ap (λ i. and_then (child node 0 (page / 262144)) (λ k. child node k i)) (entry_above-leaf page)

  -- the walk, by the leaf
  pub walk-leaf : (page : ℕ) → page < 2 ^ 27 → walk node page ≡ and_then (key_at node (place_of_leaf page)) (λ leaf. page_in (word node leaf (page % 512)))
  unfolding walk
  walk-leaf page l =
      twice (child node 0 (page / 262144)) (λ middle. child node middle (page / 512 % 512)) (λ leaf. page_in (word node leaf (page % 512)))
      ∙ ap (λ o. and_then o (λ leaf. page_in (word node leaf (page % 512)))) (sym (key_at-leaf page l))
    where
      twice : {A B C : Type 0} (o : Option A) (f : A → Option B) (g : B → Option C) → and_then o (λ a. and_then (f a) g) ≡ and_then (and_then o f) g
      twice None f g = refl
      twice (Some a) f g = refl

-- the rows below a number are what is found there
pub at-rows_below : (find : ℕ → Option (Frame × Rights)) (n page : ℕ) → at (rows_below find n) page ≡ cond (ltb page n) (find page) None
unfolding rows_below
at-rows_below find zero page = at-none page ∙ sym (ap (λ b. cond b (find page) None) (le-ltb page 0 (omega arith)))
at-rows_below find (suc n) page =
    at-set_or_cut (rows_below find n) n (find n) page ∙ elim (cases_lt page n) [
      | inl low ↦ rw (ne_eqb page n (omega arith)) (at-rows_below find n page ∙ ap (λ b. cond b (find page) None) (lt-ltb page n low ∙ sym (lt-ltb page (suc n) (omega arith))))
      | inr high ↦ elim (cases_eq page n) [
        | inl same ↦ rw (eq-eqb page n same, lt-ltb page (suc n) (omega arith)) (ap find (sym same))
        | inr other ↦ rw (ne_eqb page n other) (at-rows_below find n page ∙ ap (λ b. cond b (find page) None) (le-ltb page n high ∙ sym (le-ltb page (suc n) (omega arith))))
      ]
    ]

module _ (node : Nodes) where
  pub at-rows : (page : ℕ) → at (rows_of node) page ≡ cond (ltb page (2 ^ 27)) (walk node page) None
  unfolding rows_of
  at-rows page = at-rows_below (walk node) (2 ^ 27) page

  pub at-rows_low : (page : ℕ) → page < 2 ^ 27 → at (rows_of node) page ≡ walk node page
  at-rows_low page l = at-rows page ∙ ap (λ b. cond b (walk node page) None) (lt-ltb page (2 ^ 27) l)

  pub at-rows_high : (page : ℕ) → 2 ^ 27 ≤ page → at (rows_of node) page ≡ None
  at-rows_high page l = at-rows page ∙ ap (λ b. cond b (walk node page) None) (le-ltb page (2 ^ 27) l)

-- two tables with the same walks have the same rows
pub rows-same : (node node2 : Nodes) → ((page : ℕ) → page < 2 ^ 27 → walk node2 page ≡ walk node page) → rows_of node2 ≡ rows_of node
rows-same node node2 same = same_rows (rows_of node2) (rows_of node) (λ page. elim (cases_lt page (2 ^ 27)) [
  | inl low ↦ at-rows_low node2 page low ∙ same page low ∙ sym (at-rows_low node page low)
  | inr high ↦ at-rows_high node2 page high ∙ sym (at-rows_high node page high)
])

-- one page's walk changes
pub rows-set : (node node2 : Nodes) (page : ℕ) (o : Option (Frame × Rights)) → page < 2 ^ 27 → walk node2 page ≡ o → ((other : ℕ) → other < 2 ^ 27 → other ≢ page → walk node2 other ≡ walk node other) → rows_of node2 ≡ set_or_cut (rows_of node) page o
rows-set node node2 page o l here others = same_rows (rows_of node2) (set_or_cut (rows_of node) page o) (λ q. elim (cases_eq q page) [
  | inl same ↦ ap (at (rows_of node2)) same ∙ at-rows_low node2 page l ∙ here ∙ sym (at-set_or_cut (rows_of node) page o q ∙ ap (λ b. cond b o (at (rows_of node) q)) (eq-eqb q page same))
  | inr other ↦
      elim (cases_lt q (2 ^ 27)) as (λ _. at (rows_of node2) q ≡ at (rows_of node) q) [
        | inl low ↦ at-rows_low node2 q low ∙ others q low other ∙ sym (at-rows_low node q low)
        | inr high ↦ at-rows_high node2 q high ∙ sym (at-rows_high node q high)
      ]
      ∙ sym (at-set_or_cut (rows_of node) page o q ∙ ap (λ b. cond b o (at (rows_of node) q)) (ne_eqb q page other))
])

-- a page whose leaf stays, with its word there
pub walk-kept : (node node2 : Nodes) (page : ℕ) → page < 2 ^ 27 → key_at node2 (place_of_leaf page) ≡ key_at node (place_of_leaf page)
    → ((leaf : ℕ) → key_at node (place_of_leaf page) ≡ Some leaf → page_in (word node2 leaf (page % 512)) ≡ page_in (word node leaf (page % 512))) → walk node2 page ≡ walk node page
walk-kept node node2 page l same words =
    walk-leaf node2 page l
    ∙ ap (λ o. and_then o (λ leaf. page_in (word node2 leaf (page % 512)))) same
    ∙ by_key (key_at node (place_of_leaf page)) refl
    ∙ sym (walk-leaf node page l)
  where
    by_key : (o : Option ℕ) → key_at node (place_of_leaf page) ≡ o → and_then o (λ leaf. page_in (word node2 leaf (page % 512))) ≡ and_then o (λ leaf. page_in (word node leaf (page % 512)))
    by_key None e = refl
    by_key (Some leaf) e = words leaf e

pub walk-none : (node : Nodes) (page : ℕ) → page < 2 ^ 27 → key_at node (place_of_leaf page) ≡ None → walk node page ≡ None
walk-none node page l e = walk-leaf node page l ∙ ap (λ o. and_then o (λ leaf. page_in (word node leaf (page % 512)))) e

pub walk-some : (node : Nodes) (page : ℕ) → page < 2 ^ 27 → (leaf : ℕ) → key_at node (place_of_leaf page) ≡ Some leaf → walk node page ≡ page_in (word node leaf (page % 512))
walk-some node page l leaf e = walk-leaf node page l ∙ ap (λ o. and_then o (λ leaf. page_in (word node leaf (page % 512)))) e

-- a page that has a row is below 2^27, and the walk finds it
pub row-low : (node : Nodes) (page : ℕ) → IsTrue (is_some (at (rows_of node) page)) → page < 2 ^ 27
row-low node page there = elim (cases_lt page (2 ^ 27)) [ inl low ↦ low | inr high ↦ absurd (let none = at-rows_high node page high in let off = ap is_some none in cc) ]

pub row-found : (node : Nodes) (page : ℕ) → IsTrue (is_some (at (rows_of node) page)) → IsTrue (is_some (walk node page))
row-found node page there = ap is_some (sym (at-rows_low node page (row-low node page there))) ∙ there

-- a row that is changed
pub rows-changed : (node node2 : Nodes) (page : ℕ) (f : Frame × Rights → Frame × Rights) → IsTrue (is_some (at (rows_of node) page)) → walk node2 page ≡ option_map f (walk node page)
    → ((other : ℕ) → other < 2 ^ 27 → other ≢ page → walk node2 other ≡ walk node other) → rows_of node2 ≡ change (rows_of node) page f
rows-changed node node2 page f there here others = by_row (walk node page) refl
  where
    low : page < 2 ^ 27
    low = row-low node page there

    by_row : (o : Option (Frame × Rights)) → walk node page ≡ o → rows_of node2 ≡ change (rows_of node) page f
    by_row None e = absurd (let found = row-found node page there in let off = ap is_some e in cc)
    by_row (Some row) e =
        rows-set node node2 page (Some (f row)) low (here ∙ ap (option_map f) e) others
        ∙ sym (ap (change_row (rows_of node) page f) (at-rows_low node page low ∙ e))
