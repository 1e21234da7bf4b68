-- What the functions on pages rest on: the way to a page's word, absent blocks, and places that pages touch.
use Rattle.mck_flags.specs.declared.rights.Rights.{Rights}
use Rattle.mck_word.specs.Maps.{and_then}
use Rattle.mck_word.specs.Pages.{in_range, in_ranges}
use Rattle.mck_word.specs.declared.Frame.{Frame}
use Rattle.mck_word.specs.declared.PageRange.{PageRange}
use Rattle.std.proofs.Common.{◌≡◌, ℕ, ◌+◌, ◌*◌, ◌-◌, ◌/◌, ◌%◌, ◌^◌, ◌<◌, ◌≤◌, Bool, true, false, cond, leb, ltb, List, [], ◌∷◌, None, Some, sym, ap, ◌∙◌, inl, inr, arith}
use Rattle.std.proofs.lemmas.Bool.{and_parts, leb-true, lt-ltb, le-ltb, ltb-true, or_cases, or_left, or_right}
use Rattle.std.specs.Prelude.{IsTrue, is_some, slice_index, min, max}
use Rattle.sv_table.proofs.Keys.{key_at-is}
use Rattle.sv_table.proofs.Walked.{key_at-leaf, key_at-middle, walk-some}
use Rattle.sv_table.specs.Room.{is_touched, touched_by}
use Rattle.sv_table.specs.Trees.{IsEntry, IsOpenTree}
use Rattle.sv_table.specs.Walks.{Nodes, child, key_at, place_of_leaf, place_of_middle, walk, word, word_in}
use Rattle.sv_table.specs.Words.{is_present, page_in}

-- the word of a page in its leaf
module _ (node : Nodes) (open_key page leaf : ℕ) (words : List ℕ) (low : page < 2 ^ 27) (at : key_at node (place_of_leaf page) ≡ Some leaf) (has : node leaf ≡ Some words) where
  pub entry_there : IsOpenTree node open_key → IsEntry (slice_index words (page % 512))
  entry_there t =
      let spot = key_at-is node t.home open_key t.tree (place_of_leaf page) (omega arith) leaf at in
      let placed = spot.placed in
      (t.tree.each leaf words has).outer (omega arith) (page % 512) (omega arith)

  pub word_there : page_in (slice_index words (page % 512)) ≡ walk node page
  word_there = sym (walk-some node page low leaf at ∙ ap (λ o. page_in (word_in o (page % 512))) has)

-- the two steps to a leaf
module _ (node : Nodes) (page : ℕ) (low : page < 2 ^ 27) where
  pub no_middle : child node 0 (page / 262144) ≡ None → None ≡ key_at node (place_of_leaf page)
  no_middle e = sym (key_at-leaf node page low ∙ ap (λ o. and_then o (λ k. child node k (page / 512 % 512))) e)

  pub leaf_below : (middle : ℕ) → child node 0 (page / 262144) ≡ Some middle → child node middle (page / 512 % 512) ≡ key_at node (place_of_leaf page)
  leaf_below middle e = sym (key_at-leaf node page low ∙ ap (λ o. and_then o (λ k. child node k (page / 512 % 512))) e)

  pub leaf_found : (middle leaf : ℕ) → child node 0 (page / 262144) ≡ Some middle → child node middle (page / 512 % 512) ≡ Some leaf → key_at node (place_of_leaf page) ≡ Some leaf
  leaf_found middle leaf e f = sym (leaf_below middle e) ∙ f

  pub middle_found : (middle : ℕ) → child node 0 (page / 262144) ≡ Some middle → key_at node (place_of_middle page) ≡ Some middle
  middle_found middle e = key_at-middle node page low ∙ e

-- an absent entry: nothing is found below it
module _ (node : Nodes) (page : ℕ) where
  pub none_in_middle : child node 0 (page / 262144) ≡ None → (q : ℕ) → page ≤ q → q < (page / 262144 + 1) * 262144 → walk node q ≡ None
  unfolding walk
  none_in_middle e q a b =
      let same : q / 262144 ≡ page / 262144 = omega arith in
      ap (λ o. and_then o (λ middle. and_then (child node middle (q / 512 % 512)) (λ leaf. page_in (word node leaf (q % 512))))) (ap (child node 0) same ∙ e)

  pub none_in_leaf : (middle : ℕ) → child node 0 (page / 262144) ≡ Some middle → child node middle (page / 512 % 512) ≡ None → (q : ℕ) → page ≤ q → q < (page / 512 + 1) * 512 → walk node q ≡ None
  unfolding walk
  none_in_leaf middle e f q a b =
      let block : q / 512 ≡ page / 512 = omega arith in
      let same : q / 262144 ≡ page / 262144 = omega arith in
      ap (λ o. and_then o (λ middle. and_then (child node middle (q / 512 % 512)) (λ leaf. page_in (word node leaf (q % 512))))) (ap (child node 0) same ∙ e)
      ∙ ap (λ o. and_then o (λ leaf. page_in (word node leaf (q % 512)))) (ap (λ b. child node middle (b % 512)) block ∙ f)

  pub middle_needed : IsTrue (is_some (walk node page)) → child node 0 (page / 262144) ≡ None → {P : Type 0} → P
  middle_needed there e = let none = none_in_middle e page (omega arith) (omega arith) in let off = ap is_some none in absurd (cc)

  pub leaf_needed : (middle : ℕ) → IsTrue (is_some (walk node page)) → child node 0 (page / 262144) ≡ Some middle → child node middle (page / 512 % 512) ≡ None → {P : Type 0} → P
  leaf_needed middle there e f = let none = none_in_leaf middle e f page (omega arith) (omega arith) in let off = ap is_some none in absurd (cc)

-- whether a word is an entry tells whether a page is found
chosen : (b : Bool) (row : Frame × Rights) → b ≡ true → is_some (cond b (Some row) None) ≡ true
chosen b row e = ap (λ t. is_some (cond t (Some row) None)) e

pub page_in-on : (w : ℕ) → is_present w ≡ true → is_some (page_in w) ≡ true
unfolding page_in
page_in-on w e = chosen (is_present w) (record { 0 = w / 1024 }, record { 0 = w / 2 % 256 }) e

pub page_in-off : (w : ℕ) → is_present w ≡ false → page_in w ≡ None
unfolding page_in
page_in-off w e = ap (λ b. cond b (Some (record { 0 = w / 1024 }, record { 0 = w / 2 % 256 })) None) e

-- a page of the ranges touches the places of its nodes
leaf_by : (r : PageRange) (page : ℕ) → in_range r page ≡ true → touched_by r (place_of_leaf page) ≡ true
leaf_by r page h =
    let p = and_parts (leb r.lo page) (ltb page r.hi) h in
    let a = leb-true r.lo page p.0 in
    let b = ltb-true page r.hi p.1 in
    let same : 513 + page / 512 - 513 ≡ page / 512 = omega arith in
    rw (le-ltb (513 + page / 512) 513 (omega arith), same) (lt-ltb (max r.lo (page / 512 * 512)) (min r.hi (page / 512 * 512 + 512)) (omega arith))

middle_by : (r : PageRange) (page : ℕ) → page < 2 ^ 27 → in_range r page ≡ true → touched_by r (place_of_middle page) ≡ true
middle_by r page l h =
    let p = and_parts (leb r.lo page) (ltb page r.hi) h in
    let a = leb-true r.lo page p.0 in
    let b = ltb-true page r.hi p.1 in
    let same : 1 + page / 262144 - 1 ≡ page / 262144 = omega arith in
    rw (lt-ltb (1 + page / 262144) 513 (omega arith), same) (lt-ltb (max r.lo (page / 262144 * 262144)) (min r.hi (page / 262144 * 262144 + 262144)) (omega arith))

pub touches_leaf : (rs : List PageRange) (page : ℕ) → IsTrue (in_ranges rs page) → IsTrue (is_touched rs (place_of_leaf page))
touches_leaf [] page h = absurd (cc)
touches_leaf (r ∷ rs) page h = elim (or_cases (in_range r page) (in_ranges rs page) h) [
  | inl here ↦ or_left (touched_by r (place_of_leaf page)) (is_touched rs (place_of_leaf page)) (leaf_by r page here)
  | inr rest ↦ or_right (touched_by r (place_of_leaf page)) (is_touched rs (place_of_leaf page)) (touches_leaf rs page rest)
]

pub touches_middle : (rs : List PageRange) (page : ℕ) → page < 2 ^ 27 → IsTrue (in_ranges rs page) → IsTrue (is_touched rs (place_of_middle page))
touches_middle [] page l h = absurd (cc)
touches_middle (r ∷ rs) page l h = elim (or_cases (in_range r page) (in_ranges rs page) h) [
  | inl here ↦ or_left (touched_by r (place_of_middle page)) (is_touched rs (place_of_middle page)) (middle_by r page l here)
  | inr rest ↦ or_right (touched_by r (place_of_middle page)) (is_touched rs (place_of_middle page)) (touches_middle rs page l rest)
]
