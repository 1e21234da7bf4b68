-- A list of pages read and written by place.
use Rattle.std.proofs.Common.{◌≡◌, ℕ, zero, suc, ◌<◌, ◌≤◌, ◌&&◌, ◌==◌, nat_lt, Bool, true, false, not, List, [], ◌∷◌, map, length, slice_index_or, slice_set, Option, Some, None, sym, ap, ◌∙◌, refl, arith}
use Rattle.std.proofs.lemmas.Bool.{false≢true}
use Rattle.std.proofs.lemmas.Bool.Decides.{nat_tests}
use Rattle.mck_word.specs.declared.Access.{Access}
use Rattle.mck_word.specs.Maps.{change, change_row, put}
use Rattle.mck_word.specs.Slots.{by_place, at-slots, slots-set}
use Rattle.isa_model.specs.Memory.{Page, page_at, lacks, lacks_in, allows}
use Rattle.paged_memory.specs.Rows.{page_of, slot_of, pages_of, is_place}
use Rattle.paged_memory.specs.declared.PageRow.{PageRow}

slot-at : (rows : List PageRow) (p : ℕ) (r : PageRow) → p < length rows → r ≡ slice_index_or rows p r → slice_index_or (map slot_of rows) p None ≡ Some (page_of r)
slot-at [] p r h e = absurd (omega arith)
slot-at (x ∷ rows) zero r h e = ap slot_of (sym e)
slot-at (x ∷ rows) (suc p) r h e = slot-at rows p r (omega arith) e

slot-past : (rows : List PageRow) (p : ℕ) → length rows ≤ p → slice_index_or (map slot_of rows) p None ≡ None
slot-past [] p h = refl
slot-past (x ∷ rows) zero h = absurd (omega arith)
slot-past (x ∷ rows) (suc p) h = slot-past rows p (omega arith)

map-set : (rows : List PageRow) (k : ℕ) (r : PageRow) → map slot_of (slice_set rows k r) ≡ slice_set (map slot_of rows) k (slot_of r)
map-set [] k r = refl
map-set (x ∷ rows) zero r = refl
map-set (x ∷ rows) (suc k) r = ap (λ (s : List (Option Page)). slot_of x ∷ s) (map-set rows k r)

map-length : (rows : List PageRow) → length (map slot_of rows) ≡ length rows
map-length [] = refl
map-length (x ∷ rows) = ap suc (map-length rows)

-- the page at a row's place
pub page-at : (rows : List PageRow) (p : ℕ) (r : PageRow) → p < length rows → r ≡ slice_index_or rows p r → page_at (pages_of rows) p ≡ Some (page_of r)
page-at rows p r h e = at-slots (map slot_of rows) p ∙ slot-at rows p r h e

pub page-past : (rows : List PageRow) (p : ℕ) → length rows ≤ p → page_at (pages_of rows) p ≡ None
page-past rows p h = at-slots (map slot_of rows) p ∙ slot-past rows p h

pub lacks-at : (rows : List PageRow) (acc : Access) (p : ℕ) (r : PageRow) → p < length rows → r ≡ slice_index_or rows p r → lacks (pages_of rows) acc p ≡ not (allows acc r.rights)
lacks-at rows acc p r h e = ap (lacks_in acc) (page-at rows p r h e)

pub lacks-past : (rows : List PageRow) (acc : Access) (p : ℕ) → length rows ≤ p → lacks (pages_of rows) acc p ≡ true
lacks-past rows acc p h = ap (lacks_in acc) (page-past rows p h)

pub same-place : (rows : List PageRow) (k p : ℕ) → is_place rows k p ≡ true → (k ≡ p) × (p < length rows)
same-place rows k p h = by-test (k == p) (nat_lt p (length rows)) refl refl h
  where
    by-test : (a b : Bool) → (k == p) ≡ a → nat_lt p (length rows) ≡ b → (a && b) ≡ true → (k ≡ p) × (p < length rows)
    by-test true true e f h = (grind (arith, nat_tests, e), grind (arith, nat_tests, f))
    by-test true false e f h = absurd (false≢true h)
    by-test false b e f h = absurd (false≢true h)

-- a row replaced is its page changed
pub row-changed : (rows : List PageRow) (k : ℕ) (r q : PageRow) (f : Page → Page) → k < length rows → r ≡ slice_index_or rows k r → page_of q ≡ f (page_of r) → pages_of (slice_set rows k q) ≡ change (pages_of rows) k f
row-changed rows k r q f h e g =
    let inside : k < length (map slot_of rows) = omega (arith, h, map-length rows) in
    ap by_place (map-set rows k q) ∙ slots-set (map slot_of rows) k (slot_of q) inside
    ∙ ap (put (pages_of rows) k) g
    ∙ sym (ap (change_row (pages_of rows) k f) (page-at rows k r h e))
