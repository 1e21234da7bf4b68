-- The rows of the table: where each stands, and that the slots find the row that a word fits.
use Rattle.std.proofs.Common.{◌≡◌, ℕ, zero, suc, ◌+◌, ◌*◌, ◌/◌, ◌%◌, ◌^◌, ◌<◌, ◌&&◌, ◌==◌, Bool, true, false, cond, if◌then◌else◌, nat_lt, List, [], ◌∷◌, map, get_or, Option, Some, None, option_map, sym, ap, ◌∙◌, refl, subst, arith}
use Rattle.std.specs.List.{find, slice_get}
use Rattle.std.proofs.lemmas.Bool.{false≢true}
use Rattle.std.proofs.lemmas.Bool.Decides.{nat_tests}
use Rattle.std.proofs.lemmas.Option.{slice_get-map, same_Some}
use Rattle.isa_model.specs.declared.atomics.AmOp.{AmOp}
use Rattle.isa_model.specs.declared.atomics.AmOp.TheVariants.{Mul, Mulh, Mulhsu, Mulhu, Div, Divu, Rem, Remu, Mulw, Divw, Divuw, Remw, Remuw, AddW, SwapW, XorW, OrW, AndW, MinW, MaxW, MinuW, MaxuW, AddD, SwapD, XorD, OrD, AndD, MinD, MaxD, MinuD, MaxuD}
use Rattle.isa_model.specs.Atomics.{AmRow, am_table, am_fits}
use Rattle.rv_am.specs.Words.{place, row_of, as_row, slot_of, if_fits, row_in}
use Rattle.rv_am.specs.declared.slots.TheConstants.{SLOTS}
use Rattle.rv_am.specs.declared.table.Row.{Row}
use Rattle.rv_am.specs.declared.table.TheConstants.{TABLE}

pub and_left : (a b : Bool) → (a && b) ≡ true → a ≡ true
and_left true b e = refl
and_left false b e = e

pub and_right : (a b : Bool) → (a && b) ≡ true → b ≡ true
and_right true b e = e
and_right false b e = absurd (false≢true e)

pub both : (a b : Bool) → a ≡ true → b ≡ true → (a && b) ≡ true
both true b p q = q
both false b p q = p

pub equal : (a b : ℕ) → (a == b) ≡ true → a ≡ b
equal a b e = grind (arith, nat_tests)

pub test_equal : (a b : ℕ) → a ≡ b → (a == b) ≡ true
test_equal a b e = grind (arith, nat_tests)

pub less : (a b : ℕ) → nat_lt a b ≡ true → a < b
less a b e = grind (arith, nat_tests)

pub test_less : (a b : ℕ) → a < b → nat_lt a b ≡ true
test_less a b e = grind (arith, nat_tests)

-- ---- names and rows

abbrev all_ops : List AmOp
all_ops = Mul ∷ Mulh ∷ Mulhsu ∷ Mulhu ∷ Div ∷ Divu ∷ Rem ∷ Remu ∷ Mulw ∷ Divw ∷ Divuw ∷ Remw ∷ Remuw ∷ AddW ∷ SwapW ∷ XorW ∷ OrW ∷ AndW ∷ MinW ∷ MaxW ∷ MinuW ∷ MaxuW ∷ AddD ∷ SwapD ∷ XorD ∷ OrD ∷ AndD ∷ MinD ∷ MaxD ∷ MinuD ∷ MaxuD ∷ []

abbrev fits_at : ℕ → AmRow → Bool
fits_at w row = am_fits w row

table-is : am_table ≡ map row_of all_ops
table-is = refl

at-place : (o : AmOp) → slice_get am_table (place o) ≡ Some (row_of o)
at-place Mul = refl
at-place o = refl

pub op-row : (o : AmOp) → (row_of o).op ≡ o
op-row Mul = refl
op-row o = refl

-- the fixed bits fit their places
abbrev pub good : AmRow → Bool
good r = nat_lt r.opcode 128 && (nat_lt r.funct3 8 && nat_lt r.top (if r.opcode == 0x2f then 32 else 128))

pub good-row : (o : AmOp) → good (row_of o) ≡ true
good-row Mul = refl
good-row o = refl

found-head : (w : ℕ) (o : AmOp) (r : AmRow) (rest : Option AmRow) → (rest ≡ Some r → (p : AmOp) × (r ≡ row_of p) × (am_fits w r ≡ true))
    → (b : Bool) → am_fits w (row_of o) ≡ b → cond b (Some (row_of o)) rest ≡ Some r → (p : AmOp) × (r ≡ row_of p) × (am_fits w r ≡ true)
found-head w o r rest later true t e = let q : r ≡ row_of o = cc in (o, q, subst (λ x. am_fits w x ≡ true) (sym q) t)
found-head w o r rest later false t e = later e

found-in : (w : ℕ) (ops : List AmOp) (r : AmRow) → find (am_fits w) (map row_of ops) ≡ Some r → (o : AmOp) × (r ≡ row_of o) × (am_fits w r ≡ true)
found-in w [] r e = cc
found-in w (o ∷ ops) r e = found-head w o r (find (am_fits w) (map row_of ops)) (found-in w ops r) (am_fits w (row_of o)) refl e

-- a row that is found is that of some name, and the word fits it
pub found-is : (w : ℕ) (r : AmRow) → find (am_fits w) am_table ≡ Some r → (o : AmOp) × (r ≡ row_of o) × (am_fits w r ≡ true)
found-is w r e = found-in w all_ops r e

none-head : (test : Bool) (x : AmRow) (rest : Option AmRow) → cond test (Some x) rest ≡ None → (test ≡ false) × (rest ≡ None)
none-head true x rest e = absurd cc
none-head false x rest e = (refl, e)

-- where none is found, the word fits none
none-at : (w : ℕ) (rows : List AmRow) (k : ℕ) (r : AmRow) → find (am_fits w) rows ≡ None → slice_get rows k ≡ Some r → am_fits w r ≡ false
none-at w [] k r e h = absurd cc
none-at w (x ∷ rows) zero r e h =
    let is : x ≡ r = same_Some _ _ h in
    subst (λ y. am_fits w y ≡ false) is (none-head (am_fits w x) x (find (am_fits w) rows) e).0
none-at w (x ∷ rows) (suc k) r e h = none-at w rows k r (none-head (am_fits w x) x (find (am_fits w) rows) e).1 h

-- ---- slots

abbrev slot_in : AmRow → ℕ
slot_in r = r.opcode / 8 % 4 * 256 + r.funct3 * 32 + (if r.opcode == 0x2f then r.top else r.top / 4)

in-slot : (o : AmOp) → get_or SLOTS (slot_in (row_of o)) 0 ≡ place o
in-slot Mul = refl
in-slot o = refl

top-slot : (b : Bool) (w t : ℕ) → (if b then w / 2 ^ 27 % 2 ^ 5 else w / 2 ^ 25 % 2 ^ 7) ≡ t → w / 2 ^ 27 % 32 ≡ (if b then t else t / 4)
top-slot true w t e = e
top-slot false w t e = omega arith

-- the slot of a word that fits a row
fits-slot : (w : ℕ) (r : AmRow) → am_fits w r ≡ true → slot_of w ≡ slot_in r
fits-slot w r h =
    let one = and_left (w % 128 == r.opcode && w / 2 ^ 12 % 2 ^ 3 == r.funct3) _ h in
    let code : w % 128 ≡ r.opcode = equal _ _ (and_left (w % 128 == r.opcode) (w / 2 ^ 12 % 2 ^ 3 == r.funct3) one) in
    let middle : w / 2 ^ 12 % 2 ^ 3 ≡ r.funct3 = equal _ _ (and_right (w % 128 == r.opcode) (w / 2 ^ 12 % 2 ^ 3 == r.funct3) one) in
    let top = equal (if r.opcode == 0x2f then w / 2 ^ 27 % 2 ^ 5 else w / 2 ^ 25 % 2 ^ 7) r.top (and_right (w % 128 == r.opcode && w / 2 ^ 12 % 2 ^ 3 == r.funct3) _ h) in
    let upper = top-slot (r.opcode == 0x2f) w r.top top in
    let c : w / 2 ^ 3 % 4 ≡ r.opcode / 8 % 4 = omega arith in
    ap (λ x. x * 256 + w / 2 ^ 12 % 8 * 32 + w / 2 ^ 27 % 32) c
    ∙ ap (λ x. r.opcode / 8 % 4 * 256 + x * 32 + w / 2 ^ 27 % 32) middle
    ∙ ap (λ x. r.opcode / 8 % 4 * 256 + r.funct3 * 32 + x) upper

-- the slot of a word that fits a name's row has the name's place
slot-place : (w : ℕ) (o : AmOp) → am_fits w (row_of o) ≡ true → get_or SLOTS (slot_of w) 0 ≡ place o
slot-place w o h = ap (λ k. get_or SLOTS k 0) (fits-slot w (row_of o) h) ∙ in-slot o

-- a word fits one row at most
same-row : (w : ℕ) (o p : AmOp) → am_fits w (row_of o) ≡ true → am_fits w (row_of p) ≡ true → row_of o ≡ row_of p
same-row w o p h k =
    let e = sym (slot-place w o h) ∙ slot-place w p k in
    same_Some _ _ (sym (at-place o) ∙ ap (slice_get am_table) e ∙ at-place p)

found-case : (w : ℕ) (o : AmOp) → am_fits w (row_of o) ≡ true → (f : Option AmRow) → find (am_fits w) am_table ≡ f → f ≡ Some (row_of o)
found-case w o h None e = absurd (false≢true (sym (none-at w am_table (place o) (row_of o) e (at-place o)) ∙ h))
found-case w o h (Some r) e =
    let is = found-is w r e in
    ap Some (is.1 ∙ same-row w is.0 o (subst (λ x. am_fits w x ≡ true) is.1 is.2) h)

-- the row that a word fits is found
pub found-op : (w : ℕ) (o : AmOp) → am_fits w (row_of o) ≡ true → find (am_fits w) am_table ≡ Some (row_of o)
found-op w o h = found-case w o h (find (am_fits w) am_table) refl

-- ---- the code's rows

rows-are : map as_row TABLE ≡ am_table
rows-are = refl

row-at : (k : ℕ) → option_map as_row (slice_get TABLE k) ≡ slice_get am_table k
row-at k = sym (slice_get-map as_row TABLE k) ∙ ap (λ rows. slice_get rows k) rows-are

by-fit : (w : ℕ) (row : Row) (b : Bool) → am_fits w (as_row row) ≡ b → if_fits w (Some row) ≡ cond b (Some row) None
by-fit w row b e = ap (λ x. cond x (Some row) None) e

-- by the row in the slot and the row that is found
slot-case : (w : ℕ) (got : Option Row) → option_map as_row got ≡ slice_get am_table (get_or SLOTS (slot_of w) 0)
    → (f : Option AmRow) → find (am_fits w) am_table ≡ f → option_map as_row (if_fits w got) ≡ f
slot-case w None g None e = refl
slot-case w None g (Some r) e =
    let is = found-is w r e in
    let k = slot-place w is.0 (subst (λ x. am_fits w x ≡ true) is.1 is.2) in
    let no : ◌≡◌ {A = Option AmRow} None (Some (row_of is.0)) = g ∙ ap (slice_get am_table) k ∙ at-place is.0 in
    absurd cc
slot-case w (Some row) g None e = ap (option_map as_row) (by-fit w row false (none-at w am_table (get_or SLOTS (slot_of w) 0) (as_row row) e (sym g)))
slot-case w (Some row) g (Some r) e =
    let is = found-is w r e in
    let k = slot-place w is.0 (subst (λ x. am_fits w x ≡ true) is.1 is.2) in
    let here : as_row row ≡ r = same_Some _ _ (g ∙ ap (slice_get am_table) k ∙ at-place is.0) ∙ sym is.1 in
    ap (option_map as_row) (by-fit w row true (subst (λ x. am_fits w x ≡ true) (sym here) is.2)) ∙ ap Some here

-- the slots find the row that the whole table has
pub slot-finds : (w : ℕ) → option_map as_row (row_in SLOTS TABLE w) ≡ find (am_fits w) am_table
slot-finds w = slot-case w (slice_get TABLE (get_or SLOTS (slot_of w) 0)) (row-at (get_or SLOTS (slot_of w) 0)) (find (am_fits w) am_table) refl
