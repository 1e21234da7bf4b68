-- Each row stands in every slot of the words that fit it.
use Rattle.std.proofs.Common.{◌≡◌, ℕ, zero, suc, ◌+◌, ◌/◌, ◌%◌, ◌^◌, ◌<◌, ◌&&◌, ◌||◌, ◌==◌, Bool, true, false, not, cond, List, [], ◌∷◌, length, get_or, Option, Some, None, sym, ap, ◌∙◌, refl, subst, arith}
use Rattle.std.specs.List.{find, slice_get}
use Rattle.std.proofs.lemmas.Bool.{false≢true}
use Rattle.std.proofs.lemmas.Option.{slice_get_within, get_or_from_slice_get}
use Rattle.isa_model.specs.Table.{row_of, table, all_ops}
use Rattle.isa_model.specs.Decode.{fits}
use Rattle.rv_code.specs.Slots.{slot_of, if_fits, row_in}
use Rattle.rv_code.specs.declared.slots.TheConstants.{SLOTS}
use Rattle.isa_model.specs.declared.names.Op.{Op}
use Rattle.isa_model.specs.declared.names.Op.TheVariants.{Lui}
use Rattle.isa_model.specs.declared.shapes.Row.{Row}
use Rattle.isa_model.specs.declared.shapes.Shape.{Shape}
use Rattle.isa_model.specs.declared.shapes.Shape.TheVariants as shape
use Rattle.rv_code.proofs.BoolTests.{and_left, and_right, both, equal, test_equal}
use Rattle.rv_code.proofs.Finding.{found-at, found-is}
use Rattle.rv_code.proofs.Places.{place, table-apart}

-- a slot that words of the row have
abbrev agrees : Row → Shape → ℕ → Bool
agrees r shape.R k = (k / 32 == r.opcode / 4) && ((k / 4 % 8 == r.funct3) && (k / 2 % 2 == r.top / 32 % 2))
agrees r shape.I k = (k / 32 == r.opcode / 4) && (k / 4 % 8 == r.funct3)
agrees r shape.Shift6 k = (k / 32 == r.opcode / 4) && ((k / 4 % 8 == r.funct3) && (k / 2 % 2 == r.top / 16 % 2))
agrees r shape.Shift5 k = (k / 32 == r.opcode / 4) && ((k / 4 % 8 == r.funct3) && (k / 2 % 2 == r.top / 32 % 2))
agrees r shape.S k = (k / 32 == r.opcode / 4) && (k / 4 % 8 == r.funct3)
agrees r shape.B k = (k / 32 == r.opcode / 4) && (k / 4 % 8 == r.funct3)
agrees r shape.U k = k / 32 == r.opcode / 4
agrees r shape.J k = k / 32 == r.opcode / 4
agrees r shape.Whole k = (k / 32 == r.opcode / 4) && ((k / 4 % 8 == 0) && ((k / 2 % 2 == r.top / 1024 % 2) && (k % 2 == r.top % 2)))

record Parts (w : ℕ) : Type 0 where
  code : slot_of w / 32 ≡ w / 4 % 32
  middle : slot_of w / 4 % 8 ≡ w / 4096 % 8
  high : slot_of w / 2 % 2 ≡ w / 1073741824 % 2
  low : slot_of w % 2 ≡ w / 1048576 % 2

parts : (w : ℕ) → Parts w
parts w = record { code = omega arith; middle = omega arith; high = omega arith; low = omega arith }

code-agrees : (w c : ℕ) → (w / 2 ^ 0 % 2 ^ 7 == c) ≡ true → (slot_of w / 32 == c / 4) ≡ true
code-agrees w c h =
    let e = equal (w / 2 ^ 0 % 2 ^ 7) c h in
    let p = (parts w).code in
    let f : w % 128 ≡ c = omega arith in
    test_equal (slot_of w / 32) (c / 4) (omega arith)

middle-agrees : (w f : ℕ) → (w / 2 ^ 12 % 2 ^ 3 == f) ≡ true → (slot_of w / 4 % 8 == f) ≡ true
middle-agrees w f h =
    let e = equal (w / 2 ^ 12 % 2 ^ 3) f h in
    let p = (parts w).middle in
    test_equal (slot_of w / 4 % 8) f (omega arith)

seven-agrees : (w t : ℕ) → (w / 2 ^ 25 % 2 ^ 7 == t) ≡ true → (slot_of w / 2 % 2 == t / 32 % 2) ≡ true
seven-agrees w t h =
    let e = equal (w / 2 ^ 25 % 2 ^ 7) t h in
    let p = (parts w).high in
    test_equal (slot_of w / 2 % 2) (t / 32 % 2) (omega arith)

six-agrees : (w t : ℕ) → (w / 2 ^ 26 % 2 ^ 6 == t) ≡ true → (slot_of w / 2 % 2 == t / 16 % 2) ≡ true
six-agrees w t h =
    let e = equal (w / 2 ^ 26 % 2 ^ 6) t h in
    let p = (parts w).high in
    test_equal (slot_of w / 2 % 2) (t / 16 % 2) (omega arith)

zero-agrees : (w : ℕ) → (w / 2 ^ 7 % 2 ^ 13 == 0) ≡ true → (slot_of w / 4 % 8 == 0) ≡ true
zero-agrees w h =
    let e = equal (w / 2 ^ 7 % 2 ^ 13) 0 h in
    let p = (parts w).middle in
    test_equal (slot_of w / 4 % 8) 0 (omega arith)

high-agrees : (w t : ℕ) → (w / 2 ^ 20 % 2 ^ 12 == t) ≡ true → (slot_of w / 2 % 2 == t / 1024 % 2) ≡ true
high-agrees w t h =
    let e = equal (w / 2 ^ 20 % 2 ^ 12) t h in
    let p = (parts w).high in
    test_equal (slot_of w / 2 % 2) (t / 1024 % 2) (omega arith)

low-agrees : (w t : ℕ) → (w / 2 ^ 20 % 2 ^ 12 == t) ≡ true → (slot_of w % 2 == t % 2) ≡ true
low-agrees w t h =
    let e = equal (w / 2 ^ 20 % 2 ^ 12) t h in
    let p = (parts w).low in
    test_equal (slot_of w % 2) (t % 2) (omega arith)

abbrev mk : Op → Shape → ℕ → ℕ → ℕ → Row
mk o s c f t = record { op = o; shape = s; opcode = c; funct3 = f; top = t }

fit-agrees : (o : Op) (s : Shape) (c f t w : ℕ) → fits (mk o s c f t) w ≡ true → agrees (mk o s c f t) s (slot_of w) ≡ true
fit-agrees o shape.R c f t w h =
    let h2 = and_right (w / 2 ^ 0 % 2 ^ 7 == c) _ h in
    let h3 = and_right (w / 2 ^ 12 % 2 ^ 3 == f) _ h2 in
    both _ _ (code-agrees w c (and_left _ _ h)) (both _ _ (middle-agrees w f (and_left _ _ h2)) (seven-agrees w t (and_left _ _ h3)))
fit-agrees o shape.I c f t w h =
    let h2 = and_right (w / 2 ^ 0 % 2 ^ 7 == c) _ h in
    both _ _ (code-agrees w c (and_left _ _ h)) (middle-agrees w f (and_left _ _ h2))
fit-agrees o shape.Shift6 c f t w h =
    let h2 = and_right (w / 2 ^ 0 % 2 ^ 7 == c) _ h in
    let h3 = and_right (w / 2 ^ 12 % 2 ^ 3 == f) _ h2 in
    both _ _ (code-agrees w c (and_left _ _ h)) (both _ _ (middle-agrees w f (and_left _ _ h2)) (six-agrees w t (and_left _ _ h3)))
fit-agrees o shape.Shift5 c f t w h =
    let h2 = and_right (w / 2 ^ 0 % 2 ^ 7 == c) _ h in
    let h3 = and_right (w / 2 ^ 12 % 2 ^ 3 == f) _ h2 in
    both _ _ (code-agrees w c (and_left _ _ h)) (both _ _ (middle-agrees w f (and_left _ _ h2)) (seven-agrees w t (and_left _ _ h3)))
fit-agrees o shape.S c f t w h =
    let h2 = and_right (w / 2 ^ 0 % 2 ^ 7 == c) _ h in
    both _ _ (code-agrees w c (and_left _ _ h)) (middle-agrees w f (and_left _ _ h2))
fit-agrees o shape.B c f t w h =
    let h2 = and_right (w / 2 ^ 0 % 2 ^ 7 == c) _ h in
    both _ _ (code-agrees w c (and_left _ _ h)) (middle-agrees w f (and_left _ _ h2))
fit-agrees o shape.U c f t w h = code-agrees w c (and_left _ _ h)
fit-agrees o shape.J c f t w h = code-agrees w c (and_left _ _ h)
fit-agrees o shape.Whole c f t w h =
    let h2 = and_right (w / 2 ^ 0 % 2 ^ 7 == c) _ h in
    let h3 = and_right (w / 2 ^ 7 % 2 ^ 13 == 0) _ h2 in
    let last = and_left _ _ h3 in
    both _ _ (code-agrees w c (and_left _ _ h)) (both _ _ (zero-agrees w (and_left _ _ h2)) (both _ _ (high-agrees w t last) (low-agrees w t last)))

-- each of these slots, from k on, has the name's place if the name's words have the slot
abbrev covers : Op → List ℕ → ℕ → Bool
covers o [] k = true
covers o (s ∷ ss) k = (not (agrees (row_of o) (row_of o).shape k) || (s == place o)) && covers o ss (k + 1)

covered : (o : Op) → covers o SLOTS 0 ≡ true
covered Lui = refl
covered o = refl

either : (a b : Bool) → (not a || b) ≡ true → a ≡ true → b ≡ true
either true b h e = h
either false b h e = absurd (false≢true e)

covers-at : (o : Op) (ss : List ℕ) (k i j : ℕ) → covers o ss k ≡ true → i < length ss → j ≡ k + i → agrees (row_of o) (row_of o).shape j ≡ true → get_or ss i 0 ≡ place o
covers-at o [] k i j h l e a = absurd (omega arith)
covers-at o (s ∷ ss) k zero j h l e a =
    let same : j ≡ k = omega arith in
    let b : agrees (row_of o) (row_of o).shape k ≡ true = subst (λ x. agrees (row_of o) (row_of o).shape x ≡ true) same a in
    equal s (place o) (either (agrees (row_of o) (row_of o).shape k) (s == place o) (and_left _ _ h) b)
covers-at o (s ∷ ss) k (suc i) j h l e a =
    covers-at o ss (k + 1) i j (and_right (not (agrees (row_of o) (row_of o).shape k) || (s == place o)) _ h) (omega arith) (omega arith) a

slot-below : (w : ℕ) → slot_of w < 1024
slot-below w = omega arith

-- the slot of a word that fits a name's row has the name's place
in-slot : (o : Op) (w : ℕ) → fits (row_of o) w ≡ true → get_or SLOTS (slot_of w) 0 ≡ place o
in-slot o w h =
    let r = row_of o in
    covers-at o SLOTS 0 (slot_of w) (slot_of w) (covered o) (slot-below w) (omega arith) (fit-agrees r.op r.shape r.opcode r.funct3 r.top w h)

at-slot : (o : Op) → slice_get table (place o) ≡ Some (row_of o)
at-slot Lui = refl
at-slot o = refl

-- what fits stands in the slot
none-else : (w : ℕ) (got : Option Row) → slice_get table (get_or SLOTS (slot_of w) 0) ≡ got → if_fits w got ≡ None → (found : Option Row) → find (λ row. fits row w) table ≡ found → None ≡ found
none-else w got g n None f = refl
none-else w got g n (Some r) f =
    let is = found-is w all_ops r f in
    let o = is.0 in
    let fit : fits (row_of o) w ≡ true = subst (λ x. fits x w ≡ true) is.1 is.2 in
    let here : got ≡ Some (row_of o) = sym g ∙ ap (slice_get table) (in-slot o w fit) ∙ at-slot o in
    let some : if_fits w (Some (row_of o)) ≡ Some (row_of o) = ap (λ b. cond b (Some (row_of o)) None) fit in
    cc

fits-case : (w : ℕ) (r : Row) → slice_get table (get_or SLOTS (slot_of w) 0) ≡ Some r → (b : Bool) → fits r w ≡ b → if_fits w (Some r) ≡ find (λ row. fits row w) table
fits-case w r g true t =
    let k = get_or SLOTS (slot_of w) 0 in
    let at = get_or_from_slice_get table k r (row_of Lui) g in
    let found = found-at w table k (row_of Lui) table-apart (slice_get_within table k r g) (subst (λ x. fits x w ≡ true) (sym at) t) in
    ap (λ b. cond b (Some r) None) t ∙ sym (found ∙ ap Some at)
fits-case w r g false t =
    let none : if_fits w (Some r) ≡ None = ap (λ b. cond b (Some r) None) t in
    none ∙ none-else w (Some r) g none (find (λ row. fits row w) table) refl

got-case : (w : ℕ) (got : Option Row) → slice_get table (get_or SLOTS (slot_of w) 0) ≡ got → if_fits w got ≡ find (λ row. fits row w) table
got-case w None g = none-else w None g refl (find (λ row. fits row w) table) refl
got-case w (Some r) g = fits-case w r g (fits r w) refl

-- the slots find the row that the whole table has
pub slot-finds : (w : ℕ) → row_in SLOTS table w ≡ find (λ row. fits row w) table
slot-finds w = got-case w (slice_get table (get_or SLOTS (slot_of w) 0)) refl
