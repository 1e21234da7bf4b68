-- What stands in an instruction fits its place.
use Rattle.std.proofs.Common.{◌≡◌, ℕ, ◌+◌, ◌<◌, ◌≤◌, nat_lt, true, ℤ, pos, negsuc, ◌&&◌, refl, arith, eqb, lit≤}
use Rattle.std.proofs.lemmas.Bool.{false≢true}
use Rattle.isa_model.specs.Table.{row_of}
use Rattle.isa_model.specs.Decode.{is_code, AreRegisters, fills_i, is_r, is_s, is_b, is_u, is_j, is_register, is_amount, is_number, has_bits, low_of, above_in}
use Rattle.isa_model.specs.declared.names.Op.{Op}
use Rattle.isa_model.specs.declared.names.Op.TheVariants.{Lui}
use Rattle.isa_model.specs.declared.forms.Form.{Form}
use Rattle.isa_model.specs.declared.forms.Form.TheVariants.{R, I, S, B, U, J}
use Rattle.isa_model.specs.declared.shapes.Shape.{Shape}
use Rattle.isa_model.specs.declared.shapes.Shape.TheVariants as shape
use Rattle.rv_code.proofs.BoolTests.{and_left, and_right, equal, less, test_less}
use Rattle.rv_code.proofs.Places.{good-row}
use Rattle.rv_code.proofs.Shapes.{good_rest, low-fits, amount-is}

-- the fixed bits of a row
pub record RowFits (op : Op) : Type 0 where
  pub opcode : (row_of op).opcode < 128
  pub funct3 : (row_of op).funct3 < 8
  pub top : good_rest (row_of op).shape (row_of op).funct3 (row_of op).top ≡ true

pub row-fits : (op : Op) → RowFits op
row-fits op =
    let g = good-row op in
    let rest = and_right (nat_lt (row_of op).opcode 128) _ g in
    record { opcode = less _ _ (and_left _ _ g); funct3 = less _ _ (and_left _ _ rest); top = and_right (nat_lt (row_of op).funct3 8) _ rest }

pub record FitsR (op : Op) (rd a b : ℕ) : Type 0 where
  pub rd-in : rd < 32
  pub a-in : a < 32
  pub b-in : b < 32
  pub top-in : (row_of op).top < 128

fits-r-in : (s : Shape) (f t rd a b : ℕ) → good_rest s f t ≡ true → (is_r s && (is_register rd && (is_register a && is_register b))) ≡ true → (rd < 32) × (a < 32) × (b < 32) × (t < 128)
fits-r-in shape.R f t rd a b g h =
    let rest = and_right (nat_lt rd 32) _ h in
    (less _ _ (and_left _ _ h), less _ _ (and_left _ _ rest), less _ _ (and_right (nat_lt a 32) _ rest), less _ _ g)
fits-r-in s f t rd a b g h = absurd (false≢true h)

pub fits-r : (op : Op) (rd a b : ℕ) → is_code (R op rd a b) ≡ true → FitsR op rd a b
unfolding is_code
fits-r op rd a b h =
    let x = fits-r-in (row_of op).shape (row_of op).funct3 (row_of op).top rd a b (row-fits op).top h in
    record { rd-in = x.0; a-in = x.1; b-in = x.2; top-in = x.3 }

pub record FitsI (op : Op) (rd a : ℕ) (z : ℤ) : Type 0 where
  pub rd-in : rd < 32
  pub a-in : a < 32
  pub z-in : has_bits 12 z ≡ true
  pub low-in : low_of 12 z < 4096
  pub top-in : (row_of op).top < 4096
  pub above-in : above_in (row_of op).shape (row_of op).top (low_of 12 z) < 4096

record FitsIn (s : Shape) (t rd a : ℕ) (z : ℤ) : Type 0 where
  pub rd-in : rd < 32
  pub a-in : a < 32
  pub z-in : has_bits 12 z ≡ true
  pub above-in : above_in s t (low_of 12 z) < 4096

amount-has : (n : ℕ) (z : ℤ) → n ≤ 64 → is_amount n z ≡ true → has_bits 12 z ≡ true
amount-has n (pos m) e h = let small = less m n h in test_less m 2048 (omega arith)
amount-has n (negsuc m) e h = absurd (false≢true h)

number-has : (n : ℕ) (z : ℤ) → n < 2048 → is_number n z ≡ true → has_bits 12 z ≡ true
number-has n (pos m) e h = let same = equal m n h in test_less m 2048 (omega arith)
number-has n (negsuc m) e h = absurd (false≢true h)

fits-i-in : (s : Shape) (op : Op) (c f t rd a : ℕ) (z : ℤ) → good_rest s f t ≡ true → fills_i (record { op = op; shape = s; opcode = c; funct3 = f; top = t }) s rd a z ≡ true → FitsIn s t rd a z
fits-i-in shape.I op c f t rd a z g h =
    let rest = and_right (nat_lt rd 32) _ h in
    let has = and_right (nat_lt a 32) _ rest in
    record { rd-in = less rd 32 (and_left _ _ h); a-in = less a 32 (and_left _ _ rest); z-in = has; above-in = low-fits 12 2048 z refl refl has }
fits-i-in shape.Shift6 op c f t rd a z g h =
    let rest = and_right (nat_lt rd 32) _ h in
    let amount = and_right (nat_lt a 32) _ rest in
    let small = (amount-is 64 z amount).0 in
    let top = less t 64 g in
    record { rd-in = less rd 32 (and_left _ _ h); a-in = less a 32 (and_left _ _ rest); z-in = amount-has 64 z (lit≤ tt) amount; above-in = omega arith }
fits-i-in shape.Shift5 op c f t rd a z g h =
    let rest = and_right (nat_lt rd 32) _ h in
    let amount = and_right (nat_lt a 32) _ rest in
    let small = (amount-is 32 z amount).0 in
    let top = less t 128 g in
    record { rd-in = less rd 32 (and_left _ _ h); a-in = less a 32 (and_left _ _ rest); z-in = amount-has 32 z (lit≤ tt) amount; above-in = omega arith }
fits-i-in shape.Whole op c f t rd a z g h =
    let rest = and_right (eqb rd 0) _ h in
    let number = and_right (eqb a 0) _ rest in
    let rd-is = equal rd 0 (and_left _ _ h) in
    let a-is = equal a 0 (and_left _ _ rest) in
    let small = less t 2048 (and_right (eqb f 0) _ g) in
    let has = number-has t z small number in
    record { rd-in = omega arith; a-in = omega arith; z-in = has; above-in = low-fits 12 2048 z refl refl has }
fits-i-in s op c f t rd a z g h = absurd (false≢true h)

-- the top bits of a row have at most twelve bits
top-small : (op : Op) → nat_lt (row_of op).top 4096 ≡ true
top-small Lui = refl
top-small op = refl

pub fits-i : (op : Op) (rd a : ℕ) (z : ℤ) → is_code (I op rd a z) ≡ true → FitsI op rd a z
unfolding is_code
fits-i op rd a z h =
    let r = row_of op in
    let x = fits-i-in r.shape r.op r.opcode r.funct3 r.top rd a z (row-fits op).top h in
    record { rd-in = x.rd-in; a-in = x.a-in; z-in = x.z-in; low-in = low-fits 12 2048 z refl refl x.z-in; top-in = less _ _ (top-small op); above-in = x.above-in }

pub record FitsTwo (a b : ℕ) (k h : ℕ) (z : ℤ) : Type 0 where
  pub a-in : a < 32
  pub b-in : b < 32
  pub z-in : has_bits k z ≡ true
  pub low-in : low_of k z < h + h

pub fits-s : (op : Op) (a b : ℕ) (z : ℤ) → is_code (S op a b z) ≡ true → FitsTwo a b 12 2048 z
unfolding is_code
fits-s op a b z h =
    let h1 = and_right (is_s (row_of op).shape) _ h in
    let h2 = and_right (nat_lt a 32) _ h1 in
    let has = and_right (nat_lt b 32) _ h2 in
    record { a-in = less a 32 (and_left _ _ h1); b-in = less b 32 (and_left _ _ h2); z-in = has; low-in = low-fits 12 2048 z refl refl has }

pub fits-b : (op : Op) (a b : ℕ) (z : ℤ) → is_code (B op a b z) ≡ true → FitsTwo a b 13 4096 z
unfolding is_code
fits-b op a b z h =
    let h1 = and_right (is_b (row_of op).shape) _ h in
    let h2 = and_right (nat_lt a 32) _ h1 in
    let has = and_left _ _ (and_right (nat_lt b 32) _ h2) in
    record { a-in = less a 32 (and_left _ _ h1); b-in = less b 32 (and_left _ _ h2); z-in = has; low-in = low-fits 13 4096 z refl refl has }

pub fits-u : (op : Op) (rd i : ℕ) → is_code (U op rd i) ≡ true → (rd < 32) × (i < 1048576)
unfolding is_code
fits-u op rd i h =
    let h1 = and_right (is_u (row_of op).shape) _ h in
    (less rd 32 (and_left _ _ h1), less i 1048576 (and_right (nat_lt rd 32) _ h1))

pub record FitsJ (rd : ℕ) (z : ℤ) : Type 0 where
  pub rd-in : rd < 32
  pub z-in : has_bits 21 z ≡ true
  pub low-in : low_of 21 z < 2097152

pub fits-j : (op : Op) (rd : ℕ) (z : ℤ) → is_code (J op rd z) ≡ true → FitsJ rd z
unfolding is_code
fits-j op rd z h =
    let h1 = and_right (is_j (row_of op).shape) _ h in
    let has = and_left _ _ (and_right (nat_lt rd 32) _ h1) in
    record { rd-in = less rd 32 (and_left _ _ h1); z-in = has; low-in = low-fits 21 1048576 z refl refl has }

pub registers-of : (form : Form) → is_code form ≡ true → AreRegisters form
registers-of (R op rd a b) h = let f = fits-r op rd a b h in (f.rd-in, f.a-in, f.b-in)
registers-of (I op rd a z) h = let f = fits-i op rd a z h in (f.rd-in, f.a-in)
registers-of (S op a b z) h = let f = fits-s op a b z h in (f.a-in, f.b-in)
registers-of (B op a b z) h = let f = fits-b op a b z h in (f.a-in, f.b-in)
registers-of (U op rd i) h = (fits-u op rd i h).0
registers-of (J op rd z) h = (fits-j op rd z h).rd-in
