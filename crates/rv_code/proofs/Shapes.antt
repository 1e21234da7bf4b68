-- In each shape, the fields of the word that is put together from an instruction give it back, and so do those of a word.
use Rattle.std.proofs.Common.{◌≡◌, ℕ, ◌+◌, ◌-◌, ◌*◌, ◌/◌, ◌%◌, ◌^◌, ◌<◌, ◌≤◌, ◌&&◌, ◌==◌, nat_lt, Bool, true, false, cond, ltb, ℤ, pos, negsuc, sym, ap, ◌∙◌, refl, subst, arith}
use Rattle.std.proofs.lemmas.Bool.{false≢true}
use Rattle.std.proofs.lemmas.Bool.Decides.{nat_tests}
use Rattle.isa_model.specs.Decode.{op_of, fits, read, fills, placed, joined, is_register, is_amount, is_number, signed_of, low_of, has_bits, is_even}
use Rattle.isa_model.specs.declared.names.Op.{Op}
use Rattle.isa_model.specs.declared.forms.Form.{Form}
use Rattle.isa_model.specs.declared.forms.Form.TheVariants.{R, I, S, B, U, J}
use Rattle.isa_model.specs.declared.shapes.Row.{Row}
use Rattle.isa_model.specs.declared.shapes.Shape.{Shape}
use Rattle.isa_model.specs.declared.shapes.Shape.TheVariants as shape
use Rattle.rv_code.proofs.BoolTests.{and_left, and_right, both, equal, test_equal, less, test_less}

-- ---- signed numbers of k bits; h is half of them

pub low-fits : (k h : ℕ) (z : ℤ) → 2 ^ (k - 1) ≡ h → 2 ^ k ≡ h + h → has_bits k z ≡ true → low_of k z < h + h
low-fits k h (pos n) e q p = let small : n < h = subst (λ x. n < x) e (less n (2 ^ (k - 1)) p) in omega arith
low-fits k h (negsuc n) e q p = let small : n < h = subst (λ x. n < x) e (less n (2 ^ (k - 1)) p) in omega arith

cond-yes : (b : Bool) (x y : ℤ) → b ≡ true → cond b x y ≡ x
cond-yes true x y h = refl
cond-yes false x y h = absurd (false≢true h)

cond-no : (b : Bool) (x y : ℤ) → b ≡ false → cond b x y ≡ y
cond-no true x y h = absurd (false≢true (sym h))
cond-no false x y h = refl

not-less : (a b : ℕ) → b ≤ a → ltb a b ≡ false
not-less a b h = grind (arith, nat_tests)

pub signed-low : (k h : ℕ) (z : ℤ) → 2 ^ (k - 1) ≡ h → 2 ^ k ≡ h + h → has_bits k z ≡ true → signed_of k (low_of k z) ≡ z
signed-low k h (pos n) e q p = cond-yes (ltb n (2 ^ (k - 1))) _ _ p
signed-low k h (negsuc n) e q p =
    let small : n < h = subst (λ x. n < x) e (less n (2 ^ (k - 1)) p) in
    let turn : 2 ^ k - 1 - (2 ^ k - 1 - n) ≡ n = omega arith in
    cond-no (ltb (2 ^ k - 1 - n) (2 ^ (k - 1))) _ _ (not-less _ _ (omega arith)) ∙ ap negsuc turn

signed-cases : (k h n : ℕ) (b : Bool) → ltb n (2 ^ (k - 1)) ≡ b → 2 ^ (k - 1) ≡ h → 2 ^ k ≡ h + h → n < h + h
    → (has_bits k (cond b (pos n) (negsuc (2 ^ k - 1 - n))) ≡ true) × (low_of k (cond b (pos n) (negsuc (2 ^ k - 1 - n))) ≡ n)
signed-cases k h n true t e q p = (t, refl)
signed-cases k h n false t e q p =
    let large : 2 ^ (k - 1) ≤ n = grind (arith, nat_tests) in
    (test_less _ _ (omega arith), omega arith)

pub signed-has : (k h n : ℕ) → 2 ^ (k - 1) ≡ h → 2 ^ k ≡ h + h → n < h + h → has_bits k (signed_of k n) ≡ true
signed-has k h n e q p = (signed-cases k h n _ refl e q p).0

pub low-signed : (k h n : ℕ) → 2 ^ (k - 1) ≡ h → 2 ^ k ≡ h + h → n < h + h → low_of k (signed_of k n) ≡ n
low-signed k h n e q p = (signed-cases k h n _ refl e q p).1

-- ---- a row's fixed bits are small enough

abbrev pub good_rest : Shape → ℕ → ℕ → Bool
good_rest shape.R f t = nat_lt t 128
good_rest shape.Shift6 f t = nat_lt t 64
good_rest shape.Shift5 f t = nat_lt t 128
good_rest shape.Whole f t = (f == 0) && nat_lt t 2048
good_rest _ f t = true

abbrev pub good : Row → Bool
good row = nat_lt row.opcode 128 && (nat_lt row.funct3 8 && good_rest row.shape row.funct3 row.top)

abbrev mk : Op → Shape → ℕ → ℕ → ℕ → Row
mk o s c f t = record { op = o; shape = s; opcode = c; funct3 = f; top = t }

pub record Holds (row : Row) (form : Form) : Type 0 where
  pub fit : fits row (placed row form) ≡ true
  pub back : read row.shape (op_of form) (placed row form) ≡ form
  pub small : placed row form < 2 ^ 32

-- what stands in a word that is put together
pub record Parts (c d f a u : ℕ) : Type 0 where
  pub opcode : joined c d f a u / 2 ^ 0 % 2 ^ 7 ≡ c
  pub rd : joined c d f a u / 2 ^ 7 % 32 ≡ d
  pub funct3 : joined c d f a u / 2 ^ 12 % 2 ^ 3 ≡ f
  pub rs1 : joined c d f a u / 2 ^ 15 % 32 ≡ a
  pub above : joined c d f a u / 2 ^ 20 ≡ u
  pub small : joined c d f a u < 2 ^ 32

parts : (c rd f a u : ℕ) → c < 128 → rd < 32 → f < 8 → a < 32 → u < 4096 → Parts c rd f a u
parts c rd f a u h1 h2 h3 h4 h5 = record { opcode = omega arith; rd = omega arith; funct3 = omega arith; rs1 = omega arith; above = omega arith; small = omega arith }

record Bounds (s : Shape) (c f t : ℕ) : Type 0 where
  pub opcode : c < 128
  pub funct3 : f < 8
  pub top : good_rest s f t ≡ true

bounds : (p : Op) (s : Shape) (c f t : ℕ) → good (mk p s c f t) ≡ true → Bounds s c f t
bounds p s c f t g =
    let rest = and_right (nat_lt c 128) _ g in
    record { opcode = less _ _ (and_left _ _ g); funct3 = less _ _ (and_left _ _ rest); top = and_right (nat_lt f 8) _ rest }

one : (a b : ℕ) → a ≡ b → ((a == b) && true) ≡ true
one a b e = both _ _ (test_equal a b e) refl

two : (a b x y : ℕ) → a ≡ b → x ≡ y → ((a == b) && ((x == y) && true)) ≡ true
two a b x y e q = both _ _ (test_equal a b e) (one x y q)

three : (a b x y m n : ℕ) → a ≡ b → x ≡ y → m ≡ n → ((a == b) && ((x == y) && ((m == n) && true))) ≡ true
three a b x y m n e q r = both _ _ (test_equal a b e) (two x y m n q r)

hold-r : (p op : Op) (c f t rd a b : ℕ) → good (mk p shape.R c f t) ≡ true → fills (mk p shape.R c f t) (R op rd a b) ≡ true → Holds (mk p shape.R c f t) (R op rd a b)
hold-r p op c f t rd a b g h =
    let k = bounds p shape.R c f t g in
    let t-in : t < 128 = less _ _ k.top in
    let rd-in : rd < 32 = less _ _ (and_left _ _ h) in
    let a-in : a < 32 = less _ _ (and_left _ _ (and_right (nat_lt rd 32) _ h)) in
    let b-in : b < 32 = less _ _ (and_right (nat_lt a 32) _ (and_right (nat_lt rd 32) _ h)) in
    let w : ℕ = joined c rd f a (b + t * 32) in
    let m = parts c rd f a (b + t * 32) k.opcode rd-in k.funct3 a-in (omega arith) in
    let e1 = m.rd in
    let e2 = m.rs1 in
    let e3 : w / 2 ^ 20 % 32 ≡ b = omega arith in
    let e4 : w / 2 ^ 25 % 2 ^ 7 ≡ t = omega arith in
    record { fit = three _ _ _ _ _ _ m.opcode m.funct3 e4; back = cc; small = m.small }

-- an amount is its own two's complement
pub amount-is : (n : ℕ) (z : ℤ) → is_amount n z ≡ true → (low_of 12 z < n) × (pos (low_of 12 z) ≡ z)
amount-is n (pos m) h = (less m n h, refl)
amount-is n (negsuc m) h = absurd (false≢true h)

number-is : (n : ℕ) (z : ℤ) → is_number n z ≡ true → (low_of 12 z ≡ n) × (z ≡ pos n)
number-is n (pos m) h = (equal m n h, ap pos (equal m n h))
number-is n (negsuc m) h = absurd (false≢true h)

signed-small : (n : ℕ) → n < 2048 → signed_of 12 n ≡ pos n
signed-small n h = cond-yes (ltb n 2048) _ _ (test_less _ _ h)

hold-i : (p op : Op) (c f t rd a : ℕ) (z : ℤ) → good (mk p shape.I c f t) ≡ true → fills (mk p shape.I c f t) (I op rd a z) ≡ true → Holds (mk p shape.I c f t) (I op rd a z)
hold-i p op c f t rd a z g h =
    let k = bounds p shape.I c f t g in
    let rd-in : rd < 32 = less _ _ (and_left _ _ h) in
    let a-in : a < 32 = less _ _ (and_left _ _ (and_right (nat_lt rd 32) _ h)) in
    let z-in = and_right (nat_lt a 32) _ (and_right (nat_lt rd 32) _ h) in
    let v : ℕ = low_of 12 z in
    let v-in : v < 4096 = low-fits 12 2048 z refl refl z-in in
    let w : ℕ = joined c rd f a v in
    let m = parts c rd f a v k.opcode rd-in k.funct3 a-in v-in in
    let e1 = m.rd in
    let e2 = m.rs1 in
    let e3 : w / 2 ^ 20 % 4096 ≡ v = omega arith in
    let e4 : signed_of 12 (w / 2 ^ 20 % 4096) ≡ z = ap (signed_of 12) e3 ∙ signed-low 12 2048 z refl refl z-in in
    record { fit = two _ _ _ _ m.opcode m.funct3; back = cc; small = m.small }

hold-6 : (p op : Op) (c f t rd a : ℕ) (z : ℤ) → good (mk p shape.Shift6 c f t) ≡ true → fills (mk p shape.Shift6 c f t) (I op rd a z) ≡ true → Holds (mk p shape.Shift6 c f t) (I op rd a z)
hold-6 p op c f t rd a z g h =
    let k = bounds p shape.Shift6 c f t g in
    let t-in : t < 64 = less _ _ k.top in
    let rd-in : rd < 32 = less _ _ (and_left _ _ h) in
    let a-in : a < 32 = less _ _ (and_left _ _ (and_right (nat_lt rd 32) _ h)) in
    let z-in = amount-is 64 z (and_right (nat_lt a 32) _ (and_right (nat_lt rd 32) _ h)) in
    let v : ℕ = low_of 12 z in
    let v-in : v < 64 = z-in.0 in
    let w : ℕ = joined c rd f a (v + t * 64) in
    let m = parts c rd f a (v + t * 64) k.opcode rd-in k.funct3 a-in (omega arith) in
    let e1 = m.rd in
    let e2 = m.rs1 in
    let e3 : w / 2 ^ 20 % 64 ≡ v = omega arith in
    let e4 : pos (w / 2 ^ 20 % 64) ≡ z = ap pos e3 ∙ z-in.1 in
    let e5 : w / 2 ^ 26 % 2 ^ 6 ≡ t = omega arith in
    record { fit = three _ _ _ _ _ _ m.opcode m.funct3 e5; back = cc; small = m.small }

hold-5 : (p op : Op) (c f t rd a : ℕ) (z : ℤ) → good (mk p shape.Shift5 c f t) ≡ true → fills (mk p shape.Shift5 c f t) (I op rd a z) ≡ true → Holds (mk p shape.Shift5 c f t) (I op rd a z)
hold-5 p op c f t rd a z g h =
    let k = bounds p shape.Shift5 c f t g in
    let t-in : t < 128 = less _ _ k.top in
    let rd-in : rd < 32 = less _ _ (and_left _ _ h) in
    let a-in : a < 32 = less _ _ (and_left _ _ (and_right (nat_lt rd 32) _ h)) in
    let z-in = amount-is 32 z (and_right (nat_lt a 32) _ (and_right (nat_lt rd 32) _ h)) in
    let v : ℕ = low_of 12 z in
    let v-in : v < 32 = z-in.0 in
    let w : ℕ = joined c rd f a (v + t * 32) in
    let m = parts c rd f a (v + t * 32) k.opcode rd-in k.funct3 a-in (omega arith) in
    let e1 = m.rd in
    let e2 = m.rs1 in
    let e3 : w / 2 ^ 20 % 32 ≡ v = omega arith in
    let e4 : pos (w / 2 ^ 20 % 32) ≡ z = ap pos e3 ∙ z-in.1 in
    let e5 : w / 2 ^ 25 % 2 ^ 7 ≡ t = omega arith in
    record { fit = three _ _ _ _ _ _ m.opcode m.funct3 e5; back = cc; small = m.small }

hold-w : (p op : Op) (c f t rd a : ℕ) (z : ℤ) → good (mk p shape.Whole c f t) ≡ true → fills (mk p shape.Whole c f t) (I op rd a z) ≡ true → Holds (mk p shape.Whole c f t) (I op rd a z)
hold-w p op c f t rd a z g h =
    let k = bounds p shape.Whole c f t g in
    let f-is : f ≡ 0 = equal _ _ (and_left _ _ k.top) in
    let t-in : t < 2048 = less _ _ (and_right (f == 0) _ k.top) in
    let rd-is : rd ≡ 0 = equal _ _ (and_left _ _ h) in
    let a-is : a ≡ 0 = equal _ _ (and_left _ _ (and_right (rd == 0) _ h)) in
    let z-is = number-is t z (and_right (a == 0) _ (and_right (rd == 0) _ h)) in
    let v : ℕ = low_of 12 z in
    let v-is : v ≡ t = z-is.0 in
    let w : ℕ = joined c rd f a v in
    let m = parts c rd f a v k.opcode (omega arith) k.funct3 (omega arith) (omega arith) in
    let e1 = m.rd in
    let e2 = m.rs1 in
    let e3 : w / 2 ^ 20 % 4096 ≡ t = omega arith in
    let e4 : signed_of 12 (w / 2 ^ 20 % 4096) ≡ z = ap (signed_of 12) e3 ∙ signed-small t t-in ∙ sym z-is.1 in
    let e5 : w / 2 ^ 7 % 2 ^ 13 ≡ 0 = omega arith in
    record { fit = three _ _ _ _ _ _ m.opcode e5 e3; back = cc; small = m.small }

hold-s : (p op : Op) (c f t a b : ℕ) (z : ℤ) → good (mk p shape.S c f t) ≡ true → fills (mk p shape.S c f t) (S op a b z) ≡ true → Holds (mk p shape.S c f t) (S op a b z)
hold-s p op c f t a b z g h =
    let k = bounds p shape.S c f t g in
    let a-in : a < 32 = less _ _ (and_left _ _ h) in
    let b-in : b < 32 = less _ _ (and_left _ _ (and_right (nat_lt a 32) _ h)) in
    let z-in = and_right (nat_lt b 32) _ (and_right (nat_lt a 32) _ h) in
    let v : ℕ = low_of 12 z in
    let v-in : v < 4096 = low-fits 12 2048 z refl refl z-in in
    let w : ℕ = joined c (v % 32) f a (b + v / 32 * 32) in
    let m = parts c (v % 32) f a (b + v / 32 * 32) k.opcode (omega arith) k.funct3 a-in (omega arith) in
    let e1 = m.rs1 in
    let e2 : w / 2 ^ 20 % 32 ≡ b = omega arith in
    let e3 : w / 2 ^ 25 % 128 * 32 + w / 2 ^ 7 % 32 ≡ v = omega arith in
    let e4 : signed_of 12 (w / 2 ^ 25 % 128 * 32 + w / 2 ^ 7 % 32) ≡ z = ap (signed_of 12) e3 ∙ signed-low 12 2048 z refl refl z-in in
    record { fit = two _ _ _ _ m.opcode m.funct3; back = cc; small = m.small }

-- an even number has an even two's complement
low-even : (k h : ℕ) (z : ℤ) → 2 ^ (k - 1) ≡ h → 2 ^ k ≡ h + h → has_bits k z ≡ true → is_even z ≡ true → low_of k z % 2 ≡ 0
low-even k h (pos n) e q b p = equal _ _ p
low-even k h (negsuc n) e q b p =
    let odd : n % 2 ≡ 1 = equal _ _ p in
    let small : n < h = subst (λ x. n < x) e (less n (2 ^ (k - 1)) b) in
    omega arith

hold-b : (p op : Op) (c f t a b : ℕ) (z : ℤ) → good (mk p shape.B c f t) ≡ true → fills (mk p shape.B c f t) (B op a b z) ≡ true → Holds (mk p shape.B c f t) (B op a b z)
hold-b p op c f t a b z g h =
    let k = bounds p shape.B c f t g in
    let a-in : a < 32 = less _ _ (and_left _ _ h) in
    let b-in : b < 32 = less _ _ (and_left _ _ (and_right (nat_lt a 32) _ h)) in
    let z-all = and_right (nat_lt b 32) _ (and_right (nat_lt a 32) _ h) in
    let z-in = and_left (has_bits 13 z) _ z-all in
    let v : ℕ = low_of 13 z in
    let v-in : v < 8192 = low-fits 13 4096 z refl refl z-in in
    let v-even : v % 2 ≡ 0 = low-even 13 4096 z refl refl z-in (and_right (has_bits 13 z) _ z-all) in
    let x : ℕ = v / 2 ^ 11 % 2 + v / 2 % 16 * 2 in
    let y : ℕ = b + v / 32 % 64 * 32 + v / 2 ^ 12 * 2 ^ 11 in
    let w : ℕ = joined c x f a y in
    let m = parts c x f a y k.opcode (omega arith) k.funct3 a-in (omega arith) in
    let e1 = m.rs1 in
    let e2 : w / 2 ^ 20 % 32 ≡ b = omega arith in
    let n1 : w / 2 ^ 31 % 2 ≡ v / 2 ^ 12 = omega arith in
    let n2 : w / 2 ^ 7 % 2 ≡ v / 2 ^ 11 % 2 = omega arith in
    let n3 : w / 2 ^ 25 % 64 ≡ v / 32 % 64 = omega arith in
    let n4 : w / 2 ^ 8 % 16 ≡ v / 2 % 16 = omega arith in
    let e3 : w / 2 ^ 31 % 2 * 2 ^ 12 + w / 2 ^ 7 % 2 * 2 ^ 11 + w / 2 ^ 25 % 64 * 2 ^ 5 + w / 2 ^ 8 % 16 * 2 ≡ v = omega arith in
    let e4 : signed_of 13 (w / 2 ^ 31 % 2 * 2 ^ 12 + w / 2 ^ 7 % 2 * 2 ^ 11 + w / 2 ^ 25 % 64 * 2 ^ 5 + w / 2 ^ 8 % 16 * 2) ≡ z = ap (signed_of 13) e3 ∙ signed-low 13 4096 z refl refl z-in in
    record { fit = two _ _ _ _ m.opcode m.funct3; back = cc; small = m.small }

hold-u : (p op : Op) (c f t rd i : ℕ) → good (mk p shape.U c f t) ≡ true → fills (mk p shape.U c f t) (U op rd i) ≡ true → Holds (mk p shape.U c f t) (U op rd i)
hold-u p op c f t rd i g h =
    let k = bounds p shape.U c f t g in
    let c-in = k.opcode in
    let rd-in : rd < 32 = less _ _ (and_left _ _ h) in
    let i-in : i < 2 ^ 20 = less _ _ (and_right (nat_lt rd 32) _ h) in
    let w : ℕ = c + rd * 2 ^ 7 + i * 2 ^ 12 in
    let e0 : w / 2 ^ 0 % 2 ^ 7 ≡ c = omega arith in
    let e1 : w / 2 ^ 7 % 32 ≡ rd = omega arith in
    let e2 : w / 2 ^ 12 % 2 ^ 20 ≡ i = omega arith in
    record { fit = one _ _ e0; back = cc; small = omega arith }

hold-j : (p op : Op) (c f t rd : ℕ) (z : ℤ) → good (mk p shape.J c f t) ≡ true → fills (mk p shape.J c f t) (J op rd z) ≡ true → Holds (mk p shape.J c f t) (J op rd z)
hold-j p op c f t rd z g h =
    let k = bounds p shape.J c f t g in
    let c-in = k.opcode in
    let rd-in : rd < 32 = less _ _ (and_left _ _ h) in
    let z-all = and_right (nat_lt rd 32) _ h in
    let z-in = and_left (has_bits 21 z) _ z-all in
    let v : ℕ = low_of 21 z in
    let v-in : v < 2097152 = low-fits 21 1048576 z refl refl z-in in
    let v-even : v % 2 ≡ 0 = low-even 21 1048576 z refl refl z-in (and_right (has_bits 21 z) _ z-all) in
    let w : ℕ = c + rd * 2 ^ 7 + v / 2 ^ 12 % 256 * 2 ^ 12 + v / 2 ^ 11 % 2 * 2 ^ 20 + v / 2 % 1024 * 2 ^ 21 + v / 2 ^ 20 * 2 ^ 31 in
    let e0 : w / 2 ^ 0 % 2 ^ 7 ≡ c = omega arith in
    let e1 : w / 2 ^ 7 % 32 ≡ rd = omega arith in
    let n1 : w / 2 ^ 31 % 2 ≡ v / 2 ^ 20 = omega arith in
    let n2 : w / 2 ^ 12 % 256 ≡ v / 2 ^ 12 % 256 = omega arith in
    let n3 : w / 2 ^ 20 % 2 ≡ v / 2 ^ 11 % 2 = omega arith in
    let n4 : w / 2 ^ 21 % 1024 ≡ v / 2 % 1024 = omega arith in
    let e3 : w / 2 ^ 31 % 2 * 2 ^ 20 + w / 2 ^ 12 % 256 * 2 ^ 12 + w / 2 ^ 20 % 2 * 2 ^ 11 + w / 2 ^ 21 % 1024 * 2 ≡ v = omega arith in
    let e4 : signed_of 21 (w / 2 ^ 31 % 2 * 2 ^ 20 + w / 2 ^ 12 % 256 * 2 ^ 12 + w / 2 ^ 20 % 2 * 2 ^ 11 + w / 2 ^ 21 % 1024 * 2) ≡ z = ap (signed_of 21) e3 ∙ signed-low 21 1048576 z refl refl z-in in
    record { fit = one _ _ e0; back = cc; small = omega arith }

-- the shape is the form's
hold : (s : Shape) (p : Op) (c f t : ℕ) (form : Form) → good (mk p s c f t) ≡ true → fills (mk p s c f t) form ≡ true → Holds (mk p s c f t) form
hold shape.R p c f t (R op rd a b) g h = hold-r p op c f t rd a b g h
hold shape.I p c f t (I op rd a z) g h = hold-i p op c f t rd a z g h
hold shape.Shift6 p c f t (I op rd a z) g h = hold-6 p op c f t rd a z g h
hold shape.Shift5 p c f t (I op rd a z) g h = hold-5 p op c f t rd a z g h
hold shape.Whole p c f t (I op rd a z) g h = hold-w p op c f t rd a z g h
hold shape.S p c f t (S op a b z) g h = hold-s p op c f t a b z g h
hold shape.B p c f t (B op a b z) g h = hold-b p op c f t a b z g h
hold shape.U p c f t (U op rd i) g h = hold-u p op c f t rd i g h
hold shape.J p c f t (J op rd z) g h = hold-j p op c f t rd z g h
hold s p c f t (R op rd a b) g h = absurd (false≢true h)
hold s p c f t (I op rd a z) g h = absurd (false≢true h)
hold s p c f t (S op a b z) g h = absurd (false≢true h)
hold s p c f t (B op a b z) g h = absurd (false≢true h)
hold s p c f t (U op rd i) g h = absurd (false≢true h)
hold s p c f t (J op rd z) g h = absurd (false≢true h)

pub holds : (row : Row) (form : Form) → good row ≡ true → fills row form ≡ true → Holds row form
holds row form g h = hold row.shape row.op row.opcode row.funct3 row.top form g h

-- ---- the way back: what a word says in a row that it fits

pub record Reads (row : Row) (w : ℕ) : Type 0 where
  pub fill : fills row (read row.shape row.op w) ≡ true
  pub again : placed row (read row.shape row.op w) ≡ w

first-of : (w c : ℕ) (rest : Bool) → ((w / 2 ^ 0 % 2 ^ 7 == c) && rest) ≡ true → w % 128 ≡ c
first-of w c rest h = let e = equal (w / 2 ^ 0 % 2 ^ 7) c (and_left _ _ h) in omega arith

first : (a b : ℕ) (rest : Bool) → ((a == b) && rest) ≡ true → a ≡ b
first a b rest h = equal a b (and_left _ _ h)

after : (a b : ℕ) (rest : Bool) → ((a == b) && rest) ≡ true → rest ≡ true
after a b rest h = and_right (a == b) rest h

register-is : (n : ℕ) → is_register (n % 32) ≡ true
register-is n = test_less _ _ (omega arith)

read-r : (p : Op) (c f t w : ℕ) → fits (mk p shape.R c f t) w ≡ true → w < 2 ^ 32 → Reads (mk p shape.R c f t) w
read-r p c f t w h small =
    let e1 = first-of w c _ h in
    let h2 = after _ _ _ h in
    let e2 = first (w / 2 ^ 12 % 8) f _ h2 in
    let e3 = first (w / 2 ^ 25 % 128) t _ (after (w / 2 ^ 12 % 8) f _ h2) in
    record {
      fill = both _ _ (register-is (w / 2 ^ 7)) (both _ _ (register-is (w / 2 ^ 15)) (register-is (w / 2 ^ 20)));
      again = omega arith;
    }

read-i : (p : Op) (c f t w : ℕ) → fits (mk p shape.I c f t) w ≡ true → w < 2 ^ 32 → Reads (mk p shape.I c f t) w
read-i p c f t w h small =
    let e1 = first-of w c _ h in
    let e2 = first (w / 2 ^ 12 % 8) f _ (after _ _ _ h) in
    let v : ℕ = w / 2 ^ 20 % 4096 in
    let v-in : v < 2048 + 2048 = omega arith in
    let e3 : low_of 12 (signed_of 12 v) ≡ v = low-signed 12 2048 v refl refl v-in in
    record {
      fill = both _ _ (register-is (w / 2 ^ 7)) (both _ _ (register-is (w / 2 ^ 15)) (signed-has 12 2048 v refl refl v-in));
      again = rw e3 (omega arith);
    }

read-6 : (p : Op) (c f t w : ℕ) → fits (mk p shape.Shift6 c f t) w ≡ true → w < 2 ^ 32 → Reads (mk p shape.Shift6 c f t) w
read-6 p c f t w h small =
    let e1 = first-of w c _ h in
    let h2 = after _ _ _ h in
    let e2 = first (w / 2 ^ 12 % 8) f _ h2 in
    let e3 = first (w / 2 ^ 26 % 64) t _ (after (w / 2 ^ 12 % 8) f _ h2) in
    record {
      fill = both _ _ (register-is (w / 2 ^ 7)) (both _ _ (register-is (w / 2 ^ 15)) (test_less (w / 2 ^ 20 % 64) 64 (omega arith)));
      again = omega arith;
    }

read-5 : (p : Op) (c f t w : ℕ) → fits (mk p shape.Shift5 c f t) w ≡ true → w < 2 ^ 32 → Reads (mk p shape.Shift5 c f t) w
read-5 p c f t w h small =
    let e1 = first-of w c _ h in
    let h2 = after _ _ _ h in
    let e2 = first (w / 2 ^ 12 % 8) f _ h2 in
    let e3 = first (w / 2 ^ 25 % 128) t _ (after (w / 2 ^ 12 % 8) f _ h2) in
    record {
      fill = both _ _ (register-is (w / 2 ^ 7)) (both _ _ (register-is (w / 2 ^ 15)) (test_less (w / 2 ^ 20 % 32) 32 (omega arith)));
      again = omega arith;
    }

read-w : (p : Op) (c f t w : ℕ) → good (mk p shape.Whole c f t) ≡ true → fits (mk p shape.Whole c f t) w ≡ true → w < 2 ^ 32 → Reads (mk p shape.Whole c f t) w
read-w p c f t w g h small =
    let k = bounds p shape.Whole c f t g in
    let f-is : f ≡ 0 = equal _ _ (and_left _ _ k.top) in
    let t-in : t < 2048 = less _ _ (and_right (f == 0) _ k.top) in
    let e1 = first-of w c _ h in
    let h2 = after _ _ _ h in
    let e2 : w / 2 ^ 7 % 8192 ≡ 0 = first (w / 2 ^ 7 % 8192) 0 _ h2 in
    let e3 : w / 2 ^ 20 % 4096 ≡ t = first (w / 2 ^ 20 % 4096) t _ (after (w / 2 ^ 7 % 8192) 0 _ h2) in
    let e4 : signed_of 12 (w / 2 ^ 20 % 4096) ≡ pos t = ap (signed_of 12) e3 ∙ signed-small t t-in in
    let e5 : w / 2 ^ 7 % 32 ≡ 0 = omega arith in
    let e6 : w / 2 ^ 15 % 32 ≡ 0 = omega arith in
    record {
      fill = rw e4 (both _ _ (test_equal _ _ e5) (both _ _ (test_equal _ _ e6) (test_equal t t refl)));
      again = rw e4 (omega arith);
    }

read-s : (p : Op) (c f t w : ℕ) → fits (mk p shape.S c f t) w ≡ true → w < 2 ^ 32 → Reads (mk p shape.S c f t) w
read-s p c f t w h small =
    let e1 = first-of w c _ h in
    let e2 = first (w / 2 ^ 12 % 8) f _ (after _ _ _ h) in
    let v : ℕ = w / 2 ^ 25 % 128 * 32 + w / 2 ^ 7 % 32 in
    let v-in : v < 2048 + 2048 = omega arith in
    let e3 : low_of 12 (signed_of 12 v) ≡ v = low-signed 12 2048 v refl refl v-in in
    record {
      fill = both _ _ (register-is (w / 2 ^ 15)) (both _ _ (register-is (w / 2 ^ 20)) (signed-has 12 2048 v refl refl v-in));
      again = rw e3 (omega arith);
    }

-- an even two's complement is that of an even number
signed-even : (k h n : ℕ) (b : Bool) → ltb n (2 ^ (k - 1)) ≡ b → 2 ^ (k - 1) ≡ h → 2 ^ k ≡ h + h → n < h + h → n % 2 ≡ 0 → h % 2 ≡ 0
    → is_even (cond b (pos n) (negsuc (2 ^ k - 1 - n))) ≡ true
signed-even k h n true t e q p even half = test_equal _ _ even
signed-even k h n false t e q p even half = test_equal ((2 ^ k - 1 - n) % 2) 1 (omega arith)

read-b : (p : Op) (c f t w : ℕ) → fits (mk p shape.B c f t) w ≡ true → w < 2 ^ 32 → Reads (mk p shape.B c f t) w
read-b p c f t w h small =
    let e1 = first-of w c _ h in
    let e2 = first (w / 2 ^ 12 % 8) f _ (after _ _ _ h) in
    let v : ℕ = w / 2 ^ 31 % 2 * 2 ^ 12 + w / 2 ^ 7 % 2 * 2 ^ 11 + w / 2 ^ 25 % 64 * 2 ^ 5 + w / 2 ^ 8 % 16 * 2 in
    let v-in : v < 4096 + 4096 = omega arith in
    let v-even : v % 2 ≡ 0 = omega arith in
    let e3 : low_of 13 (signed_of 13 v) ≡ v = low-signed 13 4096 v refl refl v-in in
    let n1 : v / 2 ^ 12 ≡ w / 2 ^ 31 % 2 = omega arith in
    let n2 : v / 2 ^ 11 % 2 ≡ w / 2 ^ 7 % 2 = omega arith in
    let n3 : v / 32 % 64 ≡ w / 2 ^ 25 % 64 = omega arith in
    let n4 : v / 2 % 16 ≡ w / 2 ^ 8 % 16 = omega arith in
    let e4 : c + (w / 2 ^ 7 % 2 + w / 2 ^ 8 % 16 * 2) * 2 ^ 7 + f * 2 ^ 12 + w / 2 ^ 15 % 32 * 2 ^ 15 + (w / 2 ^ 20 % 32 + w / 2 ^ 25 % 64 * 32 + w / 2 ^ 31 % 2 * 2 ^ 11) * 2 ^ 20 ≡ w = omega arith in
    record {
      fill = both _ _ (register-is (w / 2 ^ 15)) (both _ _ (register-is (w / 2 ^ 20)) (both _ _ (signed-has 13 4096 v refl refl v-in) (signed-even 13 4096 v _ refl refl refl v-in v-even refl)));
      again = rw (e3, n1, n2, n3, n4) e4;
    }

read-u : (p : Op) (c f t w : ℕ) → fits (mk p shape.U c f t) w ≡ true → w < 2 ^ 32 → Reads (mk p shape.U c f t) w
read-u p c f t w h small =
    let e1 = first-of w c _ h in
    record { fill = both _ _ (register-is (w / 2 ^ 7)) (test_less (w / 2 ^ 12 % 2 ^ 20) (2 ^ 20) (omega arith)); again = omega arith }

read-j : (p : Op) (c f t w : ℕ) → fits (mk p shape.J c f t) w ≡ true → w < 2 ^ 32 → Reads (mk p shape.J c f t) w
read-j p c f t w h small =
    let e1 = first-of w c _ h in
    let v : ℕ = w / 2 ^ 31 % 2 * 2 ^ 20 + w / 2 ^ 12 % 256 * 2 ^ 12 + w / 2 ^ 20 % 2 * 2 ^ 11 + w / 2 ^ 21 % 1024 * 2 in
    let v-in : v < 1048576 + 1048576 = omega arith in
    let v-even : v % 2 ≡ 0 = omega arith in
    let e3 : low_of 21 (signed_of 21 v) ≡ v = low-signed 21 1048576 v refl refl v-in in
    let n1 : v / 2 ^ 20 ≡ w / 2 ^ 31 % 2 = omega arith in
    let n2 : v / 2 ^ 12 % 256 ≡ w / 2 ^ 12 % 256 = omega arith in
    let n3 : v / 2 ^ 11 % 2 ≡ w / 2 ^ 20 % 2 = omega arith in
    let n4 : v / 2 % 1024 ≡ w / 2 ^ 21 % 1024 = omega arith in
    let e4 : c + w / 2 ^ 7 % 32 * 2 ^ 7 + w / 2 ^ 12 % 256 * 2 ^ 12 + w / 2 ^ 20 % 2 * 2 ^ 20 + w / 2 ^ 21 % 1024 * 2 ^ 21 + w / 2 ^ 31 % 2 * 2 ^ 31 ≡ w = omega arith in
    record {
      fill = both _ _ (register-is (w / 2 ^ 7)) (both _ _ (signed-has 21 1048576 v refl refl v-in) (signed-even 21 1048576 v _ refl refl refl v-in v-even refl));
      again = rw (e3, n1, n2, n3, n4) e4;
    }

read-in : (s : Shape) (p : Op) (c f t w : ℕ) → good (mk p s c f t) ≡ true → fits (mk p s c f t) w ≡ true → w < 2 ^ 32 → Reads (mk p s c f t) w
read-in shape.R p c f t w g h small = read-r p c f t w h small
read-in shape.I p c f t w g h small = read-i p c f t w h small
read-in shape.Shift6 p c f t w g h small = read-6 p c f t w h small
read-in shape.Shift5 p c f t w g h small = read-5 p c f t w h small
read-in shape.S p c f t w g h small = read-s p c f t w h small
read-in shape.B p c f t w g h small = read-b p c f t w h small
read-in shape.U p c f t w g h small = read-u p c f t w h small
read-in shape.J p c f t w g h small = read-j p c f t w h small
read-in shape.Whole p c f t w g h small = read-w p c f t w g h small

pub reads : (row : Row) (w : ℕ) → good row ≡ true → fits row w ≡ true → w < 2 ^ 32 → Reads row w
reads row w g h small = read-in row.shape row.op row.opcode row.funct3 row.top w g h small
