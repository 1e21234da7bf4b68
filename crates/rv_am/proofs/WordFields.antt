-- Each word has at most one instruction, and each instruction one word.
use Rattle.std.proofs.Common.{◌≡◌, ℕ, ◌+◌, ◌*◌, ◌/◌, ◌%◌, ◌^◌, ◌<◌, ◌&&◌, ◌==◌, Bool, true, false, if◌then◌else◌, nat_lt, Option, Some, None, option_map, sym, ap, ◌∙◌, refl, subst, arith}
use Rattle.std.specs.List.{find}
use Rattle.std.proofs.lemmas.Option.{same_Some}
use Rattle.isa_model.specs.declared.atomics.AmOp.{AmOp}
use Rattle.isa_model.specs.declared.atomics.AmOp.TheVariants.{Mul}
use Rattle.isa_model.specs.Atomics.{AmIns, AmRow, am_table, am_fits, am_decoded, is_atomic}
use Rattle.rv_am.specs.Words.{am, is_am_code, row_of, above, word_in, word_of}
use Rattle.rv_am.proofs.FoundRows.{and_left, and_right, both, equal, test_equal, less, test_less, op-row, good-row, found-is, found-op}

-- what a word says in a row
abbrev pub read_in : ℕ → AmRow → AmIns
read_in w row = am row.op (w / 2 ^ 7 % 2 ^ 5) (w / 2 ^ 15 % 2 ^ 5) (w / 2 ^ 20 % 2 ^ 5) (if row.opcode == 0x2f then w / 2 ^ 25 % 2 ^ 2 else 0)

pub decoded-is : (w : ℕ) → am_decoded w ≡ option_map (read_in w) (find (am_fits w) am_table)
unfolding am_decoded
decoded-is w = by-row (find (am_fits w) am_table)
  where
    by-row : (f : Option AmRow) → ◌≡◌ {A = Option AmIns} (elim f [ None ↦ None | Some row ↦ Some (read_in w row) ]) (option_map (read_in w) f)
    by-row None = refl
    by-row (Some row) = refl

atomic-row : (o : AmOp) → is_atomic o ≡ ((row_of o).opcode == 0x2f)
atomic-row Mul = refl
atomic-row o = refl

-- ---- the fixed bits of a word that fits a row

record Fits (w : ℕ) (r : AmRow) : Type 0 where
  code : w % 128 ≡ r.opcode
  middle : w / 2 ^ 12 % 2 ^ 3 ≡ r.funct3
  top : (if r.opcode == 0x2f then w / 2 ^ 27 % 2 ^ 5 else w / 2 ^ 25 % 2 ^ 7) ≡ r.top

fixed : (w : ℕ) (r : AmRow) → am_fits w r ≡ true → Fits w r
fixed w r h =
    let one = and_left (w % 128 == r.opcode && w / 2 ^ 12 % 2 ^ 3 == r.funct3) _ h in
    record {
      code = equal _ _ (and_left (w % 128 == r.opcode) (w / 2 ^ 12 % 2 ^ 3 == r.funct3) one);
      middle = equal _ _ (and_right (w % 128 == r.opcode) (w / 2 ^ 12 % 2 ^ 3 == r.funct3) one);
      top = equal _ _ (and_right (w % 128 == r.opcode && w / 2 ^ 12 % 2 ^ 3 == r.funct3) _ h);
    }

-- ---- from a word to its instruction

order-fits : (b : Bool) (w : ℕ) → (if b then nat_lt (if b then w / 2 ^ 25 % 2 ^ 2 else 0) 4 else (if b then w / 2 ^ 25 % 2 ^ 2 else 0) == 0) ≡ true
order-fits true w = test_less (w / 2 ^ 25 % 2 ^ 2) 4 (omega arith)
order-fits false w = refl

above-is : (b : Bool) (w t : ℕ) → (if b then w / 2 ^ 27 % 2 ^ 5 else w / 2 ^ 25 % 2 ^ 7) ≡ t → (if b then (if b then w / 2 ^ 25 % 2 ^ 2 else 0) + t * 4 else t) ≡ w / 2 ^ 25 % 128
above-is true w t e = omega arith
above-is false w t e = sym e

whole : (w c f u : ℕ) → w < 2 ^ 32 → w % 128 ≡ c → w / 2 ^ 12 % 2 ^ 3 ≡ f → u ≡ w / 2 ^ 25 % 128
    → c + w / 2 ^ 7 % 2 ^ 5 * 2 ^ 7 + f * 2 ^ 12 + w / 2 ^ 15 % 2 ^ 5 * 2 ^ 15 + w / 2 ^ 20 % 2 ^ 5 * 2 ^ 20 + u * 2 ^ 25 ≡ w
whole w c f u small e g h = omega arith

reads : (w : ℕ) (r : AmRow) → w < 2 ^ 32 → is_atomic r.op ≡ (r.opcode == 0x2f) → am_fits w r ≡ true → (is_am_code (read_in w r) ≡ true) × (word_in r (read_in w r) ≡ w)
unfolding is_am_code
reads w r small a h =
    let f = fixed w r h in
    let order = subst (λ b. (if b then nat_lt (if r.opcode == 0x2f then w / 2 ^ 25 % 2 ^ 2 else 0) 4 else (if r.opcode == 0x2f then w / 2 ^ 25 % 2 ^ 2 else 0) == 0) ≡ true) (sym a) (order-fits (r.opcode == 0x2f) w) in
    let upper = above-is (r.opcode == 0x2f) w r.top f.top in (
      both _ _ (test_less (w / 2 ^ 7 % 2 ^ 5) 32 (omega arith)) (both _ _ (test_less (w / 2 ^ 15 % 2 ^ 5) 32 (omega arith)) (both _ _ (test_less (w / 2 ^ 20 % 2 ^ 5) 32 (omega arith)) order)),
      whole w r.opcode r.funct3 (above r (if r.opcode == 0x2f then w / 2 ^ 25 % 2 ^ 2 else 0)) small f.code f.middle upper,
    )

-- what a word says in the row that is found is an instruction, and the word is its word
pub found-code : (w : ℕ) (r : AmRow) → w < 2 ^ 32 → find (am_fits w) am_table ≡ Some r → (is_am_code (read_in w r) ≡ true) × (word_of (read_in w r) ≡ w)
found-code w r small e =
    let is = found-is w r e in
    let o = is.0 in
    let name : r.op ≡ o = ap (λ x. x.op) is.1 ∙ op-row o in
    let atomic : is_atomic r.op ≡ (r.opcode == 0x2f) = ap is_atomic name ∙ atomic-row o ∙ ap (λ x. x.opcode == 0x2f) (sym is.1) in
    let own : row_of r.op ≡ r = ap row_of name ∙ sym is.1 in
    let told = reads w r small atomic is.2 in
    (told.0, ap (λ x. word_in x (read_in w r)) own ∙ told.1)

decoded-cases : (w : ℕ) (i : AmIns) (f : Option AmRow) → find (am_fits w) am_table ≡ f → w < 2 ^ 32 → option_map (read_in w) f ≡ Some i → (is_am_code i ≡ true) × (word_of i ≡ w)
decoded-cases w i None e small h = absurd cc
decoded-cases w i (Some r) e small h = subst (λ x. (is_am_code x ≡ true) × (word_of x ≡ w)) (same_Some _ _ h) (found-code w r small e)

pub decodes-code : (w : ℕ) (i : AmIns) → w < 2 ^ 32 → am_decoded w ≡ Some i → (is_am_code i ≡ true) × (word_of i ≡ w)
decodes-code w i small h = decoded-cases w i (find (am_fits w) am_table) refl small (sym (decoded-is w) ∙ h)

-- ---- from an instruction to its word

record Parts (w c rd f a b u : ℕ) : Type 0 where
  code : w % 128 ≡ c
  first : w / 2 ^ 7 % 2 ^ 5 ≡ rd
  middle : w / 2 ^ 12 % 2 ^ 3 ≡ f
  second : w / 2 ^ 15 % 2 ^ 5 ≡ a
  third : w / 2 ^ 20 % 2 ^ 5 ≡ b
  upper : w / 2 ^ 25 % 2 ^ 7 ≡ u
  small : w < 2 ^ 32

parts : (c rd f a b u : ℕ) → c < 128 → rd < 32 → f < 8 → a < 32 → b < 32 → u < 128
    → Parts (c + rd * 2 ^ 7 + f * 2 ^ 12 + a * 2 ^ 15 + b * 2 ^ 20 + u * 2 ^ 25) c rd f a b u
parts c rd f a b u c-in rd-in f-in a-in b-in u-in =
    record { code = omega arith; first = omega arith; middle = omega arith; second = omega arith; third = omega arith; upper = omega arith; small = omega arith }

pub record Fields (i : AmIns) : Type 0 where
  pub rd : i.rd < 32
  pub rs1 : i.rs1 < 32
  pub rs2 : i.rs2 < 32
  pub order : (if is_atomic i.op then nat_lt i.order 4 else i.order == 0) ≡ true

pub fields-of : (i : AmIns) → is_am_code i ≡ true → Fields i
unfolding is_am_code
fields-of i h =
    let later = and_right (nat_lt i.rd 32) _ h in
    let last = and_right (nat_lt i.rs1 32) _ later in
    record { rd = less _ _ (and_left _ _ h); rs1 = less _ _ (and_left _ _ later); rs2 = less _ _ (and_left _ _ last); order = and_right (nat_lt i.rs2 32) _ last }

pub order-small : (b : Bool) (n : ℕ) → (if b then nat_lt n 4 else n == 0) ≡ true → n < 4
order-small true n h = less n 4 h
order-small false n h = let e = equal n 0 h in omega arith

pub record RowFits (r : AmRow) : Type 0 where
  pub code : r.opcode < 128
  pub middle : r.funct3 < 8
  pub top : r.top < (if r.opcode == 0x2f then 32 else 128)

pub row-fits : (o : AmOp) → RowFits (row_of o)
row-fits o =
    let g = good-row o in
    let rest = and_right (nat_lt (row_of o).opcode 128) _ g in
    record { code = less _ _ (and_left _ _ g); middle = less _ _ (and_left _ _ rest); top = less _ _ (and_right (nat_lt (row_of o).funct3 8) _ rest) }

above-below : (b : Bool) (n t : ℕ) → n < 4 → t < (if b then 32 else 128) → (if b then n + t * 4 else t) < 128
above-below true n t h k = omega arith
above-below false n t h k = k

top-back : (b : Bool) (w n t : ℕ) → n < 4 → t < (if b then 32 else 128) → w / 2 ^ 25 % 2 ^ 7 ≡ (if b then n + t * 4 else t) → (if b then w / 2 ^ 27 % 2 ^ 5 else w / 2 ^ 25 % 2 ^ 7) ≡ t
top-back true w n t h k e = omega arith
top-back false w n t h k e = e

order-back : (b : Bool) (w n t : ℕ) → (if b then nat_lt n 4 else n == 0) ≡ true → t < (if b then 32 else 128) → w / 2 ^ 25 % 2 ^ 7 ≡ (if b then n + t * 4 else t) → (if b then w / 2 ^ 25 % 2 ^ 2 else 0) ≡ n
order-back true w n t h k e = let m = less n 4 h in omega arith
order-back false w n t h k e = sym (equal n 0 h)

record Back (i : AmIns) (w : ℕ) : Type 0 where
  fit : am_fits w (row_of i.op) ≡ true
  again : read_in w (row_of i.op) ≡ i
  small : w < 2 ^ 32

-- instructions with the same fields
pub same-fields : (o p : AmOp) (a b c d e f g h : ℕ) → o ≡ p → a ≡ e → b ≡ f → c ≡ g → d ≡ h → am o a b c d ≡ am p e f g h
same-fields o p a b c d e f g h k l m n q = cc

back : (i : AmIns) → is_am_code i ≡ true → Back i (word_of i)
back i code =
    let r = row_of i.op in
    let x = fields-of i code in
    let y = row-fits i.op in
    let order : (if r.opcode == 0x2f then nat_lt i.order 4 else i.order == 0) ≡ true =
    subst (λ b. (if b then nat_lt i.order 4 else i.order == 0) ≡ true) (atomic-row i.op) x.order in
    let four = order-small (r.opcode == 0x2f) i.order order in
    let p = parts r.opcode i.rd r.funct3 i.rs1 i.rs2 (above r i.order) y.code x.rd y.middle x.rs1 x.rs2 (above-below (r.opcode == 0x2f) i.order r.top four y.top) in
    record {
      fit = both _ _ (both _ _ (test_equal _ _ p.code) (test_equal _ _ p.middle)) (test_equal _ _ (top-back (r.opcode == 0x2f) (word_of i) i.order r.top four y.top p.upper));
      again = same-fields r.op i.op _ _ _ _ i.rd i.rs1 i.rs2 i.order (op-row i.op) p.first p.second p.third (order-back (r.opcode == 0x2f) (word_of i) i.order r.top order y.top p.upper);
      small = p.small;
    }

-- the word of an instruction decodes to it
pub code-decodes : (i : AmIns) → is_am_code i ≡ true → am_decoded (word_of i) ≡ Some i
code-decodes i code =
    let b = back i code in
    decoded-is (word_of i) ∙ ap (option_map (read_in (word_of i))) (found-op (word_of i) i.op b.fit) ∙ ap Some b.again

pub code-small : (i : AmIns) → is_am_code i ≡ true → word_of i < 2 ^ 32
code-small i code = (back i code).small

-- the seven bits at the top of an instruction's word
pub above-small : (i : AmIns) → is_am_code i ≡ true → above (row_of i.op) i.order < 128
above-small i code =
    let r = row_of i.op in
    let y = row-fits i.op in
    above-below (r.opcode == 0x2f) i.order r.top (order-small (is_atomic i.op) i.order (fields-of i code).order) y.top
