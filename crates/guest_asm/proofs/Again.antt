-- The line of a word says the word again.
use Rattle.std.proofs.Common.{◌≡◌, ℕ, ◌^◌, ◌<◌, ◌≤◌, ◌==◌, ◌&&◌, not, nat_lt, List, [], ◌∷◌, ◌++◌, length, decimal, codes, bytes_eq, Option, Some, None, Bool, true, false, refl, sym, ◌∙◌, ap, arith, length-append, ℤ, pos, negsuc, if◌then◌else◌}
use Rattle.std.specs.Fmt.{signed_decimal}
use Rattle.std.proofs.lemmas.Bool.{false≢true}
use Rattle.std.proofs.lemmas.Bool.Decides.{nat_tests}
use Rattle.isa_model.specs.Decode.{decoded, is_code, word_of, has_bits, is_number, is_r, is_s, is_b, is_u, is_j}
use Rattle.isa_model.specs.Table.{row_of}
use Rattle.isa_model.specs.declared.names.Op.{Op}
use Rattle.isa_model.specs.declared.names.Op.TheVariants.{Lui, Auipc, Jal, Jalr, Beq, Bne, Blt, Bge, Bltu, Bgeu, Lb, Lh, Lw, Ld, Lbu, Lhu, Lwu, Sb, Sh, Sw, Sd, Addi, Slti, Sltiu, Xori, Ori, Andi, Slli, Srli, Srai, Addiw, Slliw, Srliw, Sraiw, Add, Sub, Sll, Slt, Sltu, Xor, Srl, Sra, Or, And, Addw, Subw, Sllw, Srlw, Sraw, Fence, Ecall, Ebreak}
use Rattle.isa_model.specs.declared.forms.Form.{Form}
use Rattle.isa_model.specs.declared.forms.Form.TheVariants.{R, I, S, B, U, J}
use Rattle.rv_code.proofs.Facts.{fits-r, fits-i, fits-s, fits-b, fits-u, fits-j}
use Rattle.rv_code.proofs.Laws.{decodes-code}
use Rattle.rv_code.proofs.BoolTests.{and_left}
use Rattle.guest_asm.specs.declared.layout.Layout.TheVariants as layout
use Rattle.guest_asm.specs.declared.numbers.Number.{Number}
use Rattle.guest_asm.specs.Lines.{Marks, cut, is_label, target_of, number_target, place_of, registers_form, immediate_form, place_form, store_form, branch_form, upper_form, jump_form, form_in, alone_form, coded, number_word, with_operands, without_operands, by_parts, word_in, is_silent, said}
use Rattle.guest_asm.specs.Listing.{register_text, place_text, two, three, with_text, form_text, number_text, full_fence, listed_form, listed, line_of}
use Rattle.guest_asm.specs.Names.{name_of, named, layout_of, register_of}
use Rattle.guest_asm.specs.Numbers.{◌>>=◌, literal_of, immediate_of, natural_of, from_zero}
use Rattle.guest_asm.proofs.Decimals.{literal_decimal}
use Rattle.guest_asm.proofs.NameFacts.{lacks, name-fits, layout-r, layout-s, layout-b, layout-u, layout-j}
use Rattle.guest_asm.proofs.Pieces.{IsNear, lacks-append, lacks-cons, decimal_lacks, register_lacks, number_lacks, cut_front, cut_whole, register_read, number_parts, number_read, no_label, place_read, last_lacks}

-- ---- operands

two_lacks : (c : ℕ) (a b : List ℕ) → not (44 == c) ≡ true → lacks c a ≡ true → lacks c b ≡ true → lacks c (two a b) ≡ true
two_lacks c a b e h k = lacks-append c a (44 ∷ b) h (lacks-cons c 44 b e k)

three_lacks : (c : ℕ) (a b d : List ℕ) → not (44 == c) ≡ true → lacks c a ≡ true → lacks c b ≡ true → lacks c d ≡ true → lacks c (three a b d) ≡ true
three_lacks c a b d e h k l = two_lacks c a (two b d) e h (two_lacks c b d e k l)

place_lacks : (c : ℕ) (z : ℤ) (n : ℕ) → lacks c (signed_decimal z) ≡ true → lacks c (register_text n) ≡ true → not (40 == c) ≡ true → not (41 == c) ≡ true → lacks c (place_text z n) ≡ true
place_lacks c z n h k e f = lacks-append c (signed_decimal z) (40 ∷ (register_text n ++ 41 ∷ [])) h (lacks-cons c 40 (register_text n ++ 41 ∷ []) e (lacks-append c (register_text n) (41 ∷ []) k (lacks-cons c 41 [] f refl)))

registers_by : (op : Op) (text a rest b d : List ℕ) (rd rs1 rs2 : ℕ) → cut 44 text ≡ Some (a, rest) → cut 44 rest ≡ Some (b, d) → register_of a ≡ Some rd → register_of b ≡ Some rs1 → register_of d ≡ Some rs2 → registers_form op text ≡ Some (R op rd rs1 rs2)
unfolding registers_form
registers_by op text a rest b d rd rs1 rs2 e f g h k = rw (e, f, g, h, k) refl

immediate_by : (op : Op) (text a rest b d : List ℕ) (rd rs1 : ℕ) (m : Number) (z : ℤ) → cut 44 text ≡ Some (a, rest) → cut 44 rest ≡ Some (b, d) → register_of a ≡ Some rd → register_of b ≡ Some rs1 → literal_of d ≡ Some m → immediate_of m ≡ Some z → immediate_form op text ≡ Some (I op rd rs1 z)
unfolding immediate_form
immediate_by op text a rest b d rd rs1 m z e f g h k l = rw (e, f, g, h, k, l) refl

place_by : (op : Op) (text a rest : List ℕ) (rd n : ℕ) (z : ℤ) → cut 44 text ≡ Some (a, rest) → register_of a ≡ Some rd → place_of rest ≡ Some (z, n) → place_form op text ≡ Some (I op rd n z)
unfolding place_form
place_by op text a rest rd n z e f g = rw (e, f, g) refl

store_by : (op : Op) (text a rest : List ℕ) (rs2 n : ℕ) (z : ℤ) → cut 44 text ≡ Some (a, rest) → register_of a ≡ Some rs2 → place_of rest ≡ Some (z, n) → store_form op text ≡ Some (S op n rs2 z)
unfolding store_form
store_by op text a rest rs2 n z e f g = rw (e, f, g) refl

branch_by : (marks : Marks) (here : ℕ) (op : Op) (text a rest b d : List ℕ) (rs1 rs2 : ℕ) (z : ℤ) → cut 44 text ≡ Some (a, rest) → cut 44 rest ≡ Some (b, d) → register_of a ≡ Some rs1 → register_of b ≡ Some rs2 → target_of marks here d ≡ Some z → branch_form marks here op text ≡ Some (B op rs1 rs2 z)
unfolding branch_form
branch_by marks here op text a rest b d rs1 rs2 z e f g h k = rw (e, f, g, h, k) refl

upper_by : (op : Op) (text a rest : List ℕ) (rd n : ℕ) (m : Number) → cut 44 text ≡ Some (a, rest) → register_of a ≡ Some rd → literal_of rest ≡ Some m → natural_of 1048575 m ≡ Some n → upper_form op text ≡ Some (U op rd n)
unfolding upper_form
upper_by op text a rest rd n m e f g h = rw (e, f, g, h) refl

jump_by : (marks : Marks) (here : ℕ) (op : Op) (text a rest : List ℕ) (rd : ℕ) (z : ℤ) → cut 44 text ≡ Some (a, rest) → register_of a ≡ Some rd → target_of marks here rest ≡ Some z → jump_form marks here op text ≡ Some (J op rd z)
unfolding jump_form
jump_by marks here op text a rest rd z e f g = rw (e, f, g) refl

target_by : (marks : Marks) (here : ℕ) (text : List ℕ) (z : ℤ) → is_label text ≡ false → number_target text ≡ Some z → target_of marks here text ≡ Some z
target_by marks here text z e f = rw e f

natural_is : (most n : ℕ) → n ≤ most → natural_of most (from_zero n) ≡ Some n
natural_is most n h = let e : nat_lt most n ≡ false = grind (arith, nat_tests) in rw e refl

-- ---- lines

-- what a line with that word keeps
pub record Reads (marks : Marks) (here : ℕ) (text : List ℕ) (w : ℕ) : Type 0 where
  pub word : word_in marks here text ≡ Some w
  pub no_colon : lacks 58 text ≡ true
  pub no_line_feed : lacks 10 text ≡ true
  pub some : 0 < length text

with_by : (marks : Marks) (here : ℕ) (key text : List ℕ) (op : Op) (form : Form) (w : ℕ) → bytes_eq key (codes ".word") ≡ false → named key ≡ Some op → form_in marks here (layout_of op) op text ≡ Some form → coded form ≡ Some w → with_operands marks here key text ≡ Some w
unfolding with_operands
with_by marks here key text op form w e f g h = rw (e, f, g) h

op_line : (marks : Marks) (here : ℕ) (op : Op) (operands : List ℕ) (form : Form) (w : ℕ) → form_in marks here (layout_of op) op operands ≡ Some form → coded form ≡ Some w → lacks 58 operands ≡ true → lacks 10 operands ≡ true → Reads marks here (with_text op operands) w
op_line marks here op operands form w f g h k =
    let n = name-fits op in
    record {
      word = ap (by_parts marks here (with_text op operands)) (cut_front 32 (name_of op) operands n.no_space) ∙ with_by marks here (name_of op) operands op form w n.no_data n.found f g;
      no_colon = lacks-append 58 (name_of op) (32 ∷ operands) n.no_colon (lacks-cons 58 32 operands refl h);
      no_line_feed = lacks-append 10 (name_of op) (32 ∷ operands) n.no_line_feed (lacks-cons 10 32 operands refl k);
      some = omega (arith, length-append (name_of op) (32 ∷ operands));
    }

is_coded : (form : Form) (w : ℕ) → is_code form ≡ true → word_of form ≡ w → coded form ≡ Some w
is_coded form w e f = rw e (ap (λ v. Some v) f)

regs : (c n : ℕ) → n < 32 → lacks 44 (register_text n) ≡ true
regs c n h = register_lacks 44 n refl refl h

near_12 : (z : ℤ) → has_bits 12 z ≡ true → IsNear z
near_12 (pos n) h = grind (arith, nat_tests)
near_12 (negsuc n) h = grind (arith, nat_tests)

near_13 : (z : ℤ) → has_bits 13 z ≡ true → IsNear z
near_13 (pos n) h = grind (arith, nat_tests)
near_13 (negsuc n) h = grind (arith, nat_tests)

near_21 : (z : ℤ) → has_bits 21 z ≡ true → IsNear z
near_21 (pos n) h = grind (arith, nat_tests)
near_21 (negsuc n) h = grind (arith, nat_tests)

commas : (n : ℕ) (rest : List ℕ) → n < 32 → cut 44 (register_text n ++ 44 ∷ rest) ≡ Some (register_text n, rest)
commas n rest h = cut_front 44 (register_text n) rest (register_lacks 44 n refl refl h)

r_again : (marks : Marks) (here : ℕ) (op : Op) (rd a b w : ℕ) → is_r (row_of op).shape ≡ true → is_code (R op rd a b) ≡ true → word_of (R op rd a b) ≡ w → Reads marks here (form_text (R op rd a b)) w
r_again marks here op rd a b w s h k =
    let f = fits-r op rd a b h in
    let text = three (register_text rd) (register_text a) (register_text b) in
    op_line marks here op text (R op rd a b) w
    (ap (λ l. form_in marks here l op text) (layout-r op s) ∙ registers_by op text (register_text rd) (two (register_text a) (register_text b)) (register_text a) (register_text b) rd a b (commas rd (two (register_text a) (register_text b)) f.rd-in) (commas a (register_text b) f.a-in) (register_read rd f.rd-in) (register_read a f.a-in) (register_read b f.b-in))
    (is_coded (R op rd a b) w h k)
    (three_lacks 58 (register_text rd) (register_text a) (register_text b) refl (register_lacks 58 rd refl refl f.rd-in) (register_lacks 58 a refl refl f.a-in) (register_lacks 58 b refl refl f.b-in))
    (three_lacks 10 (register_text rd) (register_text a) (register_text b) refl (register_lacks 10 rd refl refl f.rd-in) (register_lacks 10 a refl refl f.a-in) (register_lacks 10 b refl refl f.b-in))

immediate_again : (marks : Marks) (here : ℕ) (op : Op) (rd a : ℕ) (z : ℤ) (w : ℕ) → layout_of op ≡ layout.Immediate → is_code (I op rd a z) ≡ true → word_of (I op rd a z) ≡ w → Reads marks here (with_text op (three (register_text rd) (register_text a) (signed_decimal z))) w
immediate_again marks here op rd a z w s h k =
    let f = fits-i op rd a z h in
    let near = near_12 z f.z-in in
    let m = number_parts z near in
    let text = three (register_text rd) (register_text a) (signed_decimal z) in
    op_line marks here op text (I op rd a z) w
    (ap (λ l. form_in marks here l op text) s ∙ immediate_by op text (register_text rd) (two (register_text a) (signed_decimal z)) (register_text a) (signed_decimal z) rd a m.0 z (commas rd (two (register_text a) (signed_decimal z)) f.rd-in) (commas a (signed_decimal z) f.a-in) (register_read rd f.rd-in) (register_read a f.a-in) m.1 m.2)
    (is_coded (I op rd a z) w h k)
    (three_lacks 58 (register_text rd) (register_text a) (signed_decimal z) refl (register_lacks 58 rd refl refl f.rd-in) (register_lacks 58 a refl refl f.a-in) (number_lacks 58 z refl refl near))
    (three_lacks 10 (register_text rd) (register_text a) (signed_decimal z) refl (register_lacks 10 rd refl refl f.rd-in) (register_lacks 10 a refl refl f.a-in) (number_lacks 10 z refl refl near))

place_again : (marks : Marks) (here : ℕ) (op : Op) (rd a : ℕ) (z : ℤ) (w : ℕ) → layout_of op ≡ layout.Place → is_code (I op rd a z) ≡ true → word_of (I op rd a z) ≡ w → Reads marks here (with_text op (two (register_text rd) (place_text z a))) w
place_again marks here op rd a z w s h k =
    let f = fits-i op rd a z h in
    let near = near_12 z f.z-in in
    let text = two (register_text rd) (place_text z a) in
    op_line marks here op text (I op rd a z) w
    (ap (λ l. form_in marks here l op text) s ∙ place_by op text (register_text rd) (place_text z a) rd a z (commas rd (place_text z a) f.rd-in) (register_read rd f.rd-in) (place_read z a near f.a-in))
    (is_coded (I op rd a z) w h k)
    (two_lacks 58 (register_text rd) (place_text z a) refl (register_lacks 58 rd refl refl f.rd-in) (place_lacks 58 z a (number_lacks 58 z refl refl near) (register_lacks 58 a refl refl f.a-in) refl refl))
    (two_lacks 10 (register_text rd) (place_text z a) refl (register_lacks 10 rd refl refl f.rd-in) (place_lacks 10 z a (number_lacks 10 z refl refl near) (register_lacks 10 a refl refl f.a-in) refl refl))

s_again : (marks : Marks) (here : ℕ) (op : Op) (a b : ℕ) (z : ℤ) (w : ℕ) → is_s (row_of op).shape ≡ true → is_code (S op a b z) ≡ true → word_of (S op a b z) ≡ w → Reads marks here (form_text (S op a b z)) w
s_again marks here op a b z w s h k =
    let f = fits-s op a b z h in
    let near = near_12 z f.z-in in
    let text = two (register_text b) (place_text z a) in
    op_line marks here op text (S op a b z) w
    (ap (λ l. form_in marks here l op text) (layout-s op s) ∙ store_by op text (register_text b) (place_text z a) b a z (commas b (place_text z a) f.b-in) (register_read b f.b-in) (place_read z a near f.a-in))
    (is_coded (S op a b z) w h k)
    (two_lacks 58 (register_text b) (place_text z a) refl (register_lacks 58 b refl refl f.b-in) (place_lacks 58 z a (number_lacks 58 z refl refl near) (register_lacks 58 a refl refl f.a-in) refl refl))
    (two_lacks 10 (register_text b) (place_text z a) refl (register_lacks 10 b refl refl f.b-in) (place_lacks 10 z a (number_lacks 10 z refl refl near) (register_lacks 10 a refl refl f.a-in) refl refl))

b_again : (marks : Marks) (here : ℕ) (op : Op) (a b : ℕ) (z : ℤ) (w : ℕ) → is_b (row_of op).shape ≡ true → is_code (B op a b z) ≡ true → word_of (B op a b z) ≡ w → Reads marks here (form_text (B op a b z)) w
b_again marks here op a b z w s h k =
    let f = fits-b op a b z h in
    let near = near_13 z f.z-in in
    let text = three (register_text a) (register_text b) (signed_decimal z) in
    op_line marks here op text (B op a b z) w
    (ap (λ l. form_in marks here l op text) (layout-b op s) ∙ branch_by marks here op text (register_text a) (two (register_text b) (signed_decimal z)) (register_text b) (signed_decimal z) a b z (commas a (two (register_text b) (signed_decimal z)) f.a-in) (commas b (signed_decimal z) f.b-in) (register_read a f.a-in) (register_read b f.b-in) (target_by marks here (signed_decimal z) z (no_label z near) (number_read z near)))
    (is_coded (B op a b z) w h k)
    (three_lacks 58 (register_text a) (register_text b) (signed_decimal z) refl (register_lacks 58 a refl refl f.a-in) (register_lacks 58 b refl refl f.b-in) (number_lacks 58 z refl refl near))
    (three_lacks 10 (register_text a) (register_text b) (signed_decimal z) refl (register_lacks 10 a refl refl f.a-in) (register_lacks 10 b refl refl f.b-in) (number_lacks 10 z refl refl near))

u_again : (marks : Marks) (here : ℕ) (op : Op) (rd n w : ℕ) → is_u (row_of op).shape ≡ true → is_code (U op rd n) ≡ true → word_of (U op rd n) ≡ w → Reads marks here (form_text (U op rd n)) w
u_again marks here op rd n w s h k =
    let f = fits-u op rd n h in
    let small : n < 2 ^ 64 = omega (arith, f.1) in
    let text = two (register_text rd) (decimal n) in
    op_line marks here op text (U op rd n) w
    (ap (λ l. form_in marks here l op text) (layout-u op s) ∙ upper_by op text (register_text rd) (decimal n) rd n (from_zero n) (commas rd (decimal n) f.0) (register_read rd f.0) (literal_decimal n small) (natural_is 1048575 n (omega (arith, f.1))))
    (is_coded (U op rd n) w h k)
    (two_lacks 58 (register_text rd) (decimal n) refl (register_lacks 58 rd refl refl f.0) (decimal_lacks 58 n refl small))
    (two_lacks 10 (register_text rd) (decimal n) refl (register_lacks 10 rd refl refl f.0) (decimal_lacks 10 n refl small))

j_again : (marks : Marks) (here : ℕ) (op : Op) (rd : ℕ) (z : ℤ) (w : ℕ) → is_j (row_of op).shape ≡ true → is_code (J op rd z) ≡ true → word_of (J op rd z) ≡ w → Reads marks here (form_text (J op rd z)) w
j_again marks here op rd z w s h k =
    let f = fits-j op rd z h in
    let near = near_21 z f.z-in in
    let text = two (register_text rd) (signed_decimal z) in
    op_line marks here op text (J op rd z) w
    (ap (λ l. form_in marks here l op text) (layout-j op s) ∙ jump_by marks here op text (register_text rd) (signed_decimal z) rd z (commas rd (signed_decimal z) f.rd-in) (register_read rd f.rd-in) (target_by marks here (signed_decimal z) z (no_label z near) (number_read z near)))
    (is_coded (J op rd z) w h k)
    (two_lacks 58 (register_text rd) (signed_decimal z) refl (register_lacks 58 rd refl refl f.rd-in) (number_lacks 58 z refl refl near))
    (two_lacks 10 (register_text rd) (signed_decimal z) refl (register_lacks 10 rd refl refl f.rd-in) (number_lacks 10 z refl refl near))

-- ---- instructions without operands, and data

alone_by : (text : List ℕ) (op : Op) (form : Form) (w : ℕ) → named text ≡ Some op → alone_form op ≡ Some form → coded form ≡ Some w → without_operands text ≡ Some w
unfolding without_operands
alone_by text op form w e f g = rw (e, f) g

alone_line : (marks : Marks) (here : ℕ) (op : Op) (form : Form) (w : ℕ) → alone_form op ≡ Some form → coded form ≡ Some w → Reads marks here (name_of op) w
alone_line marks here op form w f g =
    let n = name-fits op in
    record {
      word = ap (by_parts marks here (name_of op)) (cut_whole 32 (name_of op) n.no_space) ∙ alone_by (name_of op) op form w n.found f g;
      no_colon = n.no_colon;
      no_line_feed = n.no_line_feed;
      some = grind (arith, nat_tests, n.some);
    }

number_is : (w : ℕ) → w < 2 ^ 32 → number_word (decimal w) ≡ Some w
number_is w small = ap (λ o. o >>= natural_of 0xffffffff) (literal_decimal w (omega arith)) ∙ natural_is 0xffffffff w (omega arith)

data_by : (marks : Marks) (here : ℕ) (text : List ℕ) (w : ℕ) → number_word text ≡ Some w → with_operands marks here (codes ".word") text ≡ Some w
unfolding with_operands
data_by marks here text w h = h

data_line : (marks : Marks) (here w : ℕ) → w < 2 ^ 32 → Reads marks here (number_text w) w
data_line marks here w small =
    record {
      word = ap (by_parts marks here (number_text w)) (cut_front 32 (codes ".word") (decimal w) refl) ∙ data_by marks here (decimal w) w (number_is w small);
      no_colon = lacks-append 58 (codes ".word") (32 ∷ decimal w) refl (lacks-cons 58 32 (decimal w) refl (decimal_lacks 58 w refl (omega arith)));
      no_line_feed = lacks-append 10 (codes ".word") (32 ∷ decimal w) refl (lacks-cons 10 32 (decimal w) refl (decimal_lacks 10 w refl (omega arith)));
      some = omega arith;
    }

-- the fields of an ecall or an ebreak
whole_is : (rd a t : ℕ) (z : ℤ) → (rd == 0 && (a == 0 && is_number t z)) ≡ true → (rd ≡ 0) × (a ≡ 0) × (z ≡ pos t)
whole_is rd a t (negsuc n) h = absurd (false≢true (sym (never (rd == 0) (a == 0)) ∙ h)) where
  never : (b c : Bool) → (b && (c && false)) ≡ false
  never true true = refl
  never true false = refl
  never false c = refl
whole_is rd a t (pos n) h =
    let one : rd ≡ 0 = grind (arith, nat_tests, h) in
    let two : a ≡ 0 = grind (arith, nat_tests, h) in
    let three : n ≡ t = grind (arith, nat_tests, h) in
    (one, two, ap (λ m. pos m) three)

same_form : (op : Op) (rd a rd' a' : ℕ) (z z' : ℤ) → rd ≡ rd' → a ≡ a' → z ≡ z' → I op rd a z ≡ I op rd' a' z'
same_form op rd a rd' a' z z' e f g = cc

ecall_again : (marks : Marks) (here : ℕ) (rd a : ℕ) (z : ℤ) (w : ℕ) → is_code (I Ecall rd a z) ≡ true → word_of (I Ecall rd a z) ≡ w → Reads marks here (name_of Ecall) w
unfolding is_code
ecall_again marks here rd a z w h k =
    let p = whole_is rd a 0 z h in
    let e = same_form Ecall rd a 0 0 z (pos 0) p.0 p.1 p.2 in
    alone_line marks here Ecall (I Ecall 0 0 (pos 0)) w refl (ap coded (sym e) ∙ is_coded (I Ecall rd a z) w h k)

ebreak_again : (marks : Marks) (here : ℕ) (rd a : ℕ) (z : ℤ) (w : ℕ) → is_code (I Ebreak rd a z) ≡ true → word_of (I Ebreak rd a z) ≡ w → Reads marks here (name_of Ebreak) w
unfolding is_code
ebreak_again marks here rd a z w h k =
    let p = whole_is rd a 1 z h in
    let e = same_form Ebreak rd a 0 0 z (pos 1) p.0 p.1 p.2 in
    alone_line marks here Ebreak (I Ebreak 0 0 (pos 1)) w refl (ap coded (sym e) ∙ is_coded (I Ebreak rd a z) w h k)

full_coded : coded (I Fence 0 0 (pos 255)) ≡ Some full_fence
unfolding is_code
full_coded = refl

fence_by : (marks : Marks) (here w : ℕ) (b : Bool) → (w == full_fence) ≡ b → w < 2 ^ 32 → Reads marks here (if b then name_of Fence else number_text w) w
fence_by marks here w true e small =
    let same : full_fence ≡ w = grind (arith, nat_tests) in
    alone_line marks here Fence (I Fence 0 0 (pos 255)) w refl (full_coded ∙ ap (λ v. Some v) same)
fence_by marks here w false e small = data_line marks here w small

i_again : (marks : Marks) (here : ℕ) (op : Op) (rd a : ℕ) (z : ℤ) (w : ℕ) → w < 2 ^ 32 → is_code (I op rd a z) ≡ true → word_of (I op rd a z) ≡ w → Reads marks here (listed_form w (I op rd a z)) w
unfolding is_code
i_again marks here Lui rd a z w small h k = absurd (false≢true h)
i_again marks here Auipc rd a z w small h k = absurd (false≢true h)
i_again marks here Jal rd a z w small h k = absurd (false≢true h)
i_again marks here Jalr rd a z w small h k = place_again marks here Jalr rd a z w refl h k
i_again marks here Beq rd a z w small h k = absurd (false≢true h)
i_again marks here Bne rd a z w small h k = absurd (false≢true h)
i_again marks here Blt rd a z w small h k = absurd (false≢true h)
i_again marks here Bge rd a z w small h k = absurd (false≢true h)
i_again marks here Bltu rd a z w small h k = absurd (false≢true h)
i_again marks here Bgeu rd a z w small h k = absurd (false≢true h)
i_again marks here Lb rd a z w small h k = place_again marks here Lb rd a z w refl h k
i_again marks here Lh rd a z w small h k = place_again marks here Lh rd a z w refl h k
i_again marks here Lw rd a z w small h k = place_again marks here Lw rd a z w refl h k
i_again marks here Ld rd a z w small h k = place_again marks here Ld rd a z w refl h k
i_again marks here Lbu rd a z w small h k = place_again marks here Lbu rd a z w refl h k
i_again marks here Lhu rd a z w small h k = place_again marks here Lhu rd a z w refl h k
i_again marks here Lwu rd a z w small h k = place_again marks here Lwu rd a z w refl h k
i_again marks here Sb rd a z w small h k = absurd (false≢true h)
i_again marks here Sh rd a z w small h k = absurd (false≢true h)
i_again marks here Sw rd a z w small h k = absurd (false≢true h)
i_again marks here Sd rd a z w small h k = absurd (false≢true h)
i_again marks here Addi rd a z w small h k = immediate_again marks here Addi rd a z w refl h k
i_again marks here Slti rd a z w small h k = immediate_again marks here Slti rd a z w refl h k
i_again marks here Sltiu rd a z w small h k = immediate_again marks here Sltiu rd a z w refl h k
i_again marks here Xori rd a z w small h k = immediate_again marks here Xori rd a z w refl h k
i_again marks here Ori rd a z w small h k = immediate_again marks here Ori rd a z w refl h k
i_again marks here Andi rd a z w small h k = immediate_again marks here Andi rd a z w refl h k
i_again marks here Slli rd a z w small h k = immediate_again marks here Slli rd a z w refl h k
i_again marks here Srli rd a z w small h k = immediate_again marks here Srli rd a z w refl h k
i_again marks here Srai rd a z w small h k = immediate_again marks here Srai rd a z w refl h k
i_again marks here Addiw rd a z w small h k = immediate_again marks here Addiw rd a z w refl h k
i_again marks here Slliw rd a z w small h k = immediate_again marks here Slliw rd a z w refl h k
i_again marks here Srliw rd a z w small h k = immediate_again marks here Srliw rd a z w refl h k
i_again marks here Sraiw rd a z w small h k = immediate_again marks here Sraiw rd a z w refl h k
i_again marks here Add rd a z w small h k = absurd (false≢true h)
i_again marks here Sub rd a z w small h k = absurd (false≢true h)
i_again marks here Sll rd a z w small h k = absurd (false≢true h)
i_again marks here Slt rd a z w small h k = absurd (false≢true h)
i_again marks here Sltu rd a z w small h k = absurd (false≢true h)
i_again marks here Xor rd a z w small h k = absurd (false≢true h)
i_again marks here Srl rd a z w small h k = absurd (false≢true h)
i_again marks here Sra rd a z w small h k = absurd (false≢true h)
i_again marks here Or rd a z w small h k = absurd (false≢true h)
i_again marks here And rd a z w small h k = absurd (false≢true h)
i_again marks here Addw rd a z w small h k = absurd (false≢true h)
i_again marks here Subw rd a z w small h k = absurd (false≢true h)
i_again marks here Sllw rd a z w small h k = absurd (false≢true h)
i_again marks here Srlw rd a z w small h k = absurd (false≢true h)
i_again marks here Sraw rd a z w small h k = absurd (false≢true h)
i_again marks here Fence rd a z w small h k = fence_by marks here w (w == full_fence) refl small
i_again marks here Ecall rd a z w small h k = ecall_again marks here rd a z w h k
i_again marks here Ebreak rd a z w small h k = ebreak_again marks here rd a z w h k

-- ---- any word

form_again : (marks : Marks) (here : ℕ) (form : Form) (w : ℕ) → w < 2 ^ 32 → is_code form ≡ true → word_of form ≡ w → Reads marks here (listed_form w form) w
unfolding is_code
form_again marks here (R op rd a b) w small h k = r_again marks here op rd a b w (and_left (is_r (row_of op).shape) _ h) h k
form_again marks here (I op rd a z) w small h k = i_again marks here op rd a z w small h k
form_again marks here (S op a b z) w small h k = s_again marks here op a b z w (and_left (is_s (row_of op).shape) _ h) h k
form_again marks here (B op a b z) w small h k = b_again marks here op a b z w (and_left (is_b (row_of op).shape) _ h) h k
form_again marks here (U op rd n) w small h k = u_again marks here op rd n w (and_left (is_u (row_of op).shape) _ h) h k
form_again marks here (J op rd z) w small h k = j_again marks here op rd z w (and_left (is_j (row_of op).shape) _ h) h k

listed_again : (marks : Marks) (here w : ℕ) (o : Option Form) → w < 2 ^ 32 → decoded w ≡ o → Reads marks here (listed w o) w
listed_again marks here w None small e = data_line marks here w small
listed_again marks here w (Some form) small e =
    let d = decodes-code w form small e in form_again marks here form w small d.0 d.1

pub line_again : (marks : Marks) (here w : ℕ) → w < 2 ^ 32 → Reads marks here (line_of w) w
unfolding line_of
line_again marks here w small = listed_again marks here w (decoded w) small refl

loud : (text : List ℕ) → 0 < length text → lacks 58 text ≡ true → is_silent text ≡ false
loud text some h =
    let e : (length text == 0) ≡ false = grind (arith, nat_tests, some) in
    rw e (last_lacks 58 text some h)

said_by : (marks : Marks) (line here : ℕ) (text : List ℕ) (w : ℕ) → is_silent text ≡ false → word_in marks here text ≡ Some w → said marks line here text ≡ Some (Some w)
unfolding said
said_by marks line here text w e f = rw (e, f) refl

pub said_again : (marks : Marks) (line here : ℕ) (text : List ℕ) (w : ℕ) → Reads marks here text w → said marks line here text ≡ Some (Some w)
said_again marks line here text w r = said_by marks line here text w (loud text r.some r.no_colon) r.word
