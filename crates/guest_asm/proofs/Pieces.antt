-- Pieces of a line.
use Rattle.std.proofs.Common.{◌≡◌, ◌≢◌, ℕ, zero, suc, ◌-◌, ◌^◌, ◌<◌, ◌≤◌, ◌==◌, ◌&&◌, not, nat_lt, List, [], ◌∷◌, ◌++◌, length, take, decimal, get_or, slice_index, Some, None, option_map, Bool, true, false, refl, ◌∙◌, ap, arith, length-append, ℤ, pos, negsuc, neg_ℤ, if◌then◌else◌}
use Rattle.std.specs.Fmt.{signed_decimal}
use Rattle.std.proofs.Math.Seq.{get_or-append_seam, take-append_seam}
use Rattle.std.specs.List.{list_all}
use Rattle.std.proofs.lemmas.Bool.Decides.{nat_tests}
use Rattle.std.proofs.lemmas.List.Folds.{list_all-append}
use Rattle.guest_asm.specs.declared.numbers.Number.{Number}
use Rattle.guest_asm.specs.Lines.{cut, is_digit, is_letter, is_label, ends_in, but_last, last_byte, in_brackets, place_of}
use Rattle.guest_asm.specs.Listing.{register_text, place_text}
use Rattle.guest_asm.specs.Names.{register_of, below_32}
use Rattle.guest_asm.specs.Numbers.{◌>>=◌, literal_of, immediate_of, from_zero, below_zero}
use Rattle.guest_asm.proofs.Cuts.{further}
use Rattle.guest_asm.proofs.Decimals.{decimal_is, number_decimal, literal_decimal, literal_minus, both_true, first_digit, later_digits}
use Rattle.guest_asm.proofs.NameFacts.{lacks}

-- ---- bytes that don't stand in a text

pub lacks-append : (c : ℕ) (xs ys : List ℕ) → lacks c xs ≡ true → lacks c ys ≡ true → lacks c (xs ++ ys) ≡ true
lacks-append c xs ys h k = list_all-append (λ b. not (b == c)) xs ys ∙ both_true (lacks c xs) (lacks c ys) h k

pub lacks-cons : (c b : ℕ) (bs : List ℕ) → not (b == c) ≡ true → lacks c bs ≡ true → lacks c (b ∷ bs) ≡ true
lacks-cons c b bs h k = both_true (not (b == c)) (lacks c bs) h k

digit_lacks : (c b : ℕ) → is_digit c ≡ false → is_digit b ≡ true → not (b == c) ≡ true
digit_lacks c b h k = grind (arith, nat_tests)

pub digits_lack : (c : ℕ) (ds : List ℕ) → is_digit c ≡ false → list_all is_digit ds ≡ true → lacks c ds ≡ true
digits_lack c [] h k = refl
digits_lack c (d ∷ ds) h k = lacks-cons c d ds (digit_lacks c d h (first_digit d ds k)) (digits_lack c ds h (later_digits d ds k))

pub decimal_lacks : (c n : ℕ) → is_digit c ≡ false → n < 2 ^ 64 → lacks c (decimal n) ≡ true
decimal_lacks c n h small = digits_lack c (decimal n) h (decimal_is n small).plain

pub register_lacks : (c n : ℕ) → is_digit c ≡ false → not (120 == c) ≡ true → n < 32 → lacks c (register_text n) ≡ true
register_lacks c n h k small = lacks-cons c 120 (decimal n) k (decimal_lacks c n h (omega arith))

-- ---- cuts

pub split_lack : (c b : ℕ) (bs : List ℕ) → lacks c (b ∷ bs) ≡ true → (not (b == c) ≡ true) × (lacks c bs ≡ true)
split_lack c b bs h = split (not (b == c)) (lacks c bs) h where
  split : (x y : Bool) → (x && y) ≡ true → (x ≡ true) × (y ≡ true)
  split true y h = (refl, h)
  split false y h = cc

differs : (b c : ℕ) → not (b == c) ≡ true → b ≢ c
differs b c h e = grind (arith, nat_tests)

here_at : (c : ℕ) (rest : List ℕ) → cut c (c ∷ rest) ≡ Some ([], rest)
here_at c rest = let e : (c == c) ≡ true = grind (arith, nat_tests) in rw e refl

pub cut_front : (c : ℕ) (front rest : List ℕ) → lacks c front ≡ true → cut c (front ++ c ∷ rest) ≡ Some (front, rest)
cut_front c [] rest h = here_at c rest
cut_front c (b ∷ bs) rest h =
    let s = split_lack c b bs h in
    further c b (bs ++ c ∷ rest) (differs b c s.0) ∙ ap (option_map (λ p. (b ∷ p.0, p.1))) (cut_front c bs rest s.1)

pub cut_whole : (c : ℕ) (text : List ℕ) → lacks c text ≡ true → cut c text ≡ None
cut_whole c [] h = refl
cut_whole c (b ∷ bs) h =
    let s = split_lack c b bs h in
    further c b bs (differs b c s.0) ∙ ap (option_map (λ p. (b ∷ p.0, p.1))) (cut_whole c bs s.1)

-- ---- registers

below_is : (n : ℕ) → n < 32 → below_32 (Some n) ≡ Some n
below_is n h = let e : nat_lt n 32 ≡ true = grind (arith, nat_tests) in rw e refl

pub register_read : (n : ℕ) → n < 32 → register_of (register_text n) ≡ Some n
register_read n h = ap below_32 (number_decimal n (omega arith)) ∙ below_is n h

-- ---- numbers

near : (negative : Bool) (n : ℕ) → n ≤ 0x100000 → immediate_of (record { negative = negative; size = n }) ≡ Some (if negative then neg_ℤ (pos n) else pos n)
near negative n h = let e : nat_lt 0x100000 n ≡ false = grind (arith, nat_tests) in rw e refl

-- a number that an instruction with a sign takes
abbrev pub IsNear : ℤ → Type 0
IsNear (pos n) = n ≤ 0x100000
IsNear (negsuc n) = n < 0x100000

pub number_parts : (z : ℤ) → IsNear z → (m : Number) × (literal_of (signed_decimal z) ≡ Some m) × (immediate_of m ≡ Some z)
number_parts (pos n) h = (from_zero n, literal_decimal n (omega arith), near false n h)
number_parts (negsuc n) h = (below_zero (suc n), literal_minus (suc n) (omega arith), near true (suc n) (omega arith))

pub number_read : (z : ℤ) → IsNear z → (literal_of (signed_decimal z) >>= immediate_of) ≡ Some z
number_read (pos n) h = ap (λ o. o >>= immediate_of) (literal_decimal n (omega arith)) ∙ near false n h
number_read (negsuc n) h = ap (λ o. o >>= immediate_of) (literal_minus (suc n) (omega arith)) ∙ near true (suc n) (omega arith)

pub number_lacks : (c : ℕ) (z : ℤ) → is_digit c ≡ false → not (45 == c) ≡ true → IsNear z → lacks c (signed_decimal z) ≡ true
number_lacks c (pos n) h k small = decimal_lacks c n h (omega arith)
number_lacks c (negsuc n) h k small = lacks-cons c 45 (decimal (suc n)) k (decimal_lacks c (suc n) h (omega arith))

no_letter : (d : ℕ) → is_digit d ≡ true → is_letter d ≡ false
no_letter d h = grind (arith, nat_tests)

digits_no_label : (ds : List ℕ) → list_all is_digit ds ≡ true → is_label ds ≡ false
digits_no_label [] h = refl
digits_no_label (d ∷ ds) h = let e : is_letter d ≡ false = no_letter d (first_digit d ds h) in rw e refl

pub no_label : (z : ℤ) → IsNear z → is_label (signed_decimal z) ≡ false
no_label (pos n) h = digits_no_label (decimal n) (decimal_is n (omega arith)).plain
no_label (negsuc n) h = refl

-- ---- a last byte

before_last : (b : ℕ) (xs : List ℕ) → length (xs ++ b ∷ []) - 1 ≡ length xs
before_last b xs = omega (arith, length-append xs (b ∷ []))

last_is : (b : ℕ) (xs : List ℕ) → last_byte (xs ++ b ∷ []) ≡ b
last_is b xs = ap (slice_index (xs ++ b ∷ [])) (before_last b xs) ∙ get_or-append_seam xs b [] 0

front_is : (b : ℕ) (xs : List ℕ) → but_last (xs ++ b ∷ []) ≡ xs
front_is b xs = ap (λ n. take n (xs ++ b ∷ [])) (before_last b xs) ∙ take-append_seam xs (b ∷ [])

ends_at : (b : ℕ) (xs : List ℕ) → ends_in b (xs ++ b ∷ []) ≡ true
ends_at b xs =
    let some : nat_lt 0 (length (xs ++ b ∷ [])) ≡ true = grind (arith, nat_tests, length-append xs (b ∷ [])) in
    let last : (last_byte (xs ++ b ∷ []) == b) ≡ true = grind (arith, nat_tests, last_is b xs) in
    both_true (nat_lt 0 (length (xs ++ b ∷ []))) (last_byte (xs ++ b ∷ []) == b) some last

brackets_by : (text front : List ℕ) → ends_in 41 text ≡ true → but_last text ≡ front → in_brackets text ≡ register_of front
brackets_by text front e f = rw e (ap register_of f)

pub brackets_read : (n : ℕ) → n < 32 → in_brackets (register_text n ++ 41 ∷ []) ≡ Some n
brackets_read n h = brackets_by (register_text n ++ 41 ∷ []) (register_text n) (ends_at 41 (register_text n)) (front_is 41 (register_text n)) ∙ register_read n h

-- a place in memory
placed : (text front back : List ℕ) (m : Number) (z : ℤ) (n : ℕ) → cut 40 text ≡ Some (front, back) → literal_of front ≡ Some m → immediate_of m ≡ Some z → in_brackets back ≡ Some n → place_of text ≡ Some (z, n)
placed text front back m z n e f g h = rw (e, f, g, h) refl

pub place_read : (z : ℤ) (n : ℕ) → IsNear z → n < 32 → place_of (place_text z n) ≡ Some (z, n)
place_read z n near h =
    let p = number_parts z near in
    placed (place_text z n) (signed_decimal z) (register_text n ++ 41 ∷ []) p.0 z n
    (cut_front 40 (signed_decimal z) (register_text n ++ 41 ∷ []) (number_lacks 40 z refl refl near)) p.1 p.2 (brackets_read n h)

-- ---- a line that doesn't end as a label does

lack_at : (c : ℕ) (text : List ℕ) (k : ℕ) → k < length text → lacks c text ≡ true → get_or text k 0 ≢ c
lack_at c [] k i h = absurd (omega arith)
lack_at c (b ∷ bs) zero i h = differs b c (split_lack c b bs h).0
lack_at c (b ∷ bs) (suc k) i h = lack_at c bs k (omega arith) (split_lack c b bs h).1

other_end : (b c : Bool) → c ≡ false → (b && c) ≡ false
other_end true c h = h
other_end false c h = refl

pub last_lacks : (c : ℕ) (text : List ℕ) → 0 < length text → lacks c text ≡ true → ends_in c text ≡ false
last_lacks c text some h =
    let other = lack_at c text (length text - 1) (omega arith) h in
    let e : (last_byte text == c) ≡ false = grind (arith, nat_tests, other) in
    other_end (nat_lt 0 (length text)) (last_byte text == c) e
