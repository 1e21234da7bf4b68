-- Decimal numbers read as they were written.
use Rattle.std.proofs.Common.{◌≡◌, ◌≢◌, ℕ, zero, suc, ◌+◌, ◌-◌, ◌*◌, ◌/◌, ◌%◌, ◌^◌, ◌<◌, ◌≤◌, ◌==◌, ◌&&◌, nat_lt, nat_eq, List, [], ◌∷◌, ◌++◌, length, codes, decimal, get_or, Option, Some, None, option_map, Bool, true, false, refl, sym, ◌∙◌, ap, arith, length-append, if◌then◌else◌}
use Rattle.std.specs.List.{list_all, starts_with}
use Rattle.std.proofs.lemmas.Bool.Decides.{nat_tests}
use Rattle.std.proofs.lemmas.Fmt.{decimal_by_steps}
use Rattle.std.proofs.lemmas.List.Folds.{list_all-append}
use Rattle.mck_word.specs.Numbers.{digits, number_of}
use Rattle.guest_asm.specs.Lines.{is_digit}
use Rattle.guest_asm.specs.Numbers.{literal_of, from_zero, below_zero}

unpacked : (b c e : Bool) (x : Option ℕ) (m : ℕ) → (if b then None else (if c then None else (if e then x else None))) ≡ Some m → (b ≡ false) × (c ≡ false) × (e ≡ true) × (x ≡ Some m)
unpacked true c e x m h = cc
unpacked false true e x m h = cc
unpacked false false true x m h = (refl, refl, refl, h)
unpacked false false false x m h = cc

digit_taken : (a d : ℕ) (rest : List ℕ) → 48 ≤ d → d ≤ 57 → a * 10 + (d - 48) < 2 ^ 64 → digits a (d ∷ rest) ≡ digits (a * 10 + (d - 48)) rest
digit_taken a d rest low high fits =
    let l : nat_lt d 48 ≡ false = grind (arith, nat_tests) in
    let h : nat_lt 57 d ≡ false = grind (arith, nat_tests) in
    let f : nat_lt (a * 10 + (d - 48)) (2 ^ 64) ≡ true = grind (arith, nat_tests) in
    rw (l, h, f) refl

record Taken (a d : ℕ) (rest : List ℕ) (m : ℕ) : Type 0 where
  low : 48 ≤ d
  high : d ≤ 57
  fits : a * 10 + (d - 48) < 2 ^ 64
  rest-is : digits (a * 10 + (d - 48)) rest ≡ Some m

digit_was : (a d : ℕ) (rest : List ℕ) (m : ℕ) → digits a (d ∷ rest) ≡ Some m → Taken a d rest m
digit_was a d rest m h =
    let u = unpacked (nat_lt d 48) (nat_lt 57 d) (nat_lt (a * 10 + (d - 48)) (2 ^ 64)) (digits (a * 10 + (d - 48)) rest) m h in
    record { low = grind (arith, nat_tests, u.0); high = grind (arith, nat_tests, u.1); fits = grind (arith, nat_tests, u.2); rest-is = u.3 }

same_some : (a m : ℕ) → (let o : Option ℕ = Some a in o) ≡ Some m → a ≡ m
same_some a m h = cc

digits_push : (a : ℕ) (ds : List ℕ) (d m : ℕ) → digits a ds ≡ Some m → 48 ≤ d → d ≤ 57 → m * 10 + (d - 48) < 2 ^ 64 → digits a (ds ++ d ∷ []) ≡ Some (m * 10 + (d - 48))
digits_push a [] d m h low high fits =
    let e : a ≡ m = same_some a m h in
    digit_taken a d [] low high (omega arith) ∙ ap (λ x. Some (x * 10 + (d - 48))) e
digits_push a (x ∷ xs) d m h low high fits =
    let t = digit_was a x xs m h in
    digit_taken a x (xs ++ d ∷ []) t.low t.high t.fits ∙ digits_push (a * 10 + (x - 48)) xs d m t.rest-is low high fits

pub record IsDecimal (n : ℕ) (ds : List ℕ) : Type 0 where
  pub value : digits 0 ds ≡ Some n
  pub some : 0 < length ds
  pub one : n < 10 → length ds ≡ 1
  pub lead : 0 < n → get_or ds 0 0 ≢ 48
  pub plain : list_all is_digit ds ≡ true

a_digit : (d : ℕ) → 48 ≤ d → d ≤ 57 → is_digit d ≡ true
a_digit d low high = grind (arith, nat_tests)

one_digit : (n : ℕ) → n < 10 → n < 2 ^ 64 → IsDecimal n ((48 + n) ∷ [])
one_digit n h small =
    let e : 0 * 10 + (48 + n - 48) ≡ n = omega arith in
    record {
      value = digit_taken 0 (48 + n) [] (omega arith) (omega arith) (omega arith) ∙ ap (λ x. Some x) e;
      some = omega arith;
      one = λ i. refl;
      lead = λ i k. omega arith;
      plain = ap (λ b. b && true) (a_digit (48 + n) (omega arith) (omega arith));
    }

front_same : (ds : List ℕ) (d : ℕ) → 0 < length ds → get_or (ds ++ d ∷ []) 0 0 ≡ get_or ds 0 0
front_same [] d h = absurd (omega arith)
front_same (x ∷ xs) d h = refl

pub both_true : (b c : Bool) → b ≡ true → c ≡ true → (b && c) ≡ true
both_true true c h k = k
both_true false c h k = cc

more_digits : (n : ℕ) (ds : List ℕ) → 10 ≤ n → (n / 10 < 2 ^ 64 → IsDecimal (n / 10) ds) → n < 2 ^ 64 → IsDecimal n (ds ++ (48 + n % 10) ∷ [])
more_digits n ds h front small =
    let f = front (omega arith) in
    let e : n / 10 * 10 + (48 + n % 10 - 48) ≡ n = omega arith in
    record {
      value = digits_push 0 ds (48 + n % 10) (n / 10) f.value (omega arith) (omega arith) (omega arith) ∙ ap (λ x. Some x) e;
      some = omega (arith, length-append ds ((48 + n % 10) ∷ []));
      one = λ i. absurd (omega arith);
      lead = λ i k. f.lead (omega arith) (sym (front_same ds (48 + n % 10) f.some) ∙ k);
      plain = list_all-append is_digit ds ((48 + n % 10) ∷ []) ∙ both_true (list_all is_digit ds) (list_all is_digit ((48 + n % 10) ∷ [])) f.plain (ap (λ b. b && true) (a_digit (48 + n % 10) (omega arith) (omega arith)));
    }

pub decimal_is : (n : ℕ) → n < 2 ^ 64 → IsDecimal n (decimal n)
decimal_is n small = decimal_by_steps (λ m ds. m < 2 ^ 64 → IsDecimal m ds) one_digit more_digits n small small

no_zero : (d : ℕ) (x : Option ℕ) → d ≢ 48 → (if d == 48 then None else x) ≡ x
no_zero d x h = let e : (d == 48) ≡ false = grind (arith, nat_tests) in rw e refl

above_zero : (n : ℕ) → (n < 10 → ⊥) → 0 < n
above_zero zero never = absurd (never (omega arith))
above_zero (suc n) never = omega arith

number_from : (n : ℕ) (ds : List ℕ) → IsDecimal n ds → number_of ds ≡ Some n
number_from n [] h = let s = h.some in absurd (omega arith)
number_from n (d ∷ []) h = h.value
number_from n (d ∷ e ∷ es) h =
    let two : 0 < n = above_zero n (λ i. let l = h.one i in absurd (omega arith)) in
    no_zero d (digits 0 (d ∷ e ∷ es)) (h.lead two) ∙ h.value

pub number_decimal : (n : ℕ) → n < 2 ^ 64 → number_of (decimal n) ≡ Some n
number_decimal n small = number_from n (decimal n) (decimal_is n small)

-- ---- with a sign

and_false : (b : Bool) → (b && false) ≡ false
and_false true = refl
and_false false = refl

pub first_digit : (d : ℕ) (ds : List ℕ) → list_all is_digit (d ∷ ds) ≡ true → is_digit d ≡ true
first_digit d ds h = split (is_digit d) (list_all is_digit ds) h where
  split : (b c : Bool) → (b && c) ≡ true → b ≡ true
  split true c h = refl
  split false c h = cc

pub later_digits : (d : ℕ) (ds : List ℕ) → list_all is_digit (d ∷ ds) ≡ true → list_all is_digit ds ≡ true
later_digits d ds h = split (is_digit d) (list_all is_digit ds) h where
  split : (b c : Bool) → (b && c) ≡ true → c ≡ true
  split true c h = h
  split false c h = cc

not_x : (e : ℕ) → is_digit e ≡ true → nat_eq 120 e ≡ false
not_x e h = grind (arith, nat_tests)

not_hex : (ds : List ℕ) → list_all is_digit ds ≡ true → starts_with nat_eq ds (codes "0x") ≡ false
not_hex [] h = refl
not_hex (d ∷ []) h = and_false (nat_eq 48 d)
not_hex (d ∷ e ∷ es) h =
    let x : nat_eq 120 e ≡ false = not_x e (first_digit e es (later_digits d (e ∷ es) h)) in
    rw x (and_false (nat_eq 48 d))

not_minus : (d : ℕ) → is_digit d ≡ true → (d == 45) ≡ false
not_minus d h = grind (arith, nat_tests)

literal_from : (n : ℕ) (ds : List ℕ) → IsDecimal n ds → literal_of ds ≡ Some (from_zero n)
literal_from n [] h = let s = h.some in absurd (omega arith)
literal_from n (d ∷ ds) h =
    let m : (d == 45) ≡ false = not_minus d (first_digit d ds h.plain) in
    let x : starts_with nat_eq (d ∷ ds) (codes "0x") ≡ false = not_hex (d ∷ ds) h.plain in
    let v : number_of (d ∷ ds) ≡ Some n = number_from n (d ∷ ds) h in
    rw (m, x, v) refl

pub literal_decimal : (n : ℕ) → n < 2 ^ 64 → literal_of (decimal n) ≡ Some (from_zero n)
literal_decimal n small = literal_from n (decimal n) (decimal_is n small)

pub literal_minus : (n : ℕ) → n < 2 ^ 64 → literal_of (45 ∷ decimal n) ≡ Some (below_zero n)
literal_minus n small = ap (option_map below_zero) (number_decimal n small)
