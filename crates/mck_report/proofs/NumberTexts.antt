-- Decimal numbers are written and read alike.
use Rattle.mck_word.specs.Numbers.{digits, from_digit, number_of}
use Rattle.std.proofs.Common.{◌≡◌, ◌≢◌, ℕ, zero, suc, ◌+◌, ◌-◌, ◌*◌, ◌/◌, ◌%◌, ◌^◌, ◌<◌, ◌≤◌, ◌==◌, nat_lt, Bool, true, false, List, [], ◌∷◌, ◌++◌, length, get_or, Option, Some, None, refl, sym, ◌∙◌, ap, subst, arith, append_assoc, cond}
use Rattle.std.proofs.lemmas.Bool.Decides.{nat_tests}
use Rattle.std.proofs.lemmas.Fmt.{decimal_by_steps, decimal_digit, decimal_nonempty, decimal_step, first_decimal}
use Rattle.std.proofs.lemmas.List.{append-nil}
use Rattle.std.specs.Fmt.{decimal}

-- ---- what is written reads as the number

-- one more digit
digits-cons : (n d : ℕ) (ds : List ℕ) → 48 ≤ d → d ≤ 57 → n * 10 + (d - 48) < 2 ^ 64 → digits n (d ∷ ds) ≡ digits (n * 10 + (d - 48)) ds
digits-cons n d ds low high fits =
    let a : nat_lt d 48 ≡ false = grind (arith, nat_tests) in
    let b : nat_lt 57 d ≡ false = grind (arith, nat_tests) in
    let c : nat_lt (n * 10 + (d - 48)) (2 ^ 64) ≡ true = grind (arith, nat_tests) in
    rw (a, b, c) refl

-- the digits behind others
and_digits : Option ℕ → List ℕ → Option ℕ
and_digits None ds = None
and_digits (Some n) ds = digits n ds

past_none : (b : Bool) (r : Option ℕ) (ds : List ℕ) → and_digits (cond b None r) ds ≡ cond b None (and_digits r ds)
unfolding and_digits
past_none true r ds = refl
past_none false r ds = refl

past_some : (b : Bool) (r : Option ℕ) (ds : List ℕ) → and_digits (cond b r None) ds ≡ cond b (and_digits r ds) None
unfolding and_digits
past_some true r ds = refl
past_some false r ds = refl

digits-append : (n : ℕ) (xs ys : List ℕ) → digits n (xs ++ ys) ≡ and_digits (digits n xs) ys
unfolding and_digits
digits-append n [] ys = refl
digits-append n (x ∷ xs) ys =
    let m = n * 10 + (x - 48) in
    let a = nat_lt x 48 in let b = nat_lt 57 x in let c = nat_lt m (2 ^ 64) in
    sym (past_none a (cond b None (cond c (digits m xs) None)) ys
    ∙ ap (λ r. cond a None r) (past_none b (cond c (digits m xs) None) ys ∙ ap (λ r. cond b None r) (past_some c (digits m xs) ys ∙ ap (λ r. cond c r None) (sym (digits-append m xs ys)))))

abbrev Reads : ℕ → List ℕ → Type 0
Reads n ds = n < 2 ^ 64 → digits 0 ds ≡ Some n

reads_one : (n : ℕ) → n < 10 → Reads n ((48 + n) ∷ [])
reads_one n small fits =
    let e : 0 * 10 + (48 + n - 48) ≡ n = omega arith in
    digits-cons 0 (48 + n) [] (omega arith) (omega arith) (omega arith) ∙ ap (λ m. Some m) e

reads_more : (n : ℕ) (ds : List ℕ) → 10 ≤ n → Reads (n / 10) ds → Reads n (ds ++ (48 + n % 10) ∷ [])
unfolding and_digits
reads_more n ds big front fits =
    let e : n / 10 * 10 + (48 + n % 10 - 48) ≡ n = omega arith in
    digits-append 0 ds ((48 + n % 10) ∷ []) ∙ (ap (λ r. and_digits r ((48 + n % 10) ∷ [])) (front (omega arith))
    ∙ (digits-cons (n / 10) (48 + n % 10) [] (omega arith) (omega arith) (omega arith) ∙ ap (λ m. Some m) e))

no_zero_first : (ds : List ℕ) (n : ℕ) → 48 < get_or ds 0 0 → digits 0 ds ≡ Some n → number_of ds ≡ Some n
no_zero_first [] n h e = absurd (omega arith)
no_zero_first (d ∷ []) n h e = e
no_zero_first (d ∷ f ∷ ds) n h e =
    let other : (d == 48) ≡ false = grind (arith, nat_tests) in
    rw other e

pub number_of-decimal : (n : ℕ) → n < 2 ^ 64 → number_of (decimal n) ≡ Some n
number_of-decimal zero fits = subst (λ ds. number_of ds ≡ Some 0) (sym (decimal_digit 0 (omega arith))) refl
number_of-decimal (suc n) fits = no_zero_first (decimal (suc n)) (suc n) (first_decimal (suc n) (omega arith) fits) (decimal_by_steps Reads reads_one reads_more (suc n) fits fits)

-- ---- what reads as a number is how it is written

record Digit (n d : ℕ) (ds : List ℕ) (m : ℕ) : Type 0 where
  low : 48 ≤ d
  high : d ≤ 57
  fits : n * 10 + (d - 48) < 2 ^ 64
  rest : digits (n * 10 + (d - 48)) ds ≡ Some m

tests : (a b c : Bool) (r : Option ℕ) (m : ℕ) → cond a None (cond b None (cond c r None)) ≡ Some m → (a ≡ false) × (b ≡ false) × (c ≡ true) × (r ≡ Some m)
tests true b c r m e = cc
tests false true c r m e = cc
tests false false true r m e = (refl, refl, refl, e)
tests false false false r m e = cc

digit : (n d : ℕ) (ds : List ℕ) (m : ℕ) → digits n (d ∷ ds) ≡ Some m → Digit n d ds m
digit n d ds m e =
    let t = tests (nat_lt d 48) (nat_lt 57 d) (nat_lt (n * 10 + (d - 48)) (2 ^ 64)) (digits (n * 10 + (d - 48)) ds) m e in
    let a : nat_lt d 48 ≡ false = t.0 in let b : nat_lt 57 d ≡ false = t.1 in let c : nat_lt (n * 10 + (d - 48)) (2 ^ 64) ≡ true = t.2 in
    record { low = grind (arith, nat_tests); high = grind (arith, nat_tests); fits = grind (arith, nat_tests); rest = t.3 }

pub record Written (bytes : List ℕ) (n : ℕ) : Type 0 where
  pub text : bytes ≡ decimal n
  pub fits : n < 2 ^ 64

-- the digits behind a number that is not 0
written_on : (n : ℕ) (ds : List ℕ) (m : ℕ) → 0 < n → n < 2 ^ 64 → digits n ds ≡ Some m → (decimal n ++ ds ≡ decimal m) × (m < 2 ^ 64)
written_on n [] m some fits e =
    let same : n ≡ m = cc in
    subst (λ k. (decimal n ++ [] ≡ decimal k) × (k < 2 ^ 64)) same (append-nil (decimal n), fits)
written_on n (d ∷ ds) m some fits e =
    let x = digit n d ds m e in
    let next = n * 10 + (d - 48) in
    let last : 48 + next % 10 ≡ d = omega (arith, x.low, x.high) in
    let front : next / 10 ≡ n = omega (arith, x.low, x.high) in
    let whole : decimal next ≡ decimal n ++ d ∷ [] = decimal_step next (omega arith) x.fits ∙ (ap (λ k. decimal k ++ (48 + next % 10) ∷ []) front ∙ ap (λ k. decimal n ++ k ∷ []) last) in
    let more = written_on next ds m (omega arith) x.fits x.rest in
    (sym (append_assoc (decimal n) (d ∷ []) ds) ∙ (ap (λ xs. xs ++ ds) (sym whole) ∙ more.0), more.1)

first_digit : (d : ℕ) (ds : List ℕ) (m : ℕ) → (ds ≡ [] → ⊥) → (d ≡ 48 → ⊥) → digits 0 (d ∷ ds) ≡ Some m → Written (d ∷ ds) m
first_digit d ds m some other e =
    let x = digit 0 d ds m e in
    let first : decimal (0 * 10 + (d - 48)) ≡ d ∷ [] = ap decimal (omega arith) ∙ (decimal_digit (d - 48) (omega (arith, x.high)) ∙ ap (λ k. k ∷ []) (omega (arith, x.low))) in
    let more = written_on (0 * 10 + (d - 48)) ds m (omega (arith, x.low, other)) x.fits x.rest in
    record { text = ap (λ xs. xs ++ ds) (sym first) ∙ more.0; fits = more.1 }

not_zero : (b : Bool) (r : Option ℕ) (m : ℕ) → cond b None r ≡ Some m → (b ≡ false) × (r ≡ Some m)
not_zero true r m e = cc
not_zero false r m e = (refl, e)

pub written : (bytes : List ℕ) (m : ℕ) → number_of bytes ≡ Some m → Written bytes m
written [] m e = cc
written (d ∷ []) m e =
    let x = digit 0 d [] m e in
    let same : 0 * 10 + (d - 48) ≡ m = (let h : Some (0 * 10 + (d - 48)) ≡ Some m = x.rest in cc) in
    let text : decimal m ≡ d ∷ [] = decimal_digit m (omega (arith, x.high, same)) ∙ ap (λ k. k ∷ []) (omega (arith, x.low, same)) in
    record { text = sym text; fits = subst (λ k. k < 2 ^ 64) same x.fits }
written (d ∷ f ∷ ds) m e =
    let t = not_zero (d == 48) (digits 0 (d ∷ f ∷ ds)) m e in
    let zero_test : (d == 48) ≡ false = t.0 in
    first_digit d (f ∷ ds) m (λ h. cc) (λ h. grind (arith, nat_tests)) t.1
