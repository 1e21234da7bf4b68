-- What passed the checks of a line.
use Rattle.std.proofs.Common.{◌≡◌, ℕ, ◌-◌, ◌<◌, ◌≤◌, ◌||◌, ◌&&◌, nat_le, nat_lt, List, Bool, true, false, All, length, Option, Some, None, Result, Ok, Err, refl, arith, if◌then◌else◌}
use Rattle.std.proofs.lemmas.Bool.Decides.{nat_tests}
use Rattle.job_text.specs.declared.fault.Why.{Why}
use Rattle.job_text.specs.Checks.{◌>>=◌, refuse_if, in_range}
use Rattle.job_text.specs.Kept.{IsWord, IsWithin}
use Rattle.job_text.specs.TextLines.{IsLine}
use Rattle.job_text.specs.Words.{has_empty, miscounts}
use Rattle.job_text.proofs.WordLists.{neither, words_kept}

-- ---- steps that went on

pub bound : {A B E : Type 0} (r : Result A E) (f : A → Result B E) (y : B) → (r >>= f) ≡ Ok y → (x : A) × (r ≡ Ok x) × (f x ≡ Ok y)
bound (Ok x) f y h = (x, refl, h)
bound (Err e) f y h = cc

pub unrefused : {A : Type 0} (b : Bool) (why : Why) (rest : Result A Why) (y : A) → refuse_if b why rest ≡ Ok y → (b ≡ false) × (rest ≡ Ok y)
unrefused true why rest y h = cc
unrefused false why rest y h = (refl, h)

pub chosen : (b : Bool) (why : Why) (n m : ℕ) → (let r : Result ℕ Why = if b then Ok n else Err why in r) ≡ Ok m → (b ≡ true) × (n ≡ m)
chosen true why n m h = (refl, cc)
chosen false why n m h = cc

pub same : {A E : Type 0} (x y : A) → (let r : Result A E = Ok x in r) ≡ Ok y → x ≡ y
same x y h = cc

both : (b c : Bool) → (b && c) ≡ true → (b ≡ true) × (c ≡ true)
both true c h = (refl, h)
both false c h = cc

pub within : (least most n m : ℕ) → (nat_le least n && nat_le n most) ≡ true → n ≡ m → IsWithin least most m
within least most n m h e =
    let t = both (nat_le least n) (nat_le n most) h in
    let low : least ≤ n = grind (arith, nat_tests, t.0) in
    let high : n ≤ most = grind (arith, nat_tests, t.1) in
    (omega arith, omega arith)

pub range_kept : (least most : ℕ) (o : Option ℕ) (n : ℕ) → in_range least most o ≡ Ok n → IsWithin least most n
range_kept least most None n h = cc
range_kept least most (Some m) n h = let t = chosen (nat_le least m && nat_le m most) _ m n h in within least most m n t.0 t.1

-- ---- the words behind a key

counted : (least most : ℕ) (words : List (List ℕ)) → miscounts least most words ≡ false → (least < length words) × (length words - 1 ≤ most) × (has_empty words ≡ false)
counted least most words h =
    let a = neither (nat_le (length words) least) (nat_lt most (length words - 1) || has_empty words) h in
    let b = neither (nat_lt most (length words - 1)) (has_empty words) a.1 in
    let low : least < length words = grind (arith, nat_tests, a.0) in
    let high : length words - 1 ≤ most = grind (arith, nat_tests, b.0) in
    (low, high, b.1)

-- the words of a line that passed Count
pub record Counted (least most : ℕ) (words : List (List ℕ)) : Type 0 where
  pub low : least < length words
  pub high : length words - 1 ≤ most
  pub kept : All IsWord words

pub counted_words : (least most : ℕ) (words : List (List ℕ)) → IsLine words → miscounts least most words ≡ false → Counted least most words
counted_words least most words line h =
    let t = counted least most words h in record { low = t.0; high = t.1; kept = words_kept words t.2 line.visible }
