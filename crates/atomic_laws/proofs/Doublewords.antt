-- What is stored at one place of memory and read at another.
use Rattle.atomic_laws.specs.Additions.{IsDoubleword, doubleword, lies_in, meets}
use Rattle.hybrid_laws.proofs.node.Primitives.{at-change}
use Rattle.isa_model.specs.Memory.{Memory, Page, byte_at, byte_in, number_at, page_with, put_byte, put_number}
use Rattle.mck_word.specs.Maps.{at}
use Rattle.std.proofs.Common.{ap, arith, refl, ◌∙◌}
use Rattle.std.proofs.lemmas.Bool.Decides.{nat_tests}
use Rattle.std.proofs.lemmas.List.{get_or-set_other, get_or-set_same, length-set}
use Rattle.std.proofs.lemmas.Nat.{mod-pow-add}
use Rattle.std.specs.Prelude.{ℕ, zero, suc, ◌+◌, ◌*◌, ◌-◌, ◌/◌, ◌%◌, ◌^◌, ◌<◌, ◌≤◌, ◌==◌, ◌≡◌, ◌≢◌, Bool, true, false, cond, ◌||◌, Option, Some, None, option_map, length}

-- ---- one byte
byte-same : (m : Memory) (x b : ℕ) (page : Page) → at m (x / 4096) ≡ Some page → length page.bytes ≡ 4096 → byte_at (put_byte m x b) x ≡ b
byte-same m x b page there full =
    let k : (x / 4096 == x / 4096) ≡ true = grind (arith, nat_tests) in
    let l : x % 4096 < length page.bytes = omega (arith, full) in
    ap (λ o. byte_in o (x % 4096)) (at-change m (x / 4096) (page_with x b) (x / 4096) ∙ ap (λ c. cond c (option_map (page_with x b) (at m (x / 4096))) (at m (x / 4096))) k ∙ ap (option_map (page_with x b)) there)
    ∙ get_or-set_same page.bytes (x % 4096) b 0 l

byte-other : (m : Memory) (x y b : ℕ) → y ≢ x → byte_at (put_byte m x b) y ≡ byte_at m y
byte-other m x y b apart = ap (λ o. byte_in o (y % 4096)) (at-change m (x / 4096) (page_with x b) (y / 4096)) ∙ go (y / 4096 == x / 4096) refl
  where
    changed : (o : Option Page) → y % 4096 ≢ x % 4096 → byte_in (option_map (page_with x b) o) (y % 4096) ≡ byte_in o (y % 4096)
    changed None off = refl
    changed (Some page) off = get_or-set_other page.bytes (x % 4096) (y % 4096) b 0 off

    go : (c : Bool) → (y / 4096 == x / 4096) ≡ c → byte_in (cond c (option_map (page_with x b) (at m (x / 4096))) (at m (y / 4096))) (y % 4096) ≡ byte_in (at m (y / 4096)) (y % 4096)
    go false e = refl
    go true e =
        let same : y / 4096 ≡ x / 4096 = grind (arith, nat_tests, e) in
        let off : y % 4096 ≢ x % 4096 = λ f. apart (omega (arith, same, f)) in
        changed (at m (x / 4096)) off ∙ ap (λ p. byte_in (at m p) (y % 4096)) (omega (arith, same))

-- ---- several bytes
-- y is none of the n bytes from x on
abbrev Apart : ℕ → ℕ → ℕ → Type 0
Apart x n y = (i : ℕ) → i < n → y ≢ (x + i) % 2 ^ 64

put-other : (n : ℕ) (m : Memory) (x v y : ℕ) → x < 2 ^ 64 → Apart x n y → byte_at (put_number m x n v) y ≡ byte_at m y
unfolding put_number
put-other zero m x v y below apart = refl
put-other (suc n) m x v y below apart =
    put-other n (put_byte m x (v % 256)) ((x + 1) % 2 ^ 64) (v / 256) y (omega arith) (λ i l e. apart (suc i) (omega (arith, l)) (omega (arith, e)))
    ∙ byte-other m x y (v % 256) (λ e. apart 0 (omega arith) (omega (arith, e, below)))

number-same : (n : ℕ) (m k : Memory) (a : ℕ) → a + n ≤ 2 ^ 64 → ((j : ℕ) → j < n → byte_at k (a + j) ≡ byte_at m (a + j)) → number_at k a n ≡ number_at m a n
unfolding number_at
number-same zero m k a below same = refl
number-same (suc zero) m k a below same = ap (λ b. b + 256 * 0) (ap (byte_at k) (omega arith) ∙ same 0 (omega arith) ∙ ap (byte_at m) (omega arith))
number-same (suc (suc n)) m k a below same =
    let next : (a + 1) % 2 ^ 64 ≡ a + 1 = omega (arith, below) in
    let first : byte_at k a ≡ byte_at m a = ap (byte_at k) (omega arith) ∙ same 0 (omega arith) ∙ ap (byte_at m) (omega arith) in
    let rest : number_at k (a + 1) (suc n) ≡ number_at m (a + 1) (suc n)
    = number-same (suc n) m k (a + 1) (omega (arith, below)) (λ j l. ap (byte_at k) (omega arith) ∙ same (suc j) (omega (arith, l)) ∙ ap (byte_at m) (omega arith)) in
    let all : number_at k ((a + 1) % 2 ^ 64) (suc n) ≡ number_at m ((a + 1) % 2 ^ 64) (suc n) = ap (λ x. number_at k x (suc n)) next ∙ rest ∙ ap (λ x. number_at m x (suc n)) (omega (arith, next)) in
    λ i. first i + 256 * all i

-- ---- a doubleword
apart-of : (a x n i j : ℕ) → a % 8 ≡ 0 → a < 2 ^ 64 → x < 2 ^ 64 → n ≤ 8 → i < n → j < 8 → a + j ≡ (x + i) % 2 ^ 64 → x / 8 ≢ a / 8 → (x + n - 1) % 2 ^ 64 / 8 ≡ a / 8
apart-of a x n i j whole below start size first second same other = omega (arith, whole, below, start, size, first, second, same, other)

-- bytes that do not meet the doubleword leave it
pub number-other : (m : Memory) (a x n v : ℕ) → IsDoubleword a → x < 2 ^ 64 → n ≤ 8 → meets a x n ≡ false → doubleword (put_number m x n v) a ≡ doubleword m a
number-other m a x n v is start size free = number-same 8 m (put_number m x n v) a (let whole = is.0 in let below = is.1 in omega (arith, whole, below)) (λ j l. put-other n m x v (a + j) start (apart j l))
  where
    ends : (b c : Bool) → (b || c) ≡ false → (b ≡ false) × (c ≡ false)
    ends false false e = (refl, refl)
    ends false true e = absurd (grind (arith, e))
    ends true c e = absurd (grind (arith, e))

    apart : (j : ℕ) → j < 8 → Apart x n (a + j)
    apart j l i k e =
        let b = ends (lies_in a x) (lies_in a ((x + n - 1) % 2 ^ 64)) free in
        let c = b.0 in let d = b.1 in
        let f : x / 8 ≢ a / 8 = grind (arith, nat_tests, c) in
        let g : (x + n - 1) % 2 ^ 64 / 8 ≢ a / 8 = grind (arith, nat_tests, d) in
        g (apart-of a x n i j is.0 is.1 start size k l e f)

-- ---- what is stored is read
power : (n v : ℕ) → v % 2 ^ (8 * suc n) ≡ v / 256 % 2 ^ (8 * n) * 256 + v % 256
power n v = ap (λ e. v % 2 ^ e) (omega arith) ∙ mod-pow-add v (8 * n) 8

joined : (b r p q t : ℕ) → b ≡ q → r ≡ p → t ≡ p * 256 + q → b + 256 * r ≡ t
joined b r p q t e f g = omega (arith, e, f, g)

module _ (m : Memory) (x b : ℕ) (page : Page) (there : at m (x / 4096) ≡ Some page) (full : length page.bytes ≡ 4096) where
  changed-there : at (put_byte m x b) (x / 4096) ≡ Some (page_with x b page)
  changed-there =
      let k : (x / 4096 == x / 4096) ≡ true = grind (arith, nat_tests) in
      at-change m (x / 4096) (page_with x b) (x / 4096) ∙ ap (λ c. cond c (option_map (page_with x b) (at m (x / 4096))) (at m (x / 4096))) k ∙ ap (option_map (page_with x b)) there

  changed-full : length (page_with x b page).bytes ≡ 4096
  changed-full = length-set page.bytes (x % 4096) b ∙ full

number-put : (n : ℕ) (m : Memory) (x v : ℕ) (page : Page) → x % 4096 + n ≤ 4096 → x + n ≤ 2 ^ 64 → at m (x / 4096) ≡ Some page → length page.bytes ≡ 4096 → number_at (put_number m x n v) x n ≡ v % 2 ^ (8 * n)
unfolding number_at put_number
number-put zero m x v page fits below there full = omega arith
number-put (suc zero) m x v page fits below there full = joined (byte_at (put_byte m x (v % 256)) x) 0 (v / 256 % 2 ^ (8 * 0)) (v % 256) (v % 2 ^ (8 * suc zero)) (byte-same m x (v % 256) page there full) (omega arith) (power zero v)
number-put (suc (suc n)) m x v page fits below there full =
    let next : (x + 1) % 2 ^ 64 ≡ x + 1 = omega (arith, below) in
    let one = put_byte m x (v % 256) in
    let off : Apart ((x + 1) % 2 ^ 64) (suc n) x = λ i l e. omega (arith, below, next, l, e) in
    let first : byte_at (put_number one ((x + 1) % 2 ^ 64) (suc n) (v / 256)) x ≡ v % 256 = put-other (suc n) one ((x + 1) % 2 ^ 64) (v / 256) x (omega arith) off ∙ byte-same m x (v % 256) page there full in
    let here : (x + 1) / 4096 ≡ x / 4096 = omega (arith, fits) in
    let rest : number_at (put_number one (x + 1) (suc n) (v / 256)) (x + 1) (suc n) ≡ v / 256 % 2 ^ (8 * suc n)
    = number-put (suc n) one (x + 1) (v / 256) (page_with x (v % 256) page) (omega (arith, fits)) (omega (arith, below)) (ap (at one) here ∙ changed-there m x (v % 256) page there full) (changed-full m x (v % 256) page there full) in
    let all : number_at (put_number one ((x + 1) % 2 ^ 64) (suc n) (v / 256)) ((x + 1) % 2 ^ 64) (suc n) ≡ v / 256 % 2 ^ (8 * suc n) = ap (λ y. number_at (put_number one y (suc n) (v / 256)) y (suc n)) next ∙ rest in
    joined (byte_at (put_number one ((x + 1) % 2 ^ 64) (suc n) (v / 256)) x) (number_at (put_number one ((x + 1) % 2 ^ 64) (suc n) (v / 256)) ((x + 1) % 2 ^ 64) (suc n)) (v / 256 % 2 ^ (8 * suc n)) (v % 256) (v % 2 ^ (8 * suc (suc n)))
    first all (power (suc n) v)

pub number-own : (m : Memory) (a v : ℕ) (page : Page) → IsDoubleword a → at m (a / 4096) ≡ Some page → length page.bytes ≡ 4096 → doubleword (put_number m a 8 v) a ≡ v % 2 ^ 64
number-own m a v page is there full = let whole = is.0 in let below = is.1 in number-put 8 m a v page (omega (arith, whole)) (omega (arith, whole, below)) there full
