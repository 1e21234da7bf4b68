-- The least number that is not in a list is not in it.
use Rattle.std.specs.FinMap as finmap
use Rattle.file_model.specs.Files.{lowest_free}
use Rattle.hybrid_laws.proofs.maps.Tests.{not-true}
use Rattle.hybrid_model.specs.Tallies.{if_same, tally}
use Rattle.mck_word.specs.Lists.{count_from, lowest_not_in, member}
use Rattle.mck_word.specs.Maps.{Map, at}
use Rattle.std.proofs.Common.{arith, refl, subst, ap, ◌∙◌}
use Rattle.std.proofs.lemmas.Bool.Decides.{nat_tests}
use Rattle.std.specs.Cmp.{unsigned_tied}
use Rattle.std.specs.FinMap.{contains_key-keys}
use Rattle.std.specs.List.{list_any}
use Rattle.std.specs.Ordering.{eq_by_cmp, nat_cmp}
use Rattle.std.specs.Prelude.{Bool, List, None, Option, Some, [], cond, false, find, length, nat_lt, not, suc, true, unwrap_or, zero, ℕ, ◌+◌, ◌<◌, ◌==◌, ◌||◌, ◌∷◌, ◌≡◌, ◌≤◌, is_some}

-- how many are below k
abbrev how_many : ℕ → List ℕ → ℕ
how_many k ns = tally (λ m. cond (nat_lt m k) 1 0) ns

abbrev times : ℕ → List ℕ → ℕ
times k ns = tally (λ m. if_same m k) ns

one-more : (k : ℕ) (ns : List ℕ) → how_many (suc k) ns ≡ how_many k ns + times k ns
one-more k [] = refl
one-more k (m ∷ ns) = grind (arith, nat_tests, one-more k ns)

there : (k : ℕ) (ns : List ℕ) → member k ns ≡ true → 1 ≤ times k ns
there k [] e = absurd (grind (arith, e))
there k (m ∷ ns) e = go (m == k) refl e (there k ns)
  where
    go : (b : Bool) → (m == k) ≡ b → (b || member k ns) ≡ true → (member k ns ≡ true → 1 ≤ times k ns) → 1 ≤ times k (m ∷ ns)
    go true f e r = grind (arith, nat_tests, f)
    go false f e r = let z = r e in grind (arith, nat_tests, f, z)

filled : (k : ℕ) (ns : List ℕ) → ((n : ℕ) → n < k → member n ns ≡ true) → k ≤ how_many k ns
filled zero ns h = omega arith
filled (suc k) ns h = omega (arith, filled k ns (λ n l. h n (omega (arith, l))), one-more k ns, there k ns (h k (omega arith)))

room : (k : ℕ) (ns : List ℕ) → how_many k ns + times k ns ≤ length ns
room k [] = omega arith
room k (m ∷ ns) = grind (arith, nat_tests, room k ns)

passes : (test : ℕ → Bool) (xs : List ℕ) (n : ℕ) → find test xs ≡ Some n → test n ≡ true
passes test [] n e = absurd (grind (arith, e))
passes test (x ∷ xs) n e = go (test x) refl e (passes test xs n)
  where
    go : (b : Bool) → test x ≡ b → cond b (Some x) (find test xs) ≡ Some n → (find test xs ≡ Some n → test n ≡ true) → test n ≡ true
    go true f e r = let y : x ≡ n = cc in subst (λ (z : ℕ). test z ≡ true) y f
    go false f e r = r e

fails-each : (test : ℕ → Bool) (a k : ℕ) → find test (count_from a k) ≡ None → (n : ℕ) → a ≤ n → n < a + k → test n ≡ false
fails-each test a zero e n l m = absurd (omega (arith, l, m))
fails-each test a (suc k) e n l m = go (test a) refl e (λ r. fails-each test (a + 1) k r n)
  where
    go : (b : Bool) → test a ≡ b → cond b (Some a) (find test (count_from (a + 1) k)) ≡ None → (find test (count_from (a + 1) k) ≡ None → a + 1 ≤ n → n < a + 1 + k → test n ≡ false) → test n ≡ false
    go true f e r = absurd (grind (arith, e))
    go false f e r = first (a == n) refl
      where
        first : (b : Bool) → (a == n) ≡ b → test n ≡ false
        first true g = let y : a ≡ n = grind (arith, nat_tests, g) in subst (λ (z : ℕ). test z ≡ false) y f
        first false g = r e (grind (arith, nat_tests, g, l)) (omega (arith, m))

pub lowest-free : (ns : List ℕ) → member (lowest_not_in ns) ns ≡ false
lowest-free ns = go (find (λ n. not (member n ns)) (count_from 0 (length ns))) refl
  where
    all : find (λ n. not (member n ns)) (count_from 0 (length ns)) ≡ None → (n : ℕ) → n < length ns → member n ns ≡ true
    all e n l = let f = fails-each (λ n. not (member n ns)) 0 (length ns) e n (omega arith) (omega (arith, l)) in not-false (member n ns) f
      where
        not-false : (b : Bool) → not b ≡ false → b ≡ true
        not-false true e = refl
        not-false false e = absurd (grind (arith, e))

    last : (b : Bool) → member (length ns) ns ≡ b → find (λ n. not (member n ns)) (count_from 0 (length ns)) ≡ None → b ≡ false
    last false f e = refl
    last true f e = absurd (omega (arith, filled (length ns) ns (all e), room (length ns) ns, there (length ns) ns f))

    go : (o : Option ℕ) → find (λ n. not (member n ns)) (count_from 0 (length ns)) ≡ o → member (unwrap_or o (length ns)) ns ≡ false
    go None e = last (member (length ns) ns) refl e
    go (Some n) e = not-true (member n ns) (passes (λ n. not (member n ns)) (count_from 0 (length ns)) n e)

-- the least number that is no key is no key
pub free-key : {V : Type 0} (m : Map V) → at m (lowest_free m) ≡ None
free-key {V} m = go (at m (lowest_free m)) refl
  where
    in-keys : member (lowest_free m) (finmap.keys m) ≡ false
    in-keys = lowest-free (finmap.keys m)

    tests : (ns : List ℕ) (n : ℕ) → list_any (eq_by_cmp nat_cmp n) ns ≡ member n ns
    tests [] n = refl
    tests (x ∷ ns) n = λ i. (turned x n i) || tests ns n i
      where
        turned : (x n : ℕ) → eq_by_cmp nat_cmp n x ≡ (x == n)
        turned x n = unsigned_tied n x ∙ go (x == n) refl
          where
            go : (b : Bool) → (x == n) ≡ b → (n == x) ≡ b
            go true e = grind (arith, nat_tests, e)
            go false e = grind (arith, nat_tests, e)

    go : (o : Option V) → at m (lowest_free m) ≡ o → o ≡ None
    go None e = refl
    go (Some v) e = absurd (let a = contains_key-keys m (lowest_free m) ∙ tests (finmap.keys m) (lowest_free m) ∙ in-keys in let b = ap is_some e in grind (arith, a, b))
