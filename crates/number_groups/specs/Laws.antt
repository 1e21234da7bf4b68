-- What stands in the groups once a number is put in or taken out, and what a search in numbers that stand there finds (laws, for proofs).
use Rattle.key_rows.specs.Table.{key_from}
use Rattle.mck_word.specs.MapLaws.{at-cut, at-none, at-put, same_rows}
use Rattle.mck_word.specs.Maps.{Map, at, keys, no_rows}
use Rattle.number_groups.specs.Groups.{IsNext, Grouped, NoneFrom, is_in, key_of, with_number, without_number}
use Rattle.number_groups.specs.Least.{IsFirst, IsLeast, NonePass, found-key, one-first}
use Rattle.std.proofs.Common.{ap, arith, refl, subst, sym, ◌∙◌}
use Rattle.std.proofs.lemmas.Bool.Decides.{nat_tests}
use Rattle.std.specs.Prelude.{Bool, MatchOption, None, Option, Some, cond, false, find, is_some, nat_le, nat_lt, not, true, ℕ, ◌%◌, ◌&&◌, ◌/◌, ◌<◌, ◌==◌, ◌^◌, ◌||◌, ◌≡◌, ◌≢◌, ◌≤◌, ◌*◌, ◌+◌}

-- two numbers below 2 ^ 32 of the same key are one number of one group
same-key : (g n h k : ℕ) → n < 2 ^ 32 → k < 2 ^ 32 → (key_of h k == key_of g n) ≡ (h == g && k == n)
same-key g n h k l m = go (h == g) (k == n) refl refl
  where
    go : (x y : Bool) → (h == g) ≡ x → (k == n) ≡ y → (key_of h k == key_of g n) ≡ (x && y)
    go true true e f = grind (arith, nat_tests, e, f)
    go true false e f = grind (arith, nat_tests, e, f)
    go false y e f = grind (arith, nat_tests, e, l, m)

pub in-none : (h k : ℕ) → is_in no_rows h k ≡ false
in-none h k = ap (λ o. nat_lt k (2 ^ 32) && is_some o) (at-none (key_of h k)) ∙ nothing (nat_lt k (2 ^ 32))
  where
    nothing : (b : Bool) → (b && false) ≡ false
    nothing true = refl
    nothing false = refl

module _ (m : Grouped) (g n : ℕ) (fits : n < 2 ^ 32) where
  -- a number that doesn't fit is another one
  another : (h k : ℕ) → nat_lt k (2 ^ 32) ≡ false → (h == g && k == n) ≡ false
  another h k l = (let far : (k == n) ≡ false = grind (arith, nat_tests, l, fits) in ap (λ b. h == g && b) far) ∙ neither (h == g)
    where
      neither : (b : Bool) → (b && false) ≡ false
      neither true = refl
      neither false = refl

  pub in-with : (h k : ℕ) → is_in (with_number m g n) h k ≡ (h == g && k == n || is_in m h k)
  in-with h k = ap (λ o. nat_lt k (2 ^ 32) && is_some o) (at-put m (key_of g n) tt (key_of h k)) ∙ go (nat_lt k (2 ^ 32)) refl (at m (key_of h k))
    where
      some-or : (b : Bool) (o : Option (Unit {0})) → is_some (cond b (Some tt) o) ≡ (b || is_some o)
      some-or true o = refl
      some-or false o = refl

      go : (b : Bool) → nat_lt k (2 ^ 32) ≡ b → (o : Option (Unit {0})) → (b && is_some (cond (key_of h k == key_of g n) (Some tt) o)) ≡ (h == g && k == n || b && is_some o)
      go true l o = ap (λ b. is_some (cond b (Some tt) o)) (same-key g n h k fits (grind (arith, nat_tests, l))) ∙ some-or (h == g && k == n) o
      go false l o = sym (ap (λ b. b || false) (another h k l))

  pub in-without : (h k : ℕ) → is_in (without_number m g n) h k ≡ (not (h == g && k == n) && is_in m h k)
  in-without h k = ap (λ o. nat_lt k (2 ^ 32) && is_some o) (at-cut m (key_of g n) (key_of h k)) ∙ go (nat_lt k (2 ^ 32)) refl (at m (key_of h k))
    where
      none-and : (b : Bool) (o : Option (Unit {0})) → is_some (cond b None o) ≡ (not b && is_some o)
      none-and true o = refl
      none-and false o = refl

      go : (b : Bool) → nat_lt k (2 ^ 32) ≡ b → (o : Option (Unit {0})) → (b && is_some (cond (key_of h k == key_of g n) None o)) ≡ (not (h == g && k == n) && (b && is_some o))
      go true l o = ap (λ b. is_some (cond b None o)) (same-key g n h k fits (grind (arith, nat_tests, l))) ∙ none-and (h == g && k == n) o
      go false l o = sym (ap (λ b. not b && false) (another h k l))

-- what isn't there needn't be taken out
pub without-absent : (m : Grouped) (g n : ℕ) → at m (key_of g n) ≡ None → without_number m g n ≡ m
without-absent m g n e = same_rows _ _ (λ q. at-cut m (key_of g n) q ∙ go q (q == key_of g n) refl)
  where
    go : (q : ℕ) (b : Bool) → (q == key_of g n) ≡ b → cond b None (at m q) ≡ at m q
    go q true f = let same : q ≡ key_of g n = grind (arith, nat_tests, f) in sym (ap (at m) same ∙ e)
    go q false f = refl

-- what follows for a number of the group, where it is not there if it is
unless : (l b : Bool) → (l ≡ true → b ≡ true → ⊥) → (l && b) ≡ false
unless true true h = absurd (h refl refl)
unless true false h = refl
unless false b h = refl

all-of : (a b : Bool) → (a && b) ≡ true → (a ≡ true) × (b ≡ true)
all-of true true h = (refl, refl)
all-of true false h = absurd (grind (arith, h))
all-of false b h = absurd (grind (arith, h))

module _ (m : Grouped) (g from : ℕ) where
  -- what a search in the keys from there on tells of the group
  abbrev Lowest : ℕ → Type 0
  Lowest key = IsLeast (λ k. is_some (at m k)) (nat_le (key_of g from)) key

  pub none-left : NonePass (λ k. is_some (at m k)) (nat_le (key_of g from)) → NoneFrom m g from
  none-left h n up = unless (nat_lt n (2 ^ 32)) (is_some (at m (key_of g n))) (λ l b. let below = h (key_of g n) b in grind (arith, nat_tests, below, up))

  -- a number of the group from there on is not below the least key
  not-below : (key : ℕ) → Lowest key → (n : ℕ) → from ≤ n → is_some (at m (key_of g n)) ≡ true → key ≤ key_of g n
  not-below key h n up b = go (nat_lt (key_of g n) key) refl
    where
      go : (x : Bool) → nat_lt (key_of g n) key ≡ x → key ≤ key_of g n
      go true f = absurd (let below = h.least (key_of g n) (grind (arith, nat_tests, f)) b in grind (arith, nat_tests, below, up))
      go false f = grind (arith, nat_tests, f)

  pub none-of-others : (key : ℕ) → Lowest key → key / 2 ^ 32 ≢ g → NoneFrom m g from
  none-of-others key h other n up =
      unless (nat_lt n (2 ^ 32)) (is_some (at m (key_of g n))) (λ l b.
      let most = not-below key h n up b in
      let fits : n < 2 ^ 32 = grind (arith, nat_tests, l) in
      let passes = h.passes in
      let fewest : g * 2 ^ 32 + from ≤ key = grind (arith, nat_tests, passes) in
      other (omega arith))

  pub next-is : (key : ℕ) → Lowest key → key / 2 ^ 32 ≡ g → IsNext m g from (key % 2 ^ 32)
  next-is key h same =
      let whole : key_of g (key % 2 ^ 32) ≡ key = omega arith in
      let passes = h.passes in
      let fewest : g * 2 ^ 32 + from ≤ key = grind (arith, nat_tests, passes) in
      let fits : nat_lt (key % 2 ^ 32) (2 ^ 32) ≡ true = let l : key % 2 ^ 32 < 2 ^ 32 = omega arith in grind (arith, nat_tests, l) in
      record {
        from_there = omega arith;
        stands = λ i. fits i && (ap (λ k. is_some (at m k)) whole ∙ h.stands) i;
        least = λ n up below. unless (nat_lt n (2 ^ 32)) (is_some (at m (key_of g n))) (λ l b. let most = not-below key h n up b in omega arith);
      }

  -- in numbers of which the group has exactly those that pass, the first from there on that passes is the next
  pub finds-next : {V : Type 0} (rows : Map V) (f : ℕ → Bool) → ((n : ℕ) → is_in m g n ≡ (is_some (at rows n) && f n))
      → (o : Option ℕ) → MatchOption o (NoneFrom m g from) (λ n. IsNext m g from n) → find (λ n. nat_le from n && f n) (keys rows) ≡ o
  finds-next rows f same o h =
      one-first (λ k. is_some (at rows k)) (λ n. nat_le from n && f n) (find (λ n. nat_le from n && f n) (keys rows)) o (found-key (λ n. nat_le from n && f n) rows) (seen o h)
    where
      absent : (n : ℕ) → is_in m g n ≡ false → is_some (at rows n) ≡ true → f n ≡ false
      absent n none there = sym (sym none ∙ same n ∙ ap (λ b. b && f n) there)

      seen : (o : Option ℕ) → MatchOption o (NoneFrom m g from) (λ n. IsNext m g from n) → IsFirst (λ k. is_some (at rows k)) (λ n. nat_le from n && f n) o
      seen None h = λ k there. unless (nat_le from k) (f k) (λ up passes. let none = absent k (h k (grind (arith, nat_tests, up))) there in grind (arith, none, passes))
      seen (Some n) h =
          let both = all-of (is_some (at rows n)) (f n) (sym (same n) ∙ h.stands) in
          let up = h.from_there in
          let far : nat_le from n ≡ true = grind (arith, nat_tests, up) in
          record {
            stands = both.0;
            passes = λ i. far i && both.1 i;
            least = λ k less there. unless (nat_le from k) (f k) (λ up passes. let none = absent k (h.least k (grind (arith, nat_tests, up)) less) there in grind (arith, none, passes));
          }

-- what the search from a key on found
pub search-tells : (m : Grouped) (k from : ℕ) → k ≡ from → (r : Option ℕ) → r ≡ key_from m k → IsFirst (λ j. is_some (at m j)) (nat_le from) r
search-tells m k from same r e = subst (λ o. IsFirst (λ j. is_some (at m j)) (nat_le from) o) (sym (e ∙ ap (key_from m) same)) (found-key (nat_le from) m)
