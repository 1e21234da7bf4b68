-- The lowest number that isn't in a list.
use Rattle.mck_word.specs.Lists.{count_from, lowest_not_in, member, without}
use Rattle.std.proofs.Common.{◌≡◌, ◌≢◌, ◌+◌, ◌-◌, ◌<◌, ◌≤◌, ℕ, zero, suc, Bool, true, false, cond, eqb, not, List, [], ◌∷◌, length, Option, Some, None, refl, sym, ap, subst, ◌∙◌, inl, inr, arith}
use Rattle.std.proofs.lemmas.Bool.{cases_eq, cases_lt, eq-eqb, ne_eqb, true≢false}
use Rattle.std.specs.Prelude.{find, unwrap_or, ◌||◌}

-- a list without one of its members is shorter, and has the others
length-without_le : (m : ℕ) (ns : List ℕ) → length (without (λ n. eqb n m) ns) ≤ length ns
length-without_le m [] = omega arith
length-without_le m (n ∷ ns) =
    let rest = length-without_le m ns in
    elim (eqb n m) as (λ b. length (cond (not b) (n ∷ without (λ n. eqb n m) ns) (without (λ n. eqb n m) ns)) ≤ suc (length ns)) [ true ↦ omega arith | false ↦ omega arith ]

length-without : (m : ℕ) (ns : List ℕ) → member m ns ≡ true → length (without (λ n. eqb n m) ns) < length ns
length-without m [] h = absurd (true≢false (sym h))
length-without m (n ∷ ns) h =
    elim (eqb n m) as (λ b. (b || member m ns) ≡ true → length (cond (not b) (n ∷ without (λ n. eqb n m) ns) (without (λ n. eqb n m) ns)) < suc (length ns)) [
      | true ↦ λ h. let rest = length-without_le m ns in omega arith
      | false ↦ λ h. let rest = length-without m ns h in omega arith
    ] h

member-without : (m k : ℕ) (ns : List ℕ) → k ≢ m → member k ns ≡ true → member k (without (λ n. eqb n m) ns) ≡ true
member-without m k [] o h = h
member-without m k (n ∷ ns) o h =
    elim (cases_eq n m) [
      | inl e ↦
          let away : eqb n k ≡ false = ne_eqb n k (λ same. o (sym same ∙ e)) in
          rw (eq-eqb n m e) (member-without m k ns o (rw away at h))
      | inr d ↦ rw (ne_eqb n m d) (
          elim (eqb n k) as (λ b. (b || member k ns) ≡ true → (b || member k (without (λ n. eqb n m) ns)) ≡ true) [ true ↦ λ h. refl | false ↦ λ h. member-without m k ns o h ] h)
    ]

-- a list that has all numbers below k has at least k members
members-fit : (k : ℕ) (ns : List ℕ) → ((n : ℕ) → n < k → member n ns ≡ true) → k ≤ length ns
members-fit zero ns h = omega arith
members-fit (suc k) ns h =
    let less = length-without k ns (h k (omega arith)) in
    let rest = members-fit k (without (λ n. eqb n k) ns) (λ n l. member-without k n ns (omega arith) (h n (omega arith))) in
    omega arith

-- where a search through n, n + 1, .. up to n + k - 1 ends: at a number that passes, or past the last
data Search (p : ℕ → Bool) (n k : ℕ) : Option ℕ → Type 0 where
  found : (m : ℕ) → p m ≡ true → Search p n k (Some m)
  missed : ((m : ℕ) → n ≤ m → m < n + k → p m ≡ false) → Search p n k None

searched : (p : ℕ → Bool) (n k : ℕ) → Search p n k (find p (count_from n k))
searched p n zero = missed (λ m a b. absurd (omega arith))
searched p n (suc k) =
    elim (p n) as (λ b. p n ≡ b → Search p n (suc k) (cond b (Some n) (find p (count_from (n + 1) k)))) [
      | true ↦ λ e. found n e
      | false ↦ λ e. later e (find p (count_from (n + 1) k)) (searched p (n + 1) k)
    ] refl
  where
    later : p n ≡ false → (o : Option ℕ) → Search p (n + 1) k o → Search p n (suc k) o
    later e o (found m h) = found m h
    later e o (missed h) = missed (λ m a b. elim (cases_eq m n) [
      | inl same ↦ ap p same ∙ e
      | inr other ↦ h m (omega arith) (omega arith)
    ])

turned : (b : Bool) → not b ≡ false → b ≡ true
turned true h = refl
turned false h = absurd (true≢false h)

falls : (b : Bool) → not b ≡ true → b ≡ false
falls true h = absurd (true≢false (sym h))
falls false h = refl

pub lowest-missing : (ns : List ℕ) → member (lowest_not_in ns) ns ≡ false
lowest-missing ns = at_end (find (λ n. not (member n ns)) (count_from 0 (length ns))) (searched (λ n. not (member n ns)) 0 (length ns))
  where
    past : ((m : ℕ) → 0 ≤ m → m < 0 + length ns → not (member m ns) ≡ false) → (b : Bool) → member (length ns) ns ≡ b → b ≡ false
    past h true e =
        let fit = members-fit (suc (length ns)) ns (λ n l. elim (cases_lt n (length ns)) [
          | inl below ↦ turned _ (h n (omega arith) (omega arith))
          | inr up ↦ let same : n ≡ length ns = omega arith in subst (λ k. member k ns ≡ true) (sym same) e
        ]) in
        absurd (omega arith)
    past h false e = refl

    at_end : (o : Option ℕ) → Search (λ n. not (member n ns)) 0 (length ns) o → member (unwrap_or o (length ns)) ns ≡ false
    at_end o (found m h) = falls _ h
    at_end o (missed h) = past h _ refl

-- a search from n up to l, a step at a time
pub find-hit : (p : ℕ → Bool) (n l : ℕ) → n < l → p n ≡ true → find p (count_from n (l - n)) ≡ Some n
find-hit p n l h e = let more : l - n ≡ suc (l - (n + 1)) = omega arith in rw (more, e) refl

pub find-step : (p : ℕ → Bool) (n l : ℕ) → n < l → p n ≡ false → find p (count_from n (l - n)) ≡ find p (count_from (n + 1) (l - (n + 1)))
find-step p n l h e = let more : l - n ≡ suc (l - (n + 1)) = omega arith in rw (more, e) refl
