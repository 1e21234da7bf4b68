-- The least number that is no key of a map is no key.
use Rattle.key_rows.specs.Lowest.{member-keys}
use Rattle.mck_word.specs.Lists.{count_from, lowest_not_in, member, without}
use Rattle.mck_word.specs.Maps.{Map, at, keys}
use Rattle.file_tree.proofs.Members.{find-in}
use Rattle.std.proofs.Common.{◌≡◌, ◌≢◌, ◌+◌, ◌<◌, ◌≤◌, ℕ, zero, suc, Bool, true, false, cond, eqb, not, List, [], ◌∷◌, length, Option, Some, None, refl, sym, ap, ◌∙◌, inl, inr, arith}
use Rattle.std.proofs.lemmas.Bool.{cases_eq, eq-eqb, ne_eqb, true≢false}
use Rattle.std.specs.Prelude.{find, is_some, unwrap_or, ◌||◌}

length-without_le : (m : ℕ) (ns : List ℕ) → length (without (λ n. eqb n m) ns) ≤ length ns
length-without_le m [] = omega arith
length-without_le m (n ∷ ns) =
    let rest = length-without_le m ns in
    elim (eqb n m) as (λ b. length (cond (not b) (n ∷ without (λ n. eqb n m) ns) (without (λ n. eqb n m) ns)) ≤ suc (length ns)) [ true ↦ omega arith | false ↦ omega arith ]

length-without : (m : ℕ) (ns : List ℕ) → member m ns ≡ true → length (without (λ n. eqb n m) ns) < length ns
length-without m [] h = absurd (true≢false (sym h))
length-without m (n ∷ ns) h =
    elim (eqb n m) as (λ b. (b || member m ns) ≡ true → length (cond (not b) (n ∷ without (λ n. eqb n m) ns) (without (λ n. eqb n m) ns)) < suc (length ns)) [
      | true ↦ λ h. let rest = length-without_le m ns in omega arith
      | false ↦ λ h. let rest = length-without m ns h in omega arith
    ] h

member-without : (m k : ℕ) (ns : List ℕ) → k ≢ m → member k ns ≡ true → member k (without (λ n. eqb n m) ns) ≡ true
member-without m k [] o h = h
member-without m k (n ∷ ns) o h =
    elim (cases_eq n m) [
      | inl e ↦
          let away : eqb n k ≡ false = ne_eqb n k (λ same. o (sym same ∙ e)) in
          rw (eq-eqb n m e) (member-without m k ns o (rw away at h))
      | inr d ↦ rw (ne_eqb n m d) (
          elim (eqb n k) as (λ b. (b || member k ns) ≡ true → (b || member k (without (λ n. eqb n m) ns)) ≡ true) [ true ↦ λ h. refl | false ↦ λ h. member-without m k ns o h ] h)
    ]

-- a list that has all numbers below k has at least k members
members-fit : (k : ℕ) (ns : List ℕ) → ((n : ℕ) → n < k → member n ns ≡ true) → k ≤ length ns
members-fit zero ns h = omega arith
members-fit (suc k) ns h =
    let less = length-without k ns (h k (omega arith)) in
    let rest = members-fit k (without (λ n. eqb n k) ns) (λ n l. member-without k n ns (omega arith) (h n (omega arith))) in
    omega arith

none-missing : (ns : List ℕ) (n k : ℕ) → find (λ j. not (member j ns)) (count_from n k) ≡ None → (j : ℕ) → n ≤ j → j < n + k → member j ns ≡ true
none-missing ns n zero h j l g = absurd (omega arith)
none-missing ns n (suc k) h j l g = go (member n ns) refl h (λ h l. none-missing ns (n + 1) k h j l (omega arith))
  where
    go : (b : Bool) → member n ns ≡ b → cond (not b) (Some n) (find (λ j. not (member j ns)) (count_from (n + 1) k)) ≡ None
        → (find (λ j. not (member j ns)) (count_from (n + 1) k) ≡ None → n + 1 ≤ j → member j ns ≡ true) → member j ns ≡ true
    go true e h rest = elim (cases_eq n j) [ inl same ↦ ap (λ (i : ℕ). member i ns) (sym same) ∙ e | inr apart ↦ rest h (omega arith) ]
    go false e h rest = absurd (true≢false (ap is_some h))

pub lowest-missing : (ns : List ℕ) → member (lowest_not_in ns) ns ≡ false
lowest-missing ns = go (find (λ j. not (member j ns)) (count_from 0 (length ns))) refl
  where
    negated : (b : Bool) → not b ≡ true → b ≡ false
    negated true e = sym e
    negated false e = refl

    full : find (λ j. not (member j ns)) (count_from 0 (length ns)) ≡ None → (b : Bool) → member (length ns) ns ≡ b → member (length ns) ns ≡ false
    full h false e = e
    full h true e =
        let all : (j : ℕ) → j < suc (length ns) → member j ns ≡ true = λ j l. elim (cases_eq j (length ns)) [ inl same ↦ ap (λ (i : ℕ). member i ns) same ∙ e | inr apart ↦ none-missing ns 0 (length ns) h j (omega arith) (omega arith) ] in
        let fit = members-fit (suc (length ns)) ns all in
        absurd (omega arith)

    go : (o : Option ℕ) → find (λ j. not (member j ns)) (count_from 0 (length ns)) ≡ o → member (unwrap_or o (length ns)) ns ≡ false
    go (Some j) h = negated (member j ns) (find-in (λ j. not (member j ns)) (count_from 0 (length ns)) j h).1
    go None h = full h (member (length ns) ns) refl

pub lowest-absent : {V : Type 0} (m : Map V) → at m (lowest_not_in (keys m)) ≡ None
lowest-absent {V} m = gone (at m (lowest_not_in (keys m))) (sym (member-keys m (lowest_not_in (keys m))) ∙ lowest-missing (keys m))
  where
    gone : (o : Option V) → is_some o ≡ false → o ≡ None
    gone None e = refl
    gone (Some v) e = absurd (true≢false e)
