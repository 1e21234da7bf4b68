-- What taking out one sleeper after another leaves.
use Rattle.std.proofs.Common.{◌≡◌, ℕ, zero, suc, ◌+◌, ◌-◌, ◌<◌, ◌≤◌, Bool, true, false, cond, not, List, [], ◌∷◌, ◌++◌, take, length, get_or, Some, None, refl, sym, ap, ◌∙◌, inl, inr, arith, append_assoc, append-nil, length-append, take_all}
use Rattle.std.specs.Prelude.{filter, map, position, is_some}
use Rattle.std.specs.List.{remove, position_or_len}
use Rattle.std.proofs.lemmas.Bool.{true≢false, lt-ltb, cases_lt}
use Rattle.std.proofs.lemmas.List.Quantifiers.{position-Some}
use Rattle.std.proofs.lemmas.List.{length-map}
use Rattle.futex_queues.specs.Sleep.{drop_first}

take-whole : {X : Type 0} (xs ys : List X) → take (length xs) (xs ++ ys) ≡ xs
take-whole [] [] = refl
take-whole [] (y ∷ ys) = refl
take-whole (x ∷ xs) ys = ap (λ t. x ∷ t) (take-whole xs ys)

module _ {X : Type 0} where
  pub drop_first-none : (p : X → Bool) (xs : List X) → drop_first p zero xs ≡ xs
  drop_first-none p [] = refl
  drop_first-none p (x ∷ xs) = refl

  -- i is the first place at which p passes
  abbrev pub IsFirst : (X → Bool) → List X → ℕ → Type 0
  IsFirst p [] i = ⊥
  IsFirst p (x ∷ xs) zero = p x ≡ true
  IsFirst p (x ∷ xs) (suc i) = (p x ≡ false) × IsFirst p xs i

  pub filter-first : (p : X → Bool) (xs : List X) (i : ℕ) (d : X) → IsFirst p xs i → filter p xs ≡ get_or xs i d ∷ filter p (remove xs i)
  filter-first p [] i d h = absurd h
  filter-first p (x ∷ xs) zero d h = rw h refl
  filter-first p (x ∷ xs) (suc i) d h = rw h.0 (filter-first p xs i d h.1)

  pub drop_first-first : (p : X → Bool) (xs : List X) (k i : ℕ) → IsFirst p xs i → drop_first p (suc k) xs ≡ drop_first p k (remove xs i)
  drop_first-first p [] k i h = absurd h
  drop_first-first p (x ∷ xs) k zero h = rw h refl
  drop_first-first p (x ∷ xs) zero (suc i) h = rw h.0 (ap (λ t. x ∷ t) (drop_first-first p xs zero i h.1 ∙ drop_first-none p (remove xs i)))
  drop_first-first p (x ∷ xs) (suc k) (suc i) h = rw h.0 (ap (λ t. x ∷ t) (drop_first-first p xs (suc k) i h.1))

  pub filter-remove-le : (q : X → Bool) (xs : List X) (i : ℕ) → length (filter q (remove xs i)) ≤ length (filter q xs)
  filter-remove-le q [] zero = omega arith
  filter-remove-le q [] (suc i) = omega arith
  filter-remove-le q (x ∷ xs) zero = elim (q x) as (λ b. length (filter q xs) ≤ length (cond b (x ∷ filter q xs) (filter q xs))) [ true ↦ omega arith | false ↦ omega arith ]
  filter-remove-le q (x ∷ xs) (suc i) =
      let rest = filter-remove-le q xs i in
      elim (q x) as (λ b. length (cond b (x ∷ filter q (remove xs i)) (filter q (remove xs i))) ≤ length (cond b (x ∷ filter q xs) (filter q xs))) [ true ↦ omega arith | false ↦ rest ]

  first-at : (p : X → Bool) (xs : List X) (i : ℕ) (d : X) → i < length xs → p (get_or xs i d) ≡ true → ((k : ℕ) → k < i → p (get_or xs k d) ≡ false) → IsFirst p xs i
  first-at p [] i d l a b = absurd (omega arith)
  first-at p (x ∷ xs) zero d l a b = a
  first-at p (x ∷ xs) (suc i) d l a b = (b 0 (omega arith), first-at p xs i d (omega arith) a (λ k h. b (suc k) (omega arith)))

  pub position-first : (p : X → Bool) (xs : List X) (i : ℕ) → position p xs ≡ Some i → IsFirst p xs i
  position-first p [] i h = absurd (true≢false (ap is_some (sym h)))
  position-first p (x ∷ xs) i h = let at = position-Some p (x ∷ xs) i x h in first-at p (x ∷ xs) i x at.0 at.1 at.2

  never : (p : X → Bool) (xs : List X) → length xs ≤ position_or_len p xs → filter p xs ≡ []
  never p [] h = refl
  never p (x ∷ xs) h =
      elim (p x) as (λ b. suc (length xs) ≤ cond (not b) (1 + position_or_len p xs) 0 → cond b (x ∷ filter p xs) (filter p xs) ≡ []) [
        | true ↦ λ h. absurd (omega arith)
        | false ↦ λ h. never p xs (omega arith)
      ] h

  pub position-never : (p : X → Bool) (xs : List X) → position p xs ≡ None → filter p xs ≡ []
  position-never p xs h =
      elim (cases_lt (position_or_len p xs) (length xs)) [
        | inl l ↦ absurd (true≢false (ap is_some (rw (lt-ltb _ _ l) at h)))
        | inr g ↦ never p xs g
      ]

  length-remove : (p : X → Bool) (xs : List X) (i : ℕ) → IsFirst p xs i → length (remove xs i) + 1 ≡ length xs
  length-remove p [] i h = absurd h
  length-remove p (x ∷ xs) zero h = omega arith
  length-remove p (x ∷ xs) (suc i) h = omega (arith, length-remove p xs i h.1)

  pub drop_first-never : (p : X → Bool) (k : ℕ) (xs : List X) → filter p xs ≡ [] → drop_first p k xs ≡ xs
  drop_first-never p k [] h = refl
  drop_first-never p zero (x ∷ xs) h = refl
  drop_first-never p (suc k) (x ∷ xs) h =
      elim (p x) as (λ b. cond b (x ∷ filter p xs) (filter p xs) ≡ [] → cond b (drop_first p k xs) (x ∷ drop_first p (suc k) xs) ≡ x ∷ xs) [
        | true ↦ λ e. absurd (not_nil x (filter p xs) e)
        | false ↦ λ e. ap (λ t. x ∷ t) (drop_first-never p (suc k) xs e)
      ] h
    where
      not_nil : (x : X) (xs : List X) → x ∷ xs ≡ [] → ⊥
      not_nil x xs e = cc

  -- count of n were taken out of orig, which left rows
  pub record Waking {Y : Type 0} (p : X → Bool) (name : X → Y) (n count : ℕ) (orig rows : List X) (out : List Y) : Type 0 where
    pub bound : count ≤ n
    pub left : drop_first p n orig ≡ drop_first p (n - count) rows
    pub taken : out ++ map name (filter p rows) ≡ map name (filter p orig)
    pub number : length out ≡ count
    pub others : (q : X → Bool) → length (filter q rows) ≤ length (filter q orig)
    pub fewer : length rows + count ≡ length orig

  module _ {Y : Type 0} (p : X → Bool) (name : X → Y) (n count : ℕ) (orig rows : List X) (out : List Y) (w : Waking p name n count orig rows out) where
    names : length out + length (filter p rows) ≡ length (filter p orig)
    names =
        let both = ap length w.taken in
        omega (arith, length-append out (map name (filter p rows)), length-map (filter p rows) name, length-map (filter p orig) name)

    pub room-to-wake : (i : ℕ) (d : X) → IsFirst p rows i → length (filter p orig) ≤ 16 → length out < 16
    room-to-wake i d first few =
        let more : length (filter p rows) ≡ suc (length (filter p (remove rows i))) = ap length (filter-first p rows i d first) in
        let all = names in
        omega arith

    pub wake-one : (i : ℕ) (s : X) → count < n → IsFirst p rows i → s ≡ get_or rows i s → Waking p name n (count + 1) orig (remove rows i) (out ++ name s ∷ [])
    wake-one i s more first is =
        let less : n - count ≡ suc (n - (count + 1)) = omega arith in
        record {
          bound = omega arith;
          left = w.left ∙ ap (λ k. drop_first p k rows) less ∙ drop_first-first p rows (n - (count + 1)) i first;
          taken = append_assoc out (name s ∷ []) _ ∙ ap (λ x. out ++ (name x ∷ map name (filter p (remove rows i)))) is ∙ ap (λ xs. out ++ map name xs) (sym (filter-first p rows i s first)) ∙ w.taken;
          number = length-append out (name s ∷ []) ∙ (let number = w.number in omega arith);
          others = λ q. let less = filter-remove-le q rows i in let was = w.others q in omega arith;
          fewer = let one = length-remove p rows i first in let fewer = w.fewer in omega arith;
        }

    pub woke-all : filter p rows ≡ [] → out ≡ take n (map name (filter p orig))
    woke-all none =
        let all : out ≡ map name (filter p orig) = sym (append-nil out) ∙ ap (λ xs. out ++ map name xs) (sym none) ∙ w.taken in
        let few : length (map name (filter p orig)) ≤ n = let number = w.number in let bound = w.bound in let long = ap length all in omega arith in
        all ∙ sym (take_all n (map name (filter p orig)) few)

    pub woke-full : n ≤ count → out ≡ take n (map name (filter p orig))
    woke-full full =
        let number = w.number in let bound = w.bound in
        let long : length out ≡ n = omega arith in
        sym (ap (take n) (sym w.taken) ∙ ap (λ k. take k (out ++ map name (filter p rows))) (sym long) ∙ take-whole out (map name (filter p rows)))

    pub left-none : filter p rows ≡ [] → rows ≡ drop_first p n orig
    left-none none = sym (w.left ∙ drop_first-never p (n - count) rows none)

    pub left-full : n ≤ count → rows ≡ drop_first p n orig
    left-full full =
        let done : n - count ≡ 0 = omega arith in
        sym (w.left ∙ ap (λ k. drop_first p k rows) done ∙ drop_first-none p rows)
