-- Queues of sleepers: what waking, leaving and waiting keep of them.
use Rattle.futex_queues.specs.Sleep.{IsQueue, drop_first, is_thread, is_waiter, once_each, shown, sleeps_at, thread_of, waiters}
use Rattle.futex_queues.specs.declared.Waiter.{Waiter}
use Rattle.mck_word.specs.declared.Tid.{Tid}
use Rattle.std.proofs.lemmas.List.{length-map}
use Rattle.kernel_model.specs.Nodes.{Sleeper, most_threads}
use Rattle.mck_word.specs.Lists.{without}
use Rattle.std.proofs.Common.{append-nil, length-append, ◌≡◌, ℕ, zero, suc, ◌<◌, ◌≤◌, Bool, true, false, cond, eqb, not, List, [], ◌∷◌, ◌++◌, length, take, refl, sym, ap, subst, ◌∙◌, inl, inr, arith}
use Rattle.std.proofs.lemmas.Bool.{cases_eq, eq-eqb, eqb-false, ne_eqb, or_parts}
use Rattle.std.proofs.lemmas.List.Folds.{list_any-append}
use Rattle.std.specs.List.{list_any}
use Rattle.std.specs.Prelude.{filter, map, min}

module _ {X Y : Type 0} (f : X → Y) where
  pub filter-map : (p : Y → Bool) (xs : List X) → filter p (map f xs) ≡ map f (filter (λ x. p (f x)) xs)
  filter-map p [] = refl
  filter-map p (x ∷ xs) =
      elim (p (f x)) as (λ b. cond b (f x ∷ filter p (map f xs)) (filter p (map f xs)) ≡ map f (cond b (x ∷ filter (λ x. p (f x)) xs) (filter (λ x. p (f x)) xs))) [
        | true ↦ ap (λ t. f x ∷ t) (filter-map p xs)
        | false ↦ filter-map p xs
      ]

  pub take-map : (n : ℕ) (xs : List X) → take n (map f xs) ≡ map f (take n xs)
  take-map zero [] = refl
  take-map zero (x ∷ xs) = refl
  take-map (suc n) [] = refl
  take-map (suc n) (x ∷ xs) = ap (λ t. f x ∷ t) (take-map n xs)

  pub map-drop_first : (p : Y → Bool) (n : ℕ) (xs : List X) → map f (drop_first (λ x. p (f x)) n xs) ≡ drop_first p n (map f xs)
  map-drop_first p n [] = refl
  map-drop_first p zero (x ∷ xs) = refl
  map-drop_first p (suc n) (x ∷ xs) =
      elim (p (f x)) as (λ b. map f (cond b (drop_first (λ x. p (f x)) n xs) (x ∷ drop_first (λ x. p (f x)) (suc n) xs)) ≡ cond b (drop_first p n (map f xs)) (f x ∷ drop_first p (suc n) (map f xs))) [
        | true ↦ map-drop_first p n xs
        | false ↦ ap (λ t. f x ∷ t) (map-drop_first p (suc n) xs)
      ]

  pub map-push : (xs : List X) (x : X) → map f (xs ++ x ∷ []) ≡ map f xs ++ f x ∷ []
  map-push [] x = refl
  map-push (y ∷ xs) x = ap (λ t. f y ∷ t) (map-push xs x)

pub length-take_min : {X : Type 0} (n : ℕ) (xs : List X) → length (take n xs) ≡ min n (length xs)
length-take_min zero [] = omega arith
length-take_min zero (x ∷ xs) = omega arith
length-take_min (suc n) [] = omega arith
length-take_min (suc n) (x ∷ xs) = let e = length-take_min n xs in omega arith

-- a thread that isn't in a list isn't among those that pass, nor among the first of them
absent-filter : (t : ℕ) (p : Sleeper → Bool) (xs : List Sleeper) → list_any (is_thread t) xs ≡ false → list_any (is_thread t) (filter p xs) ≡ false
absent-filter t p [] h = refl
absent-filter t p (x ∷ xs) h =
    let parts = or_parts (is_thread t x) (list_any (is_thread t) xs) h in
    elim (p x) as (λ b. list_any (is_thread t) (cond b (x ∷ filter p xs) (filter p xs)) ≡ false) [
      | true ↦ rw parts.0 (absent-filter t p xs parts.1)
      | false ↦ absent-filter t p xs parts.1
    ]

absent-take : (t n : ℕ) (xs : List Sleeper) → list_any (is_thread t) xs ≡ false → list_any (is_thread t) (take n xs) ≡ false
absent-take t zero [] h = refl
absent-take t zero (x ∷ xs) h = refl
absent-take t (suc n) [] h = refl
absent-take t (suc n) (x ∷ xs) h =
    let parts = or_parts (is_thread t x) (list_any (is_thread t) xs) h in
    rw parts.0 (absent-take t n xs parts.1)

-- those that aren't the thread x are judged without it
without-one : (x : Sleeper) (ws xs : List Sleeper) → list_any (is_thread x.thread) xs ≡ false → without (is_waiter (x ∷ ws)) xs ≡ without (is_waiter ws) xs
without-one x ws [] h = refl
without-one x ws (y ∷ xs) h =
    let parts = or_parts (is_thread x.thread y) (list_any (is_thread x.thread) xs) h in
    let other : eqb x.thread y.thread ≡ false = ne_eqb x.thread y.thread (λ e. eqb-false y.thread x.thread parts.0 (sym e)) in
    rw other (
    elim (is_waiter ws y) as (λ b. cond (not b) (y ∷ without (is_waiter (x ∷ ws)) xs) (without (is_waiter (x ∷ ws)) xs) ≡ cond (not b) (y ∷ without (is_waiter ws) xs) (without (is_waiter ws) xs)) [
      | true ↦ without-one x ws xs parts.1
      | false ↦ ap (λ t. y ∷ t) (without-one x ws xs parts.1)
    ])

without-none : (xs : List Sleeper) → without (is_waiter []) xs ≡ xs
without-none [] = refl
without-none (x ∷ xs) = ap (λ t. x ∷ t) (without-none xs)

-- the first n that pass leave: they are those of their threads
pub drop_first-without : (p : Sleeper → Bool) (n : ℕ) (xs : List Sleeper) → once_each xs → drop_first p n xs ≡ without (is_waiter (take n (filter p xs))) xs
drop_first-without p n [] o = refl
drop_first-without p zero (x ∷ xs) o = sym (ap (λ ws. without (is_waiter ws) (x ∷ xs)) (none (filter p (x ∷ xs))) ∙ without-none (x ∷ xs))
  where
    none : (ys : List Sleeper) → take zero ys ≡ []
    none [] = refl
    none (y ∷ ys) = refl
drop_first-without p (suc n) (x ∷ xs) o =
    elim (p x) as (λ b. cond b (drop_first p n xs) (x ∷ drop_first p (suc n) xs) ≡ without (is_waiter (take (suc n) (cond b (x ∷ filter p xs) (filter p xs)))) (x ∷ xs)) [
      | true ↦ drop_first-without p n xs o.1 ∙ sym (rw (eq-eqb x.thread x.thread refl) (without-one x (take n (filter p xs)) xs o.0))
      | false ↦
          let away : is_waiter (take (suc n) (filter p xs)) x ≡ false = turned x.thread (take (suc n) (filter p xs)) (absent-take x.thread (suc n) (filter p xs) (absent-filter x.thread p xs o.0)) in
          ap (λ t. x ∷ t) (drop_first-without p (suc n) xs o.1) ∙ sym (rw away refl)
    ]
  where
    turned : (t : ℕ) (ws : List Sleeper) → list_any (is_thread t) ws ≡ false → list_any (λ w. eqb w.thread t) ws ≡ false
    turned t ws h = h

fewer : (p q : Sleeper → Bool) (xs : List Sleeper) → length (filter q (filter p xs)) ≤ length (filter q xs)
fewer p q [] = omega arith
fewer p q (x ∷ xs) =
    let rest = fewer p q xs in
    elim (p x) as (λ b. length (filter q (cond b (x ∷ filter p xs) (filter p xs))) ≤ length (cond (q x) (x ∷ filter q xs) (filter q xs))) [
      | true ↦ elim (q x) as (λ b. length (cond b (x ∷ filter q (filter p xs)) (filter q (filter p xs))) ≤ length (cond b (x ∷ filter q xs) (filter q xs))) [ true ↦ omega arith | false ↦ rest ]
      | false ↦ elim (q x) as (λ b. length (filter q (filter p xs)) ≤ length (cond b (x ∷ filter q xs) (filter q xs))) [ true ↦ omega arith | false ↦ rest ]
    ]

once-filter : (p : Sleeper → Bool) (xs : List Sleeper) → once_each xs → once_each (filter p xs)
once-filter p [] o = tt
once-filter p (x ∷ xs) o =
    elim (p x) as (λ b. once_each (cond b (x ∷ filter p xs) (filter p xs))) [
      | true ↦ (absent-filter x.thread p xs o.0, once-filter p xs o.1)
      | false ↦ once-filter p xs o.1
    ]

pub IsQueue-filter : (p : Sleeper → Bool) (xs : List Sleeper) → IsQueue xs → IsQueue (filter p xs)
IsQueue-filter p xs q = record {
  once = once-filter p xs q.once;
  few = λ process address. let was = q.few process address in let less = fewer p (sleeps_at process address) xs in omega arith;
}

once-push : (x : Sleeper) (xs : List Sleeper) → once_each xs → list_any (is_thread x.thread) xs ≡ false → once_each (xs ++ x ∷ [])
once-push x [] o h = (refl, tt)
once-push x (y ∷ xs) o h =
    let parts = or_parts (is_thread x.thread y) (list_any (is_thread x.thread) xs) h in
    (list_any-append (is_thread y.thread) xs (x ∷ []) ∙ rw (o.0, ne_eqb x.thread y.thread (λ e. eqb-false y.thread x.thread parts.0 (sym e))) refl, once-push x xs o.1 parts.1)

filter-push : (p : Sleeper → Bool) (x : Sleeper) (xs : List Sleeper) → filter p (xs ++ x ∷ []) ≡ filter p xs ++ cond (p x) (x ∷ []) []
filter-push p x [] = refl
filter-push p x (y ∷ xs) =
    elim (p y) as (λ b. cond b (y ∷ filter p (xs ++ x ∷ [])) (filter p (xs ++ x ∷ [])) ≡ cond b (y ∷ filter p xs) (filter p xs) ++ cond (p x) (x ∷ []) []) [
      | true ↦ ap (λ t. y ∷ t) (filter-push p x xs)
      | false ↦ filter-push p x xs
    ]

pub IsQueue-push : (x : Sleeper) (xs : List Sleeper) → IsQueue xs → list_any (is_thread x.thread) xs ≡ false → length (waiters x.process x.address xs) < most_threads → IsQueue (xs ++ x ∷ [])
IsQueue-push x xs q awake few = record {
  once = once-push x xs q.once awake;
  few = λ process address.
      let was = q.few process address in
      rw (filter-push (sleeps_at process address) x xs) (elim (cases_eq x.process process) [
        | inr other ↦ rw (ne_eqb x.process process other) (simp append-nil was)
        | inl same ↦ elim (cases_eq x.address address) [
          | inr other ↦ rw (eq-eqb x.process process same, ne_eqb x.address address other) (simp append-nil was)
          | inl there ↦ rw (eq-eqb x.process process same, eq-eqb x.address address there)
              (let here : length (waiters process address xs) < most_threads = subst (λ p. length (waiters p address xs) < most_threads) same (subst (λ a. length (waiters x.process a xs) < most_threads) there few) in
              omega (arith, length-append (waiters process address xs) (x ∷ [])))
        ]
      ]);
}

pub IsQueue-none : IsQueue []
IsQueue-none = record { once = tt; few = λ process address. omega arith }

-- ---- what waking comes to

module _ (p : Sleeper → Bool) (n : ℕ) (orig : List Waiter) where
  abbrev woken : List Sleeper
  woken = take n (filter p (map shown orig))

  -- the rows that are left, the threads that are woken, and their number, as a contract has them
  pub left-shown : (rows : List Waiter) → once_each (map shown orig) → rows ≡ drop_first (λ w. p (shown w)) n orig → map shown rows ≡ without (is_waiter woken) (map shown orig)
  left-shown rows o e = ap (map shown) e ∙ map-drop_first shown p n orig ∙ drop_first-without p n (map shown orig) o

  tids : (ws : List Waiter) → map (λ w. w.tid) ws ≡ map thread_of (map shown ws)
  tids [] = refl
  tids (w ∷ ws) = ap (λ t. w.tid ∷ t) (tids ws)

  pub woken-shown : (out : List Tid) → out ≡ take n (map (λ w. w.tid) (filter (λ w. p (shown w)) orig)) → out ≡ map thread_of woken
  woken-shown out e =
      e ∙ take-map (λ w. w.tid) n (filter (λ w. p (shown w)) orig) ∙ tids (take n (filter (λ w. p (shown w)) orig))
      ∙ ap (map thread_of) (sym (ap (take n) (filter-map shown p orig) ∙ take-map shown n (filter (λ w. p (shown w)) orig)))

  pub count-shown : (count : ℕ) (out : List Tid) → length out ≡ count → out ≡ map thread_of woken → count ≡ min n (length (filter p (map shown orig)))
  count-shown count out e o = sym e ∙ ap length o ∙ length-map woken thread_of ∙ length-take_min n (filter p (map shown orig))
