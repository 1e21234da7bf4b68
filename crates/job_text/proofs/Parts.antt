-- Tests of mapped lists.
use Rattle.std.proofs.Common.{◌≡◌, ℕ, ◌==◌, ◌||◌, ◌&&◌, List, [], ◌∷◌, map, Bool, true, false, refl, sym, ◌∙◌, ap, bytes_eq, arith}
use Rattle.std.proofs.lemmas.Bool.Decides.{nat_tests}
use Rattle.std.specs.List.{list_any, onto_first, starts_with}
use Rattle.job_text.specs.Paths.{names_in, goes_through}

pub list_any-map : {X Y : Type 0} (p : Y → Bool) (h : X → Y) (xs : List X) → list_any p (map h xs) ≡ list_any (λ x. p (h x)) xs
list_any-map p h [] = refl
list_any-map p h (x ∷ xs) = ap (λ b. p (h x) || b) (list_any-map p h xs)

-- ---- the names of two texts

onto-some : (x : ℕ) (parts : List (List ℕ)) → (part : List ℕ) × (more : List (List ℕ)) × (onto_first x parts ≡ (x ∷ part) ∷ more)
onto-some x [] = ([], [], refl)
onto-some x (part ∷ parts) = (part, parts, refl)

-- a text has a first name, and the other texts of its names
names-some : (text : List ℕ) → (first : List ℕ) × (more : List (List ℕ)) × (names_in text ≡ first ∷ more)
names-some [] = ([], [], refl)
names-some (x ∷ xs) = names-some_at x xs (x == 47) refl where
  names-some_at : (x : ℕ) (xs : List ℕ) (b : Bool) → (x == 47) ≡ b → (first : List ℕ) × (more : List (List ℕ)) × (names_in (x ∷ xs) ≡ first ∷ more)
  names-some_at x xs true e = ([], names_in xs, rw e refl)
  names-some_at x xs false e = let o = onto-some x (names_in xs) in (x ∷ o.0, o.1, rw e o.2)

yes : (x : ℕ) (xs : List ℕ) → (x == 47) ≡ true → names_in (x ∷ xs) ≡ [] ∷ names_in xs
yes x xs e = rw e refl

no : (x : ℕ) (xs first : List ℕ) (more : List (List ℕ)) → (x == 47) ≡ false → names_in xs ≡ first ∷ more → names_in (x ∷ xs) ≡ (x ∷ first) ∷ more
no x xs first more e f = rw e (ap (onto_first x) f)

both_slash : (x y : ℕ) → (x == 47) ≡ true → (y == 47) ≡ true → (x == y) ≡ true
both_slash x y e f = grind (arith, nat_tests)

left_slash : (x y : ℕ) → (x == 47) ≡ true → (y == 47) ≡ false → (x == y) ≡ false
left_slash x y e f = grind (arith, nat_tests)

right_slash : (x y : ℕ) → (x == 47) ≡ false → (y == 47) ≡ true → (x == y) ≡ false
right_slash x y e f = grind (arith, nat_tests)

turned : (x y : ℕ) → (x == y) ≡ (y == x)
turned x y = grind (arith, nat_tests)

grouped : (a b c : Bool) → (a && (b && c)) ≡ ((a && b) && c)
grouped true b c = refl
grouped false b c = refl

beside : (as_ bs ns ms : List (List ℕ)) → as_ ≡ ns → bs ≡ ms → starts_with bytes_eq as_ bs ≡ starts_with bytes_eq ns ms
beside as_ bs ns ms e f = ap (λ xs. starts_with bytes_eq xs bs) e ∙ ap (starts_with bytes_eq ns) f

ends_at : (x : ℕ) (xs : List ℕ) (b : Bool) → (x == 47) ≡ b → (x == 47) ≡ starts_with bytes_eq (names_in (x ∷ xs)) ([] ∷ [])
ends_at x xs true e = e ∙ sym (beside (names_in (x ∷ xs)) ([] ∷ []) ([] ∷ names_in xs) ([] ∷ []) (yes x xs e) refl)
ends_at x xs false e =
    let o = names-some xs in
    e ∙ sym (beside (names_in (x ∷ xs)) ([] ∷ []) ((x ∷ o.0) ∷ o.1) ([] ∷ []) (no x xs o.0 o.1 e o.2) refl)

step : (x y : ℕ) (xs ys p q : List ℕ) (ps qs : List (List ℕ)) (b c : Bool) → (x == 47) ≡ b → (y == 47) ≡ c → names_in xs ≡ p ∷ ps → names_in ys ≡ q ∷ qs → goes_through xs ys ≡ starts_with bytes_eq (names_in xs) (names_in ys) → (x == y && goes_through xs ys) ≡ starts_with bytes_eq (names_in (x ∷ xs)) (names_in (y ∷ ys))
step x y xs ys p q ps qs true true e f h k ih =
    ap (λ t. t && goes_through xs ys) (both_slash x y e f) ∙ (ih ∙ sym (beside (names_in (x ∷ xs)) (names_in (y ∷ ys)) ([] ∷ names_in xs) ([] ∷ names_in ys) (yes x xs e) (yes y ys f)))
step x y xs ys p q ps qs true false e f h k ih =
    ap (λ t. t && goes_through xs ys) (left_slash x y e f) ∙ sym (beside (names_in (x ∷ xs)) (names_in (y ∷ ys)) ([] ∷ names_in xs) ((y ∷ q) ∷ qs) (yes x xs e) (no y ys q qs f k))
step x y xs ys p q ps qs false true e f h k ih =
    ap (λ t. t && goes_through xs ys) (right_slash x y e f) ∙ sym (beside (names_in (x ∷ xs)) (names_in (y ∷ ys)) ((x ∷ p) ∷ ps) ([] ∷ names_in ys) (no x xs p ps e h) (yes y ys f))
step x y xs ys p q ps qs false false e f h k ih =
    let below : goes_through xs ys ≡ (bytes_eq q p && starts_with bytes_eq ps qs) = ih ∙ beside (names_in xs) (names_in ys) (p ∷ ps) (q ∷ qs) h k in
    ap (λ t. t && goes_through xs ys) (turned x y) ∙ (ap (λ t. (y == x) && t) below ∙ (grouped (y == x) (bytes_eq q p) (starts_with bytes_eq ps qs)
    ∙ sym (beside (names_in (x ∷ xs)) (names_in (y ∷ ys)) ((x ∷ p) ∷ ps) ((y ∷ q) ∷ qs) (no x xs p ps e h) (no y ys q qs f k))))

-- the names of a text begin with those of another
pub through_names : (text other : List ℕ) → goes_through text other ≡ starts_with bytes_eq (names_in text) (names_in other)
through_names [] [] = refl
through_names (x ∷ xs) [] = ends_at x xs (x == 47) refl
through_names [] (y ∷ ys) = none_through y ys (y == 47) refl where
  none_through : (y : ℕ) (ys : List ℕ) (b : Bool) → (y == 47) ≡ b → false ≡ starts_with bytes_eq ([] ∷ []) (names_in (y ∷ ys))
  none_through y ys true e = let o = names-some ys in sym (beside ([] ∷ []) (names_in (y ∷ ys)) ([] ∷ []) ([] ∷ o.0 ∷ o.1) refl (yes y ys e ∙ ap (λ ns. [] ∷ ns) o.2))
  none_through y ys false e = let o = names-some ys in sym (beside ([] ∷ []) (names_in (y ∷ ys)) ([] ∷ []) ((y ∷ o.0) ∷ o.1) refl (no y ys o.0 o.1 e o.2))
through_names (x ∷ xs) (y ∷ ys) =
    let o = names-some xs in
    let m = names-some ys in
    step x y xs ys o.0 m.0 o.1 m.1 (x == 47) (y == 47) refl refl o.2 m.2 (through_names xs ys)
