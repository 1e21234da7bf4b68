-- The names of a text, one after another.
use Rattle.file_calls.specs.Names.{first_name_at, run_length}
use Rattle.file_model.specs.Files.{Name}
use Rattle.file_model.specs.Paths.{names_of, runs, slash}
use Rattle.std.proofs.Common.{◌≡◌, ◌≢◌, ◌≤◌, ◌-◌, get_or, inl, inr, subst, ℕ, zero, suc, Bool, true, false, cond, not, List, [], ◌∷◌, ◌++◌, length, take, drop, refl, sym, ap, ◌∙◌, append_assoc, min, arith}
use Rattle.std.proofs.lemmas.Bool.Decides.{nat_tests}
use Rattle.std.proofs.lemmas.List.{append-nil}
use Rattle.std.proofs.Math.Seq.{drop-length, take-length, take-suc}
use Rattle.std.proofs.lemmas.Bool.{cases_lt}
use Rattle.std.proofs.lemmas.List.{length-drop, take-append-drop}
use Rattle.std.proofs.lemmas.List.Elements.{filter-append}
use Rattle.std.specs.Prelude.{filter, ◌==◌, ◌<◌}

abbrev full : List ℕ → Bool
full n = not (length n == 0)

names-slash : (b : ℕ) (bs : List ℕ) → (b == slash) ≡ true → names_of (b ∷ bs) ≡ names_of bs
names-slash b bs e = ap (λ v. filter full (cond v ([] ∷ runs [] bs) (runs (b ∷ []) bs))) e

-- slashes at the front are passed over
pub names-front : (t : List ℕ) → names_of t ≡ names_of (drop (first_name_at t) t)
names-front [] = refl
names-front (b ∷ bs) = elim (b == slash) as (λ v. (b == slash) ≡ v → names_of (b ∷ bs) ≡ names_of (drop (cond v (suc (first_name_at bs)) 0) (b ∷ bs)))
    [ true ↦ λ e. names-slash b bs e ∙ names-front bs | false ↦ λ e. refl ] refl

abbrev behind : List ℕ → List ℕ
behind t = drop 1 (drop (run_length t) t)

abbrev with_front : List ℕ → List ℕ → List Name
with_front run t = cond (full run) (run ∷ names_of (behind t)) (names_of (behind t))

-- the run at the front, behind what was read of it before
runs-first : (run t : List ℕ) → filter full (runs run t) ≡ with_front (run ++ take (run_length t) t) t
runs-first run [] = ap (λ (r : List ℕ). with_front r []) (sym (append-nil run))
runs-first run (b ∷ bs) = elim (b == slash) as (λ v. filter full (cond v (run ∷ runs [] bs) (runs (run ++ b ∷ []) bs))
    ≡ (let t = b ∷ bs in let k = cond v 0 (suc (run_length bs)) in let r = run ++ take k t in cond (full r) (r ∷ names_of (drop 1 (drop k t))) (names_of (drop 1 (drop k t))))) [
      | true ↦ ap (λ (r : List ℕ). cond (full r) (r ∷ names_of bs) (names_of bs)) (sym (append-nil run))
      | false ↦ runs-first (run ++ b ∷ []) bs ∙ ap (λ (r : List ℕ). with_front r bs) (append_assoc run (b ∷ []) (take (run_length bs) bs))
    ]

never_empty : (xs : List ℕ) (n : ℕ) → (length xs == 0) ≡ true → length xs ≡ suc n → ⊥
never_empty xs n e f = grind (arith, nat_tests, e, f)

front-empty : (t : List ℕ) → let r = drop (first_name_at t) t in (length (take (run_length r) r) == 0) ≡ true → r ≡ []
front-empty [] e = refl
front-empty (b ∷ bs) e = elim (b == slash) as (λ v. (b == slash) ≡ v → (let r = drop (cond v (suc (first_name_at bs)) 0) (b ∷ bs) in (length (take (run_length r) r) == 0) ≡ true → r ≡ [])) [
  | true ↦ λ s e. front-empty bs e
  | false ↦ λ s e. absurd (never_empty (b ∷ take (run_length bs) bs) (length (take (run_length bs) bs)) (sym (ap (λ v. length (take (cond v 0 (suc (run_length bs))) (b ∷ bs)) == 0) s) ∙ e) refl)
] refl e

pub no_name : (t r name : List ℕ) → r ≡ drop (first_name_at t) t → name ≡ take (run_length r) r → (length name == 0) ≡ true → names_of t ≡ []
no_name t r name er en e = names-front t ∙ ap names_of (front-empty t (sym (ap (λ (n : List ℕ). length n == 0) (en ∙ ap (λ (r : List ℕ). take (run_length r) r) er)) ∙ e))

less_first : (xs : List ℕ) → drop 1 xs ≡ drop (min (length xs) 1) xs
less_first [] = refl
less_first (x ∷ xs) = let e : min (suc (length xs)) 1 ≡ 1 = omega arith in ap (λ n. drop n (x ∷ xs)) (sym e)

pub first_name : (t r name rest : List ℕ) → r ≡ drop (first_name_at t) t → name ≡ take (run_length r) r → rest ≡ drop (run_length r) r → (length name == 0) ≡ false
    → names_of t ≡ name ∷ names_of (drop (min (length rest) 1) rest)
first_name t r name rest er en es f =
    names-front t ∙ ap names_of (sym er) ∙ runs-first [] r ∙ ap (λ (n : List ℕ). with_front n r) (sym en) ∙ ap (λ v. cond (not v) (name ∷ names_of (behind r)) (names_of (behind r))) f
    ∙ ap (λ (s : List ℕ). name ∷ names_of (drop 1 s)) (sym es) ∙ ap (λ (s : List ℕ). name ∷ names_of s) (less_first rest)

-- ---- from the end

runs-slash : (run a b : List ℕ) → runs run (a ++ slash ∷ b) ≡ runs run a ++ runs [] b
runs-slash run [] b = refl
runs-slash run (x ∷ a) b = elim (x == slash) as (λ v. cond v (run ∷ runs [] (a ++ slash ∷ b)) (runs (run ++ x ∷ []) (a ++ slash ∷ b)) ≡ cond v (run ∷ runs [] a) (runs (run ++ x ∷ []) a) ++ runs [] b)
    [ true ↦ ap (λ (rs : List Name). run ∷ rs) (runs-slash [] a b) | false ↦ runs-slash (run ++ x ∷ []) a b ]

pub names-slash-between : (a b : List ℕ) → names_of (a ++ slash ∷ b) ≡ names_of a ++ names_of b
names-slash-between a b = ap (filter full) (runs-slash [] a b) ∙ filter-append full (runs [] a) (runs [] b)

-- a slash at the end is passed over
pub names-final-slash : (a : List ℕ) → names_of (a ++ slash ∷ []) ≡ names_of a
names-final-slash a = names-slash-between a [] ∙ append-nil (names_of a)

never : (n : ℕ) → (suc n == 0) ≡ false
never n = grind (arith, nat_tests)

is_full : (r : List ℕ) → 0 < length r → full r ≡ true
is_full [] l = absurd (omega arith)
is_full (x ∷ r) l = ap not (never (length r))

-- a text without a slash is one name
names-one : (r : List ℕ) → run_length r ≡ length r → 0 < length r → names_of r ≡ r ∷ []
names-one r e l =
    runs-first [] r ∙ ap (λ k. cond (full (take k r)) (take k r ∷ names_of (drop 1 (drop k r))) (names_of (drop 1 (drop k r)))) e
    ∙ rw (take-length r, drop-length r) (rw (is_full r l) refl)

-- what stands before a slash, before and with it
names-cut : (b : List ℕ) (k : ℕ) → k < length b → get_or b k 0 ≡ slash → names_of b ≡ names_of (take (suc k) b) ++ names_of (drop (suc k) b)
names-cut b k l s =
    let front : take (suc k) b ≡ take k b ++ slash ∷ [] = take-suc b k 0 l ∙ ap (λ x. take k b ++ x ∷ []) s in
    ap names_of (sym (take-append-drop (suc k) b) ∙ ap (λ (f : List ℕ). f ++ drop (suc k) b) front ∙ append_assoc (take k b) (slash ∷ []) (drop (suc k) b))
    ∙ names-slash-between (take k b) (drop (suc k) b)
    ∙ ap (λ (ns : List Name). ns ++ names_of (drop (suc k) b)) (sym (names-final-slash (take k b)) ∙ ap names_of (sym front))

module _ (b : List ℕ) (at : ℕ) (run : run_length (drop at b) ≡ length b - at) where
  -- the last name and what stands before it
  pub names-last : at ≤ length b → (0 < at → get_or b (at - 1) 0 ≡ slash) → 0 < length b → get_or b (length b - 1) 0 ≢ slash
      → names_of b ≡ names_of (take at b) ++ drop at b ∷ []
  names-last within cut full_b final = by_at at refl
    where
      rest-len : length (drop at b) ≡ length b - at
      rest-len = length-drop at b

      before_end : 0 < at → at < length b
      before_end p = elim (cases_lt at (length b)) [ inl l ↦ l | inr g ↦ absurd (final (let e : length b - 1 ≡ at - 1 = omega arith in ap (λ i. get_or b i 0) e ∙ cut p)) ]

      last-one : at < length b → names_of (drop at b) ≡ drop at b ∷ []
      last-one l = names-one (drop at b) (run ∙ sym rest-len) (omega (arith, rest-len))

      by_at : (k : ℕ) → at ≡ k → names_of b ≡ names_of (take at b) ++ drop at b ∷ []
      by_at zero e = subst (λ i. names_of b ≡ names_of (take i b) ++ drop i b ∷ []) (sym e) (subst (λ i. names_of (drop i b) ≡ drop i b ∷ []) e (last-one (omega arith)))
      by_at (suc k) e =
          let before : at < length b = before_end (omega arith) in
          let at_k : get_or b k 0 ≡ slash = (let f : k ≡ at - 1 = omega arith in ap (λ i. get_or b i 0) f ∙ cut (omega arith)) in
          names-cut b k (omega arith) at_k ∙ ap (λ i. names_of (take i b) ++ names_of (drop i b)) (sym e) ∙ ap (λ (ns : List Name). names_of (take at b) ++ ns) (last-one before)

-- a slash at the end of the text read so far
pub names-trim : (t : List ℕ) (k e : ℕ) → e ≡ suc k → e ≤ length t → get_or t k 0 ≡ slash → names_of (take k t) ≡ names_of (take e t)
names-trim t k e is l s =
    let front : take e t ≡ take k t ++ slash ∷ [] = ap (λ i. take i t) is ∙ take-suc t k 0 (omega arith) ∙ ap (λ x. take k t ++ x ∷ []) s in
    sym (ap names_of front ∙ names-final-slash (take k t))
