-- Present pages of a range, counted from a page on.
use Rattle.hybrid_laws.proofs.maps.Sums.{counted_at, total-cut-by}
use Rattle.hybrid_laws.proofs.memory.Effects.{count-inside, inside}
use Rattle.hybrid_laws.proofs.memory.Written.{each-entry}
use Rattle.hybrid_model.specs.Tallies.{Each}
use Rattle.isa_model.specs.Memory.{Memory, Page}
use Rattle.kernel_model.specs.MemoryCalls.{count_present}
use Rattle.kernel_model.specs.Pages.{range}
use Rattle.mck_word.specs.MapLaws.{at-cut}
use Rattle.mck_word.specs.Maps.{at, cut, entries, keys}
use Rattle.mck_word.specs.Pages.{in_range}
use Rattle.mck_word.specs.declared.PageRange.{PageRange}
use Rattle.std.proofs.Common.{ap, arith, inl, inr, refl, sym, ◌∙◌}
use Rattle.std.proofs.lemmas.Bool.Decides.{nat_tests}
use Rattle.std.proofs.lemmas.Bool.{cases_eq, cases_lt}
use Rattle.std.specs.Prelude.{Bool, List, None, Option, Some, [], cond, false, filter, if◌then◌else◌, is_some, length, map, suc, true, zero, ℕ, ◌+◌, ◌<◌, ◌==◌, ◌∷◌, ◌≡◌, ◌≤◌}

-- two tests that agree on the keys
count-same : (m : Memory) (f g : ℕ → Bool) → ((k : ℕ) (x : Page) → at m k ≡ Some x → f k ≡ g k) → ◌≡◌ {A = ℕ} (length (filter f (keys m))) (length (filter g (keys m)))
count-same m f g h = go (entries m) (each-entry m)
  where
    step : (a b : Bool) (k : ℕ) (xs ys : List ℕ) → a ≡ b → ◌≡◌ {A = ℕ} (length xs) (length ys) → ◌≡◌ {A = ℕ} (length (cond a (k ∷ xs) xs)) (length (cond b (k ∷ ys) ys))
    step true true k xs ys e l = omega (arith, l)
    step true false k xs ys e l = absurd (grind (arith, e))
    step false true k xs ys e l = absurd (grind (arith, e))
    step false false k xs ys e l = l

    go : (es : List (ℕ × Page)) → Each (λ (e : ℕ × Page). at m e.0 ≡ Some e.1) es
        → ◌≡◌ {A = ℕ} (length (filter f (map (λ (e : ℕ × Page). e.0) es))) (length (filter g (map (λ (e : ℕ × Page). e.0) es)))
    go [] k = refl
    go (e ∷ es) k = step (f e.0) (g e.0) e.0 (filter f (map (λ (x : ℕ × Page). x.0) es)) (filter g (map (λ (x : ℕ × Page). x.0) es)) (h e.0 e.1 k.0) (go es k.1)

-- no page of the range is there
pub none-counted : (m : Memory) (r : PageRange) → ((j : ℕ) → in_range r j ≡ true → at m j ≡ None) → count_present m r ≡ 0
none-counted m r h = count-same m (in_range r) (λ _. false) (λ k x e. off k x e (in_range r k) refl) ∙ none-of (keys m)
  where
    off : (k : ℕ) (x : Page) → at m k ≡ Some x → (b : Bool) → in_range r k ≡ b → in_range r k ≡ false
    off k x e false f = f
    off k x e true f = absurd (let t = sym (h k f) ∙ e in grind (arith, t))

    none-of : (ks : List ℕ) → ◌≡◌ {A = ℕ} (length (filter (λ (_ : ℕ). false) ks)) 0
    none-of [] = refl
    none-of (k ∷ ks) = none-of ks

-- pages that are absent are passed over
pub count-skip : (m : Memory) (from page hi : ℕ) → from ≤ page → ((j : ℕ) → from ≤ j → j < page → at m j ≡ None) → count_present m (range from hi) ≡ count_present m (range page hi)
count-skip m from page hi l none = count-same m (in_range (range from hi)) (in_range (range page hi)) same
  where
    same : (k : ℕ) (x : Page) → at m k ≡ Some x → in_range (range from hi) k ≡ in_range (range page hi) k
    same k x e = elim (cases_lt k from) [
      | inl low ↦ grind (arith, nat_tests, low, l)
      | inr high ↦ elim (cases_lt k page) [
        | inl between ↦ absurd (let t = sym (none k high between) ∙ e in grind (arith, t))
        | inr above ↦ grind (arith, nat_tests, high, above)
      ]
    ]

-- a page that is there counts
pub count-here : (m : Memory) (page hi : ℕ) (x : Page) → at m page ≡ Some x → page < hi → count_present m (range page hi) ≡ count_present m (range (page + 1) hi) + 1
count-here m page hi x there l =
    let inside-is : in_range (range page hi) page ≡ true = grind (arith, nat_tests, l) in
    let outside-is : in_range (range (page + 1) hi) page ≡ false = grind (arith, nat_tests) in
    let one : counted_at (inside (range page hi)) page (at m page) ≡ 1 = ap (counted_at (inside (range page hi)) page) there ∙ ap (λ (b : Bool). if b then 1 else 0) inside-is in
    let none : counted_at (inside (range (page + 1) hi)) page (at m page) ≡ 0 = ap (counted_at (inside (range (page + 1) hi)) page) there ∙ ap (λ (b : Bool). if b then 1 else 0) outside-is in
    let a = total-cut-by (inside (range page hi)) m page in
    let b = total-cut-by (inside (range (page + 1) hi)) m page in
    let same = count-skip (cut m page) page (page + 1) hi (omega arith) gone in
    let s = count-inside (range page hi) (cut m page) in
    let t = count-inside (range (page + 1) hi) (cut m page) in
    let u = count-inside (range page hi) m in
    let v = count-inside (range (page + 1) hi) m in
    omega (arith, one, none, a, b, same, s, t, u, v)
  where
    gone : (j : ℕ) → page ≤ j → j < page + 1 → at (cut m page) j ≡ None
    gone j low high =
        let e : (j == page) ≡ true = grind (arith, nat_tests, low, high) in
        at-cut m page j ∙ ap (λ b. cond b None (at m j)) e

-- a range has no more pages than that, and where it has as many each is there
pub count-most : (m : Memory) (n lo : ℕ) → count_present m (range lo (lo + n)) ≤ n
count-most m zero lo = let z = none-counted m (range lo (lo + 0)) (λ j e. absurd (empty lo j e)) in omega (arith, z)
  where
    empty : (lo j : ℕ) → in_range (range lo (lo + 0)) j ≡ true → ⊥
    empty lo j e = grind (arith, nat_tests, e)
count-most m (suc n) lo = go (let next : lo + suc n ≡ lo + 1 + n = omega arith in let e = ap (λ (hi : ℕ). count_present m (range (lo + 1) hi)) next in let b = count-most m n (lo + 1) in omega (arith, e, b)) (at m lo) refl
  where
    go : count_present m (range (lo + 1) (lo + suc n)) ≤ n → (o : Option Page) → at m lo ≡ o → count_present m (range lo (lo + suc n)) ≤ suc n
    go rest None e = let s = count-skip m lo (lo + 1) (lo + suc n) (omega arith) (λ j a b. let i : j ≡ lo = omega (arith, a, b) in ap (at m) i ∙ e) in omega (arith, s, rest)
    go rest (Some x) e = let s = count-here m lo (lo + suc n) x e (omega arith) in omega (arith, s, rest)

pub all-there : (m : Memory) (n lo : ℕ) → count_present m (range lo (lo + n)) ≡ n → (j : ℕ) → lo ≤ j → j < lo + n → is_some (at m j) ≡ true
all-there m zero lo e j a b = absurd (omega (arith, a, b))
all-there m (suc n) lo e j a b = go (at m lo) refl (λ f c. all-there m n (lo + 1) f j c (omega (arith, b)))
  where
    next : count_present m (range (lo + 1) (lo + suc n)) ≡ count_present m (range (lo + 1) (lo + 1 + n))
    next = let l : lo + suc n ≡ lo + 1 + n = omega arith in ap (λ (hi : ℕ). count_present m (range (lo + 1) hi)) l

    go : (o : Option Page) → at m lo ≡ o → (count_present m (range (lo + 1) (lo + 1 + n)) ≡ n → lo + 1 ≤ j → is_some (at m j) ≡ true) → is_some (at m j) ≡ true
    go None f rest = absurd (let s = count-skip m lo (lo + 1) (lo + suc n) (omega arith) (λ i c d. let k : i ≡ lo = omega (arith, c, d) in ap (at m) k ∙ f) in let most = count-most m n (lo + 1) in omega (arith, s, e, next, most))
    go (Some x) f rest = elim (cases_eq j lo) [
      | inl same ↦ ap is_some (ap (at m) same ∙ f)
      | inr other ↦
          let s = count-here m lo (lo + suc n) x f (omega arith) in
          rest (omega (arith, s, e, next)) (omega (arith, a, other))
    ]
