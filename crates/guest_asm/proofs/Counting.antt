-- Lists that count up, with one number more.
use Rattle.std.proofs.Common.{◌≡◌, ℕ, zero, suc, ◌+◌, ◌-◌, ◌≤◌, List, [], ◌∷◌, ◌++◌, map, sym, ◌∙◌, ap, arith}
use Rattle.std.proofs.lemmas.List.{map-append}
use Rattle.mck_word.specs.Lists.{count_from}

count_push : (n k : ℕ) → count_from n (suc k) ≡ count_from n k ++ (n + k) ∷ []
count_push n zero = let e : n ≡ n + 0 = omega arith in ap (λ m. m ∷ []) e
count_push n (suc k) =
    let e : n + 1 + k ≡ n + suc k = omega arith in
    ap (λ ms. n ∷ ms) (count_push (n + 1) k ∙ ap (λ m. count_from (n + 1) k ++ m ∷ []) e)

pub counted_more : {X : Type 0} (f : ℕ → X) (g : ℕ) (old new : List X) → 1 ≤ g → old ≡ map f (count_from 1 (g - 1)) → new ≡ old ++ f g ∷ [] → new ≡ map f (count_from 1 (g + 1 - 1))
counted_more f g old new h e k =
    let last : 1 + (g - 1) ≡ g = omega arith in
    let next : g + 1 - 1 ≡ suc (g - 1) = omega arith in
    let whole : count_from 1 (g + 1 - 1) ≡ count_from 1 (g - 1) ++ g ∷ [] = ap (count_from 1) next ∙ (count_push 1 (g - 1) ∙ ap (λ m. count_from 1 (g - 1) ++ m ∷ []) last) in
    k ∙ (ap (λ xs. xs ++ f g ∷ []) e ∙ sym (ap (map f) whole ∙ map-append f (count_from 1 (g - 1)) (g ∷ [])))
