-- Lists at the boot: their first elements, and those that are left.
use Rattle.std.proofs.Common.{All, ap, arith, refl, subst}
use Rattle.std.specs.Prelude.{List, [], map, suc, ◌++◌, ◌∷◌, ◌≡◌}

pub all-first : {X : Type 0} (P : X → Type 0) (xs ys : List X) (x : X) → xs ≡ x ∷ ys → All P xs → P x
all-first P xs ys x e h = let all : All P (x ∷ ys) = subst (All P) e h in all 0 x (omega arith)

pub all-rest : {X : Type 0} (P : X → Type 0) (xs ys : List X) (x : X) → xs ≡ x ∷ ys → All P xs → All P ys
all-rest P xs ys x e h = let all : All P (x ∷ ys) = subst (All P) e h in λ k d l. all (suc k) d (omega arith)

pub map-more : {A B : Type 0} (f : A → B) (done : List A) (x : A) (rest : List B) → map f (done ++ (x ∷ [])) ++ rest ≡ map f done ++ (f x ∷ rest)
map-more f [] x rest = refl
map-more f (d ∷ done) x rest = ap (λ xs. f d ∷ xs) (map-more f done x rest)
