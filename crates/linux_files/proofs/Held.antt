-- How many calls hold a description, by all rows.
use Rattle.file_calls.specs.FileSteps.{FewCalls}
use Rattle.file_model.specs.Files.{Files, no_description}
use Rattle.file_model.specs.declared.descriptions.Description.{Description}
use Rattle.file_tree.proofs.Members.{In, at-in}
use Rattle.mck_word.specs.Maps.{at, entries}
use Rattle.std.proofs.Common.{ap, arith, inl, inr, refl, sym, ◌∙◌}
use Rattle.std.proofs.lemmas.Bool.Decides.{nat_tests}
use Rattle.std.proofs.lemmas.Bool.{true≢false}
use Rattle.std.specs.List.{list_all}
use Rattle.std.specs.Prelude.{Bool, List, None, Option, Some, [], false, nat_lt, true, unwrap_or, ℕ, ◌&&◌, ◌-◌, ◌<◌, ◌^◌, ◌∷◌, ◌≡◌}

all-in : {A : Type 0} (p : A → Bool) (xs : List A) → list_all p xs ≡ true → (x : A) → In x xs → p x ≡ true
all-in p [] h x i = absurd i
all-in p (y ∷ ys) h x i = go (p y) refl (all-in p ys) h i
  where
    go : (b : Bool) → p y ≡ b → (list_all p ys ≡ true → (x : _) → In x ys → p x ≡ true) → (b && list_all p ys) ≡ true → In x (y ∷ ys) → p x ≡ true
    go true e rest h (inl same) = ap p (sym same) ∙ e
    go true e rest h (inr j) = rest h x j
    go false e rest h j = absurd (true≢false (sym h))

pub few-by-rows : (files : Files) → list_all (λ (e : ℕ × Description). nat_lt e.1.calls (2 ^ 32 - 1)) (entries files.descriptions) ≡ true → FewCalls files
few-by-rows files h d = go (at files.descriptions d) refl
  where
    below : (n : ℕ) → nat_lt n (2 ^ 32 - 1) ≡ true → n < 2 ^ 32 - 1
    below n e = grind (arith, nat_tests, e)

    go : (o : Option Description) → at files.descriptions d ≡ o → (unwrap_or o no_description).calls < 2 ^ 32 - 1
    go None e = omega arith
    go (Some x) e = below x.calls (all-in _ (entries files.descriptions) h (d, x) (at-in files.descriptions d x e))
