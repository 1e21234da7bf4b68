-- Rows of descriptors, and what is lent.
use Rattle.mck_word.specs.MapLaws.{at-none}
use Rattle.mck_word.specs.Maps.{Map, at, cut, no_rows, put}
use Rattle.std.proofs.Common.{◌≡◌, ◌∙◌, ℕ, true, false, Bor, Option, Some, None, ap, refl, sym}
use Rattle.std.proofs.lemmas.Bool.{true≢false}
use Rattle.std.specs.Option.{option_copied}
use Rattle.std.specs.Prelude.{IfSome, is_some, unwrap_or}

pub named-none : (m : Map (Map ℕ)) (k fd : ℕ) → at m k ≡ None → at (unwrap_or (at m k) no_rows) fd ≡ None
named-none m k fd h = ap (λ (o : Option (Map ℕ)). at (unwrap_or o no_rows) fd) h ∙ at-none fd

-- a process that has a descriptor has a row
pub has-row : (m : Map (Map ℕ)) (k fd : ℕ) → is_some (at (unwrap_or (at m k) no_rows) fd) ≡ true → is_some (at m k) ≡ true
has-row m k fd h = go (at m k) refl
  where
    go : (o : Option (Map ℕ)) → at m k ≡ o → is_some o ≡ true
    go None e = sym (ap is_some (named-none m k fd e)) ∙ h
    go (Some x) e = refl

-- a row without one of its keys
pub cut-row : (m : Map (Map ℕ)) (k fd : ℕ) (v w : Map ℕ) → at m k ≡ Some v → w ≡ cut v fd → put m k w ≡ put m k (cut (unwrap_or (at m k) no_rows) fd)
cut-row m k fd v w e is = ap (put m k) is ∙ ap (λ (o : Option (Map ℕ)). put m k (cut (unwrap_or o no_rows) fd)) (sym e)

-- what is lent says whether it is there
pub lent-none : {X : Type 0} (o : Option (Bor X)) (q : Option X) → option_copied o ≡ q → is_some o ≡ false → q ≡ None
lent-none None q e h = sym e
lent-none (Some x) q e h = absurd (true≢false h)

pub if-lent : {X : Type 0} (P : Type 0) (o : Option (Bor X)) (q : Option X) → option_copied o ≡ q → (is_some q ≡ true → P) → IfSome o (λ _. P)
if-lent P None q e h = tt
if-lent P (Some x) q e h = h (sym (ap is_some e))
