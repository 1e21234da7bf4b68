-- Consoles by the numbers of their guests.
use Rattle.file_model.specs.Files.{Console}
use Rattle.mck_word.specs.MapLaws.{at-none, at-put}
use Rattle.mck_word.specs.Maps.{Map, at, keys, no_rows, put}
use Rattle.one_files.specs.Guests.{AreOfGuests}
use Rattle.std.proofs.Common.{ap, arith, inl, inr, refl, sym, ◌∙◌}
use Rattle.std.proofs.lemmas.Bool.Decides.{nat_tests}
use Rattle.std.proofs.lemmas.Bool.{cases_lt, eq-eqb, or_right, true≢false}
use Rattle.std.specs.Cmp.{unsigned_tied}
use Rattle.std.specs.FinMap as finmap
use Rattle.std.specs.List.{list_any}
use Rattle.std.specs.Ordering.{eq_by_cmp, nat_cmp}
use Rattle.std.specs.Prelude.{List, Some, [], cond, false, is_some, slice_get, suc, true, zero, ℕ, ◌<◌, ◌==◌, ◌^◌, ◌≡◌, ◌∷◌}

pub no-consoles : AreOfGuests no_rows
no-consoles k up = at-none k

pub console-put : (m : Map Console) → AreOfGuests m → (guest : ℕ) (c : Console) → guest < 2 ^ 32 → AreOfGuests (put m guest c)
console-put m h guest c fits = λ k up. (let e : (k == guest) ≡ false = grind (arith, nat_tests, up, fits) in at-put m guest c k ∙ ap (λ b. cond b (Some c) (at m k)) e ∙ h k up)

stands : (k : ℕ) (ks : List ℕ) (i : ℕ) → slice_get ks i ≡ Some k → list_any (eq_by_cmp nat_cmp k) ks ≡ true
stands k [] i h = absurd (true≢false (sym (ap is_some h)))
stands k (x ∷ ks) zero h = let same : k ≡ x = cc in rw (unsigned_tied k x, eq-eqb k x same) refl
stands k (x ∷ ks) (suc i) h = or_right (eq_by_cmp nat_cmp k x) (list_any (eq_by_cmp nat_cmp k) ks) (stands k ks i h)

-- the key at a place is that of a guest
pub key-fits : (m : Map Console) → AreOfGuests m → (i k : ℕ) → slice_get (keys m) i ≡ Some k → k < 2 ^ 32
key-fits m h i k e = elim (cases_lt k (2 ^ 32)) [
  | inl l ↦ l
  | inr up ↦ absurd (true≢false (sym (finmap.contains_key-keys m k ∙ stands k (keys m) i e) ∙ ap is_some (h k up)))
]
