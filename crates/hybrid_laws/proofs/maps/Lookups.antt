-- What a search over the rows of a map finds, and what a test of all rows says of each.
use Rattle.std.specs.FinMap as finmap
use Rattle.std.specs.FinMap.Entries as fin
use Rattle.hybrid_laws.proofs.memory.Written.{each-entry}
use Rattle.hybrid_model.specs.Intake.{caller_of}
use Rattle.hybrid_model.specs.Sides.{Caller}
use Rattle.hybrid_model.specs.Tallies.{Each}
use Rattle.mck_word.specs.Maps.{Map, at, entries, some_row}
use Rattle.std.proofs.Common.{ap, arith, refl, subst, sym, ◌∙◌}
use Rattle.std.proofs.lemmas.Bool.Decides.{nat_tests}
use Rattle.std.specs.Cmp.{unsigned_tied}
use Rattle.std.specs.List.{list_any}
use Rattle.std.specs.Ordering.{nat_cmp}
use Rattle.std.specs.Prelude.{Bool, List, None, Option, Some, [], cond, false, find, option_map, true, ℕ, ◌==◌, ◌||◌, ◌∷◌, ◌≡◌}

module _ {V : Type 0} where
  each-find : (P : ℕ × V → Type 0) (k : ℕ) (v : V) (es : List (ℕ × V)) → Each P es → fin.find nat_cmp k es ≡ Some v → P (k, v)
  each-find P k v [] h e = absurd (grind (arith, e))
  each-find P k v (x ∷ es) h e = go (k == x.0) refl (sym (ap (λ c. cond c (Some x.1) (fin.find nat_cmp k es)) (unsigned_tied k x.0)) ∙ e) (each-find P k v es h.1)
    where
      go : (b : Bool) → (k == x.0) ≡ b → cond b (Some x.1) (fin.find nat_cmp k es) ≡ Some v → (fin.find nat_cmp k es ≡ Some v → P (k, v)) → P (k, v)
      go true f g i =
          let a : x.0 ≡ k = grind (arith, nat_tests, f) in
          let b : x.1 ≡ v = cc in
          let c : x ≡ (k, v) = (λ j. (a j, b j)) in
          subst P c h.0
      go false f g i = i g

  -- what holds of each entry holds of each row
  pub each-at : (P : ℕ × V → Type 0) (m : Map V) (k : ℕ) (v : V) → Each P (entries m) → at m k ≡ Some v → P (k, v)
  each-at P m k v h e = each-find P k v (entries m) h (sym (finmap.get-entries m k) ∙ e)

  -- a search that ends without an entry, and one that finds one
  pub found-none : (test : ℕ × V → Bool) (es : List (ℕ × V)) → find test es ≡ None → Each (λ e. test e ≡ false) es
  found-none test [] h = tt
  found-none test (x ∷ es) h = go (test x) refl h (found-none test es)
    where
      go : (b : Bool) → test x ≡ b → cond b (Some x) (find test es) ≡ None → (find test es ≡ None → Each (λ e. test e ≡ false) es) → Each (λ e. test e ≡ false) (x ∷ es)
      go true e k i = absurd (grind (arith, k))
      go false e k i = (e, i k)

  pub found-some : (test : ℕ × V → Bool) (P : ℕ × V → Type 0) (es : List (ℕ × V)) (y : ℕ × V) → Each P es → find test es ≡ Some y → P y × (test y ≡ true)
  found-some test P [] y h e = absurd (grind (arith, e))
  found-some test P (x ∷ es) y h e = go (test x) refl e (found-some test P es y h.1)
    where
      go : (b : Bool) → test x ≡ b → cond b (Some x) (find test es) ≡ Some y → (find test es ≡ Some y → P y × (test y ≡ true)) → P y × (test y ≡ true)
      go true f k i = let g : x ≡ y = cc in (subst P g h.0, ap test (sym g) ∙ f)
      go false f k i = i k

  none-any : (test : ℕ × V → Bool) (es : List (ℕ × V)) → list_any test es ≡ false → Each (λ e. test e ≡ false) es
  none-any test [] h = tt
  none-any test (x ∷ es) h = go (test x) refl h (none-any test es)
    where
      go : (b : Bool) → test x ≡ b → (b || list_any test es) ≡ false → (list_any test es ≡ false → Each (λ e. test e ≡ false) es) → Each (λ e. test e ≡ false) (x ∷ es)
      go true e k i = absurd (grind (arith, k))
      go false e k i = (e, i k)

  -- no row passes
  pub no-row : (test : ℕ → V → Bool) (m : Map V) → some_row test m ≡ false → (k : ℕ) (v : V) → at m k ≡ Some v → test k v ≡ false
  no-row test m h k v e = each-at (λ (x : ℕ × V). test x.0 x.1 ≡ false) m k v (none-any (λ (x : ℕ × V). test x.0 x.1) (entries m) h) e

-- ---- the thread that calls with a request
pub record CallerIs (callers : Map Caller) (q t : ℕ) : Type 0 where
  pub caller : Caller
  pub calls : at callers t ≡ Some caller
  pub number : caller.request ≡ q
  pub found : caller_of callers q ≡ Some t

pub caller-found : (callers : Map Caller) (q t : ℕ) (c : Caller) → ((t u : ℕ) (c d : Caller) → at callers t ≡ Some c → at callers u ≡ Some d → c.request ≡ d.request → t ≡ u) → at callers t ≡ Some c → c.request ≡ q → CallerIs callers q t
caller-found callers q t c alone calls number = record { caller = c; calls = calls; number = number; found = go (find (λ (e : ℕ × Caller). e.1.request == q) (entries callers)) refl }
  where
    go : (o : Option (ℕ × Caller)) → find (λ (e : ℕ × Caller). e.1.request == q) (entries callers) ≡ o → option_map (λ (e : ℕ × Caller). e.0) o ≡ Some t
    go None e = absurd (let k = each-at (λ (x : ℕ × Caller). (x.1.request == q) ≡ false) callers t c (found-none (λ (x : ℕ × Caller). x.1.request == q) (entries callers) e) calls in grind (arith, nat_tests, k, number))
    go (Some y) e =
        let k = found-some (λ (x : ℕ × Caller). x.1.request == q) (λ (x : ℕ × Caller). at callers x.0 ≡ Some x.1) (entries callers) y (each-entry callers) e in
        let n : y.1.request ≡ c.request = (let f : y.1.request ≡ q = grind (arith, nat_tests, k.1) in f ∙ sym number) in
        ap Some (alone y.0 t y.1 c k.0 calls n)
