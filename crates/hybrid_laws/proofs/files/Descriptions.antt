-- How the calls that hold a description are counted, where the descriptions change.
use Rattle.file_model.specs.Files.{no_description}
use Rattle.file_model.specs.declared.descriptions.Description.{Description}
use Rattle.hybrid_laws.specs.CallSteps.{Carries, holds_it}
use Rattle.mck_word.specs.MapLaws.{at-collect, at-put}
use Rattle.mck_word.specs.Maps.{Map, and_then, at, change, change_row, collect, put}
use Rattle.std.proofs.Common.{ap, arith, inl, inr, refl, subst, sym, ◌∙◌}
use Rattle.std.proofs.lemmas.Bool.Decides.{nat_tests}
use Rattle.std.specs.Prelude.{Bool, None, Option, Some, cond, false, suc, true, unwrap_or, zero, ℕ, ◌+◌, ◌<◌, ◌==◌, ◌≡◌, ◌≤◌, ◌⊎◌}

pub carries-same : (o : Option ℕ) (ds : Map Description) → Carries o o ds ds
carries-same o ds = record { calls = λ d. refl; targets = λ d l. refl }

pub carries-then : (a b c : Option ℕ) (ds es fs : Map Description) → Carries a b ds es → Carries b c es fs → Carries a c ds fs
carries-then a b c ds es fs x y = record {
  calls = λ d. omega (arith, x.calls d, y.calls d);
  targets = λ d l. y.targets d (omega (arith, l, x.calls d)) ∙ x.targets d l;
}

-- the call goes on to hold what it held
pub carries-beside : (o : Option ℕ) (ds es : Map Description) → Carries None None ds es → Carries o o ds es
carries-beside o ds es x = record { calls = λ d. omega (arith, x.calls d); targets = λ d l. x.targets d (omega (arith, l)) }

-- what is said of each description that is looked up
module _ (before after : Option ℕ) (ds es : Map Description) (g : ℕ → Option Description → Option Description) (reads : (d : ℕ) → at es d ≡ g d (at ds d)) where
  pub carries-by : ((d : ℕ) (o : Option Description) → at ds d ≡ o → (unwrap_or (g d o) no_description).calls + holds_it d before ≡ (unwrap_or o no_description).calls + holds_it d after)
      → ((d : ℕ) (o : Option Description) → at ds d ≡ o → holds_it d before < (unwrap_or o no_description).calls → (unwrap_or (g d o) no_description).target ≡ (unwrap_or o no_description).target)
      → Carries before after ds es
  carries-by c t = record {
    calls = λ d. ap (λ (o : Option Description). (unwrap_or o no_description).calls + holds_it d before) (reads d) ∙ c d (at ds d) refl;
    targets = λ d l. ap (λ (o : Option Description). (unwrap_or o no_description).target) (reads d) ∙ t d (at ds d) refl l;
  }

-- descriptions that no call holds may go
pub carries-keep : (test : ℕ → Description → Bool) → ((d : ℕ) (x : Description) → 1 ≤ x.calls → test d x ≡ true) → (ds : Map Description) → Carries None None ds (collect (λ d x. cond (test d x) (Some x) None) ds)
carries-keep test used ds = carries-by None None ds (collect (λ d x. cond (test d x) (Some x) None) ds) (λ d o. and_then o (λ x. cond (test d x) (Some x) None)) (at-collect (λ d x. cond (test d x) (Some x) None) ds)
    (λ d o e. ap (λ n. n + 0) (counts d o)) (λ d o e l. stays d o l)
  where
    counts-one : (d : ℕ) (x : Description) (b : Bool) → test d x ≡ b → (n : ℕ) → x.calls ≡ n → (unwrap_or (cond b (Some x) None) no_description).calls ≡ x.calls
    counts-one d x true e n f = refl
    counts-one d x false e zero f = sym f
    counts-one d x false e (suc n) f = absurd (let u = used d x (omega (arith, f)) in grind (arith, u, e))

    counts : (d : ℕ) (o : Option Description) → (unwrap_or (and_then o (λ x. cond (test d x) (Some x) None)) no_description).calls ≡ (unwrap_or o no_description).calls
    counts d None = refl
    counts d (Some x) = counts-one d x (test d x) refl x.calls refl

    stays : (d : ℕ) (o : Option Description) → 0 < (unwrap_or o no_description).calls → (unwrap_or (and_then o (λ x. cond (test d x) (Some x) None)) no_description).target ≡ (unwrap_or o no_description).target
    stays d None l = refl
    stays d (Some x) l = ap (λ b. (unwrap_or (cond b (Some x) None) no_description).target) (used d x l)

-- a description that is new, under a number that none has
pub carries-new : (ds : Map Description) (n : ℕ) (y : Description) → y.calls ≡ 0 → at ds n ≡ None → Carries None None ds (put ds n y)
carries-new ds n y idle fresh = carries-by None None ds (put ds n y) (λ d o. cond (d == n) (Some y) o) (at-put ds n y)
    (λ d o e. ap (λ j. j + 0) (counts d o e (d == n) refl)) (λ d o e l. stays d o e l (d == n) refl)
  where
    nothing : (d : ℕ) (o : Option Description) → at ds d ≡ o → (d == n) ≡ true → o ≡ None
    nothing d o e f = let g : d ≡ n = grind (arith, nat_tests, f) in sym e ∙ ap (at ds) g ∙ fresh

    counts : (d : ℕ) (o : Option Description) → at ds d ≡ o → (b : Bool) → (d == n) ≡ b → (unwrap_or (cond b (Some y) o) no_description).calls ≡ (unwrap_or o no_description).calls
    counts d o e false f = refl
    counts d o e true f = idle ∙ sym (ap (λ (p : Option Description). (unwrap_or p no_description).calls) (nothing d o e f))

    stays : (d : ℕ) (o : Option Description) → at ds d ≡ o → 0 < (unwrap_or o no_description).calls → (b : Bool) → (d == n) ≡ b → (unwrap_or (cond b (Some y) o) no_description).target ≡ (unwrap_or o no_description).target
    stays d o e l false f = refl
    stays d o e l true f = absurd (let z = ap (λ (p : Option Description). (unwrap_or p no_description).calls) (nothing d o e f) in omega (arith, l, z))

-- what a map answers where the row of one number is changed
abbrev pub changed : ℕ → (Description → Description) → ℕ → Option Description → Option Description
changed n g d None = None
changed n g d (Some x) = Some (cond (d == n) (g x) x)

pub reads-change : (ds : Map Description) (n : ℕ) (g : Description → Description) (d : ℕ) → at (change ds n g) d ≡ changed n g d (at ds d)
reads-change ds n g d = go (at ds n) refl
  where
    same : (d : ℕ) (o : Option Description) → (o ≡ None ⊎ ((d == n) ≡ false)) → o ≡ changed n g d o
    same d None h = refl
    same d (Some x) (inl h) = absurd (grind (arith, h))
    same d (Some x) (inr h) = ap (λ b. Some (cond b (g x) x)) (sym h)

    go : (o : Option Description) → at ds n ≡ o → at (change_row ds n g o) d ≡ changed n g d (at ds d)
    go None e = by-key (d == n) refl
      where
        by-key : (b : Bool) → (d == n) ≡ b → at ds d ≡ changed n g d (at ds d)
        by-key true f = let z : d ≡ n = grind (arith, nat_tests, f) in same d (at ds d) (inl (ap (at ds) z ∙ e))
        by-key false f = same d (at ds d) (inr f)
    go (Some x) e = at-put ds n (g x) d ∙ by-key (d == n) refl
      where
        by-key : (b : Bool) → (d == n) ≡ b → cond b (Some (g x)) (at ds d) ≡ changed n g d (at ds d)
        by-key true f = let z : d ≡ n = grind (arith, nat_tests, f) in let y : at ds d ≡ Some x = ap (at ds) z ∙ e in rw (y, f) refl
        by-key false f = same d (at ds d) (inr f)

-- as many calls hold it as before
pub carries-set : (ds : Map Description) (n : ℕ) (g : Description → Description) → ((x : Description) → (g x).calls ≡ x.calls) → ((x : Description) → (g x).target ≡ x.target) → Carries None None ds (change ds n g)
carries-set ds n g c t = carries-by None None ds (change ds n g) (changed n g) (reads-change ds n g) (λ d o e. ap (λ j. j + 0) (counts d o)) (λ d o e l. stays d o)
  where
    counts-one : (x : Description) (b : Bool) → (cond b (g x) x).calls ≡ x.calls
    counts-one x true = c x
    counts-one x false = refl

    counts : (d : ℕ) (o : Option Description) → (unwrap_or (changed n g d o) no_description).calls ≡ (unwrap_or o no_description).calls
    counts d None = refl
    counts d (Some x) = counts-one x (d == n)

    stays-one : (x : Description) (b : Bool) → (cond b (g x) x).target ≡ x.target
    stays-one x true = t x
    stays-one x false = refl

    stays : (d : ℕ) (o : Option Description) → (unwrap_or (changed n g d o) no_description).target ≡ (unwrap_or o no_description).target
    stays d None = refl
    stays d (Some x) = stays-one x (d == n)

-- one call more holds it, or one less
module _ (before after : Option ℕ) (ds : Map Description) (n : ℕ) (x : Description) (there : at ds n ≡ Some x) (g : Description → Description) (other : (d : ℕ) → (d == n) ≡ false → holds_it d before ≡ holds_it d after)
    (own : (g x).calls + holds_it n before ≡ x.calls + holds_it n after) (t : (y : Description) → (g y).target ≡ y.target) where
  here-it-is : (d : ℕ) (o : Option Description) → at ds d ≡ o → (d == n) ≡ true → o ≡ Some x
  here-it-is d o e f = let z : d ≡ n = grind (arith, nat_tests, f) in sym e ∙ ap (at ds) z ∙ there

  counts : (d : ℕ) (o : Option Description) → at ds d ≡ o → (b : Bool) → (d == n) ≡ b → (unwrap_or (changed n g d o) no_description).calls + holds_it d before ≡ (unwrap_or o no_description).calls + holds_it d after
  counts d None e true f = absurd (let z = here-it-is d None e f in grind (arith, z))
  counts d None e false f = ap (λ j. 0 + j) (other d f)
  counts d (Some y) e false f = rw f (ap (λ j. y.calls + j) (other d f))
  counts d (Some y) e true f =
      let z : d ≡ n = grind (arith, nat_tests, f) in
      let s = here-it-is d (Some y) e f in
      let v : y ≡ x = cc in
      rw f (subst (λ (j : ℕ). (g y).calls + holds_it j before ≡ y.calls + holds_it j after) (sym z) (subst (λ (w : Description). (g w).calls + holds_it n before ≡ w.calls + holds_it n after) (sym v) own))

  stays : (d : ℕ) (o : Option Description) → (unwrap_or (changed n g d o) no_description).target ≡ (unwrap_or o no_description).target
  stays d None = refl
  stays d (Some y) = stays-one y (d == n)
    where
      stays-one : (y : Description) (b : Bool) → (cond b (g y) y).target ≡ y.target
      stays-one y true = t y
      stays-one y false = refl

  pub carries-one : Carries before after ds (change ds n g)
  carries-one = carries-by before after ds (change ds n g) (changed n g) (reads-change ds n g) (λ d o e. counts d o e (d == n) refl) (λ d o e l. stays d o)
