-- What `each` makes of the words on maps: a map whose values are seen in another form keeps its shape.
-- Source: this project's own (laws, for proofs).
use Rattle.mck_word.specs.MapLaws.{at-collect, at-cut, at-keep, at-none, at-put, same_rows}
use Rattle.mck_word.specs.Maps.{Map, at, change, change_row, cut, each, keep, no_rows, put, and_then}
use Rattle.std.proofs.Common.{ap, refl, sym, ◌∙◌}
use Rattle.std.specs.Prelude.{Bool, None, Option, Some, cond, false, option_map, true, ℕ, ◌==◌, ◌≡◌}

module _ {V W : Type 0} (f : V → W) where
  seen : (o : Option V) → and_then o (λ v. Some (f v)) ≡ option_map f o
  seen None = refl
  seen (Some v) = refl

  pub at-each : (m : Map V) (k : ℕ) → at (each f m) k ≡ option_map f (at m k)
  at-each m k = at-collect (λ _ v. Some (f v)) m k ∙ seen (at m k)

  by-key : (b : Bool) (o p : Option V) → option_map f (cond b o p) ≡ cond b (option_map f o) (option_map f p)
  by-key true o p = refl
  by-key false o p = refl

  pub each-put : (m : Map V) (k : ℕ) (v : V) → each f (put m k v) ≡ put (each f m) k (f v)
  each-put m k v = same_rows _ _ (λ q. at-each (put m k v) q ∙ ap (option_map f) (at-put m k v q) ∙ by-key (q == k) (Some v) (at m q)
      ∙ ap (cond (q == k) (Some (f v))) (sym (at-each m q)) ∙ sym (at-put (each f m) k (f v) q))

  pub each-cut : (m : Map V) (k : ℕ) → each f (cut m k) ≡ cut (each f m) k
  each-cut m k = same_rows _ _ (λ q. at-each (cut m k) q ∙ ap (option_map f) (at-cut m k q) ∙ by-key (q == k) None (at m q)
      ∙ ap (cond (q == k) None) (sym (at-each m q)) ∙ sym (at-cut (each f m) k q))

  pub each-keep : (m : Map V) (test : ℕ → Bool) → each f (keep m test) ≡ keep (each f m) test
  each-keep m test = same_rows _ _ (λ q. at-each (keep m test) q ∙ ap (option_map f) (at-keep m test q) ∙ by-key (test q) (at m q) None
      ∙ ap (λ o. cond (test q) o None) (sym (at-each m q)) ∙ sym (at-keep (each f m) test q))

  pub each-none : each f no_rows ≡ no_rows
  each-none = same_rows _ _ (λ q. at-each no_rows q ∙ ap (option_map f) (at-none q) ∙ sym (at-none q))

  change-there : (m : Map V) (k : ℕ) (g : V → V) (h : W → W) → ((v : V) → f (g v) ≡ h (f v)) → (o : Option V)
      → each f (change_row m k g o) ≡ change_row (each f m) k h (option_map f o)
  change-there m k g h e None = refl
  change-there m k g h e (Some v) = each-put m k (g v) ∙ ap (put (each f m) k) (e v)

  pub each-change : (m : Map V) (k : ℕ) (g : V → V) (h : W → W) → ((v : V) → f (g v) ≡ h (f v)) → each f (change m k g) ≡ change (each f m) k h
  each-change m k g h e = change-there m k g h e (at m k) ∙ ap (change_row (each f m) k h) (sym (at-each m k))

pub ruleset each_maps = (at-each, each-put, each-cut, each-keep, each-none)
