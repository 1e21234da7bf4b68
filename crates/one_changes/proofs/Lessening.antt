-- Whether one of the pages of a range would lose a right.
use Rattle.hybrid_laws.proofs.maps.Lookups.{no-row}
use Rattle.hybrid_laws.proofs.memory.Written.{each-entry}
use Rattle.hybrid_model.specs.Tallies.{Each}
use Rattle.isa_model.specs.Memory.{Memory, Page}
use Rattle.kernel_model.specs.MemoryCalls.{any_lessened, lessens}
use Rattle.mck_flags.specs.declared.rights.Rights.{Rights}
use Rattle.mck_word.specs.Maps.{at, entries}
use Rattle.mck_word.specs.Pages.{in_range}
use Rattle.mck_word.specs.declared.PageRange.{PageRange}
use Rattle.one_changes.specs.Lessened.{lessened_in}
use Rattle.std.proofs.Common.{ap, refl, sym, ◌∙◌}
use Rattle.std.specs.List.{list_any}
use Rattle.std.specs.Prelude.{Bool, List, None, Option, Some, [], false, true, ℕ, ◌&&◌, ◌||◌, ◌∷◌, ◌≡◌}

module _ (m : Memory) (r : PageRange) (rights : Rights) where
  pub none-lessened : ((k : ℕ) → in_range r k ≡ true → lessened_in (at m k) rights ≡ false) → any_lessened m r rights ≡ false
  none-lessened off = go (entries m) (each-entry m)
    where
      one : (k : ℕ) (x : Page) → at m k ≡ Some x → (b : Bool) → in_range r k ≡ b → (b && lessens x.rights rights) ≡ false
      one k x e false f = refl
      one k x e true f = sym (ap (λ (o : Option Page). lessened_in o rights) e) ∙ off k f

      go : (es : List (ℕ × Page)) → Each (λ (e : ℕ × Page). at m e.0 ≡ Some e.1) es → list_any (λ (e : ℕ × Page). in_range r e.0 && lessens e.1.rights rights) es ≡ false
      go [] k = refl
      go (e ∷ es) k = both (in_range r e.0 && lessens e.1.rights rights) (list_any (λ (x : ℕ × Page). in_range r x.0 && lessens x.1.rights rights) es) (one e.0 e.1 k.0 (in_range r e.0) refl) (go es k.1)
        where
          both : (a b : Bool) → a ≡ false → b ≡ false → (a || b) ≡ false
          both true b e f = absurd (cc)
          both false b e f = f

  pub one-lessened : (k : ℕ) → in_range r k ≡ true → lessened_in (at m k) rights ≡ true → any_lessened m r rights ≡ true
  one-lessened k inside less = go (at m k) refl (any_lessened m r rights) refl
    where
      go : (o : Option Page) → at m k ≡ o → (b : Bool) → any_lessened m r rights ≡ b → any_lessened m r rights ≡ true
      go o i true e = e
      go None i false e = absurd (let t = sym (ap (λ (o : Option Page). lessened_in o rights) i) ∙ less in cc)
      go (Some x) i false e = absurd (
          let f = no-row (λ page (y : Page). in_range r page && lessens y.rights rights) m e k x i in
          let g = sym (ap (λ (o : Option Page). lessened_in o rights) i) ∙ less in
          let t : (in_range r k && lessens x.rights rights) ≡ true = rw (inside, g) refl in
          let bad = sym t ∙ f in
          cc
          )
