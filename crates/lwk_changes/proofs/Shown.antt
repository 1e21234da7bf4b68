-- A memory that a table's rows show: its pages, and whether one would lose a right.
use Rattle.hybrid_laws.proofs.maps.Lookups.{no-row}
use Rattle.hybrid_laws.proofs.memory.Written.{each-entry}
use Rattle.hybrid_model.specs.Sides.{Row}
use Rattle.hybrid_model.specs.Spaces.{shown_row}
use Rattle.hybrid_model.specs.Tallies.{Each}
use Rattle.isa_model.specs.Memory.{Memory, Page}
use Rattle.kernel_model.specs.MemoryCalls.{any_lessened, lessens}
use Rattle.lwk_changes.specs.Shows.{Shows, lessened_in}
use Rattle.lwk_space.specs.Frames.{frames_map}
use Rattle.lwk_space.specs.Lacks.{memory}
use Rattle.mck_flags.specs.declared.rights.Rights.{Rights}
use Rattle.mck_word.specs.EachLaws.{at-each}
use Rattle.mck_word.specs.Maps.{Map, at, entries}
use Rattle.mck_word.specs.Pages.{in_range}
use Rattle.mck_word.specs.declared.PageRange.{PageRange}
use Rattle.std.proofs.Common.{ap, refl, sym, ◌∙◌}
use Rattle.std.specs.List.{list_any}
use Rattle.std.specs.Prelude.{Bool, List, None, Option, Some, [], false, is_some, option_map, true, ℕ, ◌&&◌, ◌||◌, ◌∷◌, ◌≡◌}

pub memory-shown : (rows : Map Row) (pages : List (List ℕ)) (m : Memory) → m ≡ memory rows pages → Shows rows m
memory-shown rows pages m e k = ap (λ (n : Memory). option_map (λ (x : Page). x.rights) (at n k)) e
    ∙ (ap (option_map (λ (x : Page). x.rights)) (at-each (shown_row (frames_map pages)) rows k) ∙ twice (at rows k))
  where
    twice : (o : Option Row) → option_map (λ (x : Page). x.rights) (option_map (shown_row (frames_map pages)) o) ≡ option_map (λ (w : Row). w.1) o
    twice None = refl
    twice (Some w) = refl

module _ (rows : Map Row) (m : Memory) (h : Shows rows m) where
  pub shown-absent : (k : ℕ) → at rows k ≡ None → at m k ≡ None
  shown-absent k e = go (at m k) refl
    where
      go : (o : Option Page) → at m k ≡ o → at m k ≡ None
      go None f = f
      go (Some x) f = absurd (let t = sym (ap (option_map (λ (y : Page). y.rights)) f) ∙ (h k ∙ ap (option_map (λ (w : Row). w.1)) e) in cc)

  pub shown-there : (k : ℕ) → is_some (at rows k) ≡ true → (x : Page) × (at m k ≡ Some x)
  shown-there k e = go (at m k) refl (at rows k) refl
    where
      go : (o : Option Page) → at m k ≡ o → (w : Option Row) → at rows k ≡ w → (x : Page) × (at m k ≡ Some x)
      go (Some x) f w i = (x, f)
      go None f None i = absurd (let t = ap is_some i in cc)
      go None f (Some w) i = absurd (let t = sym (ap (option_map (λ (y : Page). y.rights)) f) ∙ (h k ∙ ap (option_map (λ (v : Row). v.1)) i) in cc)

  pub there-shown : (k : ℕ) → is_some (at m k) ≡ true → is_some (at rows k) ≡ true
  there-shown k e = go (at rows k) refl
    where
      go : (w : Option Row) → at rows k ≡ w → is_some (at rows k) ≡ true
      go (Some w) i = ap is_some i
      go None i = absurd (let t = ap is_some (shown-absent k i) in cc)

  pub absent-shown : (k : ℕ) → at m k ≡ None → at rows k ≡ None
  absent-shown k e = go (at rows k) refl
    where
      go : (w : Option Row) → at rows k ≡ w → at rows k ≡ None
      go None i = i
      go (Some w) i = absurd (let t = sym (ap (option_map (λ (y : Page). y.rights)) e) ∙ (h k ∙ ap (option_map (λ (v : Row). v.1)) i) in cc)

  -- a page would lose a right where its row would
  lessened-shown : (rights : Rights) (k : ℕ) (x : Page) → at m k ≡ Some x → lessened_in (at rows k) rights ≡ lessens x.rights rights
  lessened-shown rights k x e = go (at rows k) refl
    where
      go : (w : Option Row) → at rows k ≡ w → lessened_in (at rows k) rights ≡ lessens x.rights rights
      go None i = absurd (let t = sym (ap (option_map (λ (y : Page). y.rights)) e) ∙ (h k ∙ ap (option_map (λ (v : Row). v.1)) i) in cc)
      go (Some w) i =
          let t = sym (ap (option_map (λ (y : Page). y.rights)) e) ∙ (h k ∙ ap (option_map (λ (v : Row). v.1)) i) in
          let s : x.rights ≡ w.1 = cc in
          ap (λ (o : Option Row). lessened_in o rights) i ∙ ap (λ (r : Rights). lessens r rights) (sym s)

  pub none-lessened : (r : PageRange) (rights : Rights) → ((k : ℕ) → in_range r k ≡ true → lessened_in (at rows k) rights ≡ false) → any_lessened m r rights ≡ false
  none-lessened r rights off = go (entries m) (each-entry m)
    where
      one : (k : ℕ) (x : Page) → at m k ≡ Some x → (b : Bool) → in_range r k ≡ b → (b && lessens x.rights rights) ≡ false
      one k x e false f = refl
      one k x e true f = sym (lessened-shown rights k x e) ∙ off k f

      go : (es : List (ℕ × Page)) → Each (λ (e : ℕ × Page). at m e.0 ≡ Some e.1) es → list_any (λ (e : ℕ × Page). in_range r e.0 && lessens e.1.rights rights) es ≡ false
      go [] k = refl
      go (e ∷ es) k = both (in_range r e.0 && lessens e.1.rights rights) (list_any (λ (x : ℕ × Page). in_range r x.0 && lessens x.1.rights rights) es) (one e.0 e.1 k.0 (in_range r e.0) refl) (go es k.1)
        where
          both : (a b : Bool) → a ≡ false → b ≡ false → (a || b) ≡ false
          both true b e f = absurd (cc)
          both false b e f = f

  pub one-lessened : (r : PageRange) (rights : Rights) (k : ℕ) → in_range r k ≡ true → is_some (at rows k) ≡ true → lessened_in (at rows k) rights ≡ true → any_lessened m r rights ≡ true
  one-lessened r rights k inside there less = go (any_lessened m r rights) refl
    where
      go : (b : Bool) → any_lessened m r rights ≡ b → any_lessened m r rights ≡ true
      go true e = e
      go false e = absurd (
          let x = shown-there k there in
          let f = no-row (λ page (y : Page). in_range r page && lessens y.rights rights) m e k x.0 x.1 in
          let g = sym (lessened-shown rights k x.0 x.1) ∙ less in
          let t : (in_range r k && lessens x.0.rights rights) ≡ true = rw (inside, g) refl in
          let bad = sym t ∙ f in
          cc
          )

  pub same-shown : (k : ℕ) → is_some (at m k) ≡ is_some (at rows k)
  same-shown k = go (at rows k) refl
    where
      go : (w : Option Row) → at rows k ≡ w → is_some (at m k) ≡ is_some (at rows k)
      go None i = ap is_some (shown-absent k i) ∙ sym (ap is_some i)
      go (Some w) i = let there = shown-there k (ap is_some i) in ap is_some there.1 ∙ sym (ap is_some i)
