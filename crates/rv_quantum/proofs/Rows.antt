-- Images found by their places and their pages.
use Rattle.isa_model.specs.Memory.{Page, lacks, lacks_in, page_at}
use Rattle.mck_flags.specs.declared.rights.Rights.{Rights}
use Rattle.mck_word.specs.MapLaws.{at-none, at-set_or_cut}
use Rattle.mck_word.specs.declared.Access.{Access}
use Rattle.rv64i_user.specs.Places.{bytes_of}
use Rattle.rv_quantum.specs.Images.{are_apart, has_page, is_at, is_in, is_kept, is_there, last_page, left, memory, page_with, pages_of}
use Rattle.rv_quantum.specs.declared.image.Image.{Image}
use Rattle.std.proofs.Common.{ap, arith, refl, sym, ◌∙◌}
use Rattle.std.proofs.lemmas.Bool.Decides.{nat_tests}
use Rattle.std.specs.Prelude.{Bool, List, None, Option, Some, [], cond, false, length, option_map, slice_index_or, suc, true, zero, ℕ, ◌<◌, ◌==◌, ◌∷◌, ◌≡◌, ◌≢◌}

-- ---- tests

pub out-case : {A : Type 0} (b k : Bool) (x y o : A) → cond b true k ≡ false → (k ≡ false → y ≡ o) → cond b x y ≡ o
out-case true k x y o h f = absurd (cc)
out-case false k x y o h f = f h

pub in-case : {A : Type 0} (b k : Bool) (x y z : A) → cond b true k ≡ true → (k ≡ true → y ≡ z) → cond b x y ≡ cond b x z
in-case true k x y z h f = refl
in-case false k x y z h f = f h

pub neither : (b k : Bool) → cond b true k ≡ false → (b ≡ false) × (k ≡ false)
neither true k h = absurd (cc)
neither false k h = (refl, h)

pub apart-both : (a b : Bool) → cond a false b ≡ true → (a ≡ false) × (b ≡ true)
apart-both true b h = absurd (cc)
apart-both false b h = (refl, h)

first-holds : (a b : Bool) → cond a b false ≡ true → (a ≡ true) × (b ≡ true)
first-holds true b h = (refl, h)
first-holds false b h = absurd (cc)

pub same-number : (p q : ℕ) → (p == q) ≡ true → p ≡ q
same-number p q h = grind (arith, nat_tests, h)

other-number : (qs : List ℕ) (p q : ℕ) → is_in qs p ≡ true → is_in qs q ≡ false → (p == q) ≡ false
other-number qs p q h n = by-test (p == q) refl
  where
    by-test : (b : Bool) → (p == q) ≡ b → b ≡ false
    by-test true e = sym h ∙ ap (is_in qs) (same-number p q e) ∙ n
    by-test false e = refl

-- ---- what is left at a page

pub at-memory : (is : List Image) (p : ℕ) → page_at (memory is) p ≡ left is p None
at-memory [] p = at-none p
at-memory (i ∷ is) p = at-set_or_cut (memory is) i.page (last_page i) p ∙ ap (cond (p == i.page) (last_page i)) (at-memory is p)

-- nothing else where there is no image
pub left-out : (is : List Image) (p : ℕ) (o : Option Page) → is_kept is p ≡ false → left is p o ≡ o
left-out [] p o h = refl
left-out (i ∷ is) p o h = out-case (p == i.page) (is_kept is p) (last_page i) (left is p o) o h (left-out is p o)

-- and the image where there is one, whatever stood there
pub left-in : (is : List Image) (p : ℕ) (o q : Option Page) → is_kept is p ≡ true → left is p o ≡ left is p q
left-in [] p o q h = absurd (cc)
left-in (i ∷ is) p o q h = in-case (p == i.page) (is_kept is p) (last_page i) (left is p o) (left is p q) h (left-in is p o q)

-- ---- places

pub has-inside : (is : List Image) (k p : ℕ) → has_page is k p ≡ true → k < length is
has-inside [] k p h = absurd (cc)
has-inside (i ∷ is) zero p h = omega arith
has-inside (i ∷ is) (suc k) p h = let l = has-inside is k p h in omega (arith, l)

has-kept : (is : List Image) (k p : ℕ) → has_page is k p ≡ true → is_kept is p ≡ true
has-kept [] k p h = absurd (cc)
has-kept (i ∷ is) zero p h = ap (λ b. cond b true (is_kept is p)) h
has-kept (i ∷ is) (suc k) p h = ap (cond (p == i.page) true) (has-kept is k p h) ∙ either (p == i.page)
  where
    either : (b : Bool) → cond b true true ≡ true
    either true = refl
    either false = refl

pub kept-true : (is : List Image) (k p : ℕ) → has_page is k p ≡ true → is_kept is p ≡ true
kept-true = has-kept

pub at-has : (is : List Image) (k p : ℕ) → is_at is k p ≡ true → has_page is k p ≡ true
at-has [] k p h = absurd (cc)
at-has (i ∷ is) zero p h = (first-holds (p == i.page) (is_there i.rights) h).0
at-has (i ∷ is) (suc k) p h = at-has is k p h

pub at-rights : (is : List Image) (k p : ℕ) (i : Image) → is_at is k p ≡ true → i ≡ slice_index_or is k i → is_there i.rights ≡ true
at-rights [] k p i h e = absurd (cc)
at-rights (x ∷ is) zero p i h e = ap (λ (y : Image). is_there y.rights) e ∙ (first-holds (p == x.page) (is_there x.rights) h).1
at-rights (x ∷ is) (suc k) p i h e = at-rights is k p i h e

pub at-there : (is : List Image) (k p : ℕ) (i : Image) → has_page is k p ≡ true → i ≡ slice_index_or is k i → is_there i.rights ≡ true → is_at is k p ≡ true
at-there [] k p i h e r = absurd (cc)
at-there (x ∷ is) zero p i h e r = ap (λ b. cond b (is_there x.rights) false) h ∙ sym (ap (λ (y : Image). is_there y.rights) e) ∙ r
at-there (x ∷ is) (suc k) p i h e r = at-there is k p i h e r

pub has-there : (is : List Image) (k p : ℕ) (i : Image) → k < length is → i ≡ slice_index_or is k i → i.page ≡ p → has_page is k p ≡ true
has-there [] k p i l e s = absurd (omega (arith, l))
has-there (x ∷ is) zero p i l e s = let t : x.page ≡ p = sym (ap (λ (y : Image). y.page) e) ∙ s in grind (arith, nat_tests, t)
has-there (x ∷ is) (suc k) p i l e s = has-there is k p i (omega (arith, l)) e s

pub none-kept : (is : List Image) (p : ℕ) → ((j : ℕ) (d : Image) → j < length is → (slice_index_or is j d).page ≢ p) → is_kept is p ≡ false
none-kept [] p h = refl
none-kept (x ∷ is) p h =
    let n : x.page ≢ p = h zero x (omega arith) in
    let other : (p == x.page) ≡ false = grind (arith, nat_tests, n) in
    ap (λ b. cond b true (is_kept is p)) other ∙ none-kept is p (λ j d l. h (suc j) d (omega (arith, l)))

-- what is left at the page of a place
pub left-at : (is : List Image) (k p : ℕ) (i : Image) (o : Option Page) → are_apart (pages_of is) ≡ true → has_page is k p ≡ true → i ≡ slice_index_or is k i → left is p o ≡ last_page i
left-at [] k p i o a h e = absurd (cc)
left-at (x ∷ is) zero p i o a h e = ap (λ b. cond b (last_page x) (left is p o)) h ∙ ap last_page (sym e)
left-at (x ∷ is) (suc k) p i o a h e =
    let b = apart-both (is_kept is x.page) (are_apart (pages_of is)) a in
    let other = other-number (pages_of is) p x.page (has-kept is k p h) b.0 in
    ap (λ t. cond t (last_page x) (left is p o)) other ∙ left-at is k p i o b.1 h e

there : (r : Option Rights) (b : List ℕ) → is_there r ≡ true → option_map (λ (g : Page). g.bytes) (page_with r b) ≡ Some b
there None b h = absurd (cc)
there (Some r) b h = refl

pub bytes-at : (is : List Image) (k p : ℕ) (i : Image) → are_apart (pages_of is) ≡ true → is_at is k p ≡ true → i ≡ slice_index_or is k i → bytes_of (memory is) p ≡ Some i.last
bytes-at is k p i a h e =
    ap (option_map (λ (g : Page). g.bytes)) (at-memory is p ∙ left-at is k p i None a (at-has is k p h) e)
    ∙ there i.rights i.last (at-rights is k p i h e)

pub lacks-at : (is : List Image) (k p : ℕ) (i : Image) (acc : Access) → are_apart (pages_of is) ≡ true → has_page is k p ≡ true → i ≡ slice_index_or is k i → lacks (memory is) acc p ≡ lacks_in acc (last_page i)
lacks-at is k p i acc a h e = ap (lacks_in acc) (at-memory is p ∙ left-at is k p i None a h e)

pub lacks-out : (is : List Image) (p : ℕ) (acc : Access) → is_kept is p ≡ false → lacks (memory is) acc p ≡ true
lacks-out is p acc h = ap (lacks_in acc) (at-memory is p ∙ left-out is p None h)
