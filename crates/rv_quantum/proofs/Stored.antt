-- Images written, renewed and added.
use Rattle.isa_model.specs.Memory.{Memory, Page, page_at}
use Rattle.mck_flags.specs.declared.rights.Rights.{Rights}
use Rattle.mck_word.specs.MapLaws.{at-put, same_rows}
use Rattle.mck_word.specs.Maps.{at, change_row, put}
use Rattle.rv64i_user.specs.Places.{page_put, put_bytes, put_in}
use Rattle.rv_quantum.proofs.Rows.{apart-both, at-has, at-memory, at-rights, kept-true, left-at, neither, same-number}
use Rattle.rv_quantum.specs.Images.{AreClean, AreFresh, are_apart, has_page, is_at, is_in, is_kept, is_there, last_page, left, memory, page_with, pages_of}
use Rattle.rv_quantum.specs.declared.image.Image.{Image}
use Rattle.std.proofs.Common.{ap, arith, refl, sym, ◌∙◌}
use Rattle.std.proofs.lemmas.Bool.Decides.{nat_tests}
use Rattle.std.specs.Prelude.{Bool, List, None, Option, Some, [], cond, false, length, map, slice_index_or, slice_set, suc, true, zero, ℕ, ◌++◌, ◌<◌, ◌==◌, ◌∷◌, ◌≡◌}

-- ---- one image replaced

pub map-set : {B : Type 0} (f : Image → B) (is : List Image) (k : ℕ) (i q : Image) → i ≡ slice_index_or is k i → f q ≡ f i → map f (slice_set is k q) ≡ map f is
map-set f [] k i q e s = refl
map-set f (x ∷ is) zero i q e s = ap (λ b. b ∷ map f is) (s ∙ ap f e)
map-set f (x ∷ is) (suc k) i q e s = ap (λ bs. f x ∷ bs) (map-set f is k i q e s)

pub is-at-set : (is : List Image) (k j p : ℕ) (i q : Image) → i ≡ slice_index_or is k i → q.page ≡ i.page → q.rights ≡ i.rights → is_at (slice_set is k q) j p ≡ is_at is j p
is-at-set [] k j p i q e s r = refl
is-at-set (x ∷ is) zero zero p i q e s r =
    let same : q.page ≡ x.page = s ∙ ap (λ (y : Image). y.page) e in
    let right : q.rights ≡ x.rights = r ∙ ap (λ (y : Image). y.rights) e in
    ap (λ a. cond (p == a) (is_there q.rights) false) same ∙ ap (λ a. cond (p == x.page) (is_there a) false) right
is-at-set (x ∷ is) zero (suc j) p i q e s r = refl
is-at-set (x ∷ is) (suc k) zero p i q e s r = refl
is-at-set (x ∷ is) (suc k) (suc j) p i q e s r = is-at-set is k j p i q e s r

pub clean-at : (is : List Image) (k : ℕ) (i : Image) → k < length is → i ≡ slice_index_or is k i → AreClean is → i.written ≡ false → i.last ≡ i.first
clean-at [] k i l e c w = absurd (omega (arith, l))
clean-at (x ∷ is) zero i l e c w = ap (λ (y : Image). y.last) e ∙ c.0 (sym (ap (λ (y : Image). y.written) e) ∙ w) ∙ sym (ap (λ (y : Image). y.first) e)
clean-at (x ∷ is) (suc k) i l e c w = clean-at is k i (omega (arith, l)) e c.1 w

pub clean-set : (is : List Image) (k : ℕ) (q : Image) → (q.written ≡ false → q.last ≡ q.first) → AreClean is → AreClean (slice_set is k q)
clean-set [] k q h c = c
clean-set (x ∷ is) zero q h c = (h, c.1)
clean-set (x ∷ is) (suc k) q h c = (c.0, clean-set is k q h c.1)

pub fresh-set : (n : ℕ) (is : List Image) (q : Image) → q.last ≡ q.first → AreFresh n is → AreFresh (suc n) (slice_set is n q)
fresh-set zero [] q h f = tt
fresh-set zero (x ∷ is) q h f = (h, tt)
fresh-set (suc n) [] q h f = tt
fresh-set (suc n) (x ∷ is) q h f = (f.0, fresh-set n is q h f.1)

-- ---- one image written

covered : {A : Type 0} (b : Bool) (x y z : A) → cond b x z ≡ cond b x (cond b y z)
covered true x y z = refl
covered false x y z = refl

swapped : {A : Type 0} (j p q : ℕ) (x y z : A) → (p == q) ≡ false → cond (j == q) x (cond (j == p) y z) ≡ cond (j == p) y (cond (j == q) x z)
swapped j p q x y z n = by-test (j == q) (j == p) refl refl
  where
    by-test : (a b : Bool) → (j == q) ≡ a → (j == p) ≡ b → cond a x (cond b y z) ≡ cond b y (cond a x z)
    by-test true true e f = absurd (grind (arith, nat_tests, e, f, n))
    by-test true false e f = refl
    by-test false true e f = refl
    by-test false false e f = refl

other-page : (is : List Image) (k p q : ℕ) → has_page is k p ≡ true → is_kept is q ≡ false → (p == q) ≡ false
other-page is k p q h n = by-test (p == q) refl
  where
    by-test : (b : Bool) → (p == q) ≡ b → b ≡ false
    by-test true e = sym (kept-true is k p h) ∙ ap (is_in (pages_of is)) (same-number p q e) ∙ n
    by-test false e = refl

left-set : (is : List Image) (k p j : ℕ) (i q : Image) (o : Option Page) → are_apart (pages_of is) ≡ true → has_page is k p ≡ true → i ≡ slice_index_or is k i → q.page ≡ i.page
    → left (slice_set is k q) j o ≡ cond (j == p) (last_page q) (left is j o)
left-set [] k p j i q o a h e s = absurd (cc)
left-set (x ∷ is) zero p j i q o a h e s =
    let here : x.page ≡ p = sym (same-number p x.page h) in
    let there : q.page ≡ p = s ∙ ap (λ (y : Image). y.page) e ∙ here in
    ap (λ y. cond (j == y) (last_page q) (left is j o)) there
    ∙ covered (j == p) (last_page q) (last_page x) (left is j o)
    ∙ ap (λ y. cond (j == p) (last_page q) (cond (j == y) (last_page x) (left is j o))) (sym here)
left-set (x ∷ is) (suc k) p j i q o a h e s =
    let b = apart-both (is_kept is x.page) (are_apart (pages_of is)) a in
    ap (cond (j == x.page) (last_page x)) (left-set is k p j i q o b.1 h e s)
    ∙ swapped j p x.page (last_page x) (last_page q) (left is j o) (other-page is k p x.page h b.0)

there-put : (r : Option Rights) (b : List ℕ) (off size v : ℕ) → is_there r ≡ true
    → (g : Page) × (page_with r b ≡ Some g) × (page_with r (put_bytes b off size v) ≡ Some (page_put off size v g))
there-put None b off size v h = absurd (cc)
there-put (Some r) b off size v h = (record { rights = r; bytes = b }, refl, refl)

pub memory-set : (is : List Image) (k p : ℕ) (i q : Image) (off size v : ℕ) → are_apart (pages_of is) ≡ true → is_at is k p ≡ true → i ≡ slice_index_or is k i
    → q.page ≡ i.page → q.rights ≡ i.rights → q.last ≡ put_bytes i.last off size v → memory (slice_set is k q) ≡ put_in (memory is) p off size v
memory-set is k p i q off size v a h e s r w =
    let has = at-has is k p h in
    let t = there-put i.rights i.last off size v (at-rights is k p i h e) in
    let old : page_at (memory is) p ≡ Some t.0 = at-memory is p ∙ left-at is k p i None a has e ∙ t.1 in
    let new : last_page q ≡ Some (page_put off size v t.0) = ap (λ b. page_with q.rights b) w ∙ ap (λ x. page_with x (put_bytes i.last off size v)) r ∙ t.2 in
    let changed : put_in (memory is) p off size v ≡ put (memory is) p (page_put off size v t.0) = ap (change_row (memory is) p (page_put off size v)) old in
    same_rows (memory (slice_set is k q)) (put_in (memory is) p off size v) (λ j.
    at-memory (slice_set is k q) j ∙ left-set is k p j i q None a has e s ∙ ap (λ x. cond (j == p) x (left is j None)) new
    ∙ ap (cond (j == p) (Some (page_put off size v t.0))) (sym (at-memory is j))
    ∙ sym (at-put (memory is) p (page_put off size v t.0) j) ∙ ap (λ (m : Memory). at m j) (sym changed))

-- ---- one image added

in-added : (is : List Image) (i : Image) (p : ℕ) → is_kept is p ≡ false → (p == i.page) ≡ false → is_kept (is ++ i ∷ []) p ≡ false
in-added [] i p h n = ap (λ b. cond b true false) n
in-added (x ∷ is) i p h n =
    let b = neither (p == x.page) (is_kept is p) h in
    ap (λ t. cond t true (is_kept (is ++ i ∷ []) p)) b.0 ∙ in-added is i p b.1 n

pub apart-added : (is : List Image) (i : Image) → are_apart (pages_of is) ≡ true → is_kept is i.page ≡ false → are_apart (pages_of (is ++ i ∷ [])) ≡ true
apart-added [] i a h = refl
apart-added (x ∷ is) i a h =
    let b = apart-both (is_kept is x.page) (are_apart (pages_of is)) a in
    let n = neither (i.page == x.page) (is_kept is i.page) h in
    let other : (x.page == i.page) ≡ false = let f = n.0 in grind (arith, nat_tests, f) in
    ap (λ t. cond t false (are_apart (pages_of (is ++ i ∷ [])))) (in-added is i x.page b.0 other) ∙ apart-added is i b.1 n.1

pub clean-added : (is : List Image) (i : Image) → i.last ≡ i.first → AreClean is → AreClean (is ++ i ∷ [])
clean-added [] i e c = (λ w. e, tt)
clean-added (x ∷ is) i e c = (c.0, clean-added is i e c.1)
