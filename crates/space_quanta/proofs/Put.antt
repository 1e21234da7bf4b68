-- Images put into the frames of their pages, one after another.
use Rattle.hybrid_model.specs.Sides.{Row}
use Rattle.isa_model.specs.Memory.{Memory, Page, page_at}
use Rattle.space_quanta.proofs.Looked.{page-absent, page-there, page_of, rights-with}
use Rattle.std.proofs.lemmas.List.{get_or-set_other}
use Rattle.lwk_run.specs.Lent.{Stays}
use Rattle.lwk_space.proofs.BytesWritten.{shown-set}
use Rattle.lwk_space.specs.Lacks.{memory}
use Rattle.lwk_space.specs.Rows.{FramesApart, FramesIn}
use Rattle.mck_word.specs.MapLaws.{at-put}
use Rattle.mck_word.specs.Maps.{Map, at}
use Rattle.rv_quantum.proofs.Rows.{apart-both, left-out, neither, same-number}
use Rattle.rv_quantum.specs.Differing.{rights_in}
use Rattle.rv_quantum.specs.Images.{are_apart, is_kept, last_page, left, page_with, pages_of, seen, seen_page}
use Rattle.rv_quantum.specs.Promised.{Agrees}
use Rattle.rv_quantum.specs.declared.image.Image.{Image}
use Rattle.std.proofs.Common.{ap, arith, refl, sym, ◌∙◌}
use Rattle.std.proofs.Math.ListN.{length-set}
use Rattle.std.proofs.lemmas.Bool.Decides.{nat_tests}
use Rattle.std.specs.Prelude.{Bool, List, None, Option, Some, [], cond, false, length, map, slice_index_or, slice_set, true, ℕ, ◌==◌, ◌∷◌, ◌≡◌}

-- a page is replaced, and all others stay
abbrev pub Replaced : Image → Memory → Memory → Type 0
Replaced i m n = (p : ℕ) → page_at n p ≡ cond (p == i.page) (last_page i) (page_at m p)

either : {A : Type 0} (b : Bool) (x : A) → cond b x x ≡ x
either true x = refl
either false x = refl

-- what stands there is the image
stays-page : (m : Memory) (i : Image) → page_at m i.page ≡ last_page i → Replaced i m m
stays-page m i e p = by-test (p == i.page) refl
  where
    by-test : (b : Bool) → (p == i.page) ≡ b → page_at m p ≡ cond b (last_page i) (page_at m p)
    by-test true h = ap (page_at m) (same-number p i.page h) ∙ e
    by-test false h = refl

pub unwritten : (m : Memory) (i : Image) → page_at m i.page ≡ seen_page (seen i) → i.last ≡ i.first → Replaced i m m
unwritten m i e c = stays-page m i (e ∙ ap (page_with i.rights) (sym c))

-- ---- one image put
module _ (rows : Map Row) (pages : List (List ℕ)) (i : Image) (same : page_at (memory rows pages) i.page ≡ seen_page (seen i)) where
  pub put-absent : at rows i.page ≡ None → Replaced i (memory rows pages) (memory rows pages)
  put-absent gone =
      let none : i.rights ≡ None = sym (rights-with i.rights i.first) ∙ ap rights_in (sym same ∙ page-absent rows pages i.page gone) in
      stays-page (memory rows pages) i (page-absent rows pages i.page gone ∙ sym (ap (λ o. page_with o i.last) none))

  pub put-there : (w : Row) → FramesIn rows pages → FramesApart rows → at rows i.page ≡ Some w → Replaced i (memory rows pages) (memory rows (slice_set pages w.0.0 i.last))
  put-there w inside apart there p =
      let rights : i.rights ≡ Some w.1 = sym (rights-with i.rights i.first) ∙ ap rights_in (sym same ∙ page-there rows pages i.page w inside there) in
      ap (λ m. page_at m p) (shown-set rows pages i.page w i.last there apart (inside i.page w there))
      ∙ at-put (memory rows pages) i.page (page_of w.1 i.last) p
      ∙ ap (λ o. cond (p == i.page) o (page_at (memory rows pages) p)) (sym (ap (λ o. page_with o i.last) rights))

pub stays-put : (rows : Map Row) (pages : List (List ℕ)) (page : ℕ) (w : Row) (b : List ℕ) → at rows page ≡ Some w → Stays rows pages (slice_set pages w.0.0 b)
stays-put rows pages page w b there = record {
  others = λ f none. get_or-set_other pages w.0.0 f b [] (λ e. none page w there (sym e));
  len = length-set pages w.0.0 b;
}

pub stays-same : (rows : Map Row) (pages : List (List ℕ)) → Stays rows pages pages
stays-same rows pages = record { others = λ f none. refl; len = refl }

pub stays-on : (rows : Map Row) (a b c : List (List ℕ)) → Stays rows a b → Stays rows b c → Stays rows a c
stays-on rows a b c s t = record { others = λ f none. t.others f none ∙ s.others f none; len = t.len ∙ s.len }

pub inside-on : (rows : Map Row) (a b : List (List ℕ)) → Stays rows a b → FramesIn rows a → FramesIn rows b
inside-on rows a b s inside p w e = let l = inside p w e in let same = s.len in omega (arith, l, same)

-- ---- one image after another
pub left-on : (i : Image) (rest : List Image) (m n : Memory) → are_apart (pages_of (i ∷ rest)) ≡ true → Replaced i m n
    → (p : ℕ) → left rest p (page_at n p) ≡ left (i ∷ rest) p (page_at m p)
left-on i rest m n apart put p = by-test (p == i.page) refl
  where
    by-test : (b : Bool) → (p == i.page) ≡ b → left rest p (page_at n p) ≡ cond b (last_page i) (left rest p (page_at m p))
    by-test true h =
        let out : is_kept rest p ≡ false = ap (is_kept rest) (same-number p i.page h) ∙ (apart-both (is_kept rest i.page) (are_apart (pages_of rest)) apart).0 in
        left-out rest p (page_at n p) out ∙ put p ∙ ap (λ b. cond b (last_page i) (page_at m p)) h
    by-test false h = ap (left rest p) (put p ∙ ap (λ b. cond b (last_page i) (page_at m p)) h)

pub agrees-on : (i : Image) (rest : List Image) (m n : Memory) → is_kept rest i.page ≡ false → Replaced i m n → Agrees (map seen rest) m → Agrees (map seen rest) n
agrees-on i [] m n out put a = tt
agrees-on i (x ∷ rest) m n out put a =
    let b = neither (i.page == x.page) (is_kept rest i.page) out in
    let other : (x.page == i.page) ≡ false = let f = b.0 in grind (arith, nat_tests, f) in
    (put x.page ∙ ap (λ t. cond t (last_page i) (page_at m x.page)) other ∙ a.0, agrees-on i rest m n b.1 put a.1)

pub rest-apart : (i : Image) (rest : List Image) → are_apart (pages_of (i ∷ rest)) ≡ true → (is_kept rest i.page ≡ false) × (are_apart (pages_of rest) ≡ true)
rest-apart i rest apart = apart-both (is_kept rest i.page) (are_apart (pages_of rest)) apart
