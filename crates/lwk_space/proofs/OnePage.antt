-- A page added, one dropped, one protected.
use Rattle.hybrid_model.specs.Sides.{Row}
use Rattle.hybrid_model.specs.Spaces.{Space, add_page, drop_page, first_number, give_back, insert_frame, protect_page, rest_numbers}
use Rattle.kernel_model.specs.Pages.{zero_page}
use Rattle.kernel_model.specs.Spaces.{each_page}
use Rattle.lwk_space.specs.Frames.{frames_map}
use Rattle.mck_flags.specs.declared.rights.Rights.{Rights}
use Rattle.mck_word.specs.Lists.{insert_by, tail}
use Rattle.mck_word.specs.MapLaws.{at-cut, same_rows}
use Rattle.mck_word.specs.Maps.{Map, at, change, cut, put}
use Rattle.mck_word.specs.Slots.{by_place, slots-set}
use Rattle.std.proofs.Common.{ap, arith, inl, inr, refl, sym, ◌∙◌}
use Rattle.std.proofs.lemmas.Bool.{cases_eq, eq-eqb, ne_eqb}
use Rattle.std.specs.Prelude.{List, None, Some, [], ◌∷◌, cond, length, map, nat_lt, slice_get, slice_set, suc, zero, ℕ, ◌+◌, ◌<◌, ◌≡◌, ◌≤◌}

pub insert-same : (f : ℕ) (xs : List ℕ) → insert_by nat_lt f xs ≡ insert_frame f xs
insert-same f [] = refl
insert-same f (x ∷ xs) = ap (λ ys. cond (nat_lt f x) (f ∷ x ∷ xs) (x ∷ ys)) (insert-same f xs)

pub first-is : (xs : List ℕ) (f : ℕ) → slice_get xs 0 ≡ Some f → first_number xs ≡ f
first-is [] f e = cc
first-is (x ∷ xs) f e = cc

pub rest-is : (xs : List ℕ) → tail xs ≡ rest_numbers xs
rest-is [] = refl
rest-is (x ∷ xs) = refl

map-set : (xs : List (List ℕ)) (i : ℕ) (v : List ℕ) → map Some (slice_set xs i v) ≡ slice_set (map Some xs) i (Some v)
map-set [] i v = refl
map-set (x ∷ xs) zero v = refl
map-set (x ∷ xs) (suc i) v = ap (λ ys. Some x ∷ ys) (map-set xs i v)

length-some : (xs : List (List ℕ)) → length (map Some xs) ≡ length xs
length-some [] = refl
length-some (x ∷ xs) = omega (arith, length-some xs)

pub frames-set : (pages : List (List ℕ)) (f : ℕ) (page : List ℕ) → f < length pages → frames_map (slice_set pages f page) ≡ put (frames_map pages) f page
frames-set pages f page l = ap by_place (map-set pages f page) ∙ slots-set (map Some pages) f (Some page) (omega (arith, length-some pages))

-- a page added at the lowest free frame
pub added : (rights : Rights) (page f : ℕ) (rows : Map Row) (pages : List (List ℕ)) (free : List ℕ) → slice_get free 0 ≡ Some f → f < length pages
    → record { table = put rows page (record { 0 = f }, rights); frames = frames_map (slice_set pages f zero_page); free = tail free } ≡ add_page rights page (record { table = rows; frames = frames_map pages; free = free })
unfolding add_page
added rights page f rows pages free first l =
    let k = sym (first-is free f first) in
    λ i. record { table = put rows page (record { 0 = k i }, rights); frames = (frames-set pages f zero_page l ∙ ap (λ n. put (frames_map pages) n zero_page) k) i; free = rest-is free i }

pub dropped : (page : ℕ) (rows : Map Row) (frames : Map (List ℕ)) (free : List ℕ) (w : Row) → at rows page ≡ Some w
    → record { table = cut rows page; frames = frames; free = insert_by nat_lt w.0.0 free } ≡ drop_page page (record { table = rows; frames = frames; free = free })
unfolding drop_page
dropped page rows frames free w there = λ i. record { table = cut rows page; frames = frames; free = (insert-same w.0.0 free ∙ ap (λ o. give_back o free) (sym there)) i }

cut-absent : (rows : Map Row) (page : ℕ) → at rows page ≡ None → cut rows page ≡ rows
cut-absent rows page absent = same_rows _ _ (λ q. at-cut rows page q ∙ elim (cases_eq q page) [
  | inl e ↦ ap (λ b. cond b None (at rows q)) (eq-eqb q page e) ∙ sym (ap (at rows) e ∙ absent)
  | inr o ↦ ap (λ b. cond b None (at rows q)) (ne_eqb q page o)
])

pub drop-absent : (page : ℕ) (sp : Space) → at sp.table page ≡ None → drop_page page sp ≡ sp
unfolding drop_page
drop-absent page sp absent = λ i. record sp { table = cut-absent sp.table page absent i; free = give_back (absent i) sp.free }

pub each-step : {S : Type 0} (f : ℕ → S → S) (m n page : ℕ) (sp : S) → m ≡ suc n → each_page f m page sp ≡ each_page f n (page + 1) (f page sp)
each-step f m n page sp e = let next : suc page ≡ page + 1 = omega arith in ap (λ k. each_page f k page sp) e ∙ ap (λ k. each_page f n k (f page sp)) next

pub drop-none : (n page : ℕ) (sp : Space) → ((k : ℕ) → page ≤ k → k < page + n → at sp.table k ≡ None) → each_page drop_page n page sp ≡ sp
drop-none zero page sp h = refl
drop-none (suc n) page sp h =
    ap (each_page drop_page n (suc page)) (drop-absent page sp (h page (omega arith) (omega arith))) ∙ drop-none n (suc page) sp (λ k a b. h k (omega arith) (omega arith))

pub each-more : {S : Type 0} (f : ℕ → S → S) (n m page : ℕ) (sp : S) → each_page f (n + m) page sp ≡ each_page f m (page + n) (each_page f n page sp)
each-more f zero m page sp = let a : 0 + m ≡ m = omega arith in let b : page ≡ page + 0 = omega arith in ap (λ k. each_page f k page sp) a ∙ ap (λ k. each_page f m k sp) b
each-more f (suc n) m page sp =
    let a : suc n + m ≡ suc (n + m) = omega arith in let b : suc page + n ≡ page + suc n = omega arith in
    ap (λ k. each_page f k page sp) a ∙ each-more f n m (suc page) (f page sp) ∙ ap (λ k. each_page f m k (each_page f n (suc page) (f page sp))) b

pub protected : (rights : Rights) (page : ℕ) (sp : Space) → record sp { table = change sp.table page (λ (r : Row). (r.0, rights)) } ≡ protect_page rights page sp
unfolding protect_page
protected rights page sp = refl
