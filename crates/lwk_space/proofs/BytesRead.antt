-- Bytes read through a table, and what a table lacks.
use Rattle.hybrid_model.specs.Sides.{Row}
use Rattle.hybrid_model.specs.Spaces.{frame_bytes, shown_row}
use Rattle.hybrid_model.specs.Sides.{looked_up}
use Rattle.isa_model.specs.declared.stops.Lack.{Lack}
use Rattle.isa_model.specs.Memory.{Memory, Page, allows, byte_at, byte_in, lacks, lacks_in, may_access, read_bytes}
use Rattle.lwk_space.specs.Frames.{frames_map}
use Rattle.lwk_space.specs.Lacks.{Allowed, IsFirstLack, Refused, memory}
use Rattle.mck_word.specs.EachLaws.{at-each}
use Rattle.kernel_model.specs.Pages.{zero_page}
use Rattle.mck_word.specs.Slots.{at-slots}
use Rattle.mck_word.specs.Maps.{Map, at}
use Rattle.mck_word.specs.declared.Access.{Access}
use Rattle.std.proofs.Common.{ap, arith, drop, inl, inr, refl, sym, take, ◌∙◌}
use Rattle.std.proofs.lemmas.Bool.{cases_eq}
use Rattle.std.proofs.lemmas.List.{drop_more}
use Rattle.std.specs.Prelude.{Bool, IsSome, if◌then◌else◌, is_none, List, None, Option, Some, [], ◌∷◌, ◌++◌, false, length, map, unwrap_or, not, option_map, slice_index, slice_index_or, suc, true, zero, ℕ, ◌%◌, ◌&&◌, ◌*◌, ◌+◌, ◌/◌, ◌<◌, ◌≡◌, ◌≤◌}

read-suc : (m : Memory) (a n : ℕ) → read_bytes m a (suc n) ≡ byte_at m a ∷ read_bytes m (a + 1) n
read-suc m a n = refl

pub read-more : (m : Memory) (a k j : ℕ) → read_bytes m a (k + j) ≡ read_bytes m a k ++ read_bytes m (a + k) j
read-more m a zero j = let e : 0 + j ≡ j = omega arith in let f : a ≡ a + 0 = omega arith in ap (read_bytes m a) e ∙ ap (λ b. read_bytes m b j) f
read-more m a (suc k) j =
    let e : suc k + j ≡ suc (k + j) = omega arith in let f : a + 1 + k ≡ a + suc k = omega arith in
    ap (read_bytes m a) e ∙ (read-suc m a (k + j) ∙ (ap (λ bs. byte_at m a ∷ bs) (read-more m (a + 1) k j) ∙ (ap (λ b. byte_at m a ∷ (read_bytes m (a + 1) k ++ read_bytes m b j)) f
    ∙ ap (λ bs. bs ++ read_bytes m (a + suc k) j) (sym (read-suc m a k)))))

pub at-row : (rows : Map Row) (pages : List (List ℕ)) (p : ℕ) (w : Row) → at rows p ≡ Some w → at (memory rows pages) p ≡ Some (shown_row (frames_map pages) w)
at-row rows pages p w e = at-each (shown_row (frames_map pages)) rows p ∙ ap (option_map (shown_row (frames_map pages))) e

pub lacks-row : (rows : Map Row) (pages : List (List ℕ)) (a : Access) (p : ℕ) (w : Row) → at rows p ≡ Some w → lacks (memory rows pages) a p ≡ not (allows a w.1)
lacks-row rows pages a p w e = ap (lacks_in a) (at-row rows pages p w e)

pub lacks-absent : (rows : Map Row) (pages : List (List ℕ)) (a : Access) (p : ℕ) → at rows p ≡ None → lacks (memory rows pages) a p ≡ true
lacks-absent rows pages a p e =
    let gone : at (memory rows pages) p ≡ None = at-each (shown_row (frames_map pages)) rows p ∙ ap (option_map (shown_row (frames_map pages))) e in
    ap (lacks_in a) gone

-- bytes within one page
pub read-in-page : (m : Memory) (page off n : ℕ) (x : Page) → at m page ≡ Some x → off + n ≤ 4096 → length x.bytes ≡ 4096 → read_bytes m (page * 4096 + off) n ≡ take n (drop off x.bytes)
read-in-page m page off zero x there inside long = refl
read-in-page m page off (suc n) x there inside long =
    let a = page * 4096 + off in
    let p : a / 4096 ≡ page = omega arith in
    let o : a % 4096 ≡ off = omega arith in
    let next : a + 1 ≡ page * 4096 + (off + 1) = omega arith in
    let byte : byte_at m a ≡ slice_index x.bytes off = (λ i. byte_in (at m (p i)) (o i)) ∙ ap (λ y. byte_in y off) there in
    read-suc m a n ∙ ((λ i. byte i ∷ read_bytes m (next i) n) ∙ (ap (λ bs. slice_index x.bytes off ∷ bs) (read-in-page m page (off + 1) n x there (omega arith) long)
    ∙ sym (ap (take (suc n)) (drop_more x.bytes off 0 (omega arith)))))

pub lacks-looked : (rows : Map Row) (pages : List (List ℕ)) (a : Access) (p : ℕ) → lacks (memory rows pages) a p ≡ is_none (looked_up (at rows p) a)
lacks-looked rows pages a p = by_row (at rows p) refl
  where
    by_allowed : (b : Bool) (w : Row) → not b ≡ is_none (if b then Some w else None)
    by_allowed true w = refl
    by_allowed false w = refl

    by_row : (o : Option Row) → at rows p ≡ o → lacks (memory rows pages) a p ≡ is_none (looked_up o a)
    by_row None e = lacks-absent rows pages a p e
    by_row (Some w) e = lacks-row rows pages a p w e ∙ by_allowed (allows a w.1) w

-- a range may be accessed where no page of it lacks the right
pub may-all : (m : Memory) (a : Access) (address n : ℕ) → ((p : ℕ) → 1 ≤ n → address / 4096 ≤ p → p * 4096 < address + n → lacks m a p ≡ false) → may_access m a address n ≡ true
may-all m a address zero h = refl
may-all m a address (suc n) h =
    let here = h (address / 4096) (omega arith) (omega arith) (omega arith) in
    let rest = may-all m a (address + 1) n (λ p s x y. h p (omega arith) (omega arith) (omega arith)) in
    rw (here, rest) refl

pub some-is : {A : Type 0} (o : Option A) → IsSome o → is_none o ≡ false
some-is None h = absurd (cc)
some-is (Some x) h = refl

pub may-allowed : (rows : Map Row) (pages : List (List ℕ)) (a : Access) (address n : ℕ) → Allowed rows a address n → may_access (memory rows pages) a address n ≡ true
may-allowed rows pages a address n h = may-all (memory rows pages) a address n (λ p s x y. lacks-looked rows pages a p ∙ some-is (looked_up (at rows p) a) (h p s x y).0)

pub first-lack : (rows : Map Row) (pages : List (List ℕ)) (a : Access) (address n : ℕ) (l : Lack) → Refused rows a address n l → IsFirstLack (memory rows pages) a address n l
first-lack rows pages a address n l h = record {
  some = h.some;
  access = h.access;
  from = h.first.from;
  to = h.to;
  lacking = lacks-looked rows pages a l.page ∙ ap is_none h.first.lacking;
  first = λ p x y. lacks-looked rows pages a p ∙ some-is (looked_up (at rows p) a) (h.first.before p x y).0;
}

pub looked-there : (o : Option Row) (a : Access) (w : Row) → looked_up o a ≡ Some w → o ≡ Some w
looked-there None a w e = e
looked-there (Some v) a w e = by_allowed (allows a v.1) e
  where
    by_allowed : (b : Bool) → (if b then Some v else None) ≡ Some w → Some v ≡ Some w
    by_allowed true e = e
    by_allowed false e = absurd (cc)

pub some-at : (pages : List (List ℕ)) (f : ℕ) → f < length pages → slice_index_or (map Some pages) f None ≡ Some (slice_index_or pages f [])
some-at [] f l = absurd (omega arith)
some-at (x ∷ xs) zero l = refl
some-at (x ∷ xs) (suc f) l = some-at xs f (omega arith)

-- the bytes of a frame
pub frame-bytes : (pages : List (List ℕ)) (f : ℕ) → f < length pages → frame_bytes (frames_map pages) f ≡ slice_index_or pages f []
frame-bytes pages f l = ap (λ o. unwrap_or o zero_page) (at-slots (map Some pages) f ∙ some-at pages f l)

-- what is copied out of a row's frame are the bytes of its page
pub read-piece : (rows : Map Row) (pages : List (List ℕ)) (page off n : ℕ) (w : Row) → at rows page ≡ Some w → w.0.0 < length pages → off + n ≤ 4096 → length (slice_index_or pages w.0.0 []) ≡ 4096
    → take n (drop off (slice_index_or pages w.0.0 [])) ≡ read_bytes (memory rows pages) (page * 4096 + off) n
read-piece rows pages page off n w there inside fits long =
    let same = frame-bytes pages w.0.0 inside in
    ap (λ bs. take n (drop off bs)) (sym same)
    ∙ sym (read-in-page (memory rows pages) page off n (shown_row (frames_map pages) w) (at-row rows pages page w there) fits (ap length same ∙ long))

pub length-read : (m : Memory) (a n : ℕ) → length (read_bytes m a n) ≡ n
length-read m a zero = refl
length-read m a (suc n) = ap length (read-suc m a n) ∙ (let rest = length-read m (a + 1) n in omega arith)

-- a range of which some page lacks the right may not be accessed
may-not : (m : Memory) (a : Access) (address n page : ℕ) → 1 ≤ n → address / 4096 ≤ page → page * 4096 < address + n → lacks m a page ≡ true → may_access m a address n ≡ false
may-not m a address zero page some from to lacking = absurd (omega arith)
may-not m a address (suc n) page some from to lacking = elim (cases_eq page (address / 4096)) [
  | inl here ↦ ap (λ b. not b && may_access m a (address + 1) n) (ap (lacks m a) (sym here) ∙ lacking)
  | inr other ↦
      ap (λ b. not (lacks m a (address / 4096)) && b) (may-not m a (address + 1) n page (omega arith) (omega arith) (omega arith) lacking)
      ∙ and-false (not (lacks m a (address / 4096)))
]
  where
    and-false : (b : Bool) → (b && false) ≡ false
    and-false true = refl
    and-false false = refl

pub not-allowed : (m : Memory) (a : Access) (address n : ℕ) (l : Lack) → IsFirstLack m a address n l → may_access m a address n ≡ false
not-allowed m a address n l h = may-not m a address n l.page h.some h.from h.to h.lacking
