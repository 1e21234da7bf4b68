-- Bytes written through a table.
use Rattle.frame_mem.specs.Pages.{written}
use Rattle.hybrid_model.specs.Sides.{Row}
use Rattle.hybrid_model.specs.Spaces.{shown_memory, shown_row}
use Rattle.isa_model.specs.Memory.{Memory, Page, put_byte, write_bytes}
use Rattle.kernel_model.specs.Pages.{zero_page}
use Rattle.lwk_space.proofs.BytesRead.{at-row, frame-bytes}
use Rattle.lwk_space.proofs.OnePage.{frames-set}
use Rattle.lwk_space.specs.Frames.{frames_map}
use Rattle.lwk_space.specs.Lacks.{memory}
use Rattle.lwk_space.specs.Rows.{FramesApart}
use Rattle.mck_flags.specs.declared.rights.Rights.{Rights}
use Rattle.mck_word.specs.EachLaws.{at-each}
use Rattle.mck_word.specs.MapLaws.{at-put, same_rows}
use Rattle.mck_word.specs.Maps.{Map, at, change, change_row, put}
use Rattle.std.proofs.Common.{ap, arith, drop, inl, inr, refl, sym, take, ◌∙◌}
use Rattle.std.proofs.Math.ListN.{length-set}
use Rattle.std.proofs.lemmas.Bool.{cases_eq, eq-eqb, ne_eqb}
use Rattle.std.proofs.lemmas.List.{length-take, take-append-drop}
use Rattle.std.specs.Prelude.{Bool, false, true, List, None, Option, Some, [], ◌∷◌, ◌++◌, cond, length, option_map, slice_index_or, slice_set, suc, unwrap_or, zero, ℕ, ◌%◌, ◌*◌, ◌+◌, ◌/◌, ◌<◌, ◌==◌, ◌≡◌, ◌≢◌, ◌≤◌}

take-none : {A : Type 0} (k : ℕ) → ◌≡◌ {A = List A} [] (take k [])
take-none zero = refl
take-none (suc k) = refl

pub take-add : {A : Type 0} (n k : ℕ) (xs : List A) → take (n + k) xs ≡ take n xs ++ take k (drop n xs)
take-add zero k xs = let e : 0 + k ≡ k = omega arith in ap (λ j. take j xs) e
take-add {A} (suc n) k [] = let e : suc n + k ≡ suc (n + k) = omega arith in ap (λ j. take {A = A} j []) e ∙ take-none k
take-add (suc n) k (x ∷ xs) = let e : suc n + k ≡ suc (n + k) = omega arith in ap (λ j. take j (x ∷ xs)) e ∙ ap (λ ys. x ∷ ys) (take-add n k xs)

pub write-more : (m : Memory) (a : ℕ) (xs ys : List ℕ) → write_bytes m a (xs ++ ys) ≡ write_bytes (write_bytes m a xs) (a + length xs) ys
unfolding write_bytes
write-more m a [] ys = let e : a ≡ a + 0 = omega arith in ap (λ b. write_bytes m b ys) e
write-more m a (x ∷ xs) ys =
    let e : a + 1 + length xs ≡ a + suc (length xs) = omega arith in
    write-more (put_byte m a x) (a + 1) xs ys ∙ ap (λ b. write_bytes (write_bytes (put_byte m a x) (a + 1) xs) b ys) e

same-twice : {V : Type 0} (v w : V) (b : Bool) (o : Option V) → cond b (Some w) (cond b (Some v) o) ≡ cond b (Some w) o
same-twice v w true o = refl
same-twice v w false o = refl

put-twice : {V : Type 0} (m : Map V) (k : ℕ) (v w : V) → put (put m k v) k w ≡ put m k w
put-twice m k v w = same_rows _ _ (λ q. at-put (put m k v) k w q ∙ (ap (cond (q == k) (Some w)) (at-put m k v q) ∙ (same-twice v w (q == k) (at m q) ∙ sym (at-put m k w q))))

at-same : {V : Type 0} (m : Map V) (k : ℕ) (v : V) → at (put m k v) k ≡ Some v
at-same m k v = at-put m k v k ∙ ap (λ b. cond b (Some v) (at m k)) (eq-eqb k k refl)

change-there : {V : Type 0} (m : Map V) (k : ℕ) (f : V → V) (x : V) → at m k ≡ Some x → change m k f ≡ put m k (f x)
change-there m k f x e = ap (change_row m k f) e

-- bytes written from an offset on, after a first one
written-next : (b : ℕ) (page : List ℕ) (off : ℕ) (bs : List ℕ) → off + suc (length bs) ≤ length page → written (slice_set page off b) (off + 1) bs ≡ written page off (b ∷ bs)
written-next b [] off bs l = absurd (omega arith)
written-next b (x ∷ xs) zero bs l =
    let e : 0 + suc (length bs) ≡ suc (length bs) = omega arith in
    let f : 1 + length bs ≡ suc (length bs) = omega arith in
    ap (λ k. b ∷ (bs ++ drop k (b ∷ xs))) f ∙ sym (ap (λ k. b ∷ (bs ++ drop k (x ∷ xs))) e)
written-next b (x ∷ xs) (suc off) bs l =
    let s = slice_set xs off b in
    let e : suc off + 1 ≡ suc (off + 1) = omega arith in
    let f : suc (off + 1) + length bs ≡ suc (off + 1 + length bs) = omega arith in
    let g : suc off + suc (length bs) ≡ suc (off + suc (length bs)) = omega arith in
    ap (λ k. written (x ∷ s) k bs) e ∙ (ap (λ k. x ∷ (take (off + 1) s ++ (bs ++ drop k (x ∷ s)))) f
    ∙ (ap (λ ys. x ∷ ys) (written-next b xs off bs (omega arith)) ∙ sym (ap (λ k. x ∷ (take off xs ++ (b ∷ bs ++ drop k (x ∷ xs)))) g)))

written-none : (page : List ℕ) (off : ℕ) → written page off [] ≡ page
written-none page off = let e : off + 0 ≡ off = omega arith in ap (λ k. take off page ++ drop k page) e ∙ take-append-drop off page

abbrev page_of : Rights → List ℕ → Page
page_of rights bytes = record { rights = rights; bytes = bytes }

put-same : {V : Type 0} (m : Map V) (k : ℕ) (v : V) → at m k ≡ Some v → m ≡ put m k v
put-same m k v there = same_rows _ _ (λ q. elim (cases_eq q k) [
  | inl e ↦ (ap (at m) e ∙ there) ∙ sym (at-put m k v q ∙ ap (λ b. cond b (Some v) (at m q)) (eq-eqb q k e))
  | inr o ↦ sym (at-put m k v q ∙ ap (λ b. cond b (Some v) (at m q)) (ne_eqb q k o))
])

pub write-in-page : (bs : List ℕ) (m : Memory) (page off : ℕ) (x : Page) → at m page ≡ Some x → length x.bytes ≡ 4096 → off + length bs ≤ 4096
    → write_bytes m (page * 4096 + off) bs ≡ put m page (record x { bytes = written x.bytes off bs })
unfolding write_bytes
write-in-page [] m page off x there long fits = put-same m page x there ∙ ap (λ bytes. put m page (record x { bytes = bytes })) (sym (written-none x.bytes off))
write-in-page (b ∷ bs) m page off x there long fits =
    let a = page * 4096 + off in
    let p : a / 4096 ≡ page = omega arith in
    let o : a % 4096 ≡ off = omega arith in
    let next : a + 1 ≡ page * 4096 + (off + 1) = omega arith in
    let y : Page = record x { bytes = slice_set x.bytes off b } in
    let byte : put_byte m a b ≡ put m page y = (λ i. change m (p i) (λ (z : Page). record z { bytes = slice_set z.bytes (o i) b })) ∙ change-there m page (λ (z : Page). record z { bytes = slice_set z.bytes off b }) x there in
    (λ i. write_bytes (byte i) (next i) bs)
    ∙ (write-in-page bs (put m page y) page (off + 1) y (at-same m page y) (length-set x.bytes off b ∙ long) (omega arith)
    ∙ (put-twice m page y _ ∙ ap (λ bytes. put m page (record x { bytes = bytes })) (written-next b x.bytes off bs (omega arith))))

shown-put : (rows : Map Row) (frames : Map (List ℕ)) (page : ℕ) (w : Row) (bytes : List ℕ) → at rows page ≡ Some w → FramesApart rows
    → (q : ℕ) → option_map (shown_row (put frames w.0.0 bytes)) (at rows q) ≡ cond (q == page) (Some (record { rights = w.1; bytes = bytes })) (option_map (shown_row frames) (at rows q))
shown-put rows frames page w bytes there apart q = elim (cases_eq q page) [
  | inl e ↦
      ap (option_map (shown_row (put frames w.0.0 bytes))) (ap (at rows) e ∙ there)
      ∙ (ap (λ o. Some (page_of w.1 (unwrap_or o zero_page))) (at-same frames w.0.0 bytes)
      ∙ sym (ap (λ b. cond b (Some (page_of w.1 bytes)) (option_map (shown_row frames) (at rows q))) (eq-eqb q page e)))
  | inr o ↦ by_row o (at rows q) refl ∙ sym (ap (λ b. cond b (Some (page_of w.1 bytes)) (option_map (shown_row frames) (at rows q))) (ne_eqb q page o))
]
  where
    by_row : q ≢ page → (r : Option Row) → at rows q ≡ r → option_map (shown_row (put frames w.0.0 bytes)) r ≡ option_map (shown_row frames) r
    by_row o None e = refl
    by_row o (Some v) e =
        ap (λ x. Some (page_of v.1 (unwrap_or x zero_page))) (at-put frames w.0.0 bytes v.0.0
        ∙ ap (λ b. cond b (Some bytes) (at frames v.0.0)) (ne_eqb v.0.0 w.0.0 (λ same. o (apart q page v w e there same))))

-- other bytes of a row's frame are other bytes of its page
pub shown-set : (rows : Map Row) (pages : List (List ℕ)) (page : ℕ) (w : Row) (bytes : List ℕ) → at rows page ≡ Some w → FramesApart rows → w.0.0 < length pages
    → memory rows (slice_set pages w.0.0 bytes) ≡ put (memory rows pages) page (page_of w.1 bytes)
shown-set rows pages page w bytes there apart inside =
    ap (λ frames. shown_memory rows frames) (frames-set pages w.0.0 bytes inside)
    ∙ same_rows _ _ (λ q. at-each (shown_row (put (frames_map pages) w.0.0 bytes)) rows q ∙ (shown-put rows (frames_map pages) page w bytes there apart q
    ∙ sym (at-put (memory rows pages) page (page_of w.1 bytes) q ∙ ap (cond (q == page) (Some (page_of w.1 bytes))) (at-each (shown_row (frames_map pages)) rows q))))

pub write-piece : (rows : Map Row) (pages : List (List ℕ)) (page off : ℕ) (bs : List ℕ) (w : Row) → at rows page ≡ Some w → FramesApart rows → w.0.0 < length pages
    → off + length bs ≤ 4096 → length (slice_index_or pages w.0.0 []) ≡ 4096
    → memory rows (slice_set pages w.0.0 (written (slice_index_or pages w.0.0 []) off bs)) ≡ write_bytes (memory rows pages) (page * 4096 + off) bs
write-piece rows pages page off bs w there apart inside fits long =
    let same = frame-bytes pages w.0.0 inside in
    shown-set rows pages page w _ there apart inside
    ∙ sym (write-in-page bs (memory rows pages) page off (shown_row (frames_map pages) w) (at-row rows pages page w there) (ap length same ∙ long) fits
    ∙ ap (λ bytes. put (memory rows pages) page (page_of w.1 (written bytes off bs))) same)

pub write-none : (m : Memory) (a : ℕ) → write_bytes m a [] ≡ m
unfolding write_bytes
write-none m a = refl

-- one part more
pub write-step : (m : Memory) (a n k : ℕ) (xs : List ℕ) → n ≤ length xs → write_bytes (write_bytes m a (take n xs)) (a + n) (take k (drop n xs)) ≡ write_bytes m a (take (n + k) xs)
write-step m a n k xs l =
    let e : length (take n xs) ≡ n = omega (arith, length-take n xs) in
    ap (λ j. write_bytes (write_bytes m a (take n xs)) (a + j) (take k (drop n xs))) (sym e)
    ∙ (sym (write-more m a (take n xs) (take k (drop n xs))) ∙ ap (write_bytes m a) (sym (take-add n k xs)))
