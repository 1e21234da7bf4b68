-- Bytes written to pages.
use Rattle.isa_model.specs.Memory.{Memory, Page, put_byte, write_bytes}
use Rattle.mck_word.specs.MapLaws.{at-none, at-put, same_rows}
use Rattle.mck_word.specs.Maps.{Map, at, change, change_row, no_rows, put}
use Rattle.one_memory.specs.Pages.{AreLow, written}
use Rattle.std.proofs.Common.{ap, arith, drop, inl, inr, refl, sym, take, ◌∙◌}
use Rattle.std.proofs.Math.ListN.{length-set}
use Rattle.std.proofs.lemmas.Bool.{cases_eq, eq-eqb, ne_eqb}
use Rattle.std.proofs.lemmas.List.{length-take, take-append-drop}
use Rattle.std.specs.Prelude.{Bool, false, true, IsSome, List, None, Option, Some, [], ◌∷◌, ◌++◌, cond, is_some, length, slice_set, suc, zero, ℕ, ◌%◌, ◌*◌, ◌+◌, ◌/◌, ◌==◌, ◌≡◌, ◌≤◌}

take-none : {A : Type 0} (k : ℕ) → ◌≡◌ {A = List A} [] (take k [])
take-none zero = refl
take-none (suc k) = refl

pub take-add : {A : Type 0} (n k : ℕ) (xs : List A) → take (n + k) xs ≡ take n xs ++ take k (drop n xs)
take-add zero k xs = let e : 0 + k ≡ k = omega arith in ap (λ j. take j xs) e
take-add {A} (suc n) k [] = let e : suc n + k ≡ suc (n + k) = omega arith in ap (λ j. take {A = A} j []) e ∙ take-none k
take-add (suc n) k (x ∷ xs) = let e : suc n + k ≡ suc (n + k) = omega arith in ap (λ j. take j (x ∷ xs)) e ∙ ap (λ ys. x ∷ ys) (take-add n k xs)

pub write-more : (m : Memory) (a : ℕ) (xs ys : List ℕ) → write_bytes m a (xs ++ ys) ≡ write_bytes (write_bytes m a xs) (a + length xs) ys
unfolding write_bytes
write-more m a [] ys = let e : a ≡ a + 0 = omega arith in ap (λ b. write_bytes m b ys) e
write-more m a (x ∷ xs) ys =
    let e : a + 1 + length xs ≡ a + suc (length xs) = omega arith in
    write-more (put_byte m a x) (a + 1) xs ys ∙ ap (λ b. write_bytes (write_bytes (put_byte m a x) (a + 1) xs) b ys) e

same-twice : {V : Type 0} (v w : V) (b : Bool) (o : Option V) → cond b (Some w) (cond b (Some v) o) ≡ cond b (Some w) o
same-twice v w true o = refl
same-twice v w false o = refl

pub put-twice : {V : Type 0} (m : Map V) (k : ℕ) (v w : V) → put (put m k v) k w ≡ put m k w
put-twice m k v w = same_rows _ _ (λ q. at-put (put m k v) k w q ∙ (ap (cond (q == k) (Some w)) (at-put m k v q) ∙ (same-twice v w (q == k) (at m q) ∙ sym (at-put m k w q))))

pub at-same : {V : Type 0} (m : Map V) (k : ℕ) (v : V) → at (put m k v) k ≡ Some v
at-same m k v = at-put m k v k ∙ ap (λ b. cond b (Some v) (at m k)) (eq-eqb k k refl)

pub change-there : {V : Type 0} (m : Map V) (k : ℕ) (f : V → V) (x : V) → at m k ≡ Some x → change m k f ≡ put m k (f x)
change-there m k f x e = ap (change_row m k f) e

-- bytes written from an offset on, after a first one
written-next : (b : ℕ) (page : List ℕ) (off : ℕ) (bs : List ℕ) → off + suc (length bs) ≤ length page → written (slice_set page off b) (off + 1) bs ≡ written page off (b ∷ bs)
written-next b [] off bs l = absurd (omega arith)
written-next b (x ∷ xs) zero bs l =
    let e : 0 + suc (length bs) ≡ suc (length bs) = omega arith in
    let f : 1 + length bs ≡ suc (length bs) = omega arith in
    ap (λ k. b ∷ (bs ++ drop k (b ∷ xs))) f ∙ sym (ap (λ k. b ∷ (bs ++ drop k (x ∷ xs))) e)
written-next b (x ∷ xs) (suc off) bs l =
    let s = slice_set xs off b in
    let e : suc off + 1 ≡ suc (off + 1) = omega arith in
    let f : suc (off + 1) + length bs ≡ suc (off + 1 + length bs) = omega arith in
    let g : suc off + suc (length bs) ≡ suc (off + suc (length bs)) = omega arith in
    ap (λ k. written (x ∷ s) k bs) e ∙ (ap (λ k. x ∷ (take (off + 1) s ++ (bs ++ drop k (x ∷ s)))) f
    ∙ (ap (λ ys. x ∷ ys) (written-next b xs off bs (omega arith)) ∙ sym (ap (λ k. x ∷ (take off xs ++ (b ∷ bs ++ drop k (x ∷ xs)))) g)))

written-none : (page : List ℕ) (off : ℕ) → written page off [] ≡ page
written-none page off = let e : off + 0 ≡ off = omega arith in ap (λ k. take off page ++ drop k page) e ∙ take-append-drop off page

put-same : {V : Type 0} (m : Map V) (k : ℕ) (v : V) → at m k ≡ Some v → m ≡ put m k v
put-same m k v there = same_rows _ _ (λ q. elim (cases_eq q k) [
  | inl e ↦ (ap (at m) e ∙ there) ∙ sym (at-put m k v q ∙ ap (λ b. cond b (Some v) (at m q)) (eq-eqb q k e))
  | inr o ↦ sym (at-put m k v q ∙ ap (λ b. cond b (Some v) (at m q)) (ne_eqb q k o))
])

pub write-in-page : (bs : List ℕ) (m : Memory) (page off : ℕ) (x : Page) → at m page ≡ Some x → length x.bytes ≡ 4096 → off + length bs ≤ 4096
    → write_bytes m (page * 4096 + off) bs ≡ put m page (record x { bytes = written x.bytes off bs })
unfolding write_bytes
write-in-page [] m page off x there long fits = put-same m page x there ∙ ap (λ bytes. put m page (record x { bytes = bytes })) (sym (written-none x.bytes off))
write-in-page (b ∷ bs) m page off x there long fits =
    let a = page * 4096 + off in
    let p : a / 4096 ≡ page = omega arith in
    let o : a % 4096 ≡ off = omega arith in
    let next : a + 1 ≡ page * 4096 + (off + 1) = omega arith in
    let y : Page = record x { bytes = slice_set x.bytes off b } in
    let byte : put_byte m a b ≡ put m page y = (λ i. change m (p i) (λ (z : Page). record z { bytes = slice_set z.bytes (o i) b })) ∙ change-there m page (λ (z : Page). record z { bytes = slice_set z.bytes off b }) x there in
    (λ i. write_bytes (byte i) (next i) bs)
    ∙ (write-in-page bs (put m page y) page (off + 1) y (at-same m page y) (length-set x.bytes off b ∙ long) (omega arith)
    ∙ (put-twice m page y _ ∙ ap (λ bytes. put m page (record x { bytes = bytes })) (written-next b x.bytes off bs (omega arith))))

pub write-none : (m : Memory) (a : ℕ) → write_bytes m a [] ≡ m
unfolding write_bytes
write-none m a = refl

-- one part more
pub write-step : (m : Memory) (a n k : ℕ) (xs : List ℕ) → n ≤ length xs → write_bytes (write_bytes m a (take n xs)) (a + n) (take k (drop n xs)) ≡ write_bytes m a (take (n + k) xs)
write-step m a n k xs l =
    let e : length (take n xs) ≡ n = omega (arith, length-take n xs) in
    ap (λ j. write_bytes (write_bytes m a (take n xs)) (a + j) (take k (drop n xs))) (sym e)
    ∙ (sym (write-more m a (take n xs) (take k (drop n xs))) ∙ ap (write_bytes m a) (sym (take-add n k xs)))

some-changed : {V : Type 0} (m : Map V) (k q : ℕ) (f : V → V) (o : Option V) → at m k ≡ o → is_some (at (change_row m k f o) q) ≡ is_some (at m q)
some-changed m k q f None e = refl
some-changed m k q f (Some v) e = elim (cases_eq q k) [
  | inl same ↦ ap is_some (at-put m k (f v) q ∙ ap (λ b. cond b (Some (f v)) (at m q)) (eq-eqb q k same)) ∙ sym (ap is_some (ap (at m) same ∙ e))
  | inr other ↦ ap is_some (at-put m k (f v) q ∙ ap (λ b. cond b (Some (f v)) (at m q)) (ne_eqb q k other))
]

-- the pages after bytes are written are those before
pub some-written : (bs : List ℕ) (m : Memory) (a q : ℕ) → is_some (at (write_bytes m a bs) q) ≡ is_some (at m q)
unfolding write_bytes
some-written [] m a q = refl
some-written (b ∷ bs) m a q =
    some-written bs (put_byte m a b) (a + 1) q ∙ some-changed m (a / 4096) q (λ (x : Page). record x { bytes = slice_set x.bytes (a % 4096) b }) (at m (a / 4096)) refl

pub some-after : (bs : List ℕ) (m w : Memory) (a q : ℕ) (x : Page) → w ≡ write_bytes m a bs → at m q ≡ Some x → is_some (at w q) ≡ true
some-after bs m w a q x e there = ap (λ (n : Memory). is_some (at n q)) e ∙ some-written bs m a q ∙ ap is_some there

-- the page numbers of a memory with its bytes changed are those that it has
pub low-written : (bs : List ℕ) (m w : Memory) (a : ℕ) → w ≡ write_bytes m a bs → AreLow m → AreLow w
low-written bs m w a e low k h = low k (sym (ap (λ (n : Memory). is_some (at n k)) e ∙ some-written bs m a k) ∙ h)

pub low-put : (m : Memory) (k : ℕ) (x : Page) → IsSome (at m k) → AreLow m → AreLow (put m k x)
low-put m k x there low q h = elim (cases_eq q k) [
  | inl same ↦ low q (ap (λ j. is_some (at m j)) same ∙ there)
  | inr other ↦ low q (sym (ap is_some (at-put m k x q ∙ ap (λ b. cond b (Some x) (at m q)) (ne_eqb q k other))) ∙ h)
]

pub low-none : AreLow no_rows
low-none k h = absurd (let e = ap is_some (at-none {V = Page} k) in grind (arith, e, h))

-- a page that is there is there after one is changed
pub some-kept : (m w : Memory) (page : ℕ) (f : Page → Page) → w ≡ change m page f → (q : ℕ) → is_some (at m q) ≡ true → is_some (at w q) ≡ true
some-kept m w page f e q h = ap (λ (n : Memory). is_some (at n q)) e ∙ some-changed m page q f (at m page) refl ∙ h
