-- Parts of two files that have the same bytes.
use Rattle.byteorder.specs.Endian.{little_bytes, little_from}
use Rattle.byteorder.specs.Numbers.{length-bytes_low_first, little_from-cons, little_from-lt, little_from-take, little_number-reads_back}
use Rattle.elf_load.specs.Fields.{field}
use Rattle.elf_load.specs.Kept.{AreBytes}
use Rattle.std.specs.Int.{byte_at, bytes_low_first}
use Rattle.std.proofs.Common.{◌≡◌, inl, inr, ℕ, zero, suc, ◌+◌, ◌-◌, ◌*◌, ◌^◌, ◌/◌, ◌%◌, mod-lt, ◌<◌, ◌≤◌, List, [], ◌∷◌, ◌++◌, length, take, drop, get_or, refl, sym, ◌∙◌, ap, arith, append-nil, get_or-drop, get_or-take, length-drop, length-take}
use Rattle.std.proofs.lemmas.Bool.{cases_lt}
use Rattle.std.proofs.lemmas.List.{get_or_past, get_or_append_left, get_or-append-add}

-- n bytes of xs from i on are those of ys from j on
abbrev pub Alike : List ℕ → ℕ → List ℕ → ℕ → ℕ → Type 0
Alike xs i ys j n = (k : ℕ) → k < n → get_or xs (i + k) 0 ≡ get_or ys (j + k) 0

-- a part of them
pub alike_inside : (xs : List ℕ) (i : ℕ) (ys : List ℕ) (j n o m i' j' : ℕ) → Alike xs i ys j n → o + m ≤ n → i' ≡ i + o → j' ≡ j + o → Alike xs i' ys j' m
alike_inside xs i ys j n o m i' j' h within ei ej k below =
    let left : i' + k ≡ i + (o + k) = omega arith in
    let right : j + (o + k) ≡ j' + k = omega arith in
    ap (λ (p : ℕ). get_or xs p 0) left ∙ (h (o + k) (omega arith) ∙ ap (λ (p : ℕ). get_or ys p 0) right)

-- ---- numbers in them

little_same : (n i : ℕ) (xs ys : List ℕ) → ((k : ℕ) → i ≤ k → k < i + n → get_or xs k 0 ≡ get_or ys k 0) → little_from i n xs ≡ little_from i n ys
little_same zero i xs ys h = refl
little_same (suc n) i xs ys h =
    let here : get_or xs i 0 ≡ get_or ys i 0 = h i (omega arith) (omega arith) in
    let rest : little_from (suc i) n xs ≡ little_from (suc i) n ys = little_same n (suc i) xs ys (λ k low high. h k (omega arith) (omega arith)) in
    omega (arith, here, rest)

pub field_alike : (size : ℕ) (xs : List ℕ) (i : ℕ) (ys : List ℕ) (j : ℕ) → Alike xs i ys j size → field size i xs ≡ field size j ys
unfolding field
field_alike size xs i ys j h =
    little_same size 0 (drop i xs) (drop j ys)
    (λ k low high. get_or-drop i xs k 0 ∙ (h k (omega arith) ∙ sym (get_or-drop j ys k 0)))

pub byte_small : (xs : List ℕ) → AreBytes xs → (k : ℕ) → get_or xs k 0 < 256
byte_small xs h k = elim (cases_lt k (length xs)) [
  | inl below ↦ h k 0 below
  | inr past ↦ let none : get_or xs k 0 ≡ 0 = get_or_past xs k 0 past in omega arith
]

pub field_fits : (size i : ℕ) (xs : List ℕ) → AreBytes xs → field size i xs < 256 ^ size
unfolding field
field_fits size i xs h =
    little_from-lt 0 size (drop i xs) (λ k. let e : get_or (drop i xs) k 0 ≡ get_or xs (i + k) 0 = get_or-drop i xs k 0 in let small : get_or xs (i + k) 0 < 256 = byte_small xs h (i + k) in omega arith)

-- as many bytes that make the same number are the same bytes
same_number : (n : ℕ) (xs ys : List ℕ) → length xs ≡ n → length ys ≡ n → ((k : ℕ) → get_or xs k 0 < 256) → ((k : ℕ) → get_or ys k 0 < 256)
    → little_from 0 n xs ≡ little_from 0 n ys → xs ≡ ys
same_number zero [] [] lx ly hx hy e = refl
same_number zero [] (y ∷ ys) lx ly hx hy e = absurd (omega arith)
same_number zero (x ∷ xs) ys lx ly hx hy e = absurd (omega arith)
same_number (suc n) [] ys lx ly hx hy e = absurd (omega arith)
same_number (suc n) (x ∷ xs) [] lx ly hx hy e = absurd (omega arith)
same_number (suc n) (x ∷ xs) (y ∷ ys) lx ly hx hy e =
    let left : little_from 1 n (x ∷ xs) ≡ little_from 0 n xs = little_from-cons 0 n x xs in
    let right : little_from 1 n (y ∷ ys) ≡ little_from 0 n ys = little_from-cons 0 n y ys in
    let whole : x + 256 * little_from 1 n (x ∷ xs) ≡ y + 256 * little_from 1 n (y ∷ ys) = e in
    let small_x : x < 256 = hx 0 in
    let small_y : y < 256 = hy 0 in
    let same : x ≡ y = omega arith in
    let rest : little_from 0 n xs ≡ little_from 0 n ys = omega arith in
    let others : xs ≡ ys = same_number n xs ys (omega arith) (omega arith) (λ k. hx (suc k)) (λ k. hy (suc k)) rest in
    rw (same, others) refl

byte_at_small : (i x : ℕ) → byte_at i x < 256
byte_at_small zero x = omega arith
byte_at_small (suc i) x = let small : x / 256 ^ suc i % 256 < 256 = mod-lt (x / 256 ^ suc i) (omega arith) in small

little_small : (i n x k : ℕ) → get_or (bytes_low_first i n x) k 0 < 256
little_small i zero x k = omega arith
little_small i (suc n) x zero = byte_at_small i x
little_small i (suc n) x (suc k) = little_small (suc i) n x k

part_small : (n : ℕ) (xs : List ℕ) → ((k : ℕ) → get_or xs k 0 < 256) → (k : ℕ) → get_or (take n xs) k 0 < 256
part_small zero xs h k = omega arith
part_small (suc n) [] h k = omega arith
part_small (suc n) (x ∷ xs) h zero = h 0
part_small (suc n) (x ∷ xs) h (suc k) = part_small n xs (λ m. h (suc m)) k

-- the bytes of a field's number are the field's bytes
field_bytes : (size i : ℕ) (xs : List ℕ) → AreBytes xs → i + size ≤ length xs → little_bytes size (field size i xs) ≡ take size (drop i xs)
unfolding field
field_bytes size i xs h within =
    let part : List ℕ = take size (drop i xs) in
    let n : ℕ = little_from 0 size (drop i xs) in
    let small : (k : ℕ) → get_or part k 0 < 256 = λ k. part_small size (drop i xs) (λ m. let e : get_or (drop i xs) m 0 ≡ get_or xs (i + m) 0 = get_or-drop i xs m 0 in let s : get_or xs (i + m) 0 < 256 = byte_small xs h (i + m) in omega arith) k in
    let fits : n < 256 ^ size = little_from-lt 0 size (drop i xs) (λ k. let e : get_or (drop i xs) k 0 ≡ get_or xs (i + k) 0 = get_or-drop i xs k 0 in let s : get_or xs (i + k) 0 < 256 = byte_small xs h (i + k) in omega arith) in
    let read : little_from 0 size (little_bytes size n) ≡ n = ap (little_from 0 size) (sym (append-nil (little_bytes size n))) ∙ little_number-reads_back size n [] fits in
    let long : length part ≡ size = simp (length-take, length-drop) (omega arith) in
    same_number size (little_bytes size n) part (length-bytes_low_first 0 size n) long (λ k. little_small 0 size n k) small (read ∙ sym (little_from-take 0 size size (drop i xs) (omega arith)))

-- a field's bytes stand at its place
pub field_stands : (size i : ℕ) (xs : List ℕ) (n : ℕ) → AreBytes xs → i + size ≤ length xs → field size i xs ≡ n → Alike (little_bytes size n) 0 xs i size
field_stands size i xs n h within e k below =
    let bytes : little_bytes size n ≡ take size (drop i xs) = ap (little_bytes size) (sym e) ∙ field_bytes size i xs h within in
    let start : 0 + k ≡ k = omega arith in
    ap (λ (p : ℕ). get_or (little_bytes size n) p 0) start
    ∙ (ap (λ (ys : List ℕ). get_or ys k 0) bytes ∙ (get_or-take size (drop i xs) k 0 below ∙ get_or-drop i xs k 0))

-- one part behind another
pub alike_join : (front back : List ℕ) (ys : List ℕ) (j n m : ℕ) → length front ≡ n → Alike front 0 ys j n → Alike back 0 ys (j + n) m → Alike (front ++ back) 0 ys j (n + m)
alike_join front back ys j n m len first second k below = elim (cases_lt k n) [
  | inl low ↦
      let e : 0 + k ≡ k = omega arith in
      let inside : k < length front = omega arith in
      ap (λ (p : ℕ). get_or (front ++ back) p 0) e
      ∙ (get_or_append_left front back 0 k inside ∙ (ap (λ (p : ℕ). get_or front p 0) (sym e) ∙ first k low))
  | inr high ↦
      let e : 0 + k ≡ length front + (k - n) = omega arith in
      let f : j + n + (k - n) ≡ j + k = omega arith in
      let z : 0 + (k - n) ≡ k - n = omega arith in
      ap (λ (p : ℕ). get_or (front ++ back) p 0) e
      ∙ (get_or-append-add front back (k - n) 0 ∙ (ap (λ (p : ℕ). get_or back p 0) (sym z) ∙ (second (k - n) (omega arith) ∙ ap (λ (p : ℕ). get_or ys p 0) f)))
]
