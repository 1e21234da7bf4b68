-- The header's fields, written over the bytes of a file that agrees with them.
use Rattle.byteorder.specs.Endian.{little_bytes}
use Rattle.byteorder.specs.Numbers.{length-bytes_low_first}
use Rattle.elf_load.proofs.Alike.{Alike, alike_inside, alike_join, byte_small, field_alike, field_stands}
use Rattle.elf_load.proofs.Again.{fits_file}
use Rattle.elf_load.proofs.Puts.{EitherAt, Fits, either_again, either_keeps, length-put, put_either, put_here}
use Rattle.elf_load.proofs.Rules.{HasHeader}
use Rattle.elf_load.specs.Fields.{field}
use Rattle.elf_load.specs.Kept.{AreBytes}
use Rattle.elf_load.specs.Profile.{has_class, has_flags, has_sizes, header_end, passes}
use Rattle.elf_load.specs.Written.{executable, identity, put, with_header}
use Rattle.elf_load.specs.declared.headers.Header.{Header}
use Rattle.std.proofs.Common.{◌≡◌, ◌⊎◌, inl, inr, ℕ, zero, suc, ◌+◌, ◌-◌, ◌*◌, ◌<◌, ◌≤◌, ◌==◌, ◌&&◌, ◌||◌, nat_le, Bool, true, false, List, [], ◌∷◌, length, get_or, slice_index, drop, refl, sym, ◌∙◌, subst, arith, get_or-drop}
use Rattle.std.proofs.lemmas.Bool.Decides.{nat_tests}

-- ---- one field after the other

-- a part of old was written at a place
pub record IsPut (old new file : List ℕ) (at n : ℕ) : Type 0 where
  pub long : length new ≡ length file
  pub either : (k : ℕ) → EitherAt new file old k
  pub here : Alike new at old at n

part_put : (old file part : List ℕ) (at n : ℕ) → length part ≡ n → at + n ≤ length file → Alike part 0 old at n → IsPut old (put file at part) file at n
part_put old file part at n len within stands =
    let fits : Fits file at part = λ some. omega arith in
    let whole : Alike part 0 old at (length part) = subst (Alike part 0 old at) (sym len) stands in
    record {
      long = length-put file part at fits;
      either = λ k. put_either file old part at k fits whole;
      here = subst (Alike (put file at part) at old at) len (put_here file old part at fits whole);
    }

both_true : (b c : Bool) → (b && c) ≡ true → (b ≡ true) × (c ≡ true)
both_true true c h = (refl, h)
both_true false c h = cc

is_number : (a b : ℕ) → (a == b) ≡ true → a ≡ b
is_number a b h = grind (arith, nat_tests)

class_at : (old : List ℕ) → slice_index old 4 ≡ 2 → slice_index old 5 ≡ 1 → slice_index old 6 ≡ 1 → (k : ℕ) → k < 3 → get_or (2 ∷ 1 ∷ 1 ∷ []) (0 + k) 0 ≡ get_or old (4 + k) 0
class_at old a b c zero below = sym a
class_at old a b c (suc zero) below = sym b
class_at old a b c (suc (suc zero)) below = sym c
class_at old a b c (suc (suc (suc k))) below = absurd (omega arith)

class_stands : (old : List ℕ) → has_class old ≡ true → Alike (2 ∷ 1 ∷ 1 ∷ []) 0 old 4 3
class_stands old h k below =
    let a = both_true (slice_index old 4 == 2) (slice_index old 5 == 1 && slice_index old 6 == 1) h in
    let b = both_true (slice_index old 5 == 1) (slice_index old 6 == 1) a.1 in
    class_at old (is_number (slice_index old 4) 2 a.0) (is_number (slice_index old 5) 1 b.0) (is_number (slice_index old 6) 1 b.1) k below

identity_stands : (old : List ℕ) (header : Header) → AreBytes old → HasHeader old header → Alike identity 0 old 0 7
identity_stands old header bytes h =
    alike_join (little_bytes 4 0x464c457f) (2 ∷ 1 ∷ 1 ∷ []) old 0 4 3 refl
    (field_stands 4 0 old 0x464c457f bytes (let long : 64 ≤ length old = h.long in omega arith) h.magic) (class_stands old h.class)

executable_stands : (old : List ℕ) (header : Header) → AreBytes old → HasHeader old header → Alike executable 0 old 16 4
executable_stands old header bytes h =
    let long : 64 ≤ length old = h.long in
    alike_join (little_bytes 2 2) (little_bytes 2 243) old 16 2 2 refl
    (field_stands 2 16 old 2 bytes (omega arith) h.kind) (field_stands 2 18 old 243 bytes (omega arith) h.machine)

-- what the header's fields leave: the same bytes as in the old file at each field, and each byte as before or as in the old file
pub record IsHeaded (old new file : List ℕ) : Type 0 where
  pub long : length new ≡ length file
  pub either : (k : ℕ) → EitherAt new file old k
  pub identity : Alike new 0 old 0 7
  pub executable : Alike new 16 old 16 4
  pub entry : Alike new 24 old 24 8
  pub place : Alike new 32 old 32 8
  pub size : Alike new 54 old 54 2
  pub count : Alike new 56 old 56 2

headed : (old f0 f1 f2 f3 f4 f5 f6 : List ℕ) → IsPut old f1 f0 0 7 → IsPut old f2 f1 16 4 → IsPut old f3 f2 24 8 → IsPut old f4 f3 32 8 → IsPut old f5 f4 54 2 → IsPut old f6 f5 56 2 → IsHeaded old f6 f0
headed old f0 f1 f2 f3 f4 f5 f6 p1 p2 p3 p4 p5 p6 =
    let e5 : (k : ℕ) → EitherAt f6 f5 old k = p6.either in
    let e4 : (k : ℕ) → EitherAt f6 f4 old k = either_again f6 f5 f4 old e5 p5.either in
    let e3 : (k : ℕ) → EitherAt f6 f3 old k = either_again f6 f4 f3 old e4 p4.either in
    let e2 : (k : ℕ) → EitherAt f6 f2 old k = either_again f6 f3 f2 old e3 p3.either in
    let e1 : (k : ℕ) → EitherAt f6 f1 old k = either_again f6 f2 f1 old e2 p2.either in
    record {
      long = p6.long ∙ (p5.long ∙ (p4.long ∙ (p3.long ∙ (p2.long ∙ p1.long))));
      either = either_again f6 f1 f0 old e1 p1.either;
      identity = either_keeps f6 f1 old 0 7 e1 p1.here;
      executable = either_keeps f6 f2 old 16 4 e2 p2.here;
      entry = either_keeps f6 f3 old 24 8 e3 p3.here;
      place = either_keeps f6 f4 old 32 8 e4 p4.here;
      size = either_keeps f6 f5 old 54 2 e5 p5.here;
      count = p6.here;
    }

size_is : (old : List ℕ) → has_sizes old ≡ true → field 2 54 old ≡ 56
size_is old h = is_number (field 2 54 old) 56 (both_true (field 2 54 old == 56) (nat_le (field 2 56 old) 64) h).0

pub header_written : (old file : List ℕ) (header : Header) → AreBytes old → HasHeader old header → 64 ≤ length file → IsHeaded old (with_header header.entry header.place header.count file) file
unfolding with_header
header_written old file header bytes h long =
    let was : 64 ≤ length old = h.long in
    let f1 : List ℕ = put file 0 identity in
    let f2 : List ℕ = put f1 16 executable in
    let f3 : List ℕ = put f2 24 (little_bytes 8 header.entry) in
    let f4 : List ℕ = put f3 32 (little_bytes 8 header.place) in
    let f5 : List ℕ = put f4 54 (little_bytes 2 56) in
    let p1 : IsPut old f1 file 0 7 = part_put old file identity 0 7 refl (omega arith) (identity_stands old header bytes h) in
    let l1 : length f1 ≡ length file = p1.long in
    let p2 : IsPut old f2 f1 16 4 = part_put old f1 executable 16 4 refl (omega arith) (executable_stands old header bytes h) in
    let l2 : length f2 ≡ length f1 = p2.long in
    let p3 : IsPut old f3 f2 24 8 = part_put old f2 (little_bytes 8 header.entry) 24 8 (length-bytes_low_first 0 8 header.entry) (omega arith) (field_stands 8 24 old header.entry bytes (omega arith) (sym h.entry)) in
    let l3 : length f3 ≡ length f2 = p3.long in
    let p4 : IsPut old f4 f3 32 8 = part_put old f3 (little_bytes 8 header.place) 32 8 (length-bytes_low_first 0 8 header.place) (omega arith) (field_stands 8 32 old header.place bytes (omega arith) (sym h.place)) in
    let l4 : length f4 ≡ length f3 = p4.long in
    let p5 : IsPut old f5 f4 54 2 = part_put old f4 (little_bytes 2 56) 54 2 refl (omega arith) (field_stands 2 54 old 56 bytes (omega arith) (size_is old h.sizes)) in
    let l5 : length f5 ≡ length f4 = p5.long in
    let p6 : IsPut old (put f5 56 (little_bytes 2 header.count)) f5 56 2 = part_put old f5 (little_bytes 2 header.count) 56 2 (length-bytes_low_first 0 2 header.count) (omega arith) (field_stands 2 56 old header.count bytes (omega arith) (sym h.count)) in
    headed old file f1 f2 f3 f4 f5 (put f5 56 (little_bytes 2 header.count)) p1 p2 p3 p4 p5 p6

-- ---- the header is one again

class_again : (old new : List ℕ) → Alike new 0 old 0 7 → has_class new ≡ has_class old
class_again old new h =
    let a : slice_index new 4 ≡ slice_index old 4 = h 4 (omega arith) in
    let b : slice_index new 5 ≡ slice_index old 5 = h 5 (omega arith) in
    let c : slice_index new 6 ≡ slice_index old 6 = h 6 (omega arith) in
    rw (a, b, c) refl

-- a byte is that of the old file or 0
abbrev pub OldOrZero : List ℕ → List ℕ → Type 0
OldOrZero new old = (k : ℕ) → (get_or new k 0 ≡ get_or old k 0) ⊎ (get_or new k 0 ≡ 0)

four_bytes : (xs : List ℕ) → field 4 48 xs ≡ get_or xs 48 0 + 256 * (get_or xs 49 0 + 256 * (get_or xs 50 0 + 256 * get_or xs 51 0))
unfolding field
four_bytes xs =
    let a : get_or (drop 48 xs) 0 0 ≡ get_or xs 48 0 = get_or-drop 48 xs 0 0 in
    let b : get_or (drop 48 xs) 1 0 ≡ get_or xs 49 0 = get_or-drop 48 xs 1 0 in
    let c : get_or (drop 48 xs) 2 0 ≡ get_or xs 50 0 = get_or-drop 48 xs 2 0 in
    let d : get_or (drop 48 xs) 3 0 ≡ get_or xs 51 0 = get_or-drop 48 xs 3 0 in
    omega arith

zero_either : (x y : ℕ) → x ≡ 0 → (y ≡ x) ⊎ (y ≡ 0) → y ≡ 0
zero_either x y z e = elim e [ inl same ↦ same ∙ z | inr none ↦ none ]

-- flags of 0 or 16 stay so, where bytes become 0
low_flags : (a b c d a' b' c' d' : ℕ) → a < 256 → b < 256 → c < 256 → d < 256 → (a' ≡ a) ⊎ (a' ≡ 0) → (b' ≡ b) ⊎ (b' ≡ 0) → (c' ≡ c) ⊎ (c' ≡ 0) → (d' ≡ d) ⊎ (d' ≡ 0)
    → (a + 256 * (b + 256 * (c + 256 * d)) ≡ 0) ⊎ (a + 256 * (b + 256 * (c + 256 * d)) ≡ 16) → (a' + 256 * (b' + 256 * (c' + 256 * d')) ≡ 0) ⊎ (a' + 256 * (b' + 256 * (c' + 256 * d')) ≡ 16)
low_flags a b c d a' b' c' d' sa sb sc sd ea eb ec ed h =
    let nb : b ≡ 0 = elim h [ inl z ↦ omega arith | inr z ↦ omega arith ] in
    let nc : c ≡ 0 = elim h [ inl z ↦ omega arith | inr z ↦ omega arith ] in
    let nd : d ≡ 0 = elim h [ inl z ↦ omega arith | inr z ↦ omega arith ] in
    let zb : b' ≡ 0 = zero_either b b' nb eb in
    let zc : c' ≡ 0 = zero_either c c' nc ec in
    let zd : d' ≡ 0 = zero_either d d' nd ed in
    elim h [
      | inl z ↦ let na : a ≡ 0 = omega arith in let za : a' ≡ 0 = zero_either a a' na ea in inl (omega arith)
      | inr z ↦ elim ea [ inl same ↦ inr (omega arith) | inr none ↦ inl (omega arith) ]
    ]

either_true : (b c : Bool) → (b || c) ≡ true → (b ≡ true) ⊎ (c ≡ true)
either_true true c h = inl refl
either_true false c h = inr h

flags_number : (n : ℕ) → (n == 0 || n == 16) ≡ true → (n ≡ 0) ⊎ (n ≡ 16)
flags_number n h = elim (either_true (n == 0) (n == 16) h) [ inl none ↦ inl (is_number n 0 none) | inr some ↦ inr (is_number n 16 some) ]

flags_true : (n : ℕ) → (n ≡ 0) ⊎ (n ≡ 16) → (n == 0 || n == 16) ≡ true
flags_true n h = elim h [ inl none ↦ rw none refl | inr some ↦ rw some refl ]

flags_again : (old new : List ℕ) → AreBytes old → OldOrZero new old → has_flags old ≡ true → has_flags new ≡ true
flags_again old new bytes each h =
    let was : (field 4 48 old ≡ 0) ⊎ (field 4 48 old ≡ 16) = flags_number (field 4 48 old) h in
    let sum : (get_or old 48 0 + 256 * (get_or old 49 0 + 256 * (get_or old 50 0 + 256 * get_or old 51 0)) ≡ 0) ⊎ (get_or old 48 0 + 256 * (get_or old 49 0 + 256 * (get_or old 50 0 + 256 * get_or old 51 0)) ≡ 16) =
    elim was [ inl none ↦ inl (sym (four_bytes old) ∙ none) | inr some ↦ inr (sym (four_bytes old) ∙ some) ] in
    let is = low_flags (get_or old 48 0) (get_or old 49 0) (get_or old 50 0) (get_or old 51 0) (get_or new 48 0) (get_or new 49 0) (get_or new 50 0) (get_or new 51 0) (byte_small old bytes 48) (byte_small old bytes 49) (byte_small old bytes 50)
    (byte_small old bytes 51) (each 48) (each 49) (each 50) (each 51) sum in
    flags_true (field 4 48 new) (elim is [ inl none ↦ inl (four_bytes new ∙ none) | inr some ↦ inr (four_bytes new ∙ some) ])

sizes_again : (a b c d : ℕ) → a ≡ b → c ≡ d → (a == 56 && nat_le c 64) ≡ (b == 56 && nat_le d 64)
sizes_again a b c d e f = rw (e, f) refl

header_inside : (new : List ℕ) (place count fplace fcount : ℕ) → fplace ≡ place → fcount ≡ count → (0 < count → place + 56 * count ≤ length new) → passes (length new) fplace (56 * fcount) ≡ false
header_inside new place count fplace fcount ep ec h =
    let inside : passes (length new) place (56 * count) ≡ false = fits_file (length new) place (56 * count) (λ some. h (omega arith)) in
    rw (ep, ec) inside

pub header_again : (old new file : List ℕ) (header : Header) → AreBytes old → HasHeader old header → 64 ≤ length new → IsHeaded old new file → OldOrZero new old → (0 < header.count → header_end header ≤ length new) → HasHeader new header
header_again old new file header bytes h long w each inside =
    let entry : field 8 24 new ≡ field 8 24 old = field_alike 8 new 24 old 24 w.entry in
    let place : field 8 32 new ≡ field 8 32 old = field_alike 8 new 32 old 32 w.place in
    let size : field 2 54 new ≡ field 2 54 old = field_alike 2 new 54 old 54 w.size in
    let count : field 2 56 new ≡ field 2 56 old = field_alike 2 new 56 old 56 w.count in
    let magic : field 4 0 new ≡ field 4 0 old = field_alike 4 new 0 old 0 (alike_inside new 0 old 0 7 0 4 0 0 w.identity (omega arith) refl refl) in
    let kind : field 2 16 new ≡ field 2 16 old = field_alike 2 new 16 old 16 (alike_inside new 16 old 16 4 0 2 16 16 w.executable (omega arith) refl refl) in
    let machine : field 2 18 new ≡ field 2 18 old = field_alike 2 new 18 old 18 (alike_inside new 16 old 16 4 2 2 18 18 w.executable (omega arith) refl refl) in
    let sizes : has_sizes new ≡ has_sizes old = sizes_again (field 2 54 new) (field 2 54 old) (field 2 56 new) (field 2 56 old) size count in
    record {
      long = long;
      magic = magic ∙ h.magic;
      class = class_again old new w.identity ∙ h.class;
      kind = kind ∙ h.kind;
      machine = machine ∙ h.machine;
      flags = flags_again old new bytes each h.flags;
      sizes = sizes ∙ h.sizes;
      inside = header_inside new header.place header.count (field 8 32 new) (field 2 56 new) (place ∙ sym h.place) (count ∙ sym h.count) inside;
      entry = h.entry ∙ sym entry;
      place = h.place ∙ sym place;
      count = h.count ∙ sym count;
    }
