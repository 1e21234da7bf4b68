-- Headers and program headers of two files that have the same bytes there.
use Rattle.elf_load.proofs.Alike.{Alike, alike_inside, field_alike}
use Rattle.elf_load.proofs.Rules.{IsRead, none_placed, segment_kept_at, segment_made, segments_join, segments_none, segments_split}
use Rattle.elf_load.specs.Fields.{field}
use Rattle.elf_load.specs.Profile.{has_bad_size, is_linked, is_loaded, is_outside, passes, segment_at, segment_from, segment_of, segments_of}
use Rattle.elf_load.specs.Written.{placed_at, placed_in}
use Rattle.elf_load.specs.declared.placed.Placed.{Placed}
use Rattle.std.specs.Option.{option_to_list}
use Rattle.std.proofs.Common.{◌≡◌, ℕ, zero, suc, ◌+◌, ◌-◌, ◌*◌, ◌<◌, ◌≤◌, ◌||◌, nat_lt, if◌then◌else◌, Bool, true, false, List, [], ◌∷◌, ◌++◌, length, get_or, take, drop, All, Option, Some, None, Ok, refl, sym, ◌∙◌, ap, subst, arith}
use Rattle.std.proofs.lemmas.Bool.Decides.{nat_tests}
use Rattle.std.proofs.lemmas.List.{ext_get_or}
use Rattle.std.proofs.lemmas.List.Elements.{All-head, All-tail}

-- ---- a program header

part_field : (size o : ℕ) (xs : List ℕ) (i : ℕ) (ys : List ℕ) (j : ℕ) → o + size ≤ 56 → Alike xs i ys j 56 → field size (i + o) xs ≡ field size (j + o) ys
part_field size o xs i ys j within h = field_alike size xs (i + o) ys (j + o) (alike_inside xs i ys j 56 o size (i + o) (j + o) h within refl refl)

first_field : (xs : List ℕ) (i : ℕ) (ys : List ℕ) (j : ℕ) → Alike xs i ys j 56 → field 4 i xs ≡ field 4 j ys
first_field xs i ys j h = field_alike 4 xs i ys j (alike_inside xs i ys j 56 0 4 i j h (omega arith) (omega arith) (omega arith))

kind_alike : (xs : List ℕ) (i : ℕ) (ys : List ℕ) (j : ℕ) → Alike xs i ys j 56 → is_loaded xs i ≡ is_loaded ys j
kind_alike xs i ys j h =
    let kind : field 4 i xs ≡ field 4 j ys = first_field xs i ys j h in
    let mem : field 8 (i + 40) xs ≡ field 8 (j + 40) ys = part_field 8 40 xs i ys j (omega arith) h in
    rw (kind, mem) refl

linked_alike : (xs : List ℕ) (i : ℕ) (ys : List ℕ) (j : ℕ) → Alike xs i ys j 56 → is_linked xs i ≡ is_linked ys j
linked_alike xs i ys j h = let kind : field 4 i xs ≡ field 4 j ys = first_field xs i ys j h in rw kind refl

segment_alike : (xs : List ℕ) (i : ℕ) (ys : List ℕ) (j k : ℕ) → Alike xs i ys j 56 → segment_at xs i k ≡ segment_at ys j k
segment_alike xs i ys j k h =
    let flags : field 4 (i + 4) xs ≡ field 4 (j + 4) ys = part_field 4 4 xs i ys j (omega arith) h in
    let offset : field 8 (i + 8) xs ≡ field 8 (j + 8) ys = part_field 8 8 xs i ys j (omega arith) h in
    let addr : field 8 (i + 16) xs ≡ field 8 (j + 16) ys = part_field 8 16 xs i ys j (omega arith) h in
    let len : field 8 (i + 32) xs ≡ field 8 (j + 32) ys = part_field 8 32 xs i ys j (omega arith) h in
    let mem : field 8 (i + 40) xs ≡ field 8 (j + 40) ys = part_field 8 40 xs i ys j (omega arith) h in
    rw (flags, offset, addr, len, mem) refl

-- ---- read without the rules

placed_by : (b : Bool) (p : Placed) → b ≡ true → option_to_list (if b then Some p else None) ≡ p ∷ []
placed_by true p h = refl
placed_by false p h = cc

placed_none : (b : Bool) (p : Placed) → b ≡ false → option_to_list (if b then Some p else None) ≡ []
placed_none true p h = cc
placed_none false p h = refl

one_again : (xs : List ℕ) (i : ℕ) (ys : List ℕ) (j k : ℕ) (found : Option Placed) → Alike xs i ys j 56 → IsRead ys j k found → option_to_list (placed_at xs i k) ≡ option_to_list found
one_again xs i ys j k None h read = placed_none (is_loaded xs i) (segment_at xs i k) (kind_alike xs i ys j h ∙ read)
one_again xs i ys j k (Some p) h read =
    placed_by (is_loaded xs i) (segment_at xs i k) (kind_alike xs i ys j h ∙ read.loaded) ∙ ap (λ (s : Placed). s ∷ []) (segment_alike xs i ys j k h ∙ read.is)

first_header : (xs : List ℕ) (i : ℕ) (ys : List ℕ) (j n : ℕ) → Alike xs i ys j (56 * suc n) → Alike xs i ys j 56
first_header xs i ys j n h = alike_inside xs i ys j (56 * suc n) 0 56 i j h (omega arith) (omega arith) (omega arith)

other_headers : (xs : List ℕ) (i : ℕ) (ys : List ℕ) (j n : ℕ) → Alike xs i ys j (56 * suc n) → Alike xs (i + 56) ys (j + 56) (56 * n)
other_headers xs i ys j n h = alike_inside xs i ys j (56 * suc n) 56 (56 * n) (i + 56) (j + 56) h (omega arith) refl refl

pub placed_again : (xs : List ℕ) (i : ℕ) (ys : List ℕ) (j k n : ℕ) (placed : List Placed) → Alike xs i ys j (56 * n) → segments_of ys j k n ≡ Ok placed → placed_in xs i k n ≡ placed
unfolding placed_in
placed_again xs i ys j k zero placed h e = sym (none_placed ys j k placed e)
placed_again xs i ys j k (suc n) placed h e =
    let s = segments_split ys j k n placed e in
    let first : option_to_list (placed_at xs i k) ≡ option_to_list s.0 = one_again xs i ys j k s.0 (first_header xs i ys j n h) (segment_kept_at ys j k s.0 s.2).1 in
    let others : placed_in xs (i + 56) (k + 1) n ≡ s.1 = placed_again xs (i + 56) ys (j + 56) (k + 1) n s.1 (other_headers xs i ys j n h) s.3 in
    ap (λ (ps : List Placed). ps ++ placed_in xs (i + 56) (k + 1) n) first ∙ (ap (λ (ps : List Placed). option_to_list s.0 ++ ps) others ∙ s.4)

-- ---- read by the rules

pub fits_file : (size place len : ℕ) → (0 < len → place + len ≤ size) → passes size place len ≡ false
fits_file size place len h = grind (arith, nat_tests)

first_false : (b c : Bool) → (b || c) ≡ false → b ≡ false
first_false true c h = cc
first_false false c h = refl

size_again : (size old : ℕ) (s : Placed) → has_bad_size old s ≡ false → (0 < s.len → s.offset + s.len ≤ size) → has_bad_size size s ≡ false
size_again size old s h fits =
    let none : passes size s.offset s.len ≡ false = fits_file size s.offset s.len fits in
    let whole : nat_lt s.mem s.len ≡ false = first_false (nat_lt s.mem s.len) (passes old s.offset s.len) h in
    rw (whole, none) refl

abbrev pub FitsFile : ℕ → Placed → Type 0
FitsFile size p = 0 < p.len → p.offset + p.len ≤ size

read_again : (xs : List ℕ) (i : ℕ) (ys : List ℕ) (j k : ℕ) (found : Option Placed) → Alike xs i ys j 56 → All (FitsFile (length xs)) (option_to_list found) → IsRead ys j k found → IsRead xs i k found
read_again xs i ys j k None h fits read = kind_alike xs i ys j h ∙ read
read_again xs i ys j k (Some p) h fits read =
    let same : segment_at xs i k ≡ segment_at ys j k = segment_alike xs i ys j k h in
    let is : segment_at xs i k ≡ p = same ∙ read.is in
    let old : has_bad_size (length ys) p ≡ false = subst (λ s. has_bad_size (length ys) s ≡ false) read.is read.size in
    let far : is_outside p ≡ false = subst (λ s. is_outside s ≡ false) read.is read.range in
    record {
      loaded = kind_alike xs i ys j h ∙ read.loaded;
      size = subst (λ s. has_bad_size (length xs) s ≡ false) (sym is) (size_again (length xs) (length ys) p old (All-head (FitsFile (length xs)) p [] fits));
      range = subst (λ s. is_outside s ≡ false) (sym is) far;
      is = is;
    }

All-front : (P : Placed → Type 0) (ps qs : List Placed) → All P (ps ++ qs) → All P ps
All-front P [] qs h k d below = absurd (omega arith)
All-front P (p ∷ ps) qs h zero d below = h zero d (omega arith)
All-front P (p ∷ ps) qs h (suc k) d below = All-front P ps qs (All-tail P p (ps ++ qs) h) k d (omega arith)

All-back : (P : Placed → Type 0) (ps qs : List Placed) → All P (ps ++ qs) → All P qs
All-back P [] qs h = h
All-back P (p ∷ ps) qs h = All-back P ps qs (All-tail P p (ps ++ qs) h)

pub segments_again : (xs : List ℕ) (i : ℕ) (ys : List ℕ) (j k n : ℕ) (placed : List Placed) → Alike xs i ys j (56 * n) → All (FitsFile (length xs)) placed → segments_of ys j k n ≡ Ok placed → segments_of xs i k n ≡ Ok placed
segments_again xs i ys j k zero placed h fits e = segments_none xs i k ∙ ap (λ (ps : List Placed). Ok ps) (sym (none_placed ys j k placed e))
segments_again xs i ys j k (suc n) placed h fits e =
    let s = segments_split ys j k n placed e in
    let kept = segment_kept_at ys j k s.0 s.2 in
    let whole : All (FitsFile (length xs)) (option_to_list s.0 ++ s.1) = subst (All (FitsFile (length xs))) (sym s.4) fits in
    let front : Alike xs i ys j 56 = first_header xs i ys j n h in
    let first : segment_of xs i k ≡ Ok s.0 = segment_made xs i k s.0 (linked_alike xs i ys j front ∙ kept.0) (read_again xs i ys j k s.0 front (All-front (FitsFile (length xs)) (option_to_list s.0) s.1 whole) kept.1) in
    let others : segments_of xs (i + 56) (k + 1) n ≡ Ok s.1 = segments_again xs (i + 56) ys (j + 56) (k + 1) n s.1 (other_headers xs i ys j n h) (All-back (FitsFile (length xs)) (option_to_list s.0) s.1 whole) s.3 in
    segments_join xs i k n s.0 s.1 first others ∙ ap (λ (ps : List Placed). Ok ps) s.4

-- ---- file parts

pub segment_shown : (file old : List ℕ) (p : Placed) → length (segment_from file p).bytes ≡ p.len → length (segment_from old p).bytes ≡ p.len → Alike (segment_from file p).bytes 0 file p.offset p.len
    → Alike (segment_from old p).bytes 0 old p.offset p.len → Alike file p.offset old p.offset p.len → segment_from file p ≡ segment_from old p
segment_shown file old p long was from is same =
    let bytes : take p.len (drop p.offset file) ≡ take p.len (drop p.offset old) =
    ext_get_or 0 (segment_from file p).bytes (segment_from old p).bytes (long ∙ sym was)
    (λ k below.
    let within : k < p.len = omega arith in
    let start : k ≡ 0 + k = omega arith in
    ap (λ (i : ℕ). get_or (segment_from file p).bytes i 0) start
    ∙ (from k within ∙ (same k within ∙ (sym (is k within) ∙ ap (λ (i : ℕ). get_or (segment_from old p).bytes i 0) (sym start))))) in
    ap (λ (bs : List ℕ). record { addr = p.addr; mem = p.mem; bytes = bs; rights = p.rights }) bytes
