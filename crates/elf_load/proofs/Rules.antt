-- The rules of the header and of a program header, one by one.
use Rattle.elf_load.specs.Fields.{field}
use Rattle.elf_load.specs.Kept.{IsInside}
use Rattle.elf_load.specs.Profile.{◌>>=◌, apart, has_bad_size, has_class, has_flags, has_sizes, header_of, header_size, is_linked, is_loaded, is_outside, or_overlap, passes, program_header_size, segment_at, segment_of, segments_of, shares_page}
use Rattle.elf_load.specs.declared.fault.ElfFault.{ElfFault}
use Rattle.elf_load.specs.declared.fault.ElfFault.TheVariants.{Short, Magic, Class, Kind, Machine, Flags, PhSize, Linked, Size, Bounds}
use Rattle.elf_load.specs.declared.headers.Header.{Header}
use Rattle.elf_load.specs.declared.placed.Placed.{Placed}
use Rattle.elf_load.proofs.Images.{rights_kept}
use Rattle.std.specs.Option.{option_to_list}
use Rattle.std.proofs.Common.{◌≡◌, ℕ, zero, suc, ◌+◌, ◌*◌, ◌<◌, ◌≤◌, ◌==◌, ◌&&◌, not, nat_lt, if◌then◌else◌, Bool, true, false, List, [], ◌∷◌, ◌++◌, length, All, find, Option, Some, None, Result, Ok, Err, refl, sym, ◌∙◌, ap, subst, append-nil, append_assoc, length-append, arith}
use Rattle.std.proofs.lemmas.Bool.Decides.{nat_tests}
use Rattle.std.proofs.lemmas.List.Elements.{All-nil, All-cons, All-append}

-- ---- chains of rules

rule_kept : {A : Type 0} (b : Bool) (e : ElfFault) (r : Result A ElfFault) (x : A) → (if b then Err e else r) ≡ Ok x → (b ≡ false) × (r ≡ Ok x)
rule_kept true e r x h = cc
rule_kept false e r x h = (refl, h)

rule_passed : {A : Type 0} (b : Bool) (e : ElfFault) (r : Result A ElfFault) (x : A) → b ≡ false → r ≡ Ok x → (if b then Err e else r) ≡ Ok x
rule_passed true e r x h k = cc
rule_passed false e r x h k = k

not_false : (b : Bool) → not b ≡ false → b ≡ true
not_false true h = refl
not_false false h = cc

pub not_true : (b : Bool) → b ≡ true → not b ≡ false
not_true true h = refl
not_true false h = cc

-- ---- the header

pub record HasHeader (file : List ℕ) (header : Header) : Type 0 where
  pub long : 64 ≤ length file
  pub magic : field 4 0 file ≡ 0x464c457f
  pub class : has_class file ≡ true
  pub kind : field 2 16 file ≡ 2
  pub machine : field 2 18 file ≡ 243
  pub flags : has_flags file ≡ true
  pub sizes : has_sizes file ≡ true
  pub inside : passes (length file) (field 8 32 file) (56 * field 2 56 file) ≡ false
  pub entry : header.entry ≡ field 8 24 file
  pub place : header.place ≡ field 8 32 file
  pub count : header.count ≡ field 2 56 file

abbrev pub header_read : List ℕ → Header
header_read file = record { entry = field 8 24 file; place = field 8 32 file; count = field 2 56 file }

same_header : (h k : Header) → (let left : Result Header ElfFault = Ok h in left) ≡ Ok k → (k.entry ≡ h.entry) × (k.place ≡ h.place) × (k.count ≡ h.count)
same_header h k e = (cc, cc, cc)

pub header_kept : (file : List ℕ) (header : Header) → header_of file ≡ Ok header → HasHeader file header
unfolding header_of
header_kept file header h =
    let short = rule_kept (nat_lt (length file) header_size) (Short (length file)) _ header h in
    let magic = rule_kept (not (field 4 0 file == 0x464c457f)) Magic _ header short.1 in
    let class = rule_kept (not (has_class file)) Class _ header magic.1 in
    let kind = rule_kept (not (field 2 16 file == 2)) Kind _ header class.1 in
    let machine = rule_kept (not (field 2 18 file == 243)) Machine _ header kind.1 in
    let flags = rule_kept (not (has_flags file)) Flags _ header machine.1 in
    let sizes = rule_kept (not (has_sizes file)) PhSize _ header flags.1 in
    let inside = rule_kept (passes (length file) (field 8 32 file) (program_header_size * field 2 56 file)) (Short (length file)) _ header sizes.1 in
    let same = same_header (header_read file) header inside.1 in
    record {
      long = grind (arith, nat_tests, short.0);
      magic = grind (arith, nat_tests, not_false (field 4 0 file == 0x464c457f) magic.0);
      class = not_false (has_class file) class.0;
      kind = grind (arith, nat_tests, not_false (field 2 16 file == 2) kind.0);
      machine = grind (arith, nat_tests, not_false (field 2 18 file == 243) machine.0);
      flags = not_false (has_flags file) flags.0;
      sizes = not_false (has_sizes file) sizes.0;
      inside = inside.0;
      entry = same.0;
      place = same.1;
      count = same.2;
    }

same_fields : (a a' b b' c c' : ℕ) → a ≡ a' → b ≡ b' → c ≡ c' → (let h : Header = record { entry = a; place = b; count = c } in h) ≡ record { entry = a'; place = b'; count = c' }
same_fields a a' b b' c c' e f g = rw (e, f, g) refl

made_header : (file : List ℕ) (header : Header) → header.entry ≡ field 8 24 file → header.place ≡ field 8 32 file → header.count ≡ field 2 56 file → header_read file ≡ header
made_header file header e p c = same_fields (field 8 24 file) header.entry (field 8 32 file) header.place (field 2 56 file) header.count (sym e) (sym p) (sym c)

test_true : (a b : ℕ) → a ≡ b → (a == b) ≡ true
test_true a b e = grind (arith, nat_tests)

not_below : (a b : ℕ) → b ≤ a → nat_lt a b ≡ false
not_below a b h = grind (arith, nat_tests)

pub header_made : (file : List ℕ) (header : Header) → HasHeader file header → header_of file ≡ Ok header
unfolding header_of
header_made file header h =
    rule_passed (nat_lt (length file) header_size) (Short (length file)) _ header (not_below (length file) 64 h.long)
    (rule_passed (not (field 4 0 file == 0x464c457f)) Magic _ header (not_true (field 4 0 file == 0x464c457f) (test_true (field 4 0 file) 0x464c457f h.magic))
    (rule_passed (not (has_class file)) Class _ header (not_true (has_class file) h.class)
    (rule_passed (not (field 2 16 file == 2)) Kind _ header (not_true (field 2 16 file == 2) (test_true (field 2 16 file) 2 h.kind))
    (rule_passed (not (field 2 18 file == 243)) Machine _ header (not_true (field 2 18 file == 243) (test_true (field 2 18 file) 243 h.machine))
    (rule_passed (not (has_flags file)) Flags _ header (not_true (has_flags file) h.flags)
    (rule_passed (not (has_sizes file)) PhSize _ header (not_true (has_sizes file) h.sizes)
    (rule_passed (passes (length file) (field 8 32 file) (program_header_size * field 2 56 file)) (Short (length file)) _ header h.inside
    (ap (λ (x : Header). Ok x) (made_header file header h.entry h.place h.count)))))))))

-- ---- a program header

-- one of a segment that keeps its rules, or one that is none
pub record IsSegmentAt (file : List ℕ) (at k : ℕ) (p : Placed) : Type 0 where
  pub loaded : is_loaded file at ≡ true
  pub size : has_bad_size (length file) (segment_at file at k) ≡ false
  pub range : is_outside (segment_at file at k) ≡ false
  pub is : segment_at file at k ≡ p

abbrev pub IsRead : List ℕ → ℕ → ℕ → Option Placed → Type 0
IsRead file at k None = is_loaded file at ≡ false
IsRead file at k (Some p) = IsSegmentAt file at k p

read_loaded : (file : List ℕ) (at k : ℕ) (found : Option Placed) → is_loaded file at ≡ true → has_bad_size (length file) (segment_at file at k) ≡ false → is_outside (segment_at file at k) ≡ false
    → (let made : Result (Option Placed) ElfFault = Ok (Some (segment_at file at k)) in made) ≡ Ok found → IsRead file at k found
read_loaded file at k None loaded size range e = cc
read_loaded file at k (Some p) loaded size range e = record { loaded = loaded; size = size; range = range; is = cc }

read_other : (file : List ℕ) (at k : ℕ) (found : Option Placed) → is_loaded file at ≡ false → (let made : Result (Option Placed) ElfFault = Ok None in made) ≡ Ok found → IsRead file at k found
read_other file at k None other e = other
read_other file at k (Some p) other e = cc

by_kind : (file : List ℕ) (at k : ℕ) (found : Option Placed) (loaded : Bool) (rest : Result (Option Placed) ElfFault) → is_loaded file at ≡ loaded
    → (is_loaded file at ≡ true → rest ≡ Ok found → IsRead file at k found) → (if not loaded then Ok None else rest) ≡ Ok found → IsRead file at k found
by_kind file at k found true rest e next h = next e h
by_kind file at k found false rest e next h = read_other file at k found e h

pub segment_kept_at : (file : List ℕ) (at k : ℕ) (found : Option Placed) → segment_of file at k ≡ Ok found → (is_linked file at ≡ false) × IsRead file at k found
unfolding segment_of
segment_kept_at file at k found h =
    let linked = rule_kept (is_linked file at) Linked _ found h in (
      linked.0,
      by_kind file at k found (is_loaded file at) _ refl
          (λ loaded rest.
          let size = rule_kept (has_bad_size (length file) (segment_at file at k)) (Size k) _ found rest in
          let range = rule_kept (is_outside (segment_at file at k)) (Bounds k) _ found size.1 in
          read_loaded file at k found loaded size.0 range.0 range.1)
          linked.1,
    )

other_made : (file : List ℕ) (at : ℕ) (rest : Result (Option Placed) ElfFault) → is_loaded file at ≡ false → (if not (is_loaded file at) then Ok None else rest) ≡ Ok None
other_made file at rest e = rw e refl

loaded_made : (file : List ℕ) (at : ℕ) (rest : Result (Option Placed) ElfFault) (found : Option Placed) → is_loaded file at ≡ true → rest ≡ Ok found → (if not (is_loaded file at) then Ok None else rest) ≡ Ok found
loaded_made file at rest found e h = rw e h

pub segment_made : (file : List ℕ) (at k : ℕ) (found : Option Placed) → is_linked file at ≡ false → IsRead file at k found → segment_of file at k ≡ Ok found
unfolding segment_of
segment_made file at k None linked h = rule_passed (is_linked file at) Linked _ None linked (other_made file at _ h)
segment_made file at k (Some p) linked h =
    rule_passed (is_linked file at) Linked _ (Some p) linked
    (loaded_made file at _ (Some p) h.loaded
    (rule_passed (has_bad_size (length file) (segment_at file at k)) (Size k) _ (Some p) h.size
    (rule_passed (is_outside (segment_at file at k)) (Bounds k) _ (Some p) h.range (ap (λ (x : Placed). Ok (Some x)) h.is))))

-- ---- all of them

-- both steps of a `do`
pub bound : {A B : Type 0} (r : Result A ElfFault) (f : A → Result B ElfFault) (y : B) → (r >>= f) ≡ Ok y → (x : A) × (r ≡ Ok x) × (f x ≡ Ok y)
bound (Ok x) f y h = (x, refl, h)
bound (Err e) f y h = cc

pub segments_split : (file : List ℕ) (at k n : ℕ) (placed : List Placed) → segments_of file at k (suc n) ≡ Ok placed
    → (first : Option Placed) × (others : List Placed) × (segment_of file at k ≡ Ok first) × (segments_of file (at + 56) (k + 1) n ≡ Ok others) × (option_to_list first ++ others ≡ placed)
unfolding segments_of
segments_split file at k n placed h =
    let first = bound (segment_of file at k) (λ first. segments_of file (at + 56) (k + 1) n >>= λ others. Ok (option_to_list first ++ others)) placed h in
    let others = bound (segments_of file (at + 56) (k + 1) n) (λ others. Ok (option_to_list first.0 ++ others)) placed first.2 in
    (first.0, others.0, first.1, others.1, cc)

pub segments_join : (file : List ℕ) (at k n : ℕ) (first : Option Placed) (others : List Placed) → segment_of file at k ≡ Ok first → segments_of file (at + 56) (k + 1) n ≡ Ok others
    → segments_of file at k (suc n) ≡ Ok (option_to_list first ++ others)
unfolding segments_of
segments_join file at k n first others h more = rw (h, more) refl

pub segments_none : (file : List ℕ) (at k : ℕ) → segments_of file at k 0 ≡ Ok []
unfolding segments_of
segments_none file at k = refl

pub none_placed : (file : List ℕ) (at k : ℕ) (placed : List Placed) → segments_of file at k 0 ≡ Ok placed → placed ≡ []
unfolding segments_of
none_placed file at k placed h = cc

-- ---- what each of them keeps

loaded_some : (b : Bool) (n : ℕ) → (b && nat_lt 0 n) ≡ true → 0 < n
loaded_some true n h = grind (arith, nat_tests)
loaded_some false n h = cc

size_kept : (size : ℕ) (s : Placed) → has_bad_size size s ≡ false → (s.len ≤ s.mem) × (0 < s.len → s.offset + s.len ≤ size)
size_kept size s h = (grind (arith, nat_tests), λ some. grind (arith, nat_tests))

range_kept : (s : Placed) → is_outside s ≡ false → (0x10000 ≤ s.addr) × (s.addr + s.mem ≤ 0x3000000000)
range_kept s h = (grind (arith, nat_tests), grind (arith, nat_tests))

inside_at : (file : List ℕ) (at k : ℕ) (p : Placed) → IsSegmentAt file at k p → IsInside (length file) p
inside_at file at k p h =
    let s : Placed = segment_at file at k in
    let some : 0 < s.mem = loaded_some (field 4 at file == 1) s.mem h.loaded in
    let size = size_kept (length file) s h.size in
    let range = range_kept s h.range in
    subst (IsInside (length file)) h.is
    (record { part = size.1; low = range.0; range = range.1; some = some; whole = size.0; rights = rights_kept (field 4 (at + 4) file) })

inside_found : (file : List ℕ) (at k : ℕ) (found : Option Placed) → IsRead file at k found → All (IsInside (length file)) (option_to_list found)
inside_found file at k None h = All-nil (IsInside (length file))
inside_found file at k (Some p) h = All-cons (IsInside (length file)) p [] (inside_at file at k p h) (All-nil (IsInside (length file)))

pub all_inside : (file : List ℕ) (at k n : ℕ) (placed : List Placed) → segments_of file at k n ≡ Ok placed → All (IsInside (length file)) placed
all_inside file at k zero placed h = subst (All (IsInside (length file))) (sym (none_placed file at k placed h)) (All-nil (IsInside (length file)))
all_inside file at k (suc n) placed h =
    let s = segments_split file at k n placed h in
    let first = inside_found file at k s.0 (segment_kept_at file at k s.0 s.2).1 in
    let others = all_inside file (at + 56) (k + 1) n s.1 s.3 in
    subst (All (IsInside (length file))) s.4 (All-append (IsInside (length file)) (option_to_list s.0) s.1 first others)

few_found : (found : Option Placed) → length (option_to_list found) ≤ 1
few_found None = omega arith
few_found (Some p) = omega arith

pub few_placed : (file : List ℕ) (at k n : ℕ) (placed : List Placed) → segments_of file at k n ≡ Ok placed → length placed ≤ n
few_placed file at k zero placed h = let none : placed ≡ [] = none_placed file at k placed h in omega (arith, ap length none)
few_placed file at k (suc n) placed h =
    let s = segments_split file at k n placed h in
    let others : length s.1 ≤ n = few_placed file (at + 56) (k + 1) n s.1 s.3 in
    omega (arith, few_found s.0, length-append (option_to_list s.0) s.1, ap length s.4)

-- ---- that no two share a page

same_list : (xs ys : List Placed) → (let left : Result (List Placed) ElfFault = Ok xs in left) ≡ Ok ys → xs ≡ ys
same_list xs ys h = cc

apart_next : (o : Option Placed) (s : Placed) (r : Result (List Placed) ElfFault) (all : List Placed) → or_overlap o s r ≡ Ok all → r ≡ Ok all
apart_next None s r all h = h
apart_next (Some t) s r all h = cc

pub apart_is : (before rest all : List Placed) → apart before rest ≡ Ok all → all ≡ before ++ rest
unfolding apart
apart_is before [] all h = let e : before ≡ all = same_list before all h in sym e ∙ sym (append-nil before)
apart_is before (s ∷ ss) all h = apart_is (before ++ s ∷ []) ss all (apart_next (find (λ t. shares_page t s) before) s (apart (before ++ s ∷ []) ss) all h) ∙ append_assoc before (s ∷ []) ss
