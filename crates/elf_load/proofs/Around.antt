-- The file of an image whose program headers stand in a segment loads to the image.
use Rattle.elf_load.proofs.Alike.{Alike, alike_inside}
use Rattle.elf_load.proofs.Again.{FitsFile, placed_again, segment_shown, segments_again}
use Rattle.elf_load.proofs.Fixed.{IsHeaded, OldOrZero, header_again, header_written}
use Rattle.elf_load.proofs.Found.{IsAround, IsFound, find_map, found, mapped, missed, one_around}
use Rattle.elf_load.proofs.Images.{apart_pairs, none_apart}
use Rattle.elf_load.proofs.Laid.{end_of, laid_either, laid_of, laid_shows, length-cut, length-laid, length-part, part_stands, parts_fit}
use Rattle.elf_load.proofs.Puts.{EitherAt, either_again, either_keeps}
use Rattle.elf_load.proofs.Rules.{HasHeader, all_inside, apart_is, bound, few_placed, header_kept, header_made}
use Rattle.elf_load.specs.Kept.{AreApart, AreBytes, IsInside}
use Rattle.elf_load.specs.Profile.{◌>>=◌, apart, has_entry, header_end, header_of, headers_at, holds_headers, image_of, made, segment_from, segments_of}
use Rattle.elf_load.specs.Written.{file_around, holds_table, is_around, laid, last_end, place_in, place_of, placed_in, table_in, table_of, with_header}
use Rattle.elf_load.specs.declared.fault.ElfFault.{ElfFault}
use Rattle.elf_load.specs.declared.fault.ElfFault.TheVariants.{Entry}
use Rattle.elf_load.specs.declared.headers.Header.{Header}
use Rattle.elf_load.specs.declared.placed.Placed.{Placed}
use Rattle.job_model.specs.declared.image.Image.{Image}
use Rattle.job_model.specs.declared.image.Segment.{Segment}
use Rattle.std.proofs.Common.{◌≡◌, inl, inr, ℕ, ◌+◌, ◌-◌, ◌*◌, ◌<◌, ◌≤◌, ◌&&◌, max, nat_le, nat_lt, if◌then◌else◌, Bool, true, false, List, [], ◌∷◌, length, get_or, drop, map, find, replicate, All, Option, Some, None, Result, Ok, Err, refl, sym, ◌∙◌, ap, subst, arith, get_or-drop, get_or-take}
use Rattle.std.proofs.lemmas.Bool.{cases_lt}
use Rattle.std.proofs.lemmas.Bool.Decides.{nat_tests}
use Rattle.std.proofs.lemmas.List.Elements.{All-head, All-tail}
use Rattle.std.proofs.lemmas.List.{get_or-replicate, get_or_past, length-replicate}

-- ---- what a file that loads keeps

pub record Loads (file : List ℕ) (header : Header) (placed : List Placed) : Type 0 where
  pub bytes : AreBytes file
  pub head : HasHeader file header
  pub found : segments_of file header.place 0 header.count ≡ Ok placed
  pub inside : All (IsInside (length file)) placed
  pub few : length placed ≤ header.count
  pub alone : apart [] placed ≡ Ok placed
  pub apart : AreApart placed
  pub entry : has_entry header.entry placed ≡ true

entry_passed : (b : Bool) (made image : Image) → (let r : Result Image ElfFault = if b then Ok made else Err Entry in r) ≡ Ok image → (b ≡ true) × (made ≡ image)
entry_passed true made image h = (refl, cc)
entry_passed false made image h = cc

pub loads_from : (file : List ℕ) (image : Image) → AreBytes file → image_of file ≡ Ok image → (header : Header) × (placed : List Placed) × (Loads file header placed) × (made file header placed ≡ image)
unfolding image_of
loads_from file image bytes h =
    let a = bound (header_of file) (λ (header : Header). segments_of file header.place 0 header.count >>= λ found. apart [] found >>= λ placed. if has_entry header.entry placed then Ok (made file header placed) else Err Entry) image h in
    let b = bound (segments_of file a.0.place 0 a.0.count) (λ found. apart [] found >>= λ placed. if has_entry a.0.entry placed then Ok (made file a.0 placed) else Err Entry) image a.2 in
    let c = bound (apart [] b.0) (λ placed. if has_entry a.0.entry placed then Ok (made file a.0 placed) else Err Entry) image b.2 in
    let e = entry_passed (has_entry a.0.entry c.0) (made file a.0 c.0) image c.2 in
    let same : c.0 ≡ b.0 = apart_is [] b.0 c.0 c.1 in
    let alone : apart [] c.0 ≡ Ok c.0 = subst (λ ps. apart [] ps ≡ Ok c.0) (sym same) c.1 in
    let found : segments_of file a.0.place 0 a.0.count ≡ Ok c.0 = subst (λ ps. segments_of file a.0.place 0 a.0.count ≡ Ok ps) (sym same) b.1 in (
      a.0,
      c.0,
      record {
        bytes = bytes;
        head = header_kept file a.0 a.1;
        found = found;
        inside = all_inside file a.0.place 0 a.0.count c.0 found;
        few = few_placed file a.0.place 0 a.0.count c.0 found;
        alone = alone;
        apart = apart_pairs [] c.0 c.0 alone none_apart;
        entry = e.0;
      },
      e.1,
    )

pub image_made : (file : List ℕ) (header : Header) (placed : List Placed) → HasHeader file header → segments_of file header.place 0 header.count ≡ Ok placed → apart [] placed ≡ Ok placed → has_entry header.entry placed ≡ true
    → image_of file ≡ Ok (made file header placed)
unfolding image_of
image_made file header placed head found alone entry = rw (header_made file header head, found, alone, entry) refl

-- ---- file parts that are the same in both files

same_front : (s t : Segment) (ss ts : List Segment) → s ≡ t → ss ≡ ts → s ∷ ss ≡ t ∷ ts
same_front s t ss ts e f = rw (e, f) refl

pub parts_again : (new file : List ℕ) (ps : List Placed) → All (IsInside (length file)) ps → All (FitsFile (length new)) ps → All (λ p. Alike new p.offset file p.offset p.len) ps → map (segment_from new) ps ≡ map (segment_from file) ps
parts_again new file [] inside fits shows = refl
parts_again new file (p ∷ ps) inside fits shows =
    let long : length (segment_from new p).bytes ≡ p.len = length-cut new p (All-head (FitsFile (length new)) p ps fits) in
    let was : length (segment_from file p).bytes ≡ p.len = length-part file p (All-head (IsInside (length file)) p ps inside) in
    let first : segment_from new p ≡ segment_from file p = segment_shown new file p long was (part_stands new p) (part_stands file p) (All-head (λ q. Alike new q.offset file q.offset q.len) p ps shows) in
    same_front (segment_from new p) (segment_from file p) (map (segment_from new) ps) (map (segment_from file) ps) first
    (parts_again new file ps (All-tail (IsInside (length file)) p ps inside) (All-tail (FitsFile (length new)) p ps fits) (All-tail (λ q. Alike new q.offset file q.offset q.len) p ps shows))

-- ---- the segment with the program headers

both_true : (b c : Bool) → (b && c) ≡ true → (b ≡ true) × (c ≡ true)
both_true true c h = (refl, h)
both_true false c h = cc

at_most : (a b : ℕ) → nat_le a b ≡ true → a ≤ b
at_most a b h = grind (arith, nat_tests)

-- where the program headers stand in the file and in memory
pub record Holds (header : Header) (placed : List Placed) (address : ℕ) (s : Placed) : Type 0 where
  pub at : IsFound Placed (holds_headers header) placed s
  pub low : s.offset ≤ header.place
  pub high : header_end header ≤ s.offset + s.len
  pub stands : address ≡ s.addr + (header.place - s.offset)

pub holds_from : (header : Header) (placed : List Placed) (address : ℕ) (s : Placed) → IsFound Placed (holds_headers header) placed s → address ≡ s.addr + (header.place - s.offset) → Holds header placed address s
holds_from header placed address s at e =
    let both = both_true (nat_le s.offset header.place) (nat_le (header_end header) (s.offset + s.len)) at.passes in
    record { at = at; low = at_most s.offset header.place both.0; high = at_most (header_end header) (s.offset + s.len) both.1; stands = e }

pub inside_found : (size : ℕ) (test : Placed → Bool) (placed : List Placed) (p : Placed) → All (IsInside size) placed → IsFound Placed test placed p → IsInside size p
inside_found size test placed p h f = subst (IsInside size) (f.is p) (h f.place p f.within)

-- a segment that holds the table in memory
pub record HoldsTable (image : Image) (s : Segment) : Type 0 where
  pub low : s.addr ≤ image.phdr
  pub high : image.phdr + 56 * image.phnum ≤ s.addr + length s.bytes

pub table_held : (image : Image) (s : Segment) → holds_table image s ≡ true → HoldsTable image s
table_held image s h =
    let both = both_true (nat_le s.addr image.phdr) (nat_le (image.phdr + 56 * image.phnum) (s.addr + length s.bytes)) h in
    record { low = at_most s.addr image.phdr both.0; high = at_most (image.phdr + 56 * image.phnum) (s.addr + length s.bytes) both.1 }

around_true : (address : ℕ) (p : Placed) → IsAround address p → is_around address p ≡ true
around_true address p h = let low : p.addr ≤ address = h.low in let high : address < p.addr + p.mem = h.high in grind (arith, nat_tests)

pub around_is : (address : ℕ) (p : Placed) → is_around address p ≡ true → IsAround address p
around_is address p h =
    let both = both_true (nat_le p.addr address) (nat_lt address (p.addr + p.mem)) h in
    record { low = at_most p.addr address both.0; high = grind (arith, nat_tests, both.1) }

true_false : (b : Bool) → b ≡ true → b ≡ false → ⊥
true_false true e f = cc
true_false false e f = cc

module _ (file : List ℕ) (header : Header) (placed : List Placed) (l : Loads file header placed) where
  abbrev image : Image
  image = made file header placed

  no_holder : (p : Placed) (test : Placed → Bool) → IsFound Placed test placed p → HoldsTable image (segment_from file p) → find (holds_headers header) placed ≡ None → ⊥
  no_holder p test f h e =
      let none : image.phdr ≡ 0 = ap (headers_at header) e in
      let inside : IsInside (length file) p = inside_found (length file) test placed p l.inside f in
      let low : p.addr ≤ image.phdr = h.low in
      let least : 0x10000 ≤ p.addr = inside.low in
      omega arith

  holder_from : (o : Option Placed) (p : Placed) (test : Placed → Bool) → IsFound Placed test placed p → HoldsTable image (segment_from file p) → find (holds_headers header) placed ≡ o → (s : Placed) × Holds header placed image.phdr s
  holder_from None p test f h e = absurd (no_holder p test f h e)
  holder_from (Some s) p test f h e = (s, holds_from header placed image.phdr s (found Placed (holds_headers header) placed s e) (ap (headers_at header) e))

  some_headers : (p : Placed) (test : Placed → Bool) → IsFound Placed test placed p → 0 < header.count
  some_headers p test f = let few : length placed ≤ header.count = l.few in let within : f.place < length placed = f.within in omega arith

  around_holder : (s : Placed) → Holds header placed image.phdr s → IsAround image.phdr s
  around_holder s h =
      let inside : IsInside (length file) s = inside_found (length file) (holds_headers header) placed s l.inside h.at in
      let whole : s.len ≤ s.mem = inside.whole in
      let low : s.offset ≤ header.place = h.low in
      let high : header.place + 56 * header.count ≤ s.offset + s.len = h.high in
      let is : image.phdr ≡ s.addr + (header.place - s.offset) = h.stands in
      let some : 0 < header.count = some_headers s (holds_headers header) h.at in
      record { low = omega arith; high = omega arith }

  around_table : (p : Placed) (test : Placed → Bool) → IsFound Placed test placed p → HoldsTable image (segment_from file p) → IsAround image.phdr p
  around_table p test f h =
      let inside : IsInside (length file) p = inside_found (length file) test placed p l.inside f in
      let whole : p.len ≤ p.mem = inside.whole in
      let long : length (segment_from file p).bytes ≡ p.len = length-part file p inside in
      let low : p.addr ≤ image.phdr = h.low in
      let high : image.phdr + 56 * header.count ≤ p.addr + length (segment_from file p).bytes = h.high in
      let some : 0 < header.count = some_headers p test f in
      record { low = low; high = omega arith }

  table_alike : (s : Placed) → Holds header placed image.phdr s → Alike (table_in image (segment_from file s)) 0 file header.place (56 * header.count)
  table_alike s h k below =
      let low : s.offset ≤ header.place = h.low in
      let high : header.place + 56 * header.count ≤ s.offset + s.len = h.high in
      let is : image.phdr ≡ s.addr + (header.place - s.offset) = h.stands in
      let skip : ℕ = image.phdr - s.addr in
      let start : 0 + k ≡ k = omega arith in
      let place : s.offset + (skip + k) ≡ header.place + k = omega arith in
      ap (λ (i : ℕ). get_or (table_in image (segment_from file s)) i 0) start
      ∙ (get_or-take (56 * header.count) (drop skip (segment_from file s).bytes) k 0 below
      ∙ (get_or-drop skip (segment_from file s).bytes k 0
      ∙ (get_or-take s.len (drop s.offset file) (skip + k) 0 (omega arith) ∙ (get_or-drop s.offset file (skip + k) 0 ∙ ap (λ (i : ℕ). get_or file i 0) place))))

  -- the table that was found, and the segment that holds it
  record HasTable (table : List ℕ) : Type 0 where
    s : Placed
    holds : Holds header placed image.phdr s
    alike : Alike table 0 file header.place (56 * header.count)

  has_table : (table : List ℕ) → table_of image ≡ Some table → HasTable table
  has_table table e =
      let t = mapped Segment (List ℕ) (table_in image) (find (holds_table image) image.segments) table e in
      let test : Placed → Bool = λ p. holds_table image (segment_from file p) in
      let p = mapped Placed Segment (segment_from file) (find test placed) t.0 (sym (find_map Placed Segment (segment_from file) (holds_table image) placed) ∙ t.1) in
      let f : IsFound Placed test placed p.0 = found Placed test placed p.0 p.1 in
      let held : HoldsTable image (segment_from file p.0) = table_held image (segment_from file p.0) f.passes in
      let s = holder_from (find (holds_headers header) placed) p.0 test f held refl in
      let same : p.0 ≡ s.0 = one_around placed p.0 s.0 test (holds_headers header) image.phdr l.apart f s.1.at (around_table p.0 test f held) (around_holder s.0 s.1) in
      let is : table_in image (segment_from file s.0) ≡ table = ap (λ (q : Placed). table_in image (segment_from file q)) (sym same) ∙ (ap (table_in image) p.2 ∙ t.2) in
      record { s = s.0; holds = s.1; alike = subst (λ (xs : List ℕ). Alike xs 0 file header.place (56 * header.count)) is (table_alike s.0 s.1) }

  -- where the table stands in the file
  place_from : (s : Placed) → Holds header placed image.phdr s → (o : Option Placed) → find (is_around image.phdr) placed ≡ o → place_in image.phdr o ≡ header.place
  place_from s h None e =
      absurd (true_false (is_around image.phdr s) (around_true image.phdr s (around_holder s h))
      (subst (λ q. is_around image.phdr q ≡ false) (h.at.is s) (missed Placed (is_around image.phdr) placed e h.at.place s h.at.within)))
  place_from s h (Some q) e =
      let f : IsFound Placed (is_around image.phdr) placed q = found Placed (is_around image.phdr) placed q e in
      let same : q ≡ s = one_around placed q s (is_around image.phdr) (holds_headers header) image.phdr l.apart f h.at (around_is image.phdr q f.passes) (around_holder s h) in
      let low : s.offset ≤ header.place = h.low in
      let is : image.phdr ≡ s.addr + (header.place - s.offset) = h.stands in
      ap (λ (r : Placed). r.offset + (image.phdr - r.addr)) same ∙ omega arith

  -- ---- the file

  abbrev size : ℕ
  size = max 64 (end_of file placed)

  abbrev empty : List ℕ
  empty = replicate size 0

  abbrev parts_laid : List ℕ
  parts_laid = laid_of file empty placed

  abbrev whole : List ℕ
  whole = with_header header.entry header.place header.count parts_laid

  empty_long : length empty ≡ size
  empty_long = length-replicate size 0

  end_within : end_of file placed ≤ length empty
  end_within = let e : length empty ≡ size = empty_long in omega arith

  laid_long : length parts_laid ≡ size
  laid_long = length-laid empty placed (map (segment_from file) placed) end_within ∙ empty_long

  headers_put : IsHeaded file whole parts_laid
  headers_put = header_written file parts_laid header l.bytes l.head (let e : length parts_laid ≡ size = laid_long in omega arith)

  whole_long : length whole ≡ size
  whole_long = headers_put.long ∙ laid_long

  zero_byte : (k : ℕ) → get_or empty k 0 ≡ 0
  zero_byte k = elim (cases_lt k size) [ inl below ↦ get_or-replicate size k 0 0 below | inr past ↦ get_or_past empty k 0 (let e : length empty ≡ size = empty_long in omega arith) ]

  whole_either : (k : ℕ) → EitherAt whole empty file k
  whole_either = either_again whole parts_laid empty file headers_put.either (laid_either file empty placed l.inside end_within)

  old_or_zero : OldOrZero whole file
  old_or_zero k = elim (whole_either k) [ inl same ↦ inl same | inr none ↦ inr (none ∙ zero_byte k) ]

  whole_shows : All (λ p. Alike whole p.offset file p.offset p.len) placed
  whole_shows k d below = either_keeps whole parts_laid file (get_or placed k d).offset (get_or placed k d).len headers_put.either (laid_shows file empty placed l.inside end_within k d below)

  whole_fits : All (FitsFile (length whole)) placed
  whole_fits = parts_fit file (length whole) placed l.inside (let e : length whole ≡ size = whole_long in omega arith)

  table_shows : (s : Placed) → Holds header placed image.phdr s → Alike whole header.place file header.place (56 * header.count)
  table_shows s h =
      let low : s.offset ≤ header.place = h.low in
      let high : header.place + 56 * header.count ≤ s.offset + s.len = h.high in
      let part : Alike whole s.offset file s.offset s.len = subst (λ p. Alike whole p.offset file p.offset p.len) (h.at.is s) (whole_shows h.at.place s h.at.within) in
      alike_inside whole s.offset file s.offset s.len (header.place - s.offset) (56 * header.count) header.place header.place part (omega arith) (omega arith) (omega arith)

  headers_fit : (s : Placed) → Holds header placed image.phdr s → 0 < header.count → header_end header ≤ length whole
  headers_fit s h some =
      let fits : 0 < s.len → s.offset + s.len ≤ length whole = subst (FitsFile (length whole)) (h.at.is s) (whole_fits h.at.place s h.at.within) in
      let low : s.offset ≤ header.place = h.low in
      let high : header.place + 56 * header.count ≤ s.offset + s.len = h.high in
      omega (arith, fits (omega arith))

  whole_loads : (s : Placed) → Holds header placed image.phdr s → image_of whole ≡ Ok image
  whole_loads s h =
      let head : HasHeader whole header =
      header_again file whole parts_laid header l.bytes l.head (let e : length whole ≡ size = whole_long in omega arith) headers_put old_or_zero (headers_fit s h) in
      let found : segments_of whole header.place 0 header.count ≡ Ok placed = segments_again whole header.place file header.place 0 header.count placed (table_shows s h) whole_fits l.found in
      image_made whole header placed head found l.alone l.entry
      ∙ ap (λ (ss : List Segment). Ok (record { entry = header.entry; phdr = headers_at header (find (holds_headers header) placed); phnum = header.count; segments = ss }))
      (parts_again whole file placed l.inside whole_fits whole_shows)

  pub around_loads : (table : List ℕ) → table_of image ≡ Some table → image_of (file_around image (placed_in table 0 0 header.count)) ≡ Ok image
  unfolding file_around
  around_loads table e =
      let t = has_table table e in
      let read : placed_in table 0 0 header.count ≡ placed = placed_again table 0 file header.place 0 header.count placed t.alike l.found in
      let place : place_of image.phdr placed ≡ header.place = place_from t.s t.holds (find (is_around image.phdr) placed) refl in
      ap (λ (ps : List Placed). image_of (with_header header.entry (place_of image.phdr ps) header.count (laid (replicate (max 64 (last_end ps image.segments)) 0) ps image.segments))) read
      ∙ (ap (λ (n : ℕ). image_of (with_header header.entry n header.count parts_laid)) place ∙ whole_loads t.s t.holds)
