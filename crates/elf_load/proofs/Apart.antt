-- The file of an image whose program headers stand in no segment loads to the image.
use Rattle.byteorder.specs.Endian.{little_bytes, little_from}
use Rattle.byteorder.specs.Numbers.{little_number-reads_back}
use Rattle.elf_load.proofs.Alike.{field_fits}
use Rattle.elf_load.proofs.Around.{Holds, Loads, holds_from, image_made, inside_found}
use Rattle.elf_load.proofs.Found.{IsFound, find_map, found, missed}
use Rattle.elf_load.proofs.Images.{segments_kept}
use Rattle.elf_load.proofs.Laid.{length-part}
use Rattle.elf_load.proofs.Rules.{HasHeader, segment_made, segments_join, segments_none}
use Rattle.elf_load.specs.Fields.{field}
use Rattle.elf_load.specs.Kept.{IsInside}
use Rattle.elf_load.specs.Profile.{image_of, apart, has_bad_size, has_class, has_entry, has_sizes, header_end, headers_at, holds_headers, is_entry, is_outside, made, or_overlap, passes, rights_of, segment_at, segment_from, segment_of, segments_of, shares_page}
use Rattle.elf_load.specs.Written.{table_in, apart_file, executable, identity, flags_of, header_bytes, holds_table, parts, program_header, program_headers, table_end, table_of}
use Rattle.elf_load.specs.declared.fault.ElfFault.{ElfFault}
use Rattle.elf_load.specs.declared.headers.Header.{Header}
use Rattle.elf_load.specs.declared.placed.Placed.{Placed}
use Rattle.job_model.specs.Images.{AreRights, IsSegment}
use Rattle.job_model.specs.declared.image.Image.{Image}
use Rattle.job_model.specs.declared.image.Segment.{Segment}
use Rattle.mck_flags.specs.declared.rights.Rights.{Rights}
use Rattle.std.specs.List.{list_any}
use Rattle.std.proofs.Common.{Result, cond, bit_and, ◌≡◌, ℕ, zero, suc, ◌+◌, ◌-◌, ◌*◌, ◌%◌, ◌^◌, ◌<◌, ◌≤◌, ◌==◌, ◌&&◌, ◌||◌, nat_le, nat_lt, Bool, true, false, List, [], ◌∷◌, ◌++◌, length, take, drop, map, find, replicate, All, Option, Some, None, option_map, Ok, refl, sym, ◌∙◌, ap, subst, arith, append-nil, append_assoc, length-append, drop-drop, drop_at, take_at}
use Rattle.std.proofs.lemmas.Bool.Decides.{nat_tests}
use Rattle.std.proofs.lemmas.List.{length-map, length-replicate, replicate-append-replicate}
use Rattle.std.proofs.lemmas.List.Elements.{All-head, All-tail}

-- ---- fields of bytes that are known from a place on

field_from : (size o at : ℕ) (file front back : List ℕ) (n : ℕ) → drop at file ≡ front ++ (little_bytes size n ++ back) → length front ≡ o → n < 256 ^ size → field size (at + o) file ≡ n
unfolding field
field_from size o at file front back n e len small =
    let cut : drop (at + o) file ≡ little_bytes size n ++ back =
    sym (drop-drop o at file) ∙ (ap (drop o) e ∙ drop_at front (little_bytes size n ++ back) o len) in
    ap (little_from 0 size) cut ∙ little_number-reads_back size n back small

-- ---- rights

known_rights : (n : ℕ) → n < 8 → ((bit_and n 2 == 2) ≡ true → (bit_and n 1 == 1) ≡ true) → rights_of (flags_of (record { 0 = n })) ≡ record { 0 = n }
known_rights zero small h = refl
known_rights (suc zero) small h = refl
known_rights (suc (suc zero)) small h = let no : false ≡ true = h refl in cc
known_rights (suc (suc (suc zero))) small h = refl
known_rights (suc (suc (suc (suc zero)))) small h = refl
known_rights (suc (suc (suc (suc (suc zero))))) small h = refl
known_rights (suc (suc (suc (suc (suc (suc zero)))))) small h = let no : false ≡ true = h refl in cc
known_rights (suc (suc (suc (suc (suc (suc (suc zero))))))) small h = refl
known_rights (suc (suc (suc (suc (suc (suc (suc (suc n)))))))) small h = absurd (omega arith)

rights_again : (rights : Rights) → AreRights rights → rights_of (flags_of rights) ≡ rights
rights_again rights h = known_rights rights.0 h.known h.readable

flags_small : (rights : Rights) → flags_of rights < 8
flags_small rights = omega arith

-- ---- one program header

-- that the fields of a segment fit their bytes
record FitsFields (offset : ℕ) (s : Segment) : Type 0 where
  start : offset < 2 ^ 64
  addr : s.addr < 2 ^ 64
  len : length s.bytes < 2 ^ 64
  mem : s.mem < 2 ^ 64

abbrev placed_with : ℕ → ℕ → Segment → Placed
placed_with k offset s = record { number = k; offset = offset; len = length s.bytes; addr = s.addr; mem = s.mem; rights = s.rights }

record HasFields (file : List ℕ) (at offset : ℕ) (s : Segment) : Type 0 where
  kind : field 4 at file ≡ 1
  flags : field 4 (at + 4) file ≡ flags_of s.rights
  start : field 8 (at + 8) file ≡ offset
  addr : field 8 (at + 16) file ≡ s.addr
  len : field 8 (at + 32) file ≡ length s.bytes
  mem : field 8 (at + 40) file ≡ s.mem

abbrev behind_mem : List ℕ → List ℕ
behind_mem more = replicate 8 0 ++ more

abbrev behind_len : Segment → List ℕ → List ℕ
behind_len s more = little_bytes 8 s.mem ++ behind_mem more

abbrev behind_addr : Segment → List ℕ → List ℕ
behind_addr s more = replicate 8 0 ++ (little_bytes 8 (length s.bytes) ++ behind_len s more)

abbrev behind_offset : Segment → List ℕ → List ℕ
behind_offset s more = little_bytes 8 s.addr ++ behind_addr s more

abbrev behind_flags : ℕ → Segment → List ℕ → List ℕ
behind_flags offset s more = little_bytes 8 offset ++ behind_offset s more

abbrev behind_kind : ℕ → Segment → List ℕ → List ℕ
behind_kind offset s more = little_bytes 4 (flags_of s.rights) ++ behind_flags offset s more

header_is : (offset : ℕ) (s : Segment) (more : List ℕ) → program_header offset s ++ more ≡ little_bytes 4 1 ++ behind_kind offset s more
unfolding program_header
header_is offset s more = refl

header_long : (offset : ℕ) (s : Segment) → length (program_header offset s) ≡ 56
unfolding program_header
header_long offset s = refl

fields_from : (file : List ℕ) (at offset : ℕ) (s : Segment) (more : List ℕ) → FitsFields offset s → drop at file ≡ little_bytes 4 1 ++ behind_kind offset s more → HasFields file at offset s
fields_from file at offset s more h e =
    let start : at ≡ at + 0 = omega arith in
    let f0 : List ℕ = little_bytes 4 1 in
    let f4 : List ℕ = f0 ++ little_bytes 4 (flags_of s.rights) in
    let f8 : List ℕ = f4 ++ little_bytes 8 offset in
    let f16 : List ℕ = (f8 ++ little_bytes 8 s.addr) ++ replicate 8 0 in
    let f32 : List ℕ = f16 ++ little_bytes 8 (length s.bytes) in
    record {
      kind = ap (λ (i : ℕ). field 4 i file) start ∙ field_from 4 0 at file [] (behind_kind offset s more) 1 e refl (omega arith);
      flags = field_from 4 4 at file f0 (behind_flags offset s more) (flags_of s.rights) e refl (let small : flags_of s.rights < 8 = flags_small s.rights in omega arith);
      start = field_from 8 8 at file f4 (behind_offset s more) offset e refl h.start;
      addr = field_from 8 16 at file f8 (behind_addr s more) s.addr e refl h.addr;
      len = field_from 8 32 at file f16 (behind_len s more) (length s.bytes) e refl h.len;
      mem = field_from 8 40 at file f32 (behind_mem more) s.mem e refl h.mem;
    }

same_placed : (k : ℕ) (r r' : Rights) (o o' a a' l l' m m' : ℕ) → r ≡ r' → o ≡ o' → a ≡ a' → l ≡ l' → m ≡ m'
    → (let p : Placed = record { number = k; offset = o; len = l; addr = a; mem = m; rights = r } in p) ≡ record { number = k; offset = o'; len = l'; addr = a'; mem = m'; rights = r' }
same_placed k r r' o o' a a' l l' m m' er eo ea el em = rw (er, eo, ea, el, em) refl

segment_is : (file : List ℕ) (at k offset : ℕ) (s : Segment) → AreRights s.rights → HasFields file at offset s → segment_at file at k ≡ placed_with k offset s
segment_is file at k offset s r h =
    let rights : rights_of (field 4 (at + 4) file) ≡ s.rights = ap rights_of h.flags ∙ rights_again s.rights r in
    let offset_is : field 8 (at + 8) file ≡ offset = h.start in
    let addr : field 8 (at + 16) file ≡ s.addr = h.addr in
    let len : field 8 (at + 32) file ≡ length s.bytes = h.len in
    let mem : field 8 (at + 40) file ≡ s.mem = h.mem in
    same_placed k (rights_of (field 4 (at + 4) file)) s.rights (field 8 (at + 8) file) offset (field 8 (at + 16) file) s.addr (field 8 (at + 32) file) (length s.bytes) (field 8 (at + 40) file) s.mem rights offset_is addr len mem

-- ---- its rules

loaded_is : (kind mem n : ℕ) → kind ≡ 1 → mem ≡ n → 0 < n → (kind == 1 && nat_lt 0 mem) ≡ true
loaded_is kind mem n e f some = grind (arith, nat_tests)

not_linked : (kind n : ℕ) → kind ≡ n → n < 2 → (kind == 2 || kind == 3) ≡ false
not_linked kind n e small = grind (arith, nat_tests)

good_size : (size : ℕ) (p : Placed) → p.len ≤ p.mem → p.offset + p.len ≤ size → has_bad_size size p ≡ false
good_size size p whole fits = grind (arith, nat_tests)

good_range : (p : Placed) → 0x10000 ≤ p.addr → p.addr + p.mem ≤ 0x3000000000 → is_outside p ≡ false
good_range p low high = grind (arith, nat_tests)

fits_fields : (offset : ℕ) (s : Segment) → offset < 2 ^ 64 → IsSegment s → FitsFields offset s
fits_fields offset s small h =
    let range : s.addr + s.mem ≤ 0x3000000000 = h.range in
    let whole : length s.bytes ≤ s.mem = h.whole in
    record { start = small; addr = omega arith; len = omega arith; mem = omega arith }

segment_read : (file : List ℕ) (at k offset : ℕ) (s : Segment) (more : List ℕ) → IsSegment s → offset + length s.bytes ≤ length file → length file < 2 ^ 64 → drop at file ≡ program_header offset s ++ more
    → segment_of file at k ≡ Ok (Some (placed_with k offset s))
segment_read file at k offset s more h within small e =
    let fields : HasFields file at offset s = fields_from file at offset s more (fits_fields offset s (omega arith) h) (e ∙ header_is offset s more) in
    let is : segment_at file at k ≡ placed_with k offset s = segment_is file at k offset s h.rights fields in
    segment_made file at k (Some (placed_with k offset s)) (not_linked (field 4 at file) 1 fields.kind (omega arith))
    (record {
      loaded = loaded_is (field 4 at file) (field 8 (at + 40) file) s.mem fields.kind fields.mem h.some;
      size = subst (λ p. has_bad_size (length file) p ≡ false) (sym is) (good_size (length file) (placed_with k offset s) h.whole within);
      range = subst (λ p. is_outside p ≡ false) (sym is) (good_range (placed_with k offset s) h.low h.range);
      is = is;
    })

-- ---- all of them

abbrev placed_from : ℕ → ℕ → List Segment → List Placed
placed_from k offset [] = []
placed_from k offset (s ∷ ss) = placed_with k offset s ∷ placed_from (k + 1) (offset + length s.bytes) ss

other_kind : (kind : ℕ) (b : Bool) → kind ≡ 0 → (kind == 1 && b) ≡ false
other_kind kind b e = rw e refl

-- zeros are program headers of no segment
zeros_none : (file rest : List ℕ) (at k m : ℕ) → drop at file ≡ replicate (56 * m) 0 ++ rest → segments_of file at k m ≡ Ok []
zeros_none file rest at k zero e = segments_none file at k
zeros_none file rest at k (suc m) e =
    let more : List ℕ = replicate (56 * m) 0 ++ rest in
    let more_zeros : 56 * suc m ≡ 56 + 56 * m = omega arith in
    let split : replicate (56 * suc m) 0 ≡ replicate 56 0 ++ replicate (56 * m) 0 = ap (λ (n : ℕ). replicate n 0) more_zeros ∙ sym (replicate-append-replicate 56 (56 * m) 0) in
    let here : drop at file ≡ replicate 56 0 ++ more = e ∙ (ap (λ (xs : List ℕ). xs ++ rest) split ∙ append_assoc (replicate 56 0) (replicate (56 * m) 0) rest) in
    let start : at ≡ at + 0 = omega arith in
    let kind : field 4 at file ≡ 0 = ap (λ (i : ℕ). field 4 i file) start ∙ field_from 4 0 at file [] (replicate 52 0 ++ more) 0 here refl (omega arith) in
    let first : segment_of file at k ≡ Ok None = segment_made file at k None (not_linked (field 4 at file) 0 kind (omega arith)) (other_kind (field 4 at file) (nat_lt 0 (field 8 (at + 40) file)) kind) in
    let next : drop (at + 56) file ≡ replicate (56 * m) 0 ++ rest = sym (drop-drop 56 at file) ∙ (ap (drop 56) here ∙ drop_at (replicate 56 0) more 56 refl) in
    segments_join file at k m None [] first (zeros_none file rest (at + 56) (k + 1) m next)

table_read : (file rest : List ℕ) (at k offset m : ℕ) (ss : List Segment) → All IsSegment ss → offset + length (parts ss) ≤ length file → length file < 2 ^ 64
    → drop at file ≡ program_headers offset ss ++ (replicate (56 * m) 0 ++ rest) → segments_of file at k (length ss + m) ≡ Ok (placed_from k offset ss)
table_read file rest at k offset m [] h within small e =
    let count : 0 + m ≡ m = omega arith in
    ap (segments_of file at k) count ∙ zeros_none file rest at k m e
table_read file rest at k offset m (s ∷ ss) h within small e =
    let tail : List ℕ = replicate (56 * m) 0 ++ rest in
    let more : List ℕ = program_headers (offset + length s.bytes) ss ++ tail in
    let here : drop at file ≡ program_header offset s ++ more = e ∙ append_assoc (program_header offset s) (program_headers (offset + length s.bytes) ss) tail in
    let all : length (parts (s ∷ ss)) ≡ length s.bytes + length (parts ss) = length-append s.bytes (parts ss) in
    let first : segment_of file at k ≡ Ok (Some (placed_with k offset s)) = segment_read file at k offset s more (All-head IsSegment s ss h) (omega arith) small here in
    let next : drop (at + 56) file ≡ more = sym (drop-drop 56 at file) ∙ (ap (drop 56) here ∙ drop_at (program_header offset s) more 56 (header_long offset s)) in
    let others : segments_of file (at + 56) (k + 1) (length ss + m) ≡ Ok (placed_from (k + 1) (offset + length s.bytes) ss) =
    table_read file rest (at + 56) (k + 1) (offset + length s.bytes) m ss (All-tail IsSegment s ss h) (omega arith) small next in
    let count : suc (length ss) + m ≡ suc (length ss + m) = omega arith in
    ap (segments_of file at k) count ∙ segments_join file at k (length ss + m) (Some (placed_with k offset s)) (placed_from (k + 1) (offset + length s.bytes) ss) first others

-- ---- file parts

same_segment : (s : Segment) (bytes : List ℕ) → bytes ≡ s.bytes → (let t : Segment = record { addr = s.addr; mem = s.mem; bytes = bytes; rights = s.rights } in t) ≡ s
same_segment s bytes e = ap (λ (bs : List ℕ). record { addr = s.addr; mem = s.mem; bytes = bs; rights = s.rights }) e

same_front : (s t : Segment) (ss ts : List Segment) → s ≡ t → ss ≡ ts → s ∷ ss ≡ t ∷ ts
same_front s t ss ts e f = rw (e, f) refl

parts_read : (file : List ℕ) (k offset : ℕ) (ss : List Segment) → drop offset file ≡ parts ss → map (segment_from file) (placed_from k offset ss) ≡ ss
parts_read file k offset [] e = refl
parts_read file k offset (s ∷ ss) e =
    let here : take (length s.bytes) (drop offset file) ≡ s.bytes = ap (take (length s.bytes)) e ∙ take_at s.bytes (parts ss) (length s.bytes) refl in
    let next : drop (offset + length s.bytes) file ≡ parts ss = sym (drop-drop (length s.bytes) offset file) ∙ (ap (drop (length s.bytes)) e ∙ drop_at s.bytes (parts ss) (length s.bytes) refl) in
    same_front (segment_from file (placed_with k offset s)) s (map (segment_from file) (placed_from (k + 1) (offset + length s.bytes) ss)) ss (same_segment s (take (length s.bytes) (drop offset file)) here)
    (parts_read file (k + 1) (offset + length s.bytes) ss next)

-- ---- segments at the same addresses

record SameRange (p q : Placed) : Type 0 where
  addr : p.addr ≡ q.addr
  mem : p.mem ≡ q.mem
  rights : p.rights ≡ q.rights

abbrev SameRanges : List Placed → List Placed → Type 0
SameRanges [] [] = Unit {0}
SameRanges [] (q ∷ qs) = ⊥
SameRanges (p ∷ ps) [] = ⊥
SameRanges (p ∷ ps) (q ∷ qs) = SameRange p q × SameRanges ps qs

ranges_placed : (file : List ℕ) (k offset : ℕ) (ps : List Placed) → SameRanges ps (placed_from k offset (map (segment_from file) ps))
ranges_placed file k offset [] = tt
ranges_placed file k offset (p ∷ ps) = (record { addr = refl; mem = refl; rights = refl }, ranges_placed file (k + 1) (offset + length (segment_from file p).bytes) ps)

ranges_push : (ps qs : List Placed) (p q : Placed) → SameRanges ps qs → SameRange p q → SameRanges (ps ++ p ∷ []) (qs ++ q ∷ [])
ranges_push [] [] p q h s = (s, tt)
ranges_push [] (r ∷ qs) p q h s = absurd h
ranges_push (r ∷ ps) [] p q h s = absurd h
ranges_push (r ∷ ps) (t ∷ qs) p q h s = (h.0, ranges_push ps qs p q h.1 s)

shares_again : (p q s t : Placed) → SameRange p q → SameRange s t → shares_page p s ≡ shares_page q t
shares_again p q s t h r =
    let a : p.addr ≡ q.addr = h.addr in
    let b : p.mem ≡ q.mem = h.mem in
    let c : s.addr ≡ t.addr = r.addr in
    let d : s.mem ≡ t.mem = r.mem in
    rw (a, b, c, d) refl

none_by : (X : Type 0) (x : X) (b c : Bool) (r : Option X) → b ≡ c → cond b (Some x) r ≡ None → (c ≡ false) × (r ≡ None)
none_by X x true c r e h = cc
none_by X x false c r e h = (sym e, h)

none_made : (X : Type 0) (x : X) (c : Bool) (r : Option X) → c ≡ false → r ≡ None → cond c (Some x) r ≡ None
none_made X x true r e h = cc
none_made X x false r e h = h

none_shared : (ps qs : List Placed) (s t : Placed) → SameRanges ps qs → SameRange s t → find (λ p. shares_page p s) ps ≡ None → find (λ q. shares_page q t) qs ≡ None
none_shared [] [] s t h r e = refl
none_shared [] (q ∷ qs) s t h r e = absurd h
none_shared (p ∷ ps) [] s t h r e = absurd h
none_shared (p ∷ ps) (q ∷ qs) s t h r e =
    let n = none_by Placed p (shares_page p s) (shares_page q t) (find (λ x. shares_page x s) ps) (shares_again p q s t h.0 r) e in
    none_made Placed q (shares_page q t) (find (λ x. shares_page x t) qs) n.0 (none_shared ps qs s t h.1 r n.1)

overlap_none : (o : Option Placed) (s : Placed) (r : Result (List Placed) ElfFault) (all : List Placed) → or_overlap o s r ≡ Ok all → (o ≡ None) × (r ≡ Ok all)
overlap_none None s r all h = (refl, h)
overlap_none (Some t) s r all h = cc

overlap_made : (o : Option Placed) (s : Placed) (r : Result (List Placed) ElfFault) (all : List Placed) → o ≡ None → r ≡ Ok all → or_overlap o s r ≡ Ok all
overlap_made None s r all e h = h
overlap_made (Some t) s r all e h = cc

apart_again : (before before' rest rest' all : List Placed) → SameRanges before before' → SameRanges rest rest' → apart before rest ≡ Ok all → apart before' rest' ≡ Ok (before' ++ rest')
unfolding apart
apart_again before before' [] [] all hb hr e = ap (λ (ps : List Placed). Ok ps) (sym (append-nil before'))
apart_again before before' [] (q ∷ qs) all hb hr e = absurd hr
apart_again before before' (p ∷ ps) [] all hb hr e = absurd hr
apart_again before before' (p ∷ ps) (q ∷ qs) all hb hr e =
    let n = overlap_none (find (λ t. shares_page t p) before) p (apart (before ++ p ∷ []) ps) all e in
    let rest : apart (before' ++ q ∷ []) qs ≡ Ok ((before' ++ q ∷ []) ++ qs) = apart_again (before ++ p ∷ []) (before' ++ q ∷ []) ps qs all (ranges_push before before' p q hb hr.0) hr.1 n.1 in
    overlap_made (find (λ t. shares_page t q) before') q (apart (before' ++ q ∷ []) qs) (before' ++ (q ∷ qs)) (none_shared before before' p q hb hr.0 n.0)
    (rest ∙ ap (λ (xs : List Placed). Ok xs) (append_assoc before' (q ∷ []) qs))

entry_again : (entry : ℕ) (ps qs : List Placed) → SameRanges ps qs → list_any (is_entry entry) ps ≡ list_any (is_entry entry) qs
entry_again entry [] [] h = refl
entry_again entry [] (q ∷ qs) h = absurd h
entry_again entry (p ∷ ps) [] h = absurd h
entry_again entry (p ∷ ps) (q ∷ qs) h =
    let a : p.addr ≡ q.addr = h.0.addr in
    let b : p.mem ≡ q.mem = h.0.mem in
    let c : p.rights ≡ q.rights = h.0.rights in
    let rest : list_any (is_entry entry) ps ≡ list_any (is_entry entry) qs = entry_again entry ps qs h.1 in
    let here : is_entry entry p ≡ is_entry entry q = rw (a, b, c) refl in
    rw (here, rest) refl

-- ---- the header

header_begins : (entry count : ℕ) (rest : List ℕ) → length (header_bytes entry count) ≡ 64
unfolding header_bytes
header_begins entry count rest = refl

module _ (entry count : ℕ) (rest : List ℕ) where
  abbrev begun : List ℕ
  begun = header_bytes entry count ++ rest

  begun_entry : entry < 2 ^ 64 → field 8 24 begun ≡ entry
  unfolding header_bytes
  begun_entry small =
      field_from 8 24 0 begun (identity ++ (replicate 9 0 ++ (executable ++ little_bytes 4 1)))
      (little_bytes 8 64 ++ (replicate 12 0 ++ (little_bytes 2 64 ++ (little_bytes 2 56 ++ (little_bytes 2 count ++ (replicate 6 0 ++ rest)))))) entry refl refl small

  begun_count : count < 2 ^ 16 → field 2 56 begun ≡ count
  unfolding header_bytes
  begun_count small =
      field_from 2 56 0 begun (identity ++ (replicate 9 0 ++ (executable ++ (little_bytes 4 1 ++ (little_bytes 8 entry ++ (little_bytes 8 64 ++ (replicate 12 0 ++ (little_bytes 2 64 ++ little_bytes 2 56))))))))
      (replicate 6 0 ++ rest) count refl refl small

  begun_class : has_class begun ≡ true
  unfolding header_bytes
  begun_class = refl

  begun_number : (field 4 0 begun ≡ 0x464c457f) × (field 2 16 begun ≡ 2) × (field 2 18 begun ≡ 243) × (field 4 48 begun ≡ 0) × (field 2 54 begun ≡ 56) × (field 8 32 begun ≡ 64)
  unfolding header_bytes field
  begun_number = (refl, refl, refl, refl, refl, refl)

  begun_long : length begun ≡ 64 + length rest
  begun_long = let h : length (header_bytes entry count) ≡ 64 = header_begins entry count rest in omega (arith, length-append (header_bytes entry count) rest)

most_of : (b : Bool) (n : ℕ) → (b && nat_le n 64) ≡ true → n ≤ 64
most_of true n h = grind (arith, nat_tests)
most_of false n h = cc

flags_none : (n : ℕ) → n ≡ 0 → (n == 0 || n == 16) ≡ true
flags_none n e = rw e refl

count_most : (file : List ℕ) → has_sizes file ≡ true → field 2 56 file ≤ 64
count_most file h = most_of (field 2 54 file == 56) (field 2 56 file) h

sizes_are : (size count n : ℕ) → size ≡ 56 → count ≡ n → n ≤ 64 → (size == 56 && nat_le count 64) ≡ true
sizes_are size count n e f most = grind (arith, nat_tests)

inside_is : (size place count p n : ℕ) → place ≡ p → count ≡ n → p + 56 * n ≤ size → passes size place (56 * count) ≡ false
inside_is size place count p n e f h = grind (arith, nat_tests)

abbrev behind_header : ℕ → ℕ → Header
behind_header entry count = record { entry = entry; place = 64; count = count }

header_apart : (entry count : ℕ) (rest : List ℕ) → entry < 2 ^ 64 → count ≤ 64 → 56 * count ≤ length rest → HasHeader (header_bytes entry count ++ rest) (behind_header entry count)
header_apart entry count rest small most inside =
    let n = begun_number entry count rest in
    let long : length (header_bytes entry count ++ rest) ≡ 64 + length rest = begun_long entry count rest in
    let counted : field 2 56 (header_bytes entry count ++ rest) ≡ count = begun_count entry count rest (omega arith) in
    record {
      long = omega arith;
      magic = n.0;
      class = begun_class entry count rest;
      kind = n.1;
      machine = n.2;
      flags = flags_none (field 4 48 (header_bytes entry count ++ rest)) n.3;
      sizes = sizes_are (field 2 54 (header_bytes entry count ++ rest)) (field 2 56 (header_bytes entry count ++ rest)) count n.4 counted most;
      inside = inside_is (length (header_bytes entry count ++ rest)) (field 8 32 (header_bytes entry count ++ rest)) (field 2 56 (header_bytes entry count ++ rest)) 64 count n.5 counted (omega arith);
      entry = sym (begun_entry entry count rest small);
      place = sym n.5;
      count = sym counted;
    }

-- ---- the file

table_long : (offset : ℕ) (ss : List Segment) → length (program_headers offset ss) ≡ 56 * length ss
table_long offset [] = refl
table_long offset (s ∷ ss) =
    let rest : length (program_headers (offset + length s.bytes) ss) ≡ 56 * length ss = table_long (offset + length s.bytes) ss in
    length-append (program_header offset s) (program_headers (offset + length s.bytes) ss) ∙ omega (arith, header_long offset s)

parts_small : (ss : List Segment) → All IsSegment ss → length (parts ss) ≤ length ss * 0x3000000000
parts_small [] h = omega arith
parts_small (s ∷ ss) h =
    let here : IsSegment s = All-head IsSegment s ss h in
    let whole : length s.bytes ≤ s.mem = here.whole in
    let range : s.addr + s.mem ≤ 0x3000000000 = here.range in
    let rest : length (parts ss) ≤ length ss * 0x3000000000 = parts_small ss (All-tail IsSegment s ss h) in
    omega (arith, length-append s.bytes (parts ss))

too_far : (place offset a b : ℕ) → place < offset → (nat_le offset place && nat_le a b) ≡ false
too_far place offset a b h = grind (arith, nat_tests)

none_hold : (header : Header) (k offset : ℕ) (ss : List Segment) → header.place < offset → find (holds_headers header) (placed_from k offset ss) ≡ None
none_hold header k offset [] h = refl
none_hold header k offset (s ∷ ss) h =
    none_made Placed (placed_with k offset s) (holds_headers header (placed_with k offset s)) (find (holds_headers header) (placed_from (k + 1) (offset + length s.bytes) ss))
    (too_far header.place offset (header_end header) (offset + length s.bytes) h) (none_hold header (k + 1) (offset + length s.bytes) ss (omega arith))

-- ---- no segment holds the program headers

unmapped : (X Y : Type 0) (g : X → Y) (o : Option X) → option_map g o ≡ None → o ≡ None
unmapped X Y g None h = refl
unmapped X Y g (Some x) h = cc

true_false : (b : Bool) → b ≡ true → b ≡ false → ⊥
true_false true e f = cc
true_false false e f = cc

both : (a b c d : ℕ) → a ≤ b → c ≤ d → (nat_le a b && nat_le c d) ≡ true
both a b c d h k = grind (arith, nat_tests)

no_entry : (b : Bool) → (b && false) ≡ true → ⊥
no_entry true h = cc
no_entry false h = cc

some_placed : (entry : ℕ) (placed : List Placed) → has_entry entry placed ≡ true → 0 < length placed
some_placed entry [] h = absurd (no_entry (entry % 4 == 0) h)
some_placed entry (p ∷ placed) h = omega arith

module _ (file : List ℕ) (header : Header) (placed : List Placed) (l : Loads file header placed) where
  abbrev image : Image
  image = made file header placed

  held : (s : Placed) → Holds header placed image.phdr s → holds_table image (segment_from file s) ≡ true
  held s h =
      let inside : IsInside (length file) s = inside_found (length file) (holds_headers header) placed s l.inside h.at in
      let long : length (segment_from file s).bytes ≡ s.len = length-part file s inside in
      let low : s.offset ≤ header.place = h.low in
      let high : header.place + 56 * header.count ≤ s.offset + s.len = h.high in
      let is : image.phdr ≡ s.addr + (header.place - s.offset) = h.stands in
      both s.addr image.phdr (image.phdr + 56 * header.count) (s.addr + length (segment_from file s).bytes) (omega arith) (omega arith)

  no_headers : (o : Option Placed) → find (holds_headers header) placed ≡ o → table_of image ≡ None → o ≡ None
  no_headers None e h = refl
  no_headers (Some s) e h =
      let f : IsFound Placed (holds_headers header) placed s = found Placed (holds_headers header) placed s e in
      let test : Placed → Bool = λ p. holds_table image (segment_from file p) in
      let none : find test placed ≡ None =
      unmapped Placed Segment (segment_from file) (find test placed)
      (sym (find_map Placed Segment (segment_from file) (holds_table image) placed) ∙ unmapped Segment (List ℕ) (table_in image) (find (holds_table image) image.segments) h) in
      let missing : test s ≡ false = subst (λ q. test q ≡ false) (f.is s) (missed Placed test placed none f.place s f.within) in
      absurd (true_false (test s) (held s (holds_from header placed image.phdr s f (ap (headers_at header) e))) missing)

  -- ---- the file

  abbrev segments : List Segment
  segments = map (segment_from file) placed

  abbrev spare : ℕ
  spare = header.count - length segments

  abbrev no_headers_left : List ℕ
  no_headers_left = replicate (56 * spare) 0

  abbrev rest : List ℕ
  rest = program_headers (table_end header.count) segments ++ (no_headers_left ++ parts segments)

  abbrev whole : List ℕ
  whole = header_bytes header.entry header.count ++ rest

  abbrev new_header : Header
  new_header = behind_header header.entry header.count

  abbrev new_placed : List Placed
  new_placed = placed_from 0 (table_end header.count) segments

  few : length segments ≤ header.count
  few = let e : length segments ≡ length placed = length-map placed (segment_from file) in let h : length placed ≤ header.count = l.few in omega arith

  most : header.count ≤ 64
  most = let e : header.count ≡ field 2 56 file = l.head.count in let h : field 2 56 file ≤ 64 = count_most file l.head.sizes in omega arith

  kept : All IsSegment segments
  kept = segments_kept file placed l.inside

  rest_long : length rest ≡ 56 * header.count + length (parts segments)
  rest_long =
      let table : length (program_headers (table_end header.count) segments) ≡ 56 * length segments = table_long (table_end header.count) segments in
      let zeros : length no_headers_left ≡ 56 * spare = length-replicate {A = ℕ} (56 * spare) 0 in
      let inner : length (no_headers_left ++ parts segments) ≡ length no_headers_left + length (parts segments) = length-append no_headers_left (parts segments) in
      let outer : length rest ≡ length (program_headers (table_end header.count) segments) + length (no_headers_left ++ parts segments) =
      length-append (program_headers (table_end header.count) segments) (no_headers_left ++ parts segments) in
      let h : length segments ≤ header.count = few in
      omega arith

  whole_long : length whole ≡ table_end header.count + length (parts segments)
  whole_long = let e : length rest ≡ 56 * header.count + length (parts segments) = rest_long in begun_long header.entry header.count rest ∙ omega arith

  whole_small : length whole < 2 ^ 64
  whole_small =
      let e : length whole ≡ table_end header.count + length (parts segments) = whole_long in
      let p : length (parts segments) ≤ length segments * 0x3000000000 = parts_small segments kept in
      let h : length segments ≤ header.count = few in
      let m : header.count ≤ 64 = most in
      omega arith

  entry_small : header.entry < 2 ^ 64
  entry_small = let e : header.entry ≡ field 8 24 file = l.head.entry in let h : field 8 24 file < 2 ^ 64 = field_fits 8 24 file l.bytes in omega arith

  table_there : drop 64 whole ≡ rest
  table_there = drop_at (header_bytes header.entry header.count) rest 64 (header_begins header.entry header.count rest)

  parts_there : drop (table_end header.count) whole ≡ parts segments
  parts_there =
      let table : length (program_headers (table_end header.count) segments) ≡ 56 * length segments = table_long (table_end header.count) segments in
      let zeros : length no_headers_left ≡ 56 * spare = length-replicate {A = ℕ} (56 * spare) 0 in
      let front : List ℕ = program_headers (table_end header.count) segments ++ no_headers_left in
      let long : length front ≡ length (program_headers (table_end header.count) segments) + length no_headers_left = length-append (program_headers (table_end header.count) segments) no_headers_left in
      let h : length segments ≤ header.count = few in
      let regroup : rest ≡ front ++ parts segments = sym (append_assoc (program_headers (table_end header.count) segments) no_headers_left (parts segments)) in
      sym (drop-drop (56 * header.count) 64 whole) ∙ (ap (drop (56 * header.count)) (table_there ∙ regroup) ∙ drop_at front (parts segments) (56 * header.count) (omega arith))

  whole_found : segments_of whole 64 0 header.count ≡ Ok new_placed
  whole_found =
      let h : length segments ≤ header.count = few in
      let count : header.count ≡ length segments + spare = omega arith in
      let e : length whole ≡ table_end header.count + length (parts segments) = whole_long in
      ap (segments_of whole 64 0) count ∙ table_read whole (parts segments) 64 0 (table_end header.count) spare segments kept (omega arith) whole_small table_there

  ranges : SameRanges placed new_placed
  ranges = ranges_placed file 0 (table_end header.count) placed

  pub apart_loads : table_of image ≡ None → image_of (apart_file image) ≡ Ok image
  unfolding apart_file
  apart_loads h =
      let none : find (holds_headers header) placed ≡ None = no_headers (find (holds_headers header) placed) refl h in
      let counted : length placed ≤ header.count = l.few in
      let some : 0 < length placed = some_placed header.entry placed l.entry in
      let nowhere : find (holds_headers new_header) new_placed ≡ None = none_hold new_header 0 (table_end header.count) segments (omega arith) in
      let e : length rest ≡ 56 * header.count + length (parts segments) = rest_long in
      let head : HasHeader whole new_header = header_apart header.entry header.count rest entry_small most (omega arith) in
      let alone : apart [] new_placed ≡ Ok new_placed = apart_again [] [] placed new_placed placed tt ranges l.alone in
      let entry : has_entry header.entry new_placed ≡ true = ap (λ (b : Bool). header.entry % 4 == 0 && b) (sym (entry_again header.entry placed new_placed ranges)) ∙ l.entry in
      let same : map (segment_from whole) new_placed ≡ segments = parts_read whole 0 (table_end header.count) segments parts_there in
      let phdr : headers_at new_header (find (holds_headers new_header) new_placed) ≡ image.phdr = ap (headers_at new_header) nowhere ∙ sym (ap (headers_at header) none) in
      image_made whole new_header new_placed head whole_found alone entry
      ∙ (ap (λ (n : ℕ). Ok (record { entry = header.entry; phdr = n; phnum = header.count; segments = map (segment_from whole) new_placed })) phdr
      ∙ ap (λ (ss : List Segment). Ok (record { entry = header.entry; phdr = image.phdr; phnum = header.count; segments = ss })) same)
