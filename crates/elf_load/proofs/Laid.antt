-- File parts of one file, each put at its place.
use Rattle.elf_load.proofs.Alike.{Alike}
use Rattle.elf_load.proofs.Puts.{EitherAt, Fits, either_again, either_keeps, length-put, put_either, put_here}
use Rattle.elf_load.specs.Kept.{IsInside}
use Rattle.elf_load.specs.Profile.{segment_from}
use Rattle.elf_load.specs.Written.{laid, last_end, part_end, put}
use Rattle.elf_load.specs.declared.placed.Placed.{Placed}
use Rattle.job_model.specs.declared.image.Segment.{Segment}
use Rattle.std.proofs.Common.{◌≡◌, inr, ℕ, zero, suc, ◌+◌, ◌-◌, ◌<◌, ◌≤◌, max, min, List, [], ◌∷◌, length, drop, map, get_or, All, refl, sym, ◌∙◌, ap, subst, arith, get_or-drop, get_or-take, length-drop, length-take}
use Rattle.std.proofs.lemmas.Bool.Decides.{nat_tests}
use Rattle.std.proofs.lemmas.List.Elements.{All-head, All-tail}

cut_whole : (len offset size : ℕ) → (0 < len → offset + len ≤ size) → min len (size - offset) ≡ len
cut_whole zero offset size h = omega arith
cut_whole (suc len) offset size h = let fits : offset + suc len ≤ size = h (omega arith) in omega arith

pub length-cut : (old : List ℕ) (p : Placed) → (0 < p.len → p.offset + p.len ≤ length old) → length (segment_from old p).bytes ≡ p.len
length-cut old p part = simp (length-take, length-drop) (cut_whole p.len p.offset (length old) part)

pub length-part : (old : List ℕ) (p : Placed) → IsInside (length old) p → length (segment_from old p).bytes ≡ p.len
length-part old p h = length-cut old p h.part

pub part_stands : (old : List ℕ) (p : Placed) → Alike (segment_from old p).bytes 0 old p.offset p.len
part_stands old p k below =
    let start : 0 + k ≡ k = omega arith in
    ap (λ (i : ℕ). get_or (segment_from old p).bytes i 0) start ∙ (get_or-take p.len (drop p.offset old) k 0 below ∙ get_or-drop p.offset old k 0)

part_stands_whole : (old : List ℕ) (p : Placed) → IsInside (length old) p → Alike (segment_from old p).bytes 0 old p.offset (length (segment_from old p).bytes)
part_stands_whole old p h = subst (λ (n : ℕ). Alike (segment_from old p).bytes 0 old p.offset n) (sym (length-part old p h)) (part_stands old p)

first_end : (offset len rest size : ℕ) → max (part_end offset len) rest ≤ size → 0 < len → offset + len ≤ size
first_end offset zero rest size h some = absurd (omega arith)
first_end offset (suc len) rest size h some = grind (arith, nat_tests)

rest_end : (m rest size : ℕ) → max m rest ≤ size → rest ≤ size
rest_end m rest size h = omega arith

pub length-laid : (file : List ℕ) (placed : List Placed) (segments : List Segment) → last_end placed segments ≤ length file → length (laid file placed segments) ≡ length file
length-laid file [] segments h = refl
length-laid file (p ∷ placed) [] h = refl
length-laid file (p ∷ placed) (s ∷ segments) h =
    let same : length (put file p.offset s.bytes) ≡ length file = length-put file s.bytes p.offset (first_end p.offset (length s.bytes) (last_end placed segments) (length file) h) in
    let rest : last_end placed segments ≤ length file = rest_end (part_end p.offset (length s.bytes)) (last_end placed segments) (length file) h in
    length-laid (put file p.offset s.bytes) placed segments (omega arith) ∙ same

module _ (old : List ℕ) where
  abbrev pub laid_of : List ℕ → List Placed → List ℕ
  laid_of file placed = laid file placed (map (segment_from old) placed)

  abbrev pub end_of : List Placed → ℕ
  end_of placed = last_end placed (map (segment_from old) placed)

  fits_first : (file : List ℕ) (p : Placed) (placed : List Placed) → end_of (p ∷ placed) ≤ length file → Fits file p.offset (segment_from old p).bytes
  fits_first file p placed h = first_end p.offset (length (segment_from old p).bytes) (end_of placed) (length file) h

  fits_rest : (file : List ℕ) (p : Placed) (placed : List Placed) → end_of (p ∷ placed) ≤ length file → end_of placed ≤ length (put file p.offset (segment_from old p).bytes)
  fits_rest file p placed h =
      let same : length (put file p.offset (segment_from old p).bytes) ≡ length file = length-put file (segment_from old p).bytes p.offset (fits_first file p placed h) in
      let rest : end_of placed ≤ length file = rest_end (part_end p.offset (length (segment_from old p).bytes)) (end_of placed) (length file) h in
      omega arith

  pub laid_either : (file : List ℕ) (placed : List Placed) → All (IsInside (length old)) placed → end_of placed ≤ length file → (k : ℕ) → EitherAt (laid_of file placed) file old k
  laid_either file [] inside h k = inr refl
  laid_either file (p ∷ placed) inside h k =
      let next : List ℕ = put file p.offset (segment_from old p).bytes in
      let here : IsInside (length old) p = All-head (IsInside (length old)) p placed inside in
      either_again (laid_of next placed) next file old
      (laid_either next placed (All-tail (IsInside (length old)) p placed inside) (fits_rest file p placed h))
      (λ m. put_either file old (segment_from old p).bytes p.offset m (fits_first file p placed h) (part_stands_whole old p here)) k

  laid_first : (file : List ℕ) (p : Placed) (placed : List Placed) → All (IsInside (length old)) (p ∷ placed) → end_of (p ∷ placed) ≤ length file → Alike (laid_of file (p ∷ placed)) p.offset old p.offset p.len
  laid_first file p placed inside h =
      let next : List ℕ = put file p.offset (segment_from old p).bytes in
      let here : IsInside (length old) p = All-head (IsInside (length old)) p placed inside in
      let stands : Alike next p.offset old p.offset p.len =
      subst (λ (n : ℕ). Alike next p.offset old p.offset n) (length-part old p here)
      (put_here file old (segment_from old p).bytes p.offset (fits_first file p placed h) (part_stands_whole old p here)) in
      either_keeps (laid_of next placed) next old p.offset p.len
      (laid_either next placed (All-tail (IsInside (length old)) p placed inside) (fits_rest file p placed h)) stands

  pub laid_shows : (file : List ℕ) (placed : List Placed) → All (IsInside (length old)) placed → end_of placed ≤ length file → All (λ p. Alike (laid_of file placed) p.offset old p.offset p.len) placed
  laid_shows file [] inside h k d below = absurd (omega arith)
  laid_shows file (p ∷ placed) inside h zero d below = laid_first file p placed inside h
  laid_shows file (p ∷ placed) inside h (suc k) d below =
      laid_shows (put file p.offset (segment_from old p).bytes) placed (All-tail (IsInside (length old)) p placed inside) (fits_rest file p placed h) k d (omega arith)

  part_fits : (size : ℕ) (p : Placed) (rest : ℕ) → length (segment_from old p).bytes ≡ p.len → max (part_end p.offset (length (segment_from old p).bytes)) rest ≤ size → 0 < p.len → p.offset + p.len ≤ size
  part_fits size p rest long h some =
      let fits : p.offset + length (segment_from old p).bytes ≤ size = first_end p.offset (length (segment_from old p).bytes) rest size h (omega arith) in
      omega arith

  pub parts_fit : (size : ℕ) (placed : List Placed) → All (IsInside (length old)) placed → end_of placed ≤ size → All (λ p. 0 < p.len → p.offset + p.len ≤ size) placed
  parts_fit size [] inside h k d below = absurd (omega arith)
  parts_fit size (p ∷ placed) inside h zero d below =
      part_fits size p (end_of placed) (length-part old p (All-head (IsInside (length old)) p placed inside)) h
  parts_fit size (p ∷ placed) inside h (suc k) d below =
      parts_fit size placed (All-tail (IsInside (length old)) p placed inside) (rest_end (part_end p.offset (length (segment_from old p).bytes)) (end_of placed) size h) k d (omega arith)
