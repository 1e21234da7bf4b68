-- Pages copied to the lowest free frames: the new table shows them, frames stay apart, and rows elsewhere show what they showed.
use Rattle.std.specs.FinMap as finmap
use Rattle.std.specs.FinMap.Entries as fin
use Rattle.hybrid_laws.proofs.maps.Sums.{none-below}
use Rattle.hybrid_laws.proofs.maps.Tests.{both}
use Rattle.hybrid_laws.proofs.memory.Adding.{frames_add, shown_lowest}
use Rattle.hybrid_laws.proofs.memory.Effects.{own-not-free}
use Rattle.hybrid_laws.proofs.memory.Written.{sorted-true}
use Rattle.hybrid_laws.specs.OneProcess.{FramesOf}
use Rattle.hybrid_model.specs.Globals.{copies}
use Rattle.hybrid_model.specs.Sides.{Row}
use Rattle.hybrid_model.specs.Spaces.{Space, add_page, copied_pages, first_number, page_at_lowest, rest_numbers, shown_memory}
use Rattle.hybrid_model.specs.Tallies.{Reads}
use Rattle.isa_model.specs.Memory.{Page}
use Rattle.mck_flags.specs.declared.rights.Rights.{Rights}
use Rattle.mck_word.specs.MapLaws.{at-none, at-put, same_rows}
use Rattle.mck_word.specs.Maps.{Map, at, entries, no_rows, put}
use Rattle.std.proofs.Common.{ap, arith, refl, sym, ◌∙◌}
use Rattle.std.proofs.lemmas.Bool.Decides.{nat_tests}
use Rattle.std.specs.Cmp.{unsigned_tied}
use Rattle.std.specs.Ordering.{nat_cmp}
use Rattle.std.specs.Prelude.{Bool, List, None, Option, Some, [], cond, false, length, suc, true, ℕ, ◌+◌, ◌==◌, ◌∷◌, ◌≡◌, ◌≤◌}

-- ---- a map filled from entries that rise
abbrev pub or_else : {V : Type 0} → Option V → Option V → Option V
or_else None b = b
or_else (Some v) b = Some v

module _ {V : Type 0} where
  abbrev pub put_all : List (ℕ × V) → Map V → Map V
  put_all [] m = m
  put_all (e ∷ es) m = put_all es (put m e.0 e.1)

  at-put_all : (es : List (ℕ × V)) (m : Map V) (j : ℕ) → fin.is_sorted nat_cmp es ≡ true → at (put_all es m) j ≡ or_else (fin.find nat_cmp j es) (at m j)
  at-put_all [] m j s = refl
  at-put_all (e ∷ es) m j s =
      at-put_all es (put m e.0 e.1) j a.1 ∙ ap (or_else (fin.find nat_cmp j es)) (at-put m e.0 e.1 j) ∙ go (j == e.0) refl ∙ ap (λ c. or_else (cond c (Some e.1) (fin.find nat_cmp j es)) (at m j)) (sym (unsigned_tied j e.0))
    where
      a : (fin.below_all nat_cmp e.0 es ≡ true) × (fin.is_sorted nat_cmp es ≡ true)
      a = both (fin.below_all nat_cmp e.0 es) (fin.is_sorted nat_cmp es) s

      go : (b : Bool) → (j == e.0) ≡ b → or_else (fin.find nat_cmp j es) (cond b (Some e.1) (at m j)) ≡ or_else (cond b (Some e.1) (fin.find nat_cmp j es)) (at m j)
      go true f =
          let g : j ≡ e.0 = grind (arith, nat_tests, f) in
          let n = none-below (λ (v : ℕ × V). 0) j e.0 es (let h = g in omega (arith, h)) a.0 in
          rw n refl
      go false f = refl

  -- all entries of a map, put into an empty one, make it again
  pub put_all-entries : (m : Map V) → put_all (entries m) no_rows ≡ m
  put_all-entries m = same_rows (put_all (entries m) no_rows) m (λ j.
      at-put_all (entries m) no_rows j (sorted-true m) ∙ ap (or_else (fin.find nat_cmp j (entries m))) (at-none j) ∙ or-none (fin.find nat_cmp j (entries m)) ∙ sym (finmap.get-entries m j))
    where
      or-none : (o : Option V) → or_else o None ≡ o
      or-none None = refl
      or-none (Some v) = refl

-- ---- pages at the lowest free frames
module _ (tables : ℕ → Reads Row) (p : ℕ) where
  frames_lowest : (rights : Rights) (bytes : List ℕ) (i : ℕ) (sp : Space) → 1 ≤ length sp.free → FramesOf tables p sp → FramesOf tables p (page_at_lowest rights bytes i sp)
  unfolding add_page
  frames_lowest rights bytes i sp l c = frames_add tables p i rights sp l c

  pub less-free : (rights : Rights) (bytes : List ℕ) (i n : ℕ) (sp : Space) → suc n ≤ length sp.free → n ≤ length (page_at_lowest rights bytes i sp).free
  less-free rights bytes i n sp l = go sp.free l
    where
      go : (o : List ℕ) → suc n ≤ length o → n ≤ length (rest_numbers o)
      go [] e = absurd (omega (arith, e))
      go (f ∷ free) e = omega (arith, e)

  one-less : (rights : Rights) (bytes : List ℕ) (i : ℕ) (sp : Space) → 1 ≤ length sp.free → length (page_at_lowest rights bytes i sp).free + 1 ≡ length sp.free
  one-less rights bytes i sp l = go sp.free l
    where
      go : (o : List ℕ) → 1 ≤ length o → length (rest_numbers o) + 1 ≡ length o
      go [] e = absurd (omega (arith, e))
      go (f ∷ free) e = omega arith

  pub frames_copied : (es : List (ℕ × Page)) (sp : Space) → length es ≤ length sp.free → FramesOf tables p sp → FramesOf tables p (copied_pages es sp)
  frames_copied [] sp l c = c
  frames_copied (e ∷ es) sp l c = frames_copied es (page_at_lowest e.1.rights e.1.bytes e.0 sp) (less-free e.1.rights e.1.bytes e.0 (length es) sp l) (frames_lowest e.1.rights e.1.bytes e.0 sp (omega (arith, l)) c)

  pub length_copied : (es : List (ℕ × Page)) (sp : Space) → length es ≤ length sp.free → length (copied_pages es sp).free + length es ≡ length sp.free
  length_copied [] sp l = omega arith
  length_copied (e ∷ es) sp l =
      let a = length_copied es (page_at_lowest e.1.rights e.1.bytes e.0 sp) (less-free e.1.rights e.1.bytes e.0 (length es) sp l) in
      let b = one-less e.1.rights e.1.bytes e.0 sp (omega (arith, l)) in
      omega (arith, a, b)

  -- what the new table shows
  shown-one : (rights : Rights) (bytes : List ℕ) (i : ℕ) (sp : Space) → 1 ≤ length sp.free → FramesOf tables p sp
      → shown_memory (page_at_lowest rights bytes i sp).table (page_at_lowest rights bytes i sp).frames ≡ put (shown_memory sp.table sp.frames) i (record { rights = rights; bytes = bytes })
  shown-one rights bytes i sp l c = go sp.free refl
    where
      go : (o : List ℕ) → sp.free ≡ o → shown_memory (put sp.table i (record { 0 = first_number sp.free }, rights)) (put sp.frames (first_number sp.free) bytes) ≡ put (shown_memory sp.table sp.frames) i (record { rights = rights; bytes = bytes })
      go [] e = absurd (let k = rw e at l in omega (arith, k))
      go (f ∷ free) e =
          let s = shown_lowest i rights sp f free e (λ j r k g. (let z = rw e at (own-not-free tables p sp c j r k) in grind (arith, nat_tests, z, g))) bytes in
          rw e (sym s)

  pub shown_copied : (es : List (ℕ × Page)) (sp : Space) → length es ≤ length sp.free → FramesOf tables p sp → shown_memory (copied_pages es sp).table (copied_pages es sp).frames ≡ put_all es (shown_memory sp.table sp.frames)
  shown_copied [] sp l c = refl
  shown_copied (e ∷ es) sp l c =
      shown_copied es (page_at_lowest e.1.rights e.1.bytes e.0 sp) (less-free e.1.rights e.1.bytes e.0 (length es) sp l) (frames_lowest e.1.rights e.1.bytes e.0 sp (omega (arith, l)) c)
      ∙ ap (put_all es) (shown-one e.1.rights e.1.bytes e.0 sp (omega (arith, l)) c)

  -- a frame that isn't free keeps its bytes
  bytes-one : (rights : Rights) (bytes : List ℕ) (i f : ℕ) (sp : Space) → 1 ≤ length sp.free → copies f sp.free ≡ 0 → at (page_at_lowest rights bytes i sp).frames f ≡ at sp.frames f
  bytes-one rights bytes i f sp l n = at-put sp.frames (first_number sp.free) bytes f ∙ (let d = differ sp.free l n in rw d refl)
    where
      differ : (o : List ℕ) → 1 ≤ length o → copies f o ≡ 0 → (f == first_number o) ≡ false
      differ [] e k = absurd (omega (arith, e))
      differ (g ∷ gs) e k = grind (arith, nat_tests, k)

  still-not : (rights : Rights) (bytes : List ℕ) (i f : ℕ) (sp : Space) → copies f sp.free ≡ 0 → copies f (page_at_lowest rights bytes i sp).free ≡ 0
  still-not rights bytes i f sp n = go sp.free n
    where
      go : (o : List ℕ) → copies f o ≡ 0 → copies f (rest_numbers o) ≡ 0
      go [] e = e
      go (g ∷ gs) e = omega (arith, e)

  pub bytes_copied : (es : List (ℕ × Page)) (f : ℕ) (sp : Space) → length es ≤ length sp.free → copies f sp.free ≡ 0 → at (copied_pages es sp).frames f ≡ at sp.frames f
  bytes_copied [] f sp l n = refl
  bytes_copied (e ∷ es) f sp l n =
      bytes_copied es f (page_at_lowest e.1.rights e.1.bytes e.0 sp) (less-free e.1.rights e.1.bytes e.0 (length es) sp l) (still-not e.1.rights e.1.bytes e.0 f sp n)
      ∙ bytes-one e.1.rights e.1.bytes e.0 f sp (omega (arith, l)) n
