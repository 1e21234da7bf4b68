-- The memory that a table shows, written back, decides the frames that rows have.
use Rattle.std.specs.FinMap as finmap
use Rattle.std.specs.FinMap.Entries as fin
use Rattle.hybrid_model.specs.Sides.{Row}
use Rattle.hybrid_model.specs.Spaces.{bytes_in, written_back, written_rows}
use Rattle.hybrid_model.specs.Tallies.{Each}
use Rattle.isa_model.specs.Memory.{Memory}
use Rattle.lwk_space.proofs.BytesRead.{at-row, frame-bytes, some-at}
use Rattle.lwk_space.proofs.MapRows.{each-row}
use Rattle.lwk_space.specs.Frames.{frames_map}
use Rattle.lwk_space.specs.Lacks.{NoRowHas, OthersStay, memory}
use Rattle.lwk_space.specs.Rows.{FramesIn}
use Rattle.mck_word.specs.MapLaws.{at-put, same_rows}
use Rattle.mck_word.specs.Maps.{Map, at, entries, put}
use Rattle.mck_word.specs.Slots.{at-slots}
use Rattle.std.proofs.Common.{ap, arith, inl, inr, refl, sym, ◌∙◌}
use Rattle.std.proofs.lemmas.Bool.Decides.{nat_tests}
use Rattle.std.proofs.lemmas.Bool.{cases_lt}
use Rattle.std.specs.Ordering.{eq_by_cmp, nat_cmp}
use Rattle.std.specs.Prelude.{Bool, List, None, Some, [], ◌∷◌, cond, false, length, map, slice_index_or, suc, true, zero, ℕ, ◌<◌, ◌==◌, ◌≡◌, ◌≤◌}

-- at a frame, once rows of which each puts what stands there afterwards are written
written-at : (after : Map (List ℕ)) (m : Memory) (f : ℕ) (es : List (ℕ × Row)) (frames : Map (List ℕ)) → Each (λ (e : ℕ × Row). at after e.1.0.0 ≡ Some (bytes_in (at m e.0))) es
    → (Each (λ (e : ℕ × Row). (f == e.1.0.0) ≡ false) es → at frames f ≡ at after f) → at (written_rows es m frames) f ≡ at after f
written-at after m f [] frames puts other = other tt
written-at after m f (e ∷ es) frames puts other =
    written-at after m f es (put frames e.1.0.0 bytes) puts.1 (λ rest. at-put frames e.1.0.0 bytes f ∙ go (f == e.1.0.0) refl rest)
  where
    bytes : List ℕ
    bytes = bytes_in (at m e.0)

    go : (b : Bool) → (f == e.1.0.0) ≡ b → Each (λ (x : ℕ × Row). (f == x.1.0.0) ≡ false) es → cond b (Some bytes) (at frames f) ≡ at after f
    go true h rest = let same : f ≡ e.1.0.0 = grind (arith, nat_tests, h) in sym (ap (at after) same ∙ puts.0)
    go false h rest = other (h, rest)

found : (f k : ℕ) (w : Row) (es : List (ℕ × Row)) → fin.find nat_cmp k es ≡ Some w → Each (λ (e : ℕ × Row). (f == e.1.0.0) ≡ false) es → (f == w.0.0) ≡ false
found f k w [] e h = absurd (cc)
found f k w (x ∷ es) e h = go (eq_by_cmp nat_cmp k x.0) e (λ g. found f k w es g h.1)
  where
    go : (b : Bool) → cond b (Some x.1) (fin.find nat_cmp k es) ≡ Some w → (fin.find nat_cmp k es ≡ Some w → (f == w.0.0) ≡ false) → (f == w.0.0) ≡ false
    go true g rest = let same : x.1 ≡ w = cc in ap (λ (z : Row). (f == z.0.0)) (sym same) ∙ h.0
    go false g rest = rest g

none-past : (pages : List (List ℕ)) (f : ℕ) → length pages ≤ f → slice_index_or (map Some pages) f None ≡ None
none-past [] f l = refl
none-past (x ∷ xs) zero l = absurd (omega arith)
none-past (x ∷ xs) (suc f) l = none-past xs f (omega arith)

frame-at : (pages : List (List ℕ)) (f : ℕ) → f < length pages → at (frames_map pages) f ≡ Some (slice_index_or pages f [])
frame-at pages f l = at-slots (map Some pages) f ∙ some-at pages f l

frame-past : (pages : List (List ℕ)) (f : ℕ) → length pages ≤ f → at (frames_map pages) f ≡ None
frame-past pages f l = at-slots (map Some pages) f ∙ none-past pages f l

module _ (rows : Map Row) (before after : List (List ℕ)) (inside : FramesIn rows before) (others : OthersStay rows before after) (len : length after ≡ length before) where
  puts : (e : ℕ × Row) → at rows e.0 ≡ Some e.1 → at (frames_map after) e.1.0.0 ≡ Some (bytes_in (at (memory rows after) e.0))
  puts e there =
      let l : e.1.0.0 < length after = omega (arith, inside e.0 e.1 there, len) in
      frame-at after e.1.0.0 l ∙ ap Some (sym (frame-bytes after e.1.0.0 l)) ∙ sym (ap (λ o. Some (bytes_in o)) (at-row rows after e.0 e.1 there))

  each-puts : (es : List (ℕ × Row)) → Each (λ (e : ℕ × Row). at rows e.0 ≡ Some e.1) es → Each (λ (e : ℕ × Row). at (frames_map after) e.1.0.0 ≡ Some (bytes_in (at (memory rows after) e.0))) es
  each-puts [] h = tt
  each-puts (e ∷ es) h = (puts e h.0, each-puts es h.1)

  other : (f : ℕ) → NoRowHas rows f → at (frames_map before) f ≡ at (frames_map after) f
  other f none = elim (cases_lt f (length before)) [
    | inl l ↦ frame-at before f l ∙ ap Some (sym (others f none)) ∙ sym (frame-at after f (omega (arith, len, l)))
    | inr l ↦ frame-past before f l ∙ sym (frame-past after f (omega (arith, len, l)))
  ]

  no-row : (f : ℕ) → Each (λ (e : ℕ × Row). (f == e.1.0.0) ≡ false) (entries rows) → NoRowHas rows f
  no-row f none k w there same =
      let apart = found f k w (entries rows) (sym (finmap.get-entries rows k) ∙ there) none in
      absurd (grind (arith, nat_tests, apart, same))

  pub written-back : frames_map after ≡ written_back rows (memory rows after) (frames_map before)
  unfolding written_back
  written-back = sym (same_rows (written_rows (entries rows) (memory rows after) (frames_map before)) (frames_map after) (λ f.
      written-at (frames_map after) (memory rows after) f (entries rows) (frames_map before) (each-puts (entries rows) (each-row rows)) (λ none. other f (no-row f none))))
