-- A piece that is gathered or scattered leaves less to do: its page is touched no more by what is left of its range. And vectors have few pieces.
use Rattle.file_model.specs.Errno.{EINVAL, ENAMETOOLONG}
use Rattle.file_model.specs.Files.{Files}
use Rattle.kernel_model.specs.Pages.{first_piece}
use Rattle.kernel_model.specs.CallPhases.{Act, Gather, Phase, Scatter, Stream, most_moved}
use Rattle.kernel_model.specs.Progress.{After, Progress, advanced, cut_ranges, ends, gather_path, gather_vectors, gathered, goes_on, has_piece, next_piece, ranges_left, ranges_of, scattered, settle, vectors, without_empty}
use Rattle.kernel_model.specs.declared.ranges.Range.{Range}
use Rattle.mck_word.specs.Lists.{before_zero, tail}
use Rattle.mck_word.specs.Words.{refused}
use Rattle.mck_word.specs.declared.parts.Piece.{Piece}
use Rattle.std.proofs.Common.{ap, arith, refl, sym, ◌∙◌}
use Rattle.std.proofs.lemmas.Bool.Decides.{nat_tests}
use Rattle.std.specs.List.{list_any}
use Rattle.std.specs.Prelude.{zero, suc, Bool, List, [], cond, drop, false, get_or, length, min, nat_le, nat_lt, take, true, ℕ, ◌%◌, ◌*◌, ◌++◌, ◌+◌, ◌-◌, ◌/◌, ◌<◌, ◌==◌, ◌^◌, ◌∷◌, ◌≡◌, ◌≤◌}
use Rattle.system_calls.specs.FileCalls.{has_path}
use Rattle.work_laws.proofs.calls.Settling.{after_left, ends-less, full-pieces, left-is, on-less, settle-less}
use Rattle.work_laws.specs.KernelLeft.{begins_with_act, files_left, phase_left, phases_left, pieces, progress_left}

-- ---- the first range, after a piece
abbrev pub piece_len : Range → ℕ
piece_len r = min r.len (4096 - r.address % 4096)

pub whole-piece : (r : Range) (rs : List Range) (n : ℕ) → n ≡ piece_len r → 0 < r.len → pieces (advanced n (r ∷ rs)) + 1 ≡ pieces (r ∷ rs)
whole-piece r rs n e l =
    let f = full-pieces (record { address = r.address + n; len = r.len - n } ∷ rs) in
    let g = count (nat_lt 0 (r.len - n)) refl (nat_lt 0 r.len) refl in
    omega (arith, f, g)
  where
    count : (b : Bool) → nat_lt 0 (r.len - n) ≡ b → (c : Bool) → nat_lt 0 r.len ≡ c
        → cond b (((r.address + n) % 4096 + (r.len - n) + 4095) / 4096) 0 + 1 ≡ cond c ((r.address % 4096 + r.len + 4095) / 4096) 0
    count b x false y = absurd (grind (arith, nat_tests, y, l))
    count true x true y = let z : 0 < r.len - n = grind (arith, nat_tests, x) in omega (arith, e, z)
    count false x true y = let z : r.len - n ≡ 0 = grind (arith, nat_tests, x) in omega (arith, e, z, l)

pub part-piece : (r : Range) (rs : List Range) (n : ℕ) → n ≤ piece_len r → 0 < r.len → pieces (advanced n (r ∷ rs)) ≤ pieces (r ∷ rs)
part-piece r rs n e l =
    let f = full-pieces (record { address = r.address + n; len = r.len - n } ∷ rs) in
    let g = count (nat_lt 0 (r.len - n)) (nat_lt 0 r.len) refl in
    omega (arith, f, g)
  where
    count : (b : Bool) (c : Bool) → nat_lt 0 r.len ≡ c
        → cond b (((r.address + n) % 4096 + (r.len - n) + 4095) / 4096) 0 ≤ cond c ((r.address % 4096 + r.len + 4095) / 4096) 0
    count b false y = absurd (grind (arith, nat_tests, y, l))
    count true true y = omega (arith, e)
    count false true y = omega arith

-- ---- vectors
lens : List Range → ℕ
lens [] = 0
lens (r ∷ rs) = r.len + lens rs

spread : (rs : List Range) → 4096 * pieces rs ≤ lens rs + 8190 * length rs
unfolding lens
spread [] = omega arith
spread (r ∷ rs) = let i = spread rs in let a = one (nat_lt 0 r.len) in omega (arith, i, a)
  where
    one : (b : Bool) → 4096 * cond b ((r.address % 4096 + r.len + 4095) / 4096) 0 ≤ r.len + 8190
    one true = omega arith
    one false = omega arith

cut-lens : (n : ℕ) (rs : List Range) → lens (cut_ranges n rs) ≤ n
unfolding lens
cut-lens n [] = omega arith
cut-lens n (r ∷ rs) = let i = cut-lens (n - r.len) rs in omega (arith, i)

cut-length : (n : ℕ) (rs : List Range) → length (cut_ranges n rs) ≡ length rs
cut-length n [] = refl
cut-length n (r ∷ rs) = ap (λ j. suc j) (cut-length (n - r.len) rs)

vectors-length : (n : ℕ) (bytes : List ℕ) → length (vectors n bytes) ≡ n
vectors-length zero bytes = refl
vectors-length (suc n) bytes = ap (λ j. suc j) (vectors-length n (drop 16 bytes))

pub vectors-most : (bytes : List ℕ) → pieces (without_empty (cut_ranges most_moved (vectors 16 bytes))) ≤ 48
vectors-most bytes = bound (cut_ranges 65536 (vectors 16 bytes)) (cut-lens 65536 (vectors 16 bytes)) (cut-length 65536 (vectors 16 bytes) ∙ vectors-length 16 bytes)
  where
    bound : (rs : List Range) → lens rs ≤ 65536 → length rs ≡ 16 → pieces (without_empty rs) ≤ 48
    bound rs l n = let s = spread rs in let f = full-pieces rs in omega (arith, s, f, l, n)

-- ---- the phase under way, and its first range
module _ (p : Progress) (files : Files) where
  abbrev Less : After → Type 0
  Less a = after_left a + 1 ≤ files_left files + progress_left p

  pub record UnderWay (phase : Phase) (rest : List Phase) : Type 0 where
    pub begins : p.phases ≡ phase ∷ rest
    pub first : Range
    pub others : List Range
    pub ranges : without_empty (ranges_of phase) ≡ first ∷ others
    pub some : 0 < first.len
    pub piece : (next_piece p).len ≡ piece_len first

  first-some : (rs : List Range) (r : Range) (ws : List Range) → without_empty rs ≡ r ∷ ws → nat_lt 0 r.len ≡ true
  first-some [] r ws e = absurd (grind (arith, e))
  first-some (x ∷ rs) r ws e = go (nat_lt 0 x.len) refl e (first-some rs r ws)
    where
      go : (b : Bool) → nat_lt 0 x.len ≡ b → cond b (x ∷ without_empty rs) (without_empty rs) ≡ r ∷ ws → (without_empty rs ≡ r ∷ ws → nat_lt 0 r.len ≡ true) → nat_lt 0 r.len ≡ true
      go true f g i = let h : x ≡ r = cc in ap (λ (z : Range). nat_lt 0 z.len) (sym h) ∙ f
      go false f g i = i g

  pub under-way : (phase : Phase) (rest : List Phase) → p.phases ≡ phase ∷ rest → has_piece p ≡ true → UnderWay phase rest
  under-way phase rest begins has = go (without_empty (ranges_of phase)) refl
    where
      len_of : Range → ℕ
      len_of x = (first_piece x.address x.len).len

      left : ranges_left p ≡ without_empty (ranges_of phase)
      left = ap (λ ps. without_empty (ranges_of (get_or ps 0 Act))) begins

      go : (ws : List Range) → without_empty (ranges_of phase) ≡ ws → UnderWay phase rest
      go [] e = absurd (let a = ap (λ rs. nat_lt 0 (length rs)) (left ∙ e) in grind (arith, has, a))
      go (r ∷ ws) e = record {
        begins = begins;
        first = r;
        others = ws;
        ranges = e;
        some = (let a = first-some (ranges_of phase) r ws e in grind (arith, nat_tests, a));
        piece = ap (λ rs. len_of (get_or rs 0 (record { address = 0; len = 0 }))) (left ∙ e);
      }

  -- what is left of the ranges after a whole piece
  pieces-after : (phase : Phase) (rest : List Phase) → UnderWay phase rest → pieces (advanced (next_piece p).len (without_empty (ranges_of phase))) + 1 ≡ pieces (ranges_of phase)
  pieces-after phase rest u =
      let a = whole-piece u.first u.others (next_piece p).len u.piece u.some in
      let b = ap (λ rs. pieces (advanced (next_piece p).len rs)) u.ranges in
      let c = ap pieces u.ranges in
      let d = full-pieces (ranges_of phase) in
      omega (arith, a, b, c, d)

  tail-is : (phase : Phase) (rest : List Phase) → UnderWay phase rest → phases_left p.call (tail p.phases) ≡ phases_left p.call rest
  tail-is phase rest u = ap (λ ps. phases_left p.call (tail ps)) u.begins

  before : (phase : Phase) (rest : List Phase) → begins_with_act (phase ∷ rest) ≡ false → UnderWay phase rest → progress_left p ≡ 1 + (phase_left p.call phase + phases_left p.call rest)
  before phase rest none u = left-is p (ap begins_with_act u.begins ∙ none) ∙ ap (λ ps. 1 + phases_left p.call ps) u.begins

  -- ---- gather
  module _ (rs : List Range) (rest : List Phase) (u : UnderWay (Gather rs) rest) (page : List ℕ) where
    abbrev piece : Piece
    piece = next_piece p

    abbrev ranges : List Range
    ranges = advanced piece.len (without_empty rs)

    abbrev q : Progress
    q = record p { buffer = p.buffer ++ take piece.len (drop piece.off page) }

    path-less : Less (gather_path q ranges files)
    path-less = go (nat_lt (length (before_zero q.buffer)) (length q.buffer)) (length ranges == 0)
      where
        go : (b c : Bool) → Less (cond b (settle (record q { buffer = before_zero q.buffer; phases = tail q.phases }) files)
            (cond c (ends (refused ENAMETOOLONG) q files) (goes_on (record q { phases = Gather ranges ∷ tail q.phases }) files)))
        go true c =
            let a = settle-less (record q { buffer = before_zero q.buffer; phases = tail q.phases }) files in
            let b = tail-is (Gather rs) rest u in
            let d = before (Gather rs) rest refl u in
            omega (arith, a, b, d)
        go false true =
            let a = ends-less (refused ENAMETOOLONG) q files in
            omega (arith, a)
        go false false =
            let a = on-less (record q { phases = Gather ranges ∷ tail q.phases }) files in
            let b = tail-is (Gather rs) rest u in
            let d = before (Gather rs) rest refl u in
            let e = pieces-after (Gather rs) rest u in
            omega (arith, a, b, d, e)

    vectors-less : has_path p.call ≡ false → Less (gather_vectors q ranges files)
    vectors-less plain = go ranges refl
      where
        d : progress_left p ≡ 1 + (1 + pieces rs + 96 + phases_left p.call rest)
        d = before (Gather rs) rest refl u ∙ ap (λ b. 1 + (1 + pieces rs + cond b 0 96 + phases_left p.call rest)) plain

        whole : (c : Bool) → Less (cond c (ends (refused EINVAL) q files) (settle (record q { buffer = []; phases = Stream (without_empty (cut_ranges most_moved (vectors 16 q.buffer))) ∷ [] }) files))
        whole true = let a = ends-less (refused EINVAL) q files in omega (arith, a)
        whole false =
            let a = settle-less (record q { buffer = []; phases = Stream (without_empty (cut_ranges most_moved (vectors 16 q.buffer))) ∷ [] }) files in
            let b = vectors-most q.buffer in
            let e = pieces-after (Gather rs) rest u in
            let f = d in
            omega (arith, a, b, e, f)

        go : (ws : List Range) → ranges ≡ ws → Less (gather_vectors q ws files)
        go (r ∷ ws) g =
            let a = on-less (record q { phases = Gather (r ∷ ws) ∷ tail q.phases }) files in
            let b = tail-is (Gather rs) rest u in
            let e = pieces-after (Gather rs) rest u in
            let h = ap pieces g in
            let c = ap {B = ℕ} (λ b. cond b 0 96) plain in
            let f = d in
            omega (arith, a, b, e, f, h, c)
        go [] g = whole (list_any (λ (v : Range). nat_le (2 ^ 63) v.len) (vectors 16 q.buffer))

    pub gather-less : Less (gathered p (without_empty rs) files page).after
    gather-less = go (has_path p.call) refl
      where
        go : (b : Bool) → has_path p.call ≡ b → Less (cond b (gather_path q ranges files) (gather_vectors q ranges files))
        go true e = path-less
        go false e = vectors-less e

  -- ---- scatter
  pub scatter-less : (rs : List Range) (rest : List Phase) → UnderWay (Scatter rs) rest → (page : List ℕ) → Less (scattered p (without_empty rs) files page).after
  scatter-less rs rest u page =
      let n = (next_piece p).len in
      let a = settle-less (record p { buffer = drop n p.buffer; phases = Scatter (advanced n (without_empty rs)) ∷ tail p.phases }) files in
      let b = tail-is (Scatter rs) rest u in
      let d = before (Scatter rs) rest refl u in
      let e = pieces-after (Scatter rs) rest u in
      omega (arith, a, b, d, e)
