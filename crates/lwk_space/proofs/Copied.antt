-- A page copied to the lowest free frame, and the pages that are left then.
use Rattle.frame_mem.specs.Pages.{written}
use Rattle.frame_pool.specs.Pools.{Pool}
use Rattle.hybrid_model.specs.Sides.{Row}
use Rattle.hybrid_model.specs.Spaces.{Space, copied_pages, frame_bytes, page_at_lowest, shown_row}
use Rattle.isa_model.specs.Memory.{Memory}
use Rattle.lwk_space.proofs.BytesRead.{at-row, frame-bytes}
use Rattle.lwk_space.proofs.Lowest.{lowest-first}
use Rattle.lwk_space.proofs.OnePage.{first-is, frames-set, rest-is}
use Rattle.lwk_space.proofs.RowSets.{present-put}
use Rattle.lwk_space.specs.Copies.{from_on}
use Rattle.lwk_space.specs.Frames.{frames_map}
use Rattle.lwk_space.specs.Lacks.{memory}
use Rattle.lwk_space.specs.Rows.{FramesIn, FramesTaken}
use Rattle.mck_word.specs.EachLaws.{at-each}
use Rattle.mck_word.specs.Lists.{member, tail}
use Rattle.mck_word.specs.MapLaws.{at-cut, at-keep, at-none, at-put, same_rows}
use Rattle.mck_word.specs.Maps.{Map, at, count, cut, entries, no_rows, put}
use Rattle.std.proofs.Common.{ap, arith, refl, subst, sym, ◌∙◌}
use Rattle.std.proofs.lemmas.Bool.Decides.{nat_tests}
use Rattle.std.proofs.lemmas.List.{append-nil, drop_all, take_all}
use Rattle.std.specs.FinMap as finmap
use Rattle.std.specs.Ordering.{nat_cmp}
use Rattle.std.specs.Prelude.{Bool, List, None, Option, Some, [], ◌∷◌, ◌++◌, cond, drop, false, is_some, length, nat_le, nat_lt, option_map, slice_get, slice_index_or, slice_set, suc, take, true, zero, ℕ, ◌&&◌, ◌+◌, ◌<◌, ◌==◌, ◌||◌, ◌≡◌, ◌≢◌, ◌≤◌}

-- ---- the bytes of a frame
drop-zero : (xs : List ℕ) → drop 0 xs ≡ xs
drop-zero [] = refl
drop-zero (x ∷ xs) = refl

take-zero : (xs : List ℕ) → take 0 xs ≡ []
take-zero [] = refl
take-zero (x ∷ xs) = refl

-- a page that gets all the bytes of another one
pub whole-copy : (n : ℕ) (page bytes into : List ℕ) → length page ≡ n → length bytes ≡ n → into ≡ take n (drop 0 bytes) → written page 0 into ≡ bytes
whole-copy n page bytes into long same is =
    let all : into ≡ bytes = is ∙ ap (take n) (drop-zero bytes) ∙ take_all n bytes (omega (arith, same)) in
    let count = ap length all in
    let none : drop (0 + length into) page ≡ [] = drop_all (0 + length into) page (omega (arith, long, same, count)) in
    (λ i. take-zero page i ++ (all i ++ none i)) ∙ append-nil bytes

-- ---- the pages from one on
module _ {V : Type 0} where
  from-at : (low k : ℕ) (m : Map V) → low ≤ k → at (from_on low m) k ≡ at m k
  from-at low k m l = at-keep m (λ j. nat_le low j) k ∙ (let e : nat_le low k ≡ true = grind (arith, nat_tests, l) in rw e refl)

  -- where no page is between, one page less is left
  pub one-less : (low page : ℕ) (m : Map V) → low ≤ page → ((j : ℕ) → low ≤ j → j < page → at m j ≡ None) → cut (from_on low m) page ≡ from_on (page + 1) m
  one-less low page m l none = same_rows _ _ (λ q. at-cut (from_on low m) page q ∙ (ap (λ o. cond (q == page) None o) (at-keep m (λ j. nat_le low j) q) ∙ by-page q ∙ sym (at-keep m (λ j. nat_le (page + 1) j) q)))
    where
      by-page : (q : ℕ) → cond (q == page) None (cond (nat_le low q) (at m q) None) ≡ cond (nat_le (page + 1) q) (at m q) None
      by-page q = go (q == page) refl (nat_le low q) refl (nat_le (page + 1) q) refl
        where
          go : (a : Bool) → (q == page) ≡ a → (b : Bool) → nat_le low q ≡ b → (c : Bool) → nat_le (page + 1) q ≡ c → cond a None (cond b (at m q) None) ≡ cond c (at m q) None
          go true e b f true g = absurd (grind (arith, nat_tests, e, g))
          go true e b f false g = refl
          go false e true f true g = refl
          go false e true f false g = none q (grind (arith, nat_tests, f)) (grind (arith, nat_tests, e, g))
          go false e false f true g = absurd (grind (arith, nat_tests, f, g, l))
          go false e false f false g = refl

  from-none : (low : ℕ) (m : Map V) → ((j : ℕ) → low ≤ j → at m j ≡ None) → from_on low m ≡ no_rows
  from-none low m none = same_rows _ _ (λ q. at-keep m (λ j. nat_le low j) q ∙ go q (nat_le low q) refl ∙ sym (at-none q))
    where
      go : (q : ℕ) (b : Bool) → nat_le low q ≡ b → cond b (at m q) None ≡ None
      go q true e = none q (grind (arith, nat_tests, e))
      go q false e = refl

  pub from-zero : (m : Map V) → from_on 0 m ≡ m
  from-zero m = same_rows _ _ (λ q. from-at 0 q m (omega arith))

  first-left : (low page : ℕ) (m : Map V) (v : V) → at m page ≡ Some v → low ≤ page → ((j : ℕ) → low ≤ j → j < page → at m j ≡ None) → entries (from_on low m) ≡ (page, v) ∷ entries (from_on (page + 1) m)
  first-left low page m v there l none =
      lowest-first (from_on low m) page v (from-at low page m l ∙ there) before ∙ ap (λ (n : Map V). (page, v) ∷ entries n) (one-less low page m l none)
    where
      before : (j : ℕ) → j < page → at (from_on low m) j ≡ None
      before j k = at-keep m (λ i. nat_le low i) j ∙ go (nat_le low j) refl
        where
          go : (b : Bool) → nat_le low j ≡ b → cond b (at m j) None ≡ None
          go true e = none j (grind (arith, nat_tests, e)) k
          go false e = refl

  pub less-left : (low page : ℕ) (m : Map V) (v : V) → at m page ≡ Some v → low ≤ page → ((j : ℕ) → low ≤ j → j < page → at m j ≡ None) → count (from_on low m) ≡ count (from_on (page + 1) m) + 1
  less-left low page m v there l none =
      finmap.len-entries (from_on low m) ∙ ap length (first-left low page m v there l none) ∙ (let a = finmap.len-entries (from_on (page + 1) m) in omega (arith, a))

  without-entries : (es : List (ℕ × V)) → length es ≡ 0 → es ≡ []
  without-entries [] e = refl
  without-entries (x ∷ xs) e = absurd (omega (arith, e))

  pub count-none : (low : ℕ) (m : Map V) → ((j : ℕ) → low ≤ j → at m j ≡ None) → count (from_on low m) ≡ 0
  count-none low m none = ap (λ (n : Map V). count n) (from-none low m none) ∙ finmap.len-empty nat_cmp V

  none-left : (low : ℕ) (m : Map V) → ((j : ℕ) → low ≤ j → at m j ≡ None) → entries (from_on low m) ≡ []
  none-left low m none = ap (λ (n : Map V). entries n) (from-none low m none) ∙ without-entries (entries (no_rows {V = V})) (sym (finmap.len-entries (no_rows {V = V})) ∙ finmap.len-empty nat_cmp V)

-- ---- a page copied
module _ (rows : Map Row) (pages : List (List ℕ)) where
  row-none : (j : ℕ) → at rows j ≡ None → at (memory rows pages) j ≡ None
  row-none j e = at-each (shown_row (frames_map pages)) rows j ∙ ap (option_map (shown_row (frames_map pages))) e

  -- a page at the lowest free frame, with the bytes and the rights of a row
  lowest-page : (page f : ℕ) (w : Row) (table : Map Row) (now : List (List ℕ)) (free : List ℕ) → slice_get free 0 ≡ Some f → f < length now → w.0.0 < length pages → slice_index_or now w.0.0 [] ≡ slice_index_or pages w.0.0 []
      → record { table = put table page (record { 0 = f }, w.1); frames = frames_map (slice_set now f (slice_index_or now w.0.0 [])); free = tail free }
      ≡ page_at_lowest w.1 (frame_bytes (frames_map pages) w.0.0) page (record { table = table; frames = frames_map now; free = free })
  lowest-page page f w table now free first below inside same =
      let k = sym (first-is free f first) in
      let bytes = same ∙ sym (frame-bytes pages w.0.0 inside) in
      λ i. record { table = put table page (record { 0 = k i }, w.1); frames = (frames-set now f (slice_index_or now w.0.0 []) below ∙ (λ j. put (frames_map now) (k j) (bytes j))) i; free = rest-is free i }

  -- the lowest page of those that are left
  pub copied-step : (low page f : ℕ) (w : Row) (table : Map Row) (now : List (List ℕ)) (free : List ℕ) → at rows page ≡ Some w → low ≤ page → ((j : ℕ) → low ≤ j → j < page → at rows j ≡ None)
      → slice_get free 0 ≡ Some f → f < length now → w.0.0 < length pages → slice_index_or now w.0.0 [] ≡ slice_index_or pages w.0.0 []
      → copied_pages (entries (from_on (page + 1) (memory rows pages))) (record { table = put table page (record { 0 = f }, w.1); frames = frames_map (slice_set now f (slice_index_or now w.0.0 [])); free = tail free })
      ≡ copied_pages (entries (from_on low (memory rows pages))) (record { table = table; frames = frames_map now; free = free })
  copied-step low page f w table now free there l none first below inside same =
      let entry = first-left low page (memory rows pages) (shown_row (frames_map pages) w) (at-row rows pages page w there) l (λ j a b. row-none j (none j a b)) in
      ap (copied_pages (entries (from_on (page + 1) (memory rows pages)))) (lowest-page page f w table now free first below inside same)
      ∙ sym (ap (λ es. copied_pages es (record { table = table; frames = frames_map now; free = free })) entry)

  -- all are copied, and none is yet
  pub copied-all : (low : ℕ) (sp : Space) → ((j : ℕ) → low ≤ j → at rows j ≡ None) → copied_pages (entries (from_on low (memory rows pages))) sp ≡ sp
  copied-all low sp none = ap (λ es. copied_pages es sp) (none-left low (memory rows pages) (λ j l. row-none j (none j l)))

  pub copied-none : (sp : Space) → copied_pages (entries (from_on 0 (memory rows pages))) sp ≡ copied_pages (entries (memory rows pages)) sp
  copied-none sp = ap (λ (m : Memory). copied_pages (entries m) sp) (from-zero (memory rows pages))

-- ---- frames that aren't free
pub not-first : (free : List ℕ) (f g : ℕ) → slice_get free 0 ≡ Some f → member g free ≡ false → g ≢ f
not-first [] f g e h = absurd (cc)
not-first (x ∷ xs) f g e h = λ same. absurd (go (x == g) refl h (let a : x ≡ f = cc in a ∙ sym same))
  where
    go : (b : Bool) → (x == g) ≡ b → (b || member g xs) ≡ false → x ≡ g → ⊥
    go true a k s = grind (arith, k)
    go false a k s = grind (arith, nat_tests, a, s)

pub taken-tail : (rows : Map Row) (pool : Pool) → FramesTaken rows pool → FramesTaken rows (record pool { free = tail pool.free })
taken-tail rows pool h = λ k w e. ((h k w e).0, go pool.free w.0.0 (h k w e).1)
  where
    rest : (a b : Bool) → (a || b) ≡ false → b ≡ false
    rest true b e = absurd (cc)
    rest false b e = e

    go : (free : List ℕ) (g : ℕ) → member g free ≡ false → member g (tail free) ≡ false
    go [] g e = e
    go (x ∷ xs) g e = rest (x == g) (member g xs) e

-- a row with a frame of the memory more
pub inside-put : (rows : Map Row) (before after : List (List ℕ)) (page : ℕ) (w : Row) → length before ≡ length after → w.0.0 < length before → FramesIn rows before → FramesIn (put rows page w) after
inside-put rows before after page w same l h = λ k v e. go k v (k == page) (sym (at-put rows page w k) ∙ e)
  where
    go : (k : ℕ) (v : Row) (b : Bool) → cond b (Some w) (at rows k) ≡ Some v → v.0.0 < length after
    go k v true e = let g : w ≡ v = cc in subst (λ (x : Row). x.0.0 < length after) g (omega (arith, same, l))
    go k v false e = let a = h k v e in omega (arith, a, same)

pub none-free : (free : List ℕ) → slice_get free 0 ≡ None → length free ≡ 0
none-free [] e = refl
none-free (x ∷ xs) e = absurd (cc)

pub others-kept : (pages : List (List ℕ)) (f g : ℕ) (bytes : List ℕ) → g ≢ f → slice_index_or (slice_set pages f bytes) g [] ≡ slice_index_or pages g []
others-kept [] f g bytes o = refl
others-kept (x ∷ xs) zero zero bytes o = absurd (o refl)
others-kept (x ∷ xs) zero (suc g) bytes o = refl
others-kept (x ∷ xs) (suc f) zero bytes o = refl
others-kept (x ∷ xs) (suc f) (suc g) bytes o = others-kept xs f g bytes (λ e. o (ap (λ n. suc n) e))

-- ---- which pages are copied yet: those below `low`
pub none-copied : (there : Bool) (p : ℕ) → (there && nat_lt p 0) ≡ false
none-copied there p = let e : nat_lt p 0 ≡ false = grind (arith, nat_tests) in rw e (both there)
  where
    both : (a : Bool) → (a && false) ≡ false
    both true = refl
    both false = refl

module _ (table rows : Map Row) (low : ℕ) (pages : (p : ℕ) → is_some (at table p) ≡ (is_some (at rows p) && nat_lt p low)) where
  none-some : (o : Option Row) → is_some o ≡ false → o ≡ None
  none-some None e = refl
  none-some (Some w) e = absurd (cc)

  pub absent-above : (page : ℕ) → low ≤ page → at table page ≡ None
  absent-above page l = none-some (at table page) (pages page ∙ go (is_some (at rows page)) (nat_lt page low) (grind (arith, nat_tests, l)))
    where
      go : (a b : Bool) → b ≡ false → (a && b) ≡ false
      go true b e = e
      go false b e = refl

  pub copied-more : (page : ℕ) (w : Row) → low ≤ page → is_some (at rows page) ≡ true → ((j : ℕ) → low ≤ j → j < page → at rows j ≡ None) → (p : ℕ)
      → is_some (at (put table page w) p) ≡ (is_some (at rows p) && nat_lt p (page + 1))
  copied-more page w l there none p = present-put table page p w ∙ (let was = pages p in rw was (go (p == page) refl (nat_lt p low) refl (nat_lt p (page + 1)) refl))
    where
      off : nat_le low p ≡ true → nat_lt p page ≡ true → is_some (at rows p) ≡ false
      off a b = ap is_some (none p (grind (arith, nat_tests, a)) (grind (arith, nat_tests, b)))

      no : (a : Bool) → a ≡ false → (a && false) ≡ (a && true)
      no a e = rw e refl

      or : (a b : Bool) → ((a && b) || false) ≡ (a && b)
      or true true = refl
      or true false = refl
      or false b = refl

      own : p ≡ page → (b : Bool) → ((is_some (at rows p) && b) || true) ≡ (is_some (at rows p) && true)
      own e b = let t : is_some (at rows p) ≡ true = ap (λ k. is_some (at rows k)) e ∙ there in rw t (all b)
        where
          all : (b : Bool) → (b || true) ≡ true
          all true = refl
          all false = refl

      go : (a : Bool) → (p == page) ≡ a → (b : Bool) → nat_lt p low ≡ b → (c : Bool) → nat_lt p (page + 1) ≡ c → ((is_some (at rows p) && b) || a) ≡ (is_some (at rows p) && c)
      go true e b f true g = own (grind (arith, nat_tests, e)) b
      go true e b f false g = absurd (grind (arith, nat_tests, e, g))
      go false e true f true g = or (is_some (at rows p)) true
      go false e true f false g = absurd (grind (arith, nat_tests, f, g, l))
      go false e false f true g = or (is_some (at rows p)) false ∙ no (is_some (at rows p)) (off (grind (arith, nat_tests, f)) (grind (arith, nat_tests, e, g)))
      go false e false f false g = or (is_some (at rows p)) false

  pub copied-pages : ((j : ℕ) → low ≤ j → at rows j ≡ None) → (p : ℕ) → is_some (at table p) ≡ is_some (at rows p)
  copied-pages none p = pages p ∙ go (nat_lt p low) refl
    where
      all : (a : Bool) → (a && true) ≡ a
      all true = refl
      all false = refl

      nothing : (a : Bool) → a ≡ false → (a && false) ≡ a
      nothing a e = rw e refl

      go : (b : Bool) → nat_lt p low ≡ b → (is_some (at rows p) && b) ≡ is_some (at rows p)
      go true e = all (is_some (at rows p))
      go false e = nothing (is_some (at rows p)) (ap is_some (none p (grind (arith, nat_tests, e))))
