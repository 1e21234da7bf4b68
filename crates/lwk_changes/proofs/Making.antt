-- What a change of a space needs, from what its go-ahead says.
use Rattle.hybrid_laws.proofs.memory.Dropping.{shown_drops, shown_space}
use Rattle.hybrid_laws.proofs.memory.Effects.{drops-none, length-dropped}
use Rattle.hybrid_laws.proofs.trap.DecideSays.{count-none}
use Rattle.hybrid_model.specs.Sides.{Row}
use Rattle.hybrid_model.specs.Spaces.{Space, drop_page, shown_memory, shown_row}
use Rattle.kernel_model.specs.MemoryCalls.{all_present, count_present, exceeds}
use Rattle.kernel_model.specs.Pages.{pages_count, range}
use Rattle.kernel_model.specs.Spaces.{OneSpace, each_in, each_page}
use Rattle.lwk_changes.proofs.Counting.{all-there}
use Rattle.lwk_changes.proofs.Shown.{absent-shown, memory-shown, there-shown}
use Rattle.lwk_space.specs.Lacks.{memory}
use Rattle.lwk_space.specs.Rows.{AbsentIn, PresentIn}
use Rattle.mck_word.specs.EachLaws.{at-each}
use Rattle.mck_word.specs.Maps.{Map, at}
use Rattle.mck_word.specs.Pages.{in_range}
use Rattle.mck_word.specs.declared.PageRange.{PageRange}
use Rattle.std.proofs.Common.{ap, arith, refl, sym, ◌∙◌}
use Rattle.std.proofs.lemmas.Bool.Decides.{nat_tests}
use Rattle.std.specs.Prelude.{List, None, Option, Some, false, length, nat_lt, option_map, true, ℕ, ◌+◌, ◌-◌, ◌<◌, ◌≡◌, ◌≤◌}

inside-is : (r : PageRange) (j : ℕ) → r.lo ≤ j → j < r.hi → in_range r j ≡ true
inside-is r j a b = grind (arith, nat_tests, a, b)

-- a range of which no page is counted has no row
pub no-rows-in : (rows : Map Row) (pages : List (List ℕ)) (r : PageRange) → count_present (memory rows pages) r ≡ 0 → AbsentIn rows r
no-rows-in rows pages r e j a b = absent-shown rows (memory rows pages) (memory-shown rows pages (memory rows pages) refl) j (count-none (memory rows pages) r e j (inside-is r j a b))

-- and one whose pages are all present has a row for each
pub all-rows-in : (rows : Map Row) (pages : List (List ℕ)) (r : PageRange) → r.lo ≤ r.hi → all_present (memory rows pages) r ≡ true → PresentIn rows r
all-rows-in rows pages r l e j a b =
    let n : count_present (memory rows pages) r ≡ r.hi - r.lo = grind (arith, nat_tests, e) in
    let top : r.lo + (r.hi - r.lo) ≡ r.hi = omega (arith, l) in
    let m = ap (λ (hi : ℕ). count_present (memory rows pages) (range r.lo hi)) top in
    there-shown rows (memory rows pages) (memory-shown rows pages (memory rows pages) refl) j (all-there (memory rows pages) (r.hi - r.lo) r.lo (m ∙ n) j a (omega (arith, b, l)))

absent-in : (rows : Map Row) (frames : Map (List ℕ)) (j : ℕ) → at (shown_memory rows frames) j ≡ None → at rows j ≡ None
absent-in rows frames j e = go (at rows j) refl
  where
    go : (o : Option Row) → at rows j ≡ o → at rows j ≡ None
    go None f = f
    go (Some w) f = absurd (let t = sym e ∙ (at-each (shown_row frames) rows j ∙ ap (option_map (shown_row frames)) f) in cc)

-- no page of a dropped range is left
pub dropped-absent : (r : PageRange) (sp : Space) → r.lo ≤ r.hi → AbsentIn (each_in drop_page r sp).table r
dropped-absent r sp l j a b =
    let after = each_in drop_page r sp in
    let e = ap (λ (s : OneSpace). at s.memory j) (shown_drops (pages_count r) r.lo sp) in
    let n = drops-none r (pages_count r) r.lo j (shown_space sp) a (omega (arith, l, b)) in
    absent-in after.table after.frames j (sym e ∙ n)

-- the frames that the dropped pages give back suffice
pub enough-after : (r : PageRange) (sp : Space) → exceeds (shown_space sp).memory (length sp.free) r ≡ false → pages_count r ≤ length (each_in drop_page r sp).free
enough-after r sp e = let d = length-dropped r sp in enough (length sp.free + count_present (shown_space sp).memory r) (pages_count r) (length (each_in drop_page r sp).free) e d
  where
    enough : (n k f : ℕ) → nat_lt n k ≡ false → f ≡ n → k ≤ f
    enough n k f e d = grind (arith, nat_tests, e, d)

-- nothing is done to a range that doesn't rise
pub none-done : {S : Type 0} (f : ℕ → S → S) (lo hi : ℕ) (sp : S) → hi ≤ lo → each_in f (range lo hi) sp ≡ sp
none-done f lo hi sp l = let e : hi - lo ≡ 0 = omega (arith, l) in ap (λ (n : ℕ). each_page f n lo sp) e
