-- A whole effect neither makes nor loses a frame: rows and free frames stay below the count, and together as many.
use Rattle.std.specs.FinMap as finmap
use Rattle.hybrid_laws.proofs.intake.Ack.{falls, is-none}
use Rattle.hybrid_laws.proofs.maps.Sums.{counted_in, total-cut, total-put}
use Rattle.hybrid_laws.proofs.memory.Adding.{add_other, over_pages}
use Rattle.hybrid_laws.proofs.memory.Dropping.{copies-insert, drop_other, drop_own, length-insert, shown_drops, shown_space}
use Rattle.hybrid_laws.proofs.memory.Effects.{drops-none, length-add}
use Rattle.hybrid_laws.proofs.node.Primitives.{at-change}
use Rattle.hybrid_laws.proofs.trap.DecideSays.{NowSays, empty-in}
use Rattle.hybrid_model.specs.Globals.{copies}
use Rattle.hybrid_model.specs.Sides.{Row}
use Rattle.hybrid_model.specs.Spaces.{Space, add_page, after_effect, drop_page, first_number, give_back, page_at_lowest, protect_page, rest_numbers, shown_memory, shown_row}
use Rattle.hybrid_model.specs.Tallies.{if_same}
use Rattle.kernel_model.specs.MemoryCalls.{Effect, effect_of, refusal_at_end}
use Rattle.kernel_model.specs.Nodes.{Process}
use Rattle.kernel_model.specs.Pages.{page_end, pages_count, range, zero_page}
use Rattle.kernel_model.specs.Spaces.{OneSpace, each_in, each_page}
use Rattle.kernel_model.specs.declared.Change.TheVariants.{Brk, Map as ChangeMap, Protect, Unmap}
use Rattle.kernel_model.specs.declared.Change.{Change}
use Rattle.mck_flags.specs.declared.rights.Rights.{Rights}
use Rattle.mck_word.specs.MapLaws.{at-collect, at-cut, at-put}
use Rattle.mck_word.specs.Maps.{Map, and_then, at, change_row, count, cut, entries, put, total}
use Rattle.mck_word.specs.Pages.{in_range}
use Rattle.mck_word.specs.declared.PageRange.{PageRange}
use Rattle.std.proofs.Common.{ap, arith, refl, subst, sym, ◌∙◌}
use Rattle.std.proofs.lemmas.Bool.Decides.{nat_tests}
use Rattle.std.proofs.lemmas.List.Sums.{sum_by-cons}
use Rattle.std.specs.Prelude.{Bool, List, None, Option, Some, [], cond, false, length, nat_lt, option_map, pos, suc, sum_by, true, zero, ℕ, ◌+◌, ◌-◌, ◌<◌, ◌==◌, ◌∷◌, ◌≡◌, ◌≢◌, ◌≤◌}

-- ---- below a number
pub record Below (n : ℕ) (sp : Space) : Type 0 where
  pub rows : (i : ℕ) (r : Row) → at sp.table i ≡ Some r → r.0.0 < n
  pub free : (f : ℕ) → 1 ≤ copies f sp.free → f < n

below-drop : (n i : ℕ) (sp : Space) → Below n sp → Below n (drop_page i sp)
unfolding drop_page
below-drop n i sp b = record {
  rows = λ j r e. row j r (j == i) (sym (at-cut sp.table i j) ∙ e);
  free = go (at sp.table i) refl;
}
  where
    row : (j : ℕ) (r : Row) (x : Bool) → cond x None (at sp.table j) ≡ Some r → r.0.0 < n
    row j r true k = absurd (grind (arith, k))
    row j r false k = b.rows j r k

    go : (o : Option Row) → at sp.table i ≡ o → (f : ℕ) → 1 ≤ copies f (give_back o sp.free) → f < n
    go None e f l = b.free f l
    go (Some r) e f l = by-same (r.0.0 == f) refl
      where
        by-same : (x : Bool) → (r.0.0 == f) ≡ x → f < n
        by-same true g = let s : r.0.0 ≡ f = grind (arith, nat_tests, g) in let m = b.rows i r e in omega (arith, s, m)
        by-same false g = b.free f (let c = copies-insert f r.0.0 sp.free in grind (arith, nat_tests, c, l, g))

pub below-lowest : (n : ℕ) (rights : Rights) (bytes : List ℕ) (i : ℕ) (sp : Space) → 1 ≤ length sp.free → Below n sp → Below n (page_at_lowest rights bytes i sp)
below-lowest n rights bytes i sp l b = record {
  rows = λ j r e. row j r (j == i) (sym (at-put sp.table i (record { 0 = first_number sp.free }, rights) j) ∙ e);
  free = λ f m. b.free f (more sp.free f m);
}
  where
    first : (o : List ℕ) → 1 ≤ length o → 1 ≤ copies (first_number o) o
    first [] k = absurd (omega (arith, k))
    first (f ∷ free) k = let s : if_same f f ≡ 1 = grind (arith, nat_tests) in omega (arith, s)

    row : (j : ℕ) (r : Row) (x : Bool) → cond x (Some (record { 0 = first_number sp.free }, rights)) (at sp.table j) ≡ Some r → r.0.0 < n
    row j r true k =
        let s : (record { 0 = first_number sp.free }, rights) ≡ r = cc in
        subst (λ (z : Row). z.0.0 < n) s (b.free (first_number sp.free) (first sp.free l))
    row j r false k = b.rows j r k

    more : (o : List ℕ) (f : ℕ) → 1 ≤ copies f (rest_numbers o) → 1 ≤ copies f o
    more [] f k = k
    more (g ∷ free) f k = omega (arith, k)

below-add : (n : ℕ) (rights : Rights) (i : ℕ) (sp : Space) → 1 ≤ length sp.free → Below n sp → Below n (add_page rights i sp)
unfolding add_page
below-add n rights i sp l b = below-lowest n rights zero_page i sp l b

below-protect : (n : ℕ) (rights : Rights) (i : ℕ) (sp : Space) → Below n sp → Below n (protect_page rights i sp)
unfolding protect_page
below-protect n rights i sp b = record { rows = λ j r e. row j r (j == i) refl (sym (at-change sp.table i (λ (x : Row). (x.0, rights)) j) ∙ e); free = b.free }
  where
    mapped : (o : Option Row) (r : Row) → option_map (λ (x : Row). (x.0, rights)) o ≡ Some r → (x : Row) × (o ≡ Some x) × (r.0.0 ≡ x.0.0)
    mapped None r k = absurd (grind (arith, k))
    mapped (Some x) r k = let s : (x.0, rights) ≡ r = cc in (x, refl, ap (λ (z : Row). z.0.0) (sym s))

    row : (j : ℕ) (r : Row) (x : Bool) → (j == i) ≡ x → cond x (option_map (λ (x : Row). (x.0, rights)) (at sp.table i)) (at sp.table j) ≡ Some r → r.0.0 < n
    row j r true g k = let x = mapped (at sp.table i) r k in let l = b.rows i x.0 x.1 in let s = x.2 in omega (arith, l, s)
    row j r false g k = b.rows j r k

-- ---- frames counted
abbrev one_of : Row → ℕ
one_of r = 1

count-total : (m : Map Row) → count m ≡ total one_of m
count-total m = finmap.len-entries m ∙ go (entries m)
  where
    go : (es : List (ℕ × Row)) → length es ≡ sum_by (λ (e : ℕ × Row). 1) es
    go [] = refl
    go (e ∷ es) = let a = go es in let b = sum_by-cons (λ (x : ℕ × Row). 1) e es in omega (arith, a, b)

abbrev pub frames_in : Space → ℕ
frames_in sp = length sp.free + count sp.table

in-drop : (i : ℕ) (sp : Space) → frames_in (drop_page i sp) ≡ frames_in sp
unfolding drop_page
in-drop i sp =
    let a = count-total sp.table in
    let b = count-total (cut sp.table i) in
    let c = total-cut one_of sp.table i in
    let d = length-back (at sp.table i) in
    omega (arith, a, b, c, d)
  where
    length-back : (o : Option Row) → length (give_back o sp.free) ≡ length sp.free + counted_in one_of o
    length-back None = omega arith
    length-back (Some r) = length-insert r.0.0 sp.free

in-lowest : (rights : Rights) (bytes : List ℕ) (i : ℕ) (sp : Space) → 1 ≤ length sp.free → at sp.table i ≡ None → frames_in (page_at_lowest rights bytes i sp) ≡ frames_in sp
in-lowest rights bytes i sp l none =
    let r : Row = (record { 0 = first_number sp.free }, rights) in
    let a = count-total sp.table in
    let b = count-total (put sp.table i r) in
    let c = total-put-rows sp.table i r in
    let d = ap (counted_in one_of) none in
    let e = rest-length sp.free l in
    omega (arith, a, b, c, d, e)
  where
    total-put-rows : (m : Map Row) (k : ℕ) (v : Row) → total one_of (put m k v) + counted_in one_of (at m k) ≡ total one_of m + 1
    total-put-rows m k v = total-put one_of m k v

    rest-length : (o : List ℕ) → 1 ≤ length o → length (rest_numbers o) + 1 ≡ length o
    rest-length [] k = absurd (omega (arith, k))
    rest-length (f ∷ free) k = omega arith

in-protect : (rights : Rights) (i : ℕ) (sp : Space) → frames_in (protect_page rights i sp) ≡ frames_in sp
unfolding protect_page
in-protect rights i sp = go (at sp.table i) refl
  where
    go : (o : Option Row) → at sp.table i ≡ o → length sp.free + count (change_row sp.table i (λ (r : Row). (r.0, rights)) o) ≡ length sp.free + count sp.table
    go None e = refl
    go (Some r) e =
        let a = count-total sp.table in
        let b = count-total (put sp.table i (r.0, rights)) in
        let c = total-put one_of sp.table i (r.0, rights) in
        let d = ap (counted_in one_of) e in
        omega (arith, a, b, c, d)

-- ---- over pages and effects
module _ (n : ℕ) where
  below-drops : (k low : ℕ) (sp : Space) → Below n sp → Below n (each_page drop_page k low sp)
  below-drops k low sp b = over_pages (Below n) drop_page (below-drop n) k low sp b

  below-adds : (rights : Rights) (k low : ℕ) (sp : Space) → k ≤ length sp.free → Below n sp → Below n (each_page (add_page rights) k low sp)
  below-adds rights zero low sp l b = b
  below-adds rights (suc k) low sp l b = below-adds rights k (suc low) (add_page rights low sp) (length-add rights low sp k l) (below-add n rights low sp (omega (arith, l)) b)

  pub below-effect : (e : Effect) (sp : Space) → e.added.hi - e.added.lo ≤ length (each_in drop_page e.dropped sp).free → Below n sp → Below n (after_effect e sp)
  below-effect e sp l b = over_pages (Below n) (protect_page e.rights) (below-protect n e.rights) (pages_count e.protected) e.protected.lo (each_in (add_page e.rights) e.added (each_in drop_page e.dropped sp))
      (below-adds e.rights (pages_count e.added) e.added.lo (each_in drop_page e.dropped sp) l (below-drops (pages_count e.dropped) e.dropped.lo sp b))

-- the pages that are added are not there then
abbrev pub Absent : Effect → Space → Type 0
Absent e sp = (j : ℕ) → in_range e.added j ≡ true → at (each_in drop_page e.dropped sp).table j ≡ None

in-drops : (k low : ℕ) (sp : Space) → frames_in (each_page drop_page k low sp) ≡ frames_in sp
in-drops zero low sp = refl
in-drops (suc k) low sp = in-drops k (suc low) (drop_page low sp) ∙ in-drop low sp

in-protects : (rights : Rights) (k low : ℕ) (sp : Space) → frames_in (each_page (protect_page rights) k low sp) ≡ frames_in sp
in-protects rights zero low sp = refl
in-protects rights (suc k) low sp = in-protects rights k (suc low) (protect_page rights low sp) ∙ in-protect rights low sp

in-add : (rights : Rights) (i : ℕ) (sp : Space) → 1 ≤ length sp.free → at sp.table i ≡ None → frames_in (add_page rights i sp) ≡ frames_in sp
unfolding add_page
in-add rights i sp l none = in-lowest rights zero_page i sp l none

in-adds : (rights : Rights) (k low : ℕ) (sp : Space) → k ≤ length sp.free → ((j : ℕ) → low ≤ j → j < low + k → at sp.table j ≡ None) → frames_in (each_page (add_page rights) k low sp) ≡ frames_in sp
in-adds rights zero low sp l none = refl
in-adds rights (suc k) low sp l none =
    in-adds rights k (suc low) (add_page rights low sp) (length-add rights low sp k l)
    (λ j a b. add_other rights low j sp (let d : j ≢ low = (λ e. omega (arith, a, e)) in grind (arith, nat_tests, d)) ∙ none j (omega (arith, a)) (omega (arith, b)))
    ∙ in-add rights low sp (omega (arith, l)) (none low (omega arith) (omega arith))

pub in-effect : (e : Effect) (sp : Space) → e.added.hi - e.added.lo ≤ length (each_in drop_page e.dropped sp).free → Absent e sp → frames_in (after_effect e sp) ≡ frames_in sp
in-effect e sp l none =
    in-protects e.rights (pages_count e.protected) e.protected.lo (each_in (add_page e.rights) e.added (each_in drop_page e.dropped sp))
    ∙ in-adds e.rights (pages_count e.added) e.added.lo (each_in drop_page e.dropped sp) l (λ j a b. none j (within e.added.lo e.added.hi j a b))
    ∙ in-drops (pages_count e.dropped) e.dropped.lo sp
  where
    within : (lo hi j : ℕ) → lo ≤ j → j < lo + (hi - lo) → in_range (range lo hi) j ≡ true
    within lo hi j a b = grind (arith, nat_tests, a, b)

-- ---- where pages are absent
shown-none : (table : Map Row) (frames : Map (List ℕ)) (j : ℕ) → at (shown_memory table frames) j ≡ None → at table j ≡ None
shown-none table frames j e = go (at table j) refl
  where
    go : (o : Option Row) → at table j ≡ o → at table j ≡ None
    go None f = f
    go (Some r) f = absurd (let k = sym (at-collect (λ k v. Some (shown_row frames v)) table j ∙ ap (λ o. and_then o (λ v. Some (shown_row frames v))) f) ∙ e in grind (arith, k))

-- dropped pages are not there, and an absent page stays absent
drops-gone : (r : PageRange) (j : ℕ) (sp : Space) → in_range r j ≡ true → at (each_in drop_page r sp).table j ≡ None
drops-gone r j sp i =
    shown-none (each_in drop_page r sp).table (each_in drop_page r sp).frames j
    (sym (ap (λ (s : OneSpace). at s.memory j) (shown_drops (pages_count r) r.lo sp)) ∙ drops-none r (pages_count r) r.lo j (shown_space sp) (low r.lo r.hi i) (high r.lo r.hi i))
  where
    low : (lo hi : ℕ) → in_range (range lo hi) j ≡ true → lo ≤ j
    low lo hi i = grind (arith, nat_tests, i)

    high : (lo hi : ℕ) → in_range (range lo hi) j ≡ true → j < lo + (hi - lo)
    high lo hi i = grind (arith, nat_tests, i)

drops-absent : (k low j : ℕ) (sp : Space) → at sp.table j ≡ None → at (each_page drop_page k low sp).table j ≡ None
drops-absent zero low j sp e = e
drops-absent (suc k) low j sp e = drops-absent k (suc low) j (drop_page low sp) (one-absent low j sp e)
  where
    one-absent : (i j : ℕ) (sp : Space) → at sp.table j ≡ None → at (drop_page i sp).table j ≡ None
    one-absent i j sp e = go (j == i) refl
      where
        go : (b : Bool) → (j == i) ≡ b → at (drop_page i sp).table j ≡ None
        go false f = drop_other i j sp f ∙ e
        go true f = let g : j ≡ i = grind (arith, nat_tests, f) in ap (λ (n : ℕ). at (drop_page i sp).table n) g ∙ drop_own i sp

pub absent-at-end : (x : Process) (sp : Space) (c : Change) → refusal_at_end x (shown_memory sp.table sp.frames) (length sp.free) c ≡ None → Absent (effect_of x c) sp
absent-at-end x sp (ChangeMap r rights) none j i = drops-gone r j sp i
absent-at-end x sp (Unmap r) none j i = absurd (empty-in 0 0 j (omega arith) i)
absent-at-end x sp (Protect r rights) none j i = absurd (empty-in 0 0 j (omega arith) i)
absent-at-end x sp (Brk a) none j i =
    let l : a < x.program_break = (let t = is-none (nat_lt a x.program_break) (pos x.program_break) none in grind (arith, nat_tests, t)) in
    absurd (empty-in (page_end x.program_break) (page_end a) j (falls a x.program_break l) i)

pub absent-now : (x : Process) (sp : Space) (c : Change) → NowSays x (shown_memory sp.table sp.frames) (length sp.free) c → Absent (effect_of x c) sp
absent-now x sp c says j i = drops-absent (pages_count (effect_of x c).dropped) (effect_of x c).dropped.lo j sp (shown-none sp.table sp.frames j (says.added j i))
