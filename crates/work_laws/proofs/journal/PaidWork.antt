-- Over a journal: what is left to do at its end and its work are at most what was left before and what it paid.
use Rattle.std.specs.FinMap as finmap
use Rattle.hybrid_laws.proofs.calls.Last.{workers-stay}
use Rattle.hybrid_laws.proofs.every.Event.{whole_event}
use Rattle.hybrid_laws.proofs.maps.Tests.{both}
use Rattle.hybrid_laws.proofs.states.Pair.{has-side}
use Rattle.hybrid_model.specs.Events.{after, after_here, may, may_here, process_of_event}
use Rattle.hybrid_model.specs.Globals.{Coherent}
use Rattle.hybrid_model.specs.Journals.{may_all, state}
use Rattle.hybrid_model.specs.Pairs.{Here, Pair, here, with_born}
use Rattle.hybrid_model.specs.Sides.{Side}
use Rattle.hybrid_model.specs.declared.events.Event.{Event}
use Rattle.kernel_model.specs.Nodes.{is_there}
use Rattle.mck_word.specs.Maps.{Map, at, count, put}
use Rattle.offer_laws.proofs.Rows.{count-same}
use Rattle.run_model.specs.Work.{counts_as_work, generated, if_so, paid, pays as is_paid, work}
use Rattle.std.proofs.Common.{ap, arith, ◌∙◌, refl}
use Rattle.std.proofs.Math.Nat.{mul-add}
use Rattle.std.proofs.lemmas.List.Sums.{sum_by-cons}
use Rattle.std.specs.Cmp.{nat_cmp_total}
use Rattle.std.specs.Prelude.{Bool, List, None, Option, Some, [], cond, false, is_some, true, ℕ, ◌*◌, ◌+◌, ◌∷◌, ◌≡◌, ◌≤◌}
use Rattle.work_laws.proofs.journal.EachLessens.{event-lessens}
use Rattle.work_laws.proofs.pages.Whole.{whole-after}
use Rattle.work_laws.proofs.sides.Rows.{count-stays}
use Rattle.work_laws.specs.Left.{left_to_do, price_of_trap}
use Rattle.work_laws.specs.WholePages.{WholePages}

-- ---- processes
count-grows : {V : Type 0} (m : Map V) (k : ℕ) (v : V) → count m ≤ count (put m k v)
count-grows m k v = go (is_some (at m k)) (finmap.len-insert nat_cmp_total m k v)
  where
    go : (b : Bool) → count (put m k v) ≡ cond b (count m) (count m + 1) → count m ≤ count (put m k v)
    go true e = omega (arith, e)
    go false e = omega (arith, e)

born-grows : (m : Map Side) (b : Option (ℕ × Side)) → count m ≤ count (with_born m b)
born-grows m None = omega arith
born-grows m (Some b) = count-grows m b.0 b.1

pub processes-grow : (pair : Pair) (e : Event) → Coherent pair → may pair e ≡ true → count pair.node.processes ≤ count (after pair e).node.processes
processes-grow pair e c m =
    let p = process_of_event pair.node e in
    let now : Here = after_here e p (here pair p) in
    let there = both (is_there pair.node p) (may_here e (here pair p)) m in
    let a = count-stays pair.sides p now.side (ap is_some (has-side pair c.known p there.0)) in
    let b = born-grows (put pair.sides p now.side) now.born in
    let d = count-same pair.sides pair.node.processes c.known.sides_are in
    let f = count-same (after pair e).sides (after pair e).node.processes (whole_event pair c e m).0.known.sides_are in
    omega (arith, a, b, d, f)

pub processes-grow-all : (es : List Event) (pair : Pair) → Coherent pair → may_all pair es ≡ true → count pair.node.processes ≤ count (state pair es).node.processes
processes-grow-all [] pair c m = omega arith
processes-grow-all (e ∷ es) pair c m =
    let a = both (may pair e) (may_all (after pair e) es) m in
    let b = processes-grow pair e c a.0 in
    let d = processes-grow-all es (after pair e) (whole_event pair c e a.0).0 a.1 in
    omega (arith, b, d)

pub workers-after : (pair : Pair) (e : Event) → (after pair e).workers ≡ pair.workers
workers-after pair e = let p = process_of_event pair.node e in workers-stay e p (here pair p)

pub workers-stay-all : (es : List Event) (pair : Pair) → (state pair es).workers ≡ pair.workers
workers-stay-all [] pair = refl
workers-stay-all (e ∷ es) pair = workers-stay-all es (after pair e) ∙ workers-after pair e

-- ---- work
work-cons : (e : Event) (es : List Event) → work (e ∷ es) ≡ if_so (counts_as_work e) + work es
work-cons e es = sum_by-cons (λ (x : Event). cond (counts_as_work x) 1 0) e es ∙ go (counts_as_work e)
  where
    go : (b : Bool) → cond b 1 0 + work es ≡ if_so b + work es
    go true = refl
    go false = refl

joined : (price old mid new a b x g y : ℕ) → mid + a ≤ old + price * x → new + b ≤ mid + price * y → new + (a + b) ≤ old + price * (x + g + y)
joined price old mid new a b x g y f h = let d = mul-add price (x + g) y in let e = mul-add price x g in omega (arith, d, e, f, h)

nothing : (left price : ℕ) → left + 0 ≤ left + price * 0
nothing left price = omega arith

pub work-paid : (most : ℕ) (es : List Event) (pair : Pair) → Coherent pair → WholePages pair → pair.workers ≤ 4 → may_all pair es ≡ true → count (state pair es).node.processes ≤ most
    → left_to_do most (state pair es) + work es ≤ left_to_do most pair + price_of_trap most * paid pair es
work-paid most [] pair c whole workers m few = nothing (left_to_do most pair) (price_of_trap most)
work-paid most (e ∷ es) pair c whole workers m few =
    let a = both (may pair e) (may_all (after pair e) es) m in
    let later = (whole_event pair c e a.0).0 in
    let first = processes-grow pair e c a.0 in
    let grown = processes-grow-all es (after pair e) later a.1 in
    let w = workers-after pair e in
    let x = event-lessens most pair c whole workers (omega (arith, first, grown, few)) e a.0 in
    let y = work-paid most es (after pair e) later (whole-after pair e c a.0 whole) (omega (arith, w, workers)) a.1 few in
    let z = work-cons e es in
    let j = joined (price_of_trap most) (left_to_do most pair) (left_to_do most (after pair e)) (left_to_do most (state (after pair e) es)) (if_so (counts_as_work e)) (work es) (is_paid e) (generated pair e) (paid (after pair e) es) x y in
    by (left_to_do most (state (after pair e) es)) (left_to_do most pair + price_of_trap most * paid pair (e ∷ es)) (work (e ∷ es)) (if_so (counts_as_work e) + work es) z j
  where
    by : (new bound a b : ℕ) → a ≡ b → new + b ≤ bound → new + a ≤ bound
    by new bound a b f h = omega (arith, f, h)
