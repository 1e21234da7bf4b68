-- From one process to all sides: what an event leaves on its own side, and what the other sides count. Where the files change, each side may count more by what any change makes.
use Rattle.hybrid_model.specs.declared.events.Event.TheVariants as Events
use Rattle.file_model.specs.Files.{Files}
use Rattle.hybrid_laws.proofs.calls.Last.{born-is, workers-stay}
use Rattle.hybrid_laws.proofs.maps.Sums.{total-cut, total-put}
use Rattle.hybrid_laws.proofs.states.Pair.{has-side}
use Rattle.hybrid_model.specs.Events.{after, after_here, process_of_event}
use Rattle.hybrid_model.specs.Globals.{Coherent}
use Rattle.hybrid_model.specs.Pairs.{Here, Pair, here, with_born}
use Rattle.hybrid_model.specs.Sides.{Side}
use Rattle.hybrid_model.specs.declared.events.Event.{Event}
use Rattle.kernel_model.specs.Nodes.{is_there}
use Rattle.mck_word.specs.MapLaws.{at-cut}
use Rattle.mck_word.specs.Maps.{Map, at, count, cut, put, total}
use Rattle.std.proofs.Common.{ap, arith, refl, sym, ◌∙◌}
use Rattle.std.specs.Prelude.{Bool, None, Option, Some, cond, false, true, ℕ, ◌*◌, ◌+◌, ◌==◌, ◌≡◌, ◌≤◌}
use Rattle.work_laws.proofs.sides.AnyRank.{requests-any}
use Rattle.work_laws.proofs.sides.Rows.{count-cut, rows-le, total-more}
use Rattle.work_laws.specs.Weights.{any_change, of_side, sides_left}

-- all sides count less by the gain, where they may count more by the cost
abbrev pub SidesPay : Pair → Event → ℕ → ℕ → Type 0
SidesPay pair e gain cost = sides_left (after pair e) + gain ≤ sides_left pair + cost

-- the event's own side, where the files are as before
pub record HerePays (p : ℕ) (e : Event) (h : Here) (gain cost : ℕ) : Type 0 where
  pub files : (after_here e p h).node.files ≡ h.node.files
  pub own : of_side h.workers h.node.files (after_here e p h).side + gain ≤ of_side h.workers h.node.files h.side + cost

-- the event's own side, where the files change
pub record HereSteps (p : ℕ) (e : Event) (h : Here) (gain : ℕ) : Type 0 where
  pub own : of_side h.workers (after_here e p h).node.files (after_here e p h).side + gain ≤ of_side h.workers h.node.files h.side + any_change

-- each process has few requests
abbrev pub FewRequests : Map Side → Type 0
FewRequests sides = (k : ℕ) (s : Side) → at sides k ≡ Some s → count s.book.rows ≤ 16

-- other files
pub side-any : (workers : ℕ) (files files' : Files) (s : Side) → count s.book.rows ≤ 16 → of_side workers files' s ≤ of_side workers files s + any_change
side-any workers files files' s few = let a = requests-any files files' s.linux s.linux s.book.rows s.book.rows (omega arith) few in omega (arith, a)

pub sides-any : (workers : ℕ) (files files' : Files) (m : Map Side) → FewRequests m → total (of_side workers files') m ≤ total (of_side workers files) m + any_change * count m
sides-any workers files files' m few =
    let a = rows-le (λ (e : ℕ × Side). of_side workers files' e.1) (λ (e : ℕ × Side). of_side workers files e.1 + any_change) m (λ k s e. side-any workers files files' s (few k s e)) in
    let b = total-more (of_side workers files) any_change m in
    omega (arith, a, b)

-- other files, and one side that changes
pub sides-stepped : (workers : ℕ) (files files' : Files) (m : Map Side) (p : ℕ) (old new : Side) (gain : ℕ) → FewRequests m → at m p ≡ Some old → of_side workers files' new + gain ≤ of_side workers files old + any_change
    → total (of_side workers files') (put m p new) + gain ≤ total (of_side workers files) m + any_change * count m
sides-stepped workers files files' m p old new gain few is own =
    let a = total-put (of_side workers files') m p new in
    let b = total-cut (of_side workers files') m p in
    let c = total-cut (of_side workers files) m p in
    let x = rw is at a in
    let y = rw is at b in
    let z = rw is at c in
    let n = count-cut m p old is in
    let d = sides-any workers files files' (cut m p) (λ k s e. few k s (left k s (k == p) (sym (at-cut m p k) ∙ e))) in
    omega (arith, x, y, z, n, d, own)
  where
    left : (k : ℕ) (s : Side) (b : Bool) → cond b None (at m k) ≡ Some s → at m k ≡ Some s
    left k s true e = absurd (grind (arith, e))
    left k s false e = e

abbrev pub is_trap : Event → Bool
is_trap (Events.Trap t) = true
is_trap _ = false

-- no event but a trap makes a process
pub no-birth : (e : Event) (p : ℕ) (h : Here) → is_trap e ≡ false → h.born ≡ None → (after_here e p h).born ≡ None
no-birth e p h n none = go (after_here e p h).born refl
  where
    go : (o : Option (ℕ × Side)) → (after_here e p h).born ≡ o → o ≡ None
    go None f = refl
    go (Some b) f = absurd (let a = born-is e p h none b f in let t = ap is_trap a.traps in grind (arith, n, t))

module _ (pair : Pair) (c : Coherent pair) (e : Event) (there : is_there pair.node (process_of_event pair.node e) ≡ true) (no_trap : is_trap e ≡ false) where
  abbrev p : ℕ
  p = process_of_event pair.node e

  abbrev h : Here
  h = here pair p

  abbrev now : Here
  now = after_here e p h

  pub sides-are : sides_left (after pair e) ≡ total (of_side pair.workers now.node.files) (put pair.sides p now.side)
  sides-are = let b = no-birth e p h no_trap refl in let w = workers-stay e p h in λ i. total (of_side (w i) now.node.files) (with_born (put pair.sides p now.side) (b i))

  pub pays-quiet : (gain cost : ℕ) → HerePays p e h gain cost → SidesPay pair e gain cost
  pays-quiet gain cost l =
      let a = total-put (of_side pair.workers pair.node.files) pair.sides p now.side in
      let b = rw (has-side pair c.known p there) at a in
      let d = l.own in
      let f = sides-are ∙ ap (λ (x : Files). total (of_side pair.workers x) (put pair.sides p now.side)) l.files in
      omega (arith, b, d, f)

  pub pays-steps : (gain : ℕ) → FewRequests pair.sides → HereSteps p e h gain → SidesPay pair e gain (any_change * count pair.sides)
  pays-steps gain few l =
      let a = sides-stepped pair.workers pair.node.files now.node.files pair.sides p h.side now.side gain few (has-side pair c.known p there) l.own in
      let f = sides-are in
      omega (arith, a, f)
