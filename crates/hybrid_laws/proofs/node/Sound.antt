-- The node's own part of coherence, and what keeps it.
use Rattle.hybrid_laws.proofs.maps.Sums.{counted_in, total-le, total-same}
use Rattle.hybrid_laws.proofs.node.Goes.{Goes, IsAwake, SleepOnce, SleeperIs, SleepersAre, WasThere, lasting}
use Rattle.hybrid_laws.proofs.trap.Keeps.{each-got}
use Rattle.hybrid_laws.specs.OneProcess.{NodeHolds}
use Rattle.hybrid_laws.specs.Stopped.{stops}
use Rattle.hybrid_model.specs.Globals.{Coherent, HeapHolds, HeapsHold, Places, Sleeping}
use Rattle.hybrid_model.specs.Pairs.{Pair}
use Rattle.hybrid_model.specs.Tallies.{Each, as_number, if_same, tally}
use Rattle.kernel_model.specs.Nodes.{Node, Process, Sleeper, Thread, has_ended, has_process, instructions_in_all, is_asleep, is_ended, is_stopped, is_there, no_process}
use Rattle.kernel_model.specs.Pages.{page_size}
use Rattle.mck_word.specs.Maps.{Map, at, entries, total, values}
use Rattle.std.proofs.Common.{ap, arith, refl, subst, sym, ◌∙◌}
use Rattle.std.proofs.lemmas.Bool.Decides.{nat_tests}
use Rattle.std.proofs.lemmas.List.Sums.{sum_by-cons}
use Rattle.std.specs.Prelude.{Bool, List, None, Option, Some, [], cond, count_by, false, filter, is_some, length, map, not, slice_get, suc, sum_by, true, unwrap_or, zero, ℕ, ◌%◌, ◌&&◌, ◌+◌, ◌<◌, ◌==◌, ◌∷◌, ◌≡◌, ◌≤◌}

pub record Sound (node : Node) : Type 0 where
  pub threads_below : (t : ℕ) (x : Thread) → at node.threads t ≡ Some x → t < node.next_number
  pub threads_there : (t : ℕ) (x : Thread) → at node.threads t ≡ Some x → is_there node x.process ≡ true
  pub processes_below : (p : ℕ) (x : Process) → at node.processes p ≡ Some x → p < node.next_number
  pub sleeping : Sleeping node
  pub places : Places node
  pub heaps : HeapsHold node

pub sound-of : (pair : Pair) → Coherent pair → Sound pair.node
sound-of pair c = record { threads_below = c.known.threads_below; threads_there = c.known.threads_there; processes_below = c.known.processes_below; sleeping = c.sleeping; places = c.places; heaps = c.heaps }

pub node-holds : (node : Node) → Sound node → NodeHolds node
node-holds node s = record { sleeping = s.sleeping; places = s.places; below = s.threads_below; made_below = s.processes_below }

-- ---- threads stay in their processes at their places, and processes keep their heaps and whether they are Ended
abbrev pub standing : Option Process → Option (ℕ × ℕ × Bool)
standing None = None
standing (Some x) = Some (x.heap_base, x.program_break, has_ended x.life)

abbrev pub WasIn : Option Thread → Thread → Type 0
WasIn o y = (x : Thread) × (o ≡ Some x) × (y.process ≡ x.process) × (y.place ≡ x.place)

pub record Stays (a b : Node) : Type 0 where
  pub rows : (u : ℕ) (y : Thread) → at b.threads u ≡ Some y → WasIn (at a.threads u) y
  pub processes : (q : ℕ) → standing (at b.processes q) ≡ standing (at a.processes q)
  pub next : b.next_number ≡ a.next_number

pub stays-then : (a b c : Node) → Stays a b → Stays b c → Stays a c
stays-then a b c f g = record {
  rows = λ u z e. (let y = g.rows u z e in let x = f.rows u y.0 y.1 in (x.0, x.1, y.2 ∙ x.2, y.3 ∙ x.3));
  processes = λ q. g.processes q ∙ f.processes q;
  next = g.next ∙ f.next;
}

stand-in : Option (ℕ × ℕ × ℕ × Bool) → Option (ℕ × ℕ × Bool)
stand-in None = None
stand-in (Some x) = Some (x.0, x.1, x.3)

pub goes-stays : (a b : Node) → Goes a b → Stays a b
unfolding stand-in
goes-stays a b g = record {
  rows = λ u y e. (let w = g.rows u y e in (w.0, w.1, w.2, w.3));
  processes = λ q. stand (at b.processes q) ∙ ap stand-in (g.processes q) ∙ sym (stand (at a.processes q));
  next = g.next;
}
  where
    stand : (o : Option Process) → standing o ≡ stand-in (lasting o)
    stand None = refl
    stand (Some x) = refl

made-in : Option (ℕ × ℕ × Bool) → Bool
made-in None = false
made-in (Some x) = true

ended-in : Option (ℕ × ℕ × Bool) → Bool
ended-in None = true
ended-in (Some x) = x.2

count-in : Option (ℕ × ℕ × ℕ × Bool) → ℕ
count-in None = 0
count-in (Some x) = x.2

module _ (a b : Node) (g : Stays a b) where
  pub same-made : (q : ℕ) → has_process b q ≡ has_process a q
  unfolding made-in
  same-made q = made (at b.processes q) ∙ ap made-in (g.processes q) ∙ sym (made (at a.processes q))
    where
      made : (o : Option Process) → is_some o ≡ made-in (standing o)
      made None = refl
      made (Some x) = refl

  pub same-ended : (q : ℕ) → is_ended b q ≡ is_ended a q
  unfolding ended-in
  same-ended q = made (at b.processes q) ∙ ap ended-in (g.processes q) ∙ sym (made (at a.processes q))
    where
      made : (o : Option Process) → has_ended (unwrap_or o no_process).life ≡ ended-in (standing o)
      made None = refl
      made (Some x) = refl

  pub same-there : (q : ℕ) → is_there b q ≡ is_there a q
  same-there q = λ i. same-made q i && not (same-ended q i)

  heap-stays : HeapsHold a → HeapsHold b
  heap-stays h q y e = go (at a.processes q) refl (sym (g.processes q) ∙ ap standing e)
    where
      go : (o : Option Process) → at a.processes q ≡ o → standing o ≡ standing (Some y) → HeapHolds y
      go None f k = absurd (grind (arith, k))
      go (Some x) f k =
          let j : (x.heap_base, x.program_break, has_ended x.life) ≡ (y.heap_base, y.program_break, has_ended y.life) = cc in
          let k = h q x f in
          let base = ap (λ (z : ℕ × ℕ × Bool). z.0) j in
          let top = ap (λ (z : ℕ × ℕ × Bool). z.1) j in
          record { aligned = ap (λ (n : ℕ). n % page_size) (sym base) ∙ k.aligned; below = (let l = k.below in omega (arith, l, base, top)) }

module _ (a b : Node) (g : Goes a b) where
  pub same-instructions : instructions_in_all b ≡ instructions_in_all a
  unfolding count-in
  same-instructions = total-same (λ (x : Process). x.instructions) b.processes a.processes (λ q. count (at b.processes q) ∙ ap count-in (g.processes q) ∙ sym (count (at a.processes q)))
    where
      count : (o : Option Process) → counted_in (λ (x : Process). x.instructions) o ≡ count-in (lasting o)
      count None = refl
      count (Some x) = refl

-- ---- stopped threads, counted
pub stopped-total : (m : Map Thread) → length (filter (λ (x : Thread). is_stopped x.does) (values m)) ≡ total stops m
stopped-total m = go (entries m)
  where
    step : (b : Bool) (x : Thread) (xs : List Thread) (n : ℕ) → length xs ≡ n → length (cond b (x ∷ xs) xs) ≡ as_number b + n
    step true x xs n e = omega (arith, e)
    step false x xs n e = omega (arith, e)

    go : (es : List (ℕ × Thread)) → length (filter (λ (x : Thread). is_stopped x.does) (map (λ (e : ℕ × Thread). e.1) es)) ≡ sum_by (λ (e : ℕ × Thread). stops e.1) es
    go [] = refl
    go (e ∷ es) = step (is_stopped e.1.does) e.1 (filter (λ (x : Thread). is_stopped x.does) (map (λ (y : ℕ × Thread). y.1) es)) (sum_by (λ (y : ℕ × Thread). stops y.1) es) (go es) ∙ sym (sum_by-cons (λ (y : ℕ × Thread). stops y.1) e es)

-- no more threads are Stopped than before
row-stops : (o o' : Option Thread) → ((y : Thread) → o' ≡ Some y → WasThere o y) → counted_in stops o' ≤ counted_in stops o
row-stops o None f = omega arith
row-stops o (Some y) f =
    let w = f y refl in
    let there = w.1 in
    let n : counted_in stops o ≡ stops w.0 = ap (counted_in stops) there in
    let l = least (is_stopped y.does) (is_stopped w.0.does) w.4 in
    omega (arith, n, l)
  where
    least : (b c : Bool) → (b ≡ true → c ≡ true) → as_number b ≤ as_number c
    least false c g = omega arith
    least true true g = omega arith
    least true false g = absurd (let k = g refl in grind (arith, k))

pub stopped-less : (a b : Node) → Goes a b → total stops b.threads ≤ total stops a.threads
stopped-less a b g = total-le stops b.threads a.threads (λ u. row-stops (at a.threads u) (at b.threads u) (g.rows u))

-- ---- sleepers, as a list
got-each : (P : Sleeper → Type 0) (ss : List Sleeper) → Each P ss → (k : ℕ) (s : Sleeper) → slice_get ss k ≡ Some s → P s
got-each P [] h k s e = absurd (grind (arith, e))
got-each P (x ∷ ss) h zero s e = let g : x ≡ s = cc in subst P g h.0
got-each P (x ∷ ss) h (suc k) s e = got-each P ss h.1 k s e

counts-sleep : (u : ℕ) (ss : List Sleeper) → count_by (λ (s : Sleeper). s.thread == u) ss ≡ tally (λ (s : Sleeper). if_same s.thread u) ss
counts-sleep u [] = refl
counts-sleep u (s ∷ ss) = sum_by-cons (λ (x : Sleeper). cond (x.thread == u) 1 0) s ss ∙ ap (λ (n : ℕ). if_same s.thread u + n) (counts-sleep u ss)

pub sleepers-are : (node : Node) → Sleeping node → SleepersAre node
sleepers-are node s = each-got (SleeperIs node) node.sleepers s.asleep

pub sleep-once : (node : Node) → Sleeping node → SleepOnce node
sleep-once node s u = let a = counts-sleep u node.sleepers in let b = s.once u in omega (arith, a, b)

pub sleeping-of : (node : Node) → SleepersAre node → SleepOnce node → Sleeping node
sleeping-of node s o = record {
  asleep = got-each (SleeperIs node) node.sleepers s;
  once = λ u. (let a = counts-sleep u node.sleepers in let b = o u in omega (arith, a, b));
}

-- a thread that is not Asleep sleeps nowhere
pub is-awake : (node : Node) (t : ℕ) (x : Thread) → at node.threads t ≡ Some x → is_asleep x.does ≡ false → Sleeping node → IsAwake t node
is-awake node t x there n s = each-got (λ (y : Sleeper). (y.thread == t) ≡ false) node.sleepers (λ k y e. go y (s.asleep k y e) (y.thread == t) refl)
  where
    go : (y : Sleeper) → SleeperIs node y → (b : Bool) → (y.thread == t) ≡ b → b ≡ false
    go y h false e = refl
    go y h true e =
        let g : y.thread ≡ t = grind (arith, nat_tests, e) in
        let o = sym h.1 ∙ ap (at node.threads) g ∙ there in
        let z : h.0 ≡ x = cc in
        absurd (let k = sym (ap is_asleep h.2) ∙ ap (λ (w : Thread). is_asleep w.does) z ∙ n in grind (arith, k))

-- ---- together
pub stays-sound : (a b : Node) → Stays a b → Sound a → Sleeping b → Sound b
stays-sound a b g s sleep = record {
  threads_below = λ t y e. (let w = g.rows t y e in let l = s.threads_below t w.0 w.1 in let n = g.next in omega (arith, l, n));
  threads_there = λ t y e. (let w = g.rows t y e in ap (is_there b) w.2 ∙ same-there a b g w.0.process ∙ s.threads_there t w.0 w.1);
  processes_below = λ q y e. below q y e (at a.processes q) refl;
  sleeping = sleep;
  places = record {
    below = λ t y e. (let w = g.rows t y e in let l = s.places.below t w.0 w.1 in let p = w.3 in omega (arith, l, p));
    apart = λ t u x y e f p q. (let w = g.rows t x e in let v = g.rows u y f in s.places.apart t u w.0 v.0 w.1 v.1 (sym w.2 ∙ p ∙ v.2) (sym w.3 ∙ q ∙ v.3));
  };
  heaps = heap-stays a b g s.heaps;
}
  where
    below : (q : ℕ) (y : Process) → at b.processes q ≡ Some y → (o : Option Process) → at a.processes q ≡ o → q < b.next_number
    below q y e (Some x) f = let l = s.processes_below q x f in let n = g.next in omega (arith, l, n)
    below q y e None f = absurd (let k = sym (ap standing e) ∙ g.processes q ∙ ap standing f in grind (arith, k))

pub goes-sound : (a b : Node) → Goes a b → Sound a → Sleeping b → Sound b
goes-sound a b g s sleep = stays-sound a b (goes-stays a b g) s sleep
