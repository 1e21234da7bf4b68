-- What the end of a process does to the node as a whole: its threads and sleepers are gone, its files are closed, its parent may be told.
use Rattle.file_model.specs.Files.{close_all}
use Rattle.hybrid_laws.proofs.maps.Reading.{Each-both, Each-map}
use Rattle.hybrid_laws.proofs.maps.Sums.{counted_in, total-le, total-same}
use Rattle.hybrid_laws.proofs.maps.Tests.{not-true}
use Rattle.hybrid_laws.proofs.node.Goes.{SleepOnce, SleeperIs, SleepersAre, each-passes, goes-process, goes-same, tally-filter}
use Rattle.hybrid_laws.proofs.node.LocalKeeps.{Each-filter}
use Rattle.hybrid_laws.proofs.node.Primitives.{at-change}
use Rattle.hybrid_laws.proofs.node.Sound.{Sound, sleep-once, sleepers-are, sleeping-of}
use Rattle.hybrid_laws.proofs.trap.Goes.{NodeSteps, steps-of}
use Rattle.hybrid_laws.specs.Stopped.{stops}
use Rattle.hybrid_model.specs.Tallies.{if_same}
use Rattle.kernel_model.specs.Nodes.{Node, Process, Sleeper, Thread, change_process, has_ended, has_process, instructions_in_all, is_ended, is_living, is_there, no_process, process_of}
use Rattle.kernel_model.specs.Pages.{page_size}
use Rattle.kernel_model.specs.SignalSets.{with_signal}
use Rattle.kernel_model.specs.Signals.{ignores}
use Rattle.kernel_model.specs.Traps.{life_ended, process_ended}
use Rattle.mck_word.specs.MapLaws.{at-collect}
use Rattle.mck_word.specs.Maps.{and_then, at, collect, total}
use Rattle.std.proofs.Common.{ap, arith, refl, sym, ◌∙◌}
use Rattle.std.proofs.lemmas.Bool.Decides.{nat_tests}
use Rattle.std.specs.Prelude.{Bool, None, Option, Some, cond, false, filter, is_some, not, option_map, true, unwrap_or, ℕ, ◌%◌, ◌&&◌, ◌==◌, ◌≡◌, ◌≤◌}

module _ (node : Node) (p : ℕ) (s : Sound node) where
  abbrev keeps-row : ℕ → Thread → Option Thread
  keeps-row t x = cond (x.process == p) None (Some x)

  abbrev stays : Sleeper → Bool
  stays x = not (x.process == p)

  abbrev ends : Process → Process
  ends x = record x { life = life_ended x.life }

  abbrev pub node-closed : Node
  node-closed = change_process p ends (record node { threads = collect keeps-row node.threads; sleepers = filter stays node.sleepers; files = close_all p node.files })

  -- a thread that is left was there, in another process
  row-left : (u : ℕ) (y : Thread) → at node-closed.threads u ≡ Some y → (at node.threads u ≡ Some y) × ((y.process == p) ≡ false)
  row-left u y e = go (at node.threads u) refl (sym (at-collect keeps-row node.threads u) ∙ e)
    where
      by : (x : Thread) → at node.threads u ≡ Some x → (b : Bool) → (x.process == p) ≡ b → cond b None (Some x) ≡ Some y → (at node.threads u ≡ Some y) × ((y.process == p) ≡ false)
      by x f true n k = absurd (grind (arith, k))
      by x f false n k = let g : x ≡ y = cc in (f ∙ ap Some g, ap (λ (z : Thread). z.process == p) (sym g) ∙ n)

      go : (o : Option Thread) → at node.threads u ≡ o → and_then o (keeps-row u) ≡ Some y → (at node.threads u ≡ Some y) × ((y.process == p) ≡ false)
      go None f k = absurd (grind (arith, k))
      go (Some x) f k = by x f (x.process == p) refl k

  row-kept : (u : ℕ) (x : Thread) → at node.threads u ≡ Some x → (x.process == p) ≡ false → at node-closed.threads u ≡ Some x
  row-kept u x e n = at-collect keeps-row node.threads u ∙ ap (λ (o : Option Thread). and_then o (keeps-row u)) e ∙ ap (λ (b : Bool). cond b None (Some x)) n

  process-other : (q : ℕ) → (q == p) ≡ false → at node-closed.processes q ≡ at node.processes q
  process-other q n = at-change node.processes p ends q ∙ ap (λ (b : Bool). cond b (option_map ends (at node.processes p)) (at node.processes q)) n

  pub closed-made : (x : ℕ) → has_process node-closed x ≡ has_process node x
  closed-made x = ap is_some (at-change node.processes p ends x) ∙ go (x == p) refl
    where
      mapped : (o : Option Process) → is_some (option_map ends o) ≡ is_some o
      mapped None = refl
      mapped (Some z) = refl

      go : (y : Bool) → (x == p) ≡ y → is_some (cond y (option_map ends (at node.processes p)) (at node.processes x)) ≡ has_process node x
      go true f = let g : x ≡ p = grind (arith, nat_tests, f) in mapped (at node.processes p) ∙ ap (has_process node) (sym g)
      go false f = refl

  pub closed-ended : (q : ℕ) → (q == p) ≡ false → is_ended node-closed q ≡ is_ended node q
  closed-ended q n = ap (λ (o : Option Process). has_ended (unwrap_or o no_process).life) (process-other q n)

  there-other : (q : ℕ) → (q == p) ≡ false → is_there node-closed q ≡ is_there node q
  there-other q n = λ i. closed-made q i && not (closed-ended q n i)

  pub closed-instructions : instructions_in_all node-closed ≡ instructions_in_all node
  closed-instructions = total-same (λ (z : Process). z.instructions) node-closed.processes node.processes (λ x. ap (counted_in (λ (z : Process). z.instructions)) (at-change node.processes p ends x) ∙ go x (x == p) refl)
    where
      mapped : (o : Option Process) → counted_in (λ (z : Process). z.instructions) (option_map ends o) ≡ counted_in (λ (z : Process). z.instructions) o
      mapped None = refl
      mapped (Some z) = refl

      go : (x : ℕ) (y : Bool) → (x == p) ≡ y → counted_in (λ (z : Process). z.instructions) (cond y (option_map ends (at node.processes p)) (at node.processes x)) ≡ counted_in (λ (z : Process). z.instructions) (at node.processes x)
      go x true f = let g : x ≡ p = grind (arith, nat_tests, f) in mapped (at node.processes p) ∙ ap (λ (j : ℕ). counted_in (λ (z : Process). z.instructions) (at node.processes j)) (sym g)
      go x false f = refl

  pub closed-stops : total stops node-closed.threads ≤ total stops node.threads
  closed-stops = total-le stops node-closed.threads node.threads (λ u. go u (at node-closed.threads u) refl)
    where
      go : (u : ℕ) (o : Option Thread) → at node-closed.threads u ≡ o → counted_in stops o ≤ counted_in stops (at node.threads u)
      go u None e = omega arith
      go u (Some y) e = let w = (row-left u y e).0 in let z = ap (counted_in stops) w in omega (arith, z)

  -- a process was there, with its heap
  abbrev WasMade : ℕ → Process → Type 0
  WasMade q y = (x : Process) × (at node.processes q ≡ Some x) × (x.heap_base ≡ y.heap_base) × (x.program_break ≡ y.program_break)

  was-made : (q : ℕ) (y : Process) → at node-closed.processes q ≡ Some y → WasMade q y
  was-made q y e = go (q == p) refl (sym (at-change node.processes p ends q) ∙ e)
    where
      own : (q ≡ p) → (o : Option Process) → at node.processes p ≡ o → option_map ends o ≡ Some y → WasMade q y
      own g None f k = absurd (grind (arith, k))
      own g (Some x) f k = let z : ends x ≡ y = cc in (x, ap (at node.processes) g ∙ f, ap (λ (v : Process). v.heap_base) z, ap (λ (v : Process). v.program_break) z)

      go : (b : Bool) → (q == p) ≡ b → cond b (option_map ends (at node.processes p)) (at node.processes q) ≡ Some y → WasMade q y
      go true n k = own (grind (arith, nat_tests, n)) (at node.processes p) refl k
      go false n k = (y, k, refl, refl)

  -- sleepers of other processes sleep on
  sleepers : SleepersAre node-closed
  sleepers = Each-map (λ (x : Sleeper). SleeperIs node x × (stays x ≡ true)) (SleeperIs node-closed) (filter stays node.sleepers)
      (λ x h. (let n = not-true (x.process == p) h.1 in let w = h.0 in (w.0, row-kept x.thread w.0 w.1 (ap (λ (j : ℕ). j == p) w.3 ∙ n), w.2, w.3)))
      (Each-both (SleeperIs node) (λ (x : Sleeper). stays x ≡ true) (filter stays node.sleepers) (Each-filter (SleeperIs node) stays node.sleepers (sleepers-are node s.sleeping)) (each-passes stays node.sleepers))

  once : SleepOnce node-closed
  once u = let a = tally-filter (λ (x : Sleeper). if_same x.thread u) stays node.sleepers in let b = sleep-once node s.sleeping u in omega (arith, a, b)

  pub closed-sound : Sound node-closed
  closed-sound = record {
    threads_below = λ u y e. s.threads_below u y (row-left u y e).0;
    threads_there = λ u y e. (let w = row-left u y e in there-other y.process w.1 ∙ s.threads_there u y w.0);
    processes_below = λ q y e. (let w = was-made q y e in s.processes_below q w.0 w.1);
    sleeping = sleeping-of node-closed sleepers once;
    places = record {
      below = λ u y e. s.places.below u y (row-left u y e).0;
      apart = λ t u x y e f a b. s.places.apart t u x y (row-left t x e).0 (row-left u y f).0 a b;
    };
    heaps = λ q y e. (let w = was-made q y e in let h = s.heaps q w.0 w.1 in
        record { aligned = ap (λ (n : ℕ). n % page_size) (sym w.2) ∙ h.aligned; below = (let l = h.below in let a = w.2 in let b = w.3 in omega (arith, l, a, b)) });
  }

  -- telling the parent
  pub told : NodeSteps node-closed (process_ended p node)
  unfolding process_ended
  told = by (is_living node-closed (process_of node p).parent) (ignores (process_of node-closed (process_of node p).parent) 17)
    where
      same : NodeSteps node-closed node-closed
      same = steps-of node-closed node-closed closed-sound (goes-same node-closed) closed-sound.sleeping

      by : (b c : Bool) → NodeSteps node-closed (cond b (cond c node-closed (change_process (process_of node p).parent (λ (x : Process). record x { pending = with_signal 17 x.pending }) node-closed)) node-closed)
      by false c = same
      by true true = same
      by true false = steps-of node-closed (change_process (process_of node p).parent (λ (x : Process). record x { pending = with_signal 17 x.pending }) node-closed) closed-sound
          (goes-process node-closed (process_of node p).parent (λ (x : Process). record x { pending = with_signal 17 x.pending }) (record { heap = λ x. refl; limit = λ x. refl; instructions = λ x. refl; ended = λ x. refl }))
          (record { asleep = closed-sound.sleeping.asleep; once = closed-sound.sleeping.once })
