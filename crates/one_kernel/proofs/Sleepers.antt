-- A stopped thread may fall asleep: it sleeps nowhere, and those of its process that sleep at an address have places other than its own.
use Rattle.guest_laws.proofs.Counting.{no-more-than}
use Rattle.hybrid_laws.proofs.node.Goes.{SleeperIs, each-passes, tally-filter}
use Rattle.hybrid_laws.proofs.node.LocalKeeps.{Each-filter}
use Rattle.hybrid_laws.proofs.maps.Reading.{Each-both, Each-map}
use Rattle.hybrid_laws.proofs.node.Sound.{is-awake, sleep-once, sleepers-are}
use Rattle.hybrid_laws.proofs.maps.Tests.{both}
use Rattle.hybrid_laws.proofs.node.Threads.{thread-is}
use Rattle.hybrid_laws.proofs.trap.Begins.{may-traps}
use Rattle.hybrid_model.specs.Globals.{Places, Sleeping}
use Rattle.hybrid_model.specs.Tallies.{Each, if_same, tally}
use Rattle.kernel_model.specs.LocalCalls.{sleeps_at, waiters}
use Rattle.kernel_model.specs.OneKernel.{OneKernel}
use Rattle.kernel_model.specs.Nodes.{Node as KernelNode, Sleeper, Thread, is_asleep, most_threads, thread_of}
use Rattle.kernel_model.specs.Traps.{may_trap}
use Rattle.kernel_tables.specs.Shown.{node_of}
use Rattle.one_calls.specs.Resting.{MayClone, MayFork, MayRest}
use Rattle.one_kernel.proofs.Facts.{living-has, next-small}
use Rattle.one_kernel.proofs.Told.{bool-told, lt-told}
use Rattle.one_kernel.specs.Parts.{one_of}
use Rattle.node_machine.specs.Reached.{IsShown}
use Rattle.one_kernel.specs.declared.parts.One.{One}
use Rattle.mck_word.specs.Maps.{at}
use Rattle.std.proofs.Common.{ap, arith, inl, inr, refl, subst, sym, ◌∙◌}
use Rattle.std.proofs.lemmas.Bool.Decides.{nat_tests}
use Rattle.std.proofs.lemmas.List.{length-map}
use Rattle.std.specs.List.{list_any}
use Rattle.std.specs.Prelude.{Bool, List, Some, [], false, filter, length, map, true, ℕ, ◌<◌, ◌==◌, ◌∷◌, ◌≡◌, ◌≤◌, ◌⊎◌}

none-of : (t : ℕ) (ss : List Sleeper) → Each (λ (s : Sleeper). (s.thread == t) ≡ false) ss → list_any (λ s. s.thread == t) ss ≡ false
none-of t [] h = refl
none-of t (s ∷ ss) h = rw h.0 (none-of t ss h.1)

module _ (node : KernelNode) (sleeping : Sleeping node) (places : Places node) (t : ℕ) (x : Thread) (there : at node.threads t ≡ Some x) (awake : is_asleep x.does ≡ false) where
  -- the sleeper's thread is another one of the process
  record SleepsIn (s : Sleeper) : Type 0 where
    own : Thread
    is : at node.threads s.thread ≡ Some own
    process : own.process ≡ x.process
    other : (s.thread == t) ≡ false

  -- the process has a thread of that number and place
  record StandsAt (k u : ℕ) : Type 0 where
    thread : Thread
    is : at node.threads u ≡ Some thread
    process : thread.process ≡ x.process
    place : thread.place ≡ k

  abbrev place_of : Sleeper → ℕ
  place_of s = (thread_of node s.thread).place

  place-is : (s : Sleeper) (h : SleepsIn s) → place_of s ≡ h.own.place
  place-is s h = ap (λ (z : Thread). z.place) (thread-is node s.thread h.own h.is)

  stands : (s : Sleeper) (h : SleepsIn s) (k : ℕ) → (k == place_of s) ≡ true → StandsAt k s.thread
  stands s h k e =
      let a : k ≡ place_of s = grind (arith, nat_tests, e) in
      record { thread = h.own; is = h.is; process = h.process; place = sym (a ∙ place-is s h) }

  same-thread : (k u v : ℕ) → StandsAt k u → StandsAt k v → u ≡ v
  same-thread k u v a b = places.apart u v a.thread b.thread a.is b.is (a.process ∙ sym b.process) (a.place ∙ sym b.place)

  -- all that have the place are one thread
  dominated : (k u : ℕ) → StandsAt k u → (ss : List Sleeper) → Each SleepsIn ss → tally (if_same k) (map place_of ss) ≤ tally (λ (s : Sleeper). if_same s.thread u) ss
  dominated k u h [] e = omega arith
  dominated k u h (s ∷ ss) e = go (k == place_of s) refl (s.thread == u) refl (dominated k u h ss e.1)
    where
      go : (b : Bool) → (k == place_of s) ≡ b → (c : Bool) → (s.thread == u) ≡ c → tally (if_same k) (map place_of ss) ≤ tally (λ (z : Sleeper). if_same z.thread u) ss
          → tally (if_same k) (map place_of (s ∷ ss)) ≤ tally (λ (z : Sleeper). if_same z.thread u) (s ∷ ss)
      go false f c g i = rw f (omega (arith, i))
      go true f true g i = rw (f, g) (omega (arith, i))
      go true f false g i = absurd (let a = same-thread k s.thread u (stands s e.0 k f) h in grind (arith, nat_tests, a, g))

  some-or-none : (k : ℕ) (ss : List Sleeper) → Each SleepsIn ss → (tally (if_same k) (map place_of ss) ≡ 0) ⊎ ((u : ℕ) × StandsAt k u)
  some-or-none k [] e = inl refl
  some-or-none k (s ∷ ss) e = go (k == place_of s) refl (some-or-none k ss e.1)
    where
      go : (b : Bool) → (k == place_of s) ≡ b → (tally (if_same k) (map place_of ss) ≡ 0) ⊎ ((u : ℕ) × StandsAt k u) → (tally (if_same k) (map place_of (s ∷ ss)) ≡ 0) ⊎ ((u : ℕ) × StandsAt k u)
      go true f i = inr (s.thread, stands s e.0 k f)
      go false f i = elim i [ inl z ↦ inl (rw f (omega (arith, z))) | inr z ↦ inr z ]

  abbrev those : ℕ → List Sleeper
  those address = filter (sleeps_at x.process address) node.sleepers

  those-sleep : (address : ℕ) → Each SleepsIn (those address)
  those-sleep address =
      Each-map (λ (s : Sleeper). (SleeperIs node s × ((s.thread == t) ≡ false)) × (sleeps_at x.process address s ≡ true)) SleepsIn (those address) one
      (Each-both (λ (s : Sleeper). SleeperIs node s × ((s.thread == t) ≡ false)) (λ (s : Sleeper). sleeps_at x.process address s ≡ true) (those address)
      (Each-filter (λ (s : Sleeper). SleeperIs node s × ((s.thread == t) ≡ false)) (sleeps_at x.process address) node.sleepers
      (Each-both (SleeperIs node) (λ (s : Sleeper). (s.thread == t) ≡ false) node.sleepers (sleepers-are node sleeping) (is-awake node t x there awake sleeping)))
      (each-passes (sleeps_at x.process address) node.sleepers))
    where
      one : (s : Sleeper) → (SleeperIs node s × ((s.thread == t) ≡ false)) × (sleeps_at x.process address s ≡ true) → SleepsIn s
      one s h =
          let a = both (s.process == x.process) (s.address == address) h.1 in
          let b : s.process ≡ x.process = grind (arith, nat_tests, a.0) in
          record { own = h.0.0.0; is = h.0.0.1; process = h.0.0.3 ∙ b; other = h.0.1 }

  below : (ss : List Sleeper) → Each SleepsIn ss → Each (λ p. p < most_threads) (map place_of ss)
  below [] e = tt
  below (s ∷ ss) e = (let a = places.below s.thread e.0.own e.0.is in let b = place-is s e.0 in omega (arith, a, b), below ss e.1)

  none-own : (ss : List Sleeper) → Each SleepsIn ss → tally (λ (s : Sleeper). if_same s.thread t) ss ≡ 0
  none-own [] e = refl
  none-own (s ∷ ss) e = let o = e.0.other in let rest = none-own ss e.1 in rw o (omega (arith, rest))

  once : (address k : ℕ) → tally (if_same k) (map place_of (those address)) ≤ 1
  once address k = elim (some-or-none k (those address) (those-sleep address)) [
    | inl z ↦ omega (arith, z)
    | inr z ↦ (let a = dominated k z.0 z.1 (those address) (those-sleep address) in
        let b = tally-filter (λ (s : Sleeper). if_same s.thread z.0) (sleeps_at x.process address) node.sleepers in
        let c = sleep-once node sleeping z.0 in
        omega (arith, a, b, c))
  ]

  with-own : (address k : ℕ) → tally (if_same k) (x.place ∷ map place_of (those address)) ≤ 1
  with-own address k = go (k == x.place) refl
    where
      go : (b : Bool) → (k == x.place) ≡ b → tally (if_same k) (x.place ∷ map place_of (those address)) ≤ 1
      go false f = let rest = once address k in rw f (omega (arith, rest))
      go true f =
          let e : x.place ≡ k = grind (arith, nat_tests, f) in
          let a = dominated k t (record { thread = x; is = there; process = refl; place = e }) (those address) (those-sleep address) in
          let b = none-own (those address) (those-sleep address) in
          rw f (omega (arith, a, b))

  pub few-sleep : (address : ℕ) → length (waiters node x.process address) < most_threads
  few-sleep address =
      let a = no-more-than most_threads (x.place ∷ map place_of (those address)) (places.below t x there, below (those address) (those-sleep address)) (with-own address) in
      let b = length-map (those address) place_of in
      omega (arith, a, b)

  pub sleeps-nowhere : list_any (λ s. s.thread == t) node.sleepers ≡ false
  sleeps-nowhere = none-of t node.sleepers (is-awake node t x there awake sleeping)

-- the thread of a trap may fall asleep, in a state that the two kernels show
module _ (o : OneKernel) (shown : IsShown o) (t : ℕ) (may : may_trap o.node t ≡ true) where
  pub told-awake : list_any (λ s. s.thread == t) o.node.sleepers ≡ false
  told-awake = bool-told shown (λ k. subst (λ (y : OneKernel). may_trap y.node t ≡ true → list_any (λ s. s.thread == t) y.node.sleepers ≡ false) k.shows
      (λ m. let x = may-traps k.pair.node t m in sleeps-nowhere k.pair.node k.sound.coherent.sleeping k.sound.coherent.places t x.thread x.there (ap is_asleep x.stopped)) may)

  pub told-few : (address : ℕ) → length (waiters o.node (thread_of o.node t).process address) < most_threads
  told-few address = lt-told shown (λ k. subst (λ (y : OneKernel). may_trap y.node t ≡ true → length (waiters y.node (thread_of y.node t).process address) < most_threads) k.shows
      (λ m. let x = may-traps k.pair.node t m in
      subst (λ p. length (waiters k.pair.node p address) < most_threads) (ap (λ (z : Thread). z.process) (sym (thread-is k.pair.node t x.thread x.there)))
      (few-sleep k.pair.node k.sound.coherent.sleeping k.sound.coherent.places t x.thread x.there (ap is_asleep x.stopped) address)) may)

-- whatever the files are
pub may-rest : (x : One) (t : ℕ) → IsShown (one_of x) → may_trap (one_of x).node t ≡ true → 1 ≤ x.node.sleepers.spare → MayRest x.node t
unfolding one_of node_of
may-rest x t shown may room = record { room = room; awake = λ files. told-awake (one_of x) shown t may; few = λ files address. told-few (one_of x) shown t may address }

pub may-clone : (x : One) (t : ℕ) → IsShown (one_of x) → may_trap (one_of x).node t ≡ true → 1 ≤ x.node.threads.spare → MayClone x.node t
unfolding one_of node_of
may-clone x t shown may room = record {
  room = room;
  lives = λ files. (both _ _ (both _ _ may).0).0;
  below = λ files. (let small = next-small (one_of x) shown in omega (arith, small));
}

pub may-fork : (x : One) (t : ℕ) → IsShown (one_of x) → may_trap (one_of x).node t ≡ true → 1 ≤ x.node.threads.spare → 1 ≤ x.node.processes.spare → MayFork x.node t
unfolding one_of node_of
may-fork x t shown may threads processes = record {
  clone = may-clone x t shown may threads;
  room = processes;
  there = λ files. living-has (one_of x).node (thread_of (one_of x).node t).process (both _ _ may).1;
}
