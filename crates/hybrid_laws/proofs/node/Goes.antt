-- What calls, signals and deliveries of one thread do to the node as a whole: no thread is new, processes keep their heaps, limits and instructions, sleepers stay Asleep.
use Rattle.hybrid_laws.proofs.calls.Closed.{Calm, Closed, Leaves, is_plain}
use Rattle.hybrid_laws.proofs.maps.Reading.{Each-both, Each-map, Each-push, tally-push}
use Rattle.hybrid_laws.proofs.node.LocalKeeps.{Each-filter}
use Rattle.hybrid_laws.proofs.node.Primitives.{Quiet, at-change}
use Rattle.hybrid_laws.proofs.node.Threads.{thread-changed, thread-is, thread-other}
use Rattle.hybrid_model.specs.Tallies.{Each, if_same, tally}
use Rattle.kernel_model.specs.LocalCalls.{falls_asleep, is_waiter, waiters, wake, wake_threads}
use Rattle.kernel_model.specs.Nodes.{Node, Process, Sleeper, Thread, has_ended, is_stopped, answered, change_process, change_thread, process_of, set_a0, thread_of, without_thread, set_does}
use Rattle.kernel_model.specs.SignalSets.{without_signal}
use Rattle.kernel_model.specs.Signals.{drop_ignored, ignores}
use Rattle.kernel_model.specs.declared.Does.TheVariants.{Asleep, Called, InVm, InWait, Ready, Stopped}
use Rattle.kernel_model.specs.declared.Does.{Does}
use Rattle.mck_word.specs.MapLaws.{at-collect, at-cut}
use Rattle.mck_word.specs.Maps.{Map, at, change, and_then, cut, each}
use Rattle.mck_word.specs.Words.{word_of}
use Rattle.std.proofs.Common.{refl, ◌∙◌, ap, arith, subst, sym}
use Rattle.std.proofs.lemmas.Bool.Decides.{nat_tests}
use Rattle.std.specs.Prelude.{Bool, None, Option, Some, false, true, ℕ, ◌==◌, ◌≡◌, ◌≤◌, List, [], cond, filter, not, option_map, pos, take, ◌++◌, ◌+◌, ◌||◌, ◌∷◌}

-- of a process, what stays
abbrev pub lasting : Option Process → Option (ℕ × ℕ × ℕ × Bool)
lasting None = None
lasting (Some x) = Some (x.heap_base, x.program_break, x.instructions, has_ended x.life)

-- a thread after was there before, in its process at its place, and is Stopped only if it was
abbrev pub WasThere : Option Thread → Thread → Type 0
WasThere o y = (x : Thread) × (o ≡ Some x) × (y.process ≡ x.process) × (y.place ≡ x.place) × (is_stopped y.does ≡ true → is_stopped x.does ≡ true)

-- the sleepers' threads are Asleep there; and t is none of them
abbrev pub SleeperIs : Node → Sleeper → Type 0
SleeperIs node s = (x : Thread) × (at node.threads s.thread ≡ Some x) × (x.does ≡ Asleep s.address) × (x.process ≡ s.process)

abbrev pub SleepersAre : Node → Type 0
SleepersAre node = Each (SleeperIs node) node.sleepers

abbrev pub SleepOnce : Node → Type 0
SleepOnce node = (u : ℕ) → tally (λ (s : Sleeper). if_same s.thread u) node.sleepers ≤ 1

abbrev pub IsAwake : ℕ → Node → Type 0
IsAwake t node = Each (λ (s : Sleeper). (s.thread == t) ≡ false) node.sleepers

pub record Goes (a b : Node) : Type 0 where
  pub rows : (u : ℕ) (y : Thread) → at b.threads u ≡ Some y → WasThere (at a.threads u) y
  pub processes : (q : ℕ) → lasting (at b.processes q) ≡ lasting (at a.processes q)
  pub next : b.next_number ≡ a.next_number
  pub frames : b.frame_count ≡ a.frame_count
  pub limit : b.limit ≡ a.limit
  pub files : b.files ≡ a.files

pub record GoesAwake (t : ℕ) (a b : Node) : Type 0 where
  pub goes : Goes a b
  pub sleep : IsAwake t a → SleepersAre a → SleepOnce a → IsAwake t b × SleepersAre b × SleepOnce b

pub record GoesOn (t : ℕ) (a b : Node) : Type 0 where
  pub goes : Goes a b
  pub sleep : (x : Thread) → at a.threads t ≡ Some x → IsAwake t a → SleepersAre a → SleepOnce a → SleepersAre b × SleepOnce b

-- ---- the relation is one
pub goes-same : (a : Node) → Goes a a
goes-same a = record { rows = λ u y e. (y, e, refl, refl, λ s. s); processes = λ q. refl; next = refl; frames = refl; limit = refl; files = refl }

pub goes-then : (a b c : Node) → Goes a b → Goes b c → Goes a c
goes-then a b c f g = record {
  rows = λ u z e. (let y = g.rows u z e in let x = f.rows u y.0 y.1 in (x.0, x.1, y.2 ∙ x.2, y.3 ∙ x.3, λ s. x.4 (y.4 s)));
  processes = λ q. g.processes q ∙ f.processes q;
  next = g.next ∙ f.next;
  frames = g.frames ∙ f.frames;
  limit = g.limit ∙ f.limit;
  files = g.files ∙ f.files;
}

-- ---- a row of threads changed
changed-was : (m : Map Thread) (u : ℕ) (f : Thread → Thread) → ((x : Thread) → ((f x).process ≡ x.process) × ((f x).place ≡ x.place) × (is_stopped (f x).does ≡ true → is_stopped x.does ≡ true)) → (v : ℕ) (y : Thread) → at (change m u f) v ≡ Some y → WasThere (at m v) y
changed-was m u f h v y e = go (v == u) refl (sym (at-change m u f v) ∙ e)
  where
    row : (o : Option Thread) → option_map f o ≡ Some y → WasThere o y
    row None k = absurd (grind (arith, k))
    row (Some x) k =
        let g : f x ≡ y = cc in
        let a = h x in
        (x, refl, ap (λ (z : Thread). z.process) (sym g) ∙ a.0, ap (λ (z : Thread). z.place) (sym g) ∙ a.1, λ s. a.2 (ap (λ (z : Thread). is_stopped z.does) g ∙ s))

    go : (b : Bool) → (v == u) ≡ b → cond b (option_map f (at m u)) (at m v) ≡ Some y → WasThere (at m v) y
    go true g k = let w : v ≡ u = grind (arith, nat_tests, g) in subst (λ (j : ℕ). WasThere (at m j) y) (sym w) (row (at m u) k)
    go false g k = (y, k, refl, refl, λ s. s)

plain-not : (d : Does) → is_plain d ≡ true → is_stopped d ≡ true → ⊥
plain-not Ready e f = grind (arith, f)
plain-not (InVm c) e f = grind (arith, f)
plain-not (InWait n s) e f = grind (arith, f)
plain-not (Stopped s) e f = grind (arith, e)
plain-not Called e f = grind (arith, e)
plain-not (Asleep a) e f = grind (arith, e)

goes-threads : (a : Node) (m : Map Thread) → ((u : ℕ) (y : Thread) → at m u ≡ Some y → WasThere (at a.threads u) y) → Goes a (record a { threads = m })
goes-threads a m f = record { rows = f; processes = λ q. refl; next = refl; frames = refl; limit = refl; files = refl }

pub goes-quiet : (a : Node) (u : ℕ) (f : Thread → Thread) → Quiet f → Goes a (change_thread u f a)
goes-quiet a u f h = goes-threads a (change a.threads u f) (changed-was a.threads u f (λ x. (h.process x, h.place x, λ s. ap is_stopped (sym (h.does x)) ∙ s)))

pub goes-moves : (a : Node) (u : ℕ) (f : Thread → Thread) → Leaves f → Goes a (change_thread u f a)
goes-moves a u f h = goes-threads a (change a.threads u f) (changed-was a.threads u f (λ x. (h.process x, h.place x, λ s. absurd (plain-not (f x).does (h.plain x) s))))

pub goes-process : (a : Node) (q : ℕ) (f : Process → Process) → Calm f → Goes a (change_process q f a)
goes-process a q f h = record {
  rows = λ u y e. (y, e, refl, refl, λ s. s);
  processes = λ r. ap lasting (at-change a.processes q f r) ∙ go r (r == q) refl;
  next = refl;
  frames = refl;
  limit = refl;
  files = refl;
}
  where
    row : (o : Option Process) → lasting (option_map f o) ≡ lasting o
    row None = refl
    row (Some x) = let b = h.heap x in let c = h.limit x in let d = h.instructions x in let e = h.ended x in λ i. Some (b i, c i, d i, e i)

    go : (r : ℕ) (b : Bool) → (r == q) ≡ b → lasting (cond b (option_map f (at a.processes q)) (at a.processes r)) ≡ lasting (at a.processes r)
    go r true e = let g : r ≡ q = grind (arith, nat_tests, e) in rw g (row (at a.processes q))
    go r false e = refl

pub goes-gone : (a : Node) (u : ℕ) → Goes a (without_thread u a)
goes-gone a u = goes-threads a (cut a.threads u) (λ v y e. go v y (v == u) (sym (at-cut a.threads u v) ∙ e))
  where
    go : (v : ℕ) (y : Thread) (b : Bool) → cond b None (at a.threads v) ≡ Some y → WasThere (at a.threads v) y
    go v y true k = absurd (grind (arith, k))
    go v y false k = (y, k, refl, refl, λ s. s)

-- ---- sleepers, where other threads' rows stay
abbrev SameSleep : Node → Node → ℕ → Type 0
SameSleep a b u = (x : Thread) → at a.threads u ≡ Some x → (y : Thread) × (at b.threads u ≡ Some y) × (y.does ≡ x.does) × (y.process ≡ x.process)

sleeper-stays : (a b : Node) (s : Sleeper) → SameSleep a b s.thread → SleeperIs a s → SleeperIs b s
sleeper-stays a b s f h = let y = f h.0 h.1 in (y.0, y.1, y.2 ∙ h.2, y.3 ∙ h.3)

sleepers-stay : (a b : Node) (ss : List Sleeper) → ((u : ℕ) → SameSleep a b u) → Each (SleeperIs a) ss → Each (SleeperIs b) ss
sleepers-stay a b ss f h = Each-map (SleeperIs a) (SleeperIs b) ss (λ s k. sleeper-stays a b s (f s.thread) k) h

pub awake-stay : (t : ℕ) (a b : Node) (ss : List Sleeper) → ((u : ℕ) → (u == t) ≡ false → SameSleep a b u) → Each (λ (s : Sleeper). (s.thread == t) ≡ false) ss → Each (SleeperIs a) ss → Each (SleeperIs b) ss
awake-stay t a b ss f n h = Each-map (λ (s : Sleeper). ((s.thread == t) ≡ false) × SleeperIs a s) (SleeperIs b) ss (λ s k. sleeper-stays a b s (f s.thread k.0) k.1) (Each-both (λ (s : Sleeper). (s.thread == t) ≡ false) (SleeperIs a) ss n h)

same-other : (a : Node) (t u : ℕ) (f : Thread → Thread) → (u == t) ≡ false → SameSleep a (change_thread t f a) u
same-other a t u f n x e = (x, thread-other a t u f n ∙ e, refl, refl)

same-quiet : (a : Node) (t u : ℕ) (f : Thread → Thread) → Quiet f → SameSleep a (change_thread t f a) u
same-quiet a t u f h x e = go (u == t) refl
  where
    go : (b : Bool) → (u == t) ≡ b → (y : Thread) × (at (change_thread t f a).threads u ≡ Some y) × (y.does ≡ x.does) × (y.process ≡ x.process)
    go false n = (x, thread-other a t u f n ∙ e, refl, refl)
    go true n = let g : u ≡ t = grind (arith, nat_tests, n) in (f x, at-change a.threads t f u ∙ ap (λ b. cond b (option_map f (at a.threads t)) (at a.threads u)) n ∙ ap (option_map f) (ap (at a.threads) (sym g) ∙ e), h.does x, h.process x)

-- ---- waking
woken-other : (ss : List Sleeper) (a : Node) (u : ℕ) → Each (λ (s : Sleeper). (u == s.thread) ≡ false) ss → at (wake_threads ss a).threads u ≡ at a.threads u
woken-other [] a u h = refl
woken-other (s ∷ ss) a u h = woken-other ss (answered s.thread (pos 0) a) u h.1 ∙ thread-other a s.thread u (λ x. record x { regs = set_a0 (word_of (pos 0)) x.regs; does = Ready }) h.0

woken-goes : (ss : List Sleeper) (a : Node) → Goes a (wake_threads ss a)
woken-goes [] a = goes-same a
woken-goes (s ∷ ss) a = goes-then a (answered s.thread (pos 0) a) (wake_threads ss (answered s.thread (pos 0) a))
    (goes-moves a s.thread (λ x. record x { regs = set_a0 (word_of (pos 0)) x.regs; does = Ready }) (record { process = λ x. refl; place = λ x. refl; plain = λ x. refl })) (woken-goes ss (answered s.thread (pos 0) a))

woken-sleepers : (ss : List Sleeper) (a : Node) → (wake_threads ss a).sleepers ≡ a.sleepers
woken-sleepers [] a = refl
woken-sleepers (s ∷ ss) a = woken-sleepers ss (answered s.thread (pos 0) a)

pub tally-filter : (f : Sleeper → ℕ) (test : Sleeper → Bool) (ss : List Sleeper) → tally f (filter test ss) ≤ tally f ss
tally-filter f test [] = omega arith
tally-filter f test (s ∷ ss) = go (test s) (tally-filter f test ss)
  where
    go : (b : Bool) → tally f (filter test ss) ≤ tally f ss → tally f (cond b (s ∷ filter test ss) (filter test ss)) ≤ f s + tally f ss
    go true i = omega (arith, i)
    go false i = omega (arith, i)

pub each-passes : (test : Sleeper → Bool) (ss : List Sleeper) → Each (λ s. test s ≡ true) (filter test ss)
each-passes test [] = tt
each-passes test (s ∷ ss) = go (test s) refl (each-passes test ss)
  where
    go : (b : Bool) → test s ≡ b → Each (λ x. test x ≡ true) (filter test ss) → Each (λ x. test x ≡ true) (cond b (s ∷ filter test ss) (filter test ss))
    go true e i = (e, i)
    go false e i = i

not-waiter : (woken : List Sleeper) (s : Sleeper) → not (is_waiter woken s) ≡ true → Each (λ (w : Sleeper). (s.thread == w.thread) ≡ false) woken
not-waiter [] s e = tt
not-waiter (w ∷ woken) s e = go (w.thread == s.thread) refl e (not-waiter woken s)
  where
    go : (b : Bool) → (w.thread == s.thread) ≡ b → not (b || is_waiter woken s) ≡ true → (not (is_waiter woken s) ≡ true → Each (λ (x : Sleeper). (s.thread == x.thread) ≡ false) woken) → Each (λ (x : Sleeper). (s.thread == x.thread) ≡ false) (w ∷ woken)
    go true f k i = absurd (grind (arith, k))
    go false f k i = (grind (arith, nat_tests, f), i k)

module _ (a : Node) (process address n : ℕ) where
  abbrev woken : List Sleeper
  woken = take n (waiters a process address)

  abbrev left : List Sleeper
  left = filter (λ s. not (is_waiter woken s)) a.sleepers

  abbrev begun : Node
  begun = record a { sleepers = left }

  pub wake-goes : Goes a (wake process address n a)
  wake-goes = let g = woken-goes woken begun in record { rows = g.rows; processes = g.processes; next = g.next; frames = g.frames; limit = g.limit; files = g.files }

  wake-left : (wake process address n a).sleepers ≡ left
  wake-left = woken-sleepers woken begun

  pub wake-sleep : (t : ℕ) → IsAwake t a → SleepersAre a → SleepOnce a → IsAwake t (wake process address n a) × SleepersAre (wake process address n a) × SleepOnce (wake process address n a)
  wake-sleep t awake are once = (
    subst (Each (λ (s : Sleeper). (s.thread == t) ≡ false)) (sym wake-left) (Each-filter (λ (s : Sleeper). (s.thread == t) ≡ false) (λ s. not (is_waiter woken s)) a.sleepers awake),
    subst (Each (SleeperIs (wake process address n a))) (sym wake-left)
        (Each-map (λ (s : Sleeper). SleeperIs a s × (not (is_waiter woken s) ≡ true)) (SleeperIs (wake process address n a)) left
        (λ s k. sleeper-stays a (wake process address n a) s (λ x e. (x, woken-other woken begun s.thread (not-waiter woken s k.1) ∙ e, refl, refl)) k.0)
        (Each-both (SleeperIs a) (λ s. not (is_waiter woken s) ≡ true) left (Each-filter (SleeperIs a) (λ s. not (is_waiter woken s)) a.sleepers are) (each-passes (λ s. not (is_waiter woken s)) a.sleepers))),
    λ u. subst (λ ss. tally (λ (s : Sleeper). if_same s.thread u) ss ≤ 1) (sym wake-left) (le-trans (tally-filter (λ (s : Sleeper). if_same s.thread u) (λ s. not (is_waiter woken s)) a.sleepers) (once u)),
  )
    where
      le-trans : {x y z : ℕ} → x ≤ y → y ≤ z → x ≤ z
      le-trans f g = omega (arith, f, g)

-- ---- signals that are ignored from now on
module _ (a : Node) (q signal : ℕ) where
  abbrev less : Thread → Thread
  less y = cond (y.process == q) (record y { pending = without_signal signal y.pending }) y

  less-quiet : Quiet less
  less-quiet = record { process = λ y. (split (y.process == q) y).0; place = λ y. (split (y.process == q) y).1; does = λ y. (split (y.process == q) y).2 }
    where
      split : (b : Bool) (y : Thread) → ((cond b (record y { pending = without_signal signal y.pending }) y).process ≡ y.process) × ((cond b (record y { pending = without_signal signal y.pending }) y).place ≡ y.place) × ((cond b (record y { pending = without_signal signal y.pending }) y).does ≡ y.does)
      split true y = (refl, refl, refl)
      split false y = (refl, refl, refl)

  abbrev quieter : Node
  quieter = change_process q (λ (x : Process). record x { pending = without_signal signal x.pending }) a

  abbrev dropped : Node
  dropped = record quieter { threads = each less a.threads }

  less-at : (u : ℕ) → at (each less a.threads) u ≡ option_map less (at a.threads u)
  less-at u = at-collect (λ k v. Some (less v)) a.threads u ∙ go (at a.threads u)
    where
      go : (o : Option Thread) → and_then o (λ v. Some (less v)) ≡ option_map less o
      go None = refl
      go (Some y) = refl

  drop-goes : Goes a dropped
  drop-goes = goes-then a quieter dropped (goes-process a q (λ x. record x { pending = without_signal signal x.pending }) (record { heap = λ x. refl; limit = λ x. refl; instructions = λ x. refl; ended = λ x. refl }))
      (goes-threads quieter (each less a.threads) (λ u y e. row (at a.threads u) y (sym (less-at u) ∙ e)))
    where
      row : (o : Option Thread) (y : Thread) → option_map less o ≡ Some y → WasThere o y
      row None y k = absurd (grind (arith, k))
      row (Some x) y k =
          let g : less x ≡ y = cc in
          (x, refl, ap (λ (z : Thread). z.process) (sym g) ∙ less-quiet.process x, ap (λ (z : Thread). z.place) (sym g) ∙ less-quiet.place x, λ s. ap is_stopped (sym (less-quiet.does x)) ∙ ap (λ (z : Thread). is_stopped z.does) g ∙ s)

  drop-same : (u : ℕ) → SameSleep a dropped u
  drop-same u x e = (less x, less-at u ∙ ap (option_map less) e, less-quiet.does x, less-quiet.process x)

  pub ignored-goes : Goes a (drop_ignored q signal a)
  ignored-goes = go (ignores (process_of a q) signal)
    where
      go : (b : Bool) → Goes a (cond b dropped a)
      go true = drop-goes
      go false = goes-same a

  pub ignored-sleep : (t : ℕ) → IsAwake t a → SleepersAre a → SleepOnce a → IsAwake t (drop_ignored q signal a) × SleepersAre (drop_ignored q signal a) × SleepOnce (drop_ignored q signal a)
  ignored-sleep t awake are once = go (ignores (process_of a q) signal)
    where
      go : (b : Bool) → IsAwake t (cond b dropped a) × SleepersAre (cond b dropped a) × SleepOnce (cond b dropped a)
      go true = (awake, sleepers-stay a dropped a.sleepers drop-same are, once)
      go false = (awake, are, once)

-- ---- the thread t falls asleep
tally-awake : (t : ℕ) (ss : List Sleeper) → Each (λ (s : Sleeper). (s.thread == t) ≡ false) ss → tally (λ (s : Sleeper). if_same s.thread t) ss ≡ 0
tally-awake t [] h = refl
tally-awake t (s ∷ ss) h = let a = h.0 in let b = tally-awake t ss h.1 in grind (arith, nat_tests, a, b)

module _ (t : ℕ) (a : Node) (address : ℕ) where
  abbrev sleeper : Sleeper
  sleeper = record { process = (thread_of a t).process; address = address; thread = t }

  abbrev lies : Node
  lies = record a { sleepers = a.sleepers ++ sleeper ∷ [] }

  pub falls-goes : Goes a (falls_asleep t address a)
  falls-goes = goes-threads' (changed-was a.threads t (λ x. record x { does = Asleep address }) (λ x. (refl, refl, λ s. absurd (grind (arith, s)))))
    where
      goes-threads' : ((u : ℕ) (y : Thread) → at (change a.threads t (λ x. record x { does = Asleep address })) u ≡ Some y → WasThere (at a.threads u) y) → Goes a (falls_asleep t address a)
      goes-threads' f = record { rows = f; processes = λ q. refl; next = refl; frames = refl; limit = refl; files = refl }

  pub falls-sleep : (x : Thread) → at a.threads t ≡ Some x → IsAwake t a → SleepersAre a → SleepOnce a → SleepersAre (falls_asleep t address a) × SleepOnce (falls_asleep t address a)
  falls-sleep x there awake are once = (
    Each-push (SleeperIs (falls_asleep t address a)) a.sleepers sleeper (awake-stay t a (falls_asleep t address a) a.sleepers (λ u n. same-other a t u (λ y. record y { does = Asleep address }) n) awake are)
        (record x { does = Asleep address }, thread-changed lies t (λ y. record y { does = Asleep address }) x there, refl, sym (ap (λ (z : Thread). z.process) (thread-is a t x there))),
    λ u. counts u (t == u) refl,
  )
    where
      counts : (u : ℕ) (b : Bool) → (t == u) ≡ b → tally (λ (s : Sleeper). if_same s.thread u) (a.sleepers ++ sleeper ∷ []) ≤ 1
      counts u true e =
          let g : t ≡ u = grind (arith, nat_tests, e) in
          let z = subst (λ (j : ℕ). tally (λ (s : Sleeper). if_same s.thread j) a.sleepers ≡ 0) g (tally-awake t a.sleepers awake) in
          let p = tally-push (λ (s : Sleeper). if_same s.thread u) a.sleepers sleeper in
          let one : if_same t u ≤ 1 = grind (arith, nat_tests, e) in
          omega (arith, p, z, one)
      counts u false e =
          let p = tally-push (λ (s : Sleeper). if_same s.thread u) a.sleepers sleeper in
          let z : if_same t u ≡ 0 = grind (arith, nat_tests, e) in
          let o = once u in
          omega (arith, p, z, o)

-- ---- so every call and delivery goes so
pub goes-closed : (t : ℕ) → Closed t (GoesAwake t) (GoesOn t)
goes-closed t = record {
  same = λ a. record { goes = goes-same a; sleep = λ w s o. (w, s, o) };
  joined = λ a b c f g. record { goes = goes-then a b c f.goes g.goes; sleep = λ w s o. (let x = f.sleep w s o in g.sleep x.0 x.1 x.2) };
  lift = λ a b f. record { goes = f.goes; sleep = λ x e w s o. (let y = f.sleep w s o in (y.1, y.2)) };
  quiet = λ a u f h. record { goes = goes-quiet a u f h; sleep = λ w s o. (w, sleepers-stay a (change_thread u f a) a.sleepers (λ v. same-quiet a u v f h) s, o) };
  moves = λ a f h. record { goes = goes-moves a t f h; sleep = λ w s o. (w, awake-stay t a (change_thread t f a) a.sleepers (λ v n. same-other a t v f n) w s, o) };
  process = λ a q f h. record { goes = goes-process a q f h; sleep = λ w s o. (w, sleepers-stay a (change_process q f a) a.sleepers (λ v x e. (x, e, refl, refl)) s, o) };
  gone = λ a. record { goes = goes-gone a t; sleep = λ w s o. (w, awake-stay t a (without_thread t a) a.sleepers (λ v n x e. (x, at-cut a.threads t v ∙ ap (λ b. cond b None (at a.threads v)) n ∙ e, refl, refl)) w s, o) };
  woken = λ a process address n. record { goes = wake-goes a process address n; sleep = wake-sleep a process address n t };
  ignored = λ a q signal. record { goes = ignored-goes a q signal; sleep = ignored-sleep a q signal t };
  falls = λ a address. record { goes = falls-goes t a address; sleep = falls-sleep t a address };
}

-- ---- a call begins: the thread is Called
pub called-goes : (t : ℕ) (a : Node) → GoesAwake t a (set_does t Called a)
called-goes t a = record {
  goes = goes-threads a (change a.threads t (λ x. record x { does = Called })) (changed-was a.threads t (λ x. record x { does = Called }) (λ x. (refl, refl, λ s. absurd (grind (arith, s)))));
  sleep = λ w s o. (w, awake-stay t a (set_does t Called a) a.sleepers (λ v n. same-other a t v (λ x. record x { does = Called }) n) w s, o);
}
