-- Runs of the whole state, one after another.
use Rattle.hybrid_model.specs.declared.events.Event.TheVariants as Events
use Rattle.hybrid_laws.proofs.maps.Tests.{both}
use Rattle.hybrid_laws.proofs.node.Sound.{same-ended, same-made}
use Rattle.hybrid_laws.proofs.node.Threads.{thread-is}
use Rattle.hybrid_laws.proofs.run.Run.{MayRun, may-run, runs-may}
use Rattle.hybrid_laws.proofs.run.Whole.{Runs_on, run-on}
use Rattle.hybrid_laws.proofs.states.Quiet.{apart-own}
use Rattle.hybrid_model.specs.Events.{after, may, may_here, of_thread}
use Rattle.hybrid_model.specs.Globals.{Coherent}
use Rattle.hybrid_model.specs.OneProcess.{memory_here}
use Rattle.hybrid_model.specs.Pairs.{Here, Pair, here, put_here}
use Rattle.hybrid_model.specs.Run.{executed_in_run, left_of_limit, run, run_for}
use Rattle.hybrid_model.specs.Sides.{new_side}
use Rattle.kernel_model.specs.Nodes.{Thread, is_there, ready_to_run}
use Rattle.kernel_model.specs.Traps.{Ran, may_run}
use Rattle.mck_word.specs.MapLaws.{at-put}
use Rattle.mck_word.specs.Maps.{at}
use Rattle.mck_word.specs.declared.Tid.{Tid}
use Rattle.run_laws.proofs.GoingOn.{GoesOn, all-on}
use Rattle.run_laws.proofs.Joined.{length-most, length-some, length-whole, ready_in}
use Rattle.run_laws.proofs.OneProcess.{executed-joins, executed-stops, here-joins, here-stops}
use Rattle.run_laws.proofs.Twice.{put-twice}
use Rattle.run_laws.specs.Runs.{is_ready, run_length}
use Rattle.std.proofs.Common.{ap, arith, refl, sym, ◌∙◌}
use Rattle.std.proofs.lemmas.Bool.Decides.{nat_tests}
use Rattle.std.specs.Prelude.{Bool, None, Some, cond, false, nat_le, not, true, unwrap_or, ℕ, ◌%◌, ◌&&◌, ◌+◌, ◌-◌, ◌==◌, ◌≡◌, ◌≤◌}

-- ---- one process, put back
module _ (pair : Pair) (p : ℕ) (h : Here) (none : h.born ≡ None) where
  put-own : put_here pair p h ≡ put_here pair p (record h { born = None })
  put-own = λ i. put_here pair p (record h { born = none i })

  pub here-put : here (put_here pair p h) p ≡ h
  here-put = ap (λ x. here x p) put-own ∙ side ∙ (λ i. record h { born = sym none i })
    where
      found : at (put_here pair p (record h { born = None })).sides p ≡ Some h.side
      found = at-put pair.sides p h.side p ∙ (let e : (p == p) ≡ true = grind (arith, nat_tests) in ap (λ b. cond b (Some h.side) (at pair.sides p)) e)

      side : here (put_here pair p (record h { born = None })) p ≡ record h { born = None }
      side = λ i. record h { side = unwrap_or (found i) (new_side 0); born = None }

  pub put-put : (g : Here) → g.born ≡ None → put_here (put_here pair p h) p g ≡ put_here pair p g
  put-put g gone =
      ap (λ x. put_here x p g) put-own ∙ (λ i. put_here (put_here pair p (record h { born = None })) p (record g { born = gone i }))
      ∙ (let s = put-twice pair.sides p h.side g.side in λ i. record (put_here pair p (record g { born = None })) { sides = s i })
      ∙ (λ i. put_here pair p (record g { born = sym gone i }))

-- ---- a Run of another count
pub may-of : (pair : Pair) (core : ℕ) (t : Tid) → may pair (Events.Run core t 1) ≡ true → (n : ℕ) → 1 ≤ n → n ≤ 64 → n ≤ left_of_limit pair.node → may pair (Events.Run core t n) ≡ true
may-of pair core t m n a b c = (let p = of_thread pair.node t.0 in five (is_there pair.node p) (may_run pair.node t.0) (t.0 % pair.cores == core) (nat_le 1 (left_of_limit pair.node)) m
    (nat_le 1 n) (nat_le n 64) (nat_le n (left_of_limit pair.node)) (grind (arith, nat_tests, a)) (grind (arith, nat_tests, b)) (grind (arith, nat_tests, c)))
  where
    five : (a b c d : Bool) → (a && (b && c && true && true && d)) ≡ true → (e f g : Bool) → e ≡ true → f ≡ true → g ≡ true → (a && (b && c && e && f && g)) ≡ true
    five true true true d k e f g x y z = rw (x, y, z) refl
    five true true false d k e f g x y z = absurd (grind (arith, k))
    five true false c d k e f g x y z = absurd (grind (arith, k))
    five false b c d k e f g x y z = absurd (grind (arith, k))

-- ---- two Runs
module _ (pair : Pair) (c : Coherent pair) (core : ℕ) (t : Tid) (n : ℕ) (m : may pair (Events.Run core t n) ≡ true) where
  abbrev p : ℕ
  p = of_thread pair.node t.0

  abbrev h : Here
  h = here pair p

  abbrev begins : Ran
  begins = record { node = pair.node; memory = memory_here h }

  abbrev pub later : Pair
  later = after pair (Events.Run core t n)

  tests : (is_there pair.node p ≡ true) × (may_here (Events.Run core t n) h ≡ true)
  tests = both (is_there pair.node p) (may_here (Events.Run core t n) h) m

  w : MayRun t.0 n h
  w = may-run core t.0 n h tests.1

  begins-ready : is_ready pair t ≡ true
  begins-ready = let r = w.runs.ready in ap (λ (x : Thread). ready_to_run x.does) (thread-is pair.node t.0 w.runs.thread w.runs.there) ∙ ap ready_to_run r

  on-core : (t.0 % pair.cores == core) ≡ true
  on-core =
      let a = both (may_run pair.node t.0 && t.0 % pair.cores == core && nat_le 1 n && nat_le n 64) (nat_le n (left_of_limit pair.node)) tests.1 in
      let b = both (may_run pair.node t.0 && t.0 % pair.cores == core && nat_le 1 n) (nat_le n 64) a.0 in
      let d = both (may_run pair.node t.0 && t.0 % pair.cores == core) (nat_le 1 n) b.0 in
      (both (may_run pair.node t.0) (t.0 % pair.cores == core) d.0).1

  pub some : 1 ≤ n
  some = w.some

  pub within : n ≤ left_of_limit pair.node
  within = w.left

  -- the longest that it executes
  pub executes-most : run_length pair t n ≤ n
  executes-most = length-most t.0 n begins

  pub executes-some : 1 ≤ run_length pair t n
  executes-some = length-some t.0 n begins w.some

  module _ (ready : is_ready later t ≡ true) where
    still : ready_in t.0 (run_for n t.0 begins) ≡ true
    unfolding run
    still = ready

    pub goes-on : GoesOn t.0 pair.node later.node n
    unfolding run
    goes-on = all-on t.0 n begins w.runs still

    same-process : of_thread later.node t.0 ≡ p
    same-process = goes-on.process

    pub executes-all : run_length pair t n ≡ n
    executes-all = length-whole t.0 n begins still

    then-here : here later p ≡ run t.0 n h
    unfolding run
    then-here = here-put pair p (run t.0 n h) refl

    module _ (k : ℕ) where
      pub run-run : after later (Events.Run core t k) ≡ after pair (Events.Run core t (n + k))
      unfolding run
      run-run =
          ap (λ q. put_here later q (run t.0 k (here later q))) same-process
          ∙ ap (λ x. put_here later p (run t.0 k x)) then-here
          ∙ put-put pair p (run t.0 n h) refl (run t.0 k (run t.0 n h)) refl
          ∙ ap (put_here pair p) (here-joins t.0 n k h (apart-own pair c p) still)

      pub length-length : run_length pair t (n + k) ≡ n + run_length later t k
      length-length =
          executed-joins t.0 n k h (apart-own pair c p) still
          ∙ ap (λ x. n + executed_in_run t.0 k x) (sym then-here)
          ∙ ap (λ q. n + executed_in_run t.0 k (here later q)) (sym same-process)

    -- the limit is as much nearer
    on : Runs_on t.0 pair.node later.node
    unfolding run
    on = run-on n t.0 begins

    pub left-later : left_of_limit later.node ≡ left_of_limit pair.node - n
    left-later = let l = on.limit in let g = goes-on.more in omega (arith, l, g)

    -- and it may run on
    there-later : is_there later.node (of_thread later.node t.0) ≡ true
    there-later =
        let made = same-made pair.node later.node on.stays p in
        let ended = same-ended pair.node later.node on.stays p in
        ap (is_there later.node) same-process ∙ (λ i. made i && not (ended i)) ∙ tests.0

    cores-later : later.cores ≡ pair.cores
    unfolding run
    cores-later = refl

    pub may-later : (k : ℕ) → may later (Events.Run core t k) ≡ (nat_le 1 k && nat_le k 64 && nat_le (n + k) (left_of_limit pair.node))
    may-later k =
        let core-later = ap (λ x. t.0 % x == core) cores-later ∙ on-core in
        tests-are (is_there later.node (of_thread later.node t.0)) (may_run later.node t.0) (t.0 % later.cores == core) (nat_le 1 k) (nat_le k 64) (nat_le k (left_of_limit later.node))
        there-later (runs-may later.node t.0 goes-on.runs) core-later
        ∙ ap (λ b. nat_le 1 k && nat_le k 64 && b) (limits (left_of_limit pair.node) (left_of_limit later.node) left-later within)
      where
        tests-are : (a b d e f g : Bool) → a ≡ true → b ≡ true → d ≡ true → (a && (b && d && e && f && g)) ≡ (e && f && g)
        tests-are a b d e f g x y z = rw (x, y, z) refl

        limits : (l r : ℕ) → r ≡ l - n → n ≤ l → nat_le k r ≡ nat_le (n + k) l
        limits l r x y = grind (arith, nat_tests, x, y)

  -- a Run that stops is all that a longer one does
  module _ (stopped : is_ready later t ≡ false) (k : ℕ) where
    halted : ready_in t.0 (run_for n t.0 begins) ≡ false
    unfolding run
    halted = stopped

    pub run-stopped : after pair (Events.Run core t (n + k)) ≡ later
    run-stopped = ap (put_here pair p) (here-stops t.0 n k h begins-ready halted)

    pub length-stopped : run_length pair t (n + k) ≡ run_length pair t n
    length-stopped = executed-stops t.0 n k h begins-ready halted
