-- The threads of a process, each asked once for three events: the first that may begin a change, else be interrupted, else end its wait.
use Rattle.hybrid_model.specs.Events.{may, of_thread}
use Rattle.hybrid_model.specs.Pairs.{Pair}
use Rattle.hybrid_model.specs.declared.events.Event.{Event}
use Rattle.mck_word.specs.Maps.{keys}
use Rattle.mck_word.specs.declared.Pid.{Pid}
use Rattle.pair_offers.proofs.Above.{Rises, all-above, found-taken, keys-rise, next-above, none-above, taken-rise}
use Rattle.pair_offers.proofs.First.{fewer-above, found-behind, found-first}
use Rattle.pair_offers.specs.Seeking.{begins, events_of_threads, interrupts, is_thread_of, or_else, waits}
use Rattle.run_model.specs.Walks.{is_above_last, thread_numbers}
use Rattle.std.proofs.Common.{ap, arith, refl, sym, ◌∙◌}
use Rattle.std.proofs.lemmas.Bool.Decides.{nat_tests}
use Rattle.std.specs.Prelude.{Bool, List, None, Option, Some, [], cond, false, filter, find, length, map, true, ℕ, ◌++◌, ◌<◌, ◌≡◌, ◌∷◌}

-- ---- what is found first stays
pub else-grouped : {A : Type 0} (a b c : Option A) → or_else (or_else a b) c ≡ or_else a (or_else b c)
else-grouped None b c = refl
else-grouped (Some x) b c = refl

pub else-none : {A : Type 0} (a : Option A) → or_else a None ≡ a
else-none None = refl
else-none (Some x) = refl

module _ {E : Type 0} (test : E → Bool) where
  join-found : (xs ys : List E) → find test (xs ++ ys) ≡ or_else (find test xs) (find test ys)
  join-found [] ys = refl
  join-found (x ∷ xs) ys = go (test x) (join-found xs ys)
    where
      go : (b : Bool) → find test (xs ++ ys) ≡ or_else (find test xs) (find test ys) → cond b (Some x) (find test (xs ++ ys)) ≡ or_else (cond b (Some x) (find test xs)) (find test ys)
      go true e = refl
      go false e = e

  first-else : (x : E) (xs : List E) → find test (x ∷ xs) ≡ or_else (find test (x ∷ [])) (find test xs)
  first-else x xs = join-found (x ∷ []) xs

module _ (pair : Pair) (p : Pid) where
  abbrev threads : List ℕ
  threads = thread_numbers pair p.0

  threads-rise : Rises (thread_numbers pair p.0)
  threads-rise = taken-rise (is_thread_of pair p.0) (keys pair.node.threads) (keys-rise pair.node.threads)

  -- the events of the threads above one
  abbrev pub left : (ℕ → Event) → Option ℕ → Option Event
  left f passed = find (may pair) (map f (filter (is_above_last passed) threads))

  pub all-left : (f : ℕ → Event) → find (may pair) (map f threads) ≡ left f None
  all-left f = ap (λ (ns : List ℕ). find (may pair) (map f ns)) (sym (all-above threads))

  module _ (passed : Option ℕ) where
    pub none-left : (f : ℕ → Event) → find (is_above_last passed) threads ≡ None → left f passed ≡ None
    none-left f e = ap (λ (ns : List ℕ). find (may pair) (map f ns)) (none-above passed threads e)

    module _ (t : ℕ) (next : find (is_above_last passed) threads ≡ Some t) where
      pub left-next : (f : ℕ → Event) → left f passed ≡ or_else (find (may pair) (f t ∷ [])) (left f (Some t))
      left-next f = ap (λ (ns : List ℕ). find (may pair) (map f ns)) (next-above passed t threads threads-rise next) ∙ first-else (may pair) (f t) (map f (filter (is_above_last (Some t)) threads))

      pub left-is : (f : ℕ → Event) (e : Event) → find (may pair) (f t ∷ []) ≡ Some e → left f passed ≡ Some e
      left-is f e h = left-next f ∙ ap (λ (o : Option Event). or_else o (left f (Some t))) h

      pub left-not : (f : ℕ → Event) → find (may pair) (f t ∷ []) ≡ None → left f passed ≡ left f (Some t)
      left-not f h = left-next f ∙ ap (λ (o : Option Event). or_else o (left f (Some t))) h

      -- what was found before, else of this thread
      pub left-else : (f : ℕ → Event) (all found now : Option Event) → all ≡ or_else found (left f passed) → now ≡ or_else found (find (may pair) (f t ∷ [])) → all ≡ or_else now (left f (Some t))
      left-else f all found now h e =
          h ∙ (ap (or_else found) (left-next f)
          ∙ (sym (else-grouped found (find (may pair) (f t ∷ [])) (left f (Some t))) ∙ ap (λ (o : Option Event). or_else o (left f (Some t))) (sym e)))

      pub left-fewer : length (filter (is_above_last (Some t)) threads) < length (filter (is_above_last passed) threads)
      left-fewer = fewer-above passed t threads threads-rise next

      -- it is one of the process
      pub left-own : of_thread pair.node t ≡ p.0
      left-own = let e = found-taken (is_thread_of pair p.0) (is_above_last passed) t (keys pair.node.threads) next in grind (arith, nat_tests, e)

  -- ---- all of them
  pub begins-first : (e : Event) → find (may pair) (begins pair p) ≡ Some e → find (may pair) (events_of_threads pair p) ≡ Some e
  begins-first e h = found-first (may pair) (begins pair p) (interrupts pair p ++ waits pair p) e h

  pub of-threads : (interrupt wait : Option Event) → find (may pair) (begins pair p) ≡ None → find (may pair) (interrupts pair p) ≡ interrupt → find (may pair) (waits pair p) ≡ wait
      → find (may pair) (events_of_threads pair p) ≡ or_else interrupt wait
  of-threads interrupt wait none i w =
      found-behind (may pair) (begins pair p) (interrupts pair p ++ waits pair p) none
      ∙ (join-found (may pair) (interrupts pair p) (waits pair p)
      ∙ (ap (λ (o : Option Event). or_else o (find (may pair) (waits pair p))) i ∙ ap (or_else interrupt) w))
