-- What an actor offers may happen: it is the first of a list that passes the test, or a core's offer for one of its threads.
use Rattle.hybrid_model.specs.Events.{may}
use Rattle.hybrid_model.specs.Pairs.{Pair}
use Rattle.hybrid_model.specs.declared.events.Event.TheVariants.{Trap, Deliver, Intake, Reap, Miss, Pin, Copy, Unpin, Act, Park, Finish, AckClear}
use Rattle.hybrid_model.specs.declared.events.Event.{Event}
use Rattle.mck_word.specs.Identifiers.{pid, tid}
use Rattle.mck_word.specs.Maps.{at, keys}
use Rattle.offer_laws.proofs.Silence.{answers, assigns, begins, fetches, interrupts, lines, unparks, waits}
use Rattle.run_model.specs.Walks.{core_event, core_offer, first_event, first_that_may, is_above_last, offer, run_of}
use Rattle.run_model.specs.declared.actors.Actor.TheVariants.{Core, Kernel, Linux, Worker, Script as ScriptActor}
use Rattle.run_model.specs.declared.actors.Actor.{Actor}
use Rattle.std.proofs.Common.{arith, refl, subst}
use Rattle.std.specs.Prelude.{Bool, List, None, Option, Some, [], cond, false, filter, find, true, ℕ, ◌%◌, ◌++◌, ◌==◌, ◌∷◌, ◌≡◌}

pub find-passes : {X : Type 0} (test : X → Bool) (xs : List X) (x : X) → find test xs ≡ Some x → test x ≡ true
find-passes test [] x e = absurd (grind (arith, e))
find-passes {X} test (y ∷ ys) x e = go (test y) refl e (find-passes test ys x)
  where
    go : (b : Bool) → test y ≡ b → cond b (Some y) (find test ys) ≡ Some x → (find test ys ≡ Some x → test x ≡ true) → test x ≡ true
    go true f e r = let z : y ≡ x = cc in subst (λ (u : X). test u ≡ true) z f
    go false f e r = r e

module _ (pair : Pair) where
  first-may : (events : List Event) (e : Event) → first_that_may pair events ≡ Some e → may pair e ≡ true
  first-may events e f = find-passes (may pair) events e f

  core_event-may : (core t : ℕ) (e : Event) → core_event pair core t ≡ Some e → may pair e ≡ true
  core_event-may core t e f = go (t % pair.cores == core) f
    where
      go : (b : Bool) → cond b (first_that_may pair (Trap (tid t) ∷ Deliver (tid t) ∷ run_of pair core t ∷ [])) None ≡ Some e → may pair e ≡ true
      go true f = first-may (Trap (tid t) ∷ Deliver (tid t) ∷ run_of pair core t ∷ []) e f
      go false f = absurd (grind (arith, f))

  first_event-may : (core : ℕ) (ts : List ℕ) (e : Event) → first_event pair core ts ≡ Some e → may pair e ≡ true
  first_event-may core [] e f = absurd (grind (arith, f))
  first_event-may core (t ∷ ts) e f = go (core_event pair core t) (core_event-may core t e) f (first_event-may core ts e)
    where
      go : (o : Option Event) → (o ≡ Some e → may pair e ≡ true) → elim o as (λ _. Option Event) [ None ↦ first_event pair core ts | Some d ↦ Some d ] ≡ Some e → (first_event pair core ts ≡ Some e → may pair e ≡ true) → may pair e ≡ true
      go None a f r = r f
      go (Some d) a f r = a f

  core_offer-may : (core : ℕ) (e : Event) → core_offer pair core ≡ Some e → may pair e ≡ true
  core_offer-may core e f = go (first_event pair core above) (first_event-may core above e) f
    where
      above : List ℕ
      above = filter (is_above_last (at pair.last core)) (keys pair.node.threads)

      go : (o : Option Event) → (o ≡ Some e → may pair e ≡ true) → elim o as (λ _. Option Event) [ None ↦ first_event pair core (keys pair.node.threads) | Some d ↦ Some d ] ≡ Some e → may pair e ≡ true
      go None a f = first_event-may core (keys pair.node.threads) e f
      go (Some d) a f = a f

  pub offer-may : (a : Actor) (e : Event) → offer pair a ≡ Some e → may pair e ≡ true
  offer-may (Core core) e f = core_offer-may core e f
  offer-may (Kernel p) e f = first-may (Intake (pid p.0) ∷ answers pair p.0 ++ begins pair p.0 ++ interrupts pair p.0 ++ waits pair p.0 ++ (Reap (pid p.0) ∷ [])) e f
  offer-may (Linux p) e f = first-may (fetches pair p.0 ++ AckClear (pid p.0) ∷ assigns pair p.0 ++ unparks pair p.0) e f
  offer-may (Worker p w) e f = first-may (let x = pid p.0 in Miss x w ∷ Pin x w ∷ Copy x w ∷ Unpin x w ∷ Act x w ∷ Park x w ∷ Finish x w ∷ []) e f
  offer-may ScriptActor e f = first-may (lines pair) e f
