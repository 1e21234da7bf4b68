-- The numbers of the processes over an event: they stay, and the next number is one more where a process begins.
use Rattle.hybrid_laws.proofs.calls.Last.{born-is}
use Rattle.hybrid_laws.proofs.every.Event.{whole_event}
use Rattle.hybrid_laws.proofs.maps.Tests.{both}
use Rattle.hybrid_laws.proofs.states.Pair.{has-side}
use Rattle.hybrid_model.specs.Events.{after, after_here, may, may_here, process_of_event}
use Rattle.hybrid_model.specs.Globals.{Coherent}
use Rattle.hybrid_model.specs.Pairs.{Here, Pair, here, with_born}
use Rattle.hybrid_model.specs.Sides.{Side}
use Rattle.hybrid_model.specs.declared.events.Event.TheVariants.{Trap}
use Rattle.hybrid_model.specs.declared.events.Event.{Event}
use Rattle.kernel_model.specs.Nodes.{Process, has_process, is_there, no_process}
use Rattle.mck_word.specs.MapLaws.{at-put}
use Rattle.mck_word.specs.Maps.{Map, at, keys, put}
use Rattle.mck_word.specs.declared.Pid.{Pid}
use Rattle.mck_word.specs.declared.Tid.{Tid}
use Rattle.pair_node.proofs.LastKey.{keys-put}
use Rattle.pair_node.proofs.SameKeys.{same-keys}
use Rattle.std.proofs.Common.{ap, arith, refl, sym, ◌∙◌}
use Rattle.std.proofs.lemmas.Bool.Decides.{nat_tests}
use Rattle.std.specs.Prelude.{Bool, List, None, Option, Some, [], cond, false, is_some, map, true, ℕ, ◌++◌, ◌<◌, ◌==◌, ◌∷◌, ◌≡◌}

-- whether there is a row beside one more
some-or : {V : Type 0} (b : Bool) (v : V) (o : Option V) → is_some (cond b (Some v) o) ≡ cond b true (is_some o)
some-or true v o = refl
some-or false v o = refl

module _ (pair : Pair) (c : Coherent pair) (e : Event) (m : may pair e ≡ true) where
  abbrev p : ℕ
  p = process_of_event pair.node e

  abbrev now : Here
  now = after_here e p (here pair p)

  abbrev next : ℕ
  next = pair.node.next_number

  abbrev stays : Map Side
  stays = put pair.sides p now.side

  there : is_there pair.node p ≡ true
  there = (both (is_there pair.node p) (may_here e (here pair p)) m).0

  later : Coherent (after pair e)
  later = (whole_event pair c e m).0

  own : (q : ℕ) → is_some (at stays q) ≡ has_process pair.node q
  own q = ap is_some (at-put pair.sides p now.side q) ∙ go (q == p) refl ∙ c.known.sides_are q
    where
      go : (b : Bool) → (q == p) ≡ b → is_some (cond b (Some now.side) (at pair.sides q)) ≡ is_some (at pair.sides q)
      go false f = refl
      go true f = let g : q ≡ p = grind (arith, nat_tests, f) in sym (ap (λ j. is_some (at pair.sides j)) g ∙ ap is_some (has-side pair c.known p there))

  has-later : (q : ℕ) (o : Option (ℕ × Side)) → now.born ≡ o → has_process (after pair e).node q ≡ is_some (at (with_born stays o) q)
  has-later q o f = sym (later.known.sides_are q) ∙ ap (λ b. is_some (at (with_born stays b) q)) f

  below : (q : ℕ) → has_process pair.node q ≡ true → q < next
  below q f = go (at pair.node.processes q) refl f
    where
      go : (o : Option Process) → at pair.node.processes q ≡ o → is_some o ≡ true → q < next
      go (Some x) g h = c.known.processes_below q x g
      go None g h = absurd (grind (arith, h))

  -- the next number is that of no process
  fresh : has_process pair.node next ≡ false
  fresh = go (has_process pair.node next) refl
    where
      go : (b : Bool) → has_process pair.node next ≡ b → b ≡ false
      go false f = refl
      go true f = let l = below next f in absurd (omega (arith, l))

  unmade : now.born ≡ None → has_process (after pair e).node next ≡ false
  unmade none = has-later next None none ∙ own next ∙ fresh

  module _ (b : ℕ × Side) (some : now.born ≡ Some b) where
    number : b.0 ≡ next
    number = (born-is e p (here pair p) refl b some).number

    has-made : (q : ℕ) → has_process (after pair e).node q ≡ is_some (at (put pair.node.processes next no_process) q)
    has-made q =
        has-later q (Some b) some
        ∙ ap is_some (at-put stays b.0 b.1 q)
        ∙ some-or (q == b.0) b.1 (at stays q)
        ∙ (λ i. cond (q == number i) true (own q i))
        ∙ sym (ap is_some (at-put pair.node.processes next no_process q) ∙ some-or (q == next) no_process (at pair.node.processes q))

    made : has_process (after pair e).node next ≡ true
    made =
        has-made next ∙ ap is_some (at-put pair.node.processes next no_process next)
        ∙ (let same : (next == next) ≡ true = grind (arith, nat_tests) in ap (λ t. is_some (cond t (Some no_process) (at pair.node.processes next))) same)

    keys-made : keys (after pair e).node.processes ≡ keys pair.node.processes ++ next ∷ []
    keys-made = same-keys (after pair e).node.processes (put pair.node.processes next no_process) has-made ∙ keys-put next no_process pair.node.processes below

  pub keys-after : keys (after pair e).node.processes ≡ cond (has_process (after pair e).node next) (keys pair.node.processes ++ next ∷ []) (keys pair.node.processes)
  keys-after = go now.born refl
    where
      go : (o : Option (ℕ × Side)) → now.born ≡ o → keys (after pair e).node.processes ≡ cond (has_process (after pair e).node next) (keys pair.node.processes ++ next ∷ []) (keys pair.node.processes)
      go None f =
          same-keys (after pair e).node.processes pair.node.processes (λ q. has-later q None f ∙ own q)
          ∙ sym (ap (λ b. cond b (keys pair.node.processes ++ next ∷ []) (keys pair.node.processes)) (unmade f))
      go (Some b) f = keys-made b f ∙ sym (ap (λ t. cond t (keys pair.node.processes ++ next ∷ []) (keys pair.node.processes)) (made b f))

  -- a process begins by a trap
  pub begins-by-trap : has_process (after pair e).node next ≡ true → (t : Tid) × (e ≡ Trap t)
  begins-by-trap h = go now.born refl
    where
      go : (o : Option (ℕ × Side)) → now.born ≡ o → (t : Tid) × (e ≡ Trap t)
      go None f = absurd (let a : false ≡ true = sym (unmade f) ∙ h in grind (arith, a))
      go (Some b) f = let a = born-is e p (here pair p) refl b f in (a.thread, a.traps)

-- numbers to which one is added
pub numbers-added : (b : Bool) (ps : List Pid) (p : Pid) → map (λ (x : Pid). x.0) (cond b (ps ++ p ∷ []) ps) ≡ cond b (map (λ (x : Pid). x.0) ps ++ p.0 ∷ []) (map (λ (x : Pid). x.0) ps)
numbers-added false ps p = refl
numbers-added true ps p = pushed ps
  where
    pushed : (qs : List Pid) → map (λ (x : Pid). x.0) (qs ++ p ∷ []) ≡ map (λ (x : Pid). x.0) qs ++ p.0 ∷ []
    pushed [] = refl
    pushed (q ∷ qs) = ap (λ (ns : List ℕ). q.0 ∷ ns) (pushed qs)
