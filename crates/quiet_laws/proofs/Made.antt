-- A process that wasn't made offers nothing, so a state is quiet where the actors of those that were made offer nothing.
use Rattle.hybrid_model.specs.Events.{may, process_of_event}
use Rattle.hybrid_model.specs.Pairs.{Pair, side_of}
use Rattle.hybrid_model.specs.declared.events.Event.{Event}
use Rattle.hybrid_model.specs.Events.{may_here}
use Rattle.hybrid_model.specs.Pairs.{here}
use Rattle.kernel_model.specs.Nodes.{has_process, is_ended}
use Rattle.mck_word.specs.Identifiers.{pid}
use Rattle.mck_word.specs.Maps.{keys}
use Rattle.quiet_laws.proofs.Own.{Agree, kernel-finds, kernel_events, linux-finds, linux_events, worker-finds, worker_events}
use Rattle.quiet_laws.specs.Quiet.{IsQuiet}
use Rattle.run_model.specs.Walks.{Chosen, actors_of_process, all_workers, chosen_by, first_chosen, kernel_offer, linux_offer, offer, thread_numbers, worker_offer}
use Rattle.run_model.specs.declared.actors.Actor.TheVariants.{Kernel, Linux, Worker}
use Rattle.run_model.specs.declared.actors.Actor.{Actor}
use Rattle.std.proofs.Common.{ap, arith, refl, sym, ◌∙◌}
use Rattle.std.proofs.lemmas.Bool.Decides.{nat_tests}
use Rattle.std.specs.Cmp.{unsigned_tied}
use Rattle.std.specs.FinMap.{contains_key-keys}
use Rattle.std.specs.List.{list_any}
use Rattle.std.specs.Ordering.{eq_by_cmp, nat_cmp}
use Rattle.std.specs.Prelude.{Bool, List, None, Option, Some, [], false, find, flat_map, map, not, true, ℕ, ◌&&◌, ◌++◌, ◌==◌, ◌||◌, ◌∷◌, ◌≡◌}

never-found : {A : Type 0} (xs : List A) → find (λ _. false) xs ≡ None
never-found [] = refl
never-found (x ∷ xs) = never-found xs

module _ (pair : Pair) where
  -- ---- a process that wasn't made
  module _ (p : ℕ) (absent : has_process pair.node p ≡ false) where
    agree : Agree (may pair) (λ _. false) pair p
    agree e h k =
        let same : process_of_event pair.node e ≡ p = grind (arith, nat_tests, k) in
        ap (λ q. has_process pair.node q && not (is_ended pair.node q) && may_here e (here pair q)) same
        ∙ ap (λ b. b && not (is_ended pair.node p) && may_here e (here pair p)) absent

    no-kernel : kernel_offer pair p ≡ None
    no-kernel = kernel-finds (may pair) (λ _. false) pair p agree ∙ never-found (kernel_events pair p (thread_numbers pair p))

    no-linux : linux_offer pair p ≡ None
    no-linux = linux-finds (may pair) (λ _. false) pair p agree (keys (side_of pair p).book.rows) ∙ never-found (linux_events pair p (keys (side_of pair p).book.rows))

    no-worker : (w : ℕ) → worker_offer pair p w ≡ None
    no-worker w = worker-finds (may pair) (λ _. false) pair p agree w ∙ never-found (worker_events p w)

    not-chosen : (a : Actor) (as_ : List Actor) → offer pair a ≡ None → first_chosen pair as_ ≡ None → first_chosen pair (a ∷ as_) ≡ None
    not-chosen a as_ e h =
        ap (λ (o : Option Event). elim (elim o as (λ _. Option Chosen) [ None ↦ None | Some d ↦ Some (record { actor = a; event = d }) ]) as (λ _. Option Chosen) [ None ↦ first_chosen pair as_ | Some c ↦ Some c ]) e
        ∙ h

    no-workers : (ws : List ℕ) → first_chosen pair (map (λ w. Worker (pid p) w) ws) ≡ None
    no-workers [] = refl
    no-workers (w ∷ ws) = not-chosen (Worker (pid p) w) (map (λ v. Worker (pid p) v) ws) (no-worker w) (no-workers ws)

    absent-quiet : first_chosen pair (actors_of_process pair p) ≡ None
    absent-quiet =
        let ws = map (λ w. Worker (pid p) w) (all_workers pair) in
        not-chosen (Kernel (pid p)) (Linux (pid p) ∷ ws) no-kernel (not-chosen (Linux (pid p)) ws no-linux (no-workers (all_workers pair)))

  -- ---- one that was made is among those whose actors were asked
  parts : (xs ys : List Actor) → first_chosen pair (xs ++ ys) ≡ None → (first_chosen pair xs ≡ None) × (first_chosen pair ys ≡ None)
  parts [] ys h = (refl, h)
  parts (x ∷ xs) ys h = go (chosen_by pair x) (parts xs ys) h
    where
      go : (o : Option Chosen) → (first_chosen pair (xs ++ ys) ≡ None → (first_chosen pair xs ≡ None) × (first_chosen pair ys ≡ None))
          → elim o as (λ _. Option Chosen) [ None ↦ first_chosen pair (xs ++ ys) | Some c ↦ Some c ] ≡ None
          → (elim o as (λ _. Option Chosen) [ None ↦ first_chosen pair xs | Some c ↦ Some c ] ≡ None) × (first_chosen pair ys ≡ None)
      go None r k = r k
      go (Some c) r k = absurd (grind (arith, k))

  among : (p : ℕ) (ps : List ℕ) → list_any (eq_by_cmp nat_cmp p) ps ≡ true → first_chosen pair (flat_map (actors_of_process pair) ps) ≡ None → first_chosen pair (actors_of_process pair p) ≡ None
  among p [] m h = absurd (grind (arith, m))
  among p (q ∷ ps) m h =
      let both = parts (actors_of_process pair q) (flat_map (actors_of_process pair) ps) h in
      go (p == q) refl (sym (ap (λ b. b || list_any (eq_by_cmp nat_cmp p) ps) (unsigned_tied p q)) ∙ m) both.0 (λ k. among p ps k both.1)
    where
      go : (b : Bool) → (p == q) ≡ b → (b || list_any (eq_by_cmp nat_cmp p) ps) ≡ true → first_chosen pair (actors_of_process pair q) ≡ None
          → (list_any (eq_by_cmp nat_cmp p) ps ≡ true → first_chosen pair (actors_of_process pair p) ≡ None) → first_chosen pair (actors_of_process pair p) ≡ None
      go true e k h r = let same : p ≡ q = grind (arith, nat_tests, e) in ap (λ n. first_chosen pair (actors_of_process pair n)) same ∙ h
      go false e k h r = r k

  pub made-quiet : first_chosen pair (flat_map (actors_of_process pair) (keys pair.node.processes)) ≡ None → IsQuiet pair
  made-quiet h = λ p. go p (has_process pair.node p) refl
    where
      go : (p : ℕ) (b : Bool) → has_process pair.node p ≡ b → first_chosen pair (actors_of_process pair p) ≡ None
      go p true e = among p (keys pair.node.processes) (sym (contains_key-keys pair.node.processes p) ∙ e) h
      go p false e = absent-quiet p e
