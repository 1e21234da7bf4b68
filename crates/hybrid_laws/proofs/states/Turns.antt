-- The turns of the pipe ends and the calls that hold descriptions, where an event changes one request of one process.
use Rattle.file_model.specs.Files.{Files}
use Rattle.hybrid_laws.proofs.maps.Tests.{both}
use Rattle.hybrid_laws.proofs.maps.Totals.{entries-same}
use Rattle.hybrid_laws.proofs.states.Pair.{pair_after, side-other, side-own}
use Rattle.hybrid_model.specs.Globals.{Coherent, TurnHolds, TurnsHold, description_held, holders, waits_or_held, is_number}
use Rattle.hybrid_model.specs.Turns.{is_turn_for, pipe_end, turn_given_up, without_turn}
use Rattle.hybrid_model.specs.Pairs.{Pair, side_of}
use Rattle.hybrid_model.specs.Shown.{status_of}
use Rattle.hybrid_model.specs.Sides.{Caller, Side, Turn, service_of, state_of, stated}
use Rattle.ikc_ring.specs.declared.CallRequest.{CallRequest}
use Rattle.kernel_model.specs.Nodes.{is_there}
use Rattle.kernel_model.specs.Progress.{ends}
use Rattle.mck_word.specs.MapLaws.{at-cut, at-put}
use Rattle.mck_word.specs.Maps.{Map, at, entries, cut}
use Rattle.request_book.specs.declared.ReqState.{ReqState}
use Rattle.std.proofs.Common.{ap, arith, refl, subst, sym, ◌∙◌}
use Rattle.std.proofs.lemmas.Bool.Decides.{nat_tests}
use Rattle.std.specs.Prelude.{Bool, List, Some, cond, count_by, false, true, ℕ, ◌==◌, ◌≡◌, None, Option, unwrap_or}

module _ (pair : Pair) (c : Coherent pair) (p : ℕ) (there : is_there pair.node p ≡ true) (side : Side) (files : Files) (frames : Map (List ℕ)) (turns : Map Turn) (q : ℕ) where
  -- Turns of other requests are those that were, and their requests and ends stay; a turn of this request is right.
  pub turns-after :
      ((e : ℕ) (t : Turn) → at turns e ≡ Some t → is_turn_for p q (Some t) ≡ false → at pair.turns e ≡ Some t)
      → ((e : ℕ) → at turns e ≡ Some (record { process = p; request = q }) → (waits_or_held (state_of side.book q) ≡ true) × (pipe_end files (service_of side.linux.services q).progress ≡ Some e))
      → ((x : ℕ) → (x == q) ≡ false → waits_or_held (state_of (side_of pair p).book x) ≡ true → waits_or_held (state_of side.book x) ≡ true)
      → ((x : ℕ) → (x == q) ≡ false → (service_of side.linux.services x).progress ≡ (service_of (side_of pair p).linux.services x).progress)
      → ((t : Turn) (e : ℕ) → at pair.turns e ≡ Some t → is_turn_for p q (Some t) ≡ false → let k = (service_of (side_of pair t.process).linux.services t.request).progress in pipe_end pair.node.files k ≡ Some e → pipe_end files k ≡ Some e)
      → TurnsHold (pair_after pair c p there side files frames turns)
  turns-after was own states progress ends e t is = go (is_turn_for p q (Some t)) refl
    where
      other-request : t.process ≡ p → is_turn_for p q (Some t) ≡ false → (t.request == q) ≡ false
      other-request a b = let y : (t.process == p) ≡ true = grind (arith, nat_tests, a) in rw y at b

      go : (b : Bool) → is_turn_for p q (Some t) ≡ b → TurnHolds (pair_after pair c p there side files frames turns) e t
      go true f =
          let a = both (t.process == p) (t.request == q) f in
          let y : t.process ≡ p = grind (arith, nat_tests, a.0) in
          let z : t.request ≡ q = grind (arith, nat_tests, a.1) in
          let r : t ≡ record { process = p; request = q } = (λ i. record { process = y i; request = z i }) in
          let k = own e (is ∙ ap Some r) in
          let s = side-own pair c p there side files frames turns p (let b : (p == p) ≡ true = grind (arith, nat_tests) in b) in
          subst (λ (x : Turn). TurnHolds (pair_after pair c p there side files frames turns) e x) (sym r)
          (record { waits = ap (λ (x : Side). waits_or_held (state_of x.book q)) s ∙ k.0; own = ap (λ (x : Side). pipe_end files (service_of x.linux.services q).progress) s ∙ k.1 })
      go false f =
          let o = was e t is f in
          let k = c.turns e t o in
          by-process (t.process == p) refl k (ends t e o f k.own)
        where
          by-process : (b : Bool) → (t.process == p) ≡ b → TurnHolds pair e t → pipe_end files (service_of (side_of pair t.process).linux.services t.request).progress ≡ Some e → TurnHolds (pair_after pair c p there side files frames turns) e t
          by-process true g k n =
              let y : t.process ≡ p = grind (arith, nat_tests, g) in
              let s = side-own pair c p there side files frames turns t.process g in
              let x = other-request y f in
              record {
                waits = ap (λ (z : Side). waits_or_held (state_of z.book t.request)) s ∙ states t.request x (ap (λ (z : ℕ). waits_or_held (state_of (side_of pair z).book t.request)) (sym y) ∙ k.waits);
                own = ap (λ (z : Side). pipe_end files (service_of z.linux.services t.request).progress) s ∙ ap (pipe_end files) (progress t.request x) ∙ ap (λ (z : ℕ). pipe_end files (service_of (side_of pair z).linux.services t.request).progress) (sym y) ∙ n;
              }
          by-process false g k n =
              let s = side-other pair c p there side files frames turns t.process g in
              record { waits = ap (λ (z : Side). waits_or_held (state_of z.book t.request)) s ∙ k.waits; own = ap (λ (z : Side). pipe_end files (service_of z.linux.services t.request).progress) s ∙ n }

-- the calls of a side hold as many, where each has the description that it had
pub holders-same : (side old : Side) → side.lwk.callers ≡ old.lwk.callers → ((t : ℕ) (x : Caller) → at old.lwk.callers t ≡ Some x → description_held (status_of side x.request) ≡ description_held (status_of old x.request)) → (d : ℕ) → holders d side ≡ holders d old
holders-same side old e h d =
    ap (λ (m : Map Caller). count_by (λ (x : ℕ × Caller). is_number d (description_held (status_of side x.1.request))) (entries m)) e
    ∙ entries-same (λ (x : ℕ × Caller). cond (is_number d (description_held (status_of side x.1.request))) 1 0) (λ (x : ℕ × Caller). cond (is_number d (description_held (status_of old x.1.request))) 1 0) old.lwk.callers
    (λ k v u. ap (λ o. cond (is_number d o) 1 0) (h k v u))

-- a state of another request stays
pub stated-other : (s : ReqState) (q : ℕ) (rows : Map (ReqState × CallRequest)) (x : ℕ) → (x == q) ≡ false → at (stated s (at rows q) q rows) x ≡ at rows x
stated-other s q rows x f = go (at rows q)
  where
    go : (o : Option (ReqState × CallRequest)) → at (stated s o q rows) x ≡ at rows x
    go None = refl
    go (Some r) = at-put rows q (s, r.1) x ∙ ap (λ b. cond b (Some (s, r.1)) (at rows x)) f

-- ---- the turn of the request that a worker serves is given up
module _ (turns : Map Turn) (p q : ℕ) where
  given-was : (end : Option ℕ) (e : ℕ) (t : Turn) → at (without_turn p q end turns) e ≡ Some t → at turns e ≡ Some t
  given-was None e t is = is
  given-was (Some d) e t is = go (is_turn_for p q (at turns d)) is
    where
      go : (b : Bool) → at (cond b (cut turns d) turns) e ≡ Some t → at turns e ≡ Some t
      go false i = i
      go true i = by-key (e == d) (sym (at-cut turns d e) ∙ i)
        where
          by-key : (b : Bool) → cond b None (at turns e) ≡ Some t → at turns e ≡ Some t
          by-key true j = absurd (grind (arith, j))
          by-key false j = j

  -- none is left on that end
  given-up-none : (e : ℕ) → at (without_turn p q (Some e) turns) e ≡ Some (record { process = p; request = q }) → ⊥
  given-up-none e is = go (is_turn_for p q (at turns e)) refl is
    where
      same : (e == e) ≡ true
      same = grind (arith, nat_tests)

      it-is : (is_turn_for p q (Some (record { process = p; request = q }))) ≡ true
      it-is = let a : (p == p) ≡ true = grind (arith, nat_tests) in let b : (q == q) ≡ true = grind (arith, nat_tests) in rw (a, b) refl

      go : (b : Bool) → is_turn_for p q (at turns e) ≡ b → at (cond b (cut turns e) turns) e ≡ Some (record { process = p; request = q }) → ⊥
      go true f i = let j = sym (at-cut turns e e ∙ ap (λ b. cond b None (at turns e)) same) ∙ i in grind (arith, j)
      go false f i = let j = ap (is_turn_for p q) i in let z = it-is in grind (arith, f, j, z)

module _ (pair : Pair) (c : Coherent pair) (p : ℕ) (there : is_there pair.node p ≡ true) (side : Side) (files : Files) (frames : Map (List ℕ)) (w q : ℕ) (serving : at (side_of pair p).linux.workers w ≡ Some q) where
  abbrev given : Map Turn
  given = turn_given_up p (side_of pair p).linux pair.node.files w pair.turns

  given-is : given ≡ without_turn p q (pipe_end pair.node.files (service_of (side_of pair p).linux.services q).progress) pair.turns
  unfolding turn_given_up
  given-is = ap (λ (o : Option ℕ). without_turn p (unwrap_or o 0) (pipe_end pair.node.files (service_of (side_of pair p).linux.services (unwrap_or o 0)).progress) pair.turns) serving

  pub turns-given-up :
      ((x : ℕ) → (x == q) ≡ false → waits_or_held (state_of (side_of pair p).book x) ≡ true → waits_or_held (state_of side.book x) ≡ true)
      → ((x : ℕ) → (x == q) ≡ false → (service_of side.linux.services x).progress ≡ (service_of (side_of pair p).linux.services x).progress)
      → ((t : Turn) (e : ℕ) → at pair.turns e ≡ Some t → is_turn_for p q (Some t) ≡ false → let k = (service_of (side_of pair t.process).linux.services t.request).progress in pipe_end pair.node.files k ≡ Some e → pipe_end files k ≡ Some e)
      → TurnsHold (pair_after pair c p there side files frames given)
  turns-given-up states progress ends = turns-after pair c p there side files frames given q (λ e t is f. was e t (ap (λ m. at m e) (sym given-is) ∙ is)) (λ e is. absurd (none e (ap (λ m. at m e) (sym given-is) ∙ is))) states progress ends
    where
      end : Option ℕ
      end = pipe_end pair.node.files (service_of (side_of pair p).linux.services q).progress

      was : (e : ℕ) (t : Turn) → at (without_turn p q (pipe_end pair.node.files (service_of (side_of pair p).linux.services q).progress) pair.turns) e ≡ Some t → at pair.turns e ≡ Some t
      was e t is = given-was pair.turns p q (pipe_end pair.node.files (service_of (side_of pair p).linux.services q).progress) e t is

      none : (e : ℕ) → at (without_turn p q (pipe_end pair.node.files (service_of (side_of pair p).linux.services q).progress) pair.turns) e ≡ Some (record { process = p; request = q }) → ⊥
      none e is =
          let k = c.turns e (record { process = p; request = q }) (was e (record { process = p; request = q }) is) in
          given-up-none pair.turns p q e (ap (λ o. at (without_turn p q o pair.turns) e) (sym k.own) ∙ is)
