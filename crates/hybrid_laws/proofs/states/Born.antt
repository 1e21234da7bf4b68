-- From one process to the whole state, where an event of the lightweight kernel makes a process, whose side is new.
use Rattle.file_model.specs.Files.{description_of}
use Rattle.hybrid_laws.proofs.maps.Sums.{counted_in, total-put}
use Rattle.hybrid_laws.proofs.node.Sound.{Sound, stopped-total}
use Rattle.hybrid_laws.proofs.states.Node.{left_with}
use Rattle.hybrid_laws.specs.OneProcess.{with_table}
use Rattle.hybrid_laws.specs.Stopped.{stops}
use Rattle.hybrid_model.specs.Coherence.{OfProcess}
use Rattle.hybrid_model.specs.Globals.{CallsHold, Coherent, Empty, Frames, TurnsHold, copies, holders, ring_number, table_of, waits_or_held}
use Rattle.hybrid_model.specs.Turns.{pipe_end}
use Rattle.hybrid_model.specs.Pairs.{Pair, side_of}
use Rattle.hybrid_model.specs.Sides.{Row, Side, Turn, new_side, service_of, state_in, state_of}
use Rattle.hybrid_model.specs.Tallies.{Reads}
use Rattle.ikc_ring.specs.declared.CallRequest.{CallRequest}
use Rattle.kernel_model.specs.Nodes.{Node, has_process, instructions_in_all, is_ended}
use Rattle.kernel_model.specs.OneKernel.{first_free_number}
use Rattle.mck_word.specs.MapLaws.{at-none, at-put}
use Rattle.mck_word.specs.Maps.{Map, at, count, total}
use Rattle.request_book.specs.declared.ReqState.{ReqState}
use Rattle.std.proofs.Common.{ap, arith, refl, subst, sym, ◌∙◌}
use Rattle.std.proofs.lemmas.Bool.Decides.{nat_tests}
use Rattle.std.specs.Prelude.{Bool, List, None, Option, Some, cond, false, if◌then◌else◌, is_some, length, true, unwrap_or, ℕ, ◌+◌, ◌-◌, ◌<◌, ◌==◌, ◌≡◌, ◌≢◌, ◌≤◌}
use mathlib.Core.Path.{fun_ext}

module _ (pair : Pair) (c : Coherent pair) (p : ℕ) (absent : at pair.sides p ≡ None) (side : Side) (node : Node) (frames : Map (List ℕ)) (free : List ℕ) (last : Map ℕ) where
  abbrev later : Pair
  later = left_with pair p side node frames free last

  was-new : side_of pair p ≡ new_side 0
  was-new = ap (λ (o : Option Side). unwrap_or o (new_side 0)) absent

  -- so none of its requests waits
  no-waits : (x : ℕ) → waits_or_held (state_of (side_of pair p).book x) ≡ true → ⊥
  no-waits x u = let a = ap (λ (s : Side). waits_or_held (state_of s.book x)) was-new in let b = ap (λ (o : Option (ReqState × CallRequest)). waits_or_held (state_in o)) (at-none {V = ReqState × CallRequest} x) in grind (arith, a, b, u)

  own-side : (q : ℕ) → (q == p) ≡ true → side_of later q ≡ side
  own-side q e = ap (λ (o : Option Side). unwrap_or o (new_side 0)) (at-put pair.sides p side q ∙ ap (λ b. cond b (Some side) (at pair.sides q)) e)

  other-side : (q : ℕ) → (q == p) ≡ false → side_of later q ≡ side_of pair q
  other-side q e = ap (λ (o : Option Side). unwrap_or o (new_side 0)) (at-put pair.sides p side q ∙ ap (λ b. cond b (Some side) (at pair.sides q)) e)

  by-side : (P : ℕ → Side → Type 0) → P p side → ((q : ℕ) → p ≢ q → P q (side_of pair q)) → (q : ℕ) → P q (side_of later q)
  by-side P own others q = go (q == p) refl
    where
      go : (b : Bool) → (q == p) ≡ b → P q (side_of later q)
      go true e = let y : p ≡ q = grind (arith, nat_tests, e) in subst (λ (s : Side). P q s) (sym (own-side q e)) (subst (λ (x : ℕ). P x side) y own)
      go false e = subst (λ (s : Side). P q s) (sym (other-side q e)) (others q (λ g. grind (arith, nat_tests, e, g)))

  sum-sides : (f : Side → ℕ) → total f later.sides ≡ total f pair.sides + f side
  sum-sides f = let a = total-put f pair.sides p side in let b = ap (counted_in f) absent in omega (arith, a, b)

  -- what an event that makes the process has to keep
  pub record KeepingBorn : Type 0 where
    pub own : OfProcess p side node pair.workers (ring_number pair)
    pub others : (q : ℕ) → p ≢ q → OfProcess q (side_of pair q) node pair.workers (ring_number pair)
    pub framed : Frames (with_table (table_of pair) p (at side.lwk.table)) free
    pub rows_below : (i : ℕ) (r : Row) → at side.lwk.table i ≡ Some r → r.0.0 < pair.node.frame_count
    pub free_below : (f : ℕ) → 1 ≤ copies f free → f < pair.node.frame_count
    pub counted : length free + count side.lwk.table ≡ length pair.free
    pub frame_count : node.frame_count ≡ pair.node.frame_count
    pub made_others : (q : ℕ) → p ≢ q → has_process node q ≡ has_process pair.node q
    pub made_own : has_process node p ≡ true
    pub ended_others : (q : ℕ) → p ≢ q → is_ended node q ≡ true → is_ended pair.node q ≡ true
    pub ended_own : is_ended node p ≡ true → Empty side
    pub rings : length side.to_linux ≡ pair.rings
    pub ends : (t : Turn) (e : ℕ) → at pair.turns e ≡ Some t → let j = (service_of (side_of pair t.process).linux.services t.request).progress in pipe_end pair.node.files j ≡ Some e → pipe_end node.files j ≡ Some e
    pub held : (d : ℕ) → (description_of node.files d).calls ≡ (description_of pair.node.files d).calls + holders d side
    pub calls : CallsHold side
    pub sound : Sound node
    pub paid : (side.book.next - 1) + (node.next_number - first_free_number) + total stops node.threads + instructions_in_all pair.node ≤ (pair.node.next_number - first_free_number) + total stops pair.node.threads + instructions_in_all node
    pub limit : instructions_in_all node ≤ node.limit

  module _ (k : KeepingBorn) where
    tables-same : table_of later ≡ with_table (table_of pair) p (at side.lwk.table)
    tables-same = fun_ext (λ q. go q (q == p) refl)
      where
        go : (q : ℕ) (b : Bool) → (q == p) ≡ b → table_of later q ≡ (if b then at side.lwk.table else table_of pair q)
        go q true e = ap (λ (s : Side). at s.lwk.table) (own-side q e)
        go q false e = ap (λ (s : Side). at s.lwk.table) (other-side q e)

    row-below : (q i : ℕ) (r : Row) → table_of later q i ≡ Some r → r.0.0 < node.frame_count
    row-below q i r e = subst (λ (n : ℕ). r.0.0 < n) (sym k.frame_count)
        (by-side (λ x (s : Side). at s.lwk.table i ≡ Some r → r.0.0 < pair.node.frame_count) (k.rows_below i r) (λ x n f. c.counted.rows_below x i r f) q e)

    turns-hold : TurnsHold later
    turns-hold e t i =
        let h = c.turns e t i in
        let a = by-side (λ q (s : Side). waits_or_held (state_of (side_of pair q).book t.request) ≡ true → (waits_or_held (state_of s.book t.request) ≡ true) × ((service_of s.linux.services t.request).progress ≡ (service_of (side_of pair q).linux.services t.request).progress))
        (λ u. absurd (no-waits t.request u)) (λ q n u. (u, refl)) t.process h.waits in
        record { waits = a.0; own = ap (pipe_end node.files) a.1 ∙ k.ends t e i h.own }

    each-rings : (q : ℕ) (s : Side) → at later.sides q ≡ Some s → length s.to_linux ≡ pair.rings
    each-rings q s e = go (q == p) (sym (at-put pair.sides p side q) ∙ e)
      where
        go : (b : Bool) → cond b (Some side) (at pair.sides q) ≡ Some s → length s.to_linux ≡ pair.rings
        go true u = let y : side ≡ s = cc in ap (λ (x : Side). length x.to_linux) (sym y) ∙ k.rings
        go false u = c.rings.each q s u

    sides-are : (q : ℕ) → is_some (at later.sides q) ≡ has_process node q
    sides-are q = ap is_some (at-put pair.sides p side q) ∙ go (q == p) refl
      where
        go : (b : Bool) → (q == p) ≡ b → is_some (cond b (Some side) (at pair.sides q)) ≡ has_process node q
        go true e = let y : p ≡ q = grind (arith, nat_tests, e) in sym k.made_own ∙ ap (has_process node) y
        go false e = c.known.sides_are q ∙ sym (k.made_others q (λ g. grind (arith, nat_tests, e, g)))

    pub coherent-born : Coherent later
    coherent-born = record {
      whole = by-side (λ q s. OfProcess q s node pair.workers (ring_number pair)) k.own k.others;
      frames = subst (λ (t : ℕ → Reads Row). Frames t free) (sym tables-same) k.framed;
      counted = record {
        rows_below = row-below;
        free_below = λ f l. subst (λ (n : ℕ). f < n) (sym k.frame_count) (k.free_below f l);
        counted = (let a = sum-sides (λ (s : Side). count s.lwk.table) in let b = k.counted in let d = c.counted.counted in let e = k.frame_count in omega (arith, a, b, d, e));
      };
      ended = by-side (λ q s. is_ended node q ≡ true → Empty s) k.ended_own (λ q n e. c.ended q (k.ended_others q n e));
      turns = turns-hold;
      rings = record { cores = c.rings.cores; rings = c.rings.rings; each = each-rings };
      held = λ d. (let a = sum-sides (holders d) in let b = k.held d in let e = c.held d in omega (arith, a, b, e));
      calls = by-side (λ q s. CallsHold s) k.calls (λ q n. c.calls q);
      known = record { threads_below = k.sound.threads_below; threads_there = k.sound.threads_there; processes_below = k.sound.processes_below; sides_are = sides-are };
      sleeping = k.sound.sleeping;
      places = k.sound.places;
      heaps = k.sound.heaps;
      numbers = record {
        paid = (let a = sum-sides (λ (s : Side). s.book.next - 1) in let b = k.paid in let d = c.numbers.paid in let e = stopped-total pair.node.threads in let f = stopped-total node.threads in omega (arith, a, b, d, e, f));
        limit = k.limit;
      };
    }
