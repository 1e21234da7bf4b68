-- An effect on a process's memory in the whole state: what it keeps of frames, and of the other processes' bytes; and a break set in bounds.
use Rattle.hybrid_laws.proofs.maps.Reading.{each-same}
use Rattle.hybrid_laws.proofs.maps.Sums.{counted_in, total-same}
use Rattle.hybrid_laws.proofs.memory.Dropping.{copies-insert}
use Rattle.hybrid_laws.proofs.memory.EffectCounts.{Absent, Below, below-effect, in-effect}
use Rattle.hybrid_laws.proofs.memory.Effects.{frames_effect, length-add}
use Rattle.hybrid_laws.proofs.node.Primitives.{at-change}
use Rattle.hybrid_laws.proofs.node.Sound.{Sound}
use Rattle.hybrid_laws.proofs.node.Threads.{process-changed}
use Rattle.hybrid_laws.proofs.states.Quiet.{own-frames}
use Rattle.hybrid_laws.specs.OneProcess.{with_table}
use Rattle.hybrid_model.specs.Globals.{Coherent, Frames, HeapHolds, table_of, copies}
use Rattle.hybrid_model.specs.OneProcess.{set_break, space_here}
use Rattle.hybrid_model.specs.Pairs.{Pair, here, side_of}
use Rattle.hybrid_model.specs.Shown.{shown_call, shown_own}
use Rattle.hybrid_model.specs.Sides.{Row, Side, new_side}
use Rattle.hybrid_model.specs.Spaces.{Space, after_effect, drop_page, add_page, first_number, give_back, protect_page, rest_numbers, shown_row}
use Rattle.hybrid_model.specs.Tallies.{Reads}
use Rattle.kernel_model.specs.MemoryCalls.{Effect, most_heap}
use Rattle.kernel_model.specs.Nodes.{Node, Process, has_ended, has_process, is_there, instructions_in_all, is_ended}
use Rattle.kernel_model.specs.Pages.{pages_count, zero_page}
use Rattle.kernel_model.specs.Spaces.{each_in, each_page}
use Rattle.mck_flags.specs.declared.rights.Rights.{Rights}
use Rattle.mck_word.specs.MapLaws.{at-cut, at-put}
use Rattle.mck_word.specs.Maps.{at, count, each}
use Rattle.std.proofs.Common.{ap, arith, refl, subst, sym, ◌∙◌}
use Rattle.std.proofs.lemmas.Bool.Decides.{nat_tests}
use Rattle.std.specs.Prelude.{Bool, List, None, Option, Some, cond, false, is_some, length, not, option_map, true, ℕ, ◌&&◌, ◌+◌, ◌-◌, ◌<◌, ◌==◌, ◌≡◌, ◌≤◌, [], suc, unwrap_or, zero, ◌∷◌}

module _ (pair : Pair) (c : Coherent pair) (p : ℕ) (e : Effect) (l : e.added.hi - e.added.lo ≤ length (each_in drop_page e.dropped (space_here (here pair p))).free) (none : Absent e (space_here (here pair p))) where
  abbrev pub space : Space
  space = after_effect e (space_here (here pair p))

  pub framed-effect : Frames (with_table (table_of pair) p (at space.table)) space.free
  framed-effect = frames_effect (table_of pair) p e (space_here (here pair p)) l (own-frames pair c p)

  pub below-after : Below pair.node.frame_count space
  below-after = below-effect pair.node.frame_count e (space_here (here pair p)) l (record { rows = c.counted.rows_below p; free = c.counted.free_below })

  pub counted-after : length space.free + count space.table ≡ length pair.free + count (side_of pair p).lwk.table
  counted-after = in-effect e (space_here (here pair p)) l none

-- a frame that is neither free nor in the table keeps its bytes
pub record Elsewhere (f : ℕ) (sp : Space) : Type 0 where
  pub free : copies f sp.free ≡ 0
  pub rows : (i : ℕ) (r : Row) → at sp.table i ≡ Some r → (r.0.0 == f) ≡ false

-- and stays so
pub record Untouched (f : ℕ) (a b : Space) : Type 0 where
  pub elsewhere : Elsewhere f b
  pub bytes : at b.frames f ≡ at a.frames f

module _ (f : ℕ) where
  drop-else : (i : ℕ) (sp : Space) → Elsewhere f sp → Untouched f sp (drop_page i sp)
  unfolding drop_page
  drop-else i sp e = record {
    elsewhere = record { free = go (at sp.table i) refl; rows = λ j r k. row j r (j == i) (sym (at-cut sp.table i j) ∙ k) };
    bytes = refl;
  }
    where
      row : (j : ℕ) (r : Row) (x : Bool) → cond x None (at sp.table j) ≡ Some r → (r.0.0 == f) ≡ false
      row j r true k = absurd (grind (arith, k))
      row j r false k = e.rows j r k

      go : (o : Option Row) → at sp.table i ≡ o → copies f (give_back o sp.free) ≡ 0
      go None k = e.free
      go (Some r) k = let d = e.rows i r k in let c = copies-insert f r.0.0 sp.free in let z = e.free in grind (arith, nat_tests, d, c, z)

  add-else : (rights : Rights) (i : ℕ) (sp : Space) → 1 ≤ length sp.free → Elsewhere f sp → Untouched f sp (add_page rights i sp)
  unfolding add_page
  add-else rights i sp l e = record {
    elsewhere = record { free = rest sp.free e.free; rows = λ j r k. row j r (j == i) (sym (at-put sp.table i (record { 0 = first_number sp.free }, rights) j) ∙ k) };
    bytes = at-put sp.frames (first_number sp.free) zero_page f ∙ (let d = differ sp.free l e.free in rw d refl);
  }
    where
      rest : (o : List ℕ) → copies f o ≡ 0 → copies f (rest_numbers o) ≡ 0
      rest [] k = k
      rest (g ∷ gs) k = omega (arith, k)

      differ : (o : List ℕ) → 1 ≤ length o → copies f o ≡ 0 → (f == first_number o) ≡ false
      differ [] k m = absurd (omega (arith, k))
      differ (g ∷ gs) k m = grind (arith, nat_tests, m)

      row : (j : ℕ) (r : Row) (x : Bool) → cond x (Some (record { 0 = first_number sp.free }, rights)) (at sp.table j) ≡ Some r → (r.0.0 == f) ≡ false
      row j r true k =
          let s : (record { 0 = first_number sp.free }, rights) ≡ r = cc in
          let d = differ sp.free l e.free in
          subst (λ (z : Row). (z.0.0 == f) ≡ false) s (grind (arith, nat_tests, d))
      row j r false k = e.rows j r k

  protect-else : (rights : Rights) (i : ℕ) (sp : Space) → Elsewhere f sp → Untouched f sp (protect_page rights i sp)
  unfolding protect_page
  protect-else rights i sp e = record {
    elsewhere = record { free = e.free; rows = λ j r k. row j r (j == i) (sym (at-change sp.table i (λ (x : Row). (x.0, rights)) j) ∙ k) };
    bytes = refl;
  }
    where
      mapped : (o : Option Row) (r : Row) → ((x : Row) → o ≡ Some x → (x.0.0 == f) ≡ false) → option_map (λ (x : Row). (x.0, rights)) o ≡ Some r → (r.0.0 == f) ≡ false
      mapped None r h k = absurd (grind (arith, k))
      mapped (Some x) r h k = let s : (x.0, rights) ≡ r = cc in ap (λ (z : Row). z.0.0 == f) (sym s) ∙ h x refl

      row : (j : ℕ) (r : Row) (x : Bool) → cond x (option_map (λ (x : Row). (x.0, rights)) (at sp.table i)) (at sp.table j) ≡ Some r → (r.0.0 == f) ≡ false
      row j r true k = mapped (at sp.table i) r (λ x g. e.rows i x g) k
      row j r false k = e.rows j r k

  untouched-then : (a b c : Space) → Untouched f a b → (Elsewhere f b → Untouched f b c) → Untouched f a c
  untouched-then a b c g h = let k = h g.elsewhere in record { elsewhere = k.elsewhere; bytes = k.bytes ∙ g.bytes }

  drops-else : (k low : ℕ) (sp : Space) → Elsewhere f sp → Untouched f sp (each_page drop_page k low sp)
  drops-else zero low sp e = record { elsewhere = e; bytes = refl }
  drops-else (suc k) low sp e = untouched-then sp (drop_page low sp) (each_page drop_page k (suc low) (drop_page low sp)) (drop-else low sp e) (drops-else k (suc low) (drop_page low sp))

  adds-else : (rights : Rights) (k low : ℕ) (sp : Space) → k ≤ length sp.free → Elsewhere f sp → Untouched f sp (each_page (add_page rights) k low sp)
  adds-else rights zero low sp l e = record { elsewhere = e; bytes = refl }
  adds-else rights (suc k) low sp l e = untouched-then sp (add_page rights low sp) (each_page (add_page rights) k (suc low) (add_page rights low sp)) (add-else rights low sp (omega (arith, l)) e) (adds-else rights k (suc low) (add_page rights low sp) (length-add rights low sp k l))

  protects-else : (rights : Rights) (k low : ℕ) (sp : Space) → Elsewhere f sp → Untouched f sp (each_page (protect_page rights) k low sp)
  protects-else rights zero low sp e = record { elsewhere = e; bytes = refl }
  protects-else rights (suc k) low sp e = untouched-then sp (protect_page rights low sp) (each_page (protect_page rights) k (suc low) (protect_page rights low sp)) (protect-else rights low sp e) (protects-else rights k (suc low) (protect_page rights low sp))

  pub effect-else : (e : Effect) (sp : Space) → e.added.hi - e.added.lo ≤ length (each_in drop_page e.dropped sp).free → Elsewhere f sp → Untouched f sp (after_effect e sp)
  effect-else e sp l w =
      let a = each_in drop_page e.dropped sp in
      let b = each_in (add_page e.rights) e.added a in
      untouched-then sp b (after_effect e sp) (untouched-then sp a b (drops-else (pages_count e.dropped) e.dropped.lo sp w) (adds-else e.rights (pages_count e.added) e.added.lo a l)) (protects-else e.rights (pages_count e.protected) e.protected.lo b)

-- so other processes show what they showed
pub shown-else : (pair : Pair) → Coherent pair → (p : ℕ) (e : Effect) → e.added.hi - e.added.lo ≤ length (each_in drop_page e.dropped (space_here (here pair p))).free → (q : ℕ) (s : Side) → (q == p) ≡ false → at pair.sides q ≡ Some s
    → shown_own (after_effect e (space_here (here pair p))).frames s ≡ shown_own pair.frames s
shown-else pair c p e l q s n is =
    let t = ap (λ (o : Option Side). at (unwrap_or o (new_side 0)).lwk.table) is in
    let frames = (after_effect e (space_here (here pair p))).frames in
    let a = each-same (shown_row frames) (shown_row pair.frames) s.lwk.table (λ i r g.
    (let there : table_of pair q i ≡ Some r = ap (λ (m : Reads Row). m i) t ∙ g in
    let b = ap (λ (o : Option (List ℕ)). unwrap_or o zero_page) (effect-else r.0.0 e (space_here (here pair p)) l (away i r there)).bytes in
    λ k. record { rights = r.1; bytes = b k })) in
    λ i. record { memory = a i; calls = each (shown_call s) s.lwk.callers }
  where
    away : (i : ℕ) (r : Row) → table_of pair q i ≡ Some r → Elsewhere r.0.0 (space_here (here pair p))
    away i r there = record { free = c.frames.not_free q i r there; rows = λ j x f. differ j x f (x.0.0 == r.0.0) refl }
      where
        differ : (j : ℕ) (x : Row) → at (side_of pair p).lwk.table j ≡ Some x → (b : Bool) → (x.0.0 == r.0.0) ≡ b → b ≡ false
        differ j x f false g = refl
        differ j x f true g =
            let z : r.0.0 ≡ x.0.0 = (let y : x.0.0 ≡ r.0.0 = grind (arith, nat_tests, g) in sym y) in
            absurd (let w = (c.frames.apart q i r p j x there f (λ k. record { 0 = z k })).0 in grind (arith, nat_tests, w, n))

-- a break in bounds
pub break-sound : (node : Node) (p b : ℕ) → ((x : Process) → at node.processes p ≡ Some x → b ≤ x.heap_base + most_heap) → Sound node → Sound (set_break p b node)
break-sound node p b h s = record {
  threads_below = s.threads_below;
  threads_there = λ t x e. (let k = s.threads_there t x e in same-is x.process ∙ k);
  processes_below = λ q y e. below q y e (at node.processes q) refl;
  sleeping = record { asleep = s.sleeping.asleep; once = s.sleeping.once };
  places = record { below = s.places.below; apart = s.places.apart };
  heaps = λ q y e. heap q y (q == p) refl (sym (at-change node.processes p set q) ∙ e);
}
  where
    set : Process → Process
    set x = record x { program_break = b }

    made-set : (q : ℕ) → has_process (set_break p b node) q ≡ has_process node q
    made-set q = ap is_some (at-change node.processes p set q) ∙ go (q == p) refl
      where
        mapped : (o : Option Process) → is_some (option_map set o) ≡ is_some o
        mapped None = refl
        mapped (Some x) = refl

        go : (x : Bool) → (q == p) ≡ x → is_some (cond x (option_map set (at node.processes p)) (at node.processes q)) ≡ is_some (at node.processes q)
        go true f = let g : q ≡ p = grind (arith, nat_tests, f) in mapped (at node.processes p) ∙ ap (λ (j : ℕ). is_some (at node.processes j)) (sym g)
        go false f = refl

    same-is : (q : ℕ) → is_there (set_break p b node) q ≡ is_there node q
    same-is q = λ i. made-set q i && not (has_ended (process-changed (λ x. x.life) node p q set (λ x. refl) i))

    heap : (q : ℕ) (y : Process) (x : Bool) → (q == p) ≡ x → cond x (option_map set (at node.processes p)) (at node.processes q) ≡ Some y → HeapHolds y
    heap q y false f k = s.heaps q y k
    heap q y true f k = by-row (at node.processes p) refl k
      where
        by-row : (o : Option Process) → at node.processes p ≡ o → option_map set o ≡ Some y → HeapHolds y
        by-row None g k = absurd (grind (arith, k))
        by-row (Some z) g k =
            let j : set z ≡ y = cc in
            let u = s.heaps p z g in
            subst HeapHolds j (record { aligned = u.aligned; below = h z g })

    below : (q : ℕ) (y : Process) → at (set_break p b node).processes q ≡ Some y → (o : Option Process) → at node.processes q ≡ o → q < node.next_number
    below q y e (Some x) f = s.processes_below q x f
    below q y e None f = absurd (let k = sym (made-set q) ∙ ap is_some e in let j = ap is_some f in grind (arith, k, j))

-- a break set: processes stay, and their instructions
module _ (node : Node) (p b : ℕ) where
  abbrev reset : Process → Process
  reset z = record z { program_break = b }

  abbrev set : Node
  set = set_break p b node

  pub set-ended : (x : ℕ) → is_ended set x ≡ is_ended node x
  set-ended x = ap has_ended (process-changed (λ z. z.life) node p x reset (λ z. refl))

  pub set-made : (x : ℕ) → has_process set x ≡ has_process node x
  set-made x = ap is_some (at-change node.processes p reset x) ∙ go (x == p) refl
    where
      mapped : (o : Option Process) → is_some (option_map reset o) ≡ is_some o
      mapped None = refl
      mapped (Some z) = refl

      go : (y : Bool) → (x == p) ≡ y → is_some (cond y (option_map reset (at node.processes p)) (at node.processes x)) ≡ has_process node x
      go true f = let g : x ≡ p = grind (arith, nat_tests, f) in mapped (at node.processes p) ∙ ap (has_process node) (sym g)
      go false f = refl

  pub set-instructions : instructions_in_all set ≡ instructions_in_all node
  set-instructions = total-same (λ (z : Process). z.instructions) set.processes node.processes (λ x. ap (counted_in (λ (z : Process). z.instructions)) (at-change node.processes p reset x) ∙ go x (x == p) refl)
    where
      mapped : (o : Option Process) → counted_in (λ (z : Process). z.instructions) (option_map reset o) ≡ counted_in (λ (z : Process). z.instructions) o
      mapped None = refl
      mapped (Some z) = refl

      go : (x : ℕ) (y : Bool) → (x == p) ≡ y → counted_in (λ (z : Process). z.instructions) (cond y (option_map reset (at node.processes p)) (at node.processes x)) ≡ counted_in (λ (z : Process). z.instructions) (at node.processes x)
      go x true f = let g : x ≡ p = grind (arith, nat_tests, f) in mapped (at node.processes p) ∙ ap (λ (j : ℕ). counted_in (λ (z : Process). z.instructions) (at node.processes j)) (sym g)
      go x false f = refl
