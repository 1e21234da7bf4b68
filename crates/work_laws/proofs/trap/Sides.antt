-- What a trap makes the sides count more at most: a call begins, a table changes, or a process has a side.
use Rattle.hybrid_model.specs.declared.events.Event.TheVariants as Events
use Rattle.file_model.specs.Files.{Files}
use Rattle.hybrid_laws.proofs.calls.Closed.{finishes-closed}
use Rattle.hybrid_laws.proofs.maps.Reading.{sum-post}
use Rattle.hybrid_laws.proofs.maps.Sums.{total-put, total-put-by}
use Rattle.hybrid_laws.proofs.maps.Tests.{both}
use Rattle.hybrid_laws.proofs.states.Pair.{has-side}
use Rattle.hybrid_model.specs.Events.{after, may, may_here}
use Rattle.hybrid_model.specs.Globals.{Coherent, ring_number}
use Rattle.hybrid_model.specs.OneProcess.{memory_here, space_here, view_here, with_view, set_break}
use Rattle.hybrid_model.specs.Trap.{after_trap, begin_call, call_made, child_space, trapped, with_stores}
use Rattle.hybrid_model.specs.Pairs.{Here, Pair, here, ring_of, side_of, with_born}
use Rattle.hybrid_model.specs.Sides.{Row, Side, new_side, no_lwk}
use Rattle.hybrid_model.specs.Spaces.{after_effect}
use Rattle.hybrid_model.specs.Tallies.{sum_rings}
use Rattle.ikc_ring.specs.declared.Msg.TheVariants.{Request}
use Rattle.kernel_model.specs.MemoryCalls.{answer_of_change, effect_of}
use Rattle.kernel_model.specs.Nodes.{is_there, process_of, thread_of}
use Rattle.kernel_model.specs.Progress.{Progress}
use Rattle.kernel_model.specs.Traps.{Begins, Changes, Done, Forks, Trapped, trap}
use Rattle.mck_word.specs.Maps.{Map, at, count, put, total}
use Rattle.mck_word.specs.declared.Tid.{Tid}
use Rattle.request_book.specs.declared.ReqState.TheVariants.{Posted}
use Rattle.std.proofs.Common.{ap, arith, refl, ◌∙◌}
use Rattle.std.specs.Prelude.{None, Option, Some, length, true, ℕ, ◌*◌, ◌+◌, ◌≡◌, ◌≤◌}
use Rattle.work_laws.proofs.fetch.Clear.{answers}
use Rattle.work_laws.proofs.files.Same.{SameFiles, same-files}
use Rattle.work_laws.proofs.sides.Late.{rings-late}
use Rattle.work_laws.proofs.sides.Many.{all-few, few-answers}
use Rattle.work_laws.proofs.sides.New.{new-left}
use Rattle.work_laws.proofs.sides.Wholes.{sides-any}
use Rattle.work_laws.proofs.trap.Adds.{TrapAdds, trap-adds}
use Rattle.work_laws.specs.KernelLeft.{Prices}
use Rattle.work_laws.specs.Weights.{any_change, of_clear, of_message, of_request, of_side, sides_left}

-- with so many processes before
abbrev pub trap_sides : ℕ → ℕ → ℕ
trap_sides workers processes = any_change * processes + of_clear workers + any_change * workers + 38

module _ (pair : Pair) (c : Coherent pair) (t : Tid) (allowed : may pair (Events.Trap t) ≡ true) where
  abbrev p : ℕ
  p = (thread_of pair.node t.0).process

  abbrev h : Here
  h = here pair p

  abbrev left : Here → ℕ
  left now = total (of_side now.workers now.node.files) (with_born (put pair.sides p now.side) now.born)

  present : at pair.sides p ≡ Some (side_of pair p)
  present = let a = both (is_there pair.node p) (may_here (Events.Trap t) h) allowed in has-side pair c.known p a.0

  few : sum_rings answers h.side.to_linux ≤ pair.workers
  few = few-answers p h.side pair.node pair.workers (ring_number pair) (c.whole p) c.places

  -- the files stay, and the own side counts so much more
  own-side : (now : Here) (cost : ℕ) → now.workers ≡ pair.workers → now.node.files ≡ pair.node.files → now.born ≡ None → of_side pair.workers pair.node.files now.side ≤ of_side pair.workers pair.node.files h.side + cost → left now ≤ sides_left pair + cost
  own-side now cost workers files none l =
      let a = total-put (of_side pair.workers pair.node.files) pair.sides p now.side in
      let b = rw present at a in
      let w = ap (λ (x : ℕ). total (of_side x now.node.files) (with_born (put pair.sides p now.side) now.born)) workers in
      let d = ap (λ (x : Files). total (of_side pair.workers x) (with_born (put pair.sides p now.side) now.born)) files in
      let e = ap (λ (o : Option (ℕ × Side)). total (of_side pair.workers pair.node.files) (with_born (put pair.sides p now.side) o)) none in
      omega (arith, b, w, d, e, l)

  called : (progress : Progress) → of_side pair.workers pair.node.files (begin_call (ring_of h t.0) t.0 progress h.side) ≤ of_side pair.workers pair.node.files h.side + 34
  unfolding begin_call
  called progress =
      let s = h.side in
      let q = s.book.next in
      let made = call_made q t.0 progress in
      let a = total-put-by (of_request pair.node.files s.linux) s.book.rows q (Posted, made) in
      let b = sum-post (of_message pair.workers s.linux.cleared (at s.lwk.table)) (ring_of h t.0) (Request made) s.to_linux in
      omega (arith, a, b)

  -- a process begins, whose side is new
  forked-sides : (files : Files) (child : ℕ) (table : Map Row)
      → total (of_side pair.workers files) (put (put pair.sides p h.side) child (record (new_side pair.rings) { lwk = record no_lwk { table = table } })) ≤ sides_left pair + any_change * count pair.sides + of_clear pair.workers + 4
  forked-sides files child table =
      let new : Side = record (new_side pair.rings) { lwk = record no_lwk { table = table } } in
      let a = total-put (of_side pair.workers files) (put pair.sides p h.side) child new in
      let b = total-put (of_side pair.workers files) pair.sides p h.side in
      let d = rw present at b in
      let e = sides-any pair.workers pair.node.files files pair.sides (all-few pair c) in
      let n = new-left pair.workers files pair.rings table in
      omega (arith, a, d, e, n)

  by-trapped : (k : Prices) (x : Trapped) → TrapAdds k (view_here h) x → left (trapped p t.0 x h) ≤ sides_left pair + trap_sides pair.workers (count pair.sides)
  by-trapped k (Done v) a = let l = own-side (with_view v h) 0 refl a.files refl (omega arith) in omega (arith, l)
  by-trapped k (Begins node progress) a =
      let l = own-side (trapped p t.0 (Begins node progress) h) 34 refl a.0.files refl (called progress) in
      omega (arith, l)
  by-trapped k (Changes node change) a =
      let e = effect_of (process_of node p) change in
      let n = set_break p e.program_break node in
      let f = finishes-closed t.0 SameFiles SameFiles (same-files t.0) n (answer_of_change change) ∙ a.files in
      let l = rings-late pair.workers h.side.linux.cleared (at h.side.lwk.table) (at (after_effect e (space_here h)).table) h.side.to_linux in
      let w = few in
      let o = own-side (trapped p t.0 (Changes node change) h) (any_change * pair.workers) refl f refl (omega (arith, l, w)) in
      omega (arith, o)
  by-trapped k (Forks v child stores) a =
      let h' = with_view v h in
      let l = forked-sides v.node.files child (with_stores stores (child_space (memory_here h') (space_here h'))).table in
      omega (arith, l)

  pub trap-sides : sides_left (after pair (Events.Trap t)) ≤ sides_left pair + trap_sides pair.workers (count pair.sides)
  unfolding after_trap
  trap-sides = let k : Prices = record { step = 0; change = 0; process = 0 } in by-trapped k (trap t.0 (length pair.free) (view_here h)) (trap-adds k t.0 (length pair.free) (view_here h))
