-- What holds of a state that the two kernels show.
use Rattle.file_calls.specs.FileSteps.{FewCalls}
use Rattle.hybrid_laws.proofs.maps.Totals.{entries-least}
use Rattle.hybrid_laws.proofs.reap.Reap.{count-each}
use Rattle.hybrid_model.specs.Shown.{one, shown_call, shown_own}
use Rattle.hybrid_model.specs.Sides.{Caller, Side, new_side}
use Rattle.hybrid_model.specs.Spaces.{shown_row}
use Rattle.kernel_model.specs.Nodes.{Node, Process, Thread, dying, lives, has_process, has_thread, instructions_in_all, is_called, is_dying, is_ended, is_living, no_process, no_thread, thread_of}
use Rattle.kernel_model.specs.OneKernel.{Call, OneKernel, Own, no_own, one_here}
use Rattle.kernel_model.specs.Steps.{has_call}
use Rattle.mck_word.specs.EachLaws.{at-each}
use Rattle.mck_word.specs.MapLaws.{at-none}
use Rattle.mck_word.specs.Maps.{at, count}
use Rattle.offer_laws.specs.Small.{most_instructions}
use Rattle.one_kernel.proofs.FewCalls.{few-calls, number-small}
use Rattle.one_kernel.proofs.Told.{bool-told, le-told, lt-told}
use Rattle.node_machine.specs.Reached.{IsShown, Shows}
use Rattle.std.proofs.Common.{ap, arith, refl, subst, sym, ◌∙◌}
use Rattle.std.specs.Prelude.{Bool, None, Option, Some, false, is_some, not, option_map, true, unwrap_or, ℕ, ◌&&◌, ◌+◌, ◌≡◌, ◌≤◌}

some-mapped : {V W : Type 0} (f : V → W) (o : Option V) → is_some (option_map f o) ≡ is_some o
some-mapped f None = refl
some-mapped f (Some v) = refl

both-first : (a b : Bool) → (a && b) ≡ true → a ≡ true
both-first true b e = refl
both-first false b e = absurd (cc)

-- a process that lives or dies was made
pub living-has : (node : Node) (p : ℕ) → is_living node p ≡ true → has_process node p ≡ true
living-has node p e = go (at node.processes p) refl
  where
    go : (o : Option Process) → at node.processes p ≡ o → has_process node p ≡ true
    go (Some x) is = ap is_some is
    go None is = absurd (let dead : is_living node p ≡ false = ap (λ (o : Option Process). lives (unwrap_or o no_process).life) is in cc)

pub dying-has : (node : Node) (p : ℕ) → is_dying node p ≡ true → has_process node p ≡ true
dying-has node p e = go (at node.processes p) refl
  where
    go : (o : Option Process) → at node.processes p ≡ o → has_process node p ≡ true
    go (Some x) is = ap is_some is
    go None is = absurd (let dead : is_dying node p ≡ false = ap (λ (o : Option Process). dying (unwrap_or o no_process).life) is in cc)

module _ (o : OneKernel) (t : IsShown o) where
  -- a process has a row where it was made
  pub own-are : (p : ℕ) → is_some (at o.own p) ≡ has_process o.node p
  own-are p = bool-told t (λ s. subst (λ (x : OneKernel). is_some (at x.own p) ≡ has_process x.node p) s.shows
      (ap is_some (at-each (shown_own s.pair.frames) s.pair.sides p) ∙ some-mapped (shown_own s.pair.frames) (at s.pair.sides p) ∙ s.sound.coherent.known.sides_are p))

  -- so the process of a thread has one
  pub thread-has : (k : ℕ) (x : Thread) → at o.node.threads k ≡ Some x → has_process o.node x.process ≡ true
  thread-has k x e = bool-told t (λ s. subst (λ (y : OneKernel). at y.node.threads k ≡ Some x → has_process y.node x.process ≡ true) s.shows
      (λ there. both-first (has_process s.pair.node x.process) (not (is_ended s.pair.node x.process)) (s.sound.coherent.known.threads_there k x there)) e)

  pub thread-own : (k : ℕ) → has_thread o.node k ≡ true → is_some (at o.own (thread_of o.node k).process) ≡ true
  thread-own k e = own-are (thread_of o.node k).process ∙ go (at o.node.threads k) refl
    where
      go : (x : Option Thread) → at o.node.threads k ≡ x → has_process o.node (thread_of o.node k).process ≡ true
      go (Some x) is = subst (λ (y : Thread). has_process o.node y.process ≡ true) (sym (ap (λ z. unwrap_or z no_thread) is)) (thread-has k x is)
      go None is = absurd (let none : has_thread o.node k ≡ false = ap is_some is in cc)

  pub living-own : (p : ℕ) → is_living o.node p ≡ true → is_some (at o.own p) ≡ true
  living-own p e = own-are p ∙ living-has o.node p e

  pub dying-own : (p : ℕ) → is_dying o.node p ≡ true → is_some (at o.own p) ≡ true
  dying-own p e = own-are p ∙ dying-has o.node p e

  -- no description is held by too many calls
  pub few-held : FewCalls o.node.files
  few-held d = lt-told t (λ s. subst (λ (x : OneKernel). FewCalls x.node.files) s.shows (few-calls s.pair s.sound.coherent s.sound.small) d)

  -- the frames that are free and those of a process are no more than there are
  pub frames-fit : (p : ℕ) (w : Own) → at o.own p ≡ Some w → o.free + count w.memory ≤ o.node.frame_count
  frames-fit p w e = le-told t (λ s. subst (λ (x : OneKernel). at x.own p ≡ Some w → x.free + count w.memory ≤ x.node.frame_count) s.shows (λ there. fits s p w there) e)
    where
      fits : (s : Shows o) (p : ℕ) (w : Own) → at (one s.pair).own p ≡ Some w → (one s.pair).free + count w.memory ≤ s.pair.node.frame_count
      fits s p w there = go (at s.pair.sides p) refl (sym (at-each (shown_own s.pair.frames) s.pair.sides p) ∙ there)
        where
          go : (side : Option Side) → at s.pair.sides p ≡ side → option_map (shown_own s.pair.frames) side ≡ Some w → (one s.pair).free + count w.memory ≤ s.pair.node.frame_count
          go None is e = absurd (cc)
          go (Some x) is e =
              let same : shown_own s.pair.frames x ≡ w = cc in
              let rows = count-each (shown_row s.pair.frames) x.lwk.table in
              let pages = ap (λ (y : Own). count y.memory) same in
              let least = entries-least (λ (y : ℕ × Side). count y.1.lwk.table) s.pair.sides p x is in
              let all = s.sound.coherent.counted.counted in
              omega (arith, rows, pages, least, all)

  -- numbers stay small
  pub next-small : o.node.next_number ≤ 4_000_017
  next-small = le-told t (λ s. subst (λ (x : OneKernel). x.node.next_number ≤ 4_000_017) s.shows (number-small s.pair s.sound.coherent s.sound.small))

  pub limit-small : o.node.limit ≤ most_instructions
  limit-small = le-told t (λ s. subst (λ (x : OneKernel). x.node.limit ≤ most_instructions) s.shows s.sound.small.limit)

  pub spent-small : instructions_in_all o.node ≤ o.node.limit
  spent-small = le-told t (λ s. subst (λ (x : OneKernel). instructions_in_all x.node ≤ x.node.limit) s.shows s.sound.coherent.numbers.limit)

  -- the threads that are Called are those with a call
  pub called-are : (k : ℕ) (x : Thread) → at o.node.threads k ≡ Some x → is_called x.does ≡ has_call (one_here o x.process) k
  called-are k x e = bool-told t (λ s. subst (λ (y : OneKernel). at y.node.threads k ≡ Some x → is_called x.does ≡ has_call (one_here y x.process) k) s.shows
      (λ there. (s.sound.coherent.whole x.process).calls.called k x there refl ∙ go s (at s.pair.sides x.process) refl) e)
    where
      go : (s : Shows o) (side : Option Side) → at s.pair.sides x.process ≡ side → is_some (at (unwrap_or (at s.pair.sides x.process) (new_side 0)).lwk.callers k) ≡ has_call (one_here (one s.pair) x.process) k
      go s None is =
          ap (λ (z : Option Side). is_some (at (unwrap_or z (new_side 0)).lwk.callers k)) is ∙ ap is_some (at-none {V = Caller} k)
          ∙ sym (ap (λ own. is_some (at (unwrap_or own no_own).calls k)) (at-each (shown_own s.pair.frames) s.pair.sides x.process ∙ ap (option_map (shown_own s.pair.frames)) is) ∙ ap is_some (at-none {V = Call} k))
      go s (Some side) is =
          ap (λ (z : Option Side). is_some (at (unwrap_or z (new_side 0)).lwk.callers k)) is ∙ sym (some-mapped (shown_call side) (at side.lwk.callers k))
          ∙ ap is_some (sym (at-each (shown_call side) side.lwk.callers k))
          ∙ sym (ap (λ own. is_some (at (unwrap_or own no_own).calls k)) (at-each (shown_own s.pair.frames) s.pair.sides x.process ∙ ap (option_map (shown_own s.pair.frames)) is))
