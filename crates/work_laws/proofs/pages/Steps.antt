-- Each page has its 4,096 bytes after each step of the one-kernel machine.
use Rattle.file_model.specs.FileSteps.{file_step}
use Rattle.file_model.specs.Files.{Files, description_of}
use Rattle.file_model.specs.Streams.{bytes_there}
use Rattle.file_model.specs.declared.operations.FileOp.TheVariants.{Get, Put}
use Rattle.isa_model.specs.Memory.{Memory, Page}
use Rattle.kernel_model.specs.MemoryCalls.{effect_of, refusal_at_end}
use Rattle.kernel_model.specs.Nodes.{change_in, process_of, thread_of}
use Rattle.kernel_model.specs.OneKernel.{OneHere, OneKernel, Own, no_own, one_here, put_one_here, with_born}
use Rattle.kernel_model.specs.CallPhases.{Act, Gather, Phase, Scatter, Stream}
use Rattle.kernel_model.specs.Progress.{Progress, description_found, move_piece, moved_in_phase, next_piece, offset_argument, ranges_left, streamed_in, streamed_out, without_empty}
use Rattle.kernel_model.specs.Signals.{deliver, stored_all}
use Rattle.kernel_model.specs.Steps.{after, after_all, after_here, answer_in, bytes_at, call_at, has_call, interrupted_as, one_changed, one_piece, one_space, one_trap, one_trapped, one_view, process_of_step, progress_at, return_of, vm_finish, vm_finish_of, call_ended, with_page}
use Rattle.kernel_model.specs.Traps.{Begins, Changes, Done, Forks, Trapped, trap, waited}
use Rattle.kernel_model.specs.declared.Change.{Change}
use Rattle.kernel_model.specs.declared.ranges.Range.{Range}
use Rattle.kernel_model.specs.declared.steps.Step.TheVariants.{Instr, Trap, Deliver, VmFinish, Piece, PieceFault, FileStep, Block, Wake, Return, Mark, Interrupted, Wait, Script, End}
use Rattle.kernel_model.specs.declared.steps.Step.{Step}
use Rattle.mck_word.specs.Lists.{spliced}
use Rattle.mck_word.specs.MapLaws.{at-none, at-put}
use Rattle.mck_word.specs.Maps.{Map, at, change_row, no_rows, put}
use Rattle.std.proofs.Common.{ap, arith, length-take, refl, subst, sym, ◌∙◌}
use Rattle.std.specs.Prelude.{Bool, List, None, Option, Some, [], cond, drop, false, get_or, length, min, take, true, unwrap_or, ℕ, ℤ, ◌%◌, ◌+◌, ◌-◌, ◌==◌, ◌∷◌, ◌≡◌, ◌≤◌}
use Rattle.system_calls.specs.FileCalls.{is_read}
use Rattle.work_laws.proofs.files.StreamsAdd.{spliced-length}
use Rattle.work_laws.proofs.pages.Memory.{effect-full, full-change, instr-full, stored_all-full}
use Rattle.work_laws.specs.WholePages.{AllFull, Full, IsFull}

-- ---- a piece keeps the length of its page
module _ (p : Progress) (files : Files) (process : ℕ) (page : List ℕ) (full : length page ≡ 4096) where
  abbrev off : ℕ
  off = (next_piece p).off

  abbrev len : ℕ
  len = (next_piece p).len

  fits : off + len ≤ 4096
  fits = of (get_or (ranges_left p) 0 (record { address = 0; len = 0 }))
    where
      of : (r : Range) → r.address % 4096 + min r.len (4096 - r.address % 4096) ≤ 4096
      of r = omega arith

  spliced-full : (new : List ℕ) → length new ≤ len → length (spliced page off new) ≡ 4096
  spliced-full new l = let a = spliced-length page off new in let f = fits in omega (arith, a, f, l, full)

  -- a piece that is read has as many bytes at most
  streamed-full : (ranges : List Range) (b : Bool)
      → length (cond b (streamed_in p ranges files process page (file_step files process (cond b (Get (description_found p) (offset_argument p) p.moved len) (Put (description_found p) (offset_argument p) p.moved len)) []))
      (streamed_out p ranges page (file_step files process (cond b (Get (description_found p) (offset_argument p) p.moved len) (Put (description_found p) (offset_argument p) p.moved len)) (take len (drop off page))))).page ≡ 4096
  streamed-full ranges true = let d = description_of files (description_found p) in let bytes = bytes_there files d (offset_argument p) p.moved d.target in let a = length-take len bytes in spliced-full (take len bytes) (omega (arith, a))
  streamed-full ranges false = full

  phase-full : (phase : Phase) → length (moved_in_phase p files process page phase).page ≡ 4096
  phase-full (Gather rs) = full
  phase-full Act = full
  phase-full (Scatter rs) = let a = length-take len p.buffer in spliced-full (take len p.buffer) (omega (arith, a))
  phase-full (Stream rs) = streamed-full (without_empty rs) (is_read p.call)

  pub moved-full : length (move_piece p files process page).page ≡ 4096
  moved-full = phase-full (get_or p.phases 0 Act)

page-full : (m : Memory) (i : ℕ) (f : List ℕ → List ℕ) → ((bytes : List ℕ) → length bytes ≡ 4096 → length (f bytes) ≡ 4096) → Full m → Full (with_page i (f (bytes_at m i)) m)
page-full m i f h full = go (at m i) refl (full i)
  where
    go : (o : Option Page) → at m i ≡ o → IsFull o → Full (with_page i (f (bytes_at m i)) m)
    go None e l = let z : change_row m i (λ (x : Page). record x { bytes = f (bytes_at m i) }) None ≡ with_page i (f (bytes_at m i)) m = ap (λ o. change_row m i (λ (x : Page). record x { bytes = f (bytes_at m i) }) o) (sym e) in subst Full z full
    go (Some x) e l =
        let z : bytes_at m i ≡ x.bytes = ap (λ (o : Option Page). elim o as (λ _. List ℕ) [ None ↦ [] | Some y ↦ y.bytes ]) e in
        full-change m i (λ y. record y { bytes = f (bytes_at m i) }) (λ y k. ap (λ b. length (f b)) z ∙ h x.bytes l) full

-- ---- one process
abbrev pub BornFull : Option (ℕ × Own) → Type 0
BornFull None = Unit {0}
BornFull (Some b) = Full b.1.memory

abbrev pub HereFull : OneHere → Type 0
HereFull h = Full h.own.memory × BornFull h.born

pub none-full : Full no_rows
none-full i = subst IsFull (sym (at-none i)) tt

module _ (p : ℕ) (h : OneHere) (full : HereFull h) where
  changed-full : (t : ℕ) (c : Change) (o : Option ℤ) → HereFull (one_changed p t c o h)
  changed-full t c (Some answer) = full
  changed-full t c None = (effect-full (effect_of (process_of h.node p) c) (one_space h) full.0, full.1)

  finish-full : (t : ℕ) → HereFull (vm_finish p t h)
  unfolding vm_finish
  finish-full t = go (change_in (thread_of h.node t).does)
    where
      go : (o : Option Change) → HereFull (vm_finish_of p t o h)
      go None = full
      go (Some c) = changed-full t c (refusal_at_end (process_of h.node p) h.own.memory h.free c)

  trap-full : (t : ℕ) → HereFull (one_trap p t h)
  unfolding one_trap
  trap-full t = go (trap t h.free (one_view h))
    where
      go : (x : Trapped) → HereFull (one_trapped p t x h)
      go (Done v) = (stored_all-full v.stores h.own.memory full.0, full.1)
      go (Forks v child stores) = let m = stored_all-full v.stores h.own.memory full.0 in (m, stored_all-full stores (stored_all v.stores h.own.memory) m)
      go (Begins node progress) = full
      go (Changes node change) = (effect-full (effect_of (process_of node p) change) (one_space h) full.0, full.1)

  piece-full : (t : ℕ) → HereFull (one_piece p t h)
  unfolding one_piece
  piece-full t = (page-full h.own.memory (next_piece (progress_at h t)).page (λ page. (move_piece (progress_at h t) h.node.files p page).page) (λ page l. moved-full (progress_at h t) h.node.files p page l) full.0, full.1)

  interrupted-full : (t : ℕ) (b : Bool) → HereFull (interrupted_as b t h)
  unfolding call_ended
  interrupted-full t true = full
  interrupted-full t false = full

  return-full : (t : ℕ) (o : Option ℤ) → HereFull (return_of t o h)
  return-full t None = full
  return-full t (Some answer) = full

  pub step-full : (s : Step) → HereFull (after_here s p h)
  unfolding call_ended
  step-full (Instr t) = (instr-full (thread_of h.node t.0).regs h.own.memory full.0, full.1)
  step-full (Trap t) = trap-full t.0
  step-full (Deliver t) = (stored_all-full (deliver t.0 (one_view h)).stores h.own.memory full.0, full.1)
  step-full (VmFinish t) = finish-full t.0
  step-full (Piece t) = piece-full t.0
  step-full (PieceFault t) = full
  step-full (FileStep t) = full
  step-full (Block t) = full
  step-full (Wake t) = full
  step-full (Return t) = return-full t.0 (answer_in (call_at h t.0).status)
  step-full (Mark t) = full
  step-full (Interrupted t) = interrupted-full t.0 (has_call h t.0)
  step-full (Wait t) = (stored_all-full (waited t.0 (one_view h)).stores h.own.memory full.0, full.1)
  step-full (Script k) = full
  step-full (End q) = (none-full, full.1)

-- ---- all processes
pub here-full : (one : OneKernel) → AllFull one → (p : ℕ) → HereFull (one_here one p)
here-full one all p = (go (at one.own p) refl, tt)
  where
    go : (o : Option Own) → at one.own p ≡ o → Full (unwrap_or o no_own).memory
    go None e = none-full
    go (Some x) e = all p x e

pub put-full : (m : Map Own) (p : ℕ) (new : Own) → Full new.memory → ((q : ℕ) (o : Own) → at m q ≡ Some o → Full o.memory) → (q : ℕ) (o : Own) → at (put m p new) q ≡ Some o → Full o.memory
put-full m p new full all q o e = go (q == p) (sym (at-put m p new q) ∙ e)
  where
    go : (b : Bool) → cond b (Some new) (at m q) ≡ Some o → Full o.memory
    go true f = let g : new ≡ o = cc in subst (λ (x : Own). Full x.memory) g full
    go false f = all q o f

pub whole-full : (one : OneKernel) (p : ℕ) (now : OneHere) → AllFull one → HereFull now → AllFull (put_one_here one p now)
whole-full one p now all full = go now.born full.1
  where
    go : (b : Option (ℕ × Own)) → BornFull b → (q : ℕ) (o : Own) → at (with_born (put one.own p now.own) b) q ≡ Some o → Full o.memory
    go None f = put-full one.own p now.own full.0 all
    go (Some b) f = put-full (put one.own p now.own) b.0 b.1 f (put-full one.own p now.own full.0 all)

pub after-full : (one : OneKernel) (s : Step) → AllFull one → AllFull (after one s)
after-full one s all = let p = process_of_step one.node s in whole-full one p (after_here s p (one_here one p)) all (step-full p (one_here one p) (here-full one all p) s)

pub after_all-full : (ss : List Step) (one : OneKernel) → AllFull one → AllFull (after_all one ss)
after_all-full [] one all = all
after_all-full (s ∷ ss) one all = after_all-full ss (after one s) (after-full one s all)
