-- What the other steps of the one-kernel machine leave to do, but a trap: instructions, deliveries, answers that come later, marks, the script and the end of a process.
use Rattle.file_model.specs.Files.{close_all}
use Rattle.hybrid_laws.proofs.calls.Closed.{deliver-closed, finishes-closed, moved-closed, returns-closed}
use Rattle.hybrid_laws.proofs.maps.Sums.{counted_in, total-cut, total-put}
use Rattle.hybrid_laws.proofs.maps.Tests.{both, some-is}
use Rattle.kernel_model.specs.MemoryCalls.{answer_of_change, effect_of, refusal_at_end}
use Rattle.kernel_model.specs.Nodes.{Node, Process, Sleeper, Thread, change_in, change_process, dying, has_thread, is_dying, is_living, ready_to_run, no_process, no_thread, process_of, rests, thread_of}
use Rattle.kernel_model.specs.OneKernel.{Call, OneHere, no_own}
use Rattle.kernel_model.specs.Signals.{deliver, generate_for_process, is_deliverable, moved_to_own}
use Rattle.kernel_model.specs.Steps.{answer_in, call_at, has_call, may_change, may_end, one_changed, one_view, return_of, set_break, set_status, vm_finish, vm_finish_of, with_memory, with_node, with_view}
use Rattle.kernel_model.specs.Traps.{called_back, executed, finishes, life_ended, may_be_called_back, may_deliver, may_wait, may_end_wait_of, process_ended, script_sent, wait_of, waited}
use Rattle.kernel_model.specs.declared.Change.{Change}
use Rattle.kernel_model.specs.declared.Does.TheVariants.{Asleep, Called, InVm, InWait, Ready, Stopped}
use Rattle.kernel_model.specs.declared.Does.{Does}
use Rattle.mck_word.specs.Maps.{Map, at, collect, count}
use Rattle.std.proofs.Common.{ap, arith, refl, sym, ◌∙◌}
use Rattle.std.proofs.Math.Nat.{mul-le-mul_left}
use Rattle.std.specs.Prelude.{Bool, None, Option, Some, cond, false, filter, is_some, not, true, unwrap_or, ℕ, ℤ, ◌&&◌, ◌+◌, ◌==◌, ◌≡◌, ◌≤◌}
use Rattle.work_laws.proofs.calls.Steps.{found}
use Rattle.work_laws.proofs.files.Adding.{close_all-less}
use Rattle.work_laws.proofs.files.Same.{SameFiles, for_process-files, same-files, waited-files}
use Rattle.work_laws.proofs.node.Left.{Adds, process-adds}
use Rattle.work_laws.proofs.node.Steps.{called_back-less, deliver-less, ended-less, executed-adds, finishes-less, moved-less, returns-adds, script-adds, waited-less}
use Rattle.work_laws.proofs.steps.OneProcess.{OnePays, none-left, none-marked}
use Rattle.work_laws.specs.KernelLeft.{Prices, files_left, node_left, of_does, of_mark, own_calls_left, own_marks_left, status_left}

module _ (k : Prices) (h : OneHere) where
  -- the calls stay, and the files count no more
  pub node-pays : (now : OneHere) (gain cost : ℕ) → now.own.calls ≡ h.own.calls → files_left now.node.files ≤ files_left h.node.files → node_left k now.node + gain ≤ node_left k h.node + cost → OnePays k h now gain cost
  node-pays now gain cost calls files node =
      let a = ap (λ m. own_calls_left (record no_own { calls = m })) calls in
      let b = ap (λ m. own_marks_left (record no_own { calls = m })) calls in
      let s : files_left now.node.files + own_calls_left now.own ≤ files_left h.node.files + own_calls_left h.own = omega (arith, a, files) in
      let m = mul-le-mul_left k.step s in
      omega (arith, b, m, node)

  -- the files are the same
  pub quiet-pays : (now : OneHere) (gain cost : ℕ) → now.own.calls ≡ h.own.calls → now.node.files ≡ h.node.files → node_left k now.node + gain ≤ node_left k h.node + cost → OnePays k h now gain cost
  quiet-pays now gain cost calls files node = let f = ap files_left files in node-pays now gain cost calls (omega (arith, f)) node

  pub adds-pays : (now : OneHere) (cost : ℕ) → now.own.calls ≡ h.own.calls → Adds k cost h.node now.node → OnePays k h now 0 cost
  adds-pays now cost calls a = let l = a.less in quiet-pays now 0 cost calls a.files (omega (arith, l))

  module _ (t : ℕ) where
    pub instr-pays : let r = executed t (record { node = h.node; memory = h.own.memory }) in OnePays k h (with_node r.node (with_memory r.memory h)) 0 0
    instr-pays = let r = executed t (record { node = h.node; memory = h.own.memory }) in adds-pays (with_node r.node (with_memory r.memory h)) 0 refl (executed-adds k t (record { node = h.node; memory = h.own.memory }))

    pub deliver-pays : may_deliver h.node t ≡ true → OnePays k h (with_view (deliver t (one_view h)) h) 1 0
    deliver-pays e =
        let x = thread_of h.node t in
        let a = both (has_thread h.node t && ready_to_run x.does && is_living h.node x.process) (is_deliverable h.node t) e in
        let l = deliver-less k t (one_view h) a.1 in
        quiet-pays (with_view (deliver t (one_view h)) h) 1 0 refl (deliver-closed t SameFiles SameFiles (same-files t) (one_view h)) (omega (arith, l))

    thread-there : has_thread h.node t ≡ true → at h.node.threads t ≡ Some (thread_of h.node t)
    thread-there e = let x = some-is (at h.node.threads t) e in x.1 ∙ ap (λ (o : Option Thread). Some (unwrap_or o no_thread)) (sym x.1)

    -- ---- a change of memory
    module _ (p : ℕ) (there : at h.node.threads t ≡ Some (thread_of h.node t)) (c : Change) (does : (thread_of h.node t).does ≡ InVm c) where
      finished : (a : Node) (answer : ℤ) → a.threads ≡ h.node.threads → a.files ≡ h.node.files → node_left k a ≤ node_left k h.node → (files_left (finishes t answer a).files ≤ files_left h.node.files) × (node_left k (finishes t answer a) + k.change ≤ node_left k h.node)
      finished a answer threads files l =
          let x = finishes-less k a t answer (thread_of h.node t) c (ap (λ (m : Map Thread). at m t) threads ∙ there) does in
          let f = ap files_left (finishes-closed t SameFiles SameFiles (same-files t) a answer ∙ files) in
          (omega (arith, f), omega (arith, x, l))

      changed-pays : (o : Option ℤ) → OnePays k h (one_changed p t c o h) k.change 0
      changed-pays (Some answer) =
          let f = finished h.node answer refl refl (omega arith) in
          let l = f.1 in
          node-pays (one_changed p t c (Some answer) h) k.change 0 refl f.0 (omega (arith, l))
      changed-pays None =
          let e = effect_of (process_of h.node p) c in
          let b = (process-adds k h.node p (λ (x : Process). record x { program_break = e.program_break }) 0 (λ x. omega arith)).less in
          let f = finished (set_break p e.program_break h.node) (answer_of_change c) refl refl (omega (arith, b)) in
          let l = f.1 in
          node-pays (one_changed p t c None h) k.change 0 refl f.0 (omega (arith, l))

    pub vm_finish-pays : (p : ℕ) → may_change h.node t ≡ true → OnePays k h (vm_finish p t h) k.change 0
    unfolding vm_finish
    vm_finish-pays p e =
        let a = both (has_thread h.node t) (is_some (change_in (thread_of h.node t).does)) e in
        go (thread-there a.0) (thread_of h.node t).does refl a.1
      where
        by : at h.node.threads t ≡ Some (thread_of h.node t) → (c : Change) → (thread_of h.node t).does ≡ InVm c → OnePays k h (vm_finish_of p t (change_in (thread_of h.node t).does) h) k.change 0
        by there c f = let r = ap change_in f in rw r (changed-pays p there c f (refusal_at_end (process_of h.node p) h.own.memory h.free c))

        go : at h.node.threads t ≡ Some (thread_of h.node t) → (d : Does) → (thread_of h.node t).does ≡ d → is_some (change_in (thread_of h.node t).does) ≡ true → OnePays k h (vm_finish_of p t (change_in (thread_of h.node t).does) h) k.change 0
        go there (InVm c) f some = by there c f
        go there Ready f some = absurd (let z = ap (λ d. is_some (change_in d)) f in grind (arith, z, some))
        go there (Stopped s) f some = absurd (let z = ap (λ d. is_some (change_in d)) f in grind (arith, z, some))
        go there Called f some = absurd (let z = ap (λ d. is_some (change_in d)) f in grind (arith, z, some))
        go there (Asleep a) f some = absurd (let z = ap (λ d. is_some (change_in d)) f in grind (arith, z, some))
        go there (InWait pid status) f some = absurd (let z = ap (λ d. is_some (change_in d)) f in grind (arith, z, some))

    -- ---- answers and marks
    pub return-pays : OnePays k h (return_of t (answer_in (call_at h t).status) h) 0 1
    return-pays = go (answer_in (call_at h t).status)
      where
        go : (o : Option ℤ) → OnePays k h (return_of t o h) 0 1
        go None = omega arith
        go (Some answer) =
            let a = total-cut (λ (x : Call). status_left x.status) h.own.calls t in
            let b = total-cut (λ (x : Call). of_mark x.marked) h.own.calls t in
            let n = returns-adds k h.node t answer in
            let f = ap files_left (returns-closed t SameFiles SameFiles (same-files t) h.node answer) in
            let l = n.less in
            let now = return_of t (Some answer) h in
            let s : files_left now.node.files + own_calls_left now.own ≤ files_left h.node.files + own_calls_left h.own = omega (arith, a, f) in
            let m = mul-le-mul_left k.step s in
            omega (arith, b, m, l)

    pub mark-pays : has_call h t ≡ true → (call_at h t).marked ≡ false → OnePays k h (set_status t true (call_at h t).status (with_node (moved_to_own t h.node) h)) 16 0
    mark-pays has unmarked =
        let c = call_at h t in
        let there = found h t has in
        let new : Call = record { marked = true; status = c.status } in
        let a = total-put (λ (x : Call). status_left x.status) h.own.calls t new in
        let b = ap (counted_in (λ (x : Call). status_left x.status)) there in
        let d = total-put (λ (x : Call). of_mark x.marked) h.own.calls t new in
        let e = ap (counted_in (λ (x : Call). of_mark x.marked)) there in
        let g = ap of_mark unmarked in
        let l = moved-less k h.node t in
        let f = ap files_left (moved-closed 0 SameFiles SameFiles (same-files 0) h.node t) in
        let now = set_status t true c.status (with_node (moved_to_own t h.node) h) in
        let s : files_left now.node.files + own_calls_left now.own ≤ files_left h.node.files + own_calls_left h.own = omega (arith, a, b, f) in
        let m = mul-le-mul_left k.step s in
        omega (arith, d, e, g, m, l)

    -- ---- threads that rest
    resting : (d : Does) → rests d ≡ true → of_does k.change d ≡ 1
    resting (Asleep a) e = refl
    resting (InWait pid status) e = refl
    resting Ready e = absurd (grind (arith, e))
    resting (Stopped s) e = absurd (grind (arith, e))
    resting Called e = absurd (grind (arith, e))
    resting (InVm c) e = absurd (grind (arith, e))

    pub called_back-pays : may_be_called_back h.node t ≡ true → OnePays k h (with_node (called_back t h.node) h) 1 0
    unfolding called_back
    called_back-pays e =
        let x = thread_of h.node t in
        let a = both (has_thread h.node t && rests x.does && is_living h.node x.process) (is_deliverable h.node t) e in
        let b = both (has_thread h.node t && rests x.does) (is_living h.node x.process) a.0 in
        let d = both (has_thread h.node t) (rests x.does) b.0 in
        let l = called_back-less k h.node t x (thread-there d.0) (resting x.does d.1) in
        quiet-pays (with_node (called_back t h.node) h) 1 0 refl refl (omega (arith, l))

    pub wait-pays : may_wait h.node t ≡ true → OnePays k h (with_view (waited t (one_view h)) h) 1 0
    wait-pays e =
        let x = thread_of h.node t in
        let a = both (has_thread h.node t && is_living h.node x.process) (may_end_wait_of h.node x.process (wait_of x.does)) e in
        let b = both (has_thread h.node t) (is_living h.node x.process) a.0 in
        let l = waited-less k t (one_view h) x (thread-there b.0) (waits (wait_of x.does) a.1) in
        quiet-pays (with_view (waited t (one_view h)) h) 1 0 refl (waited-files t (one_view h)) (omega (arith, l))
      where
        waits : (o : Option (ℤ × ℕ)) → may_end_wait_of h.node (thread_of h.node t).process o ≡ true → is_some o ≡ true
        waits None e = absurd (grind (arith, e))
        waits (Some w) e = refl

  -- ---- the script, and the end of the process
  pub script-pays : (line : ℕ) → OnePays k h (with_node (script_sent line h.node) h) 0 1
  script-pays line = adds-pays (with_node (script_sent line h.node) h) 1 refl (script-adds k line h.node)

  pub end-pays : (p : ℕ) → may_end h.node p ≡ true → OnePays k h (record (with_node (process_ended p h.node) h) { own = no_own; free = h.free + count h.own.memory }) k.process 1
  unfolding process_ended
  end-pays p e =
      let a = both (is_dying h.node p) _ e in
      go (at h.node.processes p) refl a.0
    where
      now : OneHere
      now = record (with_node (process_ended p h.node) h) { own = no_own; free = h.free + count h.own.memory }

      closed : (b : Bool) (parent : ℕ) (told : Node) → (cond b (generate_for_process parent 17 told) told).files ≡ told.files
      closed true parent told = for_process-files told parent 17
      closed false parent told = refl

      told : Node
      told = change_process p (λ (x : Process). record x { life = life_ended x.life }) (record h.node {
        threads = collect (λ t (x : Thread). cond (x.process == p) None (Some x)) h.node.threads;
        sleepers = filter (λ (x : Sleeper). not (x.process == p)) h.node.sleepers;
        files = close_all p h.node.files;
      })

      parent : ℕ
      parent = (process_of h.node p).parent

      go : (o : Option Process) → at h.node.processes p ≡ o → is_dying h.node p ≡ true → OnePays k h now k.process 1
      go None f d = absurd (let z = ap (λ (o : Option Process). dying (unwrap_or o no_process).life) f in grind (arith, z, d))
      go (Some x) f d =
          let y : dying x.life ≡ true = sym (ap (λ (o : Option Process). dying (unwrap_or o no_process).life) f) ∙ d in
          let l = ended-less k p h.node x f y in
          let c = close_all-less h.node.files p in
          let g = ap files_left (closed (is_living told parent) parent told) in
          let z = none-left in
          let w = none-marked in
          let s : files_left now.node.files + own_calls_left now.own ≤ files_left h.node.files + own_calls_left h.own = omega (arith, g, c, z) in
          let m = mul-le-mul_left k.step s in
          omega (arith, m, l, w)
