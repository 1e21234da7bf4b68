-- What a trap leaves to do at most, whatever it comes to: a call begins, a change of memory begins or is made, or a process is made.
use Rattle.hybrid_laws.proofs.maps.Sums.{total-put}
use Rattle.kernel_model.specs.MemoryCalls.{answer_of_change, effect_of}
use Rattle.kernel_model.specs.Nodes.{Node, Process, process_of, set_does}
use Rattle.kernel_model.specs.OneKernel.{Active, Call, OneHere}
use Rattle.kernel_model.specs.Progress.{Progress}
use Rattle.kernel_model.specs.Steps.{one_effect, one_trap, one_trapped, one_view, set_break, set_status, with_node, with_view}
use Rattle.kernel_model.specs.Traps.{Begins, Changes, Done, Forks, Trapped, trap}
use Rattle.kernel_model.specs.declared.Change.{Change}
use Rattle.kernel_model.specs.declared.Does.TheVariants.{Called}
use Rattle.std.proofs.Common.{ap, arith, refl}
use Rattle.std.proofs.Math.Nat.{mul-le-mul_left}
use Rattle.std.specs.Prelude.{None, false, ℕ, ◌*◌, ◌+◌, ◌≡◌, ◌≤◌}
use Rattle.work_laws.proofs.calls.Begins.{most_call}
use Rattle.work_laws.proofs.node.Left.{Adds, adds-then, does-adds, process-adds}
use Rattle.work_laws.proofs.node.Steps.{finishes-adds}
use Rattle.work_laws.proofs.steps.OneProcess.{IsNew, OnePays}
use Rattle.work_laws.proofs.steps.Pay.{adds-pays, node-pays}
use Rattle.work_laws.proofs.trap.Adds.{TrapAdds, trap-adds}
use Rattle.work_laws.specs.KernelLeft.{Prices, files_left, of_mark, own_calls_left, progress_left, status_left}

abbrev pub trap_cost : Prices → ℕ
trap_cost k = k.step * most_call + 17 + k.change + k.process

module _ (k : Prices) (h : OneHere) (p t : ℕ) where
  begins-pays : (node : Node) (progress : Progress) → Adds k 0 h.node node → progress_left progress ≤ most_call → OnePays k h (set_status t false (Active progress) (with_node (set_does t Called node) h)) 0 (k.step * most_call + 16)
  begins-pays node progress a few =
      let new : Call = record { marked = false; status = Active progress } in
      let now = set_status t false (Active progress) (with_node (set_does t Called node) h) in
      let b = total-put (λ (x : Call). status_left x.status) h.own.calls t new in
      let c = total-put (λ (x : Call). of_mark x.marked) h.own.calls t new in
      let d = adds-then k h.node node _ 0 0 a (does-adds k node t Called) in
      let f = ap files_left d.files in
      let l = d.less in
      let s : files_left now.node.files + own_calls_left now.own ≤ files_left h.node.files + own_calls_left h.own + most_call = omega (arith, b, f, few) in
      let m = mul-le-mul_left k.step s in
      omega (arith, c, m, l)

  changes-pays : (node : Node) (change : Change) → Adds k 0 h.node node → OnePays k h (one_effect p t (answer_of_change change) (effect_of (process_of node p) change) (with_node node h)) 0 0
  changes-pays node change a =
      let e = effect_of (process_of node p) change in
      let b = process-adds k node p (λ (x : Process). record x { program_break = e.program_break }) 0 (λ x. omega arith) in
      let c = finishes-adds k (set_break p e.program_break node) t (answer_of_change change) in
      adds-pays k h (one_effect p t (answer_of_change change) e (with_node node h)) 0 refl (adds-then k h.node node _ 0 0 a (adds-then k node (set_break p e.program_break node) _ 0 0 b c))

  trapped-pays : (x : Trapped) → TrapAdds k (one_view h) x → OnePays k h (one_trapped p t x h) 0 (trap_cost k)
  trapped-pays (Done v) a = let l = adds-pays k h (with_view v h) (1 + k.change) refl a in omega (arith, l)
  trapped-pays (Forks v child stores) a =
      let l = a.less in
      let f = ap files_left a.files in
      let m = node-pays k h (one_trapped p t (Forks v child stores) h) 0 k.process refl (omega (arith, f)) (omega (arith, l)) in
      omega (arith, m)
  trapped-pays (Begins node progress) a = let l = begins-pays node progress a.0 a.1 in omega (arith, l)
  trapped-pays (Changes node change) a = let l = changes-pays node change a in omega (arith, l)

  pub trap-pays : OnePays k h (one_trap p t h) 0 (trap_cost k)
  unfolding one_trap
  trap-pays = trapped-pays (trap t h.free (one_view h)) (trap-adds k t h.free (one_view h))

-- the process that a trap makes has no call
pub trap-new : (h : OneHere) (p t : ℕ) → h.born ≡ None → IsNew (one_trap p t h).born
unfolding one_trap
trap-new h p t none = go (trap t h.free (one_view h))
  where
    still : IsNew h.born
    still = rw none tt

    go : (x : Trapped) → IsNew (one_trapped p t x h).born
    go (Done v) = still
    go (Forks v child stores) = refl
    go (Begins node progress) = still
    go (Changes node change) = still
