-- A local call by its name.
use Rattle.isa_model.specs.Memory.{Memory}
use Rattle.kernel_model.specs.Calls.{local_call, one_of_calls}
use Rattle.kernel_tables.specs.declared.tables.KernelTables.{KernelTables}
use Rattle.one_calls.proofs.Doing.{alone_did}
use Rattle.one_calls.specs.Views.{Did, DidAlone}
use Rattle.std.proofs.Common.{subst, sym}
use Rattle.std.specs.Prelude.{List, get_or, ℕ, ◌≡◌}
use Rattle.system_calls.specs.declared.LocalCall.{LocalCall}

module _ (before after : KernelTables) (m left : Memory) (t : ℕ) (arguments : List ℕ) (call name : LocalCall) (e : call ≡ name) where
  pub by-name : Did before m after left (one_of_calls t name (λ k. get_or arguments k 0)) → Did before m after left (local_call t call arguments)
  unfolding local_call
  by-name d = subst (λ (x : LocalCall). Did before m after left (one_of_calls t x (λ k. get_or arguments k 0))) (sym e) d

-- and one that touches no memory
pub alone-by-name : (before after : KernelTables) (m : Memory) (t : ℕ) (arguments : List ℕ) (call name : LocalCall) → call ≡ name
    → DidAlone before after (one_of_calls t name (λ k. get_or arguments k 0)) → Did before m after m (local_call t call arguments)
alone-by-name before after m t arguments call name e d =
    by-name before after m m t arguments call name e (alone_did m before after (one_of_calls t name (λ k. get_or arguments k 0)) d)
