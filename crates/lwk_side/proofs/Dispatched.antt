-- A local call by its name.
use Rattle.hybrid_model.specs.Sides.{Row}
use Rattle.kernel_model.specs.Calls.{one_of_calls}
use Rattle.kernel_tables.specs.declared.tables.KernelTables.{KernelTables}
use Rattle.lwk_views.specs.Views.{Did}
use Rattle.mck_word.specs.Maps.{Map}
use Rattle.std.proofs.Common.{subst, sym, ◌≡◌}
use Rattle.std.specs.Prelude.{List, ℕ}
use Rattle.system_calls.specs.declared.LocalCall.{LocalCall}

pub by-name : (rows : Map Row) (before after : KernelTables) (pages left : List (List ℕ)) (t : ℕ) (a : ℕ → ℕ) (call name : LocalCall) → call ≡ name
    → Did rows before pages after left (one_of_calls t name a) → Did rows before pages after left (one_of_calls t call a)
by-name rows before after pages left t a call name e d = subst (λ (x : LocalCall). Did rows before pages after left (one_of_calls t x a)) (sym e) d
