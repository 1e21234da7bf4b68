-- A process that begins, in the parts.
use Rattle.file_model.specs.Files.{share}
use Rattle.kernel_model.specs.OneKernel.{OneHere}
use Rattle.kernel_tables.specs.Shown.{node_of}
use Rattle.mck_word.specs.EachLaws.{each-none}
use Rattle.mck_word.specs.Maps.{each, no_rows}
use Rattle.mck_word.specs.declared.Pid.{Pid}
use Rattle.one_calls.specs.Here.{here_with}
use Rattle.one_files.specs.Seen.{seen}
use Rattle.one_kernel.proofs.Viewing.{rest_of}
use Rattle.one_kernel.specs.Parts.{here_in, shown_call, shown_own}
use Rattle.one_kernel.specs.declared.parts.One.{One}
use Rattle.one_kernel.specs.declared.parts.Own.{Own}
use Rattle.std.proofs.Common.{ap, ◌∙◌}
use Rattle.std.specs.Prelude.{Some, ℕ, ◌-◌, ◌≡◌}

-- the row has the stored memory, and beside it the child has a row with its own and no calls
pub born-here : (x y : One) (p : ℕ) (q : Pid) (w o b : Own) (pages : ℕ) (now : OneHere) → y.free ≡ x.free - pages → seen y.files ≡ share p q.0 (seen x.files)
    → o.calls ≡ w.calls → b.calls.map ≡ no_rows
    → here_with y.node o.memory.map b.memory.map pages p (Some q) (rest_of x w) ≡ now
    → record (here_in y o) { born = Some (q.0, shown_own b) } ≡ now
born-here x y p q w o b pages now free files calls none is =
    (λ i. record {
      own = record { memory = o.memory.map; calls = each shown_call (calls i).map };
      node = node_of y.node (files i);
      free = free i;
      born = Some (q.0, record { memory = b.memory.map; calls = (ap (each shown_call) none ∙ each-none shown_call) i });
    })
    ∙ is
