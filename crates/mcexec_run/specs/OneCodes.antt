-- States of the one-kernel machine are plain data: two proofs that two of them are equal are the same proof.
use Rattle.file_model.specs.contracts.descriptions.Description as description
use Rattle.kernel_model.specs.OneKernel.{OneKernel}
use Rattle.kernel_model.specs.contracts.Action as action
use Rattle.kernel_model.specs.contracts.Does as does
use Rattle.kernel_model.specs.contracts.Life as life
use Rattle.kernel_model.specs.contracts.ranges.Range as range
use Rattle.mck_flags.specs.contracts.rights.Rights as rights
use Rattle.mck_word.specs.Maps.{Map}
use Rattle.mck_word.specs.contracts.Regs as regs
use Rattle.std.specs.Coded.{Coded, Coded-set, coded_ℕ, codes}
use Rattle.std.specs.FinMap as finmap
use Rattle.std.specs.Prelude.{◌≡◌}

coded-map : {X : Type 0} → Coded X → Coded (Map X)
coded-map x = finmap.code coded_ℕ x

coded-one : Coded OneKernel
coded-one = hlevel (codes, coded-map, description.the_row.coded, action.the_row.coded, does.the_row.coded, life.the_row.coded, range.the_row.coded, rights.the_row.coded, regs.the_row.coded)

pub one-once : (a b : OneKernel) → IsProp (a ≡ b)
one-once a b = Coded-set coded-one a b
