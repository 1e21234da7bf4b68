-- That two tables have the same rows has one proof at most.
use Rattle.hybrid_model.specs.Sides.{Row}
use Rattle.mck_flags.specs.contracts.rights.Rights as rights
use Rattle.mck_word.specs.Maps.{Map}
use Rattle.mck_word.specs.contracts.Frame as frame
use Rattle.std.specs.Coded.{coded×, coded_ℕ}
use Rattle.std.specs.FinMap as finmap
use Rattle.std.specs.Prelude.{◌≡◌}
use base.Stored.{Coded-set}

pub rows-prop : (a b : Map Row) → IsProp (a ≡ b)
rows-prop = Coded-set (finmap.code coded_ℕ (coded× frame.the_row.coded rights.the_row.coded))
