-- A process that is there, with what both kernels keep of it.
use Rattle.file_model.specs.Files.{Files}
use Rattle.hybrid_model.specs.Sides.{Row}
use Rattle.kernel_model.specs.Nodes.{is_there}
use Rattle.mck_word.specs.Maps.{Map, at}
use Rattle.pair_core.specs.Shown.{pair_of}
use Rattle.pair_core.specs.declared.parts.Parts.{Parts}
use Rattle.pair_core.specs.declared.parts.Side.{Side}
use Rattle.std.specs.Prelude.{Some, true, ℕ, ◌≡◌}

module _ {T F : Type 0} (rows : T → Map Row) (files : F → Files) where
  -- the process is there, and that is its side
  pub record IsThere (x : Parts T F) (p : ℕ) (s : Side T) : Type 0 where
    pub there : is_there (pair_of rows files x).node p ≡ true
    pub side : at x.sides.map p ≡ Some s
