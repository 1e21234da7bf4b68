-- The rights of a page as bits.
use Rattle.std.specs.Prelude.{ℕ, Bool, ◌==◌, bit_and}
use Rattle.mck_flags.specs.declared.rights.Rights.{Rights}

-- whether each bit of the mask is set
abbrev pub includes : Rights → ℕ → Bool
includes r mask = bit_and r.0 mask == mask
