-- Ranges that have bytes.
use Rattle.kernel_model.specs.declared.ranges.Range.{Range}
use Rattle.std.specs.Prelude.{Bool, ◌^◌, nat_le, nat_lt}

abbrev pub is_full : Range → Bool
is_full r = nat_lt 0 r.len

-- whether a vector's length is above 2 ^ 63 - 1
abbrev pub is_too_long : Range → Bool
is_too_long r = nat_le (2 ^ 63) r.len
