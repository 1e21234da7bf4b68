-- The messages to the lightweight kernel that are taken.
use Rattle.ikc_ring.specs.declared.Msg.{Msg}
use Rattle.ikc_ring.specs.declared.Msg.TheVariants.{Fault}
use Rattle.std.specs.Prelude.{Bool, List, [], nat_lt, true, ◌∷◌}

-- a Fault is of one of the four workers
abbrev pub is_taken : Msg → Bool
is_taken (Fault w page a) = nat_lt w 4
is_taken _ = true

-- the first message, where there is one
abbrev pub is_first_taken : List Msg → Bool
is_first_taken [] = true
is_first_taken (m ∷ ms) = is_taken m
