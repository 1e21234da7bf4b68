-- A ring that may not be there yet.
use Rattle.circular_buffer.specs.Buffer.{Buffer, buffer}
use Rattle.file_tree.specs.Counting.{count_in}
use Rattle.mck_word.specs.Maps.{Map}
use Rattle.std.specs.Prelude.{Bool, List, None, Option, Some, [], nat_lt, ℕ, ◌||◌}

abbrev pub ring_of : Option (Buffer ℕ) → Buffer ℕ
ring_of None = buffer [] 0
ring_of (Some r) = r

-- its bytes, and for how many it has room
abbrev pub bytes_of : Buffer ℕ → List ℕ
bytes_of b = b.items

abbrev pub room_of : Buffer ℕ → ℕ
room_of b = b.capacity

-- whether an end of a pipe is counted
abbrev pub is_counted : Map ℕ → Map ℕ → ℕ → Bool
is_counted readers writers pipe = nat_lt 0 (count_in readers pipe) || nat_lt 0 (count_in writers pipe)
