-- The devices in memory: which of their calls fail, and what the others do.
use Rattle.std.specs.Prelude.{ℕ, ◌+◌, ◌-◌, ◌^◌, ◌==◌, ◌&&◌, ◌||◌, not, min, List, [], length, unwrap_or, Option, Some, nat_eq, string_bytes, find, Bool, is_none}
use Rattle.std.specs.List.{list_any}
use Rattle.std.specs.Option.{option_map}
use Rattle.std.specs.Cmp.Lexicographic.{pointwise}
use Rattle.outside.specs.declared.host.Named.{Named}

-- a counter of calls or faults, which stands still at its last value
abbrev pub one_more : ℕ → ℕ
one_more n = min (n + 1) (2 ^ 64 - 1)

abbrev pub has_name : List ℕ → Named → Bool
has_name name entry = pointwise nat_eq (string_bytes entry.name) name

-- the bytes of the first entry with the name
abbrev pub bytes_under : List Named → List ℕ → Option (List ℕ)
bytes_under names name = option_map (λ entry. entry.bytes.items) (find (has_name name) names)

-- the same of a host that has every name, with empty bytes where none were given
abbrev pub bytes_or_none : List Named → List ℕ → Option (List ℕ)
bytes_or_none names name = Some (unwrap_or (bytes_under names name) [])

-- the call of that number is one of those that are to fail
abbrev pub is_to_fail : List ℕ → ℕ → Bool
is_to_fail failing call = list_any (λ n. n == call) failing

-- a fetch fails where it is to fail, and where there is no such name
abbrev pub fetch_fails : List Named → List ℕ → ℕ → List ℕ → Bool
fetch_fails names failing fetches name = is_to_fail failing fetches || is_none (bytes_under names name)

-- a put fails where its piece is not empty and it is to fail or finds no room
abbrev pub put_fails : List ℕ → ℕ → ℕ → List ℕ → Bool
put_fails failing puts room piece = not (length piece == 0) && (is_to_fail failing puts || room == 0)

-- how many bytes a put takes that does not fail
abbrev pub put_length : ℕ → ℕ → List ℕ → ℕ
put_length most room piece = min (min (length piece) most) room
