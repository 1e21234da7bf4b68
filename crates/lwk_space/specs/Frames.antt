-- The frames of a memory as a map, and a space of three parts.
use Rattle.frame_pool.specs.Pools.{Pool}
use Rattle.hybrid_model.specs.Sides.{Row}
use Rattle.hybrid_model.specs.Spaces.{Space}
use Rattle.mck_word.specs.Maps.{Map}
use Rattle.mck_word.specs.Slots.{by_place}
use Rattle.std.specs.Prelude.{List, Some, map, ℕ}

-- each frame's bytes by its number
abbrev pub frames_map : List (List ℕ) → Map (List ℕ)
frames_map pages = by_place (map Some pages)

-- a table, the frames and the free ones
abbrev pub space : Map Row → List (List ℕ) → Pool → Space
space table pages pool = record { table = table; frames = frames_map pages; free = pool.free }
