-- Names that fit into a node.
use Rattle.file_model.specs.Files.{Name}
use Rattle.std.specs.Prelude.{List, [], length, ◌∷◌, ◌≤◌}

-- each has at most 255 bytes
abbrev pub AreShort : List Name → Type 0
AreShort [] = Unit {0}
AreShort (name ∷ names) = (length name ≤ 255) × AreShort names
