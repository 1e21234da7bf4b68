-- Names that a file of a job has.
use Rattle.file_model.specs.Files.{Files, Name}
use Rattle.file_model.specs.Paths.{child}
use Rattle.std.specs.Prelude.{List, None, [], length, ℕ, ◌+◌, ◌∷◌, ◌≡◌, ◌≤◌}

-- each has at most 255 bytes
abbrev pub AreShort : List Name → Type 0
AreShort [] = Unit {0}
AreShort (name ∷ names) = (length name ≤ 255) × AreShort names

-- none is there, each in a directory of its own, which have the numbers from that one on
abbrev pub IsClear : Files → ℕ → List Name → Type 0
IsClear files directory [] = Unit {0}
IsClear files directory (name ∷ names) = (child files directory name ≡ None) × IsClear files (directory + 1) names

-- the first isn't there in the directory, and neither are the others in those that are made next
abbrev pub CanBeMade : Files → ℕ → List Name → Type 0
CanBeMade files here [] = Unit {0}
CanBeMade files here (name ∷ names) = (child files here name ≡ None) × IsClear files files.next_node names
