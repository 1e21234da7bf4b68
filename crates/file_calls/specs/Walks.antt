-- Where the names of a text lead.
use Rattle.file_calls.specs.declared.walk.Found.{Found}
use Rattle.file_calls.specs.declared.walk.Found.TheVariants.{Node, Missing, Error}
use Rattle.file_model.specs.Files.{Files, Name, node_of}
use Rattle.file_model.specs.Paths.{NoPlace, NoStart, Place, Present, Absent, Start, StartAt, child, names_of, walk_names, without_dots}
use Rattle.std.specs.Prelude.{◌≡◌, ◌≤◌, ℕ, Bool, cond, List, Option, None, Some, Result, Ok, Err, length, true}

-- what the answer of a walk says
abbrev pub place : Found → Place
place (Node n) = Present n
place (Missing directory name) = Absent directory name.now
place (Error errno) = NoPlace errno

-- a name that is missing can be made: its directory is one, it is not there, and it is not too long
abbrev pub CanBeMade : Files → Found → Type 0
CanBeMade files (Node n) = Unit {0}
CanBeMade files (Missing directory name) = ((node_of files directory).directory ≡ true) × (child files directory name.now ≡ None) × (length name.now ≤ 255)
CanBeMade files (Error errno) = Unit {0}

-- the names of a text but `.`
unfoldable pub steps : List ℕ → List Name
steps text = without_dots (names_of text)

-- the place to which they lead from a node
unfoldable pub walked : Files → ℕ → List ℕ → Place
walked files here text = walk_names files here (steps text)

-- what the answer of a start says
abbrev pub start : Result ℕ ℕ → Start
start (Ok n) = StartAt n
start (Err errno) = NoStart errno

-- the error of a path with a special last name, by whether a directory is to be removed
abbrev pub special : Bool → Option (ℕ × ℕ) → Option ℕ
special removes None = None
special removes (Some e) = Some (cond removes e.1 e.0)
