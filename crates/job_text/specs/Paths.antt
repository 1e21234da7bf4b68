-- Paths of a job's files.
use Rattle.std.specs.Prelude.{ℕ, ◌==◌, ◌&&◌, ◌||◌, not, nat_le, nat_lt, bytes_eq, codes, List, [], ◌∷◌, length, drop, Bool, true, false}
use Rattle.std.specs.List.{list_any, list_all, slice_split, starts_with}
use Rattle.job_model.specs.declared.job.FileLine.{FileLine}

abbrev pub names_in : List ℕ → List (List ℕ)
names_in text = slice_split (λ b. b == 47) text

-- the names behind the first slash
abbrev pub names_of : List ℕ → List (List ℕ)
names_of path = names_in (drop 1 path)

abbrev pub is_name : List ℕ → Bool
is_name name = (nat_lt 0 (length name) && nat_le (length name) 255) && (not (bytes_eq name (codes ".")) && not (bytes_eq name (codes "..")))

-- 1 to 8 names behind a slash
abbrev pub is_path : List ℕ → Bool
is_path [] = false
is_path (b ∷ bs) = b == 47 && (nat_le (length (names_in bs)) 8 && list_all is_name (names_in bs))

-- the path is the other one or lies below it
abbrev pub runs_through : List ℕ → List ℕ → Bool
runs_through path other = starts_with bytes_eq (names_of path) (names_of other)

-- one of the two is or lies below the other
abbrev pub meets : List ℕ → List ℕ → Bool
meets path other = runs_through path other || runs_through other path

abbrev pub is_taken : List FileLine → List ℕ → Bool
is_taken files path = list_any (λ f. meets path f.path) files

-- the same as `starts_with` on the names of two texts, read byte by byte: the other text, and then its end or a slash
abbrev pub ends_name : List ℕ → Bool
ends_name [] = true
ends_name (b ∷ bs) = b == 47

abbrev pub goes_through : List ℕ → List ℕ → Bool
goes_through text [] = ends_name text
goes_through [] (b ∷ bs) = false
goes_through (a ∷ rest) (b ∷ bs) = a == b && goes_through rest bs
