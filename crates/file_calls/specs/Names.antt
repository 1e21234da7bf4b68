-- Where the names of a path's text lie.
use Rattle.std.specs.Prelude.{ℕ, suc, cond, List, [], ◌∷◌, ◌==◌}
use Rattle.file_model.specs.Paths.{slash}

-- how many bytes at the front are no slash
abbrev pub run_length : List ℕ → ℕ
run_length [] = 0
run_length (b ∷ bs) = cond (b == slash) 0 (suc (run_length bs))

-- how many bytes at the front are slashes
abbrev pub first_name_at : List ℕ → ℕ
first_name_at [] = 0
first_name_at (b ∷ bs) = cond (b == slash) (suc (first_name_at bs)) 0
