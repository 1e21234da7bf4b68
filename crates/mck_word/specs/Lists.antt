-- Words on lists that the definitions share.
-- Source: this project's own.
use Rattle.std.specs.Prelude.{ℕ, zero, suc, ◌+◌, ◌-◌, Bool, not, cond, ◌==◌, List, [], ◌∷◌, ◌++◌, map, length, take, drop, replicate, filter, find, unwrap_or}
use Rattle.std.specs.List.{list_any}

-- the first element that passes, or d
abbrev pub find_or : {X : Type 0} → (X → Bool) → List X → X → X
find_or test xs d = unwrap_or (find test xs) d

-- each element that passes is changed by f, and all others stay
abbrev pub update : {X : Type 0} → (X → Bool) → (X → X) → List X → List X
update test f xs = map (λ x. cond (test x) (f x) x) xs

-- the elements that do not pass
abbrev pub without : {X : Type 0} → (X → Bool) → List X → List X
without test xs = filter (λ x. not (test x)) xs

abbrev pub member : ℕ → List ℕ → Bool
member n ns = list_any (λ m. m == n) ns

-- n, n + 1, up to n + k - 1
abbrev pub count_from : ℕ → ℕ → List ℕ
count_from n zero = []
count_from n (suc k) = n ∷ count_from (n + 1) k

-- the least number that is not in the list
abbrev pub lowest_not_in : List ℕ → ℕ
lowest_not_in ns = find_or (λ n. not (member n ns)) (count_from 0 (length ns)) (length ns)

-- the bytes with `new` at `offset`; what lies between the end and the offset is zero
abbrev pub spliced : List ℕ → ℕ → List ℕ → List ℕ
spliced bytes offset new = take offset bytes ++ replicate (offset - length bytes) 0 ++ new ++ drop (offset + length new) bytes

-- x put into a list that rises by `key`, behind those that are not above it
abbrev pub insert_by : {X : Type 0} → (X → X → Bool) → X → List X → List X
insert_by before x [] = x ∷ []
insert_by before x (y ∷ ys) = cond (before x y) (x ∷ y ∷ ys) (y ∷ insert_by before x ys)

-- the list in rising order
abbrev pub sorted_by : {X : Type 0} → (X → X → Bool) → List X → List X
sorted_by before [] = []
sorted_by before (x ∷ xs) = insert_by before x (sorted_by before xs)

-- the list without its first element, and without its last
abbrev pub tail : {X : Type 0} → List X → List X
tail xs = drop 1 xs

abbrev pub all_but_last : {X : Type 0} → List X → List X
all_but_last xs = take (length xs - 1) xs

-- the bytes up to the first zero byte, and whether there is one
abbrev pub before_zero : List ℕ → List ℕ
before_zero [] = []
before_zero (zero ∷ bs) = []
before_zero (suc b ∷ bs) = suc b ∷ before_zero bs
