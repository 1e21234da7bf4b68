-- A tree of marks over the frames: node 1 is the root, node k has the children 2 k and 2 k + 1, and the leaves stand in the upper half.
use Rattle.frame_pool.specs.Pools.{passing}
use Rattle.std.specs.Prelude.{Bool, List, false, length, slice_index_or, ℕ, ◌*◌, ◌+◌, ◌<◌, ◌^◌, ◌||◌, ◌≡◌, ◌≤◌}

abbrev pub marked : List Bool → ℕ → Bool
marked nodes k = slice_index_or nodes k false

-- a node is marked where one of its children is
abbrev pub RuleAt : List Bool → ℕ → Type 0
RuleAt nodes k = marked nodes k ≡ (marked nodes (2 * k) || marked nodes (2 * k + 1))

abbrev pub IsMarked : List Bool → ℕ → Type 0
IsMarked nodes leaves = (k : ℕ) → 1 ≤ k → k < leaves → RuleAt nodes k

-- the frames whose leaf is marked
abbrev pub free_in : List Bool → ℕ → List ℕ
free_in nodes leaves = passing (λ f. marked nodes (leaves + f)) 0 leaves

-- what the fields of a pool keep: the tree, its height, the number of frames and that of the free ones
pub record IsPool (nodes : List Bool) (leaves height frames free : ℕ) : Type 0 where
  pub size : length nodes ≡ 2 * leaves
  pub power : leaves ≡ 2 ^ height
  pub enough : frames ≤ leaves
  pub small : leaves ≤ 2 ^ 32
  pub rule : IsMarked nodes leaves
  pub beyond : (k : ℕ) → leaves + frames ≤ k → marked nodes k ≡ false
  pub counted : free ≡ length (free_in nodes leaves)
