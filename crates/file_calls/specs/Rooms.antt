-- What a store of files has room for.
use Rattle.std.specs.Prelude.{ℕ}

-- how many nodes, descriptions with a descriptor, pipes, and processes that share descriptors
pub record Room : Type 0 where
  pub nodes : ℕ
  pub opens : ℕ
  pub pipes : ℕ
  pub shares : ℕ
