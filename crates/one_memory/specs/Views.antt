-- What is read and stored where a process may read and write.
use Rattle.isa_model.specs.Memory.{Memory, may_access, read_bytes, write_bytes}
use Rattle.mck_word.specs.declared.Access.TheVariants.{Read, Write}
use Rattle.std.specs.Prelude.{List, cond, length, ℕ}

-- the memory after a store that is left out where it can't be made
abbrev pub tried : ℕ → List ℕ → Memory → Memory
tried address bytes m = cond (may_access m Write address (length bytes)) (write_bytes m address bytes) m

-- the bytes at an address, or those that were there before, where they can't be read
abbrev pub read_or : List ℕ → ℕ → Memory → List ℕ
read_or old address m = cond (may_access m Read address (length old)) (read_bytes m address (length old)) old
