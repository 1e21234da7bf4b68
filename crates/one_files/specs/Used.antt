-- What somebody names, over the maps that say so: the tests of Files' used_description, used_node and used_pipe.
use Rattle.file_model.specs.Files.{Inode, is_same_target, root}
use Rattle.file_model.specs.declared.descriptions.Description.{Description}
use Rattle.file_model.specs.declared.descriptions.Target.{Target}
use Rattle.file_model.specs.declared.descriptions.Target.TheVariants.{OfNode, ReadEnd, WriteEnd}
use Rattle.mck_word.specs.Maps.{Map, some_row}
use Rattle.std.specs.Prelude.{Bool, List, is_some, nat_lt, ℕ, ◌==◌, ◌||◌}

abbrev pub opens_to : Map Description → Target → Bool
opens_to descriptions target = some_row (λ d (x : Description). is_same_target x.target target) descriptions

abbrev pub names_it : Map (Map ℕ) → ℕ → Bool
names_it descriptors d = some_row (λ process (fds : Map ℕ). some_row (λ fd named. named == d) fds) descriptors

abbrev pub is_used_description : Map (Map ℕ) → ℕ → Description → Bool
is_used_description descriptors d x = nat_lt 0 x.calls || names_it descriptors d

abbrev pub is_used_node : Map Description → ℕ → Inode → Bool
is_used_node descriptions n x = n == root || is_some x.name || opens_to descriptions (OfNode n)

abbrev pub is_used_pipe : Map Description → ℕ → List ℕ → Bool
is_used_pipe descriptions p bytes = opens_to descriptions (ReadEnd p) || opens_to descriptions (WriteEnd p)
