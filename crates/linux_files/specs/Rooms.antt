-- What the store has room for.
use Rattle.file_calls.specs.Rooms.{Room}
use Rattle.file_model.specs.declared.descriptions.Target.TheVariants.{OfConsole, OfNode, ReadEnd, WriteEnd}
use Rattle.file_model.specs.declared.descriptions.Target.{Target}
use Rattle.file_tree.specs.Tables.{Tally}
use Rattle.file_tree.specs.Trees.{CanWrite}
use Rattle.linux_files.specs.declared.parts.Parts.{Parts}
use Rattle.mck_word.specs.Maps.{at, count}
use Rattle.std.specs.Prelude.{IfSome, min, ℕ, ◌-◌, ◌/◌, ◌^◌, ◌≤◌}

-- how often something new can be counted
abbrev pub room_in : Tally → ℕ
room_in t = min t.spare t.left

-- the numbers of descriptions and pipes are below 2 ^ 32; a process that shares counts up to 64 names
abbrev pub room_of_parts : Parts → Room
room_of_parts p = record {
  nodes = p.tree.spare;
  opens = min (min (min p.descriptions.spare p.descriptors.spare) (2 ^ 32 - count p.descriptions.map)) (min (min (room_in p.named) (min p.tree.spare_holds p.tree.left_holds)) (min (room_in p.readers) (room_in p.writers)));
  pipes = min p.pipes.spare (2 ^ 32 - count p.pipes.map);
  shares = min p.descriptors.spare (p.named.left / 64);
}

-- up to which end a target can be written
abbrev pub can_write_parts : Parts → Target → ℕ → Type 0
can_write_parts p (OfNode n) end = CanWrite p.tree.map p.tree.rooms n end
can_write_parts p (ReadEnd q) end = Unit {0}
can_write_parts p (WriteEnd q) end = IfSome (at p.pipes.rooms q) (λ room. end ≤ room)
can_write_parts p (OfConsole guest) end = IfSome (at p.consoles.rooms guest) (λ room. end ≤ room)

-- there is room to count so many more descriptions and names
pub record HasCounts (n : ℕ) (p : Parts) : Type 0 where
  pub named : n ≤ room_in p.named
  pub holds : n ≤ min p.tree.spare_holds p.tree.left_holds
  pub readers : n ≤ room_in p.readers
  pub writers : n ≤ room_in p.writers
