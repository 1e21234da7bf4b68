-- Directories with names, in order.
use Rattle.file_model.specs.Files.{Inode, Name, no_node}
use Rattle.mck_word.specs.Maps.{Map, and_then, at}
use Rattle.std.specs.Cmp.Lexicographic.{slice_cmp}
use Rattle.std.specs.Ordering.{is_gt, nat_cmp, ordering_then}
use Rattle.std.specs.Prelude.{Bool, List, [], ◌∷◌, ◌&&◌, ◌==◌, Option, bytes_eq, cond, option_map, suc, unwrap_or, ℕ}
use Rattle.std.specs.declared.cmp.Ordering.{Ordering}

-- a directory with a name in it
abbrev pub Tag : Type 0
Tag = ℕ × Name

-- by directory, and there by the order of bytes
abbrev pub tag_cmp : Tag → Tag → Ordering
tag_cmp a b = ordering_then (nat_cmp a.0 b.0) (slice_cmp nat_cmp a.1 b.1)

-- the tag of a node, without bytes where it has no name
abbrev pub tag_of : Inode → Tag
tag_of x = (x.parent, unwrap_or x.name [])

abbrev pub tag_at : Map Inode → ℕ → Tag
tag_at m n = tag_of (unwrap_or (at m n) no_node)

-- the tag under which a node is found, where it has a name
abbrev pub named_as : Inode → Option Tag
named_as x = option_map (λ (name : Name). (x.parent, name)) x.name

abbrev pub tag_in : Map Inode → ℕ → Option Tag
tag_in m n = and_then (at m n) named_as

-- whether a tag is that directory with that name
abbrev pub is_tag : Tag → ℕ → Name → Bool
is_tag t directory name = t.0 == directory && bytes_eq t.1 name

-- how many entries at the front have keys below a key
abbrev pub place : {K : Type 0} {X : Type 0} → (K → K → Ordering) → K → List (K × X) → ℕ
place R q [] = 0
place R q (e ∷ es) = cond (is_gt (R q e.0)) (suc (place R q es)) 0
