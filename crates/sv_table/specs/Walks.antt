-- The walk over the words of a table, and the places of its nodes.
use Rattle.mck_flags.specs.declared.rights.Rights.{Rights}
use Rattle.mck_word.specs.Maps.{Map, and_then, no_rows, set_or_cut}
use Rattle.mck_word.specs.declared.Frame.{Frame}
use Rattle.std.specs.Prelude.{ℕ, zero, suc, ◌+◌, ◌-◌, ◌/◌, ◌%◌, ◌^◌, ◌==◌, cond, nat_lt, List, Option, None, Some, slice_index}
use Rattle.sv_table.specs.Words.{node_in, page_in}

-- the nodes by their keys, each as its words
abbrev pub Nodes : Type 0
Nodes = ℕ → Option (List ℕ)

abbrev pub word_in : Option (List ℕ) → ℕ → ℕ
word_in None i = 0
word_in (Some words) i = slice_index words i

-- the i-th word of a node
abbrev pub word : Nodes → ℕ → ℕ → ℕ
word node key i = word_in (node key) i

-- the node below the i-th entry of a node
unfoldable pub child : Nodes → ℕ → ℕ → Option ℕ
child node key i = node_in (word node key i)

-- what the walk from the root finds for a page, by its three indexes
unfoldable pub walk : Nodes → ℕ → Option (Frame × Rights)
walk node page =
    and_then (child node 0 (page / 262144)) (λ middle. and_then (child node middle (page / 512 % 512)) (λ leaf. page_in (word node leaf (page % 512))))

-- the pages below n, each with what is found for it
unfoldable pub rows_below : (ℕ → Option (Frame × Rights)) → ℕ → Map (Frame × Rights)
rows_below find zero = no_rows
rows_below find (suc n) = set_or_cut (rows_below find n) n (find n)

-- the rows of a table
unfoldable pub rows_of : Nodes → Map (Frame × Rights)
rows_of node = rows_below (walk node) (2 ^ 27)

-- a node's place: 0 is the root's, 1 + m that of the node for the m-th 262,144 pages, and 513 + l that of the node for the l-th 512 pages
abbrev pub place_of_leaf : ℕ → ℕ
place_of_leaf page = 513 + page / 512

abbrev pub place_of_middle : ℕ → ℕ
place_of_middle page = 1 + page / 262144

-- the place above, the entry there, and how far below the root a place is
abbrev pub above : ℕ → ℕ
above place = (place - 1) / 512

abbrev pub entry_above : ℕ → ℕ
entry_above place = (place - 1) % 512

abbrev pub depth : ℕ → ℕ
depth place = cond (place == 0) 0 (cond (nat_lt place 513) 1 2)

-- the node that is met so many steps below the root on the way to a place
unfoldable pub down : Nodes → ℕ → ℕ → Option ℕ
down node zero place = Some 0
down node (suc n) place = and_then (down node n (above place)) (λ key. child node key (entry_above place))

-- the key of the node at a place
unfoldable pub key_at : Nodes → ℕ → Option ℕ
key_at node place = down node (depth place) place
