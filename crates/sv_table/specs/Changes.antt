-- What stays where the nodes of a table change.
use Rattle.std.specs.Prelude.{ℕ, ◌≡◌, ◌^◌, ◌<◌}
use Rattle.sv_table.specs.Walks.{Nodes, walk}

-- every page's walk finds the same
abbrev pub SameWalks : Nodes → Nodes → Type 0
SameWalks old new = (page : ℕ) → page < 2 ^ 27 → walk new page ≡ walk old page
