-- Room for pages: nodes on their paths that are absent, and places in the slab for them.
use Rattle.mck_word.specs.declared.PageRange.{PageRange}
use Rattle.page_map.specs.Counts.{count_to}
use Rattle.slab.specs.Slab.{Slab, get, slab_len}
use Rattle.std.specs.Prelude.{ℕ, ◌+◌, ◌-◌, ◌*◌, ◌≤◌, ◌&&◌, ◌||◌, Bool, IsTrue, cond, false, nat_le, nat_lt, List, [], ◌∷◌, is_none, min, max}
use Rattle.sv_table.specs.Walks.{Nodes, key_at}

-- the first page of a place, and how many it has
abbrev pub first_page : ℕ → ℕ
first_page place = cond (nat_lt place 513) ((place - 1) * 262144) ((place - 513) * 512)

abbrev pub page_count : ℕ → ℕ
page_count place = cond (nat_lt place 513) 262144 512

-- whether some page of the ranges is below the place
abbrev pub touched_by : PageRange → ℕ → Bool
touched_by r place = nat_lt (max r.lo (first_page place)) (min r.hi (first_page place + page_count place))

abbrev pub is_touched : List PageRange → ℕ → Bool
is_touched [] place = false
is_touched (r ∷ rs) place = touched_by r place || is_touched rs place

-- how many nodes on the paths of the ranges' pages are absent
abbrev pub absent : Nodes → List PageRange → ℕ
absent node rs = count_to (λ place. is_touched rs place && is_none (key_at node place)) 262657

-- how many places from first up to end have no node
abbrev pub absent_from : Nodes → ℕ → ℕ → ℕ
absent_from node first end = count_to (λ place. nat_le first place && is_none (key_at node place)) end

-- the slab has a place for each of them
abbrev pub FitsIn : Slab (List ℕ) → List PageRange → Type 0
FitsIn nodes rs = absent (get nodes) rs + slab_len nodes ≤ nodes.capacity

-- there is room for some list with pages below the place
abbrev pub HasPlace : Slab (List ℕ) → ℕ → Type 0
HasPlace nodes place = (rs : List PageRange) × FitsIn nodes rs × IsTrue (is_touched rs place)
