-- How many nodes are absent, where one comes or goes.
use Rattle.mck_word.specs.declared.PageRange.{PageRange}
use Rattle.page_map.specs.Counts.{count_to-same}
use Rattle.std.proofs.Common.{◌≡◌, ◌≢◌, ℕ, ◌+◌, ◌<◌, ◌≤◌, Bool, true, false, List, None, Some, refl, sym, ap, ◌∙◌}
use Rattle.std.specs.Prelude.{IsTrue, is_none, ◌&&◌}
use Rattle.sv_table.proofs.Counting.{at_least_one, one_less, one_more}
use Rattle.sv_table.specs.Room.{absent, is_touched}
use Rattle.sv_table.specs.Walks.{Nodes, key_at}

off : (b : Bool) → (b && false) ≡ false
off true = refl
off false = refl

module _ (node node2 : Nodes) (rs : List PageRange) where
  pub absent-same : ((place : ℕ) → place < 262657 → key_at node2 place ≡ key_at node place) → absent node2 rs ≡ absent node rs
  absent-same same = count_to-same (λ q. is_touched rs q && is_none (key_at node2 q)) (λ q. is_touched rs q && is_none (key_at node q)) 262657 (λ q l. ap (λ o. is_touched rs q && is_none o) (same q l))

  pub absent-less : (place key : ℕ) → place < 262657 → IsTrue (is_touched rs place) → key_at node place ≡ None → key_at node2 place ≡ Some key
      → ((q : ℕ) → q < 262657 → q ≢ place → key_at node2 q ≡ key_at node q) → absent node rs ≡ absent node2 rs + 1
  absent-less place key l there none some same =
      one_less (λ q. is_touched rs q && is_none (key_at node q)) (λ q. is_touched rs q && is_none (key_at node2 q)) place 262657 l
      (rw (there, none) refl)
      (ap (λ o. is_touched rs place && is_none o) some ∙ off (is_touched rs place))
      (λ q m other. ap (λ o. is_touched rs q && is_none o) (sym (same q m other)))

  pub absent-more : (place : ℕ) → ((q : ℕ) → q < 262657 → q ≢ place → key_at node2 q ≡ key_at node q) → absent node2 rs ≤ absent node rs + 1
  absent-more place same =
      one_more (λ q. is_touched rs q && is_none (key_at node2 q)) (λ q. is_touched rs q && is_none (key_at node q)) place 262657
      (λ q m other. ap (λ o. is_touched rs q && is_none o) (same q m other))

-- a place that is touched and has no node is counted
pub absent-some : (node : Nodes) (rs : List PageRange) (place : ℕ) → place < 262657 → IsTrue (is_touched rs place) → key_at node place ≡ None → 1 ≤ absent node rs
absent-some node rs place l there none = at_least_one (λ q. is_touched rs q && is_none (key_at node q)) place 262657 l (rw (there, none) refl)
