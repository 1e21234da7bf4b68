use Rattle.slab.specs.Slab.{get}
use Rattle.std.proofs.Common.{◌≡◌, ◌≢◌, ℕ, None, Some, get_or, sym, ap, ◌∙◌, arith}
use Rattle.sv_table.proofs.RootAlone.{root_rows, root_tree}
use Rattle.sv_table.proofs.room.root_alone.Goals as goal

-- the key of the root
first : (c : goal.After-insert_reserved) → c.insert_reserved.result ≡ 0
first c = c.insert_reserved.ensures.key ∙ ap (λ s. s.vacant_key) c.reserve.ensures.rest_kept ∙ c.new-nodes.ensures.first_key

root : (c : goal.After-insert_reserved) → get c.insert_reserved.new.self 0 ≡ Some c.new.result
root c = ap (get c.insert_reserved.new.self) (sym (first c)) ∙ c.insert_reserved.ensures.updates.changed

others : (c : goal.After-insert_reserved) → (key : ℕ) → key ≢ 0 → get c.insert_reserved.new.self key ≡ None
others c key o =
    c.insert_reserved.ensures.updates.others key (λ e. o (e ∙ first c))
    ∙ ap (λ s. get_or s key None) (ap (λ s. s.slots) c.reserve.ensures.rest_kept ∙ c.new-nodes.ensures.empty)

pub returns-clause-table : goal.returns-clause-table
returns-clause-table c = record {
  tree = root_tree (get c.insert_reserved.new.self) c.new.result c.new.ensures (root c) (others c);
  few = omega (arith, c.insert_reserved.ensures.capacity, c.capacity.ensures.value, c.if-capacity-gt-MOST_NODES.false);
}

pub returns-clause-empty : goal.returns-clause-empty
returns-clause-empty c = root_rows (get c.insert_reserved.new.self) c.new.result c.new.ensures (root c) (others c)
