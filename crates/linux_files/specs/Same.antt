-- Where room is made, all but room stays.
use Rattle.linux_files.specs.declared.parts.Parts.{Parts}
use Rattle.std.specs.Prelude.{◌≡◌}

pub record IsSame (old new : Parts) : Type 0 where
  pub nodes : new.tree.map ≡ old.tree.map
  pub next : new.tree.next ≡ old.tree.next
  pub pipes : new.pipes.map ≡ old.pipes.map
  pub descriptions : new.descriptions.map ≡ old.descriptions.map
  pub descriptors : new.descriptors.map ≡ old.descriptors.map
  pub consoles : new.consoles.map ≡ old.consoles.map
  pub holds : new.tree.holds ≡ old.tree.holds
  pub named : new.named.counts ≡ old.named.counts
  pub readers : new.readers.counts ≡ old.readers.counts
  pub writers : new.writers.counts ≡ old.writers.counts
  pub loose : new.loose ≡ old.loose
  pub unsettled : new.unsettled ≡ old.unsettled
