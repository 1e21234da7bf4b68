-- What the definitions see of the store, and what it keeps.
use Rattle.file_model.specs.Files.{Files}
use Rattle.file_model.specs.declared.descriptions.Description.{Description}
use Rattle.file_model.specs.declared.descriptions.Target.TheVariants.{OfNode, ReadEnd, WriteEnd}
use Rattle.file_tree.specs.Counting.{count_in}
use Rattle.linux_files.specs.Counted.{names_of, opens_of}
use Rattle.linux_files.specs.declared.parts.Loose.TheVariants.{AllOpen, Any, One}
use Rattle.linux_files.specs.declared.parts.Loose.{Loose}
use Rattle.linux_files.specs.declared.parts.Parts.{Parts}
use Rattle.mck_word.specs.Maps.{at}
use Rattle.std.specs.Prelude.{Bool, List, Some, false, nat_lt, true, ℕ, ◌<◌, ◌==◌, ◌^◌, ◌||◌, ◌≡◌}

-- its files
abbrev pub seen_parts : Parts → Files
seen_parts p = record {
  nodes = p.tree.map;
  next_node = p.tree.next;
  pipes = p.pipes.map;
  descriptions = p.descriptions.map;
  descriptors = p.descriptors.map;
  consoles = p.consoles.map;
}

-- the counts are those of the open descriptions and of the descriptors
pub record IsCounted (p : Parts) : Type 0 where
  pub named : (d : ℕ) → count_in p.named.counts d ≡ names_of p.descriptors.map d
  pub holds : (n : ℕ) → count_in p.tree.holds n ≡ opens_of p.descriptions.map (OfNode n)
  pub readers : (q : ℕ) → count_in p.readers.counts q ≡ opens_of p.descriptions.map (ReadEnd q)
  pub writers : (q : ℕ) → count_in p.writers.counts q ≡ opens_of p.descriptions.map (WriteEnd q)

-- a description that a call holds or a descriptor names, and a pipe of which an end is open
abbrev pub is_used : Parts → ℕ → Description → Bool
is_used p d x = nat_lt 0 x.calls || nat_lt 0 (count_in p.named.counts d)

abbrev pub has_end : Parts → ℕ → Bool
has_end p q = nat_lt 0 (count_in p.readers.counts q) || nat_lt 0 (count_in p.writers.counts q)

-- the pipes of which maybe no end is open
abbrev pub may_be_loose : Loose → ℕ → Bool
may_be_loose AllOpen q = false
may_be_loose (One pipe) q = q == pipe
may_be_loose Any q = true

-- all pipes are open, but for some
abbrev pub PipesOpen : (ℕ → Bool) → Parts → Type 0
PipesOpen but p = (q : ℕ) (bytes : List ℕ) → at p.pipes.map q ≡ Some bytes → (but q || has_end p q) ≡ true

-- all descriptions are used, but for some
abbrev pub DescriptionsUsed : (ℕ → Bool) → Parts → Type 0
DescriptionsUsed but p = (d : ℕ) (x : Description) → at p.descriptions.map d ≡ Some x → (but d || is_used p d x) ≡ true

-- what holds also while things go that nothing uses any more
pub record IsKept (p : Parts) : Type 0 where
  pub counted : IsCounted p
  pub pipes : PipesOpen (may_be_loose p.loose) p
  pub small : (d : ℕ) (x : Description) → at p.descriptions.map d ≡ Some x → d < 2 ^ 32

-- what the store keeps
pub record IsStore (p : Parts) : Type 0 where
  pub kept : IsKept p
  pub used : DescriptionsUsed (λ _. p.unsettled) p
