-- The store at the beginning.
use Rattle.file_model.specs.declared.descriptions.Target.{Target}
use Rattle.file_tree.proofs.Members.{no-value}
use Rattle.file_tree.proofs.Totals.{total-none}
use Rattle.file_tree.specs.CountLaws.{count-none}
use Rattle.file_tree.specs.Counting.{count_in}
use Rattle.linux_files.specs.Counted.{names_of, opens_it, opens_of}
use Rattle.linux_files.specs.Seen.{IsStore}
use Rattle.linux_files.specs.Slotted.{names_in_row}
use Rattle.linux_files.specs.declared.parts.Parts.{Parts}
use Rattle.mck_word.specs.MapLaws.{at-none}
use Rattle.mck_word.specs.Maps.{Map, at, no_rows}
use Rattle.std.proofs.Common.{ap, sym, ◌∙◌}
use Rattle.std.specs.Prelude.{ℕ, ◌≡◌}

pub store-new : (p : Parts) → p.tree.holds ≡ no_rows → p.named.counts ≡ no_rows → p.readers.counts ≡ no_rows → p.writers.counts ≡ no_rows → p.descriptions.map ≡ no_rows → p.descriptors.map ≡ no_rows → p.pipes.map ≡ no_rows → IsStore p
store-new p holds named readers writers descriptions descriptors pipes = record {
  kept = record {
    counted = record {
      named = λ d. none_at p.named.counts named d ∙ sym (ap (λ m. names_of m d) descriptors ∙ total-none (names_in_row d));
      holds = λ n. none_at p.tree.holds holds n ∙ sym (none_open _);
      readers = λ q. none_at p.readers.counts readers q ∙ sym (none_open _);
      writers = λ q. none_at p.writers.counts writers q ∙ sym (none_open _);
    };
    pipes = λ q bytes e. no-value bytes (sym e ∙ ap (λ m. at m q) pipes ∙ at-none q);
    small = λ d x e. no-value x (sym e ∙ ap (λ m. at m d) descriptions ∙ at-none d);
  };
  used = λ d x e. no-value x (sym e ∙ ap (λ m. at m d) descriptions ∙ at-none d);
}
  where
    none_at : (m : Map ℕ) → m ≡ no_rows → (q : ℕ) → count_in m q ≡ 0
    none_at m e q = ap (λ m. count_in m q) e ∙ count-none q

    none_open : (target : Target) → opens_of p.descriptions.map target ≡ 0
    none_open target = ap (λ m. opens_of m target) descriptions ∙ total-none (opens_it target)
