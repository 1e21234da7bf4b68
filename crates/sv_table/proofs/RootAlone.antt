-- A table of the root alone: nothing is found.
use Rattle.mck_word.specs.MapLaws.{at-none, same_rows}
use Rattle.mck_word.specs.Maps.{and_then, no_rows}
use Rattle.std.proofs.Common.{◌≡◌, ◌≢◌, ℕ, ◌/◌, ◌%◌, ◌^◌, List, None, Some, refl, sym, ap, subst, ◌∙◌, inl, inr, arith}
use Rattle.std.proofs.lemmas.Bool.{cases_eq, cases_lt}
use Rattle.std.proofs.lemmas.List.{get_or-replicate, length-replicate}
use Rattle.std.specs.Prelude.{is_some, slice_index}
use Rattle.sv_table.proofs.EntryWords.{node_in-none}
use Rattle.sv_table.proofs.Walked.{at-rows_high, at-rows_low}
use Rattle.sv_table.specs.Trees.{IsOpenTree, Kept}
use Rattle.sv_table.specs.Walks.{Nodes, child, rows_of, walk, word, word_in}
use Rattle.sv_table.specs.Words.{empty_node, node_in, page_in}

module _ (node : Nodes) (words : List ℕ) (is : words ≡ empty_node) (root : node 0 ≡ Some words) (others : (key : ℕ) → key ≢ 0 → node key ≡ None) where
  pub root_tree : IsOpenTree node 0
  root_tree =
      record {
        home = λ _. 0;
        tree = record {
          root = ap is_some root;
          top = refl;
          each = λ key ws e. elim (cases_eq key 0) [
            | inl first ↦
                let same : ws ≡ empty_node = (let here = ap node first in cc) in
                subst (λ w. Kept node (λ _. 0) 0 key w) (sym same) (subst (λ k. Kept node (λ _. 0) 0 k empty_node) (sym first) here)
            | inr other ↦ absurd (let none = others key other in cc)
          ];
        };
      }
    where
      here : Kept node (λ _. 0) 0 0 empty_node
      here = record {
        small = omega arith;
        placed = omega arith;
        long = length-replicate {A = ℕ} 512 0;
        inner = λ low i l. inl (get_or-replicate 512 i 0 0 l);
        outer = λ high i l. absurd (omega arith);
        up = λ o. absurd (o refl);
        full = λ o _. absurd (o refl);
      }

  pub root_rows : rows_of node ≡ no_rows
  unfolding walk child
  root_rows = same_rows (rows_of node) no_rows (λ page. elim (cases_lt page (2 ^ 27)) [
    | inl low ↦
        at-rows_low node page low
        ∙ ap (λ o. and_then o (λ middle. and_then (child node middle (page / 512 % 512)) (λ leaf. page_in (word node leaf (page % 512)))))
        (ap (λ o. node_in (word_in o (page / 262144))) root ∙ ap (λ ws. node_in (slice_index ws (page / 262144))) is ∙ ap node_in (get_or-replicate 512 (page / 262144) 0 0 (omega arith)) ∙ node_in-none)
        ∙ sym (at-none page)
    | inr high ↦ at-rows_high node page high ∙ sym (at-none page)
  ])
