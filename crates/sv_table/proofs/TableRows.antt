-- The rows of a table and of the slab inside it.
use Rattle.mck_flags.specs.declared.rights.Rights.{Rights}
use Rattle.mck_word.specs.Maps.{at, change, cut}
use Rattle.mck_word.specs.declared.Frame.{Frame}
use Rattle.slab.specs.Slab.{Slab, get}
use Rattle.std.proofs.Common.{◌≡◌, ◌≢◌, ℕ, ◌^◌, ◌<◌, List, None, Some, ap, ◌∙◌, subst, sym}
use Rattle.std.specs.Prelude.{IsTrue, is_some, option_map}
use Rattle.sv_table.proofs.Walked.{at-rows_low, row-found, row-low, rows-changed, rows-set}
use Rattle.sv_table.specs.Walks.{rows_of, walk}

module _ (inside whole : Slab (List ℕ)) (same : inside ≡ whole) (page : ℕ) (there : IsTrue (is_some (at (rows_of (get whole)) page))) where
  pub there_inside : IsTrue (is_some (at (rows_of (get inside)) page))
  there_inside = subst (λ s. IsTrue (is_some (at (rows_of (get s)) page))) (sym same) there

  pub low_inside : page < 2 ^ 27
  low_inside = row-low (get inside) page there_inside

  pub found_inside : IsTrue (is_some (walk (get inside) page))
  found_inside = row-found (get inside) page there_inside

  pub frame_of : (f : Frame) → option_map (λ w. w.0) (walk (get inside) page) ≡ Some f → option_map (λ w. w.0) (at (rows_of (get whole)) page) ≡ Some f
  frame_of f is =
      let here : at (rows_of (get whole)) page ≡ walk (get inside) page = sym (ap (λ s. at (rows_of (get s)) page) same) ∙ at-rows_low (get inside) page low_inside in
      ap (option_map (λ w. w.0)) here ∙ is

  pub row_gone : (after : Slab (List ℕ)) → walk (get after) page ≡ None → ((other : ℕ) → other < 2 ^ 27 → other ≢ page → walk (get after) other ≡ walk (get inside) other) → rows_of (get after) ≡ cut (rows_of (get whole)) page
  row_gone after none others = rows-set (get inside) (get after) page None low_inside none others ∙ ap (λ s. cut (rows_of (get s)) page) same

  pub row_changed : (after : Slab (List ℕ)) (r : Rights) → walk (get after) page ≡ option_map (λ w. (w.0, r)) (walk (get inside) page)
      → ((other : ℕ) → other < 2 ^ 27 → other ≢ page → walk (get after) other ≡ walk (get inside) other) → rows_of (get after) ≡ change (rows_of (get whole)) page (λ w. (w.0, r))
  row_changed after r here others = rows-changed (get inside) (get after) page (λ w. (w.0, r)) there_inside here others ∙ ap (λ s. change (rows_of (get s)) page (λ w. (w.0, r))) same
