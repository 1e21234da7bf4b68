-- The lowest free places, one after another.
use Rattle.node_parts.specs.Partitions.{lowest_given}
use Rattle.std.proofs.Common.{List, None, Option, Some, [], ap, drop, refl, sym, take, ℕ, ◌++◌, ◌∙◌, ◌∷◌, ◌≡◌}
use Rattle.std.proofs.lemmas.List.{set-get_or, take-append-drop}
use Rattle.std.specs.Prelude.{slice_set, slice_index_or}

-- where none is left to give, all stays
none_given : (i : ℕ) (owners : List (Option ℕ)) → lowest_given i 0 owners ≡ owners
none_given i [] = refl
none_given i (Some owner ∷ owners) = ap (λ os. Some owner ∷ os) (none_given i owners)
none_given i (None ∷ owners) = refl

-- all that were to be given are given
pub all_given : (i k left : ℕ) (now then : List (Option ℕ)) → left ≡ 0
    → take k now ++ lowest_given i left (drop k now) ≡ then → slice_set now k (slice_index_or now k None) ≡ then
all_given i k left now then none told =
    set-get_or now k None
    ∙ (sym (take-append-drop k now)
    ∙ (ap (λ os. take k now ++ os) (sym (none_given i (drop k now)))
    ∙ (ap (λ n. take k now ++ lowest_given i n (drop k now)) (sym none) ∙ told)))
