-- The order of tags is total.
use Rattle.file_tree.specs.Tags.{Tag, tag_cmp}
use Rattle.std.proofs.Common.{refl, subst, sym}
use Rattle.std.specs.Cmp.Lexicographic.{nat_list_cmp_total, slice_cmp}
use Rattle.std.specs.Cmp.{IsTotalOrder, nat_cmp_total, on_total, then_total}
use Rattle.std.specs.FinMap.{IsAntisymmetric, nat_cmp-IsAntisymmetric, slice_cmp-IsAntisymmetric}
use Rattle.std.specs.Ordering.{is_eq, nat_cmp, ordering_then}
use Rattle.std.specs.Prelude.{T, ◌≡◌}
use Rattle.std.specs.declared.cmp.Ordering.TheVariants.{Equal, Greater, Less}
use Rattle.std.specs.declared.cmp.Ordering.{Ordering}

pub tag_total : IsTotalOrder tag_cmp
tag_total = then_total {R = λ (a b : Tag). nat_cmp a.0 b.0} {S = λ (a b : Tag). slice_cmp nat_cmp a.1 b.1} (on_total (λ (t : Tag). t.0) nat_cmp_total) (on_total (λ (t : Tag). t.1) nat_list_cmp_total)

pub tag_same : IsAntisymmetric tag_cmp
tag_same a b e = go (nat_cmp a.0 b.0) refl e
  where
    go : (o : Ordering) → nat_cmp a.0 b.0 ≡ o → ordering_then o (slice_cmp nat_cmp a.1 b.1) ≡ Equal → a ≡ b
    go Less p q = absurd (subst (λ (o : Ordering). T (is_eq o)) (sym q) tt)
    go Equal p q = λ i. (nat_cmp-IsAntisymmetric a.0 b.0 p i, slice_cmp-IsAntisymmetric nat_cmp-IsAntisymmetric a.1 b.1 q i)
    go Greater p q = absurd (subst (λ (o : Ordering). T (is_eq o)) (sym q) tt)
