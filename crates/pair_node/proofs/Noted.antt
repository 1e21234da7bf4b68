-- The threads after an event, from the threads that it may have made or ended.
use Rattle.pair_node.proofs.Lists.{listed-same}
use Rattle.pair_node.specs.Listed.{IsListed, OwnMoves, Owners, if_left, with_owner}
use Rattle.pair_node.specs.declared.members.Members.{Members}
use Rattle.std.proofs.Common.{ap, arith, refl, sym, ◌∙◌}
use Rattle.std.proofs.lemmas.Bool.Decides.{nat_tests}
use Rattle.std.specs.Prelude.{Bool, None, Option, Some, cond, false, is_some, true, ℕ, ◌==◌, ◌≡◌}

module _ (t p next : ℕ) (f now : Owners) (h : OwnMoves t p next f now) where
  -- with the next thread, where it was made
  abbrev made : Owners
  made = with_owner next (now next) f

  differ : (t == next) ≡ false
  differ = go (t == next) refl
    where
      go : (b : Bool) → (t == next) ≡ b → b ≡ false
      go false e = refl
      go true e = absurd (
          let same : t ≡ next = grind (arith, nat_tests, e) in
          let both : true ≡ false = ap is_some (sym h.there ∙ ap f same ∙ h.fresh) in
          grind (arith, both))

  pub was-there : made t ≡ Some p
  was-there = ap (λ b. cond b (now next) (f t)) differ ∙ h.there

  left-is : if_left now made t ≡ now t
  left-is = go (now t) refl
    where
      go : (o : Option ℕ) → now t ≡ o → cond (is_some o) (made t) None ≡ o
      go None e = refl
      go (Some q) e = ap (λ b. cond b (now next) (f t)) differ ∙ h.stays q e

  pub own-noted : (cores : ℕ) (m : Members) → IsListed (with_owner t (if_left now made t) made) cores m → IsListed now cores m
  own-noted cores m l = listed-same (with_owner t (if_left now made t) made) now cores m (λ u. h.moves u ∙ ap (λ o. cond (u == t) o (made u)) (sym left-is)) l
