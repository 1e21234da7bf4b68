-- The steps of settling, one behind another, and their end.
use Rattle.file_model.specs.Files.{is_open, root, settled}
use Rattle.file_model.specs.declared.descriptions.Description.{Description}
use Rattle.file_model.specs.declared.descriptions.Target.TheVariants.{OfNode, ReadEnd, WriteEnd}
use Rattle.file_tree.proofs.IndexEdits.{at-gone, at-left}
use Rattle.file_tree.proofs.Members.{no-value}
use Rattle.file_tree.specs.Counting.{count_in}
use Rattle.file_tree.specs.Trees.{NodesUsed}
use Rattle.key_rows.specs.Keeping.{kept}
use Rattle.linux_files.proofs.Drops.{named-count, open-count, pipe-settles}
use Rattle.linux_files.proofs.NextKeys.{next-least, next-none, next-there}
use Rattle.linux_files.proofs.Settled.{all-used, pipes-settle}
use Rattle.linux_files.specs.Rings.{is_counted}
use Rattle.linux_files.specs.Seen.{DescriptionsUsed, IsCounted, IsKept, has_end, is_used, may_be_loose, seen_parts}
use Rattle.linux_files.specs.Steps.{AreUsed, Follows}
use Rattle.linux_files.specs.declared.parts.Loose.TheVariants.{AllOpen, One}
use Rattle.linux_files.specs.declared.parts.Loose.{Loose}
use Rattle.linux_files.specs.declared.parts.Parts.{Parts}
use Rattle.key_rows.specs.Table.{key_from}
use Rattle.mck_word.specs.MapLaws.{at-collect}
use Rattle.mck_word.specs.Maps.{Map, and_then, at, cut}
use Rattle.std.proofs.Common.{ap, arith, inl, inr, refl, subst, sym, ◌∙◌}
use Rattle.std.proofs.lemmas.Bool.Decides.{nat_tests}
use Rattle.std.proofs.lemmas.Bool.{cases_eq, cases_lt, ne_eqb}
use Rattle.std.specs.Prelude.{Bool, IfSome, List, None, Option, Some, cond, false, is_some, nat_lt, true, ℕ, ◌+◌, ◌<◌, ◌==◌, ◌^◌, ◌||◌, ◌≡◌, ◌≢◌, ◌⊎◌}

pub follows-on : (a b c : Parts) → Follows a b → Follows b c → Follows a c
follows-on a b c h k = record {
  kept = k.kept;
  settles = k.settles ∙ h.settles;
  fewer = λ d x e. h.fewer d x (k.fewer d x e);
  named = k.named ∙ h.named;
  loose = k.loose ∙ h.loose;
  unsettled = k.unsettled ∙ h.unsettled;
}

used-same : (a b : Parts) (d : ℕ) (x : Description) → b.named.counts ≡ a.named.counts → is_used b d x ≡ is_used a d x
used-same a b d x e = ap (λ m. nat_lt 0 x.calls || nat_lt 0 (count_in m d)) e

-- the next description is looked at
pub next-used : (start a b : Parts) (from d : ℕ) → Some d ≡ key_from a.descriptions.map from → Follows start a → Follows a b → AreUsed (λ q. nat_lt q from) a → IfSome (at b.descriptions.map d) (λ x. is_used b d x ≡ true) → AreUsed (λ q. nat_lt q (d + 1)) b
next-used start a b from d is h k used here q x e l = go (cases_eq q d)
  where
    low : nat_lt q (d + 1) ≡ true → q ≢ d → q < d
    low l n = grind (arith, nat_tests, l, n)

    under : (from q : ℕ) → q < from → nat_lt q from ≡ true
    under from q l = grind (arith, nat_tests, l)

    at_it : (o : Option Description) → at b.descriptions.map d ≡ o → IfSome o (λ x. is_used b d x ≡ true) → at b.descriptions.map d ≡ Some x → is_used b d x ≡ true
    at_it o f g e = subst (λ o. IfSome o (λ x. is_used b d x ≡ true)) (sym f ∙ e) g

    go : (q ≡ d) ⊎ (q ≢ d) → is_used b q x ≡ true
    go (inl same) = ap (λ (j : ℕ). is_used b j x) same ∙ at_it (at b.descriptions.map d) refl here (ap (at b.descriptions.map) (sym same) ∙ e)
    go (inr apart) =
        let before = k.fewer q x e in
        elim (cases_lt q from) [
          | inl less ↦ used-same a b q x k.named ∙ used q x before (under from q less)
          | inr behind ↦ absurd (let least = next-least a.descriptions.map from d is q x before behind in let below = low l apart in omega arith)
        ]

pub next-small : (a : Parts) (from d : ℕ) → Some d ≡ key_from a.descriptions.map from → IsKept a → d < 2 ^ 32
next-small a from d is h = let there = next-there a.descriptions.map from d is in h.small d there.0 there.1

pub next-done : (a : Parts) (from : ℕ) → None ≡ key_from a.descriptions.map from → AreUsed (λ q. nat_lt q from) a → AreUsed (λ _. true) a
next-done a from is used q x e _ = used q x e (let l = next-none a.descriptions.map from is q x e in under from q l)
  where
    under : (from q : ℕ) → q < from → nat_lt q from ≡ true
    under from q l = grind (arith, nat_tests, l)

-- ---- pipes

ends-open : (p : Parts) (q : ℕ) → IsCounted p → (is_open (seen_parts p) (ReadEnd q) || is_open (seen_parts p) (WriteEnd q)) ≡ has_end p q
ends-open p q h =
    λ i. (open-count p.descriptions.map (seen_parts p) (ReadEnd q) refl ∙ ap (nat_lt 0) (sym (h.readers q))) i || (open-count p.descriptions.map (seen_parts p) (WriteEnd q) refl ∙ ap (nat_lt 0) (sym (h.writers q))) i

module _ (old new : Parts) (h : IsKept old) where
  abbrev pub loose_one : Parts
  loose_one = record old { loose = AllOpen }

  -- the one pipe that may be loose
  pub one-kept : (pipe : ℕ) → old.loose ≡ One pipe → new ≡ record loose_one { pipes = new.pipes } → new.pipes.map ≡ cond (has_end old pipe) old.pipes.map (cut old.pipes.map pipe) → IsKept new
  one-kept pipe loose rest map = subst IsKept (sym rest) (record { counted = record { named = h.counted.named; holds = h.counted.holds; readers = h.counted.readers; writers = h.counted.writers }; pipes = all_open; small = h.small })
    where
      by_loose : (q : ℕ) (bytes : List ℕ) → at old.pipes.map q ≡ Some bytes → q ≢ pipe → has_end old q ≡ true
      by_loose q bytes e apart = ap (λ (b : Bool). b || has_end old q) (sym (ap (λ (l : Loose). may_be_loose l q) loose ∙ ne_eqb q pipe apart)) ∙ h.pipes q bytes e

      there : (b : Bool) → has_end old pipe ≡ b → (q : ℕ) (bytes : List ℕ) → at (cond b old.pipes.map (cut old.pipes.map pipe)) q ≡ Some bytes → (q ≡ pipe) ⊎ (q ≢ pipe) → has_end old q ≡ true
      there true f q bytes e (inl same) = ap (has_end old) same ∙ f
      there true f q bytes e (inr apart) = by_loose q bytes e apart
      there false f q bytes e (inl same) = no-value bytes (sym (sym (at-gone old.pipes.map pipe q same) ∙ e))
      there false f q bytes e (inr apart) = by_loose q bytes (sym (at-left old.pipes.map pipe q apart) ∙ e) apart

      all_open : (q : ℕ) (bytes : List ℕ) → at new.pipes.map q ≡ Some bytes → has_end old q ≡ true
      all_open q bytes e = there (has_end old pipe) refl q bytes (ap (λ m. at m q) (sym map) ∙ e) (cases_eq q pipe)

  pub one-settles : (pipe : ℕ) → new ≡ record loose_one { pipes = new.pipes } → new.pipes.map ≡ cond (has_end old pipe) old.pipes.map (cut old.pipes.map pipe) → settled (seen_parts new) ≡ settled (seen_parts old)
  one-settles pipe rest map =
      ap (λ (p : Parts). settled (seen_parts p)) rest ∙ ap (λ (m : Map (List ℕ)). settled (record (seen_parts old) { pipes = m })) map ∙ pipe-settles (seen_parts old) pipe (has_end old pipe) (ends-open old pipe h.counted)

-- all pipes that may be loose
module _ (old new : Parts) (h : IsKept old) (rest : new ≡ record old { pipes = new.pipes; loose = AllOpen }) (map : new.pipes.map ≡ kept (λ pipe bytes. is_counted old.readers.counts old.writers.counts pipe) old.pipes.map) where
  passes : (q : ℕ) (bytes : List ℕ) → at new.pipes.map q ≡ Some bytes → has_end old q ≡ true
  passes q bytes e = go (at old.pipes.map q) (has_end old q) refl (sym (ap (λ m. at m q) map ∙ at-collect (λ k v. cond (has_end old k) (Some v) None) old.pipes.map q) ∙ e)
    where
      go : (o : Option (List ℕ)) (b : Bool) → has_end old q ≡ b → and_then o (λ v. cond b (Some v) None) ≡ Some bytes → has_end old q ≡ true
      go None b f e = no-value bytes (sym e)
      go (Some v) true f e = f
      go (Some v) false f e = no-value bytes (sym e)

  pub every-kept : IsKept new
  every-kept = subst IsKept (sym rest) (record { counted = record { named = h.counted.named; holds = h.counted.holds; readers = h.counted.readers; writers = h.counted.writers }; pipes = passes; small = h.small })

  pub every-settles : settled (seen_parts new) ≡ settled (seen_parts old)
  every-settles =
      ap (λ (p : Parts). settled (seen_parts p)) rest ∙ ap (λ (m : Map (List ℕ)). settled (record (seen_parts old) { pipes = m })) map
      ∙ pipes-settle (seen_parts old) (λ q. has_end old q) (λ q. ends-open old q h.counted)

-- ---- the end

-- where all is used, all stays
pub all-settled : (p : Parts) → IsKept p → p.loose ≡ AllOpen → AreUsed (λ _. true) p → NodesUsed p.tree.holds p.tree.map → settled (seen_parts p) ≡ seen_parts p
all-settled p h loose used nodes = all-used (seen_parts p)
    (λ d x e. ap (λ (b : Bool). nat_lt 0 x.calls || b) (named-count (seen_parts p) d ∙ ap (nat_lt 0) (sym (h.counted.named d))) ∙ used d x e refl)
    (λ n x e. ap (λ (b : Bool). n == root || is_some x.name || b) (open-count p.descriptions.map (seen_parts p) (OfNode n) refl ∙ ap (nat_lt 0) (sym (h.counted.holds n))) ∙ nodes n x e)
    (λ q bytes e. ends-open p q h.counted ∙ ap (λ (b : Bool). b || has_end p q) (sym (ap (λ (l : Loose). may_be_loose l q) loose)) ∙ h.pipes q bytes e)

-- what is used after the suspects were looked at
pub suspects-used : (old new : Parts) (suspect : ℕ → Bool) → DescriptionsUsed (λ d. old.unsettled || suspect d) old → old.unsettled ≡ false → Follows old new → AreUsed suspect new → AreUsed (λ _. true) new
suspects-used old new suspect h calm f used d x e _ = go (suspect d) refl
  where
    before : (b : Bool) → suspect d ≡ b → ((old.unsettled || suspect d) || is_used old d x) ≡ (b || is_used old d x)
    before b s = (λ i. (calm i || s i) || is_used old d x)

    go : (b : Bool) → suspect d ≡ b → is_used new d x ≡ true
    go true s = used d x e s
    go false s = used-same old new d x f.named ∙ sym (before false s) ∙ h d x (f.fewer d x e)
