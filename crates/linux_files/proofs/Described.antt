-- A description that is changed, but not what it is open on.
use Rattle.file_tree.proofs.Members.{value-same}
use Rattle.file_tree.proofs.Stored.{at-here, at-other, change-absent, change-there}
use Rattle.file_tree.proofs.Totals.{counted, total-put}
use Rattle.file_tree.specs.Counting.{count_in}
use Rattle.file_model.specs.Files.{is_same_target}
use Rattle.file_model.specs.declared.descriptions.Description.{Description}
use Rattle.file_model.specs.declared.descriptions.Target.{Target}
use Rattle.file_model.specs.declared.descriptions.Target.TheVariants.{OfNode, ReadEnd, WriteEnd}
use Rattle.linux_files.specs.Counted.{names_of, opens_it, opens_of}
use Rattle.linux_files.specs.Seen.{DescriptionsUsed, IsKept, IsStore, is_used, may_be_loose}
use Rattle.linux_files.specs.Steps.{is_suspect}
use Rattle.linux_files.specs.declared.parts.Parts.{Parts}
use Rattle.mck_word.specs.Maps.{Map, at, change}
use Rattle.std.proofs.Common.{ap, arith, inl, inr, refl, sym, ◌∙◌}
use Rattle.std.proofs.lemmas.Bool.{cases_eq, eq-eqb, true≢false}
use Rattle.std.specs.Prelude.{Bool, List, None, Option, Some, [], cond, false, nat_lt, true, ℕ, ◌<◌, ◌==◌, ◌^◌, ◌||◌, ◌∷◌, ◌≡◌, ◌≢◌, ◌⊎◌}

module _ (m : Map Description) (d : ℕ) (f : Description → Description) where
  -- what is there after the change: the changed one, or another as it was
  pub described-there : (q : ℕ) (y : Description) → at (change m d f) q ≡ Some y → ((q ≡ d) × (x : Description) × (at m q ≡ Some x) × (y ≡ f x)) ⊎ ((q ≢ d) × (at m q ≡ Some y))
  described-there q y e = go (at m d) refl (cases_eq q d)
    where
      go : (o : Option Description) → at m d ≡ o → (q ≡ d) ⊎ (q ≢ d) → ((q ≡ d) × (x : Description) × (at m q ≡ Some x) × (y ≡ f x)) ⊎ ((q ≢ d) × (at m q ≡ Some y))
      go None is (inl same) = absurd (true≢false (ap (λ (o : Option Description). elim o [ None ↦ false | Some _ ↦ true ]) (sym (sym (ap (λ n. at n q) (change-absent m d f is)) ∙ e) ∙ ap (at m) same ∙ is)))
      go (Some x) is (inl same) = inl (same, x, ap (at m) same ∙ is, value-same y (f x) (sym e ∙ ap (λ n. at n q) (change-there m d f x is) ∙ at-here m d q (f x) same))
      go None is (inr apart) = inr (apart, sym (ap (λ n. at n q) (change-absent m d f is)) ∙ e)
      go (Some x) is (inr apart) = inr (apart, sym (ap (λ n. at n q) (change-there m d f x is) ∙ at-other m d q (f x) apart) ∙ e)

  opens-stay : ((x : Description) → (f x).target ≡ x.target) → (t : Target) → opens_of (change m d f) t ≡ opens_of m t
  opens-stay target t = go (at m d) refl
    where
      go : (o : Option Description) → at m d ≡ o → opens_of (change m d f) t ≡ opens_of m t
      go None is = ap (λ n. opens_of n t) (change-absent m d f is)
      go (Some x) is =
          let whole = total-put (opens_it t) m d (f x) in
          let was = ap (counted (opens_it t)) is in
          let now = ap (λ n. opens_of n t) (change-there m d f x is) in
          let same : opens_it t (f x) ≡ opens_it t x = ap (λ a. cond (is_same_target a t) 1 0) (target x) in
          omega arith

module _ (old new : Parts) (d : ℕ) (f : Description → Description) (target : (x : Description) → (f x).target ≡ x.target) (descriptions : new.descriptions.map ≡ change old.descriptions.map d f)
    (descriptors : new.descriptors.map ≡ old.descriptors.map) (holds : new.tree.holds ≡ old.tree.holds) (named : new.named.counts ≡ old.named.counts) (readers : new.readers.counts ≡ old.readers.counts)
    (writers : new.writers.counts ≡ old.writers.counts) (pipes : new.pipes.map ≡ old.pipes.map) (loose : new.loose ≡ old.loose) (unsettled : new.unsettled ≡ old.unsettled) where
  opens-same : (t : Target) → opens_of old.descriptions.map t ≡ opens_of new.descriptions.map t
  opens-same t = sym (ap (λ m. opens_of m t) descriptions ∙ opens-stay old.descriptions.map d f target t)

  row : (q : ℕ) (y : Description) → at new.descriptions.map q ≡ Some y → ((q ≡ d) × (x : Description) × (at old.descriptions.map q ≡ Some x) × (y ≡ f x)) ⊎ ((q ≢ d) × (at old.descriptions.map q ≡ Some y))
  row q y e = described-there old.descriptions.map d f q y (ap (λ m. at m q) (sym descriptions) ∙ e)

  small : IsKept old → (q : ℕ) (y : Description) → at new.descriptions.map q ≡ Some y → q < 2 ^ 32
  small h q y e = elim (row q y e) [ inl here ↦ h.small q here.1 here.2 | inr other ↦ h.small q y other.1 ]

  pub described-kept : IsKept old → IsKept new
  described-kept h = record {
    counted = record {
      named = λ q. ap (λ m. count_in m q) named ∙ h.counted.named q ∙ ap (λ m. names_of m q) (sym descriptors);
      holds = λ n. ap (λ m. count_in m n) holds ∙ h.counted.holds n ∙ opens-same (OfNode n);
      readers = λ q. ap (λ m. count_in m q) readers ∙ h.counted.readers q ∙ opens-same (ReadEnd q);
      writers = λ q. ap (λ m. count_in m q) writers ∙ h.counted.writers q ∙ opens-same (WriteEnd q);
    };
    pipes = λ q bytes e. (λ i. may_be_loose (loose i) q || (nat_lt 0 (count_in (readers i) q) || nat_lt 0 (count_in (writers i) q))) ∙ h.pipes q bytes (ap (λ (m : Map (List ℕ)). at m q) (sym pipes) ∙ e);
    small = small h;
  }

  used-then : (q : ℕ) (x : Description) → at old.descriptions.map q ≡ Some x → IsStore old → (new.unsettled || is_used new q x) ≡ true
  used-then q x e h = (λ i. unsettled i || (nat_lt 0 x.calls || nat_lt 0 (count_in (named i) q))) ∙ h.used q x e

  -- where it is held by no fewer calls
  pub described-store : ((x : Description) → nat_lt 0 x.calls ≡ true → nat_lt 0 (f x).calls ≡ true) → IsStore old → IsStore new
  described-store more h = record { kept = described-kept h.kept; used = used }
    where
      widen : (u a b n : Bool) → (a ≡ true → b ≡ true) → (u || (a || n)) ≡ true → (u || (b || n)) ≡ true
      widen true a b n g e = refl
      widen false true b n g e = ap (λ (x : Bool). x || n) (g refl)
      widen false false true n g e = refl
      widen false false false n g e = e

      used : DescriptionsUsed (λ _. new.unsettled) new
      used q y e = elim (row q y e) [
        | inl here ↦ ap (λ (y : Description). new.unsettled || is_used new q y) here.3 ∙ widen new.unsettled (nat_lt 0 here.1.calls) (nat_lt 0 (f here.1).calls) (nat_lt 0 (count_in new.named.counts q)) (more here.1) (used-then q here.1 here.2 h)
        | inr other ↦ used-then q y other.1 h
      ]

  -- where it may be held by fewer calls
  pub described-used : IsStore old → DescriptionsUsed (λ q. new.unsettled || is_suspect (Some d ∷ []) q) new
  described-used h q y e = elim (row q y e) [
    | inl here ↦ suspect new.unsettled (d == q) (is_used new q y) (eq-eqb d q (sym here.0))
    | inr other ↦ other_one new.unsettled (is_suspect (Some d ∷ []) q) (is_used new q y) (used-then q y other.1 h)
  ]
    where
      suspect : (u s n : Bool) → s ≡ true → ((u || (s || false)) || n) ≡ true
      suspect true s n e = refl
      suspect false s n e = ap (λ (b : Bool). (b || false) || n) e

      other_one : (u s n : Bool) → (u || n) ≡ true → ((u || s) || n) ≡ true
      other_one true s n e = refl
      other_one false true n e = refl
      other_one false false n e = e
