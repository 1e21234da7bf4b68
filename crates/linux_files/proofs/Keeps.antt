-- What the store keeps stays where no description and no count changes.
use Rattle.file_tree.proofs.Stored.{at-other, change-absent, change-there}
use Rattle.file_tree.specs.Counting.{count_in}
use Rattle.linux_files.specs.Counted.{names_of, opens_of}
use Rattle.linux_files.specs.Same.{IsSame}
use Rattle.linux_files.specs.Seen.{IsCounted, IsStore, PipesOpen, has_end, may_be_loose, seen_parts}
use Rattle.linux_files.specs.declared.parts.Parts.{Parts}
use Rattle.file_model.specs.declared.descriptions.Description.{Description}
use Rattle.file_model.specs.declared.descriptions.Target.TheVariants.{OfNode, ReadEnd, WriteEnd}
use Rattle.mck_word.specs.Maps.{Map, at, change, put}
use Rattle.std.proofs.Common.{ap, inl, inr, refl, sym, ◌∙◌}
use Rattle.std.proofs.lemmas.Bool.{cases_eq}
use Rattle.std.specs.Prelude.{Bool, List, None, Option, Some, false, nat_lt, true, ℕ, ◌||◌, ◌≡◌, ◌≢◌, ◌⊎◌}

-- a row that is there after a change was there before
pub changed-there : {V : Type 0} (m : Map V) (k : ℕ) (f : V → V) (q : ℕ) (v : V) → at (change m k f) q ≡ Some v → (w : V) × (at m q ≡ Some w)
changed-there {V} m k f q v e = go (at m k) refl (cases_eq q k)
  where
    go : (o : Option V) → at m k ≡ o → (q ≡ k) ⊎ (q ≢ k) → (w : V) × (at m q ≡ Some w)
    go None is _ = (v, sym (ap (λ n. at n q) (change-absent m k f is)) ∙ e)
    go (Some w) is (inl same) = (w, ap (at m) same ∙ is)
    go (Some w) is (inr apart) = (v, sym (ap (λ n. at n q) (change-there m k f w is) ∙ at-other m k q (f w) apart) ∙ e)

-- the new row, and others
pub put-there : {V : Type 0} (m : Map V) (k : ℕ) (v : V) (q : ℕ) (w : V) → at (put m k v) q ≡ Some w → (q ≡ k) ⊎ ((q ≢ k) × (at m q ≡ Some w))
put-there {V} m k v q w e = go (cases_eq q k)
  where
    go : (q ≡ k) ⊎ (q ≢ k) → (q ≡ k) ⊎ ((q ≢ k) × (at m q ≡ Some w))
    go (inl same) = inl same
    go (inr apart) = inr (apart, sym (at-other m k q v apart) ∙ e)

module _ (old new : Parts) (descriptions : new.descriptions.map ≡ old.descriptions.map) (descriptors : new.descriptors.map ≡ old.descriptors.map) (holds : new.tree.holds ≡ old.tree.holds) (named : new.named.counts ≡ old.named.counts)
    (readers : new.readers.counts ≡ old.readers.counts) (writers : new.writers.counts ≡ old.writers.counts) (unsettled : new.unsettled ≡ old.unsettled) where
  counted : IsCounted old → IsCounted new
  counted h = record {
    named = λ d. ap (λ m. count_in m d) named ∙ h.named d ∙ ap (λ m. names_of m d) (sym descriptors);
    holds = λ n. ap (λ m. count_in m n) holds ∙ h.holds n ∙ ap (λ m. opens_of m (OfNode n)) (sym descriptions);
    readers = λ q. ap (λ m. count_in m q) readers ∙ h.readers q ∙ ap (λ m. opens_of m (ReadEnd q)) (sym descriptions);
    writers = λ q. ap (λ m. count_in m q) writers ∙ h.writers q ∙ ap (λ m. opens_of m (WriteEnd q)) (sym descriptions);
  }

  there : (d : ℕ) (x : Description) → at new.descriptions.map d ≡ Some x → at old.descriptions.map d ≡ Some x
  there d x e = ap (λ (m : Map Description). at m d) (sym descriptions) ∙ e

  ends : (q : ℕ) → has_end new q ≡ has_end old q
  ends q = λ i. nat_lt 0 (count_in (readers i) q) || nat_lt 0 (count_in (writers i) q)

  pub kept-store : PipesOpen (may_be_loose new.loose) new → IsStore old → IsStore new
  kept-store pipes h = record {
    kept = record { counted = counted h.kept.counted; pipes = pipes; small = λ d x e. h.kept.small d x (there d x e) };
    used = λ d x e. (λ i. unsettled i || (nat_lt 0 x.calls || nat_lt 0 (count_in (named i) d))) ∙ h.used d x (there d x e);
  }

  -- with other bytes in a pipe
  pub pipe-changed : (p : ℕ) (f : List ℕ → List ℕ) → new.pipes.map ≡ change old.pipes.map p f → new.loose ≡ old.loose → IsStore old → IsStore new
  pipe-changed p f pipes loose h =
      kept-store (λ q bytes e. let r = changed-there old.pipes.map p f q bytes (ap (λ (m : Map (List ℕ)). at m q) (sym pipes) ∙ e) in (λ i. may_be_loose (loose i) q || ends q i) ∙ h.kept.pipes q r.0 r.1) h

  -- with one more pipe, which may be loose
  pub pipe-added : (p : ℕ) (bytes : List ℕ) → new.pipes.map ≡ put old.pipes.map p bytes → may_be_loose new.loose p ≡ true → ((q : ℕ) → may_be_loose old.loose q ≡ true → may_be_loose new.loose q ≡ true) → IsStore old → IsStore new
  pipe-added p bytes pipes here more h = kept-store all_open h
    where
      either : (b c : Bool) → b ≡ true → (b || c) ≡ true
      either b c e = ap (λ (x : Bool). x || c) e

      widen : (a b c d : Bool) → (a ≡ true → b ≡ true) → d ≡ c → (a || c) ≡ true → (b || d) ≡ true
      widen true b c d f s e = either b d (f refl)
      widen false true c d f s e = refl
      widen false false c d f s e = s ∙ e

      all_open : PipesOpen (may_be_loose new.loose) new
      all_open q there_now e = elim (put-there old.pipes.map p bytes q there_now (ap (λ (m : Map (List ℕ)). at m q) (sym pipes) ∙ e)) [
        | inl same ↦ either (may_be_loose new.loose q) (has_end new q) (ap (may_be_loose new.loose) same ∙ here)
        | inr old_one ↦ widen (may_be_loose old.loose q) (may_be_loose new.loose q) (has_end old q) (has_end new q) (more q) (ends q) (h.kept.pipes q there_now old_one.1)
      ]

-- ---- where all but room stays

pub same-files : (old new : Parts) → IsSame old new → seen_parts new ≡ seen_parts old
same-files old new s = λ i. record { nodes = s.nodes i; next_node = s.next i; pipes = s.pipes i; descriptions = s.descriptions i; descriptors = s.descriptors i; consoles = s.consoles i }
