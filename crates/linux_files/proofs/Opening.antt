-- A description that is opened, and names that a process gets.
use Rattle.file_model.specs.Files.{is_same_target}
use Rattle.file_model.specs.declared.descriptions.Description.{Description}
use Rattle.file_model.specs.declared.descriptions.Target.TheVariants.{OfNode, ReadEnd, WriteEnd}
use Rattle.file_model.specs.declared.descriptions.Target.{Target}
use Rattle.file_tree.proofs.Totals.{counted, total-none, total-put}
use Rattle.file_tree.specs.CountLaws.{count-raised, one_at}
use Rattle.file_tree.specs.Counting.{count_in, raised}
use Rattle.linux_files.proofs.Drops.{turned}
use Rattle.linux_files.specs.Counted.{names_of, opens_it, opens_of}
use Rattle.linux_files.specs.Seen.{DescriptionsUsed, IsStore, PipesOpen, has_end, is_used, may_be_loose}
use Rattle.linux_files.specs.Slotted.{names_in_row, names_it}
use Rattle.linux_files.specs.declared.parts.Loose.{Loose}
use Rattle.linux_files.specs.declared.parts.Parts.{Parts}
use Rattle.mck_word.specs.MapLaws.{at-put}
use Rattle.mck_word.specs.Maps.{Map, at, count, no_rows, put}
use Rattle.std.proofs.Common.{ap, arith, inl, inr, refl, sym, ◌∙◌}
use Rattle.std.proofs.lemmas.Bool.Decides.{nat_tests}
use Rattle.std.proofs.lemmas.Bool.{cases_eq, eq-eqb, ne_eqb, true≢false}
use Rattle.std.specs.Cmp.{nat_cmp_total}
use Rattle.std.specs.FinMap as finmap
use Rattle.std.specs.Prelude.{Bool, None, Option, Some, cond, false, is_some, min, nat_lt, true, unwrap_or, ℕ, ◌+◌, ◌<◌, ◌==◌, ◌^◌, ◌||◌, ◌≡◌, ◌≢◌, ◌≤◌, ◌⊎◌}

-- ---- sums after a row is put

pub opens-put : (m : Map Description) (d : ℕ) (x : Description) (target : Target) → at m d ≡ None → opens_of (put m d x) target ≡ opens_of m target + opens_it target x
opens-put m d x target free = let c = total-put (opens_it target) m d x in let none = ap (counted (opens_it target)) free in omega arith

pub counted-row : (d : ℕ) (o : Option (Map ℕ)) → counted (names_in_row d) o ≡ names_in_row d (unwrap_or o no_rows)
counted-row d None = sym (total-none (names_it d))
counted-row d (Some row) = refl

pub names-put : (m : Map (Map ℕ)) (process : ℕ) (row : Map ℕ) (d : ℕ) → names_of (put m process row) d + names_in_row d (unwrap_or (at m process) no_rows) ≡ names_of m d + names_in_row d row
names-put m process row d = let c = total-put (names_in_row d) m process row in let was = counted-row d (at m process) in omega arith

pub row-put : (row : Map ℕ) (fd named d : ℕ) → at row fd ≡ None → names_in_row d (put row fd named) ≡ names_in_row d row + one_at named d
row-put row fd named d free =
    let c = total-put (names_it d) row fd named in
    let one : names_it d named ≡ one_at named d = ap (λ (b : Bool). cond b 1 0) (turned named d) in
    let none : counted (names_it d) (at row fd) ≡ 0 = ap (counted (names_it d)) free in
    omega arith

pub row-here : {V : Type 0} (m now : Map V) (k : ℕ) (v none : V) → now ≡ put m k v → unwrap_or (at now k) none ≡ v
row-here m now k v none e = ap (λ o. unwrap_or o none) (ap (λ m. at m k) e ∙ at-put m k v k ∙ ap (λ (b : Bool). cond b (Some v) (at m k)) (eq-eqb k k refl))

pub count-put : {V : Type 0} (m : Map V) (k : ℕ) (v : V) → count (put m k v) ≤ count m + 1
count-put m k v = let more = finmap.len-insert nat_cmp_total m k v in go (is_some (at m k)) more
  where
    go : (b : Bool) → count (put m k v) ≡ cond b (count m) (count m + 1) → count (put m k v) ≤ count m + 1
    go true e = omega arith
    go false e = omega arith

pub min-step : (a b c d : ℕ) → a ≤ c + 1 → b ≤ d + 1 → min a b ≤ min c d + 1
min-step a b c d h g = omega arith

-- a count of targets of one kind
pub target-raised : (was now : Map ℕ) (n q : ℕ) (target : Target) (kind : ℕ → Target) → ((a b : ℕ) → is_same_target (kind a) (kind b) ≡ (a == b)) → target ≡ kind n → now ≡ raised n was
    → count_in now q ≡ count_in was q + cond (is_same_target target (kind q)) 1 0
target-raised was now n q target kind same is e =
    let more = ap (λ m. count_in m q) e ∙ count-raised n was q in
    let one : one_at n q ≡ cond (is_same_target target (kind q)) 1 0 = ap (λ (b : Bool). cond b 1 0) (turned q n ∙ sym (ap (λ t. is_same_target t (kind q)) is ∙ same n q)) in
    omega arith

-- ---- what grows stays

counted-more : (a b : ℕ) → a ≤ b → nat_lt 0 a ≡ true → nat_lt 0 b ≡ true
counted-more a b l e = grind (arith, nat_tests, l, e)

either-more : (c a b d e : Bool) → (a ≡ true → d ≡ true) → (b ≡ true → e ≡ true) → (c || (a || b)) ≡ true → (c || (d || e)) ≡ true
either-more true a b d e f g h = refl
either-more false true b d e f g h = ap (λ (x : Bool). x || e) (f refl)
either-more false false true true e f g h = refl
either-more false false true false e f g h = g refl
either-more false false false d e f g h = absurd (true≢false (sym h))

-- a description that is new under a free number, with a descriptor that was free
module _ (old new : Parts) (h : IsStore old) (d : ℕ) (x : Description) (process fd : ℕ) (free : at old.descriptions.map d ≡ None) (below : d < 2 ^ 32) (descriptions : new.descriptions.map ≡ put old.descriptions.map d x)
    (row : Map ℕ) (is_row : row ≡ unwrap_or (at old.descriptors.map process) no_rows) (free_fd : at row fd ≡ None) (descriptors : new.descriptors.map ≡ put old.descriptors.map process (put row fd d))
    (named : new.named.counts ≡ raised d old.named.counts) (holds : (n : ℕ) → count_in new.tree.holds n ≡ count_in old.tree.holds n + opens_it (OfNode n) x)
    (readers : (q : ℕ) → count_in new.readers.counts q ≡ count_in old.readers.counts q + opens_it (ReadEnd q) x) (writers : (q : ℕ) → count_in new.writers.counts q ≡ count_in old.writers.counts q + opens_it (WriteEnd q) x)
    (pipes : new.pipes.map ≡ old.pipes.map) (loose : new.loose ≡ old.loose) (unsettled : new.unsettled ≡ old.unsettled) where
  names : (q : ℕ) → count_in new.named.counts q ≡ names_of new.descriptors.map q
  names q =
      let more = ap (λ m. count_in m q) named ∙ count-raised d old.named.counts q in
      let was = h.kept.counted.named q in
      let both = names-put old.descriptors.map process (put row fd d) q in
      let one = row-put row fd d q free_fd in
      let same = ap (names_in_row q) is_row in
      let now = ap (λ m. names_of m q) descriptors in
      omega arith

  opens : (target : Target) (key : ℕ) (was now : Map ℕ) → count_in was key ≡ opens_of old.descriptions.map target → count_in now key ≡ count_in was key + opens_it target x → count_in now key ≡ opens_of new.descriptions.map target
  opens target key was now before more =
      let both = opens-put old.descriptions.map d x target free in
      let after = ap (λ m. opens_of m target) descriptions in
      omega arith

  there : (q : ℕ) (y : Description) → at new.descriptions.map q ≡ Some y → ((q ≡ d) ⊎ ((q ≢ d) × (at old.descriptions.map q ≡ Some y)))
  there q y e = go (cases_eq q d) (sym (ap (λ m. at m q) descriptions ∙ at-put old.descriptions.map d x q) ∙ e)
    where
      go : (q ≡ d) ⊎ (q ≢ d) → cond (q == d) (Some x) (at old.descriptions.map q) ≡ Some y → ((q ≡ d) ⊎ ((q ≢ d) × (at old.descriptions.map q ≡ Some y)))
      go (inl same) e = inl same
      go (inr apart) e = inr (apart, ap (λ (b : Bool). cond b (Some x) (at old.descriptions.map q)) (sym (ne_eqb q d apart)) ∙ e)

  small : (q : ℕ) (y : Description) → at new.descriptions.map q ≡ Some y → q < 2 ^ 32
  small q y e = elim (there q y e) [ inl same ↦ omega arith | inr old_one ↦ h.kept.small q y old_one.1 ]

  used : DescriptionsUsed (λ _. new.unsettled) new
  used q y e = elim (there q y e) [
    | inl same ↦
        let more = ap (λ m. count_in m q) named ∙ count-raised d old.named.counts q in
        let one : one_at d q ≡ 1 = ap (λ (b : Bool). cond b 1 0) (eq-eqb q d same) in
        let some : nat_lt 0 (count_in new.named.counts q) ≡ true = grind (arith, nat_tests, more, one) in
        either-more new.unsettled false true (nat_lt 0 y.calls) (nat_lt 0 (count_in new.named.counts q)) (λ e. absurd (true≢false (sym e))) (λ _. some) (any new.unsettled)
    | inr old_one ↦
        let more = ap (λ m. count_in m q) named ∙ count-raised d old.named.counts q in
        let grows : count_in old.named.counts q ≤ count_in new.named.counts q = omega arith in
        either-more new.unsettled (nat_lt 0 y.calls) (nat_lt 0 (count_in old.named.counts q)) (nat_lt 0 y.calls) (nat_lt 0 (count_in new.named.counts q)) (λ e. e) (counted-more _ _ grows)
        (ap (λ (b : Bool). b || is_used old q y) unsettled ∙ h.used q y old_one.1)
  ]
    where
      any : (b : Bool) → (b || true) ≡ true
      any true = refl
      any false = refl

  ends : PipesOpen (may_be_loose new.loose) new
  ends q bytes e =
      let r : count_in old.readers.counts q ≤ count_in new.readers.counts q = let m = readers q in omega arith in
      let w : count_in old.writers.counts q ≤ count_in new.writers.counts q = let m = writers q in omega arith in
      either-more (may_be_loose new.loose q) (nat_lt 0 (count_in old.readers.counts q)) (nat_lt 0 (count_in old.writers.counts q)) (nat_lt 0 (count_in new.readers.counts q)) (nat_lt 0 (count_in new.writers.counts q)) (counted-more _ _ r)
      (counted-more _ _ w) (ap (λ (l : Loose). may_be_loose l q || has_end old q) loose ∙ h.kept.pipes q bytes (sym (ap (λ m. at m q) pipes) ∙ e))

  pub opened-store : IsStore new
  opened-store = record {
    kept = record {
      counted = record {
        named = names;
        holds = λ n. opens (OfNode n) n old.tree.holds new.tree.holds (h.kept.counted.holds n) (holds n);
        readers = λ q. opens (ReadEnd q) q old.readers.counts new.readers.counts (h.kept.counted.readers q) (readers q);
        writers = λ q. opens (WriteEnd q) q old.writers.counts new.writers.counts (h.kept.counted.writers q) (writers q);
      };
      pipes = ends;
      small = small;
    };
    used = used;
  }
