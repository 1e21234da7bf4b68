-- A description that goes, with what it alone was open on.
use Rattle.file_model.specs.Files.{Files, Inode, is_named, is_open, is_same_target, root, settled}
use Rattle.file_model.specs.declared.descriptions.Description.{Description}
use Rattle.file_model.specs.declared.descriptions.Target.TheVariants.{OfConsole, OfNode, ReadEnd, WriteEnd}
use Rattle.file_model.specs.declared.descriptions.Target.{Target}
use Rattle.file_tree.proofs.Members.{no-value}
use Rattle.file_tree.proofs.Totals.{counted, total-cut}
use Rattle.file_tree.specs.CountLaws.{count-lowered, cut-absent, one_at}
use Rattle.file_tree.specs.Counting.{count_in, lowered}
use Rattle.file_tree.specs.Trees.{settled_at, used_by, used_row}
use Rattle.linux_files.proofs.Settled.{node_test, without-description, without-node, without-pipe}
use Rattle.linux_files.proofs.SomeRow.{some-total}
use Rattle.linux_files.specs.Counted.{names_of, opens_it, opens_of}
use Rattle.linux_files.specs.Seen.{IsCounted, IsKept, PipesOpen, has_end, is_used, may_be_loose, seen_parts}
use Rattle.linux_files.specs.Slotted.{names_in_row, names_it}
use Rattle.linux_files.specs.Steps.{Follows}
use Rattle.linux_files.specs.declared.parts.Loose.{Loose}
use Rattle.linux_files.specs.declared.parts.Parts.{Parts}
use Rattle.mck_word.specs.MapLaws.{at-cut}
use Rattle.mck_word.specs.Maps.{Map, at, cut}
use Rattle.std.proofs.Common.{ap, arith, inl, inr, refl, sym, ◌∙◌}
use Rattle.std.proofs.lemmas.Bool.Decides.{nat_tests}
use Rattle.std.proofs.lemmas.Bool.{cases_eq, eq-eqb, ne_eqb}
use Rattle.std.specs.Prelude.{Bool, List, None, Option, Some, cond, false, is_some, nat_lt, true, ℕ, ◌+◌, ◌-◌, ◌<◌, ◌==◌, ◌^◌, ◌||◌, ◌≡◌, ◌≢◌, ◌⊎◌}

-- ---- the words on files by counts

counts : (b : Bool) → b ≡ nat_lt 0 (cond b 1 0)
counts true = refl
counts false = refl

pub open-count : (descriptions : Map Description) (files : Files) (target : Target) → files.descriptions ≡ descriptions → is_open files target ≡ nat_lt 0 (opens_of descriptions target)
open-count descriptions files target e =
    some-total (λ d (x : Description). is_same_target x.target target) (opens_it target) files.descriptions (λ d x. counts (is_same_target x.target target)) ∙ ap (λ (m : Map Description). nat_lt 0 (opens_of m target)) e

pub named-count : (files : Files) (d : ℕ) → is_named files d ≡ nat_lt 0 (names_of files.descriptors d)
named-count files d = some-total _ (names_in_row d) files.descriptors (λ process fds. some-total (λ fd (named : ℕ). named == d) (names_it d) fds (λ fd named. counts (named == d)))

-- a node that may have to go, and a pipe
pub node-settles : (files : Files) (holds : Map ℕ) (n : ℕ) → count_in holds n ≡ opens_of files.descriptions (OfNode n) → settled (record files { nodes = settled_at holds n files.nodes }) ≡ settled files
node-settles files holds n is = go (at files.nodes n) refl (used_row holds n (at files.nodes n)) refl
  where
    test : (x : Inode) → node_test files n x ≡ used_by holds n x
    test x = ap (λ (b : Bool). n == root || is_some x.name || b) (open-count files.descriptions files (OfNode n) refl ∙ ap (nat_lt 0) (sym is))

    go : (o : Option Inode) → at files.nodes n ≡ o → (b : Bool) → used_row holds n (at files.nodes n) ≡ b → settled (record files { nodes = cond b files.nodes (cut files.nodes n) }) ≡ settled files
    go o e true u = refl
    go None e false u = ap (λ (m : Map Inode). settled (record files { nodes = m })) (cut-absent files.nodes n e)
    go (Some x) e false u = without-node files n x e (test x ∙ sym (ap (used_row holds n) e) ∙ u)

pub pipe-settles : (files : Files) (p : ℕ) (b : Bool) → (is_open files (ReadEnd p) || is_open files (WriteEnd p)) ≡ b → settled (record files { pipes = cond b files.pipes (cut files.pipes p) }) ≡ settled files
pipe-settles files p true is = refl
pipe-settles files p false is = go (at files.pipes p) refl
  where
    go : (o : Option (List ℕ)) → at files.pipes p ≡ o → settled (record files { pipes = cut files.pipes p }) ≡ settled files
    go None e = ap (λ (m : Map (List ℕ)). settled (record files { pipes = m })) (cut-absent files.pipes p e)
    go (Some bytes) e = without-pipe files p bytes e is

-- ---- the counts after a description went

pub turned : (a b : ℕ) → (a == b) ≡ (b == a)
turned a b = go (cases_eq a b)
  where
    go : (a ≡ b) ⊎ (a ≢ b) → (a == b) ≡ (b == a)
    go (inl e) = eq-eqb a b e ∙ sym (eq-eqb b a (sym e))
    go (inr n) = ne_eqb a b n ∙ sym (ne_eqb b a (λ e. n (sym e)))

pub opens-cut : (m : Map Description) (d : ℕ) (x : Description) (target : Target) → at m d ≡ Some x → opens_of (cut m d) target + opens_it target x ≡ opens_of m target
opens-cut m d x target e = let c = total-cut (opens_it target) m d in let own = ap (counted (opens_it target)) e in omega arith

-- a count that loses what the description counted
moved : (old new : Map ℕ) (m : Map Description) (d : ℕ) (x : Description) (target : Target) (key one : ℕ) → at m d ≡ Some x → count_in old key ≡ opens_of m target → opens_it target x ≡ one → count_in new key ≡ count_in old key - one
    → count_in new key ≡ opens_of (cut m d) target
moved old new m d x target key one e is weighs less = let c = opens-cut m d x target e in omega arith

same-less : (c : ℕ) → c ≡ c - 0
same-less c = omega arith

at-cut-there : {V : Type 0} (m : Map V) (d q : ℕ) (v : V) → at (cut m d) q ≡ Some v → at m q ≡ Some v
at-cut-there {V} m d q v e = go (q == d) (sym (at-cut m d q) ∙ e)
  where
    go : (b : Bool) → cond b None (at m q) ≡ Some v → at m q ≡ Some v
    go true e = no-value v (sym e)
    go false e = e

cut-apart : {V : Type 0} (m : Map V) (d q : ℕ) (v : V) → at (cut m d) q ≡ Some v → q ≢ d
cut-apart m d q v e = go (q == d) refl (sym (at-cut m d q) ∙ e)
  where
    go : (b : Bool) → (q == d) ≡ b → cond b None (at m q) ≡ Some v → q ≢ d
    go true f e = no-value v (sym e)
    go false f e = grind (arith, nat_tests, f)

lowered-other : (m : Map ℕ) (p q : ℕ) → q ≢ p → count_in (lowered p m) q ≡ count_in m q
lowered-other m p q apart = let c = count-lowered p m q in let none : one_at p q ≡ 0 = ap (λ (b : Bool). cond b 1 0) (ne_eqb q p apart) in omega arith

-- a description that went, in the store before and after
module _ (old new : Parts) (d : ℕ) (x : Description) (h : IsKept old) (there : at old.descriptions.map d ≡ Some x) (unused : is_used old d x ≡ false) (descriptions : new.descriptions.map ≡ cut old.descriptions.map d)
    (named : new.named.counts ≡ old.named.counts) (descriptors : new.descriptors.map ≡ old.descriptors.map) (next : new.tree.next ≡ old.tree.next) (consoles : new.consoles.map ≡ old.consoles.map) (loose : new.loose ≡ old.loose)
    (unsettled : new.unsettled ≡ old.unsettled) where
  without : Files
  without = record (seen_parts old) { descriptions = cut old.descriptions.map d }

  dropped : settled without ≡ settled (seen_parts old)
  unfolding without
  dropped = without-description (seen_parts old) d x there (ap (λ (b : Bool). nat_lt 0 x.calls || b) (named-count (seen_parts old) d ∙ ap (nat_lt 0) (sym (h.counted.named d))) ∙ unused)

  fewer : (q : ℕ) (y : Description) → at new.descriptions.map q ≡ Some y → at old.descriptions.map q ≡ Some y
  fewer q y e = at-cut-there old.descriptions.map d q y (sym (ap (λ (m : Map Description). at m q) descriptions) ∙ e)

  small : (q : ℕ) (y : Description) → at new.descriptions.map q ≡ Some y → q < 2 ^ 32
  small q y e = h.small q y (fewer q y e)

  still-named : (q : ℕ) → count_in new.named.counts q ≡ names_of new.descriptors.map q
  still-named q = ap (λ m. count_in m q) named ∙ h.counted.named q ∙ ap (λ m. names_of m q) (sym descriptors)

  still-counts : (target : Target) (was now : Map ℕ) (key : ℕ) → now ≡ was → count_in was key ≡ opens_of old.descriptions.map target → opens_it target x ≡ 0 → count_in now key ≡ opens_of new.descriptions.map target
  still-counts target was now key same is none =
      moved was now old.descriptions.map d x target key 0 there is none (ap (λ m. count_in m key) same ∙ same-less (count_in was key)) ∙ ap (λ m. opens_of m target) (sym descriptions)

  less-counts : (target : Target) (was now : Map ℕ) (key p : ℕ) → now ≡ lowered p was → count_in was key ≡ opens_of old.descriptions.map target → opens_it target x ≡ cond (p == key) 1 0 → count_in now key ≡ opens_of new.descriptions.map target
  less-counts target was now key p same is one =
      moved was now old.descriptions.map d x target key (one_at p key) there is (one ∙ ap (λ (b : Bool). cond b 1 0) (turned p key)) (ap (λ m. count_in m key) same ∙ count-lowered p was key) ∙ ap (λ m. opens_of m target) (sym descriptions)

  weighs : (target own : Target) → x.target ≡ own → opens_it target x ≡ cond (is_same_target own target) 1 0
  weighs target own e = ap (λ t. cond (is_same_target t target) 1 0) e

  follows : IsKept new → settled (seen_parts new) ≡ settled without → Follows old new
  follows kept e = record { kept = kept; settles = e ∙ dropped; fewer = fewer; named = named; loose = loose; unsettled = unsettled }

  loose-same : (q : ℕ) → may_be_loose new.loose q ≡ may_be_loose old.loose q
  loose-same q = ap (λ (l : Loose). may_be_loose l q) loose

  -- it was open on a node
  module _ (n : ℕ) (target : x.target ≡ OfNode n) (holds : new.tree.holds ≡ lowered n old.tree.holds) (nodes : new.tree.map ≡ settled_at (lowered n old.tree.holds) n old.tree.map) (readers : new.readers.counts ≡ old.readers.counts)
      (writers : new.writers.counts ≡ old.writers.counts) (pipes : new.pipes.map ≡ old.pipes.map) where
    node-counted : IsCounted new
    node-counted = record {
      named = still-named;
      holds = λ q. less-counts (OfNode q) old.tree.holds new.tree.holds q n holds (h.counted.holds q) (weighs (OfNode q) (OfNode n) target);
      readers = λ q. still-counts (ReadEnd q) old.readers.counts new.readers.counts q readers (h.counted.readers q) (weighs (ReadEnd q) (OfNode n) target);
      writers = λ q. still-counts (WriteEnd q) old.writers.counts new.writers.counts q writers (h.counted.writers q) (weighs (WriteEnd q) (OfNode n) target);
    }

    node-pipes : PipesOpen (may_be_loose new.loose) new
    node-pipes q bytes e =
        (λ i. loose-same q i || (nat_lt 0 (count_in (readers i) q) || nat_lt 0 (count_in (writers i) q))) ∙ h.pipes q bytes (sym (ap (λ (m : Map (List ℕ)). at m q) pipes) ∙ e)

    node-now : count_in (lowered n old.tree.holds) n ≡ opens_of (cut old.descriptions.map d) (OfNode n)
    node-now = ap (λ m. count_in m n) (sym holds) ∙ node-counted.holds n ∙ ap (λ m. opens_of m (OfNode n)) descriptions

    pub node-dropped : Follows old new
    unfolding without
    node-dropped = follows (record { counted = node-counted; pipes = node-pipes; small = small }) (
        (λ i. settled (record { nodes = nodes i; next_node = next i; pipes = pipes i; descriptions = descriptions i; descriptors = descriptors i; consoles = consoles i }))
        ∙ node-settles without (lowered n old.tree.holds) n node-now)

  -- it was open on an end of a pipe
  module _ (p : ℕ) (nodes : new.tree.map ≡ old.tree.map) (holds : new.tree.holds ≡ old.tree.holds) (pipes : new.pipes.map ≡ cond (has_end new p) old.pipes.map (cut old.pipes.map p))
      (others : (q : ℕ) → q ≢ p → has_end new q ≡ has_end old q) (counted_now : IsCounted new) where
    pipes-there : (q : ℕ) (bytes : List ℕ) → at new.pipes.map q ≡ Some bytes → (at old.pipes.map q ≡ Some bytes) × ((q ≡ p → has_end new p ≡ true))
    pipes-there q bytes e = go (has_end new p) refl (sym (ap (λ (m : Map (List ℕ)). at m q) pipes) ∙ e)
      where
        go : (b : Bool) → has_end new p ≡ b → at (cond b old.pipes.map (cut old.pipes.map p)) q ≡ Some bytes → (at old.pipes.map q ≡ Some bytes) × ((q ≡ p → has_end new p ≡ true))
        go true f e = (e, λ _. f)
        go false f e = (at-cut-there old.pipes.map p q bytes e, λ same. absurd (cut-apart old.pipes.map p q bytes e same))

    end-pipes : PipesOpen (may_be_loose new.loose) new
    end-pipes q bytes e = go (cases_eq q p)
      where
        either : (b : Bool) → (b || true) ≡ true
        either true = refl
        either false = refl

        go : (q ≡ p) ⊎ (q ≢ p) → (may_be_loose new.loose q || has_end new q) ≡ true
        go (inl same) = ap (λ (b : Bool). may_be_loose new.loose q || b) (ap (has_end new) same ∙ (pipes-there q bytes e).1 same) ∙ either (may_be_loose new.loose q)
        go (inr apart) = (λ i. loose-same q i || others q apart i) ∙ h.pipes q bytes (pipes-there q bytes e).0

    end-open : (is_open without (ReadEnd p) || is_open without (WriteEnd p)) ≡ has_end new p
    unfolding without
    end-open = λ i. (open-count new.descriptions.map without (ReadEnd p) (sym descriptions) ∙ ap (nat_lt 0) (sym (counted_now.readers p))) i || (open-count new.descriptions.map without (WriteEnd p) (sym descriptions) ∙ ap (nat_lt 0) (sym (counted_now.writers p))) i

    pub end-dropped : Follows old new
    unfolding without
    end-dropped = follows (record { counted = counted_now; pipes = end-pipes; small = small }) (
        (λ i. settled (record { nodes = nodes i; next_node = next i; pipes = pipes i; descriptions = descriptions i; descriptors = descriptors i; consoles = consoles i }))
        ∙ pipe-settles without p (has_end new p) end-open)

  pub reader-dropped : (p : ℕ) → x.target ≡ ReadEnd p → new.tree.map ≡ old.tree.map → new.tree.holds ≡ old.tree.holds → new.readers.counts ≡ lowered p old.readers.counts → new.writers.counts ≡ old.writers.counts
      → new.pipes.map ≡ cond (has_end new p) old.pipes.map (cut old.pipes.map p) → Follows old new
  reader-dropped p target nodes holds readers writers pipes =
      end-dropped p nodes holds pipes (λ q apart. (λ i. nat_lt 0 ((ap (λ m. count_in m q) readers ∙ lowered-other old.readers.counts p q apart) i) || nat_lt 0 (count_in (writers i) q))) (record {
        named = still-named;
        holds = λ q. still-counts (OfNode q) old.tree.holds new.tree.holds q holds (h.counted.holds q) (weighs (OfNode q) (ReadEnd p) target);
        readers = λ q. less-counts (ReadEnd q) old.readers.counts new.readers.counts q p readers (h.counted.readers q) (weighs (ReadEnd q) (ReadEnd p) target);
        writers = λ q. still-counts (WriteEnd q) old.writers.counts new.writers.counts q writers (h.counted.writers q) (weighs (WriteEnd q) (ReadEnd p) target);
      })

  pub writer-dropped : (p : ℕ) → x.target ≡ WriteEnd p → new.tree.map ≡ old.tree.map → new.tree.holds ≡ old.tree.holds → new.readers.counts ≡ old.readers.counts → new.writers.counts ≡ lowered p old.writers.counts
      → new.pipes.map ≡ cond (has_end new p) old.pipes.map (cut old.pipes.map p) → Follows old new
  writer-dropped p target nodes holds readers writers pipes =
      end-dropped p nodes holds pipes (λ q apart. (λ i. nat_lt 0 (count_in (readers i) q) || nat_lt 0 ((ap (λ m. count_in m q) writers ∙ lowered-other old.writers.counts p q apart) i))) (record {
        named = still-named;
        holds = λ q. still-counts (OfNode q) old.tree.holds new.tree.holds q holds (h.counted.holds q) (weighs (OfNode q) (WriteEnd p) target);
        readers = λ q. still-counts (ReadEnd q) old.readers.counts new.readers.counts q readers (h.counted.readers q) (weighs (ReadEnd q) (WriteEnd p) target);
        writers = λ q. less-counts (WriteEnd q) old.writers.counts new.writers.counts q p writers (h.counted.writers q) (weighs (WriteEnd q) (WriteEnd p) target);
      })

  -- it was open on a console
  pub console-dropped : (guest : ℕ) → x.target ≡ OfConsole guest → new.tree.map ≡ old.tree.map → new.tree.holds ≡ old.tree.holds → new.readers.counts ≡ old.readers.counts → new.writers.counts ≡ old.writers.counts
      → new.pipes.map ≡ old.pipes.map → Follows old new
  unfolding without
  console-dropped guest target nodes holds readers writers pipes = follows (record {
    counted = record {
      named = still-named;
      holds = λ q. still-counts (OfNode q) old.tree.holds new.tree.holds q holds (h.counted.holds q) (weighs (OfNode q) (OfConsole guest) target);
      readers = λ q. still-counts (ReadEnd q) old.readers.counts new.readers.counts q readers (h.counted.readers q) (weighs (ReadEnd q) (OfConsole guest) target);
      writers = λ q. still-counts (WriteEnd q) old.writers.counts new.writers.counts q writers (h.counted.writers q) (weighs (WriteEnd q) (OfConsole guest) target);
    };
    pipes = λ q bytes e. (λ i. loose-same q i || (nat_lt 0 (count_in (readers i) q) || nat_lt 0 (count_in (writers i) q))) ∙ h.pipes q bytes (sym (ap (λ (m : Map (List ℕ)). at m q) pipes) ∙ e);
    small = small;
  }) (λ i. settled (record { nodes = nodes i; next_node = next i; pipes = pipes i; descriptions = descriptions i; descriptors = descriptors i; consoles = consoles i }))
