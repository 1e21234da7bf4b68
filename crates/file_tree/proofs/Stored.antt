-- The nodes by their numbers, after the slab or the keys change.
use Rattle.file_tree.specs.Shown.{AreStored, no_row, row_at, shown}
use Rattle.file_tree.specs.Tables.{NodeRow, most_numbers}
use Rattle.mck_word.specs.EachLaws.{at-each, each-cut, each-put}
use Rattle.mck_word.specs.MapLaws.{at-cut, at-put, same_rows}
use Rattle.mck_word.specs.Maps.{Map, at, change, change_row, cut, each, put}
use Rattle.slab.specs.Slab.{Slab, Updates, get}
use Rattle.std.proofs.Common.{ap, arith, inl, inr, refl, sym, ◌∙◌}
use Rattle.std.proofs.lemmas.Bool.Decides.{nat_tests}
use Rattle.std.proofs.lemmas.Bool.{cases_eq, true≢false}
use Rattle.std.specs.Prelude.{Bool, ◌⊎◌, ◌+◌, ◌<◌, None, Option, Some, cond, false, is_some, option_map, true, unwrap_or, ℕ, ◌==◌, ◌≡◌, ◌≢◌}

some-injective : (a b : ℕ) → Some a ≡ Some b → a ≡ b
some-injective a b e = ap (λ (o : Option ℕ). unwrap_or o a) e

pub some-none : {A : Type 0} {B : Type 0} (x : A) → Some x ≡ None → B
some-none x e = absurd (true≢false (ap is_some e))

-- a number has a node where it has a key
pub row-there : (slab : Slab NodeRow) (keys : Map ℕ) (next n key : ℕ) → AreStored slab keys next → at keys n ≡ Some key → get slab key ≡ Some (row_at slab key)
row-there slab keys next n key h e = go (get slab key) (h.stored n key e)
  where
    go : (o : Option NodeRow) → option_map (λ (r : NodeRow). r.number) o ≡ Some n → o ≡ Some (unwrap_or o no_row)
    go None f = some-none n (sym f)
    go (Some r) f = refl

-- what is shown of a number: that of its key
pub shown-at : {W : Type 0} (f : NodeRow → W) (slab : Slab NodeRow) (keys : Map ℕ) (next n : ℕ) (o : Option ℕ) → AreStored slab keys next → at keys n ≡ o
    → at (shown f slab keys) n ≡ option_map (λ (key : ℕ). f (row_at slab key)) o
shown-at f slab keys next n o h e = at-each (λ (key : ℕ). f (row_at slab key)) keys n ∙ ap (option_map (λ (key : ℕ). f (row_at slab key))) e

-- a lent node is the one that is shown
pub lent-shown : {W : Type 0} (f : NodeRow → W) (slab : Slab NodeRow) (keys : Map ℕ) (next n key : ℕ) (r : Option NodeRow) → AreStored slab keys next → at keys n ≡ Some key → r ≡ get slab key
    → option_map f r ≡ at (shown f slab keys) n
lent-shown f slab keys next n key r h e is = ap (option_map f) (is ∙ row-there slab keys next n key h e) ∙ sym (shown-at f slab keys next n (Some key) h e)

agree : {W : Type 0} (g h : ℕ → W) (m : Map ℕ) → ((n key : ℕ) → at m n ≡ Some key → g key ≡ h key) → each g m ≡ each h m
agree {W} g h m same = same_rows _ _ (λ q. at-each g m q ∙ go q (at m q) refl ∙ sym (at-each h m q))
  where
    go : (q : ℕ) (o : Option ℕ) → at m q ≡ o → option_map g o ≡ option_map h o
    go q None e = refl
    go q (Some key) e = ap Some (same q key e)

-- other numbers have other keys
other-key : (slab : Slab NodeRow) (keys : Map ℕ) (next n key q k : ℕ) → AreStored slab keys next → at keys n ≡ Some key → at keys q ≡ Some k → q ≢ n → k ≢ key
other-key slab keys next n key q k h e f apart same =
    apart (some-injective q n (sym (h.stored q k f) ∙ ap (λ j. option_map (λ (r : NodeRow). r.number) (get slab j)) same ∙ h.stored n key e))

new-key : (slab : Slab NodeRow) (keys : Map ℕ) (next key q k : ℕ) → AreStored slab keys next → get slab key ≡ None → at keys q ≡ Some k → k ≢ key
new-key slab keys next key q k h none f same = some-none q (sym (h.stored q k f) ∙ ap (λ j. option_map (λ (r : NodeRow). r.number) (get slab j)) same ∙ ap (option_map (λ (r : NodeRow). r.number)) none)

pub at-other : {V : Type 0} (m : Map V) (n q : ℕ) (v : V) → q ≢ n → at (put m n v) q ≡ at m q
at-other {V} m n q v apart = at-put m n v q ∙ (let no : (q == n) ≡ false = grind (arith, nat_tests, apart) in ap (λ b. cond b (Some v) (at m q)) no)

pub at-here : {V : Type 0} (m : Map V) (n q : ℕ) (v : V) → q ≡ n → at (put m n v) q ≡ Some v
at-here {V} m n q v same = at-put m n v q ∙ (let yes : (q == n) ≡ true = grind (arith, nat_tests, same) in ap (λ b. cond b (Some v) (at m q)) yes)

-- a number that is left after another was cut
left-key : (keys : Map ℕ) (n q k : ℕ) → at (cut keys n) q ≡ Some k → (q ≢ n) × (at keys q ≡ Some k)
left-key keys n q k e = go (q == n) refl (sym (at-cut keys n q) ∙ e)
  where
    go : (b : Bool) → (q == n) ≡ b → cond b None (at keys q) ≡ Some k → (q ≢ n) × (at keys q ≡ Some k)
    go true s f = some-none k (sym f)
    go false s f = (grind (arith, nat_tests, s), f)

module _ {W : Type 0} (f : NodeRow → W) (slab new : Slab NodeRow) (keys : Map ℕ) (next n key : ℕ) (h : AreStored slab keys next) where
  row-other : (s : Option NodeRow) (k : ℕ) → Updates slab new key s → k ≢ key → row_at new k ≡ row_at slab k
  row-other s k u apart = ap (λ (o : Option NodeRow). unwrap_or o no_row) (u.others k apart)

  row-here : (r : NodeRow) → Updates slab new key (Some r) → row_at new key ≡ r
  row-here r u = ap (λ (o : Option NodeRow). unwrap_or o no_row) u.changed

  -- a node added under a new key, changed, and removed
  pub shown-added : (r : NodeRow) → get slab key ≡ None → Updates slab new key (Some r) → shown f new (put keys n key) ≡ put (shown f slab keys) n (f r)
  shown-added r none u =
      each-put (λ (k : ℕ). f (row_at new k)) keys n key
      ∙ (λ i. put (agree (λ (k : ℕ). f (row_at new k)) (λ (k : ℕ). f (row_at slab k)) keys (λ q k e. ap f (row-other (Some r) k u (new-key slab keys next key q k h none e))) i) n (f (row-here r u i)))

  pub shown-changed : (r : NodeRow) → at keys n ≡ Some key → Updates slab new key (Some r) → shown f new keys ≡ put (shown f slab keys) n (f r)
  shown-changed r e u = same_rows _ _ (λ q. at-each (λ (k : ℕ). f (row_at new k)) keys q ∙ go q (cases_eq q n) (at keys q) refl)
    where
      go : (q : ℕ) → (q ≡ n) ⊎ (q ≢ n) → (o : Option ℕ) → at keys q ≡ o → option_map (λ (k : ℕ). f (row_at new k)) o ≡ at (put (shown f slab keys) n (f r)) q
      go q (inl same) o a =
          ap (option_map (λ (k : ℕ). f (row_at new k))) (sym a ∙ ap (at keys) same ∙ e) ∙ ap (λ (x : NodeRow). Some (f x)) (row-here r u) ∙ sym (at-here (shown f slab keys) n q (f r) same)
      go q (inr apart) None a = sym (at-other (shown f slab keys) n q (f r) apart ∙ shown-at f slab keys next q None h a)
      go q (inr apart) (Some k) a = ap (λ (x : NodeRow). Some (f x)) (row-other (Some r) k u (other-key slab keys next n key q k h e a apart)) ∙ sym (at-other (shown f slab keys) n q (f r) apart ∙ shown-at f slab keys next q (Some k) h a)

  pub shown-removed : at keys n ≡ Some key → Updates slab new key None → shown f new (cut keys n) ≡ cut (shown f slab keys) n
  shown-removed e u =
      agree (λ (k : ℕ). f (row_at new k)) (λ (k : ℕ). f (row_at slab k)) (cut keys n) (λ q k a. let l = left-key keys n q k a in ap f (row-other None k u (other-key slab keys next n key q k h e l.1 l.0)))
      ∙ each-cut (λ (k : ℕ). f (row_at slab k)) keys n

module _ (slab new : Slab NodeRow) (keys : Map ℕ) (next n key : ℕ) (h : AreStored slab keys next) where
  number_at : Slab NodeRow → ℕ → Option ℕ
  number_at s k = option_map (λ (r : NodeRow). r.number) (get s k)

  pub stored-added : (r : NodeRow) → n ≡ next → r.number ≡ next → next < most_numbers → get slab key ≡ None → Updates slab new key (Some r) → AreStored new (put keys n key) (next + 1)
  stored-added r is number l none u = record { stored = λ q k e. stored_at q k e (cases_eq q n); below = λ q k e. below_at q k e (cases_eq q n); most = omega arith }
    where
      stored_at : (q k : ℕ) → at (put keys n key) q ≡ Some k → (q ≡ n) ⊎ (q ≢ n) → option_map (λ (r : NodeRow). r.number) (get new k) ≡ Some q
      stored_at q k e (inl same) =
          let here = some-injective k key (sym e ∙ at-here keys n q key same) in
          ap (λ (j : ℕ). option_map (λ (r : NodeRow). r.number) (get new j)) here ∙ ap (option_map (λ (r : NodeRow). r.number)) u.changed ∙ ap Some (number ∙ sym is ∙ sym same)
      stored_at q k e (inr apart) =
          let old = sym (at-other keys n q key apart) ∙ e in
          ap (option_map (λ (r : NodeRow). r.number)) (u.others k (new-key slab keys next key q k h none old)) ∙ h.stored q k old

      below_at : (q k : ℕ) → at (put keys n key) q ≡ Some k → (q ≡ n) ⊎ (q ≢ n) → q < next + 1
      below_at q k e (inl same) = omega arith
      below_at q k e (inr apart) = let under = h.below q k (sym (at-other keys n q key apart) ∙ e) in omega arith

  pub stored-changed : (r : NodeRow) → at keys n ≡ Some key → r.number ≡ (row_at slab key).number → Updates slab new key (Some r) → AreStored new keys next
  stored-changed r e number u = record { stored = λ q k a. go q k a (cases_eq k key); below = h.below; most = h.most }
    where
      go : (q k : ℕ) → at keys q ≡ Some k → (k ≡ key) ⊎ (k ≢ key) → option_map (λ (r : NodeRow). r.number) (get new k) ≡ Some q
      go q k a (inl same) =
          ap (λ (j : ℕ). option_map (λ (r : NodeRow). r.number) (get new j)) same ∙ ap (option_map (λ (r : NodeRow). r.number)) u.changed ∙ ap Some number
          ∙ ap (option_map (λ (r : NodeRow). r.number)) (sym (row-there slab keys next n key h e)) ∙ ap (λ (j : ℕ). option_map (λ (r : NodeRow). r.number) (get slab j)) (sym same) ∙ h.stored q k a
      go q k a (inr apart) = ap (option_map (λ (r : NodeRow). r.number)) (u.others k apart) ∙ h.stored q k a

  pub stored-removed : at keys n ≡ Some key → Updates slab new key None → AreStored new (cut keys n) next
  stored-removed e u = record {
    stored = λ q k a. let l = left-key keys n q k a in ap (option_map (λ (r : NodeRow). r.number)) (u.others k (other-key slab keys next n key q k h e l.1 l.0)) ∙ h.stored q k l.1;
    below = λ q k a. h.below q k (left-key keys n q k a).1;
    most = h.most;
  }

-- a row that is changed, and one that is not there
pub change-there : {V : Type 0} (m : Map V) (n : ℕ) (f : V → V) (v : V) → at m n ≡ Some v → change m n f ≡ put m n (f v)
change-there m n f v e = ap (change_row m n f) e

pub change-absent : {V : Type 0} (m : Map V) (n : ℕ) (f : V → V) → at m n ≡ None → change m n f ≡ m
change-absent m n f e = ap (change_row m n f) e

-- to put what is there changes nothing
pub put-same : {V : Type 0} (m : Map V) (n : ℕ) (v : V) → at m n ≡ Some v → put m n v ≡ m
put-same {V} m n v e = same_rows _ _ (λ q. go q (cases_eq q n))
  where
    go : (q : ℕ) → (q ≡ n) ⊎ (q ≢ n) → at (put m n v) q ≡ at m q
    go q (inl same) = at-here m n q v same ∙ sym e ∙ ap (at m) (sym same)
    go q (inr apart) = at-other m n q v apart

pub change-same : {V : Type 0} (m : Map V) (n : ℕ) (f : V → V) → ((v : V) → at m n ≡ Some v → f v ≡ v) → change m n f ≡ m
change-same {V} m n f h = go (at m n) refl
  where
    go : (o : Option V) → at m n ≡ o → change m n f ≡ m
    go None e = change-absent m n f e
    go (Some v) e = change-there m n f v e ∙ ap (put m n) (h v e) ∙ put-same m n v e
