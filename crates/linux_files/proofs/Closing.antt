-- Descriptors that go or come, with the count of names of each description.
use Rattle.file_model.specs.declared.descriptions.Description.{Description}
use Rattle.file_model.specs.declared.descriptions.Target.TheVariants.{OfNode, ReadEnd, WriteEnd}
use Rattle.file_tree.proofs.Totals.{counted, total-cut, total-none}
use Rattle.file_tree.specs.CountLaws.{count-lowered, count-raised, one_at}
use Rattle.file_tree.specs.Counting.{count_in, lowered, raised}
use Rattle.linux_files.proofs.Drops.{turned}
use Rattle.linux_files.proofs.Opening.{counted-row, names-put}
use Rattle.linux_files.proofs.Slots.{names-slots}
use Rattle.linux_files.specs.Counted.{names_of, opens_of}
use Rattle.linux_files.specs.Seen.{DescriptionsUsed, IsCounted, IsKept, IsStore, is_used, may_be_loose}
use Rattle.linux_files.specs.Slotted.{names_in_row, names_it, slot_names, slots_name}
use Rattle.linux_files.specs.Steps.{is_suspect, slot_is}
use Rattle.linux_files.specs.declared.parts.Parts.{Parts}
use Rattle.mck_word.specs.MapLaws.{at-none}
use Rattle.mck_word.specs.Maps.{Map, at, count, cut, no_rows, put}
use Rattle.mck_word.specs.Slots.{by_place}
use Rattle.std.proofs.Common.{ap, arith, get_or, inl, inr, refl, sym, ◌∙◌}
use Rattle.std.proofs.lemmas.Bool.Decides.{nat_tests}
use Rattle.std.proofs.lemmas.Bool.{eq-eqb, true≢false}
use Rattle.std.specs.FinMap as finmap
use Rattle.std.specs.List.{list_any}
use Rattle.std.specs.Ordering.{nat_cmp}
use Rattle.std.specs.Prelude.{Bool, List, None, Option, Some, [], cond, false, is_some, length, nat_lt, suc, take, true, unwrap_or, zero, ℕ, ◌+◌, ◌-◌, ◌<◌, ◌==◌, ◌||◌, ◌∷◌, ◌≡◌, ◌≤◌, ◌⊎◌}

-- ---- slots

-- the slots up to a place, and that one
pub slots-more : (d i : ℕ) (os : List (Option ℕ)) → i < length os → slots_name d (take (i + 1) os) ≡ slots_name d (take i os) + slot_names d (get_or os i None)
slots-more d i [] l = absurd (omega arith)
slots-more d zero (o ∷ os) l = omega arith
slots-more d (suc i) (o ∷ os) l =
    let rest = slots-more d i os (omega arith) in
    let one : take (suc i + 1) (o ∷ os) ≡ o ∷ take (i + 1) os = ap (λ (n : ℕ). take n (o ∷ os)) (let e : suc i + 1 ≡ suc (i + 1) = omega arith in e) in
    ap (slots_name d) one ∙ (let sum : slot_names d o + slots_name d (take (i + 1) os) ≡ slot_names d o + slots_name d (take i os) + slot_names d (get_or os i None) = omega arith in sum)

slot-itself : (d : ℕ) → slot_names d (Some d) ≡ 1
slot-itself d = ap (λ (b : Bool). cond b 1 0) (eq-eqb d d refl)

-- a slot that has it names it
pub slot-counts : (d i : ℕ) (os : List (Option ℕ)) → i < length os → get_or os i None ≡ Some d → 0 < slots_name d os
slot-counts d i [] l e = absurd (omega arith)
slot-counts d zero (o ∷ os) l e = let one = ap (slot_names d) e ∙ slot-itself d in omega arith
slot-counts d (suc i) (o ∷ os) l e = let rest = slot-counts d i os (omega arith) e in omega arith

-- no slot is a suspect: none names it
pub no-suspect : (d : ℕ) (os : List (Option ℕ)) → is_suspect os d ≡ false → slots_name d os ≡ 0
no-suspect d [] h = refl
no-suspect d (None ∷ os) h = let rest = no-suspect d os h in omega arith
no-suspect d (Some n ∷ os) h = go (n == d) refl h (no-suspect d os)
  where
    go : (b : Bool) → (n == d) ≡ b → (b || list_any (slot_is d) os) ≡ false → (list_any (slot_is d) os ≡ false → slots_name d os ≡ 0) → cond (n == d) 1 0 + slots_name d os ≡ 0
    go true e h rest = absurd (true≢false h)
    go false e h rest = λ i. ap (λ (b : Bool). cond b 1 0) e i + rest h i

-- one more slot that has a number, and one more that is empty: a name less, a name more
module _ (was now next : Map ℕ) (index : ℕ) (slots : List (Option ℕ)) (l : index < length slots) where
  some-slot : (n d : ℕ) → get_or slots index None ≡ Some n → slot_names d (get_or slots index None) ≡ one_at n d
  some-slot n d e = ap (slot_names d) e ∙ ap (λ (b : Bool). cond b 1 0) (turned n d)

  pub lowered-slot : (n : ℕ) → get_or slots index None ≡ Some n → next ≡ lowered n now → ((d : ℕ) → count_in now d ≡ count_in was d - slots_name d (take index slots)) → (d : ℕ) → count_in next d ≡ count_in was d - slots_name d (take (index + 1) slots)
  lowered-slot n e is h d =
      let so_far = h d in
      let one = some-slot n d e in
      let more = slots-more d index slots l in
      let less = ap (λ m. count_in m d) is ∙ count-lowered n now d in
      omega arith

  pub raised-slot : (n : ℕ) → get_or slots index None ≡ Some n → next ≡ raised n now → ((d : ℕ) → count_in now d ≡ count_in was d + slots_name d (take index slots)) → (d : ℕ) → count_in next d ≡ count_in was d + slots_name d (take (index + 1) slots)
  raised-slot n e is h d =
      let so_far = h d in
      let one = some-slot n d e in
      let more = slots-more d index slots l in
      let less = ap (λ m. count_in m d) is ∙ count-raised n now d in
      omega arith

  empty-slot : (d : ℕ) → get_or slots index None ≡ None → slots_name d (take (index + 1) slots) ≡ slots_name d (take index slots)
  empty-slot d e =
      let more = slots-more d index slots l in
      let none = ap (slot_names d) e in
      omega arith

  pub not-lowered : get_or slots index None ≡ None → next ≡ now → ((d : ℕ) → count_in now d ≡ count_in was d - slots_name d (take index slots)) → (d : ℕ) → count_in next d ≡ count_in was d - slots_name d (take (index + 1) slots)
  not-lowered e is h d = ap (λ m. count_in m d) is ∙ h d ∙ ap (λ n. count_in was d - n) (sym (empty-slot d e))

  pub not-raised : get_or slots index None ≡ None → next ≡ now → ((d : ℕ) → count_in now d ≡ count_in was d + slots_name d (take index slots)) → (d : ℕ) → count_in next d ≡ count_in was d + slots_name d (take (index + 1) slots)
  not-raised e is h d = ap (λ m. count_in m d) is ∙ h d ∙ ap (λ n. count_in was d + n) (sym (empty-slot d e))

-- what has a name keeps one
pub still-named : (was now : Map ℕ) (index n : ℕ) (slots : List (Option ℕ)) → index < length slots → get_or slots index None ≡ Some n → ((d : ℕ) → 0 < slots_name d slots → 0 < count_in was d)
    → ((d : ℕ) → count_in now d ≡ count_in was d + slots_name d (take index slots)) → 0 < count_in now n
still-named was now index n slots l e there h = let some = there n (slot-counts n index slots l e) in let more = h n in omega arith

-- ---- rows

pub row-cut : (row : Map ℕ) (fd named d : ℕ) → at row fd ≡ Some named → names_in_row d (cut row fd) + one_at named d ≡ names_in_row d row
row-cut row fd named d there =
    let c = total-cut (names_it d) row fd in
    let one : names_it d named ≡ one_at named d = ap (λ (b : Bool). cond b 1 0) (turned named d) in
    let own : counted (names_it d) (at row fd) ≡ names_it d named = ap (counted (names_it d)) there in
    omega arith

-- the names of a process are among all
pub row-most : (m : Map (Map ℕ)) (process d : ℕ) → names_in_row d (unwrap_or (at m process) no_rows) ≤ names_of m d
row-most m process d = let c = total-cut (names_in_row d) m process in let row = counted-row d (at m process) in omega arith

pub names-cut : (m : Map (Map ℕ)) (process d : ℕ) → names_of (cut m process) d + names_in_row d (unwrap_or (at m process) no_rows) ≡ names_of m d
names-cut m process d = let c = total-cut (names_in_row d) m process in let row = counted-row d (at m process) in omega arith

pub slots-row : (d : ℕ) (os : List (Option ℕ)) (row : Map ℕ) → by_place os ≡ row → slots_name d os ≡ names_in_row d row
slots-row d os row e = sym (names-slots d os) ∙ ap (names_in_row d) e

-- ---- the store with other descriptors

module _ (old new : Parts) (descriptions : new.descriptions.map ≡ old.descriptions.map) (holds : new.tree.holds ≡ old.tree.holds) (readers : new.readers.counts ≡ old.readers.counts) (writers : new.writers.counts ≡ old.writers.counts)
    (pipes : new.pipes.map ≡ old.pipes.map) (loose : new.loose ≡ old.loose) (names : (q : ℕ) → count_in new.named.counts q ≡ names_of new.descriptors.map q) where
  there : (d : ℕ) (x : Description) → at new.descriptions.map d ≡ Some x → at old.descriptions.map d ≡ Some x
  there d x e = ap (λ (m : Map Description). at m d) (sym descriptions) ∙ e

  pub named-kept : IsKept old → IsKept new
  named-kept h = record {
    counted = record {
      named = names;
      holds = λ n. ap (λ m. count_in m n) holds ∙ h.counted.holds n ∙ ap (λ m. opens_of m (OfNode n)) (sym descriptions);
      readers = λ q. ap (λ m. count_in m q) readers ∙ h.counted.readers q ∙ ap (λ m. opens_of m (ReadEnd q)) (sym descriptions);
      writers = λ q. ap (λ m. count_in m q) writers ∙ h.counted.writers q ∙ ap (λ m. opens_of m (WriteEnd q)) (sym descriptions);
    };
    pipes = λ q bytes e. (λ i. may_be_loose (loose i) q || (nat_lt 0 (count_in (readers i) q) || nat_lt 0 (count_in (writers i) q))) ∙ h.pipes q bytes (ap (λ (m : Map (List ℕ)). at m q) (sym pipes) ∙ e);
    small = λ d x e. h.small d x (there d x e);
  }

  counted-more : (a b : ℕ) → a ≤ b → nat_lt 0 a ≡ true → nat_lt 0 b ≡ true
  counted-more a b l e = grind (arith, nat_tests, l, e)

  widen : (u c a b : Bool) → (a ≡ true → b ≡ true) → (u || (c || a)) ≡ true → (u || (c || b)) ≡ true
  widen true c a b f e = refl
  widen false true a b f e = refl
  widen false false a b f e = f e

  used-more : (d : ℕ) (x : Description) → count_in old.named.counts d ≤ count_in new.named.counts d → new.unsettled ≡ old.unsettled → (old.unsettled || is_used old d x) ≡ true → (new.unsettled || is_used new d x) ≡ true
  used-more d x l unsettled e =
      ap (λ (u : Bool). u || is_used new d x) unsettled ∙ widen old.unsettled (nat_lt 0 x.calls) (nat_lt 0 (count_in old.named.counts d)) (nat_lt 0 (count_in new.named.counts d)) (counted-more _ _ l) e

  -- all but the suspects have as many names as before
  pub named-used : (suspect : ℕ → Bool) → ((q : ℕ) → suspect q ≡ false → count_in old.named.counts q ≤ count_in new.named.counts q) → new.unsettled ≡ old.unsettled → IsStore old → DescriptionsUsed (λ q. new.unsettled || suspect q) new
  named-used suspect more unsettled h d x e = go (suspect d) refl
    where
      yes : (u n : Bool) → ((u || true) || n) ≡ true
      yes true n = refl
      yes false n = refl

      no : (u n : Bool) → (u || n) ≡ true → ((u || false) || n) ≡ true
      no true n e = refl
      no false n e = e

      go : (b : Bool) → suspect d ≡ b → ((new.unsettled || b) || is_used new d x) ≡ true
      go true s = yes new.unsettled (is_used new d x)
      go false s = no new.unsettled (is_used new d x) (used-more d x (more d s) unsettled (h.used d x (there d x e)))

  -- it is told that something may be unused, or all have as many names as before
  pub named-store : (new.unsettled ≡ true) ⊎ ((new.unsettled ≡ old.unsettled) × ((q : ℕ) → count_in old.named.counts q ≤ count_in new.named.counts q)) → IsStore old → IsStore new
  named-store told h = record { kept = named-kept h.kept; used = used told }
    where
      used : (new.unsettled ≡ true) ⊎ ((new.unsettled ≡ old.unsettled) × ((q : ℕ) → count_in old.named.counts q ≤ count_in new.named.counts q)) → DescriptionsUsed (λ _. new.unsettled) new
      used (inl is) d x e = ap (λ (u : Bool). u || is_used new d x) is
      used (inr more) d x e = used-more d x (more.1 d) more.0 (h.used d x (there d x e))

-- one descriptor of a process goes
pub names-closed : (old : Parts) (process fd d : ℕ) (row named : Map ℕ) (descriptors : Map (Map ℕ)) → IsCounted old → row ≡ unwrap_or (at old.descriptors.map process) no_rows → at row fd ≡ Some d → descriptors ≡ put old.descriptors.map process (cut row fd)
    → named ≡ lowered d old.named.counts → (q : ℕ) → count_in named q ≡ names_of descriptors q
names-closed old process fd d row named descriptors h is there map counts q =
    let less = ap (λ m. count_in m q) counts ∙ count-lowered d old.named.counts q in
    let was = h.named q in
    let both = names-put old.descriptors.map process (cut row fd) q in
    let one = row-cut row fd d q there in
    let same = ap (names_in_row q) is in
    let now = ap (λ m. names_of m q) map in
    omega arith

-- and the others have as many names as before
pub names-but : (was now : Map ℕ) (d : ℕ) → now ≡ lowered d was → (q : ℕ) → is_suspect (Some d ∷ []) q ≡ false → count_in was q ≤ count_in now q
names-but was now d is q apart =
    let less = ap (λ m. count_in m q) is ∙ count-lowered d was q in
    let none : one_at d q ≡ 0 = ap (λ (b : Bool). cond b 1 0) (turned q d ∙ neither (d == q) apart) in
    omega arith
  where
    neither : (b : Bool) → (b || false) ≡ false → b ≡ false
    neither true h = absurd (true≢false h)
    neither false h = refl

-- all descriptors of a process go
pub names-all-closed : (old : Parts) (process : ℕ) (slots : List (Option ℕ)) (named : Map ℕ) (descriptors : Map (Map ℕ)) → IsCounted old → by_place slots ≡ unwrap_or (at old.descriptors.map process) no_rows → descriptors ≡ cut old.descriptors.map process
    → ((q : ℕ) → count_in named q ≡ count_in old.named.counts q - slots_name q slots) → (q : ℕ) → count_in named q ≡ names_of descriptors q
names-all-closed old process slots named descriptors h is map counts q =
    let less = counts q in
    let was = h.named q in
    let both = names-cut old.descriptors.map process q in
    let own = slots-row q slots (unwrap_or (at old.descriptors.map process) no_rows) is in
    let now = ap (λ m. names_of m q) map in
    omega arith

pub names-but-slots : (was now : Map ℕ) (slots : List (Option ℕ)) → ((q : ℕ) → count_in now q ≡ count_in was q - slots_name q slots) → (q : ℕ) → is_suspect slots q ≡ false → count_in was q ≤ count_in now q
names-but-slots was now slots counts q apart = let less = counts q in let none = no-suspect q slots apart in omega arith

-- a child gets its parent's descriptors in place of its own
pub names-shared : (old : Parts) (child : ℕ) (row named : Map ℕ) (descriptors : Map (Map ℕ)) (slots own : List (Option ℕ)) → IsCounted old → by_place slots ≡ row → by_place own ≡ unwrap_or (at old.descriptors.map child) no_rows
    → descriptors ≡ put old.descriptors.map child row → ((q : ℕ) → count_in named q ≡ count_in old.named.counts q + slots_name q slots - slots_name q own) → (q : ℕ) → count_in named q ≡ names_of descriptors q
names-shared old child row named descriptors slots own h is own_is map counts q =
    let now_counts = counts q in
    let was = h.named q in
    let both = names-put old.descriptors.map child row q in
    let given = slots-row q slots row is in
    let before = slots-row q own (unwrap_or (at old.descriptors.map child) no_rows) own_is in
    let now = ap (λ m. names_of m q) map in
    omega arith

-- a child without descriptors loses none
pub none-lost : (m : Map (Map ℕ)) (child q : ℕ) (own : List (Option ℕ)) → by_place own ≡ unwrap_or (at m child) no_rows → at m child ≡ None → slots_name q own ≡ 0
none-lost m child q own is none =
    slots-row q own (unwrap_or (at m child) no_rows) is ∙ ap (λ (o : Option (Map ℕ)). names_in_row q (unwrap_or o no_rows)) none ∙ total-none (names_it q)

-- a process that has a descriptor has a row
pub has-row : (m : Map (Map ℕ)) (process fd : ℕ) → is_some (at (unwrap_or (at m process) no_rows) fd) ≡ true → is_some (at m process) ≡ true
has-row m process fd h = go (at m process) refl
  where
    go : (o : Option (Map ℕ)) → at m process ≡ o → is_some o ≡ true
    go None e = sym (ap is_some (ap (λ (o : Option (Map ℕ)). at (unwrap_or o no_rows) fd) e ∙ at-none fd)) ∙ h
    go (Some x) e = refl

-- a process without a row has no descriptors
pub none-counted : (m : Map (Map ℕ)) (process : ℕ) → at m process ≡ None → count (unwrap_or (at m process) no_rows) ≡ 0
none-counted m process e = ap (λ (o : Option (Map ℕ)). count (unwrap_or o no_rows)) e ∙ finmap.len-empty nat_cmp ℕ

-- whether a child loses descriptors of its own is told
pub told-loss : (m : Map (Map ℕ)) (child : ℕ) (was now : Map ℕ) (slots own : List (Option ℕ)) (before after loses : Bool) → after ≡ (before || loses) → loses ≡ is_some (at m child) → by_place own ≡ unwrap_or (at m child) no_rows
    → ((q : ℕ) → count_in now q ≡ count_in was q + slots_name q slots - slots_name q own) → (after ≡ true) ⊎ ((after ≡ before) × ((q : ℕ) → count_in was q ≤ count_in now q))
told-loss m child was now slots own before after loses is there own_is counts = go (at m child) refl
  where
    none : (q : ℕ) → at m child ≡ None → count_in was q ≤ count_in now q
    none q e = let zero = none-lost m child q own own_is e in let more = counts q in omega arith

    last : (b : Bool) → (b || false) ≡ b
    last true = refl
    last false = refl

    always : (b : Bool) → (b || true) ≡ true
    always true = refl
    always false = refl

    go : (o : Option (Map ℕ)) → at m child ≡ o → (after ≡ true) ⊎ ((after ≡ before) × ((q : ℕ) → count_in was q ≤ count_in now q))
    go None e = inr (is ∙ ap (λ l. before || l) (there ∙ ap is_some e) ∙ last before, λ q. none q e)
    go (Some x) e = inl (is ∙ ap (λ l. before || l) (there ∙ ap is_some e) ∙ always before)
