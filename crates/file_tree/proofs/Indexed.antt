-- What stands at a place of the index.
use Rattle.file_model.specs.Files.{Inode, Name}
use Rattle.file_tree.proofs.Placed.{find-at, find-missing, place-above, place-below, place-le}
use Rattle.file_tree.proofs.TagOrder.{tag_same, tag_total}
use Rattle.file_tree.proofs.Under.{kth-under}
use Rattle.file_tree.specs.Index.{IsIndex, IsListed, name_under, names_under, tagged}
use Rattle.file_tree.specs.Tags.{Tag, is_tag, place, tag_at, tag_cmp}
use Rattle.file_tree.specs.declared.index.Listed.{Listed}
use Rattle.mck_word.specs.Maps.{Map, and_then, at}
use Rattle.std.proofs.Common.{ap, arith, get_or, length, refl, subst, sym, ◌∙◌}
use Rattle.std.proofs.lemmas.Bool.Decides.{nat_tests}
use Rattle.std.proofs.lemmas.Bool.{eq-eqb, true≢false}
use Rattle.std.proofs.lemmas.Slice.Eq.{bytes_eq-Decides}
use Rattle.std.specs.FinMap.Entries.{find as look_up, is_sorted}
use Rattle.std.specs.List.{AllByRecursion}
use Rattle.std.specs.Ordering.{is_gt}
use Rattle.std.specs.Prelude.{Bool, List, None, Some, T, [], bytes_eq, cond, false, slice_get, suc, true, zero, ℕ, ◌&&◌, ◌+◌, ◌-◌, ◌<◌, ◌==◌, ◌∷◌, ◌≡◌, ◌≢◌, ◌≤◌}
use Rattle.std.specs.declared.cmp.Ordering.TheVariants.{Equal, Greater, Less}
use Rattle.std.specs.declared.cmp.Ordering.{Ordering}

pub each-get : {X : Type 0} (P : X → Type 0) (xs : List X) (i : ℕ) (d : X) → AllByRecursion P xs → i < length xs → P (get_or xs i d)
each-get P [] i d h l = absurd (omega arith)
each-get P (x ∷ xs) zero d h l = h.0
each-get P (x ∷ xs) (suc i) d h l = each-get P xs i d h.1 (omega arith)

abbrev pub entry : Map Inode → Listed → Tag × ℕ
entry m e = (tag_at m e.node, e.node)

pub length-tagged : (m : Map Inode) (rows : List Listed) → length (tagged m rows) ≡ length rows
length-tagged m [] = refl
length-tagged m (e ∷ rows) = ap suc (length-tagged m rows)

pub tagged-get : (m : Map Inode) (rows : List Listed) (i : ℕ) (d : Listed) → get_or (tagged m rows) i (entry m d) ≡ entry m (get_or rows i d)
tagged-get m [] i d = refl
tagged-get m (e ∷ rows) zero d = refl
tagged-get m (e ∷ rows) (suc i) d = tagged-get m rows i d

module _ (m : Map Inode) (keys : Map ℕ) (rows : List Listed) (tag : Tag) (d : Listed) where
  pub place-within : place tag_cmp tag (tagged m rows) ≤ length rows
  place-within = subst (λ n. place tag_cmp tag (tagged m rows) ≤ n) (length-tagged m rows) (place-le tag_cmp tag_total tag_same tag (tagged m rows))

  -- an entry whose tag is below, and one whose tag isn't
  pub behind : (i : ℕ) (answer : Bool) → AllByRecursion (IsListed m keys) rows → T (is_sorted tag_cmp (tagged m rows)) → i < length rows
      → (at keys (get_or rows i d).node ≡ Some (get_or rows i d).key → answer ≡ is_gt (tag_cmp tag (tag_at m (get_or rows i d).node))) → answer ≡ true → i < place tag_cmp tag (tagged m rows)
  behind i answer each rises l told is =
      let one = each-get (IsListed m keys) rows i d each l in
      let long = length-tagged m rows in
      place-above tag_cmp tag_total tag_same tag i (tagged m rows) (entry m d) rises (omega arith)
      (greater (tag_cmp tag (get_or (tagged m rows) i (entry m d)).0) (ap (λ (e : Tag × ℕ). is_gt (tag_cmp tag e.0)) (tagged-get m rows i d) ∙ sym (told one.0) ∙ is))
    where
      greater : (o : Ordering) → is_gt o ≡ true → o ≡ Greater
      greater Less e = absurd (subst T (sym e) tt)
      greater Equal e = absurd (subst T (sym e) tt)
      greater Greater e = refl

  pub before : (i : ℕ) (answer : Bool) → AllByRecursion (IsListed m keys) rows → i < length rows
      → (at keys (get_or rows i d).node ≡ Some (get_or rows i d).key → answer ≡ is_gt (tag_cmp tag (tag_at m (get_or rows i d).node))) → answer ≡ false → place tag_cmp tag (tagged m rows) ≤ i
  before i answer each l told is =
      let one = each-get (IsListed m keys) rows i d each l in
      let long = length-tagged m rows in
      place-below tag_cmp tag_total tag_same tag i (tagged m rows) (entry m d) (omega arith) (ap (λ (e : Tag × ℕ). is_gt (tag_cmp tag e.0)) (tagged-get m rows i d) ∙ sym (told one.0) ∙ is)

-- ---- a tag that is found, or not

pub is-tag : (t : Tag) (d : ℕ) (name : Name) → is_tag t d name ≡ true → t ≡ (d, name)
is-tag t d name h = go (t.0 == d) refl h
  where
    go : (b : Bool) → (t.0 == d) ≡ b → (b && bytes_eq t.1 name) ≡ true → t ≡ (d, name)
    go true f g = let parent : t.0 ≡ d = grind (arith, nat_tests, f) in let equal = (bytes_eq-Decides t.1 name).0 g in λ i. (parent i, equal i)
    go false f g = absurd (true≢false (sym g))

pub is-not-tag : (t : Tag) (d : ℕ) (name : Name) → is_tag t d name ≡ false → t ≢ (d, name)
is-not-tag t d name h same =
    true≢false (sym (λ i. eq-eqb t.0 d (ap (λ (u : Tag). u.0) same) i && (bytes_eq-Decides t.1 name).1 (ap (λ (u : Tag). u.1) same) i) ∙ h)

module _ (m : Map Inode) (keys : Map ℕ) (rows : List Listed) (h : IsIndex m keys rows) (directory : ℕ) (name : Name) (i : ℕ) (is : i ≡ place tag_cmp (directory, name) (tagged m rows)) where
  pub past-found : length rows ≤ i → look_up tag_cmp (directory, name) (tagged m rows) ≡ None
  past-found l =
      let long = length-tagged m rows in
      find-missing tag_cmp tag_total tag_same (directory, name) (tagged m rows) ((0, []), 0) h.rises (λ within. absurd (omega arith))

  entry-here : (d : Listed) → get_or (tagged m rows) (place tag_cmp (directory, name) (tagged m rows)) (entry m d) ≡ entry m (get_or rows i d)
  entry-here d = ap (λ (j : ℕ). get_or (tagged m rows) j (entry m d)) (sym is) ∙ tagged-get m rows i d

  pub here-found : (d : Listed) (answer : Bool) → i < length rows → (at keys (get_or rows i d).node ≡ Some (get_or rows i d).key → answer ≡ is_tag (tag_at m (get_or rows i d).node) directory name) → answer ≡ true
      → look_up tag_cmp (directory, name) (tagged m rows) ≡ Some (get_or rows i d).node
  here-found d answer l told a =
      let one = each-get (IsListed m keys) rows i d h.each l in
      let long = length-tagged m rows in
      let tag = is-tag (tag_at m (get_or rows i d).node) directory name (sym (told one.0) ∙ a) in
      find-at tag_cmp tag_total tag_same (directory, name) (tagged m rows) (entry m d) (omega arith) (ap (λ (e : Tag × ℕ). e.0) (entry-here d) ∙ tag) ∙ ap (λ (e : Tag × ℕ). Some e.1) (entry-here d)

  pub here-missing : (d : Listed) (answer : Bool) → i < length rows → (at keys (get_or rows i d).node ≡ Some (get_or rows i d).key → answer ≡ is_tag (tag_at m (get_or rows i d).node) directory name) → answer ≡ false
      → look_up tag_cmp (directory, name) (tagged m rows) ≡ None
  here-missing d answer l told a =
      let one = each-get (IsListed m keys) rows i d h.each l in
      let differs = is-not-tag (tag_at m (get_or rows i d).node) directory name (sym (told one.0) ∙ a) in
      find-missing tag_cmp tag_total tag_same (directory, name) (tagged m rows) (entry m d) h.rises (λ _ e. differs (sym (ap (λ (e : Tag × ℕ). e.0) (entry-here d)) ∙ e))

-- ---- the k-th name

get-past : {X : Type 0} (xs : List X) (i : ℕ) → length xs ≤ i → slice_get xs i ≡ None
get-past [] i h = refl
get-past (x ∷ xs) zero h = absurd (omega arith)
get-past (x ∷ xs) (suc i) h = get-past xs i (omega arith)

get-within : {X : Type 0} (xs : List X) (i : ℕ) (d : X) → i < length xs → slice_get xs i ≡ Some (get_or xs i d)
get-within [] i d h = absurd (omega arith)
get-within (x ∷ xs) zero d h = refl
get-within (x ∷ xs) (suc i) d h = get-within xs i d (omega arith)

module _ (m : Map Inode) (keys : Map ℕ) (rows : List Listed) (h : IsIndex m keys rows) (directory : ℕ) (k start : ℕ) (is : start ≡ place tag_cmp (directory, []) (tagged m rows)) where
  pub kth-past : length rows - start ≤ k → slice_get (names_under directory (tagged m rows)) k ≡ None
  kth-past l =
      let long = length-tagged m rows in
      kth-under directory (tagged m rows) k h.rises ∙ ap (λ o. and_then o (name_under directory)) (get-past (tagged m rows) (place tag_cmp (directory, []) (tagged m rows) + k) (omega arith))

  pub kth-here : (d : Listed) (own : ℕ) (name : Name) → start + k < length rows → (at keys (get_or rows (start + k) d).node ≡ Some (get_or rows (start + k) d).key → (own, name) ≡ tag_at m (get_or rows (start + k) d).node)
      → slice_get (names_under directory (tagged m rows)) k ≡ cond (own == directory) (Some name) None
  kth-here d own name l told =
      let long = length-tagged m rows in
      let one = each-get (IsListed m keys) rows (start + k) d h.each l in
      kth-under directory (tagged m rows) k h.rises
      ∙ ap (λ (j : ℕ). and_then (slice_get (tagged m rows) (j + k)) (name_under directory)) (sym is)
      ∙ ap (λ o. and_then o (name_under directory)) (get-within (tagged m rows) (start + k) (entry m d) (omega arith) ∙ ap Some (tagged-get m rows (start + k) d))
      ∙ ap (λ (t : Tag). cond (t.0 == directory) (Some t.1) None) (sym (told one.0))
