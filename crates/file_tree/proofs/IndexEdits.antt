-- The index after a node is added, loses its name, is changed otherwise, and is taken out.
use Rattle.file_model.specs.Files.{Inode, Name, no_node}
use Rattle.file_tree.proofs.Indexed.{entry}
use Rattle.file_tree.proofs.Members.{In, no-value, value-same}
use Rattle.file_tree.proofs.Named.{found-member, named-is, unnamed}
use Rattle.file_tree.proofs.Placed.{put-absent, tied, without-at}
use Rattle.file_tree.proofs.Stored.{at-here, at-other}
use Rattle.file_tree.proofs.TagOrder.{tag_same, tag_total}
use Rattle.file_tree.specs.Index.{IsIndex, IsListed, tagged}
use Rattle.file_tree.specs.Tags.{Tag, named_as, place, tag_at, tag_cmp, tag_in, tag_of}
use Rattle.file_tree.specs.declared.index.Listed.{Listed}
use Rattle.mck_word.specs.MapLaws.{at-cut}
use Rattle.mck_word.specs.Maps.{Map, and_then, at, cut, put}
use Rattle.std.proofs.Common.{ap, arith, inl, inr, refl, subst, sym, ◌∙◌}
use Rattle.std.proofs.lemmas.Bool.Decides.{nat_tests}
use Rattle.std.proofs.lemmas.Bool.{cases_eq, true≢false}
use Rattle.std.specs.FinMap.Entries.{find as look_up, find-put, find-where_key, is_sorted, is_sorted-put, is_sorted-where_key, put as put_entry, where_key}
use Rattle.std.specs.List.{AllByRecursion, insert, remove}
use Rattle.std.specs.Ordering.{eq_by_cmp, is_eq}
use Rattle.std.specs.Prelude.{Bool, List, None, Option, Some, T, [], cond, false, is_some, map, not, suc, true, unwrap_or, zero, ℕ, ◌==◌, ◌∷◌, ◌≡◌, ◌≢◌, ◌⊎◌}
use Rattle.std.specs.declared.cmp.Ordering.TheVariants.{Equal, Greater, Less}
use Rattle.std.specs.declared.cmp.Ordering.{Ordering}

-- ---- lists

map-insert : {A B : Type 0} (f : A → B) (xs : List A) (i : ℕ) (x : A) → map f (insert xs i x) ≡ insert (map f xs) i (f x)
map-insert f [] zero x = refl
map-insert f [] (suc i) x = refl
map-insert f (y ∷ ys) zero x = refl
map-insert f (y ∷ ys) (suc i) x = ap (λ zs. f y ∷ zs) (map-insert f ys i x)

map-remove : {A B : Type 0} (f : A → B) (xs : List A) (i : ℕ) → map f (remove xs i) ≡ remove (map f xs) i
map-remove f [] zero = refl
map-remove f [] (suc i) = refl
map-remove f (y ∷ ys) zero = refl
map-remove f (y ∷ ys) (suc i) = ap (λ zs. f y ∷ zs) (map-remove f ys i)

all-insert : {A : Type 0} (P : A → Type 0) (xs : List A) (i : ℕ) (x : A) → AllByRecursion P xs → P x → AllByRecursion P (insert xs i x)
all-insert P [] zero x h p = (p, tt)
all-insert P [] (suc i) x h p = (p, tt)
all-insert P (y ∷ ys) zero x h p = (p, h)
all-insert P (y ∷ ys) (suc i) x h p = (h.0, all-insert P ys i x h.1 p)

all-remove : {A : Type 0} (P : A → Type 0) (xs : List A) (i : ℕ) → AllByRecursion P xs → AllByRecursion P (remove xs i)
all-remove P [] zero h = tt
all-remove P [] (suc i) h = tt
all-remove P (y ∷ ys) zero h = h.1
all-remove P (y ∷ ys) (suc i) h = (h.0, all-remove P ys i h.1)

all-map : {A : Type 0} (P Q : A → Type 0) (xs : List A) → ((x : A) → P x → Q x) → AllByRecursion P xs → AllByRecursion Q xs
all-map P Q [] f h = tt
all-map P Q (x ∷ xs) f h = (f x h.0, all-map P Q xs f h.1)

all-both : {A : Type 0} (P Q : A → Type 0) (xs : List A) → AllByRecursion P xs → AllByRecursion Q xs → AllByRecursion (λ x. P x × Q x) xs
all-both P Q [] h k = tt
all-both P Q (x ∷ xs) h k = ((h.0, k.0), all-both P Q xs h.1 k.1)

in-map : {A B : Type 0} (f : A → B) (xs : List A) (y : B) → In y (map f xs) → (x : A) × In x xs × (f x ≡ y)
in-map f [] y i = absurd i
in-map f (x ∷ xs) y (inl e) = (x, inl refl, e)
in-map f (x ∷ xs) y (inr j) = let r = in-map f xs y j in (r.0, inr r.1, r.2)

each-in : {A : Type 0} (P : A → Type 0) (xs : List A) (x : A) → AllByRecursion P xs → In x xs → P x
each-in P [] x h i = absurd i
each-in P (y ∷ ys) x h (inl e) = subst P e h.0
each-in P (y ∷ ys) x h (inr j) = each-in P ys x h.1 j

-- ---- tags

tag-cases : (t u : Tag) → (t ≡ u) ⊎ (eq_by_cmp tag_cmp t u ≡ false)
tag-cases t u = go (tag_cmp t u) refl
  where
    go : (o : Ordering) → tag_cmp t u ≡ o → (t ≡ u) ⊎ (is_eq (tag_cmp t u) ≡ false)
    go Less e = inr (ap is_eq e)
    go Equal e = inl (tag_same t u e)
    go Greater e = inr (ap is_eq e)

equal-tags : (t u : Tag) → t ≡ u → eq_by_cmp tag_cmp t u ≡ true
equal-tags t u e = ap (λ (v : Tag). is_eq (tag_cmp t v)) (sym e) ∙ ap is_eq (tied tag_cmp tag_total t)

tagged-same : (m k : Map Inode) (rows : List Listed) → AllByRecursion (λ (e : Listed). tag_at k e.node ≡ tag_at m e.node) rows → tagged k rows ≡ tagged m rows
tagged-same m k [] h = refl
tagged-same m k (e ∷ rows) h = (λ i. (h.0 i, e.node) ∷ tagged-same m k rows h.1 i)

-- what is found by a tag has that tag
pub index-found : (m : Map Inode) (keys : Map ℕ) (rows : List Listed) → AllByRecursion (IsListed m keys) rows → (tag : Tag) (n : ℕ) → look_up tag_cmp tag (tagged m rows) ≡ Some n → tag_in m n ≡ Some tag
index-found m keys rows h tag n e =
    let r = in-map (entry m) rows (tag, n) (found-member (tagged m rows) tag n e) in
    let one = each-in (IsListed m keys) rows r.0 h r.1 in
    ap (tag_in m) (sym (ap (λ (y : Tag × ℕ). y.1) r.2)) ∙ one.1 ∙ ap Some (ap (λ (y : Tag × ℕ). y.0) r.2)

tag-in-there : (m : Map Inode) (n : ℕ) (x : Inode) → at m n ≡ Some x → tag_in m n ≡ named_as x
tag-in-there m n x e = ap (λ o. and_then o named_as) e

tag-at-there : (m : Map Inode) (n : ℕ) (x : Inode) → at m n ≡ Some x → tag_at m n ≡ tag_of x
tag-at-there m n x e = ap (λ o. tag_of (unwrap_or o no_node)) e

tag-in-same : (m k : Map Inode) (n : ℕ) → at k n ≡ at m n → tag_in k n ≡ tag_in m n
tag-in-same m k n e = ap (λ o. and_then o named_as) e

tag-at-same : (m k : Map Inode) (n : ℕ) → at k n ≡ at m n → tag_at k n ≡ tag_at m n
tag-at-same m k n e = ap (λ o. tag_of (unwrap_or o no_node)) e

-- a name gives its tag
named-tag : (x : Inode) (tag : Tag) → named_as x ≡ Some tag → tag_of x ≡ tag
named-tag x tag h = go x.name refl
  where
    go : (o : Option Name) → x.name ≡ o → tag_of x ≡ tag
    go None e = no-value tag (sym h ∙ unnamed x e)
    go (Some name) e = ap (λ (o : Option Name). (x.parent, unwrap_or o [])) e ∙ value-same (x.parent, name) tag (sym (named-is x name e) ∙ h)

-- ---- nothing but other parts of nodes changed

pub index-kept : (m k : Map Inode) (keys : Map ℕ) (rows : List Listed) → ((n : ℕ) → tag_in k n ≡ tag_in m n) → ((n : ℕ) → tag_at k n ≡ tag_at m n) → IsIndex m keys rows → IsIndex k keys rows
index-kept m k keys rows names tags h =
    let same = tagged-same m k rows (all-map (IsListed m keys) (λ (e : Listed). tag_at k e.node ≡ tag_at m e.node) rows (λ e _. tags e.node) h.each) in
    record {
      each = all-map (IsListed m keys) (IsListed k keys) rows (λ e l. (l.0, names e.node ∙ l.1 ∙ ap Some (sym (tags e.node)))) h.each;
      rises = subst (λ es. T (is_sorted tag_cmp es)) (sym same) h.rises;
      listed = λ n tag e. ap (look_up tag_cmp tag) same ∙ h.listed n tag (sym (names n) ∙ e);
    }

-- ---- a node is added

module _ (m : Map Inode) (keys : Map ℕ) (rows : List Listed) (h : IsIndex m keys rows) (next key : ℕ) (free : at keys next ≡ None) (x : Inode) (tag : Tag) (named : named_as x ≡ Some tag)
    (absent : look_up tag_cmp tag (tagged m rows) ≡ None) where
  new : Map Inode
  new = put m next x

  other-node : (e : Listed) → IsListed m keys e → e.node ≢ next
  other-node e l same = no-value e.key (sym l.0 ∙ ap (at keys) same ∙ free)

  still-listed : (e : Listed) → IsListed m keys e → IsListed new (put keys next key) e
  unfolding new
  still-listed e l =
      let apart = other-node e l in
      let there = at-other m next e.node x apart in
      (at-other keys next e.node key apart ∙ l.0, tag-in-same m new e.node there ∙ l.1 ∙ ap Some (sym (tag-at-same m new e.node there)))

  same-tags : tagged new rows ≡ tagged m rows
  unfolding new
  same-tags = tagged-same m new rows (all-map (IsListed m keys) (λ (e : Listed). tag_at new e.node ≡ tag_at m e.node) rows (λ e l. tag-at-same m new e.node (at-other m next e.node x (other-node e l))) h.each)

  own-tag : tag_at new next ≡ tag
  unfolding new
  own-tag = tag-at-there new next x (at-here m next next x refl) ∙ named-tag x tag named

  added-tags : tagged new (insert rows (place tag_cmp tag (tagged m rows)) (record { node = next; key = key })) ≡ put_entry tag_cmp tag next (tagged m rows)
  added-tags =
      map-insert (entry new) rows (place tag_cmp tag (tagged m rows)) (record { node = next; key = key })
      ∙ (λ i. insert (same-tags i) (place tag_cmp tag (tagged m rows)) (own-tag i, next))
      ∙ sym (put-absent tag_cmp tag_total tag_same tag next (tagged m rows) absent)

  added-listed : (n : ℕ) (t : Tag) → tag_in new n ≡ Some t → look_up tag_cmp t (put_entry tag_cmp tag next (tagged m rows)) ≡ Some n
  unfolding new
  added-listed n t e = find-put tag_cmp tag_total t tag next (tagged m rows) ∙ go (cases_eq n next)
    where
      other : (n ≢ next) → look_up tag_cmp t (tagged m rows) ≡ Some n → (t ≡ tag) ⊎ (eq_by_cmp tag_cmp t tag ≡ false) → cond (eq_by_cmp tag_cmp t tag) (Some next) (look_up tag_cmp t (tagged m rows)) ≡ Some n
      other apart l (inl same) = no-value n (sym l ∙ ap (λ (u : Tag). look_up tag_cmp u (tagged m rows)) same ∙ absent)
      other apart l (inr differ) = ap (λ (b : Bool). cond b (Some next) (look_up tag_cmp t (tagged m rows))) differ ∙ l

      go : (n ≡ next) ⊎ (n ≢ next) → cond (eq_by_cmp tag_cmp t tag) (Some next) (look_up tag_cmp t (tagged m rows)) ≡ Some n
      go (inl same) =
          let own = value-same t tag (sym e ∙ ap (tag_in new) same ∙ tag-in-there new next x (at-here m next next x refl) ∙ named) in
          ap (λ (b : Bool). cond b (Some next) (look_up tag_cmp t (tagged m rows))) (equal-tags t tag own) ∙ ap Some (sym same)
      go (inr apart) = other apart (h.listed n t (sym (tag-in-same m new n (at-other m next n x apart)) ∙ e)) (tag-cases t tag)

  pub index-added : IsIndex (put m next x) (put keys next key) (insert rows (place tag_cmp tag (tagged m rows)) (record { node = next; key = key }))
  unfolding new
  index-added = record {
    each = all-insert (IsListed new (put keys next key)) rows (place tag_cmp tag (tagged m rows)) (record { node = next; key = key })
        (all-map (IsListed m keys) (IsListed new (put keys next key)) rows still-listed h.each)
        (at-here keys next next key refl, tag-in-there new next x (at-here m next next x refl) ∙ named ∙ ap Some (sym own-tag));
    rises = subst (λ es. T (is_sorted tag_cmp es)) (sym added-tags) (is_sorted-put tag_cmp tag_total tag next (tagged m rows) h.rises);
    listed = λ n t e. ap (look_up tag_cmp t) added-tags ∙ added-listed n t e;
  }

-- ---- a node loses its name

module _ (m : Map Inode) (keys : Map ℕ) (rows : List Listed) (h : IsIndex m keys rows) (n : ℕ) (tag : Tag) (named : tag_in m n ≡ Some tag) (x : Inode) (none : named_as x ≡ None) where
  passes : Tag → Bool
  passes t = not (eq_by_cmp tag_cmp tag t)

  left : List Listed
  left = remove rows (place tag_cmp tag (tagged m rows))

  there : look_up tag_cmp tag (tagged m rows) ≡ Some n
  there = h.listed n tag named

  left-tags : tagged m left ≡ where_key tag_cmp passes (tagged m rows)
  unfolding left passes
  left-tags = map-remove (entry m) rows (place tag_cmp tag (tagged m rows)) ∙ sym (without-at tag_cmp tag_total tag_same tag (tagged m rows) h.rises (subst (λ o. T (is_some o)) (sym there) tt))

  all-pass : (es : List (Tag × ℕ)) → AllByRecursion (λ (y : Tag × ℕ). passes y.0 ≡ true) (where_key tag_cmp passes es)
  all-pass [] = tt
  all-pass (y ∷ es) = go (passes y.0) refl (all-pass es)
    where
      go : (b : Bool) → passes y.0 ≡ b → AllByRecursion (λ (y : Tag × ℕ). passes y.0 ≡ true) (where_key tag_cmp passes es) → AllByRecursion (λ (y : Tag × ℕ). passes y.0 ≡ true) (cond b (y ∷ where_key tag_cmp passes es) (where_key tag_cmp passes es))
      go true e rest = (e, rest)
      go false e rest = rest

  unmap : (rows : List Listed) → AllByRecursion (λ (y : Tag × ℕ). passes y.0 ≡ true) (tagged m rows) → AllByRecursion (λ (e : Listed). passes (tag_at m e.node) ≡ true) rows
  unmap [] h = tt
  unmap (e ∷ rows) h = (h.0, unmap rows h.1)

  left-pass : AllByRecursion (λ (e : Listed). passes (tag_at m e.node) ≡ true) left
  left-pass = unmap left (subst (AllByRecursion (λ (y : Tag × ℕ). passes y.0 ≡ true)) (sym left-tags) (all-pass (tagged m rows)))

  tag-there : tag_at m n ≡ tag
  tag-there = go (at m n) refl named
    where
      go : (o : Option Inode) → at m n ≡ o → and_then o named_as ≡ Some tag → tag_at m n ≡ tag
      go None e f = no-value tag (sym f)
      go (Some y) e f = tag-at-there m n y e ∙ named-tag y tag f

  left-other : (e : Listed) → passes (tag_at m e.node) ≡ true → e.node ≢ n
  unfolding passes
  left-other e p same = true≢false (sym p ∙ ap not (ap (λ (j : ℕ). eq_by_cmp tag_cmp tag (tag_at m j)) same ∙ equal-tags tag (tag_at m n) (sym tag-there)))

  left-each : AllByRecursion (λ (e : Listed). IsListed m keys e × (passes (tag_at m e.node) ≡ true)) left
  unfolding left
  left-each = all-both (IsListed m keys) (λ (e : Listed). passes (tag_at m e.node) ≡ true) left (all-remove (IsListed m keys) rows (place tag_cmp tag (tagged m rows)) h.each) left-pass

  same-left : tagged (put m n x) left ≡ where_key tag_cmp passes (tagged m rows)
  same-left =
      tagged-same m (put m n x) left (all-map (λ (e : Listed). passes (tag_at m e.node) ≡ true) (λ (e : Listed). tag_at (put m n x) e.node ≡ tag_at m e.node) left (λ e p. tag-at-same m (put m n x) e.node (at-other m n e.node x (left-other e p))) left-pass)
      ∙ left-tags

  left-listed : (q : ℕ) (t : Tag) → tag_in (put m n x) q ≡ Some t → look_up tag_cmp t (where_key tag_cmp passes (tagged m rows)) ≡ Some q
  unfolding passes
  left-listed q t e = find-where_key tag_cmp passes t (λ u f. ap (λ (v : Tag). not (eq_by_cmp tag_cmp tag v)) (sym (tag_same t u f))) (tagged m rows) ∙ go (cases_eq q n)
    where
      pass : (q ≢ n) → look_up tag_cmp t (tagged m rows) ≡ Some q → (tag ≡ t) ⊎ (eq_by_cmp tag_cmp tag t ≡ false) → cond (not (eq_by_cmp tag_cmp tag t)) (look_up tag_cmp t (tagged m rows)) None ≡ Some q
      pass apart l (inl same) = absurd (apart (value-same q n (sym l ∙ ap (λ (u : Tag). look_up tag_cmp u (tagged m rows)) (sym same) ∙ there)))
      pass apart l (inr differ) = ap (λ (b : Bool). cond (not b) (look_up tag_cmp t (tagged m rows)) None) differ ∙ l

      go : (q ≡ n) ⊎ (q ≢ n) → cond (not (eq_by_cmp tag_cmp tag t)) (look_up tag_cmp t (tagged m rows)) None ≡ Some q
      go (inl same) = no-value t (sym e ∙ ap (tag_in (put m n x)) same ∙ tag-in-there (put m n x) n x (at-here m n n x refl) ∙ none)
      go (inr apart) = pass apart (h.listed q t (sym (tag-in-same m (put m n x) q (at-other m n q x apart)) ∙ e)) (tag-cases tag t)

  pub index-unlinked : IsIndex (put m n x) keys (remove rows (place tag_cmp tag (tagged m rows)))
  unfolding left
  index-unlinked = record {
    each = all-map (λ (e : Listed). IsListed m keys e × (passes (tag_at m e.node) ≡ true)) (IsListed (put m n x) keys) left
        (λ e l. (let same = at-other m n e.node x (left-other e l.1) in (l.0.0, tag-in-same m (put m n x) e.node same ∙ l.0.1 ∙ ap Some (sym (tag-at-same m (put m n x) e.node same))))) left-each;
    rises = subst (λ es. T (is_sorted tag_cmp es)) (sym same-left) (is_sorted-where_key tag_cmp passes (tagged m rows) h.rises);
    listed = λ q t e. ap (look_up tag_cmp t) same-left ∙ left-listed q t e;
  }

-- ---- a node without a name is taken out

pub at-left : {V : Type 0} (m : Map V) (n q : ℕ) → q ≢ n → at (cut m n) q ≡ at m q
at-left m n q apart = at-cut m n q ∙ (let b : (q == n) ≡ false = grind (arith, nat_tests, apart) in ap (λ b. cond b None (at m q)) b)

pub at-gone : {V : Type 0} (m : Map V) (n q : ℕ) → q ≡ n → at (cut m n) q ≡ None
at-gone m n q same = at-cut m n q ∙ (let b : (q == n) ≡ true = grind (arith, nat_tests, same) in ap (λ b. cond b None (at m q)) b)

module _ (m : Map Inode) (keys : Map ℕ) (rows : List Listed) (h : IsIndex m keys rows) (n : ℕ) (none : tag_in m n ≡ None) where
  kept-node : (e : Listed) → IsListed m keys e → e.node ≢ n
  kept-node e l same = no-value (tag_at m e.node) (sym l.1 ∙ ap (tag_in m) same ∙ none)

  kept-tags : tagged (cut m n) rows ≡ tagged m rows
  kept-tags = tagged-same m (cut m n) rows (all-map (IsListed m keys) (λ (e : Listed). tag_at (cut m n) e.node ≡ tag_at m e.node) rows (λ e l. tag-at-same m (cut m n) e.node (at-left m n e.node (kept-node e l))) h.each)

  kept-listed : (q : ℕ) (t : Tag) → tag_in (cut m n) q ≡ Some t → look_up tag_cmp t (tagged m rows) ≡ Some q
  kept-listed q t e = go (cases_eq q n)
    where
      go : (q ≡ n) ⊎ (q ≢ n) → look_up tag_cmp t (tagged m rows) ≡ Some q
      go (inl same) = no-value t (sym e ∙ ap (λ o. and_then o named_as) (at-gone m n q same))
      go (inr apart) = h.listed q t (sym (tag-in-same m (cut m n) q (at-left m n q apart)) ∙ e)

  pub index-removed : IsIndex (cut m n) (cut keys n) rows
  index-removed = record {
    each = all-map (IsListed m keys) (IsListed (cut m n) (cut keys n)) rows
        (λ e l. (let apart = kept-node e l in let same = at-left m n e.node apart in (at-left keys n e.node apart ∙ l.0, tag-in-same m (cut m n) e.node same ∙ l.1 ∙ ap Some (sym (tag-at-same m (cut m n) e.node same))))) h.each;
    rises = subst (λ es. T (is_sorted tag_cmp es)) (sym kept-tags) h.rises;
    listed = λ q t e. ap (look_up tag_cmp t) kept-tags ∙ kept-listed q t e;
  }
