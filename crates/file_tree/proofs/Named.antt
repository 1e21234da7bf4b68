-- The words on names, in an index of the nodes.
use Rattle.file_model.specs.Files.{Inode, Name}
use Rattle.file_model.specs.Paths.{bytes_before, is_named_as, name_in, stands_as}
use Rattle.file_tree.proofs.Members.{In, at-in, find-in, find-none, given-in, in-above, in-at, in-given, no-value, value-same}
use Rattle.file_tree.proofs.Placed.{head-below, tail-sorted, tied as tied-itself}
use Rattle.file_tree.proofs.Sorted.{Behind, Distinct, Rises, in-sorted, rises-sorted, same-list, sorted-in}
use Rattle.file_tree.proofs.TagOrder.{tag_same, tag_total}
use Rattle.file_tree.specs.Index.{name_under, names_under}
use Rattle.file_tree.specs.Tags.{Tag, named_as, tag_cmp, tag_in}
use Rattle.key_rows.proofs.Placed.{below-of, tail-of}
use Rattle.mck_word.specs.Lists.{sorted_by}
use Rattle.mck_word.specs.Maps.{Map, and_then, at, entries}
use Rattle.std.proofs.Common.{ap, arith, inl, inr, refl, sym, ◌∙◌}
use Rattle.std.proofs.lemmas.Bool.Decides.{nat_tests}
use Rattle.std.proofs.lemmas.Bool.{eq-eqb, le-ltb, true≢false}
use Rattle.std.proofs.lemmas.Slice.Eq.{bytes_eq-Decides}
use Rattle.std.specs.Cmp.Lexicographic.{nat_list_cmp_total, slice_cmp}
use Rattle.std.specs.FinMap as finmap
use Rattle.std.specs.FinMap.Entries.{below_all, find as look_up, is_sorted}
use Rattle.std.specs.FinMap.{nat_cmp-IsAntisymmetric, slice_cmp-IsAntisymmetric}
use Rattle.std.specs.List.{cons_option}
use Rattle.std.specs.Ordering.{is_eq, is_lt, nat_cmp, ordering_reverse, ordering_then}
use Rattle.std.specs.Prelude.{Bool, List, None, Option, Some, T, [], cond, false, filter_map, find, option_map, true, ℕ, ◌&&◌, ◌==◌, ◌∷◌, ◌≡◌}
use Rattle.std.specs.declared.cmp.Ordering.TheVariants.{Equal, Greater, Less}
use Rattle.std.specs.declared.cmp.Ordering.{Ordering}

-- ---- the order of bytes

lower : (o : Ordering) → is_lt o ≡ true → o ≡ Less
lower Less h = refl
lower Equal h = absurd (true≢false (sym h))
lower Greater h = absurd (true≢false (sym h))

turn : (a b : Name) → slice_cmp nat_cmp b a ≡ ordering_reverse (slice_cmp nat_cmp a b)
turn a b = nat_list_cmp_total.antisymm b a

asym : (a b : Name) → bytes_before a b ≡ true → bytes_before b a ≡ false
asym a b h = ap is_lt (turn a b ∙ ap ordering_reverse (lower _ h))

trans : (a b c : Name) → bytes_before a b ≡ true → bytes_before b c ≡ true → bytes_before a c ≡ true
trans a b c h g = ap is_lt (nat_list_cmp_total.trans a b c (lower _ h) (lower _ g))

same : (a b : Name) → bytes_before a b ≡ false → bytes_before b a ≡ false → a ≡ b
same a b h g = go (slice_cmp nat_cmp a b) refl
  where
    go : (o : Ordering) → slice_cmp nat_cmp a b ≡ o → a ≡ b
    go Less e = absurd (true≢false (sym (ap is_lt e) ∙ h))
    go Equal e = slice_cmp-IsAntisymmetric nat_cmp-IsAntisymmetric a b e
    go Greater e = absurd (true≢false (sym (ap is_lt (turn a b ∙ ap ordering_reverse e)) ∙ g))

-- ---- what stands as a name in a directory

both : (a b : Bool) → (a && b) ≡ true → (a ≡ true) × (b ≡ true)
both true b h = (refl, h)
both false b h = absurd (true≢false (sym h))

pub named-is : (x : Inode) (n : Name) → x.name ≡ Some n → named_as x ≡ Some (x.parent, n)
named-is x n e = ap (option_map {T = Name} {U = Tag} (λ (n : Name). (x.parent, n))) e

pub unnamed : (x : Inode) → x.name ≡ None → named_as x ≡ None
unnamed x e = ap (option_map {T = Name} {U = Tag} (λ (n : Name). (x.parent, n))) e

pub stands-named : (d : ℕ) (name : Name) (x : Inode) → stands_as d name x ≡ true → named_as x ≡ Some (d, name)
stands-named d name x h = go x.name refl (both (x.parent == d) (is_named_as name x.name) h)
  where
    go : (o : Option Name) → x.name ≡ o → ((x.parent == d) ≡ true) × (is_named_as name x.name ≡ true) → named_as x ≡ Some (d, name)
    go None e h = absurd (true≢false (sym h.1 ∙ ap (is_named_as name) e))
    go (Some n) e h =
        let parent : x.parent ≡ d = (let a = h.0 in grind (arith, nat_tests, a)) in
        let equal = (bytes_eq-Decides n name).0 (sym (ap (is_named_as name) e) ∙ h.1) in
        named-is x n e ∙ (λ i. Some (parent i, equal i))

pub named-stands : (d : ℕ) (name : Name) (x : Inode) → named_as x ≡ Some (d, name) → stands_as d name x ≡ true
named-stands d name x h = go x.name refl
  where
    go : (o : Option Name) → x.name ≡ o → stands_as d name x ≡ true
    go None e = no-value (d, name) (sym h ∙ unnamed x e)
    go (Some n) e =
        let is = value-same (x.parent, n) (d, name) (sym (named-is x n e) ∙ h) in
        (λ i. eq-eqb x.parent d (ap (λ (t : Tag). t.0) is) i && is_named_as name (e i)) ∙ (bytes_eq-Decides n name).1 (ap (λ (t : Tag). t.1) is)

name-named : (d : ℕ) (e : ℕ × Inode) (name : Name) → name_in d e ≡ Some name → named_as e.1 ≡ Some (d, name)
name-named d e name h = go (e.1.parent == d) refl h
  where
    go : (b : Bool) → (e.1.parent == d) ≡ b → cond b e.1.name None ≡ Some name → named_as e.1 ≡ Some (d, name)
    go true f g =
        let parent : e.1.parent ≡ d = grind (arith, nat_tests, f) in
        named-is e.1 name g ∙ ap (λ (p : ℕ). Some (p, name)) parent
    go false f g = no-value name (sym g)

named-name : (d : ℕ) (e : ℕ × Inode) (name : Name) → named_as e.1 ≡ Some (d, name) → name_in d e ≡ Some name
named-name d e name h = go e.1.name refl
  where
    go : (o : Option Name) → e.1.name ≡ o → name_in d e ≡ Some name
    go None f = no-value (d, name) (sym h ∙ unnamed e.1 f)
    go (Some n) f =
        let is = value-same (e.1.parent, n) (d, name) (sym (named-is e.1 n f) ∙ h) in
        ap (λ (b : Bool). cond b e.1.name None) (eq-eqb e.1.parent d (ap (λ (t : Tag). t.0) is)) ∙ f ∙ ap (λ (t : Tag). Some t.1) is

-- ---- the names of an index

first : (a b : Bool) → T (a && b) → T a
first true b h = tt
first false b h = absurd h

second : (a b : Bool) → T (a && b) → T b
second true b h = h
second false b h = absurd h

is-less : (o : Ordering) → T (is_lt o) → o ≡ Less
is-less Less h = refl
is-less Equal h = absurd h
is-less Greater h = absurd h

below-in : (t : Tag) (es : List (Tag × ℕ)) (e : Tag × ℕ) → T (below_all tag_cmp t es) → In e es → tag_cmp t e.0 ≡ Less
below-in t [] e s i = absurd i
below-in t (x ∷ es) e s (inl f) = ap (λ (y : Tag × ℕ). tag_cmp t y.0) (sym f) ∙ is-less _ (first _ _ s)
below-in t (x ∷ es) e s (inr j) = below-in t es e (second (is_lt (tag_cmp t x.0)) _ s) j

tied : (t : Tag) → is_eq (tag_cmp t t) ≡ true
tied t = ap is_eq (tied-itself tag_cmp tag_total t)

-- a member of the entries is found by its tag, and what is found is a member
looked-up : (es : List (Tag × ℕ)) (e : Tag × ℕ) → T (is_sorted tag_cmp es) → In e es → look_up tag_cmp e.0 es ≡ Some e.1
looked-up [] e s i = absurd i
looked-up (x ∷ es) e s (inl f) = ap (λ (y : Tag × ℕ). cond (is_eq (tag_cmp e.0 y.0)) (Some y.1) (look_up tag_cmp e.0 es)) f ∙ ap (λ (b : Bool). cond b (Some e.1) (look_up tag_cmp e.0 es)) (tied e.0)
looked-up (x ∷ es) e s (inr j) =
    let above = below-in x.0 es e (head-below tag_cmp tag_total tag_same x es s) j in
    ap (λ (o : Ordering). cond (is_eq o) (Some x.1) (look_up tag_cmp e.0 es)) (tag_total.antisymm e.0 x.0 ∙ ap ordering_reverse above) ∙ looked-up es e (tail-sorted tag_cmp tag_total tag_same x es s) j

pub found-member : (es : List (Tag × ℕ)) (t : Tag) (n : ℕ) → look_up tag_cmp t es ≡ Some n → In (t, n) es
found-member [] t n e = no-value n (sym e)
found-member (x ∷ es) t n e = go (tag_cmp t x.0) refl e (found-member es t n)
  where
    go : (o : Ordering) → tag_cmp t x.0 ≡ o → cond (is_eq o) (Some x.1) (look_up tag_cmp t es) ≡ Some n → (look_up tag_cmp t es ≡ Some n → In (t, n) es) → In (t, n) (x ∷ es)
    go Less p q rest = inr (rest q)
    go Equal p q rest = let tags = tag_same t x.0 p in let numbers = value-same x.1 n q in inl (λ i. (sym tags i, numbers i))
    go Greater p q rest = inr (rest q)

-- the names under a directory are those of its tags
in-under : (d : ℕ) (name : Name) (es : List (Tag × ℕ)) → T (is_sorted tag_cmp es) → In name (names_under d es) → (n : ℕ) × (look_up tag_cmp (d, name) es ≡ Some n)
in-under d name es s i =
    let r = given-in (name_under d) es name i in
    let tag = of-directory r.0 (r.0.0.0 == d) refl r.2 in
    (r.0.1, ap (λ (t : Tag). look_up tag_cmp t es) (sym tag) ∙ looked-up es r.0 s r.1)
  where
    of-directory : (e : Tag × ℕ) (b : Bool) → (e.0.0 == d) ≡ b → cond b (Some e.0.1) None ≡ Some name → e.0 ≡ (d, name)
    of-directory e true f g = let parent : e.0.0 ≡ d = grind (arith, nat_tests, f) in let own = value-same e.0.1 name g in λ i. (parent i, own i)
    of-directory e false f g = no-value name (sym g)

under-in : (d : ℕ) (name : Name) (es : List (Tag × ℕ)) (n : ℕ) → look_up tag_cmp (d, name) es ≡ Some n → In name (names_under d es)
under-in d name es n e = in-given (name_under d) es ((d, name), n) name (found-member es (d, name) n e) (ap (λ (b : Bool). cond b (Some name) None) (eq-eqb d d refl))

-- they rise
behind-under : (d : ℕ) (t : Tag) (es : List (Tag × ℕ)) → t.0 ≡ d → T (below_all tag_cmp t es) → Behind bytes_before asym trans same t.1 (names_under d es)
behind-under d t [] e s = tt
behind-under d t (x ∷ es) e s = go (x.0.0 == d) refl (behind-under d t es e (second (is_lt (tag_cmp t x.0)) _ s))
  where
    go : (b : Bool) → (x.0.0 == d) ≡ b → Behind bytes_before asym trans same t.1 (names_under d es) → Behind bytes_before asym trans same t.1 (cons_option (cond b (Some x.0.1) None) (names_under d es))
    go true f rest =
        let parent : x.0.0 ≡ d = grind (arith, nat_tests, f) in
        let equal = equal-rank t.0 x.0.0 (e ∙ sym parent) in
        (ap is_lt (ap (λ (o : Ordering). ordering_then o (slice_cmp nat_cmp t.1 x.0.1)) (sym equal) ∙ is-less _ (first _ _ s)), rest)
      where
        equal-rank : (a b : ℕ) → a ≡ b → nat_cmp a b ≡ Equal
        equal-rank a b e = rw (le-ltb a b (omega arith), eq-eqb a b e) refl
    go false f rest = rest

rises-under : (d : ℕ) (es : List (Tag × ℕ)) → T (is_sorted tag_cmp es) → Rises bytes_before asym trans same (names_under d es)
rises-under d [] s = tt
rises-under d (x ∷ es) s = go (x.0.0 == d) refl (rises-under d es (tail-sorted tag_cmp tag_total tag_same x es s))
  where
    go : (b : Bool) → (x.0.0 == d) ≡ b → Rises bytes_before asym trans same (names_under d es) → Rises bytes_before asym trans same (cons_option (cond b (Some x.0.1) None) (names_under d es))
    go true f rest = let parent : x.0.0 ≡ d = grind (arith, nat_tests, f) in (behind-under d x.0 es parent (head-below tag_cmp tag_total tag_same x es s), rest)
    go false f rest = rest

module _ (m : Map Inode) (es : List (Tag × ℕ)) (rises : T (is_sorted tag_cmp es))
    (found : (tag : Tag) (n : ℕ) → look_up tag_cmp tag es ≡ Some n → tag_in m n ≡ Some tag) (listed : (n : ℕ) (tag : Tag) → tag_in m n ≡ Some tag → look_up tag_cmp tag es ≡ Some n) where
  row-tag : (e : ℕ × Inode) (tag : Tag) → In e (entries m) → named_as e.1 ≡ Some tag → tag_in m e.0 ≡ Some tag
  row-tag e tag i h = ap (λ o. and_then o named_as) (in-at m e i) ∙ h

  tag-row : (n : ℕ) (tag : Tag) → tag_in m n ≡ Some tag → (x : Inode) × (at m n ≡ Some x) × (named_as x ≡ Some tag)
  tag-row n tag h = go (at m n) refl h
    where
      go : (o : Option Inode) → at m n ≡ o → and_then o named_as ≡ Some tag → (x : Inode) × (at m n ≡ Some x) × (named_as x ≡ Some tag)
      go None e h = no-value tag (sym h)
      go (Some x) e h = (x, e, h)

  -- the node with a name in a directory
  pub child-is : (d : ℕ) (name : Name) → option_map (λ (e : ℕ × Inode). e.0) (find (λ (e : ℕ × Inode). stands_as d name e.1) (entries m)) ≡ look_up tag_cmp (d, name) es
  child-is d name = go (find (λ (e : ℕ × Inode). stands_as d name e.1) (entries m)) refl (look_up tag_cmp (d, name) es) refl
    where
      go : (o : Option (ℕ × Inode)) → find (λ (e : ℕ × Inode). stands_as d name e.1) (entries m) ≡ o → (p : Option ℕ) → look_up tag_cmp (d, name) es ≡ p → option_map (λ (e : ℕ × Inode). e.0) o ≡ p
      go (Some e) f p g =
          let r = find-in (λ (e : ℕ × Inode). stands_as d name e.1) (entries m) e f in
          sym (listed e.0 (d, name) (row-tag e (d, name) r.0 (stands-named d name e.1 r.1))) ∙ g
      go None f None g = refl
      go None f (Some n) g =
          let r = tag-row n (d, name) (found (d, name) n g) in
          absurd (true≢false (sym (named-stands d name r.0 r.2) ∙ find-none (λ (e : ℕ × Inode). stands_as d name e.1) (entries m) (n, r.0) f (at-in m n r.0 r.1)))

  -- no two nodes have one name in one directory
  distinct-names : (d : ℕ) (rows : List (ℕ × Inode)) → T (is_sorted nat_cmp rows) → ((e : ℕ × Inode) → In e rows → In e (entries m)) → Distinct (filter_map (name_in d) rows)
  distinct-names d [] s h = tt
  distinct-names d (e ∷ rows) s h = go (name_in d e) refl (distinct-names d rows (tail-of e rows s) (λ x i. h x (inr i)))
    where
      twice : (name : Name) → name_in d e ≡ Some name → In name (filter_map (name_in d) rows) → ⊥
      twice name f i =
          let r = given-in (name_in d) rows name i in
          let own = listed e.0 (d, name) (row-tag e (d, name) (h e (inl refl)) (name-named d e name f)) in
          let other = listed r.0.0 (d, name) (row-tag r.0 (d, name) (h r.0 (inr r.1)) (name-named d r.0 name r.2)) in
          let equal = value-same e.0 r.0.0 (sym own ∙ other) in
          let less = in-above e.0 rows r.0 (below-of e rows s) r.1 in
          omega arith

      go : (o : Option Name) → name_in d e ≡ o → Distinct (filter_map (name_in d) rows) → Distinct (cons_option o (filter_map (name_in d) rows))
      go None f rest = rest
      go (Some name) f rest = (twice name f, rest)

  -- the names in a directory
  pub names-are : (d : ℕ) → sorted_by bytes_before (filter_map (name_in d) (entries m)) ≡ names_under d es
  names-are d =
      same-list bytes_before asym trans same (sorted_by bytes_before (filter_map (name_in d) (entries m))) (names_under d es)
      (rises-sorted bytes_before asym trans same (filter_map (name_in d) (entries m)) (distinct-names d (entries m) (finmap.entries_sorted m) (λ e i. i))) (rises-under d es rises)
      (λ z i.
      let r = given-in (name_in d) (entries m) z (in-sorted bytes_before asym trans same z (filter_map (name_in d) (entries m)) i) in
      under-in d z es r.0.0 (listed r.0.0 (d, z) (row-tag r.0 (d, z) r.1 (name-named d r.0 z r.2))))
      (λ z i.
      let r = in-under d z es rises i in
      let row = tag-row r.0 (d, z) (found (d, z) r.0 r.1) in
      sorted-in bytes_before asym trans same z (filter_map (name_in d) (entries m)) (in-given (name_in d) (entries m) (r.0, row.0) z (at-in m r.0 row.0 row.1) (named-name d (r.0, row.0) z row.2)))
