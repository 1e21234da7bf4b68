-- What is left of a copy of a memory, page by page.
use Rattle.hybrid_model.specs.Spaces.{Space, copied_pages}
use Rattle.isa_model.specs.Memory.{Memory, Page}
use Rattle.kernel_model.specs.Layout.{page_with}
use Rattle.kernel_model.specs.Spaces.{each_page}
use Rattle.lwk_boot.specs.Guests.{from_page}
use Rattle.lwk_space.specs.Fills.{fill_page, placed}
use Rattle.mck_flags.specs.declared.rights.Rights.{Rights}
use Rattle.mck_word.specs.MapLaws.{at-keep, at-none, at-put, same_rows}
use Rattle.mck_word.specs.Maps.{Map, at, entries, no_rows, put}
use Rattle.std.proofs.Common.{ap, arith, inl, inr, refl, sym, ◌∙◌}
use Rattle.std.proofs.lemmas.Bool.{cases_eq, cases_lt, eq-eqb, le-leb, le-ltb, lt-leb, lt-ltb, ne_eqb}
use Rattle.std.specs.Cmp.{nat_cmp_total}
use Rattle.std.specs.FinMap as finmap
use Rattle.std.specs.FinMap.Entries.{find, put as put_entry}
use Rattle.std.specs.Ordering.{nat_cmp}
use Rattle.std.specs.Prelude.{List, None, Some, [], ◌∷◌, cond, length, nat_le, suc, zero, ℕ, ◌+◌, ◌<◌, ◌≡◌, ◌≢◌, ◌≤◌}

no-items : {A : Type 0} (xs : List A) → length xs ≡ 0 → xs ≡ []
no-items [] e = refl
no-items (x ∷ xs) e = absurd (omega arith)

module _ {V : Type 0} where
  pub at-other : (m : Map V) (k p : ℕ) (v : V) → p ≢ k → at (put m k v) p ≡ at m p
  at-other m k p v o = at-put m k v p ∙ ap (λ b. cond b (Some v) (at m p)) (ne_eqb p k o)

  pub at-same : (m : Map V) (k p : ℕ) (v : V) → p ≡ k → at (put m k v) p ≡ Some v
  at-same m k p v e = at-put m k v p ∙ ap (λ b. cond b (Some v) (at m p)) (eq-eqb p k e)

  at-from : (m : Map V) (p q : ℕ) → at (from_page m p) q ≡ cond (nat_le p q) (at m q) None
  at-from m p q = at-keep m (λ k. nat_le p k) q

  pub at-below : (m : Map V) (p q : ℕ) → q < p → at (from_page m p) q ≡ None
  at-below m p q l = at-from m p q ∙ ap (λ b. cond b (at m q) None) (lt-leb p q l)

  pub at-above : (m : Map V) (p q : ℕ) → p ≤ q → at (from_page m p) q ≡ at m q
  at-above m p q l = at-from m p q ∙ ap (λ b. cond b (at m q) None) (le-leb p q l)

  find-here : (e : ℕ × V) (es : List (ℕ × V)) → find nat_cmp e.0 (e ∷ es) ≡ Some e.1
  find-here e es = rw (le-ltb e.0 e.0 (omega arith), eq-eqb e.0 e.0 refl) refl

  place-first : (p : ℕ) (x : V) (es : List (ℕ × V)) → ((q : ℕ) → q ≤ p → find nat_cmp q es ≡ None) → put_entry nat_cmp p x es ≡ (p, x) ∷ es
  place-first p x [] h = refl
  place-first p x (e ∷ es) h = elim (cases_lt p e.0) [
    | inl l ↦ rw (lt-ltb p e.0 l) refl
    | inr g ↦ absurd (let here = find-here e es in let none = h e.0 g in cc)
  ]

  entries-first : (m : Map V) (p : ℕ) (x : V) → ((q : ℕ) → q ≤ p → at m q ≡ None) → entries (put m p x) ≡ (p, x) ∷ entries m
  entries-first m p x h = finmap.entries-insert nat_cmp_total m p x ∙ place-first p x (entries m) (λ q l. sym (finmap.get-entries m q) ∙ h q l)

  first-put : (m : Map V) (p : ℕ) (x : V) → at m p ≡ Some x → (q : ℕ) → at (from_page m p) q ≡ at (put (from_page m (suc p)) p x) q
  first-put m p x there q = elim (cases_eq q p) [
    | inl e ↦ at-above m p q (omega arith) ∙ (ap (at m) e ∙ there) ∙ sym (at-same (from_page m (suc p)) p q x e)
    | inr o ↦ sym (at-other (from_page m (suc p)) p q x o ∙ elim (cases_lt q p) [
      | inl l ↦ at-below m (suc p) q (omega arith) ∙ sym (at-below m p q l)
      | inr g ↦ at-above m (suc p) q (omega arith) ∙ sym (at-above m p q g)
    ])
  ]

  -- the first page of those that are left
  pub entries-from : (m : Map V) (p : ℕ) (x : V) → at m p ≡ Some x → entries (from_page m p) ≡ (p, x) ∷ entries (from_page m (suc p))
  entries-from m p x there =
      ap entries (same_rows _ _ (first-put m p x there)) ∙ entries-first (from_page m (suc p)) p x (λ q l. at-below m (suc p) q (omega arith))

  -- pages that are absent are skipped
  pub skip : (m : Map V) (p q : ℕ) → p ≤ q → ((k : ℕ) → p ≤ k → k < q → at m k ≡ None) → from_page m p ≡ from_page m q
  skip m p q l h = same_rows _ _ (λ k. elim (cases_lt k p) [
    | inl low ↦ at-below m p k low ∙ sym (at-below m q k (omega arith))
    | inr high ↦ elim (cases_lt k q) [
      | inl mid ↦ at-above m p k high ∙ h k high mid ∙ sym (at-below m q k mid)
      | inr top ↦ at-above m p k high ∙ sym (at-above m q k top)
    ]
  ])

  pub from-zero : (m : Map V) → m ≡ from_page m 0
  from-zero m = same_rows _ _ (λ k. sym (at-above m 0 k (omega arith)))

  -- nothing is left where all pages are below
  pub from-end : (m : Map V) (p : ℕ) → ((k : ℕ) → p ≤ k → at m k ≡ None) → entries (from_page m p) ≡ []
  from-end m p h = ap entries (same_rows (from_page m p) no_rows (λ k. elim (cases_lt k p) [
    | inl low ↦ at-below m p k low ∙ sym (at-none k)
    | inr high ↦ at-above m p k high ∙ h k high ∙ sym (at-none k)
  ])) ∙ no-items (entries no_rows) (sym (finmap.len-entries (no_rows {V = V})) ∙ finmap.len-empty nat_cmp V)

one-page : (rights : Rights) (start : ℕ) (bytes : List ℕ) (p : ℕ) (es : List (ℕ × Page)) (sp : Space)
    → copied_pages ((p, page_with rights (placed start bytes p)) ∷ es) sp ≡ copied_pages es (fill_page rights start bytes p sp)
unfolding fill_page
one-page rights start bytes p es sp = refl

-- n pages that have these bytes, from p on
pub some-pages : (n p : ℕ) (m : Memory) (rights : Rights) (start : ℕ) (bytes : List ℕ) (sp : Space)
    → ((q : ℕ) → p ≤ q → q < p + n → at m q ≡ Some (page_with rights (placed start bytes q)))
    → copied_pages (entries (from_page m p)) sp ≡ copied_pages (entries (from_page m (p + n))) (each_page (fill_page rights start bytes) n p sp)
some-pages zero p m rights start bytes sp h = let e : p ≡ p + 0 = omega arith in ap (λ k. copied_pages (entries (from_page m k)) sp) e
some-pages (suc n) p m rights start bytes sp h =
    let e : suc p + n ≡ p + suc n = omega arith in
    let next = fill_page rights start bytes p sp in
    ap (λ es. copied_pages es sp) (entries-from m p (page_with rights (placed start bytes p)) (h p (omega arith) (omega arith)))
    ∙ (one-page rights start bytes p (entries (from_page m (suc p))) sp
    ∙ (some-pages n (suc p) m rights start bytes next (λ q a b. h q (omega arith) (omega arith))
    ∙ ap (λ k. copied_pages (entries (from_page m k)) (each_page (fill_page rights start bytes) n (suc p) next)) e))
