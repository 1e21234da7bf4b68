-- Pages taken away, added and protected, one after another.
use Rattle.std.specs.FinMap as finmap
use Rattle.isa_model.specs.Memory.{Memory, Page}
use Rattle.kernel_model.specs.Pages.{zero_page}
use Rattle.kernel_model.specs.Spaces.{OneSpace, add_page, drop_page, each_page, present, protect_page}
use Rattle.mck_flags.specs.declared.rights.Rights.{Rights}
use Rattle.mck_word.specs.MapLaws.{at-cut, at-put, same_rows}
use Rattle.mck_word.specs.Maps.{at, change, change_row, count, cut, put}
use Rattle.one_memory.specs.Changing.{spaced}
use Rattle.one_memory.specs.Pages.{AreLow}
use Rattle.std.proofs.Common.{ap, arith, inl, inr, refl, sym, ◌∙◌}
use Rattle.std.proofs.lemmas.Bool.{cases_eq, eq-eqb, ne_eqb}
use Rattle.std.specs.Cmp.{nat_cmp_total}
use Rattle.std.specs.Prelude.{None, Option, Some, cond, false, is_some, suc, true, zero, ℕ, ◌+◌, ◌-◌, ◌<◌, ◌^◌, ◌≡◌, ◌≤◌}

pub each-step : {S : Type 0} (f : ℕ → S → S) (m n page : ℕ) (sp : S) → m ≡ suc n → each_page f m page sp ≡ each_page f n (page + 1) (f page sp)
each-step f m n page sp e = let next : suc page ≡ page + 1 = omega arith in ap (λ k. each_page f k page sp) e ∙ ap (λ k. each_page f n k (f page sp)) next

pub each-more : {S : Type 0} (f : ℕ → S → S) (n m page : ℕ) (sp : S) → each_page f (n + m) page sp ≡ each_page f m (page + n) (each_page f n page sp)
each-more f zero m page sp = let a : 0 + m ≡ m = omega arith in let b : page ≡ page + 0 = omega arith in ap (λ k. each_page f k page sp) a ∙ ap (λ k. each_page f m k sp) b
each-more f (suc n) m page sp =
    let a : suc n + m ≡ suc (n + m) = omega arith in let b : suc page + n ≡ page + suc n = omega arith in
    ap (λ k. each_page f k page sp) a ∙ each-more f n m (suc page) (f page sp) ∙ ap (λ k. each_page f m k (each_page f n (suc page) (f page sp))) b

-- ---- pages taken away

cut-absent : (m : Memory) (page : ℕ) → at m page ≡ None → cut m page ≡ m
cut-absent m page absent = same_rows _ _ (λ q. at-cut m page q ∙ elim (cases_eq q page) [
  | inl e ↦ ap (λ b. cond b None (at m q)) (eq-eqb q page e) ∙ sym (ap (at m) e ∙ absent)
  | inr o ↦ ap (λ b. cond b None (at m q)) (ne_eqb q page o)
])

drop-absent : (page : ℕ) (sp : OneSpace) → at sp.memory page ≡ None → drop_page page sp ≡ sp
unfolding drop_page
drop-absent page sp absent = let none : sp.free + 0 ≡ sp.free = omega arith in (λ i. record { memory = cut-absent sp.memory page absent i; free = (ap (λ o. sp.free + present o) absent ∙ none) i })

pub drop-none : (n page : ℕ) (sp : OneSpace) → ((k : ℕ) → page ≤ k → k < page + n → at sp.memory k ≡ None) → each_page drop_page n page sp ≡ sp
drop-none zero page sp h = refl
drop-none (suc n) page sp h =
    ap (each_page drop_page n (suc page)) (drop-absent page sp (h page (omega arith) (omega arith))) ∙ drop-none n (suc page) sp (λ k a b. h k (omega arith) (omega arith))

drop-there : (page : ℕ) (m : Memory) (free : ℕ) (x : Page) → at m page ≡ Some x → spaced (cut m page) (free + 1) ≡ drop_page page (spaced m free)
unfolding drop_page
drop-there page m free x there = λ i. record { memory = cut m page; free = free + present (sym there i) }

found : (o : Option Page) → is_some o ≡ true → (x : Page) × (o ≡ Some x)
found None h = absurd (cc)
found (Some x) h = (x, refl)

-- the pages up to the next one that is there are passed over, and it goes
pub drop-next : (m w : Memory) (free from page hi : ℕ) → from ≤ page → page < hi → w ≡ cut m page → is_some (at m page) ≡ true → ((k : ℕ) → from ≤ k → k < page → at m k ≡ None)
    → each_page drop_page (hi - (page + 1)) (page + 1) (spaced w (free + 1)) ≡ each_page drop_page (hi - from) from (spaced m free)
drop-next m w free from page hi low high is there none =
    let e : hi - from ≡ (page - from) + suc (hi - (page + 1)) = omega (arith, low, high) in
    let at-page : from + (page - from) ≡ page = omega (arith, low) in
    let skipped = drop-none (page - from) from (spaced m free) (λ k a b. none k a (omega (arith, b, low))) in
    ap (λ n. each_page drop_page (hi - (page + 1)) (page + 1) (spaced n (free + 1))) is
    ∙ ap (each_page drop_page (hi - (page + 1)) (page + 1)) (drop-there page m free (found (at m page) there).0 (found (at m page) there).1)
    ∙ sym (each-step drop_page (suc (hi - (page + 1))) _ page (spaced m free) refl)
    ∙ sym (ap (λ k. each_page drop_page k from (spaced m free)) e ∙ each-more drop_page (page - from) (suc (hi - (page + 1))) from (spaced m free)
    ∙ (λ j. each_page drop_page (suc (hi - (page + 1))) (at-page j) (skipped j)))

pub count-cut : (m : Memory) (page : ℕ) → is_some (at m page) ≡ true → count (cut m page) + 1 ≡ count m
count-cut m page there = sym made ∙ ap count back
  where
    x : Page
    x = (found (at m page) there).0

    back : put (cut m page) page x ≡ m
    back = same_rows _ _ (λ q. at-put (cut m page) page x q ∙ elim (cases_eq q page) [
      | inl e ↦ ap (λ b. cond b (Some x) (at (cut m page) q)) (eq-eqb q page e) ∙ sym (ap (at m) e ∙ (found (at m page) there).1)
      | inr o ↦ ap (λ b. cond b (Some x) (at (cut m page) q)) (ne_eqb q page o) ∙ (at-cut m page q ∙ ap (λ b. cond b None (at m q)) (ne_eqb q page o))
    ])

    gone : is_some (at (cut m page) page) ≡ false
    gone = ap is_some (at-cut m page page ∙ ap (λ b. cond b None (at m page)) (eq-eqb page page refl))

    made : count (put (cut m page) page x) ≡ count (cut m page) + 1
    made = finmap.len-insert nat_cmp_total (cut m page) page x ∙ ap (λ b. cond b (count (cut m page)) (count (cut m page) + 1)) gone

-- ---- page numbers stay low

pub low-cut : (m : Memory) (page : ℕ) → AreLow m → AreLow (cut m page)
low-cut m page low k h = elim (cases_eq k page) [
  | inl same ↦ absurd (let gone = ap is_some (at-cut m page k ∙ ap (λ b. cond b None (at m k)) (eq-eqb k page same)) in cc)
  | inr other ↦ low k (sym (ap is_some (at-cut m page k ∙ ap (λ b. cond b None (at m k)) (ne_eqb k page other))) ∙ h)
]

pub low-add : (m : Memory) (page : ℕ) (x : Page) → page < 2 ^ 27 → AreLow m → AreLow (put m page x)
low-add m page x small low k h = elim (cases_eq k page) [
  | inl same ↦ omega (arith, same, small)
  | inr other ↦ low k (sym (ap is_some (at-put m page x k ∙ ap (λ b. cond b (Some x) (at m k)) (ne_eqb k page other))) ∙ h)
]

pub low-change : (m : Memory) (page : ℕ) (f : Page → Page) → AreLow m → AreLow (change m page f)
low-change m page f low = go (at m page) refl
  where
    go : (o : Option Page) → at m page ≡ o → AreLow (change_row m page f o)
    go None e = low
    go (Some x) e = low-add m page (f x) (low page (ap is_some e)) low

-- ---- pages added and protected

added : (m : Memory) (k page : ℕ) (rights : Rights) → add_page rights page (spaced m k) ≡ spaced (put m page (record { rights = rights; bytes = zero_page })) (k - 1)
unfolding add_page
added m k page rights = refl

protected : (m : Memory) (k page : ℕ) (rights : Rights) → protect_page rights page (spaced m k) ≡ spaced (change m page (λ (x : Page). record x { rights = rights })) k
unfolding protect_page
protected m k page rights = refl

pub add-next : (m w : Memory) (free page hi n : ℕ) (rights : Rights) → page < hi → w ≡ put m page (record { rights = rights; bytes = zero_page })
    → each_page (add_page rights) (hi - (page + 1)) (page + 1) (spaced w (free - (n + 1))) ≡ each_page (add_page rights) (hi - page) page (spaced m (free - n))
add-next m w free page hi n rights high is =
    let e : hi - page ≡ suc (hi - (page + 1)) = omega (arith, high) in
    let f : free - (n + 1) ≡ free - n - 1 = omega arith in
    ap (each_page (add_page rights) (hi - (page + 1)) (page + 1)) ((λ i. spaced (is i) (f i)) ∙ sym (added m (free - n) page rights)) ∙ sym (each-step (add_page rights) (hi - page) _ page (spaced m (free - n)) e)

pub protect-next : (m w : Memory) (free page hi : ℕ) (rights : Rights) → page < hi → w ≡ change m page (λ (x : Page). record x { rights = rights })
    → each_page (protect_page rights) (hi - (page + 1)) (page + 1) (spaced w free) ≡ each_page (protect_page rights) (hi - page) page (spaced m free)
protect-next m w free page hi rights high is =
    let e : hi - page ≡ suc (hi - (page + 1)) = omega (arith, high) in
    ap (each_page (protect_page rights) (hi - (page + 1)) (page + 1)) ((λ i. spaced (is i) free) ∙ sym (protected m free page rights)) ∙ sym (each-step (protect_page rights) (hi - page) _ page (spaced m free) e)
