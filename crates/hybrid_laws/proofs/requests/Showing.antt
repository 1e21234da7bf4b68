-- What is shown of the calls of a process.
use Rattle.hybrid_laws.proofs.maps.Reading.{each-same}
use Rattle.hybrid_model.specs.Coherence.{answers_to}
use Rattle.hybrid_model.specs.Rings.{post, ring, with_ring}
use Rattle.hybrid_model.specs.Shown.{has_empty, any_empty, is_empty_for, serves_it, status_of, shown_call, shown_own}
use Rattle.hybrid_model.specs.Sides.{Side, Caller, Row}
use Rattle.hybrid_model.specs.Spaces.{shown_memory, frame_bytes, shown_row}
use Rattle.hybrid_model.specs.Tallies.{Reads, sum_rings, tally}
use Rattle.ikc_ring.specs.declared.Msg.TheVariants.{Request, Clear, Answer, Interrupt, Reply, Ack, Fault}
use Rattle.ikc_ring.specs.declared.Msg.{Msg}
use Rattle.isa_model.specs.Table.{table}
use Rattle.kernel_model.specs.OneKernel.{Call as OneCall}
use Rattle.kernel_model.specs.Pages.{zero_page}
use Rattle.mck_word.specs.MapLaws.{at-collect, at-put, same_rows}
use Rattle.mck_word.specs.Maps.{Map, at, each, and_then, put}
use Rattle.std.proofs.Common.{ap, refl, ◌∙◌, arith, sym}
use Rattle.std.proofs.lemmas.Bool.Decides.{nat_tests}
use Rattle.std.specs.Prelude.{List, None, Some, [], false, suc, zero, ℕ, ◌++◌, ◌||◌, ◌∷◌, ◌≡◌, Bool, true, Option, cond, unwrap_or, ◌==◌, ◌≢◌}

-- ---- empty answers, where the workers that serve the request stay
module _ (workers workers' : Reads ℕ) (q : ℕ) (same : (v : ℕ) → serves_it q (workers' v) ≡ serves_it q (workers v)) where
  is_empty-same : (m : Msg) → is_empty_for workers' q m ≡ is_empty_for workers q m
  is_empty-same (Answer w i n None) = same w
  is_empty-same (Answer w i n (Some row)) = refl
  is_empty-same (Request c) = refl
  is_empty-same (Clear r) = refl
  is_empty-same (Interrupt n place) = refl
  is_empty-same (Reply n code) = refl
  is_empty-same Ack = refl
  is_empty-same (Fault w i a) = refl

  any_empty-same : (ms : List Msg) → any_empty workers' q ms ≡ any_empty workers q ms
  any_empty-same [] = refl
  any_empty-same (m ∷ ms) = λ i. is_empty-same m i || any_empty-same ms i

  pub has_empty-same : (rs : List (List Msg)) → has_empty workers' q rs ≡ has_empty workers q rs
  has_empty-same [] = refl
  has_empty-same (ms ∷ rs) = λ i. any_empty-same ms i || has_empty-same rs i

-- ---- empty answers, where a message that is none of q's is posted or taken
any_empty-push : (workers : Reads ℕ) (q : ℕ) (ms : List Msg) (m : Msg) → is_empty_for workers q m ≡ false → any_empty workers q (ms ++ m ∷ []) ≡ any_empty workers q ms
any_empty-push workers q [] m n = rw n refl
any_empty-push workers q (x ∷ ms) m n = ap (λ b. is_empty_for workers q x || b) (any_empty-push workers q ms m n)

pub has_empty-post : (workers : Reads ℕ) (q r : ℕ) (m : Msg) (rs : List (List Msg)) → is_empty_for workers q m ≡ false → has_empty workers q (post r m rs) ≡ has_empty workers q rs
has_empty-post workers q zero m [] n = rw n refl
has_empty-post workers q zero m (ms ∷ rs) n = ap (λ b. b || has_empty workers q rs) (any_empty-push workers q ms m n)
has_empty-post workers q (suc r) m [] n = rw n refl
has_empty-post workers q (suc r) m (ms ∷ rs) n = ap (λ b. any_empty workers q ms || b) (has_empty-post workers q r m rs n)

pub has_empty-take : (workers : Reads ℕ) (q r : ℕ) (m : Msg) (ms : List Msg) (rs : List (List Msg)) → is_empty_for workers q m ≡ false → ring r rs ≡ m ∷ ms → has_empty workers q (with_ring r ms rs) ≡ has_empty workers q rs
has_empty-take workers q r m ms [] n e = refl
has_empty-take workers q zero m ms (ns ∷ rs) n e = rw (e, n) refl
has_empty-take workers q (suc r) m ms (ns ∷ rs) n e = ap (λ b. any_empty workers q ns || b) (has_empty-take workers q r m ms rs n e)

-- ---- the shown process
module _ (frames : Map (List ℕ)) (side side' : Side) (tables : side'.lwk.table ≡ side.lwk.table) (calls : side'.lwk.callers ≡ side.lwk.callers) where
  pub shown-same : ((t : ℕ) (c : Caller) → at side.lwk.callers t ≡ Some c → status_of side' c.request ≡ status_of side c.request) → shown_own frames side' ≡ shown_own frames side
  shown-same h =
      let k = each-same (shown_call side') (shown_call side) side.lwk.callers (λ t c e i. record { marked = c.marked; status = h t c e i }) in
      let k' = ap (each (shown_call side')) calls ∙ k in
      λ i. record { memory = shown_memory (tables i) frames; calls = k' i }

-- ---- whether an empty answer is there for q, which worker w alone serves
module _ (workers : Reads ℕ) (q w : ℕ) (alone : (v : ℕ) → serves_it q (workers v) ≡ true → v ≡ w) where
  no_empty-one : (m : Msg) → answers_to w m ≡ 0 → is_empty_for workers q m ≡ false
  no_empty-one (Answer v i n None) e = go (serves_it q (workers v)) refl
    where
      go : (b : Bool) → serves_it q (workers v) ≡ b → serves_it q (workers v) ≡ false
      go true k = absurd (let g = alone v k in grind (arith, nat_tests, e, g))
      go false k = k
  no_empty-one (Answer v i n (Some row)) e = refl
  no_empty-one (Request c) e = refl
  no_empty-one (Clear r) e = refl
  no_empty-one (Interrupt n place) e = refl
  no_empty-one (Reply n code) e = refl
  no_empty-one Ack e = refl
  no_empty-one (Fault v i a) e = refl

  no_empty-ring : (ms : List Msg) → tally (answers_to w) ms ≡ 0 → any_empty workers q ms ≡ false
  no_empty-ring [] e = refl
  no_empty-ring (m ∷ ms) e = rw (no_empty-one m (omega (arith, e)), no_empty-ring ms (omega (arith, e))) refl

  pub no_empty : (rs : List (List Msg)) → sum_rings (answers_to w) rs ≡ 0 → has_empty workers q rs ≡ false
  no_empty [] e = refl
  no_empty (ms ∷ rs) e = rw (no_empty-ring ms (omega (arith, e)), no_empty rs (omega (arith, e))) refl

pub empty-there : (workers : Reads ℕ) (q r : ℕ) (m : Msg) (ms : List Msg) (rs : List (List Msg)) → is_empty_for workers q m ≡ true → ring r rs ≡ m ∷ ms → has_empty workers q rs ≡ true
empty-there workers q r m ms [] k e = absurd (grind (arith, e))
empty-there workers q zero m ms (ns ∷ rs) k e = rw (e, k) refl
empty-there workers q (suc r) m ms (ns ∷ rs) k e = rw (empty-there workers q r m ms rs k e) (or-true (any_empty workers q ns))
  where
    or-true : (b : Bool) → (b || true) ≡ true
    or-true true = refl
    or-true false = refl

-- ---- one caller's call anew, and the others' as they were
pub calls-put : (side side' : Side) (callers : Map Caller) (t : ℕ) (c : Caller) (y : OneCall) → at callers t ≡ Some c → shown_call side' c ≡ y
    → ((u : ℕ) (d : Caller) → u ≢ t → at callers u ≡ Some d → status_of side' d.request ≡ status_of side d.request)
    → put (each (shown_call side) callers) t y ≡ each (shown_call side') callers
calls-put side side' callers t c y is now others = same_rows (put (each (shown_call side) callers) t y) (each (shown_call side') callers) (λ j.
    at-put (each (shown_call side) callers) t y j ∙ ap (cond (j == t) (Some y)) (at-collect (λ k v. Some (shown_call side v)) callers j)
    ∙ go j (j == t) refl (at callers j) refl ∙ sym (at-collect (λ k v. Some (shown_call side' v)) callers j))
  where
    go : (j : ℕ) (b : Bool) → (j == t) ≡ b → (o : Option Caller) → at callers j ≡ o → cond b (Some y) (and_then o (λ v. Some (shown_call side v))) ≡ and_then o (λ v. Some (shown_call side' v))
    go j true e o f = let g : j ≡ t = grind (arith, nat_tests, e) in let z : o ≡ Some c = sym f ∙ ap (at callers) g ∙ is in rw z (ap Some (sym now))
    go j false e None f = refl
    go j false e (Some d) f = let k = sym (others j d (λ g. grind (arith, nat_tests, e, g)) f) in λ i. Some (record { marked = d.marked; status = k i })

-- ---- the bytes of one row's frame anew
pub rows-put : (frames : Map (List ℕ)) (table : Map Row) (i : ℕ) (r : Row) (b : List ℕ) → at table i ≡ Some r → ((j : ℕ) (t : Row) → at table j ≡ Some t → t.0.0 ≡ r.0.0 → j ≡ i)
    → put (shown_memory table frames) i (record { rights = r.1; bytes = b }) ≡ shown_memory table (put frames r.0.0 b)
rows-put frames table i r b is apart = same_rows (put (shown_memory table frames) i (record { rights = r.1; bytes = b })) (shown_memory table (put frames r.0.0 b)) (λ j.
    at-put (shown_memory table frames) i (record { rights = r.1; bytes = b }) j ∙ ap (cond (j == i) (Some (record { rights = r.1; bytes = b }))) (at-collect (λ k v. Some (shown_row frames v)) table j)
    ∙ go j (j == i) refl (at table j) refl ∙ sym (at-collect (λ k v. Some (shown_row (put frames r.0.0 b) v)) table j))
  where
    own : frame_bytes (put frames r.0.0 b) r.0.0 ≡ b
    own = ap (λ o. unwrap_or o zero_page) (at-put frames r.0.0 b r.0.0) ∙ (let e : (r.0.0 == r.0.0) ≡ true = grind (arith, nat_tests) in rw e refl)

    other : (t : Row) → t.0.0 ≢ r.0.0 → frame_bytes (put frames r.0.0 b) t.0.0 ≡ frame_bytes frames t.0.0
    other t n = ap (λ o. unwrap_or o zero_page) (at-put frames r.0.0 b t.0.0) ∙ (let e : (t.0.0 == r.0.0) ≡ false = grind (arith, nat_tests, n) in rw e refl)

    go : (j : ℕ) (x : Bool) → (j == i) ≡ x → (o : Option Row) → at table j ≡ o → cond x (Some (record { rights = r.1; bytes = b })) (and_then o (λ v. Some (shown_row frames v))) ≡ and_then o (λ v. Some (shown_row (put frames r.0.0 b) v))
    go j true e o f = let g : j ≡ i = grind (arith, nat_tests, e) in let z : o ≡ Some r = sym f ∙ ap (at table) g ∙ is in let w = sym own in rw z (λ k. Some (record { rights = r.1; bytes = w k }))
    go j false e None f = refl
    go j false e (Some t) f = let k = sym (other t (λ g. let a = apart j t f g in grind (arith, nat_tests, e, a))) in λ l. Some (record { rights = t.1; bytes = k l })
