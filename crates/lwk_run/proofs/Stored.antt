-- A number stored into a frame is stored into the page that has it.
use Rattle.hybrid_model.specs.Sides.{Row, looked_up}
use Rattle.isa_model.specs.Memory.{Page, lacks}
use Rattle.lwk_run.specs.Lent.{Stays, has_frame, is_frame}
use Rattle.lwk_space.proofs.BytesRead.{at-row, frame-bytes, lacks-looked, looked-there}
use Rattle.lwk_space.proofs.BytesWritten.{shown-set}
use Rattle.lwk_space.specs.Lacks.{memory}
use Rattle.lwk_space.specs.Rows.{FramesApart, FramesIn}
use Rattle.mck_word.specs.Maps.{Map, at, change_row, put}
use Rattle.mck_word.specs.declared.Access.{Access}
use Rattle.rv64i_user.specs.Places.{bytes_of, page_put, put_bytes, put_in}
use Rattle.std.proofs.Common.{ap, arith, refl, subst, sym, ◌∙◌}
use Rattle.std.proofs.Math.ListN.{length-set}
use Rattle.std.proofs.lemmas.Bool.Decides.{nat_tests}
use Rattle.std.specs.Prelude.{Bool, List, None, Option, Some, [], ◌∷◌, false, is_none, length, nat_lt, option_map, slice_index_or, slice_set, suc, true, zero, ℕ, ◌&&◌, ◌<◌, ◌==◌, ◌^◌, ◌≡◌, ◌≢◌}

both : (a b : Bool) → (a && b) ≡ true → (a ≡ true) × (b ≡ true)
both true true e = (e, e)
both true false e = absurd (cc)
both false b e = absurd (cc)

row-of : (o : Option Row) (k : ℕ) → has_frame o k ≡ true → (w : Row) × (o ≡ Some w) × (w.0.0 ≡ k)
row-of None k h = absurd (cc)
row-of (Some w) k h = let same = (both (w.0.0 == k) (nat_lt k (2 ^ 32)) h).0 in (w, refl, grind (arith, nat_tests, same))

fits-of : (o : Option Row) (k : ℕ) → has_frame o k ≡ true → k < 2 ^ 32
fits-of None k h = absurd (cc)
fits-of (Some w) k h = let fits = (both (w.0.0 == k) (nat_lt k (2 ^ 32)) h).1 in grind (arith, nat_tests, fits)

-- what is looked up in the table is what the memory lacks, and the frame that has the page
pub lacks-seen : (rows table : Map Row) (pages : List (List ℕ)) (a : Access) (page : ℕ) (o : Option Row) → table ≡ rows → o ≡ looked_up (at table page) a → is_none o ≡ lacks (memory rows pages) a page
lacks-seen rows table pages a page o same seen = ap is_none (seen ∙ ap (λ m. looked_up (at m page) a) same) ∙ sym (lacks-looked rows pages a page)

pub held-seen : (rows table : Map Row) (a : Access) (page : ℕ) (w : Row) → table ≡ rows → Some w ≡ looked_up (at table page) a → w.0.0 < 2 ^ 32 → is_frame rows w.0.0 page ≡ true
held-seen rows table a page w same seen l =
    let there = looked-there (at rows page) a w (sym (seen ∙ ap (λ m. looked_up (at m page) a) same)) in
    let own : ((w.0.0 == w.0.0) && nat_lt w.0.0 (2 ^ 32)) ≡ true = grind (arith, nat_tests, l) in
    ap (λ o. has_frame o w.0.0) there ∙ own

set-other : (xs : List (List ℕ)) (k f : ℕ) (b : List ℕ) → k ≢ f → slice_index_or (slice_set xs k b) f [] ≡ slice_index_or xs f []
set-other [] k f b n = refl
set-other (x ∷ xs) zero zero b n = absurd (n refl)
set-other (x ∷ xs) zero (suc f) b n = refl
set-other (x ∷ xs) (suc k) zero b n = refl
set-other (x ∷ xs) (suc k) (suc f) b n = set-other xs k f b (λ e. n (ap suc e))

module _ (rows : Map Row) (pages : List (List ℕ)) (k page : ℕ) (h : is_frame rows k page ≡ true) where
  pub frame-inside : FramesIn rows pages → k < length pages
  frame-inside inside = let r = row-of (at rows page) k h in subst (λ i. i < length pages) r.2 (inside page r.0 r.1)

  pub frame-fits : k < 2 ^ 32
  frame-fits = fits-of (at rows page) k h

  pub bytes-there : FramesIn rows pages → bytes_of (memory rows pages) page ≡ Some (slice_index_or pages k [])
  bytes-there inside =
      let r = row-of (at rows page) k h in
      ap (option_map (λ (g : Page). g.bytes)) (at-row rows pages page r.0 r.1)
      ∙ ap Some (frame-bytes pages r.0.0.0 (inside page r.0 r.1)) ∙ ap (λ f. Some (slice_index_or pages f [])) r.2

  pub page-stored : (off size v : ℕ) → FramesIn rows pages → FramesApart rows
      → memory rows (slice_set pages k (put_bytes (slice_index_or pages k []) off size v)) ≡ put_in (memory rows pages) page off size v
  page-stored off size v inside apart =
      let r = row-of (at rows page) k h in
      let w : Row = r.0 in
      let l = inside page w r.1 in
      ap (λ i. memory rows (slice_set pages i (put_bytes (slice_index_or pages i []) off size v))) (sym r.2)
      ∙ shown-set rows pages page w (put_bytes (slice_index_or pages w.0.0 []) off size v) r.1 apart l
      ∙ ap (λ b. put (memory rows pages) page (record { rights = w.1; bytes = put_bytes b off size v })) (sym (frame-bytes pages w.0.0 l))
      ∙ sym (ap (change_row (memory rows pages) page (page_put off size v)) (at-row rows pages page w r.1))

  pub stays-set : (before : List (List ℕ)) (b : List ℕ) → Stays rows before pages → Stays rows before (slice_set pages k b)
  stays-set before b s =
      let r = row-of (at rows page) k h in
      record {
        others = λ f none. set-other pages k f b (λ same. none page r.0 r.1 (r.2 ∙ same)) ∙ s.others f none;
        len = length-set pages k b ∙ s.len;
      }

  pub inside-set : (b : List ℕ) → FramesIn rows pages → FramesIn rows (slice_set pages k b)
  inside-set b inside p w e = omega (arith, length-set pages k b, inside p w e)
