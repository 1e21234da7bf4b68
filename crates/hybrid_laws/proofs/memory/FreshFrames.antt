-- Frames that an effect hands out: each was free or stood in a row that the effect takes away, nothing refers to it, and it holds zeros.
use Rattle.hybrid_laws.proofs.memory.HandedOut.{CameFrom, WasIn, came-effect}
use Rattle.hybrid_laws.specs.OneProcess.{with_table}
use Rattle.hybrid_model.specs.Claims.{AnswersOther, HandsOutFresh, IsFresh, Unreferenced}
use Rattle.hybrid_model.specs.Coherence.{AnswerCovered}
use Rattle.hybrid_model.specs.Events.{after}
use Rattle.hybrid_model.specs.Globals.{Coherent, Rising, copies, table_of}
use Rattle.hybrid_model.specs.OneProcess.{space_here}
use Rattle.hybrid_model.specs.Pairs.{Pair, here, side_of}
use Rattle.hybrid_model.specs.Sides.{Row, Side}
use Rattle.hybrid_model.specs.Spaces.{Space, after_effect, drop_page, frame_bytes}
use Rattle.hybrid_model.specs.Tallies.{Each, EachRing, if_same}
use Rattle.hybrid_model.specs.declared.events.Event.{Event}
use Rattle.ikc_ring.specs.declared.Msg.TheVariants.{Ack, Answer, Clear, Fault, Interrupt, Reply, Request}
use Rattle.ikc_ring.specs.declared.Msg.{Msg}
use Rattle.kernel_model.specs.MemoryCalls.{Effect}
use Rattle.kernel_model.specs.Pages.{pages_count, zero_page}
use Rattle.kernel_model.specs.Spaces.{each_in}
use Rattle.mck_word.specs.Maps.{Map, at}
use Rattle.mck_word.specs.declared.Frame.{Frame}
use Rattle.page_pins.specs.declared.Pin.{Pin}
use Rattle.std.proofs.Common.{ap, arith, inl, inr, refl, subst, sym, ◌∙◌}
use Rattle.std.proofs.lemmas.Bool.Decides.{nat_tests}
use Rattle.std.specs.Prelude.{Bool, List, None, Some, [], false, if◌then◌else◌, length, true, ℕ, ◌+◌, ◌<◌, ◌==◌, ◌∷◌, ◌≡◌, ◌≢◌, ◌≤◌, ◌⊎◌}

-- ---- rising lists have each number once
above : (f g : ℕ) (fs : List ℕ) → f < g → Rising (g ∷ fs) → copies f (g ∷ fs) ≡ 0
above f g [] l h = grind (arith, nat_tests, l)
above f g (k ∷ fs) l h = let b = h.0 in let a = above f k fs (omega (arith, l, b)) h.1 in let i : if_same f g ≡ 0 = grind (arith, nat_tests, l) in omega (arith, a, i)

pub once : (f : ℕ) (fs : List ℕ) → Rising fs → copies f fs ≤ 1
once f [] h = omega arith
once f (g ∷ []) h = go (f == g)
  where
    go : (b : Bool) → (if b then 1 else 0) + 0 ≤ 1
    go true = omega arith
    go false = omega arith
once f (g ∷ k ∷ fs) h = go (f == g) refl (once f (k ∷ fs) h.1)
  where
    go : (b : Bool) → (f == g) ≡ b → copies f (k ∷ fs) ≤ 1 → copies f (g ∷ k ∷ fs) ≤ 1
    go true e i = let y : f ≡ g = grind (arith, nat_tests, e) in let b = h.0 in let a = above f k fs (omega (arith, y, b)) h.1 in let d : if_same f g ≡ 1 = rw e refl in omega (arith, a, d)
    go false e i = let d : if_same f g ≡ 0 = rw e refl in omega (arith, i, d)

-- nothing of the process refers to page i
abbrev pub NotAnswering : ℕ → ℕ → Msg → Type 0
NotAnswering cleared i (Answer w page number (Some r)) = cleared ≤ number → page ≡ i → ⊥
NotAnswering cleared i _ = Unit {0}

pub record Closed (s : Side) (i : ℕ) : Type 0 where
  pub mirror : at s.linux.mirror i ≡ None
  pub pins : (w : ℕ) (x : Pin) → at s.linux.pins w ≡ Some x → x.page ≡ i → ⊥
  pub answers : EachRing (NotAnswering s.linux.cleared i) s.to_linux

module _ (pair : Pair) (c : Coherent pair) where
  -- what refers to a frame is covered by a row of that frame: where each such row is closed, nothing refers to it
  module _ (f : ℕ) (closed : (q i : ℕ) (r : Row) → table_of pair q i ≡ Some r → r.0.0 ≡ f → Closed (side_of pair q) i) where
    other-answers : (q : ℕ) (m : Msg) → AnswerCovered (table_of pair q) (side_of pair q).linux.cleared m × ((i : ℕ) (r : Row) → table_of pair q i ≡ Some r → r.0.0 ≡ f → NotAnswering (side_of pair q).linux.cleared i m) → AnswersOther (side_of pair q).linux.cleared f m
    other-answers q (Answer w page number (Some r)) h = λ l g. (let k = h.0 l in h.1 page k.row k.there (ap (λ (x : Frame). x.0) k.frame ∙ g) l refl)
    other-answers q (Answer w page number None) h = tt
    other-answers q (Request x) h = tt
    other-answers q (Clear x) h = tt
    other-answers q (Interrupt x place) h = tt
    other-answers q (Reply x code) h = tt
    other-answers q Ack h = tt
    other-answers q (Fault w page a) h = tt

    each-ring : (q : ℕ) (rs : List (List Msg)) → ((i : ℕ) (r : Row) → table_of pair q i ≡ Some r → r.0.0 ≡ f → EachRing (NotAnswering (side_of pair q).linux.cleared i) rs) → EachRing (AnswerCovered (table_of pair q) (side_of pair q).linux.cleared) rs
        → EachRing (AnswersOther (side_of pair q).linux.cleared f) rs
    each-ring q [] h k = tt
    each-ring q (ms ∷ rs) h k = (each ms (λ i r e g. (h i r e g).0) k.0, each-ring q rs (λ i r e g. (h i r e g).1) k.1)
      where
        each : (xs : List Msg) → ((i : ℕ) (r : Row) → table_of pair q i ≡ Some r → r.0.0 ≡ f → Each (NotAnswering (side_of pair q).linux.cleared i) xs) → Each (AnswerCovered (table_of pair q) (side_of pair q).linux.cleared) xs → Each (AnswersOther (side_of pair q).linux.cleared f) xs
        each [] h k = tt
        each (x ∷ xs) h k = (other-answers q x (k.0, (λ i r e g. (h i r e g).0)), each xs (λ i r e g. (h i r e g).1) k.1)

    pub unreferenced : (q : ℕ) → Unreferenced (side_of pair q) f
    unreferenced q = record {
      mirror = λ i r e g. (let k = (c.whole q).covered.mirror_rows i r e in let n = sym ((closed q i k.row k.there (ap (λ (x : Frame). x.0) k.frame ∙ g)).mirror) ∙ e in grind (arith, n));
      pins = λ w x e g. (let k = (c.whole q).covered.pin_rows w x e in (closed q x.page k.row k.there (ap (λ (y : Frame). y.0) k.frame ∙ g)).pins w x e refl);
      answers = each-ring q (side_of pair q).to_linux (λ i r e g. (closed q i r e g).answers) (c.whole q).covered.answers;
    }

  pub free-alone : (f : ℕ) → 1 ≤ copies f pair.free → (q i : ℕ) (r : Row) → table_of pair q i ≡ Some r → r.0.0 ≡ f → ⊥
  free-alone f l q i r e g = let a = c.frames.not_free q i r e in let b = ap (λ (n : ℕ). copies n pair.free) g in omega (arith, a, b, l)

  pub free-once : (f : ℕ) → 1 ≤ copies f pair.free → copies f pair.free ≡ 1
  free-once f l = let a = once f pair.free c.frames.rising in omega (arith, a, l)

  module _ (ev : Event) (later : Coherent (after pair ev)) (p : ℕ) (eff : Effect) (l : pages_count eff.added ≤ length (each_in drop_page eff.dropped (space_here (here pair p))).free)
      (tables : (x i : ℕ) → table_of (after pair ev) x i ≡ with_table (table_of pair) p (at (after_effect eff (space_here (here pair p))).table) x i)
      (bytes : (after pair ev).frames ≡ (after_effect eff (space_here (here pair p))).frames)
      (closed : (i : ℕ) (r : Row) → table_of pair p i ≡ Some r → eff.dropped.lo ≤ i → i < eff.dropped.lo + pages_count eff.dropped → Closed (side_of pair p) i) where
    abbrev sp : Space
    sp = space_here (here pair p)

    zeros : (f : ℕ) → frame_bytes (after_effect eff sp).frames f ≡ zero_page → frame_bytes (after pair ev).frames f ≡ zero_page
    zeros f e = ap (λ (m : Map (List ℕ)). frame_bytes m f) bytes ∙ e

    from-free : (x i f : ℕ) → 1 ≤ copies f pair.free → frame_bytes (after pair ev).frames f ≡ zero_page → IsFresh pair ev x i f
    from-free x i f k z = record { was_free = inl (free-once f k); unreferenced = unreferenced f (λ q j r e g. absurd (free-alone f k q j r e g)); bytes = inl z }

    from-row : (i : ℕ) (row : Row) → table_of (after pair ev) p i ≡ Some row → ((r : Row) → table_of pair p i ≡ Some r → r.0.0 ≢ row.0.0) → WasIn eff.dropped.lo (eff.dropped.lo + pages_count eff.dropped) sp row.0.0 → frame_bytes (after pair ev).frames row.0.0 ≡ zero_page → IsFresh pair ev p i row.0.0
    from-row i row there new w z = record {
      was_free = inr (record { process = p; page = w.0; row = w.1; there = w.2; frame = w.3; gone = gone });
      unreferenced = unreferenced row.0.0 only;
      bytes = inl z;
    }
      where
        gone : (r : Row) → table_of (after pair ev) p w.0 ≡ Some r → r.0.0 ≢ row.0.0
        gone r e g =
            let a = later.frames.apart p w.0 r p i row e there (λ k. record { 0 = g k }) in
            new w.1 (ap (table_of pair p) (sym a.1) ∙ w.2) w.3

        only : (q j : ℕ) (r : Row) → table_of pair q j ≡ Some r → r.0.0 ≡ row.0.0 → Closed (side_of pair q) j
        only q j r e g =
            let h = g ∙ sym w.3 in
            let a = c.frames.apart q j r p w.0 w.1 e w.2 (λ k. record { 0 = h k }) in
            subst (λ (x : ℕ). Closed (side_of pair x) j) (sym a.0) (subst (λ (x : ℕ). Closed (side_of pair p) x) (sym a.1) (closed w.0 w.1 w.2 w.4 w.5))

    came : (i : ℕ) (row : Row) → table_of (after pair ev) p i ≡ Some row → ((r : Row) → table_of pair p i ≡ Some r → r.0.0 ≢ row.0.0) → CameFrom eff sp l i row → IsFresh pair ev p i row.0.0
    came i row there new (inl o) = absurd (new o.0 o.1 (ap (λ (x : Frame). x.0) o.2))
    came i row there new (inr k) = by k.0
      where
        by : (1 ≤ copies row.0.0 sp.free) ⊎ WasIn eff.dropped.lo (eff.dropped.lo + pages_count eff.dropped) sp row.0.0 → IsFresh pair ev p i row.0.0
        by (inl n) = from-free p i row.0.0 n (zeros row.0.0 k.1)
        by (inr w) = from-row i row there new w (zeros row.0.0 k.1)

    pub fresh-effect : HandsOutFresh pair ev
    fresh-effect x i f h = subst (λ (y : ℕ). IsFresh pair ev x i y) h.frame (go (x == p) refl)
      where
        new : (r : Row) → table_of pair x i ≡ Some r → r.0.0 ≢ h.row.0.0
        new r e g = h.new r e (g ∙ h.frame)

        go : (b : Bool) → (x == p) ≡ b → IsFresh pair ev x i h.row.0.0
        go false d = absurd (new h.row (sym (ap (λ (z : Bool). (if z then at (after_effect eff sp).table else table_of pair x) i) d) ∙ sym (tables x i) ∙ h.there) refl)
        go true d =
            let y : x ≡ p = grind (arith, nat_tests, d) in
            let there : table_of (after pair ev) p i ≡ Some h.row = ap (λ (z : ℕ). table_of (after pair ev) z i) (sym y) ∙ h.there in
            let own : at (after_effect eff sp).table i ≡ Some h.row = sym (ap (λ (z : Bool). (if z then at (after_effect eff sp).table else table_of pair x) i) d) ∙ sym (tables x i) ∙ h.there in
            subst (λ (z : ℕ). IsFresh pair ev z i h.row.0.0) (sym y)
            (came i h.row there (λ r e. new r (ap (λ (z : ℕ). table_of pair z i) y ∙ e)) (came-effect eff sp l i h.row own))
