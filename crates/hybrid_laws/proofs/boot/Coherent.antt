-- The boot of a prepared job for which the frames suffice: it is coherent, and shows the boot of the one-kernel machine.
use Rattle.kernel_model.specs.OneKernel as One
use Rattle.hybrid_laws.proofs.boot.Files.{boot-calls}
use Rattle.hybrid_laws.proofs.boot.Pages.{length-from}
use Rattle.hybrid_laws.proofs.boot.Sides.{Grown, Guests, all-guests, by-guest-at, by-guest-is, fresh_side, rows_of, tables_in}
use Rattle.hybrid_laws.proofs.journal.Journal.{Begins}
use Rattle.hybrid_laws.proofs.maps.Tests.{some-is}
use Rattle.hybrid_laws.proofs.memory.Copying.{or_else}
use Rattle.hybrid_laws.proofs.memory.NewSide.{new_side-keeps, no-at}
use Rattle.hybrid_laws.proofs.memory.Written.{each-entry}
use Rattle.hybrid_laws.proofs.node.Sound.{stopped-total}
use Rattle.hybrid_laws.specs.Stopped.{stops}
use Rattle.hybrid_model.specs.Boot.{Booted, boot, booted, shortage, shortage_from, zero_frames}
use Rattle.hybrid_model.specs.Coherence.{OfProcess}
use Rattle.hybrid_model.specs.Globals.{Coherent, Empty, HeapHolds, NumbersPaid, Rising, copies, description_held, holders, is_number, ring_number}
use Rattle.hybrid_model.specs.Pairs.{Pair, side_of}
use Rattle.hybrid_model.specs.Shown.{one, shown_own, status_of}
use Rattle.hybrid_model.specs.Sides.{Caller, Row, Side, new_side}
use Rattle.hybrid_model.specs.Tallies.{Each, as_number, if_same}
use Rattle.job_model.specs.Prepared.{IsPrepared}
use Rattle.job_model.specs.declared.image.Image.{Image}
use Rattle.job_model.specs.declared.job.Job.{Job}
use Rattle.kernel_model.specs.Layout.{heap_base_of, segment_end}
use Rattle.kernel_model.specs.MemoryCalls.{most_heap}
use Rattle.kernel_model.specs.Nodes.{Process, Thread, has_ended, has_process, is_called, is_ended, is_stopped, is_there, no_process}
use Rattle.kernel_model.specs.OneKernel.{Guest, Own, boot_node, by_guest, first_free_number, guest_own, guest_process, guest_thread, guests_from, guests_of, rows_of_guests}
use Rattle.kernel_model.specs.Pages.{page_end, page_size}
use Rattle.kernel_model.specs.declared.Does.TheVariants.{Ready}
use Rattle.kernel_model.specs.declared.Does.{Does}
use Rattle.kernel_model.specs.declared.Life.TheVariants.{Living}
use Rattle.mck_word.specs.Lists.{count_from}
use Rattle.mck_word.specs.MapLaws.{at-collect, at-none, same_rows}
use Rattle.mck_word.specs.Maps.{Map, and_then, at, each, entries, no_rows, total}
use Rattle.std.proofs.Common.{ap, arith, refl, subst, sym, ◌∙◌}
use Rattle.std.proofs.Math.Nat.{mul-mod_left}
use Rattle.std.proofs.lemmas.Bool.Decides.{nat_tests}
use Rattle.std.proofs.lemmas.List.Sums.{sum_by-cons}
use Rattle.std.proofs.lemmas.List.{length-replicate}
use Rattle.std.specs.Prelude.{Bool, List, None, Option, Some, [], count_by, false, fold, is_some, length, max, not, suc, sum_by, true, unwrap_or, zero, ℕ, ◌&&◌, ◌+◌, ◌-◌, ◌<◌, ◌==◌, ◌∷◌, ◌≡◌, ◌≤◌}

-- ---- sums and rows of maps that have nothing to count
pub zero-total : {V : Type 0} (f : V → ℕ) (m : Map V) → ((k : ℕ) (v : V) → at m k ≡ Some v → f v ≡ 0) → total f m ≡ 0
zero-total {V} f m h = go (entries m) (each-entry m)
  where
    go : (es : List (ℕ × V)) → Each (λ (x : ℕ × V). at m x.0 ≡ Some x.1) es → sum_by (λ (e : ℕ × V). f e.1) es ≡ 0
    go [] k = refl
    go (x ∷ xs) k = let a = h x.0 x.1 k.0 in let b = go xs k.1 in let c = sum_by-cons (λ (e : ℕ × V). f e.1) x xs in omega (arith, a, b, c)

no-entries : {V : Type 0} (m : Map V) → ((k : ℕ) → at m k ≡ None) → entries m ≡ []
no-entries {V} m h = go (entries m) (each-entry m)
  where
    go : (es : List (ℕ × V)) → Each (λ (x : ℕ × V). at m x.0 ≡ Some x.1) es → es ≡ []
    go [] k = refl
    go (x ∷ xs) k = absurd (let a = sym (h x.0) ∙ k.0 in grind (arith, a))

each-is : {V W : Type 0} (f : V → W) (m : Map V) (q : ℕ) → is_some (at (each f m) q) ≡ is_some (at m q)
each-is {V} f m q = ap is_some (at-collect (λ k v. Some (f v)) m q) ∙ go (at m q)
  where
    go : (o : Option V) → is_some (and_then o (λ v. Some (f v))) ≡ is_some o
    go None = refl
    go (Some v) = refl

more-than : (a b : ℕ) → a ≤ a + b
more-than a b = omega arith

-- ---- the free frames at first
rising-from : (n k : ℕ) → Rising (count_from n k)
rising-from n zero = tt
rising-from n (suc zero) = tt
rising-from n (suc (suc k)) = (omega arith, rising-from (n + 1) (suc k))

copies-from : (f n k : ℕ) → 1 ≤ copies f (count_from n k) → f < n + k
copies-from f n zero l = absurd (omega (arith, l))
copies-from f n (suc k) l = go (f == n) refl (copies-from f (n + 1) k)
  where
    go : (b : Bool) → (f == n) ≡ b → (1 ≤ copies f (count_from (n + 1) k) → f < n + 1 + k) → f < n + suc k
    go true e i = let y : f ≡ n = grind (arith, nat_tests, e) in omega (arith, y)
    go false e i = let c : if_same f n ≡ 0 = rw e refl in let r = i (omega (arith, l, c)) in omega (arith, r)

abbrev pub start : Job → Booted
start job = record { sides = no_rows; frames = zero_frames (count_from 0 job.frames); free = count_from 0 job.frames }

grown-start : (job : Job) → Grown 1 job.frames job.rings (start job)
grown-start job = record {
  frames = record { not_free = λ p i r e. absurd (no-row p i r e); apart = λ p i r q j t e f g. absurd (no-row p i r e); rising = rising-from 0 job.frames };
  rows_below = λ p i r e. absurd (no-row p i r e);
  free_below = λ f l. (let a = copies-from f 0 job.frames l in omega (arith, a));
  counted = (let a = length-from 0 job.frames in let b = zero-total rows_of no_rows (λ k v e. absurd (no-at k v e)) in omega (arith, a, b));
  new = λ q l. at-none q;
  fresh = λ q s e. absurd (no-at q s e);
}
  where
    no-row : (p i : ℕ) (r : Row) → tables_in no_rows p i ≡ Some r → ⊥
    no-row p i r e = no-at i r (sym (ap (λ (o : Option Side). at (unwrap_or o (new_side 0)).lwk.table i) (at-none p)) ∙ e)

module _ (job : Job) (imgs : List Image) (prepared : IsPrepared job imgs) (enough : shortage job imgs ≡ None) where
  abbrev gs : List Guest
  gs = guests_of job imgs

  abbrev z : Booted
  z = booted job imgs

  abbrev pair : Pair
  pair = boot job imgs

  guests : Guests (guests_of job imgs) 1 job.frames job.rings (start job) (booted job imgs)
  unfolding guests_of
  guests = all-guests job.guests imgs 1 job.frames job.rings (start job) (grown-start job) (ap (λ (n : ℕ). shortage_from n (guests_from 1 job.guests imgs)) (length-from 0 job.frames) ∙ enough)

  by-number : {V : Type 0} (f : Guest → V) (q : ℕ) (v : V) → at (by_guest f (guests_of job imgs)) q ≡ Some v → (g : Guest) × (f g ≡ v) × (g.number ≡ q) × (1 ≤ q) × (q < 1 + length job.guests)
  unfolding guests_of
  by-number f q v e = by-guest-at f 1 job.guests imgs q v e

  -- a side is a fresh one
  side-is : (p : ℕ) → (n : ℕ) × (table : Map Row) × (side_of pair p ≡ fresh_side n table)
  side-is p = go (at z.sides p) refl
    where
      go : (o : Option Side) → at z.sides p ≡ o → (n : ℕ) × (table : Map Row) × (side_of pair p ≡ fresh_side n table)
      go None e = (0, no_rows, ap (λ (o : Option Side). unwrap_or o (new_side 0)) e)
      go (Some s) e = (job.rings, s.lwk.table, ap (λ (o : Option Side). unwrap_or o (new_side 0)) e ∙ guests.grown.fresh p s e)

  shown-is : (q : ℕ) → at (each (shown_own z.frames) z.sides) q ≡ at (by_guest guest_own gs) q
  shown-is q = guests.shown q ∙ ap (or_else (at (by_guest guest_own gs) q)) (at-collect (λ k v. Some (shown_own (start job).frames v)) no_rows q ∙ ap (λ o. and_then o (λ v. Some (shown_own (start job).frames v))) (at-none q)) ∙ go (at (by_guest guest_own gs) q)
    where
      go : (o : Option Own) → or_else o None ≡ o
      go None = refl
      go (Some v) = refl

  pub boots : one (boot job imgs) ≡ One.boot job imgs
  boots =
      let a = same_rows (each (shown_own z.frames) z.sides) (by_guest guest_own gs) shown-is in
      let b : length z.free ≡ job.frames - rows_of_guests gs = (let l = guests.left in let n = length-from 0 job.frames in omega (arith, l, n)) in
      λ i. record { node = boot_node job imgs; own = a i; free = b i }

  is-ready : (u : ℕ) (x : Thread) → at pair.node.threads u ≡ Some x → x.does ≡ Ready
  is-ready u x e = let r = by-number guest_thread u x e in sym (ap (λ (y : Thread). y.does) r.1)

  is-own : (u : ℕ) (x : Thread) → at pair.node.threads u ≡ Some x → x.process ≡ u
  is-own u x e = let r = by-number guest_thread u x e in sym (ap (λ (y : Thread). y.process) r.1) ∙ r.2

  is-placed : (u : ℕ) (x : Thread) → at pair.node.threads u ≡ Some x → x.place ≡ 0
  is-placed u x e = let r = by-number guest_thread u x e in sym (ap (λ (y : Thread). y.place) r.1)

  lives-on : (p : ℕ) (x : Process) → at pair.node.processes p ≡ Some x → x.life ≡ Living
  lives-on p x e = let r = by-number guest_process p x e in sym (ap (λ (y : Process). y.life) r.1)

  not-ended : (p : ℕ) (x : Process) → at pair.node.processes p ≡ Some x → is_ended pair.node p ≡ false
  not-ended p x e = ap (λ (o : Option Process). has_ended (unwrap_or o no_process).life) e ∙ ap has_ended (lives-on p x e)

  is-made : (p : ℕ) (x : Process) → at pair.node.processes p ≡ Some x → is_there pair.node p ≡ true
  is-made p x e = (λ i. is_some (e i) && not (not-ended p x e i))

  few : (q : ℕ) → q < 1 + length job.guests → q < first_free_number
  few q l = let m = prepared.guests.1 in omega (arith, l, m)

  sides-made : (p : ℕ) → is_some (at z.sides p) ≡ has_process pair.node p
  sides-made p = sym (each-is (shown_own z.frames) z.sides p) ∙ ap is_some (shown-is p) ∙ by-guest-is guest_own guest_process gs p

  whole : (p : ℕ) → OfProcess p (side_of pair p) pair.node pair.workers (ring_number pair)
  whole p = let s = side-is p in
      subst (λ (x : Side). OfProcess p x pair.node pair.workers (ring_number pair)) (sym s.2) (new_side-keeps p s.0 s.1 pair.node pair.workers (ring_number pair) (λ u x e own. ap is_called (is-ready u x e)))

  nothing-new : Empty (new_side 0)
  nothing-new = record { table = refl; mirror = refl; pins = refl; round = refl; to_linux = refl; to_lwk = refl; noted = refl; workers = refl }

  ended : (p : ℕ) → is_ended pair.node p ≡ true → Empty (side_of pair p)
  ended p h = go (at z.sides p) refl (at pair.node.processes p) refl
    where
      go : (o : Option Side) → at z.sides p ≡ o → (x : Option Process) → at pair.node.processes p ≡ x → Empty (side_of pair p)
      go None e x f = subst Empty (sym (ap (λ (o : Option Side). unwrap_or o (new_side 0)) e)) nothing-new
      go (Some s) e None f = absurd (let a = sym (ap is_some e) ∙ sides-made p ∙ ap is_some f in grind (arith, a))
      go (Some s) e (Some x) f = absurd (let a = sym (not-ended p x f) ∙ h in grind (arith, a))

  no-caller-of : (p t : ℕ) (x : Caller) → at (side_of pair p).lwk.callers t ≡ Some x → ⊥
  no-caller-of p t x e = let s = side-is p in no-at t x (ap (λ (y : Side). at y.lwk.callers t) (sym s.2) ∙ e)

  holders-none : (d q : ℕ) (s : Side) → at z.sides q ≡ Some s → holders d s ≡ 0
  holders-none d q s e =
      let a = guests.grown.fresh q s e in
      let b = no-entries (no_rows {V = Caller}) (λ k. at-none k) in
      ap (holders d) a ∙ ap (count_by (λ (x : ℕ × Caller). is_number d (description_held (status_of (fresh_side job.rings s.lwk.table) x.1.request)))) b

  numbers : NumbersPaid pair
  numbers =
      let a = zero-total (λ (s : Side). s.book.next - 1) z.sides (λ q s e. ap (λ (x : Side). x.book.next - 1) (guests.grown.fresh q s e)) in
      let b = stopped-total pair.node.threads in
      let c = zero-total stops pair.node.threads (λ u x e. ap (λ (y : Does). as_number (is_stopped y)) (is-ready u x e)) in
      let d = zero-total (λ (x : Process). x.instructions) pair.node.processes (λ p x e. (let r = by-number guest_process p x e in sym (ap (λ (y : Process). y.instructions) r.1))) in
      record { paid = omega (arith, a, b, c); limit = omega (arith, d) }

  pub boot-coherent : Coherent (boot job imgs)
  boot-coherent = record {
    whole = whole;
    frames = guests.grown.frames;
    counted = record { rows_below = guests.grown.rows_below; free_below = guests.grown.free_below; counted = guests.grown.counted };
    ended = ended;
    turns = λ e t f. absurd (no-at e t f);
    rings = record { cores = prepared.cores.0; rings = prepared.rings.0; each = λ p s e. ap (λ (x : Side). length x.to_linux) (guests.grown.fresh p s e) ∙ length-replicate job.rings [] };
    held = λ d. boot-calls job d ∙ sym (zero-total (holders d) z.sides (holders-none d));
    calls = λ p t x e. absurd (no-caller-of p t x e);
    known = record {
      threads_below = λ u x e. (let r = by-number guest_thread u x e in few u r.4);
      threads_there = λ u x e. threads-there u x e;
      processes_below = λ p x e. (let r = by-number guest_process p x e in few p r.4);
      sides_are = sides-made;
    };
    sleeping = record { asleep = λ k s e. absurd (grind (arith, e)); once = λ t. omega arith };
    places = record {
      below = λ u x e. (let a = is-placed u x e in omega (arith, a));
      apart = λ t u x y e f g h. sym (is-own t x e) ∙ g ∙ is-own u y f;
    };
    heaps = λ p x e. (let r = by-number guest_process p x e in subst HeapHolds r.1 (record { aligned = mul-mod_left (page_end (fold (λ a s. max a (segment_end s)) 0 r.0.image.segments)) page_size; below = more-than (heap_base_of r.0.image) most_heap }));
    numbers = numbers;
  }
    where
      threads-there : (u : ℕ) (x : Thread) → at pair.node.threads u ≡ Some x → is_there pair.node x.process ≡ true
      threads-there u x e =
          let a : is_some (at pair.node.processes u) ≡ true = sym (by-guest-is guest_thread guest_process gs u) ∙ ap is_some e in
          let y = some-is (at pair.node.processes u) a in
          ap (is_there pair.node) (is-own u x e) ∙ is-made u y.0 y.1

  pub begins : Begins job imgs
  begins = record {
    boots = boots;
    coherent = boot-coherent;
    lasting = record { workers = prepared.workers.0; told = λ p t c e m. absurd (no-caller-of p t c e) };
    first = λ p. (let s = side-is p in ap (λ (x : Side). x.book) s.2);
  }
