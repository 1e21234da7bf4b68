-- What a trap does to the node as a whole, where it makes no process.
use Rattle.hybrid_laws.proofs.act.Act.{now}
use Rattle.hybrid_laws.proofs.maps.Lookups.{each-at}
use Rattle.hybrid_laws.proofs.maps.LowestFree.{lowest-free}
use Rattle.hybrid_laws.proofs.maps.Sums.{counted_in, total-put}
use Rattle.hybrid_laws.proofs.node.Goes.{Goes}
use Rattle.hybrid_laws.proofs.node.Sound.{Sound, goes-sound, goes-stays, same-ended, same-instructions, same-made, stopped-less}
use Rattle.hybrid_laws.specs.Stopped.{stops}
use Rattle.hybrid_model.specs.Globals.{Sleeping}
use Rattle.hybrid_model.specs.Tallies.{Each, as_number}
use Rattle.kernel_model.specs.CloneCalls.{with_thread}
use Rattle.kernel_model.specs.Nodes.{Node, Thread, change_thread, has_process, instructions_in_all, is_ended, is_stopped, is_there, lowest_free_place, threads_of}
use Rattle.mck_word.specs.Lists.{count_from, find_or, lowest_not_in, member}
use Rattle.mck_word.specs.MapLaws.{at-put}
use Rattle.mck_word.specs.Maps.{at, change_row, entries, total, values}
use Rattle.std.proofs.Common.{ap, arith, inl, inr, refl, subst, sym, ◌∙◌}
use Rattle.std.proofs.lemmas.Bool.Decides.{nat_tests}
use Rattle.std.specs.Prelude.{Bool, List, None, Option, Some, [], cond, false, filter, find, length, map, not, suc, true, unwrap_or, zero, ℕ, ◌+◌, ◌<◌, ◌==◌, ◌||◌, ◌∷◌, ◌≡◌, ◌≤◌, ◌⊎◌}

-- the node is sound after it, and new threads are paid for by threads that are Stopped no longer
pub record NodeSteps (a b : Node) : Type 0 where
  pub sound : Sound b
  pub frames : b.frame_count ≡ a.frame_count
  pub limit : b.limit ≡ a.limit
  pub files : b.files ≡ a.files
  pub instructions : instructions_in_all b ≡ instructions_in_all a
  pub made : (q : ℕ) → has_process b q ≡ has_process a q
  pub ended : (q : ℕ) → is_ended b q ≡ is_ended a q
  pub numbers : a.next_number ≤ b.next_number
  pub paid : b.next_number + total stops b.threads ≤ a.next_number + total stops a.threads

pub steps-of : (a b : Node) → Sound a → Goes a b → Sleeping b → NodeSteps a b
steps-of a b s g sleep =
    let stays = goes-stays a b g in
    record {
      sound = goes-sound a b g s sleep;
      frames = g.frames;
      limit = g.limit;
      files = g.files;
      instructions = same-instructions a b g;
      made = same-made a b stays;
      ended = same-ended a b stays;
      numbers = (let n = g.next in omega (arith, n));
      paid = (let n = g.next in let l = stopped-less a b g in omega (arith, n, l));
    }

pub steps-then : (a b c : Node) → NodeSteps a b → NodeSteps b c → NodeSteps a c
steps-then a b c f g = record {
  sound = g.sound;
  frames = g.frames ∙ f.frames;
  limit = g.limit ∙ f.limit;
  files = g.files ∙ f.files;
  instructions = g.instructions ∙ f.instructions;
  made = λ q. g.made q ∙ f.made q;
  ended = λ q. g.ended q ∙ f.ended q;
  numbers = (let x = f.numbers in let y = g.numbers in omega (arith, x, y));
  paid = (let x = f.paid in let y = g.paid in omega (arith, x, y));
}

-- ---- a thread that clone makes
find-bound : (test : ℕ → Bool) (k n : ℕ) → find_or test (count_from k n) (k + n) ≤ k + n
find-bound test k zero = omega arith
find-bound test k (suc n) = go (test k) (find-bound test (k + 1) n)
  where
    go : (b : Bool) → find_or test (count_from (k + 1) n) (k + 1 + n) ≤ k + 1 + n → unwrap_or (cond b (Some k) (find test (count_from (k + 1) n))) (k + suc n) ≤ k + suc n
    go true i = omega arith
    go false i = let e : k + 1 + n ≡ k + suc n = omega arith in subst (λ (m : ℕ). unwrap_or (find test (count_from (k + 1) n)) m ≤ m) e i

pub lowest-bound : (ns : List ℕ) → lowest_not_in ns ≤ length ns
lowest-bound ns = let e : 0 + length ns ≡ length ns = omega arith in subst (λ (m : ℕ). find_or (λ n. not (member n ns)) (count_from 0 (length ns)) m ≤ m) e (find-bound (λ n. not (member n ns)) 0 (length ns))

length-map : {A B : Type 0} (f : A → B) (xs : List A) → length (map f xs) ≡ length xs
length-map f [] = refl
length-map f (x ∷ xs) = ap (λ n. suc n) (length-map f xs)

-- a row's value is among the values
each-value : (P : Thread → Type 0) (es : List (ℕ × Thread)) → Each (λ (e : ℕ × Thread). P e.1) es → Each P (map (λ (e : ℕ × Thread). e.1) es)
each-value P [] h = tt
each-value P (e ∷ es) h = (h.0, each-value P es h.1)

-- a number that is not among the places of a process's threads is the place of none
place-none : (p n : ℕ) (xs : List Thread) → member n (map (λ (x : Thread). x.place) (filter (λ (x : Thread). x.process == p) xs)) ≡ false → Each (λ (x : Thread). x.process ≡ p → x.place ≡ n → ⊥) xs
place-none p n [] e = tt
place-none p n (x ∷ xs) e = go (x.process == p) refl e (place-none p n xs)
  where
    go : (b : Bool) → (x.process == p) ≡ b → member n (map (λ (y : Thread). y.place) (cond b (x ∷ filter (λ (y : Thread). y.process == p) xs) (filter (λ (y : Thread). y.process == p) xs))) ≡ false
        → (member n (map (λ (y : Thread). y.place) (filter (λ (y : Thread). y.process == p) xs)) ≡ false → Each (λ (y : Thread). y.process ≡ p → y.place ≡ n → ⊥) xs) → Each (λ (y : Thread). y.process ≡ p → y.place ≡ n → ⊥) (x ∷ xs)
    go false f k i = ((λ g h. grind (arith, nat_tests, f, g)), i k)
    go true f k i = (same (x.place == n) refl k, rest (x.place == n) k)
      where
        same : (b : Bool) → (x.place == n) ≡ b → (b || member n (map (λ (y : Thread). y.place) (filter (λ (y : Thread). y.process == p) xs))) ≡ false → x.process ≡ p → x.place ≡ n → ⊥
        same true f k g h = grind (arith, k)
        same false f k g h = grind (arith, nat_tests, f, h)

        rest : (b : Bool) → (b || member n (map (λ (y : Thread). y.place) (filter (λ (y : Thread). y.process == p) xs))) ≡ false → Each (λ (y : Thread). y.process ≡ p → y.place ≡ n → ⊥) xs
        rest true k = absurd (grind (arith, k))
        rest false k = i k

value-of : (P : Thread → Type 0) (es : List (ℕ × Thread)) → Each P (map (λ (e : ℕ × Thread). e.1) es) → Each (λ (e : ℕ × Thread). P e.1) es
value-of P [] h = tt
value-of P (e ∷ es) h = (h.0, value-of P es h.1)

module _ (a : Node) (s : Sound a) (t : ℕ) (x : Thread) (there : at a.threads t ≡ Some x) (few : length (threads_of a x.process) < 16) (y : Thread) (process : y.process ≡ x.process) (place : y.place ≡ lowest_free_place a x.process) (not_stopped : is_stopped y.does ≡ false) where
  abbrev n : ℕ
  n = a.next_number

  abbrev more : Node
  more = with_thread y a

  -- a row after is the new one, or was there
  new-or-old : (u : ℕ) (z : Thread) → at more.threads u ≡ Some z → ((u ≡ n) × (z ≡ y)) ⊎ (at a.threads u ≡ Some z)
  new-or-old u z e = go (u == n) refl (sym (at-put a.threads n y u) ∙ e)
    where
      go : (b : Bool) → (u == n) ≡ b → cond b (Some y) (at a.threads u) ≡ Some z → ((u ≡ n) × (z ≡ y)) ⊎ (at a.threads u ≡ Some z)
      go true f k = inl (grind (arith, nat_tests, f), (let g : y ≡ z = cc in sym g))
      go false f k = inr k

  fresh : at a.threads n ≡ None
  fresh = go (at a.threads n) refl
    where
      go : (o : Option Thread) → at a.threads n ≡ o → o ≡ None
      go None e = refl
      go (Some z) e = absurd (let l = s.threads_below n z e in omega (arith, l))

  old-same : (u : ℕ) (z : Thread) → at a.threads u ≡ Some z → at more.threads u ≡ Some z
  old-same u z e = at-put a.threads n y u ∙ (let l = s.threads_below u z e in let d : (u == n) ≡ false = grind (arith, nat_tests, l) in ap (λ b. cond b (Some y) (at a.threads u)) d) ∙ e

  places-differ : (u : ℕ) (z : Thread) → at a.threads u ≡ Some z → z.process ≡ x.process → z.place ≡ y.place → ⊥
  places-differ u z e p q =
      let free = lowest-free (map (λ (w : Thread). w.place) (threads_of a x.process)) in
      let all = place-none x.process (lowest_free_place a x.process) (values a.threads) free in
      each-at (λ (w : ℕ × Thread). w.1.process ≡ x.process → w.1.place ≡ lowest_free_place a x.process → ⊥) a.threads u z (value-of (λ (w : Thread). w.process ≡ x.process → w.place ≡ lowest_free_place a x.process → ⊥) (entries a.threads) all) e p (q ∙ place)

  pub more-sound : Sound more
  more-sound = record {
    threads_below = λ u z e. elim (new-or-old u z e) [ inl w ↦ (let g = w.0 in omega (arith, g)) | inr w ↦ (let l = s.threads_below u z w in omega (arith, l)) ];
    threads_there = λ u z e. elim (new-or-old u z e) [ inl w ↦ ap (is_there a) (ap (λ (v : Thread). v.process) w.1 ∙ process) ∙ s.threads_there t x there | inr w ↦ s.threads_there u z w ];
    processes_below = λ q z e. (let l = s.processes_below q z e in omega (arith, l));
    sleeping = record { asleep = λ k z e. (let w = s.sleeping.asleep k z e in (w.0, old-same z.thread w.0 w.1, w.2, w.3)); once = s.sleeping.once };
    places = record {
      below = λ u z e. elim (new-or-old u z e) [
        | inl w ↦ (let b = lowest-bound (map (λ (v : Thread). v.place) (threads_of a x.process)) in let l = length-map (λ (v : Thread). v.place) (threads_of a x.process) in let p = ap (λ (v : Thread). v.place) w.1 ∙ place in omega (arith, b, l, p, few))
        | inr w ↦ s.places.below u z w
      ];
      apart = λ u v z w e f p q. elim (new-or-old u z e) [
        | inl i ↦ elim (new-or-old v w f) [
          | inl j ↦ i.0 ∙ sym j.0
          | inr j ↦ absurd (places-differ v w j (sym p ∙ ap (λ (m : Thread). m.process) i.1 ∙ process) (sym q ∙ ap (λ (m : Thread). m.place) i.1))
        ]
        | inr i ↦ elim (new-or-old v w f) [
          | inl j ↦ absurd (places-differ u z i (p ∙ ap (λ (m : Thread). m.process) j.1 ∙ process) (q ∙ ap (λ (m : Thread). m.place) j.1))
          | inr j ↦ s.places.apart u v z w i j p q
        ]
      ];
    };
    heaps = s.heaps;
  }

  pub more-stops : total stops more.threads ≡ total stops a.threads
  more-stops =
      let p = total-put stops a.threads n y in
      let f = ap (counted_in stops) fresh in
      let z : stops y ≡ 0 = ap as_number not_stopped in
      omega (arith, p, f, z)

-- a thread that is Stopped no longer: one fewer
pub stops-fewer : (a : Node) (t : ℕ) (x : Thread) (f : Thread → Thread) → at a.threads t ≡ Some x → is_stopped x.does ≡ true → is_stopped (f x).does ≡ false → total stops (change_thread t f a).threads + 1 ≡ total stops a.threads
stops-fewer a t x f there was now =
    let c = ap (change_row a.threads t f) there in
    let p = total-put stops a.threads t (f x) in
    let q = ap (counted_in stops) there in
    let r : stops x ≡ 1 = ap as_number was in
    let s : stops (f x) ≡ 0 = ap as_number now in
    let m = ap (total stops) c in
    omega (arith, p, q, r, s, m)
