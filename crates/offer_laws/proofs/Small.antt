-- What a legal journal of a prepared job keeps small: cores, workers and rings, the processes, the limit, and with it every number that is given; where heaps begin, and what changes map.
use Rattle.hybrid_model.specs.declared.events.Event.TheVariants as Events
use Rattle.hybrid_laws.proofs.calls.Last.{born-is}
use Rattle.hybrid_laws.proofs.every.Event.{whole_event}
use Rattle.hybrid_laws.proofs.maps.Tests.{both, some-is}
use Rattle.hybrid_laws.proofs.maps.Totals.{entries-least}
use Rattle.hybrid_laws.proofs.states.Pair.{has-side, there-has}
use Rattle.hybrid_model.specs.Boot.{boot}
use Rattle.hybrid_model.specs.Events.{after, after_here, may, may_here, process_of_event}
use Rattle.hybrid_model.specs.Globals.{Coherent}
use Rattle.hybrid_model.specs.Journals.{may_all, state}
use Rattle.hybrid_model.specs.OneProcess.{view_here}
use Rattle.hybrid_model.specs.Trap.{after_trap, trapped}
use Rattle.hybrid_model.specs.Pairs.{Here, Pair, here, with_born}
use Rattle.hybrid_model.specs.Sides.{Side, new_side}
use Rattle.hybrid_model.specs.declared.events.Event.{Event}
use Rattle.job_model.specs.Prepared.{IsPrepared}
use Rattle.job_model.specs.declared.image.Image.{Image}
use Rattle.job_model.specs.declared.job.GuestLine.{GuestLine}
use Rattle.job_model.specs.declared.job.Job.{Job}
use Rattle.kernel_model.specs.Nodes.{Process, has_process, is_there, most_processes}
use Rattle.kernel_model.specs.OneKernel.{Guest, by_guest, guest_process, guests_from, guests_of}
use Rattle.kernel_model.specs.Traps.{Begins, Changes, Done, Forks, Trapped, trap}
use Rattle.mck_word.specs.MapLaws.{at-none, at-put}
use Rattle.mck_word.specs.Maps.{at, count, put}
use Rattle.mck_word.specs.declared.Tid.{Tid}
use Rattle.offer_laws.proofs.MemoryBoot.{boot-fits}
use Rattle.offer_laws.proofs.MemoryEvents.{fits-stay}
use Rattle.offer_laws.proofs.Rows.{count-none, count-put, count-same, count-stays}
use Rattle.offer_laws.proofs.Sizes.{TrapLeaves, limit-stays, sizes, sizes-stay, trap-leaves}
use Rattle.offer_laws.specs.Small.{NumbersFit, Small}
use Rattle.std.proofs.Common.{ap, arith, refl, subst, sym, ◌∙◌}
use Rattle.std.proofs.lemmas.Bool.Decides.{nat_tests}
use Rattle.std.specs.Prelude.{Bool, cond, false, ◌==◌, List, None, Option, Some, [], is_some, length, true, unwrap_or, ℕ, ◌+◌, ◌-◌, ◌<◌, ◌∷◌, ◌≡◌, ◌≤◌, ◌^◌}

-- ---- numbers
pub numbers-fit : (pair : Pair) → Coherent pair → Small pair → NumbersFit pair
numbers-fit pair c s = record {
  processes = λ p x e. (let a = c.known.processes_below p x e in let b = next in omega (arith, a, b));
  threads = λ t x e. (let a = c.known.threads_below t x e in let b = next in omega (arith, a, b));
  next = next;
  requests = λ p. asked p (at pair.sides p) refl;
  instructions = (let a = c.numbers.limit in let b = s.limit in omega (arith, a, b));
}
  where
    next : pair.node.next_number < 2 ^ 32
    next = let a = c.numbers.paid in let b = c.numbers.limit in let d = s.limit in omega (arith, a, b, d)

    asked : (p : ℕ) (o : Option Side) → at pair.sides p ≡ o → (unwrap_or o (new_side 0)).book.next < 2 ^ 32
    asked p None e = omega arith
    asked p (Some x) e =
        let l = entries-least (λ (y : ℕ × Side). y.1.book.next - 1) pair.sides p x e in
        let a = c.numbers.paid in
        let b = c.numbers.limit in
        let d = s.limit in
        omega (arith, l, a, b, d)

-- ---- an event
count-sides : (pair : Pair) → Coherent pair → count pair.node.processes ≡ count pair.sides
count-sides pair c = sym (count-same pair.sides pair.node.processes c.known.sides_are)

-- a process begins only where there are fewer than most
begins-few : (t : Tid) (p : ℕ) (h : Here) → h.born ≡ None → (b : ℕ × Side) → (after_here (Events.Trap t) p h).born ≡ Some b → count h.node.processes < most_processes
unfolding after_trap
begins-few t p h none b f = go (trap t.0 (length h.free) (view_here h)) (trap-leaves t.0 (length h.free) (view_here h)) f
  where
    unborn : None ≡ Some b → count h.node.processes < most_processes
    unborn e = absurd (grind (arith, e))

    go : (y : Trapped) → TrapLeaves (view_here h) y → (trapped p t.0 y h).born ≡ Some b → count h.node.processes < most_processes
    go (Done v) s g = unborn (sym none ∙ g)
    go (Begins node progress) s g = unborn (sym none ∙ g)
    go (Changes node change) s g = unborn (sym none ∙ g)
    go (Forks v child stores) s g = s.1

born-few : (e : Event) (p : ℕ) (h : Here) → h.born ≡ None → (b : ℕ × Side) → (after_here e p h).born ≡ Some b → count h.node.processes < most_processes
born-few e p h none b f =
    let a = born-is e p h none b f in
    begins-few a.thread p h none b (subst (λ (z : Event). (after_here z p h).born ≡ Some b) a.traps f)

module _ (pair : Pair) (c : Coherent pair) (e : Event) (m : may pair e ≡ true) (s : Small pair) where
  abbrev p : ℕ
  p = process_of_event pair.node e

  abbrev h : Here
  h = here pair p

  abbrev now : Here
  now = after_here e p h

  there : is_there pair.node p ≡ true
  there = let a = both (is_there pair.node p) (may_here e h) m in a.0

  same : sizes now ≡ sizes h
  same = sizes-stay e p h

  old : count (put pair.sides p now.side) ≡ count pair.node.processes
  old = count-stays pair.sides p now.side (ap is_some (has-side pair c.known p there)) ∙ sym (count-sides pair c)

  few : (o : Option (ℕ × Side)) → now.born ≡ o → count (with_born (put pair.sides p now.side) o) ≤ most_processes
  few None f = let a = old in let b = s.processes in omega (arith, a, b)
  few (Some b) f =
      let a = old in
      let d = born-few e p h refl b f in
      let g = count-put (put pair.sides p now.side) b.0 b.1 in
      omega (arith, a, d, g)

  later : Coherent (after pair e)
  later = let a = whole_event pair c e m in a.0

  -- no process gets the number 0
  own : (x : Bool) → (0 == p) ≡ x → is_some (cond x (Some now.side) (at pair.sides 0)) ≡ false
  own false f = c.known.sides_are 0 ∙ s.positive
  own true f = absurd (
      let g : 0 ≡ p = grind (arith, nat_tests, f) in
      let a = there-has pair.node p there in
      let b = ap (has_process pair.node) g ∙ a in
      let d = s.positive in
      grind (arith, b, d)
      )

  some-number : 1 ≤ pair.node.next_number
  some-number =
      let a = some-is (at pair.node.processes p) (there-has pair.node p there) in
      let b = c.known.processes_below p a.0 a.1 in
      omega (arith, b)

  no-zero : (o : Option (ℕ × Side)) → now.born ≡ o → is_some (at (with_born (put pair.sides p now.side) o) 0) ≡ false
  no-zero None f = ap is_some (at-put pair.sides p now.side 0) ∙ own (0 == p) refl
  no-zero (Some b) f =
      let number = (born-is e p h refl b f).number in
      let a = some-number in
      let other : (0 == b.0) ≡ false = grind (arith, nat_tests, number, a) in
      ap is_some (at-put (put pair.sides p now.side) b.0 b.1 0 ∙ ap (λ x. cond x (Some b.1) (at (put pair.sides p now.side) 0)) other ∙ at-put pair.sides p now.side 0) ∙ own (0 == p) refl

  pub small-after : Small (after pair e)
  small-after = record {
    cores = (let a = ap (λ (z : ℕ × ℕ × ℕ). z.0) same in let b = s.cores in omega (arith, a, b));
    some_worker = (let a = ap (λ (z : ℕ × ℕ × ℕ). z.1) same in let b = s.some_worker in omega (arith, a, b));
    workers = (let a = ap (λ (z : ℕ × ℕ × ℕ). z.1) same in let b = s.workers in omega (arith, a, b));
    rings = (let a = ap (λ (z : ℕ × ℕ × ℕ). z.2) same in let b = s.rings in omega (arith, a, b));
    processes = (let a = count-sides (after pair e) later in let b = few now.born refl in omega (arith, a, b));
    positive = sym (later.known.sides_are 0) ∙ no-zero now.born refl;
    limit = (let a = limit-stays e p h in let b = s.limit in omega (arith, a, b));
    memory = fits-stay e p h s.memory;
  }

-- ---- a journal
pub small-journal : (es : List Event) (pair : Pair) → Coherent pair → Small pair → may_all pair es ≡ true → Small (state pair es)
small-journal [] pair c s m = s
small-journal (e ∷ es) pair c s m =
    let a = both (may pair e) (may_all (after pair e) es) m in
    small-journal es (after pair e) (whole_event pair c e a.0).0 (small-after pair c e a.0 s) a.1

pub coherent-journal : (es : List Event) (pair : Pair) → Coherent pair → may_all pair es ≡ true → Coherent (state pair es)
coherent-journal [] pair c m = c
coherent-journal (e ∷ es) pair c m =
    let a = both (may pair e) (may_all (after pair e) es) m in
    coherent-journal es (after pair e) (whole_event pair c e a.0).0 a.1

-- ---- the boot
by-guest : (gs : List Guest) → count (by_guest guest_process gs) ≤ length gs
by-guest [] = let a = count-none Process in omega (arith, a)
by-guest (g ∷ gs) = let a = count-put (by_guest guest_process gs) g.number (guest_process g) in let b = by-guest gs in omega (arith, a, b)

guests-few : (n : ℕ) (gs : List GuestLine) (images : List Image) → length (guests_from n gs images) ≤ length gs
guests-few n [] images = omega arith
guests-few n (g ∷ gs) [] = omega arith
guests-few n (g ∷ gs) (image ∷ images) = let a = guests-few (n + 1) gs images in omega (arith, a)

first-number : (n : ℕ) → 1 ≤ n → (gs : List GuestLine) (images : List Image) → is_some (at (by_guest guest_process (guests_from n gs images)) 0) ≡ false
first-number n some [] images = ap is_some (at-none {V = Process} 0)
first-number n some (g ∷ gs) [] = ap is_some (at-none {V = Process} 0)
first-number n some (g ∷ gs) (image ∷ images) =
    let x : Guest = record { number = n; arguments = g.args; image = image } in
    let other : (0 == n) ≡ false = grind (arith, nat_tests, some) in
    ap is_some (at-put (by_guest guest_process (guests_from (n + 1) gs images)) n (guest_process x) 0 ∙ ap (λ b. cond b (Some (guest_process x)) (at (by_guest guest_process (guests_from (n + 1) gs images)) 0)) other)
    ∙ first-number (n + 1) (omega arith) gs images

pub boot-small : (job : Job) (imgs : List Image) → IsPrepared job imgs → Small (boot job imgs)
unfolding guests_of
boot-small job imgs prepared = record {
  cores = prepared.cores.1;
  some_worker = prepared.workers.0;
  workers = prepared.workers.1;
  rings = prepared.rings.1;
  processes = (let a = by-guest (guests_of job imgs) in let b = guests-few 1 job.guests imgs in let d = prepared.guests.1 in omega (arith, a, b, d));
  positive = first-number 1 (omega arith) job.guests imgs;
  limit = prepared.limit.1;
  memory = boot-fits job.guests imgs prepared.loaded;
}
