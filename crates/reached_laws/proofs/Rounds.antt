-- What the change of a round takes lies in the range that the round closes.
use Rattle.clear_rounds.specs.declared.Phase.{Phase}
use Rattle.hybrid_laws.proofs.boot.Coherent.{boot-coherent}
use Rattle.hybrid_laws.proofs.intake.Ack.{below-limit}
use Rattle.hybrid_model.specs.Boot.{boot}
use Rattle.hybrid_model.specs.Coherence.{Owned, Owns}
use Rattle.hybrid_model.specs.Globals.{Coherent, HeapHolds}
use Rattle.hybrid_model.specs.Journals.{IsLegal, state}
use Rattle.hybrid_model.specs.Pairs.{Pair, side_of}
use Rattle.hybrid_model.specs.Sides.{Round}
use Rattle.hybrid_model.specs.declared.events.Event.{Event}
use Rattle.isa_model.specs.Memory.{Page}
use Rattle.job_model.specs.Prepared.{IsPrepared}
use Rattle.job_model.specs.declared.image.Image.{Image}
use Rattle.job_model.specs.declared.job.Job.{Job}
use Rattle.kernel_model.specs.MemoryCalls.{closing_range, effect_of, most_heap, nothing}
use Rattle.kernel_model.specs.Nodes.{Process, Thread, change_in, no_process, process_of}
use Rattle.kernel_model.specs.Pages.{page_end, page_number, range}
use Rattle.kernel_model.specs.declared.Change.TheVariants.{Brk, Map as ChangeMap, Protect, Unmap}
use Rattle.kernel_model.specs.declared.Change.{Change}
use Rattle.mck_word.specs.Maps.{at}
use Rattle.mck_word.specs.Pages.{in_range}
use Rattle.mck_word.specs.declared.PageRange.{PageRange}
use Rattle.offer_laws.proofs.Small.{coherent-journal}
use Rattle.reached_laws.specs.Rounds.{HasRound, Takes}
use Rattle.std.proofs.Common.{ap, arith, inl, inr, refl, subst, sym, ◌∙◌}
use Rattle.std.proofs.lemmas.Bool.Decides.{nat_tests}
use Rattle.std.specs.Prelude.{List, None, Option, Some, true, unwrap_or, ℕ, ◌+◌, ◌≡◌, ◌≤◌}

-- ---- one change
in-nothing : (j : ℕ) → in_range nothing j ≡ true → ⊥
in-nothing j e = grind (arith, nat_tests, e)

wider : (lo mid hi j : ℕ) → mid ≤ hi → in_range (range lo mid) j ≡ true → in_range (range lo hi) j ≡ true
wider lo mid hi j l e = grind (arith, nat_tests, l, e)

takes-inside : (x : Process) → HeapHolds x → (c : Change) (j : ℕ) (y : Page) → Takes (effect_of x c) j y → in_range (closing_range x c) j ≡ true
takes-inside x heap (ChangeMap r rights) j y t = elim t [ inl gone ↦ gone | inr less ↦ absurd (in-nothing j less.0) ]
takes-inside x heap (Unmap r) j y t = elim t [ inl gone ↦ gone | inr less ↦ absurd (in-nothing j less.0) ]
takes-inside x heap (Protect r rights) j y t = elim t [ inl gone ↦ absurd (in-nothing j gone) | inr less ↦ less.0 ]
takes-inside x heap (Brk a) j y t = elim t [
  | inl gone ↦ wider (page_end a) (page_end x.program_break) (page_number (x.heap_base + most_heap)) j (below-limit x.program_break x.heap_base heap.aligned heap.below) gone
  | inr less ↦ absurd (in-nothing j less.0)
]

-- ---- a coherent state
module _ (pair : Pair) (c : Coherent pair) (p : ℕ) where
  heap : HeapHolds (process_of pair.node p)
  heap = go (at pair.node.processes p) refl
    where
      go : (o : Option Process) → at pair.node.processes p ≡ o → HeapHolds (unwrap_or o no_process)
      go None e = record { aligned = refl; below = omega arith }
      go (Some x) e = c.heaps p x e

  owner-of : (phase : Phase) (closed : PageRange) → (side_of pair p).round ≡ Some (phase, closed) → (t : ℕ) × (change : Change) × HasRound pair p t change closed
  owner-of phase closed e = go (side_of pair p).lwk.changing refl (subst (λ (o : Option Round). Owned (process_of pair.node p) (at pair.node.threads) p o (side_of pair p).lwk.changing) e (c.whole p).owned)
    where
      go : (k : Option ℕ) → (side_of pair p).lwk.changing ≡ k → Owned (process_of pair.node p) (at pair.node.threads) p (Some (phase, closed)) k → (t : ℕ) × (change : Change) × HasRound pair p t change closed
      go None f w = absurd w
      go (Some t) f w = (t, w.change, record { phase = phase; round = e; owner = f; thread = w.thread; there = w.there; waits = w.does })

  module _ (t : ℕ) (change : Change) (closed : PageRange) (h : HasRound pair p t change closed) where
    owns : Owns (process_of pair.node p) (at pair.node.threads) p t closed
    owns = subst (λ (k : Option ℕ). Owned (process_of pair.node p) (at pair.node.threads) p (Some (h.phase, closed)) k) h.owner
        (subst (λ (o : Option Round). Owned (process_of pair.node p) (at pair.node.threads) p o (side_of pair p).lwk.changing) h.round (c.whole p).owned)

    same-change : owns.change ≡ change
    same-change = some-same (sym (ap (λ (x : Thread). change_in x.does) same ∙ ap change_in owns.does) ∙ ap change_in h.waits)
      where
        some-same : {a b : Change} → Some a ≡ Some b → a ≡ b
        some-same e = cc

        same : h.thread ≡ owns.thread
        same = let a = sym h.there ∙ owns.there in threads-same a
          where
            threads-same : {x y : Thread} → Some x ≡ Some y → x ≡ y
            threads-same e = cc

    takes-closed : (number : ℕ) (page : Page) → Takes (effect_of (process_of pair.node p) change) number page → in_range closed number ≡ true
    takes-closed number page k =
        let range-is : closing_range (process_of pair.node p) change ≡ closed = sym (ap (closing_range (process_of pair.node p)) same-change) ∙ owns.range_is in
        sym (ap (λ (r : PageRange). in_range r number) range-is) ∙ takes-inside (process_of pair.node p) heap change number page k

-- ---- journals
module _ (job : Job) (imgs : List Image) (journal : List Event) (prepared : IsPrepared job imgs) (legal : IsLegal job imgs journal) where
  abbrev last : Pair
  last = state (boot job imgs) journal

  coherent : Coherent last
  coherent = coherent-journal journal (boot job imgs) (boot-coherent job imgs prepared legal.0) legal.1

  pub has-owner : (p : ℕ) (phase : Phase) (closed : PageRange) → (side_of last p).round ≡ Some (phase, closed) → (t : ℕ) × (change : Change) × HasRound last p t change closed
  has-owner p phase closed e = owner-of last coherent p phase closed e

  pub closes-taken : (p t : ℕ) (change : Change) (closed : PageRange) (number : ℕ) (page : Page) → HasRound last p t change closed → Takes (effect_of (process_of last.node p) change) number page → in_range closed number ≡ true
  closes-taken p t change closed number page h k = takes-closed last coherent p t change closed h number page k
