-- A process's pages and the free frames are together at most the job's frames: where these suffice there is a gap.
use Rattle.file_model.specs.Errno.{ENOMEM}
use Rattle.hybrid_laws.proofs.boot.Coherent.{boot-coherent}
use Rattle.hybrid_laws.proofs.maps.Totals.{entries-least}
use Rattle.hybrid_model.specs.Boot.{boot}
use Rattle.hybrid_model.specs.Events.{after, process_of_event}
use Rattle.hybrid_model.specs.Globals.{Coherent}
use Rattle.hybrid_model.specs.Journals.{IsLegal, state}
use Rattle.hybrid_model.specs.OneProcess.{memory_here}
use Rattle.hybrid_model.specs.Pairs.{Pair, here, side_of}
use Rattle.hybrid_model.specs.Sides.{Row, Side, new_side}
use Rattle.hybrid_model.specs.Spaces.{shown_memory, shown_row}
use Rattle.hybrid_model.specs.declared.events.Event.{Event}
use Rattle.job_model.specs.Prepared.{IsPrepared}
use Rattle.job_model.specs.declared.image.Image.{Image}
use Rattle.job_model.specs.declared.job.Job.{Job}
use Rattle.kernel_model.specs.MemoryCalls.{Decision, Now, gap_below, highest_gap, refuse}
use Rattle.kernel_model.specs.declared.Change.TheVariants.{Map as ChangeMap}
use Rattle.mck_flags.specs.declared.rights.Rights.{Rights}
use Rattle.mck_word.specs.MapLaws.{at-collect}
use Rattle.mck_word.specs.Maps.{Map, and_then, at, count, entries, keys, total}
use Rattle.offer_laws.proofs.Rows.{count-none, count-same}
use Rattle.offer_laws.proofs.Sizes.{frame-count-stays}
use Rattle.offer_laws.proofs.Small.{coherent-journal}
use Rattle.reached_laws.proofs.Gaps.{gap-found}
use Rattle.reached_laws.specs.Mapping.{mapped_anywhere}
use Rattle.std.proofs.Common.{ap, arith, refl, sym, ◌∙◌}
use Rattle.std.proofs.lemmas.Bool.Decides.{nat_tests}
use Rattle.std.specs.FinMap as finmap
use Rattle.std.specs.Prelude.{Bool, List, None, Option, Some, [], cond, false, is_some, length, map, nat_lt, true, unwrap_or, ℕ, ◌+◌, ◌<◌, ◌↔◌, ◌∷◌, ◌≡◌, ◌≤◌}

-- ---- the pages of a process
keys-count : {V : Type 0} (m : Map V) → length (keys m) ≡ count m
keys-count {V} m = all (entries m) ∙ sym (finmap.len-entries m)
  where
    all : (es : List (ℕ × V)) → ◌≡◌ {A = ℕ} (length (map (λ (e : ℕ × V). e.0) es)) (length es)
    all [] = refl
    all (e ∷ es) = let a = all es in omega (arith, a)

shown-count : (table : Map Row) (frames : Map (List ℕ)) → count (shown_memory table frames) ≡ count table
shown-count table frames = count-same (shown_memory table frames) table (λ k. ap is_some (at-collect (λ i (r : Row). Some (shown_row frames r)) table k) ∙ same (at table k))
  where
    same : (o : Option Row) → is_some (and_then o (λ (r : Row). Some (shown_row frames r))) ≡ is_some o
    same None = refl
    same (Some r) = refl

rows-least : (pair : Pair) (p : ℕ) (o : Option Side) → at pair.sides p ≡ o → count (unwrap_or o (new_side 0)).lwk.table ≤ total (λ (s : Side). count s.lwk.table) pair.sides
rows-least pair p None e = let a = count-none Row in omega (arith, a)
rows-least pair p (Some s) e = entries-least (λ (y : ℕ × Side). count y.1.lwk.table) pair.sides p s e

pages-and-free : (pair : Pair) → Coherent pair → (p : ℕ) → length (keys (memory_here (here pair p))) + length pair.free ≤ pair.node.frame_count
pages-and-free pair c p =
    let a = keys-count (memory_here (here pair p)) in
    let b = shown-count (side_of pair p).lwk.table pair.frames in
    let d = rows-least pair p (at pair.sides p) refl in
    let e = c.counted.counted in
    omega (arith, a, b, d, e)

-- ---- the frames of the job
frames-stay : (es : List Event) (pair : Pair) → (state pair es).node.frame_count ≡ pair.node.frame_count
frames-stay [] pair = refl
frames-stay (e ∷ es) pair = let p = process_of_event pair.node e in frames-stay es (after pair e) ∙ frame-count-stays e p (here pair p)

-- ---- a map anywhere
module _ (pair : Pair) (c : Coherent pair) (few : pair.node.frame_count ≤ 16_000) (p n : ℕ) (rights : Rights) where
  abbrev gap : Option ℕ → Decision
  gap o = elim o as (λ _. Decision) [ None ↦ refuse ENOMEM | Some high ↦ Now (ChangeMap (gap_below n high) rights) ]

  refused : length pair.free < n → mapped_anywhere pair p n rights ≡ refuse ENOMEM
  refused l =
      let e : nat_lt (length pair.free) n ≡ true = grind (arith, nat_tests, l) in
      ap (λ b. cond b (refuse ENOMEM) (gap (highest_gap (memory_here (here pair p)) n))) e

  lacks : mapped_anywhere pair p n rights ≡ refuse ENOMEM → length pair.free < n
  lacks = go (nat_lt (length pair.free) n) refl (highest_gap (memory_here (here pair p)) n) refl
    where
      go : (b : Bool) → nat_lt (length pair.free) n ≡ b → (o : Option ℕ) → highest_gap (memory_here (here pair p)) n ≡ o → cond b (refuse ENOMEM) (gap o) ≡ refuse ENOMEM → length pair.free < n
      go true e o f g = grind (arith, nat_tests, e)
      go false e (Some high) f g = absurd (cc)
      go false e None f g =
          let l : n ≤ length pair.free = grind (arith, nat_tests, e) in
          let a = pages-and-free pair c p in
          absurd (gap-found (memory_here (here pair p)) n (omega (arith, l, a, few)) f)

pub lacks-frames-alone : (job : Job) (imgs : List Image) (journal : List Event) (p n : ℕ) (rights : Rights) → IsPrepared job imgs → IsLegal job imgs journal
    → (mapped_anywhere (state (boot job imgs) journal) p n rights ≡ refuse ENOMEM) ↔ (length (state (boot job imgs) journal).free < n)
lacks-frames-alone job imgs journal p n rights prepared legal = (lacks pair coherent few p n rights, refused pair coherent few p n rights)
  where
    pair : Pair
    pair = state (boot job imgs) journal

    coherent : Coherent pair
    coherent = coherent-journal journal (boot job imgs) (boot-coherent job imgs prepared legal.0) legal.1

    few : pair.node.frame_count ≤ 16_000
    few = let a = frames-stay journal (boot job imgs) in let b = prepared.frames.1 in omega (arith, a, b)
