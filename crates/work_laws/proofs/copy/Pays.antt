-- Copy, whole: the piece leaves less before its call; or it is quiet, and the sides count less.
use Rattle.hybrid_model.specs.declared.events.Event.TheVariants as Events
use Rattle.kernel_model.specs.declared.steps.Step.TheVariants as Steps
use Rattle.file_model.specs.Files.{Files}
use Rattle.hybrid_laws.proofs.copy.Copy.{MayCopy}
use Rattle.hybrid_laws.proofs.copy.Whole.{simulated_copy}
use Rattle.hybrid_laws.proofs.maps.Tests.{both}
use Rattle.hybrid_laws.proofs.states.Pair.{has-side}
use Rattle.hybrid_laws.proofs.states.Steps.{one-here}
use Rattle.hybrid_model.specs.Coherence.{PinServes}
use Rattle.hybrid_model.specs.Events.{after, after_here, may, may_here}
use Rattle.hybrid_model.specs.Globals.{Coherent, ring_number}
use Rattle.hybrid_model.specs.Answer.{thread_served}
use Rattle.hybrid_model.specs.Pairs.{Here, Pair, here, side_of}
use Rattle.hybrid_model.specs.Shown.{one}
use Rattle.hybrid_model.specs.Sides.{Service, service_of}
use Rattle.hybrid_model.specs.Spaces.{frame_bytes, shown_row}
use Rattle.hybrid_model.specs.declared.events.Event.{Event}
use Rattle.ikc_ring.specs.declared.CallRequest.{CallRequest}
use Rattle.isa_model.specs.Memory.{Memory, Page, allows_in}
use Rattle.kernel_model.specs.Nodes.{is_there, thread_of}
use Rattle.kernel_model.specs.OneKernel.{OneHere, OneKernel, one_here, put_one_here}
use Rattle.kernel_model.specs.Progress.{Progress, is_ready, move_piece, needed_access, next_kind, next_piece}
use Rattle.kernel_model.specs.Steps.{bytes_at, is_active, may as one_may, may_here as one_may_here, one_piece, piece_has_right, progress_at}
use Rattle.mck_word.specs.Identifiers.{tid}
use Rattle.mck_word.specs.MapLaws.{at-collect}
use Rattle.mck_word.specs.Maps.{and_then, at, put, total}
use Rattle.mck_word.specs.declared.Access.{Access}
use Rattle.mck_word.specs.declared.Pid.{Pid}
use Rattle.request_book.specs.declared.ReqState.TheVariants.{Held}
use Rattle.std.proofs.Common.{ap, arith, inl, inr, refl, subst, sym, ◌∙◌}
use Rattle.std.specs.Prelude.{Bool, List, None, Option, Some, [], length, true, ℕ, ◌&&◌, ◌≡◌, ◌⊎◌}
use Rattle.work_laws.proofs.calls.Steps.{QuietPiece, piece-pays, when-active}
use Rattle.work_laws.proofs.copy.Quiet.{m, moved, quiet_copy, request, serving, sides-less}
use Rattle.work_laws.proofs.files.StreamsLess.{QuietStep}
use Rattle.work_laws.proofs.pages.Steps.{here-full}
use Rattle.work_laws.proofs.sides.Shown.{progress-is, thread-own}
use Rattle.work_laws.proofs.sides.Wholes.{SidesPay, sides-are}
use Rattle.work_laws.proofs.steps.Each.{born-new}
use Rattle.work_laws.proofs.steps.OneProcess.{KernelPays, OnePays, whole-pays}
use Rattle.work_laws.specs.KernelLeft.{Prices}
use Rattle.work_laws.specs.Weights.{of_side}
use Rattle.work_laws.specs.WholePages.{AllFull, Full, IsFull}

-- a page that an access is allowed in is there, whole
page-there : (a : Access) (memory : Memory) (i : ℕ) → Full memory → allows_in a (at memory i) ≡ true → length (bytes_at memory i) ≡ 4096
page-there a memory i full e = go (at memory i) refl (full i) e
  where
    go : (o : Option Page) → at memory i ≡ o → IsFull o → allows_in a o ≡ true → length (bytes_at memory i) ≡ 4096
    go None f l b = absurd (grind (arith, b))
    go (Some x) f l b = ap (λ (o : Option Page). length (elim o as (λ _. List ℕ) [ None ↦ [] | Some y ↦ y.bytes ])) f ∙ l

module _ (k : Prices) (pair : Pair) (c : Coherent pair) (full : AllFull (one pair)) (q : Pid) (w : ℕ) (allowed : may pair (Events.Copy q w) ≡ true) where
  abbrev p : ℕ
  p = q.0

  abbrev h : Here
  h = here pair p

  abbrev h1 : OneHere
  h1 = one_here (one pair) p

  abbrev t : ℕ
  t = thread_served h.side w

  abbrev e : Event
  e = Events.Copy q w

  abbrev may_happen : (is_there pair.node p ≡ true) × (may_here e h ≡ true)
  may_happen = both (is_there pair.node p) (may_here e h) allowed

  present : at pair.sides p ≡ Some (side_of pair p)
  present = has-side pair c.known p may_happen.0

  abbrev copy_may : MayCopy h w
  copy_may = m p h (ring_number pair) (c.whole p) q w may_happen.1

  abbrev pin_serves : PinServes (at h.side.linux.workers) (at h.side.book.rows) (at h.side.linux.services) w copy_may.pin
  pin_serves = serving p h (ring_number pair) (c.whole p) q w may_happen.1

  abbrev held : (call : CallRequest) × (at h.side.book.rows pin_serves.number ≡ Some (Held, call))
  held = request p h (ring_number pair) (c.whole p) q w may_happen.1

  abbrev before : Service
  before = service_of h.side.linux.services pin_serves.number

  own-thread : (thread_of pair.node t).process ≡ p
  own-thread = thread-own pair c p present w pin_serves.number held.0 pin_serves.serves held.1

  progress : progress_at h1 t ≡ before.progress
  progress = progress-is pair c p present w pin_serves.number held.0 pin_serves.serves held.1

  -- the step Piece of the one-kernel machine
  abbrev test : Progress → Bool
  test x = is_ready (next_kind h1.node.files x) && piece_has_right h1 x

  step-may : is_active h1 t test ≡ true
  step-may =
      let a = both (one_may (one pair) (Steps.Piece (tid t))) true (simulated_copy pair c q w allowed).may in
      subst (λ (x : ℕ). one_may_here (Steps.Piece (tid t)) (one_here (one pair) x) ≡ true) own-thread a.0

  leads : put_one_here (one pair) p (one_piece p t h1) ≡ one (after pair e)
  leads = ap (λ (x : ℕ). put_one_here (one pair) x (one_piece x t (one_here (one pair) x))) (sym own-thread) ∙ (simulated_copy pair c q w allowed).leaves

  page-full : length (bytes_at h1.own.memory (next_piece (progress_at h1 t)).page) ≡ 4096
  page-full =
      let a = when-active h1 t test step-may in
      let b = both (is_ready (next_kind h1.node.files (progress_at h1 t))) (piece_has_right h1 (progress_at h1 t)) a.holds in
      page-there (needed_access (progress_at h1 t)) h1.own.memory (next_piece (progress_at h1 t)).page (here-full (one pair) full p).0 b.1

  piece : OnePays k h1 (one_piece p t h1) k.step 0 ⊎ QuietPiece k h1 t p
  piece = piece-pays k h1 t p test (λ x y. (both (is_ready (next_kind h1.node.files x)) (piece_has_right h1 x) y).0) page-full step-may

  in-whole : (gain : ℕ) → OnePays k h1 (one_piece p t h1) gain 0 → KernelPays k (one pair) (one (after pair e)) gain 0
  in-whole gain l = subst (λ (x : OneKernel). KernelPays k (one pair) x gain 0) leads (whole-pays k (one pair) p (one_piece p t h1) gain 0 (born-new (Steps.Piece (tid t)) p h1 refl) l)

  -- ---- a quiet piece
  bytes-are : bytes_at h1.own.memory (next_piece before.progress).page ≡ frame_bytes h.frames copy_may.pin.frame.0
  bytes-are =
      let v = (c.whole p).covered.pin_rows w copy_may.pin copy_may.there in
      let a = ap (at h.side.lwk.table) (pin_serves.page_is copy_may.fresh) ∙ v.there in
      let b = at-collect (λ k y. Some (shown_row h.frames y)) h.side.lwk.table (next_piece before.progress).page ∙ ap (λ o. and_then o (λ y. Some (shown_row h.frames y))) a in
      let d = one-here pair p present in
      ap (λ (x : OneHere). bytes_at x.own.memory (next_piece before.progress).page) d
      ∙ ap (λ (o : Option Page). elim o as (λ _. List ℕ) [ None ↦ [] | Some y ↦ y.bytes ]) b
      ∙ ap (λ f. frame_bytes h.frames f.0) v.frame

  quiet-here : QuietPiece k h1 t p → QuietStep before.progress h.node.files (moved p h (ring_number pair) (c.whole p) q w may_happen.1)
  quiet-here z =
      let a = subst (λ (x : Progress). QuietStep x h.node.files (move_piece x h.node.files p (bytes_at h1.own.memory (next_piece x).page)).after) progress z.step in
      subst (λ (bytes : List ℕ). QuietStep before.progress h.node.files (move_piece before.progress h.node.files p bytes).after) bytes-are a

  quiet-sides : QuietPiece k h1 t p → SidesPay pair e 1 0
  quiet-sides z =
      let s = quiet-here z in
      let l = quiet_copy p h (ring_number pair) (c.whole p) q w may_happen.1 s in
      let a = sides-less h.node.files (moved p h (ring_number pair) (c.whole p) q w may_happen.1).files s.quieter pair.workers pair.sides p h.side (after_here e p h).side 1 present l.0 in
      let b = sides-are pair c e may_happen.0 refl in
      let d = ap (λ (x : Files). total (of_side pair.workers x) (put pair.sides p (after_here e p h).side)) l.1 in
      omega (arith, a, b, d)

  pub copy-pays : KernelPays k (one pair) (one (after pair e)) k.step 0 ⊎ (KernelPays k (one pair) (one (after pair e)) 0 0 × SidesPay pair e 1 0)
  copy-pays = elim piece [ inl l ↦ inl (in-whole k.step l) | inr z ↦ inr (in-whole 0 z.same, quiet-sides z) ]
