-- What is claimed of events and of whole journals: the words of the main theorem.
-- Source: this project's own, after the idea of IHK/McKernel.
use Rattle.hybrid_model.specs.Boot.{boot}
use Rattle.hybrid_model.specs.Events.{after}
use Rattle.hybrid_model.specs.Globals.{Coherent, copies, table_of}
use Rattle.hybrid_model.specs.Images.{image}
use Rattle.hybrid_model.specs.Journals.{IsOver, images, state}
use Rattle.hybrid_model.specs.OneProcess.{memory_here, view_here}
use Rattle.hybrid_model.specs.Pairs.{Pair, here, side_of}
use Rattle.hybrid_model.specs.Shown.{one}
use Rattle.hybrid_model.specs.Sides.{Row, Side, pin_of, served, serves, state_of}
use Rattle.hybrid_model.specs.Spaces.{frame_bytes}
use Rattle.hybrid_model.specs.Tallies.{EachRing}
use Rattle.hybrid_model.specs.declared.events.Event.{Event}
use Rattle.hybrid_model.specs.declared.events.Event.TheVariants.{Copy, Finish, Trap}
use Rattle.ikc_ring.specs.declared.Msg.{Msg}
use Rattle.ikc_ring.specs.declared.Msg.TheVariants.{Answer}
use Rattle.isa_model.specs.Memory.{Page, allows}
use Rattle.job_model.specs.declared.image.Image.{Image}
use Rattle.job_model.specs.declared.job.Job.{Job}
use Rattle.kernel_model.specs.Nodes.{is_living, thread_of}
use Rattle.kernel_model.specs.OneKernel as One
use Rattle.kernel_model.specs.Pages.{zero_page}
use Rattle.kernel_model.specs.Progress.{needed_access, next_piece}
use Rattle.kernel_model.specs.Signals.{Store, View, stored_all}
use Rattle.kernel_model.specs.Steps as Steps
use Rattle.kernel_model.specs.Traps.{Forks, trap}
use Rattle.kernel_model.specs.declared.steps.Step.{Step}
use Rattle.mck_word.specs.Maps.{at}
use Rattle.page_pins.specs.declared.Pin.{Pin}
use Rattle.request_book.specs.declared.ReqState.TheVariants.{Parked}
use Rattle.std.specs.Prelude.{ℕ, ◌+◌, ◌<◌, ◌==◌, ◌≡◌, ◌≢◌, ◌≤◌, ◌⊎◌, ◌&&◌, false, true, cond, List, [], ◌∷◌, Some, length}

-- ---- copies

-- the table gives the page of the next piece the pinned frame, with the right that the piece needs
pub record Reaches (s : Side) (w : ℕ) : Type 0 where
  pub row : Row
  pub there : at s.lwk.table (next_piece (served s.linux w).progress).page ≡ Some row
  pub frame : row.0 ≡ (pin_of s.linux w).frame
  pub right : allows (needed_access (served s.linux w).progress) row.1 ≡ true

abbrev pub CopyReaches : Pair → Event → Type 0
CopyReaches pair (Copy p w) = Reaches (side_of pair p.0) w
CopyReaches pair _ = Unit {0}

-- ---- frames that are handed out

-- after the event the page of the process has the frame, and before it has not
pub record HandsOut (pair : Pair) (e : Event) (process page f : ℕ) : Type 0 where
  pub row : Row
  pub there : table_of (after pair e) process page ≡ Some row
  pub frame : row.0.0 ≡ f
  pub new : (r : Row) → table_of pair process page ≡ Some r → r.0.0 ≢ f

-- the frame stood in a row that the event takes away
pub record TakenAway (pair : Pair) (e : Event) (f : ℕ) : Type 0 where
  pub process : ℕ
  pub page : ℕ
  pub row : Row
  pub there : table_of pair process page ≡ Some row
  pub frame : row.0.0 ≡ f
  pub gone : (r : Row) → table_of (after pair e) process page ≡ Some r → r.0.0 ≢ f

-- an answer that the proxy would still install doesn't have the frame
abbrev pub AnswersOther : ℕ → ℕ → Msg → Type 0
AnswersOther cleared f (Answer w page number (Some r)) = cleared ≤ number → r.0.0 ≢ f
AnswersOther cleared f _ = Unit {0}

pub record Unreferenced (s : Side) (f : ℕ) : Type 0 where
  pub mirror : (page : ℕ) (r : Row) → at s.linux.mirror page ≡ Some r → r.0.0 ≢ f
  pub pins : (w : ℕ) (x : Pin) → at s.linux.pins w ≡ Some x → x.frame.0 ≢ f
  pub answers : EachRing (AnswersOther s.linux.cleared f) s.to_linux

-- the event is the trap of a fork, and the frame has the bytes of the caller's page, with the child's number stored where it was asked for
pub record IsForked (pair : Pair) (e : Event) (process page f : ℕ) : Type 0 where
  pub thread : ℕ
  pub traps : e ≡ Trap (record { 0 = thread })
  pub caller : ℕ
  pub calls : (thread_of pair.node thread).process ≡ caller
  pub told : View
  pub stores : List Store
  pub forks : trap thread (length pair.free) (view_here (here pair caller)) ≡ Forks told process stores
  pub copy : Page
  pub there : at (stored_all stores (stored_all told.stores (memory_here (here pair caller)))) page ≡ Some copy
  pub bytes : frame_bytes (after pair e).frames f ≡ copy.bytes

-- a frame that is handed out was free or is taken away by the same event, nothing refers to it, and it holds zeros or a fork's copy
pub record IsFresh (pair : Pair) (e : Event) (process page f : ℕ) : Type 0 where
  pub was_free : (copies f pair.free ≡ 1) ⊎ TakenAway pair e f
  pub unreferenced : (q : ℕ) → Unreferenced (side_of pair q) f
  pub bytes : (frame_bytes (after pair e).frames f ≡ zero_page) ⊎ IsForked pair e process page f

abbrev pub HandsOutFresh : Pair → Event → Type 0
HandsOutFresh pair e = (process page f : ℕ) → HandsOut pair e process page f → IsFresh pair e process page f

-- ---- replies

-- how many replies with number q of process p an event, and a journal, posts
abbrev pub posts_reply : Pair → Event → ℕ → ℕ → ℕ
posts_reply pair (Finish n w) p q = cond (n.0 == p && serves (side_of pair p).linux w == q) 1 0
posts_reply pair _ p q = 0

abbrev pub replies : Pair → List Event → ℕ → ℕ → ℕ
replies pair [] p q = 0
replies pair (e ∷ es) p q = posts_reply pair e p q + replies (after pair e) es p q

-- a request that waits for ever in a process that lives
abbrev pub WaitsForEver : Pair → ℕ → ℕ → Type 0
WaitsForEver pair p q = (state_of (side_of pair p).book q ≡ Parked) × (is_living pair.node p ≡ true)

-- ---- one event, and whole journals

-- the images are a run of the one-kernel machine from one state to the other
pub record Runs (before : One.OneKernel) (steps : List Step) (now : One.OneKernel) : Type 0 where
  pub may : Steps.may_all before steps ≡ true
  pub leaves : Steps.after_all before steps ≡ now

-- what holds of each event that may happen in a coherent state
pub record Holds (pair : Pair) (e : Event) : Type 0 where
  pub coherent : Coherent (after pair e)
  pub simulated : Runs (one pair) (image pair e) (one (after pair e))
  pub copies : CopyReaches pair e
  pub handed_out : HandsOutFresh pair e

abbrev pub AtEach : (Pair → Event → Type 0) → Pair → List Event → Type 0
AtEach P pair [] = Unit {0}
AtEach P pair (e ∷ es) = P pair e × AtEach P (after pair e) es

-- where no event may happen, no step of the one-kernel machine may
abbrev pub NoAddedStall : Pair → Type 0
NoAddedStall pair = IsOver pair → (s : Step) → Steps.may (one pair) s ≡ false

-- the whole claim of a journal from the boot of a job and its images
pub record Headline (job : Job) (imgs : List Image) (journal : List Event) : Type 0 where
  pub boots : one (boot job imgs) ≡ One.boot job imgs
  pub coherent : Coherent (state (boot job imgs) journal)
  pub simulated : Runs (One.boot job imgs) (images (boot job imgs) journal) (one (state (boot job imgs) journal))
  pub events : AtEach Holds (boot job imgs) journal
  pub one_reply : (p q : ℕ) → replies (boot job imgs) journal p q ≤ 1
  pub answered : IsOver (state (boot job imgs) journal) → (p q : ℕ) → 1 ≤ q → q < (side_of (state (boot job imgs) journal) p).book.next
      → (replies (boot job imgs) journal p q ≡ 1) ⊎ WaitsForEver (state (boot job imgs) journal) p q
  pub no_stall : NoAddedStall (state (boot job imgs) journal)
