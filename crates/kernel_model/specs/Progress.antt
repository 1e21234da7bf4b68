-- How far a delegated call has come, and what each of its steps does. Both machines apply these definitions: one to a row, the other to a pinned frame.
-- Source: this project's own.
use Rattle.file_model.specs.Errno.{EFAULT, EINTR, EINVAL, ENAMETOOLONG}
use Rattle.file_model.specs.FileSteps.{ready, file_step}
use Rattle.file_model.specs.Files.{Files, leave}
use Rattle.file_model.specs.Operations.{FileResult}
use Rattle.file_model.specs.declared.operations.FileOp.{FileOp}
use Rattle.file_model.specs.declared.operations.FileOp.TheVariants.{Get, Put}
use Rattle.file_model.specs.declared.operations.Readiness.{Readiness}
use Rattle.file_model.specs.declared.operations.Readiness.TheVariants.{Ready, NotReady, FileStep}
use Rattle.kernel_model.specs.Pages.{first_piece}
use Rattle.kernel_model.specs.declared.ranges.Range.{Range}
use Rattle.kernel_model.specs.CallPhases.{Phase, Gather, Act, Scatter, Stream, act_of, most_moved}
use Rattle.mck_word.specs.Lists.{tail, before_zero, spliced}
use Rattle.mck_word.specs.Words.{number_of, refused}
use Rattle.mck_word.specs.declared.Access.{Access}
use Rattle.mck_word.specs.declared.Access.TheVariants.{Read, Write}
use Rattle.mck_word.specs.declared.parts.Piece.{Piece}
use Rattle.std.specs.List.{list_any}
use Rattle.std.specs.Prelude.{ℕ, zero, suc, ◌+◌, ◌-◌, ◌^◌, Bool, true, false, cond, ◌||◌, ◌==◌, nat_lt, nat_le, min, List, [], ◌∷◌, ◌++◌, length, take, drop, get_or, filter, Option, Some, None, ℤ, pos, negsuc}
use Rattle.system_calls.specs.FileCalls.{has_offset, has_path, is_read, is_write}
use Rattle.system_calls.specs.declared.file_calls.FileCall.{FileCall}
use Rattle.system_calls.specs.declared.file_calls.FileCall.TheVariants.{Close}

-- The phases left, of which the first is under way; the bytes gathered, or still to be scattered; the bytes moved by the stream; what the act
-- answered; the description that the first act found, which the call holds.
pub record Progress : Type 0 where
  pub call : FileCall
  pub arguments : List ℕ
  pub phases : List Phase
  pub buffer : List ℕ
  pub moved : ℕ
  pub answer : ℤ
  pub found : Option ℕ

abbrev pub starting : FileCall → List ℕ → List Phase → Progress
starting call arguments phases = record { call = call; arguments = arguments; phases = phases; buffer = []; moved = 0; answer = pos 0; found = None }

abbrev pub no_progress : Progress
no_progress = starting Close [] []

-- ---- ranges

abbrev pub without_empty : List Range → List Range
without_empty ranges = filter (λ r. nat_lt 0 r.len) ranges

-- the ranges after n bytes of the first one
abbrev pub advanced : ℕ → List Range → List Range
advanced n [] = []
advanced n (r ∷ rs) = without_empty (record { address = r.address + n; len = r.len - n } ∷ rs)

-- the ranges cut to n bytes in all
abbrev pub cut_ranges : ℕ → List Range → List Range
cut_ranges n [] = []
cut_ranges n (r ∷ rs) = record { address = r.address; len = min n r.len } ∷ cut_ranges (n - r.len) rs

abbrev pub ranges_of : Phase → List Range
ranges_of (Gather rs) = rs
ranges_of Act = []
ranges_of (Scatter rs) = rs
ranges_of (Stream rs) = rs

abbrev pub ranges_left : Progress → List Range
ranges_left p = without_empty (ranges_of (get_or p.phases 0 Act))

-- ---- the next step

-- whether a phase over memory is under way with bytes left, and its next piece
abbrev pub has_piece : Progress → Bool
has_piece p = nat_lt 0 (length (ranges_left p))

abbrev pub next_piece : Progress → Piece
next_piece p = let r = get_or (ranges_left p) 0 (record { address = 0; len = 0 }) in first_piece r.address r.len

abbrev pub access_of_phase : FileCall → Phase → Access
access_of_phase call (Gather rs) = Read
access_of_phase call Act = Read
access_of_phase call (Scatter rs) = Write
access_of_phase call (Stream rs) = cond (is_read call) Write Read

-- the right that the next piece needs in the process's memory
abbrev pub needed_access : Progress → Access
needed_access p = access_of_phase p.call (get_or p.phases 0 Act)

abbrev pub offset_argument : Progress → Option ℕ
offset_argument p = cond (has_offset p.call) (Some (get_or p.arguments 3 0)) None

abbrev pub description_found : Progress → ℕ
description_found p = elim p.found [ None ↦ 0 | Some d ↦ d ]

-- the operation of the stream's next piece
abbrev pub stream_operation : Progress → FileOp
stream_operation p = cond (is_read p.call)
    (Get (description_found p) (offset_argument p) p.moved (next_piece p).len)
    (Put (description_found p) (offset_argument p) p.moved (next_piece p).len)

abbrev pub kind_of_phase : Files → Progress → Phase → Readiness
kind_of_phase files p (Gather rs) = cond (has_piece p) Ready FileStep
kind_of_phase files p Act = FileStep
kind_of_phase files p (Scatter rs) = cond (has_piece p) Ready FileStep
kind_of_phase files p (Stream rs) = cond (has_piece p) (ready files (stream_operation p)) FileStep

-- whether the next step of the call can move a byte, has to wait, or is a file step
abbrev pub next_kind : Files → Progress → Readiness
next_kind files p = kind_of_phase files p (get_or p.phases 0 Act)

abbrev pub is_ready : Readiness → Bool
is_ready Ready = true
is_ready NotReady = false
is_ready FileStep = false

abbrev pub is_not_ready : Readiness → Bool
is_not_ready Ready = false
is_not_ready NotReady = true
is_not_ready FileStep = false

abbrev pub is_file_step : Readiness → Bool
is_file_step Ready = false
is_file_step NotReady = false
is_file_step FileStep = true

-- ---- the end of a call

-- the answer of a call that is interrupted, and of one that meets a page that is absent or lacks the right
abbrev pub interrupted_answer : Progress → ℤ
interrupted_answer p = cond (p.moved == 0) (refused EINTR) (pos p.moved)

abbrev pub fault_answer : Progress → ℤ
fault_answer p = cond (p.moved == 0) (refused EFAULT) (pos p.moved)

-- the files after the call gave back its description
abbrev pub given_back : Progress → Files → Files
given_back p files = elim p.found [ None ↦ files | Some d ↦ leave d files ]

-- ---- what a step leaves: the progress, the answer where the call has ended, and the files
pub record After : Type 0 where
  pub progress : Progress
  pub ended : Option ℤ
  pub files : Files

abbrev pub goes_on : Progress → Files → After
goes_on p files = record { progress = p; ended = None; files = files }

abbrev pub ends : ℤ → Progress → Files → After
ends answer p files = record { progress = p; ended = Some answer; files = given_back p files }

abbrev pub is_used_up : Phase → Bool
is_used_up (Gather rs) = length (without_empty rs) == 0
is_used_up Act = false
is_used_up (Scatter rs) = length (without_empty rs) == 0
is_used_up (Stream rs) = length (without_empty rs) == 0

abbrev pub drop_used_up : List Phase → List Phase
drop_used_up [] = []
drop_used_up (phase ∷ phases) = cond (is_used_up phase) (drop_used_up phases) (phase ∷ phases)

abbrev pub answer_of : Progress → ℤ
answer_of p = cond (is_read p.call || is_write p.call) (pos p.moved) p.answer

-- phases without an act or a byte left are passed over; where none is left the call ends
abbrev pub settled_progress : Progress → Progress
settled_progress p = record p { phases = drop_used_up p.phases }

abbrev pub passed_on : Progress → Files → After
passed_on p files = cond (length p.phases == 0) (ends (answer_of p) p files) (goes_on p files)

abbrev pub settle : Progress → Files → After
settle p files = passed_on (settled_progress p) files

-- ---- a piece

-- the bytes of the page after the piece, with the rest of what the step leaves
pub record Moved : Type 0 where
  pub page : List ℕ
  pub after : After

abbrev pub stays : List ℕ → After → Moved
stays page after = record { page = page; after = after }

-- a path ends at its first zero byte, and is refused where the last piece has brought none
abbrev pub gather_path : Progress → List Range → Files → After
gather_path p ranges files =
    let path = before_zero p.buffer in
    cond (nat_lt (length path) (length p.buffer)) (settle (record p { buffer = path; phases = tail p.phases }) files)
    (cond (length ranges == 0) (ends (refused ENAMETOOLONG) p files)
    (goes_on (record p { phases = Gather ranges ∷ tail p.phases }) files))

-- the vectors, each an address and a length of 8 bytes
abbrev pub vectors : ℕ → List ℕ → List Range
vectors zero bytes = []
vectors (suc n) bytes = record { address = number_of (take 8 bytes); len = number_of (take 8 (drop 8 bytes)) } ∷ vectors n (drop 16 bytes)

abbrev pub gather_vectors : Progress → List Range → Files → After
gather_vectors p (r ∷ rs) files = goes_on (record p { phases = Gather (r ∷ rs) ∷ tail p.phases }) files
gather_vectors p [] files =
    let all = vectors 16 p.buffer in
    cond (list_any (λ v. nat_le (2 ^ 63) v.len) all) (ends (refused EINVAL) p files)
    (settle (record p { buffer = []; phases = Stream (without_empty (cut_ranges most_moved all)) ∷ [] }) files)

abbrev pub gathered : Progress → List Range → Files → List ℕ → Moved
gathered p ranges files page =
    let piece = next_piece p in
    let q = record p { buffer = p.buffer ++ take piece.len (drop piece.off page) } in
    stays page (cond (has_path p.call) (gather_path q (advanced piece.len ranges) files) (gather_vectors q (advanced piece.len ranges) files))

abbrev pub scattered : Progress → List Range → Files → List ℕ → Moved
scattered p ranges files page =
    let piece = next_piece p in
    record {
      page = spliced page piece.off (take piece.len p.buffer);
      after = settle (record p { buffer = drop piece.len p.buffer; phases = Scatter (advanced piece.len ranges) ∷ tail p.phases }) files;
    }

abbrev pub nat_of : ℤ → ℕ
nat_of (pos n) = n
nat_of (negsuc n) = 0

-- the progress after n bytes of a stream
abbrev pub streamed_on : Progress → List Range → ℕ → Progress
streamed_on p ranges n = record p { moved = p.moved + n; phases = Stream (advanced n ranges) ∷ tail p.phases }

abbrev pub streamed_in : Progress → List Range → Files → ℕ → List ℕ → FileResult → Moved
streamed_in p ranges files process page r =
    record { page = spliced page (next_piece p).off r.out; after = settle (streamed_on p ranges (length r.out)) r.files }

abbrev pub streamed_out : Progress → List Range → List ℕ → FileResult → Moved
streamed_out p ranges page r = stays page (settle (streamed_on p ranges (nat_of r.answer)) r.files)

abbrev pub streamed : Progress → List Range → Files → ℕ → List ℕ → Moved
streamed p ranges files process page =
    let piece = next_piece p in
    cond (is_read p.call)
    (streamed_in p ranges files process page (file_step files process (stream_operation p) []))
    (streamed_out p ranges page (file_step files process (stream_operation p) (take piece.len (drop piece.off page))))

abbrev pub moved_in_phase : Progress → Files → ℕ → List ℕ → Phase → Moved
moved_in_phase p files process page (Gather rs) = gathered p (without_empty rs) files page
moved_in_phase p files process page Act = stays page (goes_on p files)
moved_in_phase p files process page (Scatter rs) = scattered p (without_empty rs) files page
moved_in_phase p files process page (Stream rs) = streamed p (without_empty rs) files process page

-- the next piece is moved between the bytes of its page and the buffer or file
abbrev pub move_piece : Progress → Files → ℕ → List ℕ → Moved
move_piece p files process page = moved_in_phase p files process page (get_or p.phases 0 Act)

-- ---- a file step

-- the scatter that follows the act has the bytes that the act built
abbrev pub with_scatter : List ℕ → List Phase → List Phase
with_scatter out (Scatter (r ∷ rs) ∷ phases) = Scatter (without_empty (record r { len = length out } ∷ [])) ∷ phases
with_scatter out phases = phases

abbrev pub acted : Progress → FileResult → After
acted p r = elim r.answer [
  | negsuc n ↦ record { progress = p; ended = Some (negsuc n); files = r.files }
  | pos n ↦ cond (is_read p.call || is_write p.call)
      (settle (record p { found = Some n; phases = tail p.phases }) r.files)
      (settle (record p { answer = pos n; buffer = r.out; phases = with_scatter r.out (tail p.phases) }) r.files)
]

-- a stream that can move nothing more: it ends with the bytes moved, or with the error where none were
abbrev pub stream_end : Progress → FileResult → After
stream_end p r = ends (cond (p.moved == 0) r.answer (pos p.moved)) p r.files

abbrev pub file_step_in : Progress → Files → ℕ → Phase → After
file_step_in p files process Act = acted p (file_step files process (act_of p.call p.arguments) p.buffer)
file_step_in p files process (Stream rs) = stream_end p (file_step files process (stream_operation p) [])
file_step_in p files process (Gather rs) = settle p files
file_step_in p files process (Scatter rs) = settle p files

-- the next step is a file step and is made
abbrev pub take_file_step : Progress → Files → ℕ → After
take_file_step p files process = file_step_in p files process (get_or p.phases 0 Act)
