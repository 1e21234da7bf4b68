-- A stream's pieces: whether one can move now, and what it moves.
-- Source: man-pages section 2 (read, write); pieces and limits are this project's own.
use Rattle.file_model.specs.Errno.{EFBIG, ENOSPC, EPIPE}
use Rattle.file_model.specs.declared.descriptions.Description.{Description}
use Rattle.file_model.specs.declared.descriptions.Target.{Target}
use Rattle.file_model.specs.declared.descriptions.Target.TheVariants.{OfNode, ReadEnd, WriteEnd, OfConsole}
use Rattle.file_model.specs.Files.{Files, Console, Inode, node_of, pipe_of, console_of, description_of, is_open, total_bytes, change_node, change_pipe, change_console, set_offset, most_file_bytes, most_bytes_of_all_files, most_console_bytes, most_pipe_bytes}
use Rattle.file_model.specs.Operations.{FileResult, done, fails}
use Rattle.file_model.specs.declared.operations.Readiness.{Readiness}
use Rattle.file_model.specs.declared.operations.Readiness.TheVariants.{Ready, NotReady, FileStep}
use Rattle.mck_word.specs.Lists.{spliced}
use Rattle.mck_word.specs.Maps.{at}
use Rattle.std.specs.Prelude.{ℕ, ◌+◌, ◌-◌, Bool, true, false, not, cond, ◌&&◌, ◌==◌, nat_lt, nat_le, min, max, List, [], ◌++◌, length, take, drop, Option, Some, None, pos}

-- where the next piece is placed in a file: by the call's own offset, at the end, or at the description's offset
abbrev pub read_offset : Description → Option ℕ → ℕ → ℕ
read_offset d None moved = d.offset
read_offset d (Some at) moved = at + moved

abbrev pub write_offset : Files → Description → Option ℕ → ℕ → ℕ
write_offset files d (Some at) moved = at + moved
write_offset files d None moved = elim d.target [
  | OfNode n ↦ cond d.append (length (node_of files n).bytes) d.offset
  | ReadEnd n ↦ d.offset
  | WriteEnd n ↦ d.offset
  | OfConsole n ↦ d.offset
]

-- the offset after a piece that ends there: with an offset of the call's own the description's stays
abbrev pub moved_on : ℕ → Option ℕ → ℕ → Files → Files
moved_on d None offset files = set_offset d offset files
moved_on d (Some at) offset files = files

-- ---- reading

abbrev pub ready_if : Bool → Readiness
ready_if true = Ready
ready_if false = FileStep

abbrev pub read_ready_of : Files → Description → Option ℕ → ℕ → Target → Readiness
read_ready_of files d at moved (OfNode n) = ready_if (nat_lt (read_offset d at moved) (length (node_of files n).bytes))
read_ready_of files d at moved (ReadEnd p) =
    cond (nat_lt 0 (length (pipe_of files p))) Ready
    (cond (is_open files (WriteEnd p) && moved == 0) NotReady FileStep)
read_ready_of files d at moved (WriteEnd p) = FileStep
read_ready_of files d at moved (OfConsole guest) = ready_if (nat_lt 0 (length (console_of files guest).input))

abbrev pub read_ready : Files → ℕ → Option ℕ → ℕ → Readiness
read_ready files description at moved = let d = description_of files description in read_ready_of files d at moved d.target

-- the bytes that a piece of at most n bytes gets
abbrev pub bytes_there : Files → Description → Option ℕ → ℕ → Target → List ℕ
bytes_there files d at moved (OfNode n) = drop (read_offset d at moved) (node_of files n).bytes
bytes_there files d at moved (ReadEnd p) = pipe_of files p
bytes_there files d at moved (WriteEnd p) = []
bytes_there files d at moved (OfConsole guest) = (console_of files guest).input

-- a pipe, and the input of a console, without its first n bytes
abbrev pub without_front : ℕ → ℕ → Files → Files
without_front p n files = change_pipe p (λ (there : List ℕ). drop n there) files

abbrev pub without_input : ℕ → ℕ → Files → Files
without_input guest n files = change_console guest (λ (c : Console). record c { input = drop n c.input }) files

-- the files after so many bytes were got
abbrev pub got : Files → ℕ → Option ℕ → ℕ → ℕ → Target → Files
got files d at moved n (OfNode node) = moved_on d at (read_offset (description_of files d) at moved + n) files
got files d at moved n (ReadEnd p) = without_front p n files
got files d at moved n (WriteEnd p) = files
got files d at moved n (OfConsole guest) = without_input guest n files

-- a piece of a reading stream; it gets nothing where the stream is at its end
abbrev pub get_piece : Files → ℕ → Option ℕ → ℕ → ℕ → FileResult
get_piece files description at moved most =
    let d = description_of files description in
    let bytes = take most (bytes_there files d at moved d.target) in
    record { answer = pos (length bytes); out = bytes; files = got files description at moved (length bytes) d.target }

-- ---- writing

-- the bytes of a file or a console that a piece of n bytes from that offset may take
abbrev pub cut_at : ℕ → ℕ → ℕ → ℕ
cut_at most offset n = min n (most - offset)

-- the bytes of all files after the piece, so cut
abbrev pub total_after : Files → ℕ → ℕ → ℕ → ℕ
total_after files node offset n =
    let before = length (node_of files node).bytes in
    total_bytes files - before + max before (offset + cut_at most_file_bytes offset n)

abbrev pub write_ready_of : Files → Description → Option ℕ → ℕ → ℕ → Target → Readiness
write_ready_of files d at moved n (OfNode node) =
    let offset = write_offset files d at moved in
    ready_if (nat_lt offset most_file_bytes && nat_le (total_after files node offset n) most_bytes_of_all_files)
write_ready_of files d at moved n (ReadEnd p) = FileStep
write_ready_of files d at moved n (WriteEnd p) =
    cond (not (is_open files (ReadEnd p))) FileStep
    (cond (nat_lt (length (pipe_of files p)) most_pipe_bytes) Ready NotReady)
write_ready_of files d at moved n (OfConsole guest) = ready_if (nat_lt (length (console_of files guest).output) most_console_bytes)

abbrev pub write_ready : Files → ℕ → Option ℕ → ℕ → ℕ → Readiness
write_ready files description at moved n = let d = description_of files description in write_ready_of files d at moved n d.target

-- the error of a write step that can move nothing and does not wait
abbrev pub write_error : Files → Description → Option ℕ → ℕ → Target → ℕ
write_error files d at moved (OfNode node) = cond (nat_lt (write_offset files d at moved) most_file_bytes) ENOSPC EFBIG
write_error files d at moved (ReadEnd p) = EPIPE
write_error files d at moved (WriteEnd p) = EPIPE
write_error files d at moved (OfConsole guest) = ENOSPC

-- a file with those bytes at an offset, and a pipe and the output of a console with those bytes behind theirs
abbrev pub with_bytes_at : ℕ → ℕ → List ℕ → Files → Files
with_bytes_at n offset bytes files = change_node n (λ (x : Inode). record x { bytes = spliced x.bytes offset bytes }) files

abbrev pub with_back : ℕ → List ℕ → Files → Files
with_back p bytes files = change_pipe p (λ (there : List ℕ). there ++ bytes) files

abbrev pub with_output : ℕ → List ℕ → Files → Files
with_output guest bytes files = change_console guest (λ (c : Console). record c { output = c.output ++ bytes }) files

abbrev pub put_bytes : Files → ℕ → Option ℕ → ℕ → List ℕ → Target → FileResult
put_bytes files d at moved bytes (OfNode node) =
    let offset = write_offset files (description_of files d) at moved in
    let n = cut_at most_file_bytes offset (length bytes) in
    done (pos n) (moved_on d at (offset + n) (with_bytes_at node offset (take n bytes) files))
put_bytes files d at moved bytes (ReadEnd p) = done (pos 0) files
put_bytes files d at moved bytes (WriteEnd p) =
    let n = cut_at most_pipe_bytes (length (pipe_of files p)) (length bytes) in
    done (pos n) (with_back p (take n bytes) files)
put_bytes files d at moved bytes (OfConsole guest) =
    let n = cut_at most_console_bytes (length (console_of files guest).output) (length bytes) in
    done (pos n) (with_output guest (take n bytes) files)

-- a piece of n bytes of a writing stream
abbrev pub put_piece : Files → ℕ → Option ℕ → ℕ → ℕ → List ℕ → FileResult
put_piece files description at moved n bytes =
    let d = description_of files description in
    elim (write_ready files description at moved n) [
      | Ready ↦ put_bytes files description at moved bytes d.target
      | NotReady ↦ done (pos 0) files
      | FileStep ↦ fails (write_error files d at moved d.target) files
    ]
