-- The acts of the file calls. The checks of each stand in the order in which they are made.
-- Source: man-pages section 2 (openat, mkdirat, unlinkat, close, lseek, ioctl, pipe2, fstat, getdents64, read, write); the order of checks is this project's own.
use Rattle.file_model.specs.Errno.{ENOENT, EBADF, EBUSY, EEXIST, ENOTDIR, EISDIR, EINVAL, EMFILE, ENOTTY, ENOSPC, ESPIPE, ENOTEMPTY}
use Rattle.file_model.specs.declared.descriptions.Description.{Description}
use Rattle.file_model.specs.declared.descriptions.Target.{Target}
use Rattle.file_model.specs.declared.descriptions.Target.TheVariants.{OfNode, ReadEnd, WriteEnd, OfConsole}
use Rattle.file_model.specs.Files.{Files, Inode, node_of, described, descriptors_of, change_node, set_bytes, set_offset, settled, hold, most_descriptors, most_nodes, Name, closed, description_of, lowest_free, made, opened, set_pipe}
use Rattle.file_model.specs.Operations.{FileResult, done, fails}
use Rattle.file_model.specs.Paths.{Place, Present, Absent, NoPlace, place_of, place_of_names, names_of, ends_with_slash, dot, dot_dot, names_in, child, is_unlinked}
use Rattle.mck_word.specs.Lists.{all_but_last}
use Rattle.mck_word.specs.Maps.{at, count, cut}
use Rattle.mck_word.specs.Words.{has_bit, little_endian}
use Rattle.std.specs.Prelude.{ℕ, ◌+◌, ◌-◌, ◌/◌, ◌%◌, ◌^◌, Bool, true, false, not, cond, ◌&&◌, ◌||◌, ◌==◌, nat_lt, nat_le, min, List, [], ◌∷◌, ◌++◌, length, drop, replicate, get_or, Option, Some, None, unwrap_or, bytes_eq, ℤ, pos, negsuc, ◌+ℤ◌}

-- the description that a descriptor names, or EBADF
abbrev pub with_description : Files → ℕ → ℤ → (ℕ → Description → FileResult) → FileResult
with_description files process fd then = elim (described files process fd) [ None ↦ fails EBADF files | Some d ↦ then d (description_of files d) ]

-- ---- openat

abbrev pub access_of : ℕ → ℕ
access_of flags = flags % 4

abbrev pub O_CREAT : ℕ → Bool
O_CREAT flags = has_bit 6 flags

abbrev pub O_EXCL : ℕ → Bool
O_EXCL flags = has_bit 7 flags

abbrev pub O_TRUNC : ℕ → Bool
O_TRUNC flags = has_bit 9 flags

abbrev pub O_APPEND : ℕ → Bool
O_APPEND flags = has_bit 10 flags

abbrev pub O_DIRECTORY : ℕ → Bool
O_DIRECTORY flags = has_bit 16 flags

abbrev pub may_read : ℕ → Bool
may_read flags = access_of flags == 0 || access_of flags == 2

abbrev pub may_write : ℕ → Bool
may_write flags = access_of flags == 1 || access_of flags == 2

abbrev pub open_node : Files → ℕ → ℕ → ℕ → FileResult
open_node files process flags number =
    done (pos (lowest_free (descriptors_of files process))) (opened process (OfNode number) (may_read flags) (may_write flags) (O_APPEND flags) files)

abbrev pub cut_to_nothing : Bool → ℕ → Files → Files
cut_to_nothing cut n files = cond cut (set_bytes n [] files) files

abbrev pub open_place : Files → ℕ → ℕ → List ℕ → Place → FileResult
open_place files process flags text (NoPlace errno) = fails errno files
open_place files process flags text (Present n) =
    cond (O_CREAT flags && O_EXCL flags) (fails EEXIST files)
    (cond ((node_of files n).directory && (may_write flags || O_CREAT flags)) (fails EISDIR files)
    (cond (not (node_of files n).directory && O_DIRECTORY flags) (fails ENOTDIR files)
    (open_node (cut_to_nothing (O_TRUNC flags && may_write flags) n files) process flags n)))
open_place files process flags text (Absent directory name) =
    cond (not (O_CREAT flags)) (fails ENOENT files)
    (cond (ends_with_slash text) (fails EISDIR files)
    (cond (nat_le most_nodes (count files.nodes)) (fails ENOSPC files)
    (open_node (made directory name false files) process flags files.next_node)))

abbrev pub openat : Files → ℕ → ℤ → ℕ → List ℕ → FileResult
openat files process dirfd flags text =
    cond (access_of flags == 3 || (O_CREAT flags && O_DIRECTORY flags)) (fails EINVAL files)
    (cond (nat_le most_descriptors (count (descriptors_of files process))) (fails EMFILE files)
    (open_place files process flags text (place_of files process dirfd text)))

-- ---- mkdirat and unlinkat

abbrev pub make_directory : Files → Place → FileResult
make_directory files (NoPlace errno) = fails errno files
make_directory files (Present n) = fails EEXIST files
make_directory files (Absent directory name) =
    cond (nat_le most_nodes (count files.nodes)) (fails ENOSPC files) (done (pos 0) (made directory name true files))

abbrev pub mkdirat : Files → ℕ → ℤ → List ℕ → FileResult
mkdirat files process dirfd text = make_directory files (place_of files process dirfd text)

abbrev pub AT_REMOVEDIR : ℕ
AT_REMOVEDIR = 0x200

-- the node has no name any more
abbrev pub unlink : ℕ → Files → Files
unlink n files = settled (change_node n (λ (x : Inode). record x { name = None }) files)

abbrev pub unlinked : ℕ → Files → FileResult
unlinked n files = done (pos 0) (unlink n files)

abbrev pub holds_names : Files → ℕ → Bool
holds_names files n = nat_lt 0 (length (names_in files n))

abbrev pub unlink_place : Files → ℕ → Place → FileResult
unlink_place files flags (NoPlace errno) = fails errno files
unlink_place files flags (Absent directory name) = fails ENOENT files
unlink_place files flags (Present n) =
    cond (flags == 0)
    (cond (node_of files n).directory (fails EISDIR files) (unlinked n files))
    (cond (not (node_of files n).directory) (fails ENOTDIR files)
    (cond (holds_names files n) (fails ENOTEMPTY files)
    (unlinked n files)))

-- The last name may be missing, `.` or `..`: each such path has an error of its own, behind the errors up to the directory of that name.
abbrev pub special_last : List Name → Option (ℕ × ℕ)
special_last [] = Some (EISDIR, EBUSY)
special_last (name ∷ names) = let last = get_or (name ∷ names) (length names) [] in
    cond (bytes_eq last dot) (Some (EISDIR, EINVAL)) (cond (bytes_eq last dot_dot) (Some (EISDIR, ENOTEMPTY)) None)

abbrev pub unlink_last : Files → ℕ → ℤ → ℕ → List ℕ → FileResult
unlink_last files process dirfd flags text = elim (special_last (names_of text)) [
  | None ↦ unlink_place files flags (place_of files process dirfd text)
  | Some e ↦ fails (cond (flags == 0) e.0 e.1) files
]

-- the directory of the last name is there and is a directory
abbrev pub unlink_below : Files → ℕ → ℤ → ℕ → List ℕ → Place → FileResult
unlink_below files process dirfd flags text (NoPlace errno) = fails errno files
unlink_below files process dirfd flags text (Absent directory name) = fails ENOENT files
unlink_below files process dirfd flags text (Present n) = unlink_last files process dirfd flags text

abbrev pub unlinkat : Files → ℕ → ℤ → ℕ → List ℕ → FileResult
unlinkat files process dirfd flags text =
    cond (not (flags == 0 || flags == AT_REMOVEDIR)) (fails EINVAL files)
    (unlink_below files process dirfd flags text (place_of_names files process dirfd text (all_but_last (names_of text))))

-- ---- close, ioctl, lseek

abbrev pub magnitude : ℤ → ℕ
magnitude (pos n) = n
magnitude (negsuc n) = 0

abbrev pub close : Files → ℕ → ℤ → FileResult
close files process fd = with_description files process fd (λ d x. done (pos 0) (closed process (magnitude fd) files))

abbrev pub ioctl : Files → ℕ → ℤ → FileResult
ioctl files process fd = with_description files process fd (λ d x. fails ENOTTY files)

abbrev pub seek_to : Files → ℕ → ℤ → FileResult
seek_to files d (negsuc n) = fails EINVAL files
seek_to files d (pos n) = cond (nat_lt n (2 ^ 63)) (done (pos n) (set_offset d n files)) (fails EINVAL files)

abbrev pub seek_from : Files → ℕ → Inode → ℤ → ℤ → FileResult
seek_from files d node offset (negsuc n) = fails EINVAL files
seek_from files d node offset (pos whence) =
    cond (whence == 0) (seek_to files d offset)
    (cond node.directory (fails EINVAL files)
    (cond (whence == 1) (seek_to files d (pos (description_of files d).offset +ℤ offset))
    (cond (whence == 2) (seek_to files d (pos (length node.bytes) +ℤ offset))
    (fails EINVAL files))))

abbrev pub lseek : Files → ℕ → ℤ → ℤ → ℤ → FileResult
lseek files process fd offset whence = with_description files process fd (λ d x. elim x.target [
  | OfNode n ↦ seek_from files d (node_of files n) offset whence
  | ReadEnd n ↦ fails ESPIPE files
  | WriteEnd n ↦ fails ESPIPE files
  | OfConsole n ↦ fails ESPIPE files
])

-- ---- pipe2

abbrev pub O_CLOEXEC : ℕ
O_CLOEXEC = 0x80000

-- both ends of a new pipe, the read end first
abbrev pub read_end_opened : ℕ → Files → Files
read_end_opened process files = let p = lowest_free files.pipes in opened process (ReadEnd p) true false false (set_pipe p [] files)

abbrev pub pipe_opened : ℕ → Files → Files
pipe_opened process files = opened process (WriteEnd (lowest_free files.pipes)) false true false (read_end_opened process files)

abbrev pub pipe_result : ℕ → Files → FileResult
pipe_result process files = record {
  answer = pos 0;
  files = pipe_opened process files;
  out = little_endian 4 (lowest_free (descriptors_of files process)) ++ little_endian 4 (lowest_free (descriptors_of (read_end_opened process files) process));
}

abbrev pub pipe2 : Files → ℕ → ℕ → FileResult
pipe2 files process flags =
    cond (not (flags == 0 || flags == O_CLOEXEC)) (fails EINVAL files)
    (cond (nat_lt most_descriptors (count (descriptors_of files process) + 2)) (fails EMFILE files)
    (pipe_result process files))

-- ---- fstat

abbrev pub stat_record : ℕ → ℕ → ℕ → List ℕ
stat_record node mode size =
    little_endian 8 1 ++ little_endian 8 node ++ little_endian 4 mode ++ little_endian 4 1 ++ replicate 24 0
    ++ little_endian 8 size ++ little_endian 4 4096 ++ replicate 4 0 ++ little_endian 8 ((size + 511) / 512) ++ replicate 56 0

abbrev pub stat_of_target : Files → Target → List ℕ
stat_of_target files (OfNode n) = cond (node_of files n).directory (stat_record n 0o40755 0) (stat_record n 0o100644 (length (node_of files n).bytes))
stat_of_target files (ReadEnd n) = stat_record 0 0o10600 0
stat_of_target files (WriteEnd n) = stat_record 0 0o10600 0
stat_of_target files (OfConsole n) = stat_record 0 0o20620 0

abbrev pub fstat : Files → ℕ → ℤ → FileResult
fstat files process fd = with_description files process fd (λ d x. record { answer = pos 0; out = stat_of_target files x.target; files = files })

-- ---- getdents64

abbrev pub padding : ℕ → ℕ
padding n = (8 - n % 8) % 8

-- node, the next place, length, type and name of one entry
abbrev pub directory_record : ℕ → ℕ → Bool → Name → List ℕ
directory_record node next directory name =
    let plain = 19 + length name + 1 in
    little_endian 8 node ++ little_endian 8 next ++ little_endian 2 (plain + padding plain) ++ cond directory 4 8 ∷ name ++ replicate (1 + padding plain) 0

abbrev pub entry_record : Files → ℕ → ℕ → Name → List ℕ
entry_record files here next name = let n = unwrap_or (child files here name) 0 in directory_record n next (node_of files n).directory name

abbrev pub entry_records : Files → ℕ → ℕ → List Name → List (List ℕ)
entry_records files here place [] = []
entry_records files here place (name ∷ names) = entry_record files here (place + 1) name ∷ entry_records files here (place + 1) names

-- all records of the directory: itself, the one above, then its names
abbrev pub all_records : Files → ℕ → List (List ℕ)
all_records files here =
    directory_record here 1 true dot ∷ directory_record (node_of files here).parent 2 true dot_dot ∷ entry_records files here 2 (names_in files here)

-- as many whole records from the front as fit
abbrev pub records_that_fit : ℕ → List (List ℕ) → List (List ℕ)
records_that_fit most [] = []
records_that_fit most (r ∷ rs) = cond (nat_le (length r) most) (r ∷ records_that_fit (most - length r) rs) []

abbrev pub joined : List (List ℕ) → List ℕ
joined [] = []
joined (r ∷ rs) = r ++ joined rs

abbrev pub list_records : Files → ℕ → ℕ → List (List ℕ) → FileResult
list_records files d most left =
    let fit = records_that_fit (min most 65_536) left in
    cond (nat_lt 0 (length left) && length fit == 0) (fails EINVAL files)
    (record { answer = pos (length (joined fit)); out = joined fit; files = set_offset d ((description_of files d).offset + length fit) files })

abbrev pub list_node : Files → ℕ → ℕ → ℕ → FileResult
list_node files d most n =
    cond (not (node_of files n).directory) (fails ENOTDIR files)
    (cond (is_unlinked n (node_of files n).name) (fails ENOENT files)
    (list_records files d most (drop (description_of files d).offset (all_records files n))))

abbrev pub getdents : Files → ℕ → ℤ → ℕ → FileResult
getdents files process fd most = with_description files process fd (λ d x. elim x.target [
  | OfNode n ↦ list_node files d most n
  | ReadEnd n ↦ fails ENOTDIR files
  | WriteEnd n ↦ fails ENOTDIR files
  | OfConsole n ↦ fails ENOTDIR files
])

-- ---- the acts of the reading and writing calls: the answer is the description, which the call holds from then on

abbrev pub is_directory_target : Files → Target → Bool
is_directory_target files (OfNode n) = (node_of files n).directory
is_directory_target files (ReadEnd n) = false
is_directory_target files (WriteEnd n) = false
is_directory_target files (OfConsole n) = false

abbrev pub is_node_target : Target → Bool
is_node_target (OfNode n) = true
is_node_target (ReadEnd n) = false
is_node_target (WriteEnd n) = false
is_node_target (OfConsole n) = false

-- an offset of the call's own is refused on a pipe or console, and where it is negative
abbrev pub offset_error : Target → Option ℤ → Option ℕ
offset_error target None = None
offset_error target (Some at) = cond (not (is_node_target target)) (Some ESPIPE) (elim at [ pos n ↦ None | negsuc n ↦ Some EINVAL ])

abbrev pub count_is_valid : ℤ → Bool
count_is_valid (pos n) = nat_le n 16
count_is_valid (negsuc n) = false

abbrev pub found : Files → ℕ → Target → Option ℤ → ℤ → FileResult
found files d target at count = elim (offset_error target at) [
  | Some errno ↦ fails errno files
  | None ↦ cond (count_is_valid count) (done (pos d) (hold d files)) (fails EINVAL files)
]

abbrev pub read_act : Files → ℕ → ℤ → Option ℤ → ℤ → FileResult
read_act files process fd at count = with_description files process fd (λ d x.
    cond (not x.readable) (fails EBADF files)
    (cond (is_directory_target files x.target) (fails EISDIR files)
    (found files d x.target at count)))

abbrev pub write_act : Files → ℕ → ℤ → Option ℤ → ℤ → FileResult
write_act files process fd at count = with_description files process fd (λ d x.
    cond (not x.writable) (fails EBADF files) (found files d x.target at count))
