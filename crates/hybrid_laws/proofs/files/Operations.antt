-- What the operations on files do to the descriptions that calls hold: an act of a reading or writing call takes one, giving back leaves one, and every other operation keeps them.
use Rattle.file_model.specs.Acts as Acts
use Rattle.file_model.specs.Acts.{AT_REMOVEDIR, O_APPEND, O_CLOEXEC, O_CREAT, O_DIRECTORY, O_EXCL, O_TRUNC, access_of, all_records, close, count_is_valid, cut_to_nothing, fstat, getdents, holds_names, ioctl, is_directory_target, is_node_target, joined, list_node, list_records, lseek, make_directory, may_read, may_write, mkdirat, open_node, open_place, openat, pipe2, pipe_opened, pipe_result, read_act, read_end_opened, records_that_fit, seek_from, seek_to, special_last, stat_of_target, unlink_below, unlink_last, unlink_place, unlinkat, unlinked, with_description, write_act}
use Rattle.file_model.specs.Errno.{EBADF, EEXIST, EINVAL, EISDIR, EMFILE, ENOENT, ENOSPC, ENOTDIR, ENOTEMPTY, ENOTTY, ESPIPE}
use Rattle.file_model.specs.Files.{Files, Inode, change_node, closed, described, description_of, descriptors_of, hold, is_named, leave, lowest_free, made, most_descriptors, most_file_bytes, most_nodes, no_description, node_of, opened, set_offset, set_pipe, settled}
use Rattle.file_model.specs.Operations.{FileResult, done, fails}
use Rattle.file_model.specs.Paths.{Absent, NoPlace, Place, Present, ends_with_slash, is_unlinked, names_of, place_of, place_of_names}
use Rattle.file_model.specs.Streams.{bytes_there, cut_at, get_piece, got, moved_on, put_bytes, put_piece, read_offset, with_bytes_at, write_error, write_offset, write_ready}
use Rattle.file_model.specs.declared.descriptions.Description.{Description}
use Rattle.file_model.specs.declared.descriptions.Target.TheVariants.{OfNode, ReadEnd, WriteEnd, OfConsole}
use Rattle.file_model.specs.declared.descriptions.Target.{Target}
use Rattle.file_model.specs.declared.operations.Readiness.TheVariants.{Ready, NotReady, FileStep}
use Rattle.file_model.specs.declared.operations.Readiness.{Readiness}
use Rattle.hybrid_laws.proofs.files.Descriptions.{carries-keep, carries-new, carries-one, carries-same, carries-set, carries-then}
use Rattle.hybrid_laws.proofs.maps.LowestFree.{free-key}
use Rattle.hybrid_laws.specs.CallSteps.{Carries, calls_at, holds_it}
use Rattle.mck_word.specs.Lists.{all_but_last}
use Rattle.mck_word.specs.Maps.{count, Map, at, change, cut, put}
use Rattle.std.proofs.Common.{arith, refl, subst, sym}
use Rattle.std.proofs.lemmas.Bool.Decides.{nat_tests}
use Rattle.std.specs.Prelude.{Bool, List, None, Option, Some, [], cond, drop, false, length, min, nat_le, nat_lt, negsuc, not, pos, take, true, unwrap_or, ℕ, ℤ, ◌&&◌, ◌+ℤ◌, ◌+◌, ◌-◌, ◌==◌, ◌^◌, ◌||◌, ◌≡◌, ◌≤◌}

-- ---- the primitives

pub cond-case : {A : Type 0} (P : A → Type 0) (b : Bool) (x y : A) → P x → P y → P (cond b x y)
cond-case P true x y p q = p
cond-case P false x y p q = q

pub carries-settled : (files : Files) → Carries None None files.descriptions (settled files).descriptions
unfolding settled
carries-settled files = carries-keep (λ d (x : Description). nat_lt 0 x.calls || is_named files d) (λ d x l. let b : nat_lt 0 x.calls ≡ true = grind (arith, nat_tests, l) in rw b refl) files.descriptions

-- a description that some call holds is there
present-of : (ds : Map Description) (d : ℕ) → 1 ≤ calls_at ds d → (x : Description) × (at ds d ≡ Some x) × (1 ≤ x.calls)
present-of ds d l = go (at ds d) refl l
  where
    go : (o : Option Description) → at ds d ≡ o → 1 ≤ (unwrap_or o no_description).calls → (x : Description) × (at ds d ≡ Some x) × (1 ≤ x.calls)
    go None e l = absurd (omega (arith, l))
    go (Some x) e l = (x, e, l)

own-holds : (d : ℕ) → holds_it d (Some d) ≡ 1
own-holds d = let b : (d == d) ≡ true = grind (arith, nat_tests) in rw b refl

other-holds : (d n : ℕ) → (d == n) ≡ false → holds_it d (Some n) ≡ 0
other-holds d n f = let b : (n == d) ≡ false = grind (arith, nat_tests, f) in rw b refl

pub carries-hold : (files : Files) (d : ℕ) (x : Description) → at files.descriptions d ≡ Some x → Carries None (Some d) files.descriptions (hold d files).descriptions
carries-hold files d x there = carries-one None (Some d) files.descriptions d x there (λ (y : Description). record y { calls = y.calls + 1 }) (λ j f. sym (other-holds j d f)) (let o = own-holds d in omega (arith, o)) (λ y. refl)

pub carries-leave : (files : Files) (d : ℕ) → 1 ≤ calls_at files.descriptions d → Carries (Some d) None files.descriptions (leave d files).descriptions
carries-leave files d l =
    let p = present-of files.descriptions d l in
    let o = own-holds d in
    let files' : Files = record files { descriptions = change files.descriptions d (λ (y : Description). record y { calls = y.calls - 1 }) } in
    carries-then (Some d) None None files.descriptions files'.descriptions (leave d files).descriptions
    (carries-one (Some d) None files.descriptions d p.0 p.1 (λ (y : Description). record y { calls = y.calls - 1 }) (λ j f. other-holds j d f) (omega (arith, o, p.2)) (λ y. refl)) (carries-settled files')

pub carries-offset : (files : Files) (d offset : ℕ) → Carries None None files.descriptions (set_offset d offset files).descriptions
carries-offset files d offset = carries-set files.descriptions d (λ (y : Description). record y { offset = offset }) (λ y. refl) (λ y. refl)

pub carries-opened : (process : ℕ) (target : Target) (r w a : Bool) (files : Files) → Carries None None files.descriptions (opened process target r w a files).descriptions
carries-opened process target r w a files = carries-new files.descriptions (lowest_free files.descriptions) (record { target = target; readable = r; writable = w; append = a; offset = 0; calls = 0 }) refl (free-key files.descriptions)

-- ---- what a descriptor names

-- a description that isn't the one for none is there
pub found-there : (files : Files) (d : ℕ) (P : Description → Type 0) → (P no_description → ⊥) → P (description_of files d) → at files.descriptions d ≡ Some (description_of files d)
found-there files d P none p = go (at files.descriptions d) refl p
  where
    go : (o : Option Description) → at files.descriptions d ≡ o → P (unwrap_or o no_description) → at files.descriptions d ≡ Some (unwrap_or o no_description)
    go None e p = absurd (none p)
    go (Some x) e p = e

pub with-description : (P : FileResult → Type 0) (files : Files) (process : ℕ) (fd : ℤ) (then : ℕ → Description → FileResult) → P (fails EBADF files) → ((d : ℕ) → P (then d (description_of files d))) → P (with_description files process fd then)
with-description P files process fd then bad good = go (described files process fd)
  where
    go : (o : Option ℕ) → P (elim o [ None ↦ fails EBADF files | Some d ↦ then d (description_of files d) ])
    go None = bad
    go (Some d) = good d

-- ---- the operations that keep what is held

pub record PlainStep (files : Files) (r : FileResult) : Type 0 where
  pub kept : Carries None None files.descriptions r.files.descriptions

module _ (files : Files) where
  abbrev Plain : FileResult → Type 0
  Plain r = PlainStep files r

  -- the descriptions stay
  abbrev stays : Carries None None files.descriptions files.descriptions
  stays = carries-same None files.descriptions

  plain-cond : (b : Bool) (x y : FileResult) → Plain x → Plain y → Plain (cond b x y)
  plain-cond b x y p q = cond-case (PlainStep files) b x y p q

  open-node : (process flags n : ℕ) (b : Bool) → Plain (open_node (cut_to_nothing b n files) process flags n)
  open-node process flags n true = record { kept = carries-opened process (OfNode n) (may_read flags) (may_write flags) (O_APPEND flags) (cut_to_nothing true n files) }
  open-node process flags n false = record { kept = carries-opened process (OfNode n) (may_read flags) (may_write flags) (O_APPEND flags) files }

  pub plain-openat : (process : ℕ) (dirfd : ℤ) (flags : ℕ) (text : List ℕ) → Plain (openat files process dirfd flags text)
  plain-openat process dirfd flags text =
      plain-cond (access_of flags == 3 || (O_CREAT flags && O_DIRECTORY flags)) (fails EINVAL files) (cond (nat_le most_descriptors (count (descriptors_of files process))) (fails EMFILE files) (open_place files process flags text (place_of files process dirfd text))) (record { kept = stays })
      (plain-cond (nat_le most_descriptors (count (descriptors_of files process))) (fails EMFILE files) (open_place files process flags text (place_of files process dirfd text)) (record { kept = stays }) (at-place (place_of files process dirfd text)))
    where
      at-place : (x : Place) → Plain (open_place files process flags text x)
      at-place (NoPlace errno) = (record { kept = stays })
      at-place (Present n) = plain-cond (O_CREAT flags && O_EXCL flags) (fails EEXIST files) (cond ((node_of files n).directory && (may_write flags || O_CREAT flags)) (fails EISDIR files) (cond (not (node_of files n).directory && O_DIRECTORY flags) (fails ENOTDIR files) (open_node (cut_to_nothing (O_TRUNC flags && may_write flags) n files) process flags n))) (record { kept = stays })
          (plain-cond ((node_of files n).directory && (may_write flags || O_CREAT flags)) (fails EISDIR files) (cond (not (node_of files n).directory && O_DIRECTORY flags) (fails ENOTDIR files) (open_node (cut_to_nothing (O_TRUNC flags && may_write flags) n files) process flags n)) (record { kept = stays })
          (plain-cond (not (node_of files n).directory && O_DIRECTORY flags) (fails ENOTDIR files) (open_node (cut_to_nothing (O_TRUNC flags && may_write flags) n files) process flags n) (record { kept = stays }) (open-node process flags n (O_TRUNC flags && may_write flags))))
      at-place (Absent above name) = plain-cond (not (O_CREAT flags)) (fails ENOENT files) (cond (ends_with_slash text) (fails EISDIR files) (cond (nat_le most_nodes (count files.nodes)) (fails ENOSPC files) (open_node (made above name false files) process flags files.next_node))) (record { kept = stays })
          (plain-cond (ends_with_slash text) (fails EISDIR files) (cond (nat_le most_nodes (count files.nodes)) (fails ENOSPC files) (open_node (made above name false files) process flags files.next_node)) (record { kept = stays })
          (plain-cond (nat_le most_nodes (count files.nodes)) (fails ENOSPC files) (open_node (made above name false files) process flags files.next_node) (record { kept = stays })
          (record { kept = carries-opened process (OfNode files.next_node) (may_read flags) (may_write flags) (O_APPEND flags) (made above name false files) })))

  pub plain-mkdirat : (process : ℕ) (dirfd : ℤ) (text : List ℕ) → Plain (mkdirat files process dirfd text)
  plain-mkdirat process dirfd text = at-place (place_of files process dirfd text)
    where
      at-place : (x : Place) → Plain (make_directory files x)
      at-place (NoPlace errno) = (record { kept = stays })
      at-place (Present n) = (record { kept = stays })
      at-place (Absent above name) = plain-cond (nat_le most_nodes (count files.nodes)) (fails ENOSPC files) (done (pos 0) (made above name true files)) (record { kept = stays }) (record { kept = stays })

  plain-unlinked : (n : ℕ) → Plain (unlinked n files)
  plain-unlinked n = record { kept = carries-settled (change_node n (λ (x : Inode). record x { name = None }) files) }

  plain-unlink_place : (flags : ℕ) (x : Place) → Plain (unlink_place files flags x)
  plain-unlink_place flags (NoPlace errno) = (record { kept = stays })
  plain-unlink_place flags (Absent above name) = (record { kept = stays })
  plain-unlink_place flags (Present n) =
      plain-cond (flags == 0) (cond (node_of files n).directory (fails EISDIR files) (unlinked n files)) (cond (not (node_of files n).directory) (fails ENOTDIR files) (cond (holds_names files n) (fails ENOTEMPTY files) (unlinked n files)))
      (plain-cond (node_of files n).directory (fails EISDIR files) (unlinked n files) (record { kept = stays }) (plain-unlinked n))
      (plain-cond (not (node_of files n).directory) (fails ENOTDIR files) (cond (holds_names files n) (fails ENOTEMPTY files) (unlinked n files)) (record { kept = stays })
      (plain-cond (holds_names files n) (fails ENOTEMPTY files) (unlinked n files) (record { kept = stays }) (plain-unlinked n)))

  plain-unlink_last : (process : ℕ) (dirfd : ℤ) (flags : ℕ) (text : List ℕ) → Plain (unlink_last files process dirfd flags text)
  plain-unlink_last process dirfd flags text = go (special_last (names_of text))
    where
      go : (o : Option (ℕ × ℕ)) → Plain (elim o [ None ↦ unlink_place files flags (place_of files process dirfd text) | Some e ↦ fails (cond (flags == 0) e.0 e.1) files ])
      go None = plain-unlink_place flags (place_of files process dirfd text)
      go (Some e) = (record { kept = stays })

  pub plain-unlinkat : (process : ℕ) (dirfd : ℤ) (flags : ℕ) (text : List ℕ) → Plain (unlinkat files process dirfd flags text)
  plain-unlinkat process dirfd flags text = plain-cond (not (flags == 0 || flags == AT_REMOVEDIR)) (fails EINVAL files) (unlink_below files process dirfd flags text (place_of_names files process dirfd text (all_but_last (names_of text)))) (record { kept = stays }) (at-place (place_of_names files process dirfd text (all_but_last (names_of text))))
    where
      at-place : (x : Place) → Plain (unlink_below files process dirfd flags text x)
      at-place (NoPlace errno) = (record { kept = stays })
      at-place (Absent above name) = (record { kept = stays })
      at-place (Present n) = plain-unlink_last process dirfd flags text

  pub plain-close : (process : ℕ) (fd : ℤ) → Plain (close files process fd)
  plain-close process fd = with-description (PlainStep files) files process fd (λ d x. done (pos 0) (closed process (Acts.magnitude fd) files)) (record { kept = stays })
      (λ d. record { kept = carries-settled (record files { descriptors = put files.descriptors process (cut (descriptors_of files process) (Acts.magnitude fd)) }) })

  plain-seek : (d : ℕ) (offset : ℤ) → Plain (seek_to files d offset)
  plain-seek d (negsuc n) = (record { kept = stays })
  plain-seek d (pos n) = plain-cond (nat_lt n (2 ^ 63)) (done (pos n) (set_offset d n files)) (fails EINVAL files) (record { kept = carries-offset files d n }) (record { kept = stays })

  plain-seek_from : (d : ℕ) (node : Inode) (offset whence : ℤ) → Plain (seek_from files d node offset whence)
  plain-seek_from d node offset (negsuc n) = (record { kept = stays })
  plain-seek_from d node offset (pos whence) =
      let from = description_of files d in
      plain-cond (whence == 0) (seek_to files d offset) (cond node.directory (fails EINVAL files) (cond (whence == 1) (seek_to files d (pos from.offset +ℤ offset)) (cond (whence == 2) (seek_to files d (pos (length node.bytes) +ℤ offset)) (fails EINVAL files)))) (plain-seek d offset)
      (plain-cond node.directory (fails EINVAL files) (cond (whence == 1) (seek_to files d (pos from.offset +ℤ offset)) (cond (whence == 2) (seek_to files d (pos (length node.bytes) +ℤ offset)) (fails EINVAL files))) (record { kept = stays })
      (plain-cond (whence == 1) (seek_to files d (pos from.offset +ℤ offset)) (cond (whence == 2) (seek_to files d (pos (length node.bytes) +ℤ offset)) (fails EINVAL files)) (plain-seek d (pos from.offset +ℤ offset))
      (plain-cond (whence == 2) (seek_to files d (pos (length node.bytes) +ℤ offset)) (fails EINVAL files) (plain-seek d (pos (length node.bytes) +ℤ offset)) (record { kept = stays }))))

  pub plain-lseek : (process : ℕ) (fd offset whence : ℤ) → Plain (lseek files process fd offset whence)
  plain-lseek process fd offset whence = with-description (PlainStep files) files process fd (λ d x. elim x.target [ OfNode n ↦ seek_from files d (node_of files n) offset whence | ReadEnd n ↦ fails ESPIPE files | WriteEnd n ↦ fails ESPIPE files | OfConsole n ↦ fails ESPIPE files ]) (record { kept = stays }) (λ d. go d (description_of files d).target)
    where
      go : (d : ℕ) (t : Target) → Plain (elim t [ OfNode n ↦ seek_from files d (node_of files n) offset whence | ReadEnd n ↦ fails ESPIPE files | WriteEnd n ↦ fails ESPIPE files | OfConsole n ↦ fails ESPIPE files ])
      go d (OfNode n) = plain-seek_from d (node_of files n) offset whence
      go d (ReadEnd n) = (record { kept = stays })
      go d (WriteEnd n) = (record { kept = stays })
      go d (OfConsole n) = (record { kept = stays })

  pub plain-ioctl : (process : ℕ) (fd : ℤ) → Plain (ioctl files process fd)
  plain-ioctl process fd = with-description (PlainStep files) files process fd (λ d x. fails ENOTTY files) (record { kept = stays }) (λ d. (record { kept = stays }))

  pub plain-fstat : (process : ℕ) (fd : ℤ) → Plain (fstat files process fd)
  plain-fstat process fd = with-description (PlainStep files) files process fd (λ d x. record { answer = pos 0; out = stat_of_target files x.target; files = files }) (record { kept = stays }) (λ d. (record { kept = stays }))

  pub plain-pipe2 : (process flags : ℕ) → Plain (pipe2 files process flags)
  plain-pipe2 process flags =
      plain-cond (not (flags == 0 || flags == O_CLOEXEC)) (fails EINVAL files) (cond (nat_lt most_descriptors (count (descriptors_of files process) + 2)) (fails EMFILE files) (pipe_result process files)) (record { kept = stays })
      (plain-cond (nat_lt most_descriptors (count (descriptors_of files process) + 2)) (fails EMFILE files) (pipe_result process files) (record { kept = stays })
      (record {
        kept = carries-then None None None files.descriptions (read_end_opened process files).descriptions (pipe_opened process files).descriptions
            (carries-opened process (ReadEnd (lowest_free files.pipes)) true false false (set_pipe (lowest_free files.pipes) [] files)) (carries-opened process (WriteEnd (lowest_free files.pipes)) false true false (read_end_opened process files));
      }))

  pub plain-getdents : (process : ℕ) (fd : ℤ) (most : ℕ) → Plain (getdents files process fd most)
  plain-getdents process fd most = with-description (PlainStep files) files process fd (λ d x. elim x.target [ OfNode n ↦ list_node files d most n | ReadEnd n ↦ fails ENOTDIR files | WriteEnd n ↦ fails ENOTDIR files | OfConsole n ↦ fails ENOTDIR files ]) (record { kept = stays }) (λ d. go d (description_of files d).target)
    where
      listed : (d : ℕ) (left : List (List ℕ)) → Plain (list_records files d most left)
      listed d left = plain-cond (nat_lt 0 (length left) && length (records_that_fit (min most 65_536) left) == 0) (fails EINVAL files)
          (record { answer = pos (length (joined (records_that_fit (min most 65_536) left))); out = joined (records_that_fit (min most 65_536) left); files = set_offset d ((description_of files d).offset + length (records_that_fit (min most 65_536) left)) files }) (record { kept = stays })
          (record { kept = carries-offset files d ((description_of files d).offset + length (records_that_fit (min most 65_536) left)) })

      go : (d : ℕ) (t : Target) → Plain (elim t [ OfNode n ↦ list_node files d most n | ReadEnd n ↦ fails ENOTDIR files | WriteEnd n ↦ fails ENOTDIR files | OfConsole n ↦ fails ENOTDIR files ])
      go d (OfNode n) = plain-cond (not (node_of files n).directory) (fails ENOTDIR files) (cond (is_unlinked n (node_of files n).name) (fails ENOENT files) (list_records files d most (drop (description_of files d).offset (all_records files n)))) (record { kept = stays })
          (plain-cond (is_unlinked n (node_of files n).name) (fails ENOENT files) (list_records files d most (drop (description_of files d).offset (all_records files n))) (record { kept = stays }) (listed d (drop (description_of files d).offset (all_records files n))))
      go d (ReadEnd n) = (record { kept = stays })
      go d (WriteEnd n) = (record { kept = stays })
      go d (OfConsole n) = (record { kept = stays })

-- ---- the acts of reading and writing calls

-- a positive answer is the number of the description that is held from then on
abbrev pub FindsAt : ℤ → Map Description → Map Description → Type 0
FindsAt (pos n) ds es = Carries None (Some n) ds es
FindsAt (negsuc n) ds es = Carries None None ds es

pub record FindStep (files : Files) (r : FileResult) : Type 0 where
  pub kept : FindsAt r.answer files.descriptions r.files.descriptions

module _ (files : Files) where
  abbrev no_change : Carries None None files.descriptions files.descriptions
  no_change = carries-same None files.descriptions

  find-cond : (b : Bool) (x y : FileResult) → FindStep files x → FindStep files y → FindStep files (cond b x y)
  find-cond b x y p q = cond-case (FindStep files) b x y p q

  valid : (d : ℕ) (x : Description) → at files.descriptions d ≡ Some x → (count : ℤ) → FindStep files (cond (count_is_valid count) (done (pos d) (hold d files)) (fails EINVAL files))
  valid d x there count = find-cond (count_is_valid count) (done (pos d) (hold d files)) (fails EINVAL files) (record { kept = carries-hold files d x there }) (record { kept = no_change })

  finds : (d : ℕ) (x : Description) → at files.descriptions d ≡ Some x → (t : Target) (own : Option ℤ) (count : ℤ) → FindStep files (Acts.found files d t own count)
  finds d x there t None count = valid d x there count
  finds d x there t (Some (pos n)) count = go (is_node_target t)
    where
      go : (b : Bool) → FindStep files (elim (cond (not b) (Some ESPIPE) None) [ Some errno ↦ fails errno files | None ↦ cond (count_is_valid count) (done (pos d) (hold d files)) (fails EINVAL files) ])
      go true = valid d x there count
      go false = record { kept = no_change }
  finds d x there t (Some (negsuc n)) count = go (is_node_target t)
    where
      go : (b : Bool) → FindStep files (elim (cond (not b) (Some ESPIPE) (Some EINVAL)) [ Some errno ↦ fails errno files | None ↦ cond (count_is_valid count) (done (pos d) (hold d files)) (fails EINVAL files) ])
      go true = record { kept = no_change }
      go false = record { kept = no_change }

  pub find-read : (process : ℕ) (fd : ℤ) (own : Option ℤ) (count : ℤ) → FindStep files (read_act files process fd own count)
  find-read process fd own count = with-description (FindStep files) files process fd (λ d x. cond (not x.readable) (fails EBADF files) (cond (is_directory_target files x.target) (fails EISDIR files) (Acts.found files d x.target own count))) (record { kept = no_change }) (λ d. go d (description_of files d).readable refl)
    where
      go : (d : ℕ) (b : Bool) → (description_of files d).readable ≡ b → FindStep files (cond (not b) (fails EBADF files) (cond (is_directory_target files (description_of files d).target) (fails EISDIR files) (Acts.found files d (description_of files d).target own count)))
      go d false e = record { kept = no_change }
      go d true e = find-cond (is_directory_target files (description_of files d).target) (fails EISDIR files) (Acts.found files d (description_of files d).target own count) (record { kept = no_change })
          (finds d (description_of files d) (found-there files d (λ y. y.readable ≡ true) (λ z. grind (arith, z)) e) (description_of files d).target own count)

  pub find-write : (process : ℕ) (fd : ℤ) (own : Option ℤ) (count : ℤ) → FindStep files (write_act files process fd own count)
  find-write process fd own count = with-description (FindStep files) files process fd (λ d x. cond (not x.writable) (fails EBADF files) (Acts.found files d x.target own count)) (record { kept = no_change }) (λ d. go d (description_of files d).writable refl)
    where
      go : (d : ℕ) (b : Bool) → (description_of files d).writable ≡ b → FindStep files (cond (not b) (fails EBADF files) (Acts.found files d (description_of files d).target own count))
      go d false e = record { kept = no_change }
      go d true e = finds d (description_of files d) (found-there files d (λ y. y.writable ≡ true) (λ z. grind (arith, z)) e) (description_of files d).target own count

  -- ---- pieces of streams
  moved-carries : (files' : Files) → files'.descriptions ≡ files.descriptions → (d : ℕ) (own : Option ℕ) (offset : ℕ) → Carries None None files.descriptions (moved_on d own offset files').descriptions
  moved-carries files' e d None offset = subst (λ (ds : Map Description). Carries None None ds (set_offset d offset files').descriptions) e (carries-offset files' d offset)
  moved-carries files' e d (Some n) offset = subst (λ (ds : Map Description). Carries None None files.descriptions ds) (sym e) no_change

  got-carries : (d : ℕ) (own : Option ℕ) (moved n : ℕ) (t : Target) → Carries None None files.descriptions (got files d own moved n t).descriptions
  got-carries d own moved n (OfNode k) = moved-carries files refl d own (read_offset (description_of files d) own moved + n)
  got-carries d own moved n (ReadEnd k) = no_change
  got-carries d own moved n (WriteEnd k) = no_change
  got-carries d own moved n (OfConsole k) = no_change

  pub plain-get : (d : ℕ) (own : Option ℕ) (moved most : ℕ) → PlainStep files (get_piece files d own moved most)
  plain-get d own moved most = record { kept = got-carries d own moved (length (take most (bytes_there files (description_of files d) own moved (description_of files d).target))) (description_of files d).target }

  put-carries : (d : ℕ) (own : Option ℕ) (moved : ℕ) (bytes : List ℕ) (t : Target) → PlainStep files (put_bytes files d own moved bytes t)
  put-carries d own moved bytes (OfNode k) =
      let offset = write_offset files (description_of files d) own moved in
      let n = cut_at most_file_bytes offset (length bytes) in
      record { kept = moved-carries (with_bytes_at k offset (take n bytes) files) refl d own (offset + n) }
  put-carries d own moved bytes (ReadEnd k) = record { kept = no_change }
  put-carries d own moved bytes (WriteEnd k) = record { kept = no_change }
  put-carries d own moved bytes (OfConsole k) = record { kept = no_change }

  pub plain-put : (d : ℕ) (own : Option ℕ) (moved n : ℕ) (bytes : List ℕ) → PlainStep files (put_piece files d own moved n bytes)
  plain-put d own moved n bytes = go (write_ready files d own moved n)
    where
      go : (r : Readiness) → PlainStep files (elim r [
        | Ready ↦ put_bytes files d own moved bytes (description_of files d).target
        | NotReady ↦ done (pos 0) files
        | FileStep ↦ fails (write_error files (description_of files d) own moved (description_of files d).target) files
      ])
      go Ready = put-carries d own moved bytes (description_of files d).target
      go NotReady = record { kept = no_change }
      go FileStep = record { kept = no_change }
