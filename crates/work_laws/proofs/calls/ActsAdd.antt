-- Each act of a file call adds one piece at most that may be cut, and builds no more bytes than a call moves. An act refuses a number of vectors that isn't valid.
use Rattle.file_model.specs.Acts as Acts
use Rattle.file_model.specs.Acts.{AT_REMOVEDIR, O_APPEND, O_CLOEXEC, O_CREAT, O_DIRECTORY, O_EXCL, O_TRUNC, access_of, all_records, close, count_is_valid, cut_to_nothing, fstat, getdents, holds_names, ioctl, is_directory_target, is_node_target, joined, list_node, list_records, lseek, make_directory, may_read, may_write, mkdirat, open_node, open_place, openat, pipe2, pipe_opened, pipe_result, read_act, read_end_opened, records_that_fit, seek_from, seek_to, special_last, stat_of_target, stat_record, unlink_below, unlink_last, unlink_place, unlinkat, unlinked, with_description, write_act}
use Rattle.file_model.specs.Errno.{EBADF, EEXIST, EINVAL, EISDIR, EMFILE, ENOENT, ENOSPC, ENOTDIR, ENOTEMPTY, ENOTTY, ESPIPE}
use Rattle.file_model.specs.Files.{Files, Inode, change_node, closed, descriptors_of, description_of, hold, is_open, is_same_target, lowest_free, made, most_descriptors, most_nodes, node_of, opened, set_bytes, set_offset, set_pipe, settled}
use Rattle.file_model.specs.Operations.{FileResult, done, fails}
use Rattle.file_model.specs.Paths.{Absent, NoPlace, Place, Present, ends_with_slash, is_unlinked, names_of, place_of, place_of_names}
use Rattle.file_model.specs.declared.descriptions.Description.{Description}
use Rattle.file_model.specs.declared.descriptions.Target.TheVariants.{OfNode, ReadEnd, WriteEnd, OfConsole}
use Rattle.file_model.specs.declared.descriptions.Target.{Target}
use Rattle.hybrid_laws.proofs.files.Operations.{cond-case, with-description}
use Rattle.hybrid_laws.proofs.maps.Sums.{total-put}
use Rattle.hybrid_laws.proofs.node.Primitives.{at-change}
use Rattle.mck_word.specs.Lists.{all_but_last}
use Rattle.mck_word.specs.MapLaws.{at-put}
use Rattle.mck_word.specs.Maps.{at, count, cut, put, some_row, total}
use Rattle.std.proofs.Common.{ap, arith, length-append, refl, sym, ◌∙◌}
use Rattle.std.proofs.lemmas.Bool.Decides.{nat_tests}
use Rattle.std.specs.Prelude.{Bool, List, None, Option, Some, [], cond, drop, false, length, min, nat_le, nat_lt, negsuc, not, option_map, pos, true, ℕ, ℤ, ◌&&◌, ◌+ℤ◌, ◌+◌, ◌-◌, ◌==◌, ◌^◌, ◌||◌, ◌∷◌, ◌≡◌, ◌≤◌}
use Rattle.work_laws.proofs.files.Adding.{hold-less, left-less, nodes-same, nodes-under, offset-less, one-node, opened-node, opened-was, settled-less, was-same}
use Rattle.work_laws.specs.KernelLeft.{console_left, files_left, pipe_left}

pub record ActAdds (files : Files) (r : FileResult) : Type 0 where
  pub more : files_left r.files ≤ files_left files + 1
  pub built : length r.out ≤ 65_536

-- ---- bytes that acts build
fit-most : (most : ℕ) (rs : List (List ℕ)) → length (joined (records_that_fit most rs)) ≤ most
fit-most most [] = omega arith
fit-most most (r ∷ rs) = go (nat_le (length r) most) refl (fit-most (most - length r) rs)
  where
    go : (b : Bool) → nat_le (length r) most ≡ b → length (joined (records_that_fit (most - length r) rs)) ≤ most - length r → length (joined (cond b (r ∷ records_that_fit (most - length r) rs) [])) ≤ most
    go true e i = let l : length r ≤ most = grind (arith, nat_tests, e) in let a = length-append r (joined (records_that_fit (most - length r) rs)) in omega (arith, i, l, a)
    go false e i = omega arith

module _ (files : Files) where
  abbrev Adds : FileResult → Type 0
  Adds r = ActAdds files r

  abbrev either : (b : Bool) (x y : FileResult) → Adds x → Adds y → Adds (cond b x y)
  either b x y p q = cond-case (ActAdds files) b x y p q

  -- the files stay, or count no more
  fails-adds : (errno : ℕ) → Adds (fails errno files)
  fails-adds errno = record { more = omega arith; built = omega arith }

  done-adds : (answer : ℤ) (after : Files) → files_left after ≤ files_left files → Adds (done answer after)
  done-adds answer after l = record { more = omega (arith, l); built = omega arith }

  -- ---- openat
  abbrev opened_at : ℕ → ℕ → ℕ → Files → Files
  opened_at process flags n a = opened process (OfNode n) (may_read flags) (may_write flags) (O_APPEND flags) a

  opens-adds : (process flags n : ℕ) (a : Files) → ((m : ℕ) → (m == n) ≡ false → at a.nodes m ≡ at files.nodes m) → a.descriptions ≡ files.descriptions → a.pipes ≡ files.pipes → a.consoles ≡ files.consoles → Adds (open_node a process flags n)
  opens-adds process flags n a nodes ds ps cs =
      let b = opened_at process flags n a in
      let one = one-node files b n nodes (λ m e g. (let i = opened-node process n (may_read flags) (may_write flags) (O_APPEND flags) a m e g in same-open m i)) in
      let p = ap (λ x. total pipe_left x) ps in
      let c = ap (λ x. total console_left x) cs in
      record { more = omega (arith, one, p, c); built = omega arith }
    where
      same-open : (m : ℕ) → is_open a (OfNode m) ≡ true → is_open files (OfNode m) ≡ true
      same-open m i = ap (λ x. some_row (λ d (y : Description). is_same_target y.target (OfNode m)) x) (sym ds) ∙ i

  open-node : (process flags n : ℕ) (b : Bool) → Adds (open_node (cut_to_nothing b n files) process flags n)
  open-node process flags n true = opens-adds process flags n (set_bytes n [] files) (λ m e. at-change files.nodes n (λ (x : Inode). record x { bytes = [] }) m ∙ ap (λ b. cond b (option_map (λ (x : Inode). record x { bytes = [] }) (at files.nodes n)) (at files.nodes m)) e) refl refl refl
  open-node process flags n false = opens-adds process flags n files (λ m e. refl) refl refl refl

  made-other : (above : ℕ) (name : List ℕ) (directory : Bool) (m : ℕ) → (m == files.next_node) ≡ false → at (made above name directory files).nodes m ≡ at files.nodes m
  made-other above name directory m e = let new : Inode = record { parent = above; name = Some name; directory = directory; bytes = [] } in at-put files.nodes files.next_node new m ∙ ap (λ b. cond b (Some new) (at files.nodes m)) e

  pub openat-adds : (process : ℕ) (dirfd : ℤ) (flags : ℕ) (text : List ℕ) → Adds (openat files process dirfd flags text)
  openat-adds process dirfd flags text =
      either (access_of flags == 3 || (O_CREAT flags && O_DIRECTORY flags)) _ _ (fails-adds EINVAL)
      (either (nat_le most_descriptors (count (descriptors_of files process))) _ _ (fails-adds EMFILE) (at-place (place_of files process dirfd text)))
    where
      at-place : (x : Place) → Adds (open_place files process flags text x)
      at-place (NoPlace errno) = fails-adds errno
      at-place (Present n) = either (O_CREAT flags && O_EXCL flags) _ _ (fails-adds EEXIST)
          (either ((node_of files n).directory && (may_write flags || O_CREAT flags)) _ _ (fails-adds EISDIR)
          (either (not (node_of files n).directory && O_DIRECTORY flags) _ _ (fails-adds ENOTDIR) (open-node process flags n (O_TRUNC flags && may_write flags))))
      at-place (Absent above name) = either (not (O_CREAT flags)) _ _ (fails-adds ENOENT)
          (either (ends_with_slash text) _ _ (fails-adds EISDIR)
          (either (nat_le most_nodes (count files.nodes)) _ _ (fails-adds ENOSPC)
          (opens-adds process flags files.next_node (made above name false files) (made-other above name false) refl refl refl)))

  -- ---- mkdirat and unlinkat
  made-adds : (above : ℕ) (name : List ℕ) → Adds (done (pos 0) (made above name true files))
  made-adds above name = let one = one-node files (made above name true files) files.next_node (made-other above name true) (λ m e g. g) in record { more = omega (arith, one); built = omega arith }

  pub mkdirat-adds : (process : ℕ) (dirfd : ℤ) (text : List ℕ) → Adds (mkdirat files process dirfd text)
  mkdirat-adds process dirfd text = at-place (place_of files process dirfd text)
    where
      at-place : (x : Place) → Adds (make_directory files x)
      at-place (NoPlace errno) = fails-adds errno
      at-place (Present n) = fails-adds EEXIST
      at-place (Absent above name) = either (nat_le most_nodes (count files.nodes)) _ _ (fails-adds ENOSPC) (made-adds above name)

  unlinked-adds : (n : ℕ) → Adds (unlinked n files)
  unlinked-adds n =
      let a = change_node n (λ (x : Inode). record x { name = None }) files in
      let s = settled-less a in
      let l = left-less files a (record { was = was-same files; nodes = nodes; pipes = omega arith; consoles = refl }) in
      done-adds (pos 0) (settled a) (omega (arith, s, l))
    where
      nodes : (m : ℕ) (x : Inode) → at (change_node n (λ (x : Inode). record x { name = None }) files).nodes m ≡ Some x → (y : Inode) × (at files.nodes m ≡ Some y) × (length y.bytes ≡ length x.bytes)
      nodes m x e = go (m == n) refl (sym (at-change files.nodes n (λ (y : Inode). record y { name = None }) m) ∙ e)
        where
          row : (o : Option Inode) → option_map (λ (y : Inode). record y { name = None }) o ≡ Some x → (y : Inode) × (o ≡ Some y) × (length y.bytes ≡ length x.bytes)
          row None g = absurd (grind (arith, g))
          row (Some y) g = let z : record y { name = None } ≡ x = cc in (y, refl, ap (λ (w : Inode). length w.bytes) z)

          go : (b : Bool) → (m == n) ≡ b → cond b (option_map (λ (y : Inode). record y { name = None }) (at files.nodes n)) (at files.nodes m) ≡ Some x → (y : Inode) × (at files.nodes m ≡ Some y) × (length y.bytes ≡ length x.bytes)
          go false g i = (x, i, refl)
          go true g i = let j : m ≡ n = grind (arith, nat_tests, g) in let r = row (at files.nodes n) i in (r.0, ap (at files.nodes) j ∙ r.1, r.2)

  unlink_place-adds : (flags : ℕ) (x : Place) → Adds (unlink_place files flags x)
  unlink_place-adds flags (NoPlace errno) = fails-adds errno
  unlink_place-adds flags (Absent above name) = fails-adds ENOENT
  unlink_place-adds flags (Present n) =
      either (flags == 0) _ _
      (either (node_of files n).directory _ _ (fails-adds EISDIR) (unlinked-adds n))
      (either (not (node_of files n).directory) _ _ (fails-adds ENOTDIR)
      (either (holds_names files n) _ _ (fails-adds ENOTEMPTY) (unlinked-adds n)))

  unlink_last-adds : (process : ℕ) (dirfd : ℤ) (flags : ℕ) (text : List ℕ) → Adds (unlink_last files process dirfd flags text)
  unlink_last-adds process dirfd flags text = go (special_last (names_of text))
    where
      go : (o : Option (ℕ × ℕ)) → Adds (elim o [ None ↦ unlink_place files flags (place_of files process dirfd text) | Some e ↦ fails (cond (flags == 0) e.0 e.1) files ])
      go None = unlink_place-adds flags (place_of files process dirfd text)
      go (Some e) = fails-adds (cond (flags == 0) e.0 e.1)

  pub unlinkat-adds : (process : ℕ) (dirfd : ℤ) (flags : ℕ) (text : List ℕ) → Adds (unlinkat files process dirfd flags text)
  unlinkat-adds process dirfd flags text = either (not (flags == 0 || flags == AT_REMOVEDIR)) _ _ (fails-adds EINVAL) (at-place (place_of_names files process dirfd text (all_but_last (names_of text))))
    where
      at-place : (x : Place) → Adds (unlink_below files process dirfd flags text x)
      at-place (NoPlace errno) = fails-adds errno
      at-place (Absent above name) = fails-adds ENOENT
      at-place (Present n) = unlink_last-adds process dirfd flags text

  -- ---- close, lseek, ioctl, fstat
  named : (process : ℕ) (fd : ℤ) (then : ℕ → Description → FileResult) → ((d : ℕ) → Adds (then d (description_of files d))) → Adds (with_description files process fd then)
  named process fd then good = with-description (ActAdds files) files process fd then (fails-adds EBADF) good

  pub close-adds : (process : ℕ) (fd : ℤ) → Adds (close files process fd)
  close-adds process fd = named process fd (λ d x. done (pos 0) (closed process (Acts.magnitude fd) files))
      (λ d. (let s = settled-less (record files { descriptors = put files.descriptors process (cut (descriptors_of files process) (Acts.magnitude fd)) }) in done-adds (pos 0) (closed process (Acts.magnitude fd) files) (omega (arith, s))))

  seek-adds : (d : ℕ) (offset : ℤ) → Adds (seek_to files d offset)
  seek-adds d (negsuc n) = fails-adds EINVAL
  seek-adds d (pos n) = either (nat_lt n (2 ^ 63)) _ _ (done-adds (pos n) (set_offset d n files) (offset-less files d n)) (fails-adds EINVAL)

  seek_from-adds : (d : ℕ) (node : Inode) (offset whence : ℤ) → Adds (seek_from files d node offset whence)
  seek_from-adds d node offset (negsuc n) = fails-adds EINVAL
  seek_from-adds d node offset (pos whence) =
      either (whence == 0) _ _ (seek-adds d offset)
      (either node.directory _ _ (fails-adds EINVAL)
      (either (whence == 1) _ _ (seek-adds d (pos (description_of files d).offset +ℤ offset))
      (either (whence == 2) _ _ (seek-adds d (pos (length node.bytes) +ℤ offset)) (fails-adds EINVAL))))

  pub lseek-adds : (process : ℕ) (fd offset whence : ℤ) → Adds (lseek files process fd offset whence)
  lseek-adds process fd offset whence = named process fd (λ d x. elim x.target [ OfNode n ↦ seek_from files d (node_of files n) offset whence | ReadEnd n ↦ fails ESPIPE files | WriteEnd n ↦ fails ESPIPE files | OfConsole n ↦ fails ESPIPE files ]) (λ d. go d (description_of files d).target)
    where
      go : (d : ℕ) (t : Target) → Adds (elim t [ OfNode n ↦ seek_from files d (node_of files n) offset whence | ReadEnd n ↦ fails ESPIPE files | WriteEnd n ↦ fails ESPIPE files | OfConsole n ↦ fails ESPIPE files ])
      go d (OfNode n) = seek_from-adds d (node_of files n) offset whence
      go d (ReadEnd n) = fails-adds ESPIPE
      go d (WriteEnd n) = fails-adds ESPIPE
      go d (OfConsole n) = fails-adds ESPIPE

  pub ioctl-adds : (process : ℕ) (fd : ℤ) → Adds (ioctl files process fd)
  ioctl-adds process fd = named process fd (λ d x. fails ENOTTY files) (λ d. fails-adds ENOTTY)

  stat-most : (t : Target) → length (stat_of_target files t) ≤ 65_536
  stat-most (OfNode n) = go (node_of files n).directory
    where
      go : (b : Bool) → length (cond b (stat_record n 0o40755 0) (stat_record n 0o100644 (length (node_of files n).bytes))) ≤ 65_536
      go true = omega arith
      go false = omega arith
  stat-most (ReadEnd n) = omega arith
  stat-most (WriteEnd n) = omega arith
  stat-most (OfConsole n) = omega arith

  pub fstat-adds : (process : ℕ) (fd : ℤ) → Adds (fstat files process fd)
  fstat-adds process fd = named process fd (λ d x. record { answer = pos 0; out = stat_of_target files x.target; files = files }) (λ d. record { more = omega arith; built = stat-most (description_of files d).target })

  -- ---- pipe2
  pipe-adds : (process : ℕ) → Adds (pipe_result process files)
  pipe-adds process =
      let p = lowest_free files.pipes in
      let a = set_pipe p [] files in
      let n = nodes-under files (pipe_opened process files) (λ m e. opened-was process (ReadEnd p) true false false a (OfNode m) refl (opened-was process (WriteEnd p) false true false (read_end_opened process files) (OfNode m) refl e)) (nodes-same files) in
      let t = total-put pipe_left files.pipes p [] in
      record { more = omega (arith, n, t); built = omega arith }

  pub pipe2-adds : (process flags : ℕ) → Adds (pipe2 files process flags)
  pipe2-adds process flags = either (not (flags == 0 || flags == O_CLOEXEC)) _ _ (fails-adds EINVAL) (either (nat_lt most_descriptors (count (descriptors_of files process) + 2)) _ _ (fails-adds EMFILE) (pipe-adds process))

  -- ---- getdents64
  pub getdents-adds : (process : ℕ) (fd : ℤ) (most : ℕ) → Adds (getdents files process fd most)
  getdents-adds process fd most = named process fd (λ d x. elim x.target [ OfNode n ↦ list_node files d most n | ReadEnd n ↦ fails ENOTDIR files | WriteEnd n ↦ fails ENOTDIR files | OfConsole n ↦ fails ENOTDIR files ]) (λ d. go d (description_of files d).target)
    where
      listed : (d : ℕ) (left : List (List ℕ)) → Adds (list_records files d most left)
      listed d left =
          let fit = records_that_fit (min most 65_536) left in
          let f = fit-most (min most 65_536) left in
          let o = offset-less files d ((description_of files d).offset + length fit) in
          either (nat_lt 0 (length left) && length fit == 0) _ _ (fails-adds EINVAL) (record { more = omega (arith, o); built = omega (arith, f) })

      go : (d : ℕ) (t : Target) → Adds (elim t [ OfNode n ↦ list_node files d most n | ReadEnd n ↦ fails ENOTDIR files | WriteEnd n ↦ fails ENOTDIR files | OfConsole n ↦ fails ENOTDIR files ])
      go d (OfNode n) = either (not (node_of files n).directory) _ _ (fails-adds ENOTDIR)
          (either (is_unlinked n (node_of files n).name) _ _ (fails-adds ENOENT) (listed d (drop (description_of files d).offset (all_records files n))))
      go d (ReadEnd n) = fails-adds ENOTDIR
      go d (WriteEnd n) = fails-adds ENOTDIR
      go d (OfConsole n) = fails-adds ENOTDIR

  -- ---- the acts of reading and writing calls
  valid-adds : (d : ℕ) (number : ℤ) → Adds (cond (count_is_valid number) (done (pos d) (hold d files)) (fails EINVAL files))
  valid-adds d number = either (count_is_valid number) _ _ (done-adds (pos d) (hold d files) (hold-less files d)) (fails-adds EINVAL)

  found-adds : (d : ℕ) (t : Target) (own : Option ℤ) (number : ℤ) → Adds (Acts.found files d t own number)
  found-adds d t None number = valid-adds d number
  found-adds d t (Some (pos n)) number = go (is_node_target t)
    where
      go : (b : Bool) → Adds (elim (cond (not b) (Some ESPIPE) None) [ Some errno ↦ fails errno files | None ↦ cond (count_is_valid number) (done (pos d) (hold d files)) (fails EINVAL files) ])
      go true = valid-adds d number
      go false = fails-adds ESPIPE
  found-adds d t (Some (negsuc n)) number = go (is_node_target t)
    where
      go : (b : Bool) → Adds (elim (cond (not b) (Some ESPIPE) (Some EINVAL)) [ Some errno ↦ fails errno files | None ↦ cond (count_is_valid number) (done (pos d) (hold d files)) (fails EINVAL files) ])
      go true = fails-adds EINVAL
      go false = fails-adds ESPIPE

  pub read-adds : (process : ℕ) (fd : ℤ) (own : Option ℤ) (number : ℤ) → Adds (read_act files process fd own number)
  read-adds process fd own number = named process fd (λ d x. cond (not x.readable) (fails EBADF files) (cond (is_directory_target files x.target) (fails EISDIR files) (Acts.found files d x.target own number)))
      (λ d. either (not (description_of files d).readable) _ _ (fails-adds EBADF) (either (is_directory_target files (description_of files d).target) _ _ (fails-adds EISDIR) (found-adds d (description_of files d).target own number)))

  pub write-adds : (process : ℕ) (fd : ℤ) (own : Option ℤ) (number : ℤ) → Adds (write_act files process fd own number)
  write-adds process fd own number = named process fd (λ d x. cond (not x.writable) (fails EBADF files) (Acts.found files d x.target own number))
      (λ d. either (not (description_of files d).writable) _ _ (fails-adds EBADF) (found-adds d (description_of files d).target own number))
