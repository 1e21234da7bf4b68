-- Files in which no step of a call is ready that was not ready before, and each that waited still waits: an offset goes on, and a file keeps its length.
use Rattle.file_model.specs.FileSteps.{ready}
use Rattle.file_model.specs.Files.{Files, description_of, is_open, most_bytes_of_all_files, most_file_bytes, node_of, total_bytes}
use Rattle.file_model.specs.Streams.{cut_at, read_offset, read_ready_of, ready_if, total_after, write_offset, write_ready_of}
use Rattle.file_model.specs.declared.descriptions.Description.{Description}
use Rattle.file_model.specs.declared.descriptions.Target.TheVariants.{OfNode, ReadEnd, WriteEnd, OfConsole}
use Rattle.file_model.specs.declared.descriptions.Target.{Target}
use Rattle.file_model.specs.declared.operations.FileOp.TheVariants.{Openat, Mkdirat, Unlinkat, Close, Lseek, Ioctl, Pipe2, Fstat, Getdents, Read as ReadAct, Write as WriteAct, Get, Put, Leave}
use Rattle.file_model.specs.declared.operations.FileOp.{FileOp}
use Rattle.file_model.specs.declared.operations.Readiness.TheVariants.{Ready, NotReady, FileStep}
use Rattle.hybrid_laws.proofs.maps.Tests.{both}
use Rattle.kernel_model.specs.CallPhases.{Act, Gather, Phase, Scatter, Stream}
use Rattle.kernel_model.specs.Progress.{Progress, has_piece, is_not_ready, is_ready, kind_of_phase, next_kind, stream_operation}
use Rattle.mck_word.specs.Maps.{at}
use Rattle.std.proofs.Common.{ap, arith, refl, sym, ◌∙◌}
use Rattle.std.proofs.lemmas.Bool.Decides.{nat_tests}
use Rattle.std.specs.Prelude.{Bool, None, Option, Some, [], cond, false, get_or, length, max, min, nat_le, nat_lt, not, true, unwrap_or, ℕ, ◌&&◌, ◌+◌, ◌-◌, ◌<◌, ◌==◌, ◌≡◌, ◌≤◌}

pub record Quieter (a b : Files) : Type 0 where
  pub no_readier : (op : FileOp) → is_ready (ready b op) ≡ true → is_ready (ready a op) ≡ true
  pub wait_on : (op : FileOp) → is_not_ready (ready b op) ≡ is_not_ready (ready a op)

-- the same of the next step of a call
module _ (a b : Files) (q : Quieter a b) (p : Progress) where
  pub next-ready : is_ready (next_kind b p) ≡ true → is_ready (next_kind a p) ≡ true
  next-ready e = go (get_or p.phases 0 Act) (has_piece p) e
    where
      go : (phase : Phase) (h : Bool) → is_ready (kind_of_phase b p phase) ≡ true → is_ready (kind_of_phase a p phase) ≡ true
      go (Gather rs) h f = f
      go Act h f = f
      go (Scatter rs) h f = f
      go (Stream rs) h f = piece (has_piece p) f
        where
          piece : (c : Bool) → is_ready (cond c (ready b (stream_operation p)) FileStep) ≡ true → is_ready (cond c (ready a (stream_operation p)) FileStep) ≡ true
          piece true g = q.no_readier (stream_operation p) g
          piece false g = g

  pub next-waits : is_not_ready (next_kind b p) ≡ is_not_ready (next_kind a p)
  next-waits = go (get_or p.phases 0 Act)
    where
      go : (phase : Phase) → is_not_ready (kind_of_phase b p phase) ≡ is_not_ready (kind_of_phase a p phase)
      go (Gather rs) = refl
      go Act = refl
      go (Scatter rs) = refl
      go (Stream rs) = piece (has_piece p)
        where
          piece : (c : Bool) → is_not_ready (cond c (ready b (stream_operation p)) FileStep) ≡ is_not_ready (cond c (ready a (stream_operation p)) FileStep)
          piece true = q.wait_on (stream_operation p)
          piece false = refl

-- ---- what readiness depends on

-- a description whose offset may have gone on
pub record GoneOn (x y : Description) : Type 0 where
  pub target : y.target ≡ x.target
  pub append : y.append ≡ x.append
  pub offset : x.offset ≤ y.offset

pub record AsLong (a b : Files) : Type 0 where
  pub descriptions : (d : ℕ) → GoneOn (description_of a d) (description_of b d)
  pub lengths : (n : ℕ) → length (node_of b n).bytes ≡ length (node_of a n).bytes
  pub all : total_bytes b ≡ total_bytes a
  pub pipes : b.pipes ≡ a.pipes
  pub consoles : b.consoles ≡ a.consoles
  pub opens : (t : Target) → is_open b t ≡ is_open a t

pub if-ready : (b : Bool) → is_ready (ready_if b) ≡ b
if-ready true = refl
if-ready false = refl

if-waits : (b : Bool) → is_not_ready (ready_if b) ≡ false
if-waits true = refl
if-waits false = refl

module _ (a b : Files) (l : AsLong a b) where
  -- ---- reading
  read-quieter : (x y : Description) (own : Option ℕ) (moved : ℕ) → GoneOn x y → (t : Target)
      → (is_ready (read_ready_of b y own moved t) ≡ true → is_ready (read_ready_of a x own moved t) ≡ true) × (is_not_ready (read_ready_of b y own moved t) ≡ is_not_ready (read_ready_of a x own moved t))
  read-quieter x y own moved g (OfNode n) = (
    λ e. (
        let f : nat_lt (read_offset y own moved) (length (node_of b n).bytes) ≡ true = sym (if-ready (nat_lt (read_offset y own moved) (length (node_of b n).bytes))) ∙ e in
        let s = l.lengths n in
        let o = further own in
        let h : nat_lt (read_offset x own moved) (length (node_of a n).bytes) ≡ true = grind (arith, nat_tests, f, s, o) in
        if-ready (nat_lt (read_offset x own moved) (length (node_of a n).bytes)) ∙ h),
    if-waits (nat_lt (read_offset y own moved) (length (node_of b n).bytes)) ∙ sym (if-waits (nat_lt (read_offset x own moved) (length (node_of a n).bytes))),
  )
    where
      further : (o : Option ℕ) → read_offset x o moved ≤ read_offset y o moved
      further None = g.offset
      further (Some n) = omega arith
  read-quieter x y own moved g (ReadEnd n) =
      let s : read_ready_of b y own moved (ReadEnd n) ≡ read_ready_of a x own moved (ReadEnd n) = (λ i. cond (nat_lt 0 (length (unwrap_or (at (l.pipes i) n) []))) Ready (cond (l.opens (WriteEnd n) i && moved == 0) NotReady FileStep)) in
      (λ e. ap is_ready (sym s) ∙ e, ap is_not_ready s)
  read-quieter x y own moved g (WriteEnd n) = (λ e. e, refl)
  read-quieter x y own moved g (OfConsole n) =
      let s : read_ready_of b y own moved (OfConsole n) ≡ read_ready_of a x own moved (OfConsole n) = (λ i. ready_if (nat_lt 0 (length (unwrap_or (at (l.consoles i) n) (record { input = []; output = [] })).input))) in
      (λ e. ap is_ready (sym s) ∙ e, ap is_not_ready s)

  -- ---- writing
  total-further : (n : ℕ) (offset offset' count : ℕ) → offset ≤ offset' → offset' < most_file_bytes → total_after b n offset' count ≤ most_bytes_of_all_files → total_after a n offset count ≤ most_bytes_of_all_files
  total-further n offset offset' count f u t =
      let s = l.lengths n in
      let w = l.all in
      let x = ap (λ (i : ℕ). total_bytes b - i + max i (offset' + cut_at most_file_bytes offset' count)) s in
      let y = ap (λ (i : ℕ). i - length (node_of a n).bytes + max (length (node_of a n).bytes) (offset' + cut_at most_file_bytes offset' count)) w in
      let z = further (total_bytes a) (length (node_of a n).bytes) in
      omega (arith, x, y, z, t)
    where
      further : (all one : ℕ) → all - one + max one (offset + min count (1048576 - offset)) ≤ all - one + max one (offset' + min count (1048576 - offset'))
      further all one = omega (arith, f, u)

  write-quieter : (x y : Description) (own : Option ℕ) (moved count : ℕ) → GoneOn x y → (t : Target) → x.target ≡ t
      → (is_ready (write_ready_of b y own moved count t) ≡ true → is_ready (write_ready_of a x own moved count t) ≡ true) × (is_not_ready (write_ready_of b y own moved count t) ≡ is_not_ready (write_ready_of a x own moved count t))
  write-quieter x y own moved count g (OfNode n) is = (
    λ e. (
        let u = sym (if-ready (nat_lt (write_offset b y own moved) most_file_bytes && nat_le (total_after b n (write_offset b y own moved) count) most_bytes_of_all_files)) ∙ e in
        let f = both (nat_lt (write_offset b y own moved) most_file_bytes) (nat_le (total_after b n (write_offset b y own moved) count) most_bytes_of_all_files) u in
        let o = further own in
        let below : write_offset b y own moved < most_file_bytes = grind (arith, nat_tests, f.0) in
        let fits : total_after b n (write_offset b y own moved) count ≤ most_bytes_of_all_files = grind (arith, nat_tests, f.1) in
        let z = total-further n (write_offset a x own moved) (write_offset b y own moved) count o below fits in
        let c : nat_lt (write_offset a x own moved) most_file_bytes ≡ true = grind (arith, nat_tests, o, below) in
        let d : nat_le (total_after a n (write_offset a x own moved) count) most_bytes_of_all_files ≡ true = grind (arith, nat_tests, z) in
        if-ready (nat_lt (write_offset a x own moved) most_file_bytes && nat_le (total_after a n (write_offset a x own moved) count) most_bytes_of_all_files) ∙ (λ i. c i && d i)),
    if-waits (nat_lt (write_offset b y own moved) most_file_bytes && nat_le (total_after b n (write_offset b y own moved) count) most_bytes_of_all_files)
        ∙ sym (if-waits (nat_lt (write_offset a x own moved) most_file_bytes && nat_le (total_after a n (write_offset a x own moved) count) most_bytes_of_all_files)),
  )
    where
      at-node : (app : Bool) → cond app (length (node_of a n).bytes) x.offset ≤ cond app (length (node_of b n).bytes) y.offset
      at-node true = let s = l.lengths n in omega (arith, s)
      at-node false = g.offset

      further : (o : Option ℕ) → write_offset a x o moved ≤ write_offset b y o moved
      further (Some m) = omega arith
      further None =
          let i : write_offset a x None moved ≡ cond x.append (length (node_of a n).bytes) x.offset = ap (λ (t : Target). elim t as (λ _. ℕ) [ OfNode m ↦ cond x.append (length (node_of a m).bytes) x.offset | ReadEnd m ↦ x.offset | WriteEnd m ↦ x.offset | OfConsole m ↦ x.offset ]) is in
          let j : write_offset b y None moved ≡ cond y.append (length (node_of b n).bytes) y.offset = ap (λ (t : Target). elim t as (λ _. ℕ) [ OfNode m ↦ cond y.append (length (node_of b m).bytes) y.offset | ReadEnd m ↦ y.offset | WriteEnd m ↦ y.offset | OfConsole m ↦ y.offset ]) (g.target ∙ is) in
          let k = ap (λ c. cond c (length (node_of b n).bytes) y.offset) g.append in
          let w = at-node x.append in
          omega (arith, i, j, k, w)
  write-quieter x y own moved count g (ReadEnd n) is = (λ e. e, refl)
  write-quieter x y own moved count g (WriteEnd n) is =
      let s : write_ready_of b y own moved count (WriteEnd n) ≡ write_ready_of a x own moved count (WriteEnd n) = (λ i. cond (not (l.opens (ReadEnd n) i)) FileStep (cond (nat_lt (length (unwrap_or (at (l.pipes i) n) [])) 65536) Ready NotReady)) in
      (λ e. ap is_ready (sym s) ∙ e, ap is_not_ready s)
  write-quieter x y own moved count g (OfConsole n) is =
      let s : write_ready_of b y own moved count (OfConsole n) ≡ write_ready_of a x own moved count (OfConsole n) = (λ i. ready_if (nat_lt (length (unwrap_or (at (l.consoles i) n) (record { input = []; output = [] })).output) 1048576)) in
      (λ e. ap is_ready (sym s) ∙ e, ap is_not_ready s)

  abbrev Both : FileOp → Type 0
  Both op = (is_ready (ready b op) ≡ true → is_ready (ready a op) ≡ true) × (is_not_ready (ready b op) ≡ is_not_ready (ready a op))

  by-op : (op : FileOp) → Both op
  by-op (Get d own moved n) =
      let g = l.descriptions d in
      let x = description_of a d in
      let y = description_of b d in
      let r = read-quieter x y own moved g x.target in
      let e = ap (read_ready_of b y own moved) g.target in
      (λ u. r.0 (ap is_ready (sym e) ∙ u), ap is_not_ready e ∙ r.1)
  by-op (Put d own moved n) =
      let g = l.descriptions d in
      let x = description_of a d in
      let y = description_of b d in
      let r = write-quieter x y own moved n g x.target refl in
      let e = ap (write_ready_of b y own moved n) g.target in
      (λ u. r.0 (ap is_ready (sym e) ∙ u), ap is_not_ready e ∙ r.1)
  by-op (Openat dirfd flags) = (λ e. e, refl)
  by-op (Mkdirat dirfd) = (λ e. e, refl)
  by-op (Unlinkat dirfd flags) = (λ e. e, refl)
  by-op (Close fd) = (λ e. e, refl)
  by-op (Lseek fd offset whence) = (λ e. e, refl)
  by-op (Ioctl fd) = (λ e. e, refl)
  by-op (Pipe2 flags) = (λ e. e, refl)
  by-op (Fstat fd) = (λ e. e, refl)
  by-op (Getdents fd most) = (λ e. e, refl)
  by-op (ReadAct fd own count) = (λ e. e, refl)
  by-op (WriteAct fd own count) = (λ e. e, refl)
  by-op (Leave d) = (λ e. e, refl)

  pub quieter : Quieter a b
  quieter = record { no_readier = λ op. (by-op op).0; wait_on = λ op. (by-op op).1 }
