-- A piece of a reading stream that is cut: it empties a pipe or a console's input, which may be cut no more then; or it comes to the end of a file, where it is ready no more.
use Rattle.file_model.specs.Files.{Console, Files, console_of, description_of, node_of, pipe_of}
use Rattle.file_model.specs.Files.{is_open}
use Rattle.file_model.specs.Streams.{bytes_there, got, moved_on, read_offset, read_ready, read_ready_of}
use Rattle.file_model.specs.declared.descriptions.Description.{Description}
use Rattle.file_model.specs.declared.descriptions.Target.TheVariants.{OfNode, ReadEnd, WriteEnd, OfConsole}
use Rattle.file_model.specs.declared.descriptions.Target.{Target}
use Rattle.file_model.specs.declared.operations.Readiness.TheVariants.{Ready, NotReady, FileStep}
use Rattle.hybrid_model.specs.Tallies.{as_number}
use Rattle.kernel_model.specs.Progress.{is_ready}
use Rattle.mck_word.specs.Maps.{Map, at}
use Rattle.std.proofs.Common.{ap, arith, inl, inr, length-drop, length-take, refl, sym, ◌∙◌}
use Rattle.std.proofs.lemmas.Bool.Decides.{nat_tests}
use Rattle.std.specs.Prelude.{Bool, List, None, Option, Some, [], cond, drop, false, length, nat_lt, take, true, unwrap_or, ℕ, ◌&&◌, ◌+◌, ◌<◌, ◌==◌, ◌≡◌, ◌≤◌, ◌⊎◌}
use Rattle.work_laws.proofs.files.Quieter.{AsLong, if-ready}
use Rattle.work_laws.proofs.files.StreamCuts.{as-long-moved, file-there, offset-own}
use Rattle.work_laws.proofs.files.StreamsAdd.{got-node}
use Rattle.work_laws.proofs.node.Left.{total-changed}
use Rattle.work_laws.specs.KernelLeft.{console_left, files_left, pipe_left}

-- nothing gets readier, and the stream's step is not ready, whatever its next piece is
pub record Idle (files after : Files) (ready : ℕ → Bool) : Type 0 where
  pub long : AsLong files after
  pub less : files_left after ≤ files_left files
  pub idle : (n : ℕ) → ready n ≡ false

-- a row that is there, where a look-up finds something that the default isn't
pub present : {V : Type 0} (m : Map V) (k : ℕ) (d : V) (f : V → ℕ) → f d ≡ 0 → 0 < f (unwrap_or (at m k) d) → (v : V) × (at m k ≡ Some v)
present {V} m k d f z l = go (at m k) l
  where
    go : (o : Option V) → 0 < f (unwrap_or o d) → (v : V) × (o ≡ Some v)
    go None u = absurd (omega (arith, z, u))
    go (Some v) u = (v, refl)

-- the place of the next piece
at-end : (files : Files) (d : ℕ) (own : Option ℕ) (moved n : ℕ) (x : Description) → at files.descriptions d ≡ Some x
    → read_offset (description_of (moved_on d own (read_offset (description_of files d) own moved + n) files) d) own (moved + n) ≡ read_offset (description_of files d) own moved + n
at-end files d None moved n x is = offset-own files d ((description_of files d).offset + n) x is
at-end files d (Some m) moved n x is = omega arith

module _ (files : Files) (d : ℕ) (own : Option ℕ) (moved most : ℕ) (small : most ≤ 4096) (ready : is_ready (read_ready files d own moved) ≡ true) where
  abbrev x : Description
  x = description_of files d

  abbrev there : Target → List ℕ
  there t = bytes_there files x own moved t

  abbrev count : Target → ℕ
  count t = length (take most (there t))

  abbrev after : Target → Files
  after t = got files d own moved (count t) t

  abbrev Cut : Target → Type 0
  Cut t = (files_left (after t) + 1 ≤ files_left files) ⊎ Idle files (after t) (λ n. is_ready (read_ready (after t) d own (moved + count t)))

  -- what is there is less than the piece
  all-there : (t : Target) → count t < most → count t ≡ length (there t)
  all-there t l = let a = length-take most (there t) in omega (arith, a, l)

  ready-at : (t : Target) → x.target ≡ t → is_ready (read_ready_of files x own moved t) ≡ true
  ready-at t is = ap (λ u. is_ready (read_ready_of files x own moved u)) (sym is) ∙ ready

  cut-pipe : (k : ℕ) → x.target ≡ ReadEnd k → count (ReadEnd k) < most → Cut (ReadEnd k)
  cut-pipe k is l =
      let n = all-there (ReadEnd k) l in
      let some = waits (nat_lt 0 (length (pipe_of files k))) refl (is_open files (WriteEnd k) && moved == 0) (ready-at (ReadEnd k) is) in
      let b = present files.pipes k [] (λ bytes. length bytes) refl some in
      let same = ap (λ (o : Option (List ℕ)). length (unwrap_or o [])) b.1 in
      let c = total-changed pipe_left files.pipes k (λ bytes. drop (count (ReadEnd k)) bytes) b.0 b.1 in
      let e = length-drop (count (ReadEnd k)) b.0 in
      let u : nat_lt 0 (length b.0) ≡ true = grind (arith, nat_tests, some, same) in
      let v : nat_lt (length b.0) 65536 ≡ true = grind (arith, nat_tests, n, l, small, same) in
      let w : nat_lt 0 (length (drop (count (ReadEnd k)) b.0)) ≡ false = grind (arith, nat_tests, e, n, same) in
      let z : nat_lt (length (drop (count (ReadEnd k)) b.0)) 65536 ≡ true = grind (arith, nat_tests, e, n, same) in
      let was : pipe_left b.0 ≡ 2 = (λ i. as_number (u i) + as_number (v i)) in
      let now : pipe_left (drop (count (ReadEnd k)) b.0) ≡ 1 = (λ i. as_number (w i) + as_number (z i)) in
      inl (omega (arith, c, was, now))
    where
      waits : (b : Bool) → nat_lt 0 (length (pipe_of files k)) ≡ b → (c : Bool) → is_ready (cond b Ready (cond c NotReady FileStep)) ≡ true → 0 < length (pipe_of files k)
      waits true e c u = grind (arith, nat_tests, e)
      waits false e true u = absurd (grind (arith, u))
      waits false e false u = absurd (grind (arith, u))

  cut-console : (k : ℕ) → x.target ≡ OfConsole k → count (OfConsole k) < most → Cut (OfConsole k)
  cut-console k is l =
      let n = all-there (OfConsole k) l in
      let r = sym (if-ready (nat_lt 0 (length (console_of files k).input))) ∙ ready-at (OfConsole k) is in
      let some : 0 < length (console_of files k).input = grind (arith, nat_tests, r) in
      let b = present files.consoles k (record { input = []; output = [] }) (λ (c : Console). length c.input) refl some in
      let same = ap (λ (o : Option Console). length (unwrap_or o (record { input = []; output = [] })).input) b.1 in
      let c = total-changed console_left files.consoles k (λ (y : Console). record y { input = drop (count (OfConsole k)) y.input }) b.0 b.1 in
      let e = length-drop (count (OfConsole k)) b.0.input in
      let u : nat_lt 0 (length b.0.input) ≡ true = grind (arith, nat_tests, some, same) in
      let w : nat_lt 0 (length (drop (count (OfConsole k)) b.0.input)) ≡ false = grind (arith, nat_tests, e, n, same) in
      let was = ap (λ b. as_number b) u in
      let now = ap (λ b. as_number b) w in
      inl (omega (arith, c, was, now))

  -- ---- a file
  cut-file : (k : ℕ) → x.target ≡ OfNode k → count (OfNode k) < most → Cut (OfNode k)
  cut-file k is l =
      let n = all-there (OfNode k) l in
      let r = sym (if-ready (nat_lt (read_offset x own moved) (length (node_of files k).bytes))) ∙ ready-at (OfNode k) is in
      let below : read_offset x own moved < length (node_of files k).bytes = grind (arith, nat_tests, r) in
      let e = length-drop (read_offset x own moved) (node_of files k).bytes in
      let last : read_offset x own moved + count (OfNode k) ≡ length (node_of files k).bytes = omega (arith, n, e, below) in
      let long = as-long-moved files d own (read_offset x own moved + count (OfNode k)) (further own) in
      let y = description_of (after (OfNode k)) d in
      let t = (long.descriptions d).target ∙ is in
      let s = long.lengths k in
      let o = at-end files d own moved (count (OfNode k)) (file-there files d k is).0 (file-there files d k is).1 in
      let f : nat_lt (read_offset y own (moved + count (OfNode k))) (length (node_of (after (OfNode k)) k).bytes) ≡ false = grind (arith, nat_tests, o, s, last) in
      inr (record { long = long; less = got-node files d own moved (count (OfNode k)) k; idle = λ n. ap (λ u. is_ready (read_ready_of (after (OfNode k)) y own (moved + count (OfNode k)) u)) t ∙ if-ready (nat_lt (read_offset y own (moved + count (OfNode k))) (length (node_of (after (OfNode k)) k).bytes)) ∙ f })
    where
      further : (o : Option ℕ) → o ≡ None → x.offset ≤ read_offset x o moved + count (OfNode k)
      further None e = omega arith
      further (Some m) e = absurd (grind (arith, e))

  pub get-cut : count x.target < most → Cut x.target
  get-cut l = go x.target refl l
    where
      go : (t : Target) → x.target ≡ t → count t < most → Cut t
      go (OfNode k) is u = cut-file k is u
      go (ReadEnd k) is u = cut-pipe k is u
      go (WriteEnd k) is u = absurd (let r = ready-at (WriteEnd k) is in grind (arith, r))
      go (OfConsole k) is u = cut-console k is u
