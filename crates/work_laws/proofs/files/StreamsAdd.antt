-- What a piece of a stream does to the pieces that may be cut: one more at most, and only on a pipe.
use Rattle.file_model.specs.FileSteps.{file_step}
use Rattle.file_model.specs.Files.{Console, Files, Inode, change_console, change_node, change_pipe, console_of, description_of, is_open, most_console_bytes, most_pipe_bytes, pipe_of}
use Rattle.file_model.specs.Operations.{FileResult, done, fails}
use Rattle.file_model.specs.Streams.{bytes_there, cut_at, get_piece, got, moved_on, put_bytes, put_piece, read_offset, with_bytes_at, write_error, write_offset, write_ready}
use Rattle.file_model.specs.declared.descriptions.Target.TheVariants.{OfNode, ReadEnd, WriteEnd, OfConsole}
use Rattle.file_model.specs.declared.descriptions.Target.{Target}
use Rattle.file_model.specs.declared.operations.FileOp.TheVariants.{Get, Put}
use Rattle.file_model.specs.declared.operations.Readiness.TheVariants.{Ready, NotReady, FileStep}
use Rattle.file_model.specs.declared.operations.Readiness.{Readiness}
use Rattle.hybrid_laws.proofs.maps.Sums.{counted_at}
use Rattle.hybrid_laws.proofs.node.Primitives.{at-change}
use Rattle.hybrid_model.specs.Tallies.{as_number}
use Rattle.kernel_model.specs.Progress.{Progress, description_found, next_piece, offset_argument, stream_operation}
use Rattle.mck_word.specs.Lists.{spliced}
use Rattle.mck_word.specs.Maps.{at}
use Rattle.std.proofs.Common.{ap, arith, length-append, length-drop, length-take, refl, sym, ◌∙◌}
use Rattle.std.proofs.lemmas.Bool.Decides.{nat_tests}
use Rattle.std.proofs.lemmas.List.{length-replicate}
use Rattle.std.specs.Prelude.{Bool, List, None, Option, Some, cond, drop, false, length, min, nat_lt, option_map, pos, replicate, take, true, ℕ, ◌&&◌, ◌++◌, ◌+◌, ◌-◌, ◌==◌, ◌≡◌, ◌≤◌}
use Rattle.system_calls.specs.FileCalls.{is_read}
use Rattle.work_laws.proofs.files.Adding.{offset-less}
use Rattle.work_laws.proofs.node.Left.{total-change}
use Rattle.work_laws.proofs.sides.Rows.{entries-le}
use Rattle.work_laws.specs.KernelLeft.{console_left, file_left, files_left, pipe_left}

-- ---- lengths
abbrev pub edges : ℕ → ℕ → ℕ
edges most n = as_number (nat_lt 0 n) + as_number (nat_lt n most)

pub edges-any : (most n m : ℕ) → 1 ≤ most → edges most m ≤ edges most n + 1
edges-any most n m l = go (nat_lt 0 n) refl (nat_lt n most) refl (nat_lt 0 m) (nat_lt m most)
  where
    go : (a : Bool) → nat_lt 0 n ≡ a → (b : Bool) → nat_lt n most ≡ b → (c d : Bool) → as_number c + as_number d ≤ as_number a + as_number b + 1
    go true e b f true true = omega arith
    go true e b f true false = omega arith
    go true e b f false true = omega arith
    go true e b f false false = omega arith
    go false e true f true true = omega arith
    go false e true f true false = omega arith
    go false e true f false true = omega arith
    go false e true f false false = omega arith
    go false e false f c d = absurd (grind (arith, nat_tests, e, f, l))

below-falls : (most n m : ℕ) → n ≤ m → as_number (nat_lt m most) ≤ as_number (nat_lt n most)
below-falls most n m l = go (nat_lt m most) refl (nat_lt n most) refl
  where
    go : (a : Bool) → nat_lt m most ≡ a → (b : Bool) → nat_lt n most ≡ b → as_number a ≤ as_number b
    go false e b f = omega arith
    go true e true f = omega arith
    go true e false f = absurd (grind (arith, nat_tests, e, f, l))

some-falls : (n m : ℕ) → m ≤ n → as_number (nat_lt 0 m) ≤ as_number (nat_lt 0 n)
some-falls n m l = go (nat_lt 0 m) refl (nat_lt 0 n) refl
  where
    go : (a : Bool) → nat_lt 0 m ≡ a → (b : Bool) → nat_lt 0 n ≡ b → as_number a ≤ as_number b
    go false e b f = omega arith
    go true e true f = omega arith
    go true e false f = absurd (grind (arith, nat_tests, e, f, l))

pub spliced-length : (bytes : List ℕ) (offset : ℕ) (new : List ℕ) → length (spliced bytes offset new) ≡ min offset (length bytes) + ((offset - length bytes) + (length new + (length bytes - (offset + length new))))
spliced-length bytes offset new =
    let x = take offset bytes in
    let y : List ℕ = replicate (offset - length bytes) 0 in
    let z = drop (offset + length new) bytes in
    let a = length-append (x ++ y ++ new) z in
    let b = length-append (x ++ y) new in
    let c = length-append x y in
    let d = length-take offset bytes in
    let e = length-drop (offset + length new) bytes in
    let f = length-replicate {A = ℕ} (offset - length bytes) 0 in
    omega (arith, a, b, c, d, e, f)

pub spliced-longer : (bytes : List ℕ) (offset : ℕ) (new : List ℕ) → length bytes ≤ length (spliced bytes offset new)
spliced-longer bytes offset new = let a = spliced-length bytes offset new in omega (arith, a)

-- ---- pipes, consoles and files
pub pipe-adds : (files : Files) (p : ℕ) (f : List ℕ → List ℕ) → files_left (change_pipe p f files) ≤ files_left files + 1
pipe-adds files p f = let a = total-change pipe_left files.pipes p f 1 (λ bytes. edges-any most_pipe_bytes (length bytes) (length (f bytes)) (omega arith)) in omega (arith, a)

-- a console's input gets shorter, and its output longer
pub console-less : (files : Files) (n : ℕ) (f : Console → Console) → ((c : Console) → length (f c).input ≤ length c.input) → ((c : Console) → length c.output ≤ length (f c).output) → files_left (change_console n f files) ≤ files_left files
console-less files n f shorter longer =
    let a = total-change console_left files.consoles n f 0 (λ c. (let x = some-falls (length c.input) (length (f c).input) (shorter c) in let y = below-falls most_console_bytes (length c.output) (length (f c).output) (longer c) in omega (arith, x, y))) in
    omega (arith, a)

and-falls : (a b c : Bool) → as_number b ≤ as_number c → as_number (a && b) ≤ as_number (a && c)
and-falls true b c l = l
and-falls false b c l = omega arith

-- a file gets longer
pub longer-less : (files : Files) (n : ℕ) (f : Inode → Inode) → ((x : Inode) → length x.bytes ≤ length (f x).bytes) → files_left (change_node n f files) ≤ files_left files
longer-less files n f longer =
    let after = change_node n f files in
    let a = entries-le (file_left after) (file_left files) after.nodes files.nodes (λ m x e. row m x (m == n) refl (sym (at-change files.nodes n f m) ∙ e)) in
    omega (arith, a)
  where
    changed : (m : ℕ) (o : Option Inode) (x : Inode) → option_map f o ≡ Some x → file_left files (m, x) ≤ counted_at (file_left files) m o
    changed m None x e = absurd (grind (arith, e))
    changed m (Some y) x e =
        let g : f y ≡ x = cc in
        let l = longer y in
        let h = ap (λ (z : Inode). length z.bytes) g in
        let b = below-falls 1048576 (length y.bytes) (length x.bytes) (omega (arith, l, h)) in
        and-falls (is_open files (OfNode m)) (nat_lt (length x.bytes) 1048576) (nat_lt (length y.bytes) 1048576) b

    row : (m : ℕ) (x : Inode) (b : Bool) → (m == n) ≡ b → cond b (option_map f (at files.nodes n)) (at files.nodes m) ≡ Some x → file_left (change_node n f files) (m, x) ≤ counted_at (file_left files) m (at files.nodes m)
    row m x false g e = let c = ap (counted_at (file_left files) m) e in omega (arith, c)
    row m x true g e =
        let j : m ≡ n = grind (arith, nat_tests, g) in
        let c = changed m (at files.nodes n) x e in
        let d = ap (λ i. counted_at (file_left files) m (at files.nodes i)) j in
        omega (arith, c, d)

pub moved-less : (files : Files) (d : ℕ) (own : Option ℕ) (offset : ℕ) → files_left (moved_on d own offset files) ≤ files_left files
moved-less files d None offset = offset-less files d offset
moved-less files d (Some n) offset = omega arith

-- ---- a piece of a reading stream
pub got-node : (files : Files) (d : ℕ) (own : Option ℕ) (moved n k : ℕ) → files_left (got files d own moved n (OfNode k)) ≤ files_left files
got-node files d own moved n k = moved-less files d own (read_offset (description_of files d) own moved + n)

pub got-console : (files : Files) (d : ℕ) (own : Option ℕ) (moved n k : ℕ) → files_left (got files d own moved n (OfConsole k)) ≤ files_left files
got-console files d own moved n k = console-less files k (λ c. record c { input = drop n c.input }) (λ c. (let a = length-drop n c.input in omega (arith, a))) (λ c. omega arith)

pub got-adds : (files : Files) (d : ℕ) (own : Option ℕ) (moved n : ℕ) (t : Target) → files_left (got files d own moved n t) ≤ files_left files + 1
got-adds files d own moved n (OfNode k) = let a = got-node files d own moved n k in omega (arith, a)
got-adds files d own moved n (ReadEnd k) = pipe-adds files k (λ bytes. drop n bytes)
got-adds files d own moved n (WriteEnd k) = omega arith
got-adds files d own moved n (OfConsole k) = let a = got-console files d own moved n k in omega (arith, a)

pub get-adds : (files : Files) (d : ℕ) (own : Option ℕ) (moved most : ℕ) → files_left (get_piece files d own moved most).files ≤ files_left files + 1
get-adds files d own moved most = got-adds files d own moved (length (take most (bytes_there files (description_of files d) own moved (description_of files d).target))) (description_of files d).target

-- ---- a piece of a writing stream
pub put-node : (files : Files) (d : ℕ) (own : Option ℕ) (moved : ℕ) (bytes : List ℕ) (k : ℕ) → files_left (put_bytes files d own moved bytes (OfNode k)).files ≤ files_left files
put-node files d own moved bytes k =
    let offset = write_offset files (description_of files d) own moved in
    let n = cut_at 1048576 offset (length bytes) in
    let a = moved-less (with_bytes_at k offset (take n bytes) files) d own (offset + n) in
    let b = longer-less files k (λ (x : Inode). record x { bytes = spliced x.bytes offset (take n bytes) }) (λ x. spliced-longer x.bytes offset (take n bytes)) in
    omega (arith, a, b)

pub put-console : (files : Files) (d : ℕ) (own : Option ℕ) (moved : ℕ) (bytes : List ℕ) (k : ℕ) → files_left (put_bytes files d own moved bytes (OfConsole k)).files ≤ files_left files
put-console files d own moved bytes k =
    let n = cut_at most_console_bytes (length (console_of files k).output) (length bytes) in
    console-less files k (λ c. record c { output = c.output ++ take n bytes }) (λ c. omega arith) (λ c. (let a = length-append c.output (take n bytes) in omega (arith, a)))

pub put_bytes-adds : (files : Files) (d : ℕ) (own : Option ℕ) (moved : ℕ) (bytes : List ℕ) (t : Target) → files_left (put_bytes files d own moved bytes t).files ≤ files_left files + 1
put_bytes-adds files d own moved bytes (OfNode k) = let a = put-node files d own moved bytes k in omega (arith, a)
put_bytes-adds files d own moved bytes (ReadEnd k) = omega arith
put_bytes-adds files d own moved bytes (WriteEnd k) = pipe-adds files k (λ there. there ++ take (cut_at most_pipe_bytes (length (pipe_of files k)) (length bytes)) bytes)
put_bytes-adds files d own moved bytes (OfConsole k) = let a = put-console files d own moved bytes k in omega (arith, a)

pub put-adds : (files : Files) (d : ℕ) (own : Option ℕ) (moved n : ℕ) (bytes : List ℕ) → files_left (put_piece files d own moved n bytes).files ≤ files_left files + 1
put-adds files d own moved n bytes = go (write_ready files d own moved n)
  where
    go : (r : Readiness) → files_left (elim r as (λ _. FileResult) [
      | Ready ↦ put_bytes files d own moved bytes (description_of files d).target
      | NotReady ↦ done (pos 0) files
      | FileStep ↦ fails (write_error files (description_of files d) own moved (description_of files d).target) files
    ]).files ≤ files_left files + 1
    go Ready = put_bytes-adds files d own moved bytes (description_of files d).target
    go NotReady = omega arith
    go FileStep = omega arith

pub stream-adds : (p : Progress) (files : Files) (process : ℕ) (given : List ℕ) → files_left (file_step files process (stream_operation p) given).files ≤ files_left files + 1
stream-adds p files process given = go (is_read p.call)
  where
    go : (b : Bool) → files_left (file_step files process (cond b (Get (description_found p) (offset_argument p) p.moved (next_piece p).len) (Put (description_found p) (offset_argument p) p.moved (next_piece p).len)) given).files ≤ files_left files + 1
    go true = get-adds files (description_found p) (offset_argument p) p.moved (next_piece p).len
    go false = put-adds files (description_found p) (offset_argument p) p.moved (next_piece p).len given
