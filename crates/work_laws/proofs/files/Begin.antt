-- The files at the boot: no pipe, a console for each guest, and no file is open.
use Rattle.std.specs.FinMap as finmap
use Rattle.file_model.specs.Files.{Console, Files, Name, is_open, is_same_target, made, most_console_bytes, most_file_bytes, opened, root, root_only, set_console, with_console}
use Rattle.file_model.specs.Paths.{add_file, child, names_of}
use Rattle.file_model.specs.declared.descriptions.Description.{Description}
use Rattle.file_model.specs.declared.descriptions.Target.TheVariants.{OfConsole, OfNode}
use Rattle.hybrid_laws.proofs.boot.Pages.{length-from}
use Rattle.hybrid_laws.proofs.maps.Sums.{total-put}
use Rattle.hybrid_model.specs.Tallies.{as_number}
use Rattle.job_model.specs.declared.job.FileLine.{FileLine}
use Rattle.job_model.specs.declared.job.Job.{Job}
use Rattle.kernel_model.specs.OneKernel.{boot_files, input_of, with_consoles, with_line}
use Rattle.mck_word.specs.Lists.{count_from}
use Rattle.mck_word.specs.Maps.{Map, entries, no_rows, some_row, total}
use Rattle.std.proofs.Common.{ap, arith, refl, subst, sym, ◌∙◌}
use Rattle.std.specs.List.{list_any}
use Rattle.std.specs.Ordering.{nat_cmp}
use Rattle.std.specs.Prelude.{Bool, List, None, Option, Some, [], false, fold, length, nat_lt, true, ℕ, ◌&&◌, ◌*◌, ◌+◌, ◌∷◌, ◌≡◌, ◌≤◌}
use Rattle.work_laws.proofs.files.Adding.{opened-was}
use Rattle.work_laws.proofs.sides.Rows.{entries-most}
use Rattle.work_laws.proofs.steps.OneProcess.{total-none}
use Rattle.work_laws.specs.KernelLeft.{console_left, file_left, files_left, pipe_left}

pub record FilesBegin (n : ℕ) (files : Files) : Type 0 where
  pub pipes : files.pipes ≡ no_rows
  pub closed : (m : ℕ) → is_open files (OfNode m) ≡ false
  pub consoles : total console_left files.consoles ≤ 2 * n

-- ---- files are added, which nobody opened
same-begin : (n : ℕ) (a b : Files) → b.pipes ≡ a.pipes → b.descriptions ≡ a.descriptions → b.consoles ≡ a.consoles → FilesBegin n a → FilesBegin n b
same-begin n a b p d c h = record {
  pipes = p ∙ h.pipes;
  closed = λ m. ap (λ (x : Map Description). some_row (λ k (y : Description). is_same_target y.target (OfNode m)) x) d ∙ h.closed m;
  consoles = (let e = ap (total console_left) c in let l = h.consoles in omega (arith, e, l));
}

added-begin : (n : ℕ) (names : List Name) (place : ℕ) (bytes : List ℕ) (files : Files) → FilesBegin n files → FilesBegin n (add_file place names bytes files)
added-begin n [] place bytes files h = h
added-begin n (name ∷ []) place bytes files h = same-begin n files (add_file place (name ∷ []) bytes files) refl refl refl h
added-begin n (name ∷ next ∷ names) place bytes files h =
    go (child files place name) (λ m. added-begin n (next ∷ names) m bytes files h)
    (added-begin n (next ∷ names) files.next_node bytes (made place name true files) (same-begin n files (made place name true files) refl refl refl h))
  where
    go : (o : Option ℕ) → ((m : ℕ) → FilesBegin n (add_file m (next ∷ names) bytes files)) → FilesBegin n (add_file files.next_node (next ∷ names) bytes (made place name true files))
        → FilesBegin n (elim o [ None ↦ add_file files.next_node (next ∷ names) bytes (made place name true files) | Some m ↦ add_file m (next ∷ names) bytes files ])
    go None k j = j
    go (Some m) k j = k m

lines-begin : (n : ℕ) (lines : List FileLine) (files : Files) → FilesBegin n files → FilesBegin n (fold with_line files lines)
lines-begin n [] files h = h
lines-begin n (l ∷ lines) files h = lines-begin n lines (with_line files l) (added-begin n (names_of l.path) root l.bytes files h)

-- ---- consoles
one-most : (b : Bool) → as_number b ≤ 1
one-most true = omega arith
one-most false = omega arith

opened-closed : (guest : ℕ) (r w app : Bool) (a : Files) (m : ℕ) → is_open a (OfNode m) ≡ false → is_open (opened guest (OfConsole guest) r w app a) (OfNode m) ≡ false
opened-closed guest r w app a m h = go (is_open (opened guest (OfConsole guest) r w app a) (OfNode m)) refl
  where
    go : (b : Bool) → is_open (opened guest (OfConsole guest) r w app a) (OfNode m) ≡ b → b ≡ false
    go false f = refl
    go true f = absurd (let x = opened-was guest (OfConsole guest) r w app a (OfNode m) refl f in grind (arith, x, h))

console-begin : (n guest : ℕ) (input : List ℕ) (files : Files) → FilesBegin n files → FilesBegin (n + 1) (with_console guest input files)
console-begin n guest input files h =
    let new : Console = record { input = input; output = [] } in
    let a = set_console guest new files in
    let b = opened guest (OfConsole guest) true false false a in
    let c = opened guest (OfConsole guest) false true false b in
    record {
      pipes = h.pipes;
      closed = λ m. opened-closed guest false true false c m (opened-closed guest false true false b m (opened-closed guest true false false a m (h.closed m)));
      consoles = (
          let x = total-put console_left files.consoles guest new in
          let y = one-most (nat_lt 0 (length input)) in
          let z = one-most (nat_lt 0 most_console_bytes) in
          let l = h.consoles in
          omega (arith, x, y, z, l)
          );
    }

consoles-begin : (job : Job) (guests : List ℕ) (files : Files) (n m : ℕ) → n + length guests ≡ m → FilesBegin n files → FilesBegin m (with_consoles job guests files)
consoles-begin job [] files n m e h = let f : n ≡ m = omega (arith, e) in subst (λ (k : ℕ). FilesBegin k files) f h
consoles-begin job (g ∷ guests) files n m e h = consoles-begin job guests (with_console g (input_of job g) files) (n + 1) m (omega (arith, e)) (console-begin n g (input_of job g) files h)

-- ---- the boot
none-passes : {V : Type 0} (test : ℕ → V → Bool) → some_row test no_rows ≡ false
none-passes {V} test = go (entries no_rows) (sym (finmap.len-entries (no_rows {V = V})) ∙ finmap.len-empty nat_cmp V)
  where
    go : (es : List (ℕ × V)) → length es ≡ 0 → list_any (λ (e : ℕ × V). test e.0 e.1) es ≡ false
    go [] e = refl
    go (x ∷ es) e = absurd (grind (arith, e))

root-begin : FilesBegin 0 root_only
root-begin = record {
  pipes = refl;
  closed = λ m. none-passes (λ k (y : Description). is_same_target y.target (OfNode m));
  consoles = (let a = total-none console_left in omega (arith, a));
}

pub boot-files : (job : Job) → FilesBegin (length job.guests) (boot_files job)
unfolding boot_files
boot-files job = consoles-begin job (count_from 1 (length job.guests)) (fold with_line root_only job.files) 0 (length job.guests) (let a = length-from 1 (length job.guests) in omega (arith, a)) (lines-begin 0 job.files root_only root-begin)

pub begin-left : (n : ℕ) (files : Files) → FilesBegin n files → files_left files ≤ 2 * n
begin-left n files h =
    let a = ap (total pipe_left) h.pipes in
    let b = total-none pipe_left in
    let c = entries-most (file_left files) 0 0 files.nodes (λ e. omega arith) (λ e. (let d = ap (λ (x : Bool). as_number (x && nat_lt (length e.1.bytes) most_file_bytes)) (h.closed e.0) in omega (arith, d))) in
    let d = c.1 in
    let l = h.consoles in
    omega (arith, a, b, d, l)
