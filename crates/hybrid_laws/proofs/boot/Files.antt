-- At the boot no call holds a description.
use Rattle.file_model.specs.Files.{Files, Name, description_of, lowest_free, made, no_description, opened, root, root_only, set_console, with_console}
use Rattle.file_model.specs.Paths.{add_file, child, names_of}
use Rattle.file_model.specs.declared.descriptions.Description.{Description}
use Rattle.file_model.specs.declared.descriptions.Target.TheVariants.{OfConsole}
use Rattle.file_model.specs.declared.descriptions.Target.{Target}
use Rattle.job_model.specs.declared.job.FileLine.{FileLine}
use Rattle.job_model.specs.declared.job.Job.{Job}
use Rattle.kernel_model.specs.OneKernel.{boot_files, input_of, with_consoles, with_line}
use Rattle.mck_word.specs.Lists.{count_from}
use Rattle.mck_word.specs.MapLaws.{at-none, at-put}
use Rattle.mck_word.specs.Maps.{Map, at}
use Rattle.std.proofs.Common.{ap, refl, ◌∙◌}
use Rattle.std.specs.Prelude.{Bool, List, None, Option, Some, [], cond, false, fold, length, true, unwrap_or, ℕ, ◌==◌, ◌∷◌, ◌≡◌}

abbrev pub NoCalls : Files → Type 0
NoCalls files = (d : ℕ) → (description_of files d).calls ≡ 0

no-calls-same : (a b : Files) → b.descriptions ≡ a.descriptions → NoCalls a → NoCalls b
no-calls-same a b e h d = ap (λ (m : Map Description). (unwrap_or (at m d) no_description).calls) e ∙ h d

no-calls-opened : (process : ℕ) (target : Target) (r w a : Bool) (files : Files) → NoCalls files → NoCalls (opened process target r w a files)
no-calls-opened process target r w a files h d =
    ap (λ (o : Option Description). (unwrap_or o no_description).calls) (at-put files.descriptions (lowest_free files.descriptions) (record { target = target; readable = r; writable = w; append = a; offset = 0; calls = 0 }) d) ∙ go (d == lowest_free files.descriptions)
  where
    go : (b : Bool) → (unwrap_or (cond b (Some (record { target = target; readable = r; writable = w; append = a; offset = 0; calls = 0 })) (at files.descriptions d)) no_description).calls ≡ 0
    go true = refl
    go false = h d

no-calls-console : (guest : ℕ) (input : List ℕ) (files : Files) → NoCalls files → NoCalls (with_console guest input files)
no-calls-console guest input files h =
    let a = set_console guest (record { input = input; output = [] }) files in
    let b = opened guest (OfConsole guest) true false false a in
    let c = opened guest (OfConsole guest) false true false b in
    no-calls-opened guest (OfConsole guest) false true false c
    (no-calls-opened guest (OfConsole guest) false true false b (no-calls-opened guest (OfConsole guest) true false false a (no-calls-same files a refl h)))

no-calls-consoles : (job : Job) (gs : List ℕ) (files : Files) → NoCalls files → NoCalls (with_consoles job gs files)
no-calls-consoles job [] files h = h
no-calls-consoles job (g ∷ gs) files h = no-calls-consoles job gs (with_console g (input_of job g) files) (no-calls-console g (input_of job g) files h)

no-calls-added : (names : List Name) (place : ℕ) (bytes : List ℕ) (files : Files) → NoCalls files → NoCalls (add_file place names bytes files)
no-calls-added [] place bytes files h = h
no-calls-added (name ∷ []) place bytes files h = no-calls-same files (add_file place (name ∷ []) bytes files) refl h
no-calls-added (name ∷ next ∷ names) place bytes files h =
    go (child files place name) (λ n. no-calls-added (next ∷ names) n bytes files h) (no-calls-added (next ∷ names) files.next_node bytes (made place name true files) (no-calls-same files (made place name true files) refl h))
  where
    go : (o : Option ℕ) → ((n : ℕ) → NoCalls (add_file n (next ∷ names) bytes files)) → NoCalls (add_file files.next_node (next ∷ names) bytes (made place name true files)) → NoCalls (elim o [ None ↦ add_file files.next_node (next ∷ names) bytes (made place name true files) | Some n ↦ add_file n (next ∷ names) bytes files ])
    go None k j = j
    go (Some n) k j = k n

no-calls-files : (lines : List FileLine) (files : Files) → NoCalls files → NoCalls (fold with_line files lines)
no-calls-files [] files h = h
no-calls-files (l ∷ lines) files h = no-calls-files lines (with_line files l) (no-calls-added (names_of l.path) root l.bytes files h)

pub boot-calls : (job : Job) → NoCalls (boot_files job)
unfolding boot_files
boot-calls job = no-calls-consoles job (count_from 1 (length job.guests)) (fold with_line root_only job.files) (no-calls-files job.files root_only (λ d. ap (λ (o : Option Description). (unwrap_or o no_description).calls) (at-none d)))
