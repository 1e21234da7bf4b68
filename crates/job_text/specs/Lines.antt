-- The checks of each kind of line, in their order, and what the line adds to those before it.
use Rattle.std.specs.Prelude.{ℕ, ◌==◌, ◌&&◌, ◌||◌, not, nat_le, codes, List, [], ◌∷◌, ◌++◌, length, drop, Bool, false, Option, Some, None, is_some, Result, Ok, Err, if◌then◌else◌}
use Rattle.std.specs.List.{list_any}
use Rattle.mck_word.specs.Numbers.{number_of}
use Rattle.job_model.specs.declared.job.GuestLine.{GuestLine}
use Rattle.job_model.specs.declared.job.InputLine.{InputLine}
use Rattle.job_text.specs.declared.draft.Draft.{Draft}
use Rattle.job_text.specs.declared.fault.Why.{Why}
use Rattle.job_text.specs.declared.fault.Why.TheVariants.{Keyword, Count, Repeat, TooMany, Number, Guest, Path}
use Rattle.job_text.specs.Checks.{◌>>=◌, refuse_if, in_range}
use Rattle.job_text.specs.Paths.{is_path, is_taken}
use Rattle.job_text.specs.Words.{word_at, miscounts, is_decimal, is_key}

-- the number of a key that may stand once
unfoldable pub one_number : Option ℕ → ℕ → ℕ → List (List ℕ) → Result ℕ Why
one_number seen least most words =
    refuse_if (miscounts 1 1 words) Count
    (refuse_if (is_some seen) Repeat
    (in_range least most (number_of (word_at words 1))))

abbrev pub guest_among : ℕ → Option ℕ → Result ℕ Why
guest_among count None = Err Guest
guest_among count (Some n) = if nat_le 1 n && nat_le n count then Ok n else Err Guest

-- the guest that a number names, of those above; a number of any size may be written
unfoldable pub guest_of : List GuestLine → List ℕ → Result ℕ Why
guest_of guests word = guest_among (length guests) (number_of word)

unfoldable pub add_guest : Draft → ℕ → List (List ℕ) → Result Draft Why
add_guest d line words =
    refuse_if (miscounts 1 64 words) Count
    (refuse_if (nat_le 16 (length d.guests)) TooMany
    (Ok (record d { guests = d.guests ++ record { line = line; args = drop 1 words } ∷ [] })))

-- a signal that stops or goes on can't be sent (SIGSTOP, SIGTSTP, SIGTTIN and SIGTTOU are 19 to 22)
abbrev pub sendable : ℕ → Result ℕ Why
sendable sig = if nat_le 19 sig && nat_le sig 22 then Err Number else Ok sig

unfoldable pub signal_of : List ℕ → Result ℕ Why
signal_of word = in_range 1 64 (number_of word) >>= sendable

abbrev pub with_signal : Draft → ℕ → ℕ → ℕ → ℕ → Draft
with_signal d line guest sig after = record d { signals = d.signals ++ record { line = line; guest = guest; sig = sig; after = after } ∷ [] }

unfoldable pub add_signal : Draft → ℕ → List (List ℕ) → Result Draft Why
add_signal d line words =
    refuse_if (miscounts 3 3 words) Count
    (refuse_if (nat_le 64 (length d.signals)) TooMany
    (refuse_if (not (is_decimal (word_at words 1))) Number
    (signal_of (word_at words 2) >>= λ sig.
    in_range 0 4000000 (number_of (word_at words 3)) >>= λ after.
    guest_of d.guests (word_at words 1) >>= λ guest.
    Ok (with_signal d line guest sig after))))

unfoldable pub add_file : Draft → ℕ → List (List ℕ) → Result Draft Why
add_file d line words =
    refuse_if (miscounts 2 2 words) Count
    (refuse_if (nat_le 64 (length d.files)) TooMany
    (refuse_if (not (is_path (word_at words 1)) || is_taken d.files (word_at words 1)) Path
    (Ok (record d { files = d.files ++ record { line = line; path = word_at words 1; name = word_at words 2; bytes = [] } ∷ [] }))))

-- whether an input of that guest stands above
abbrev pub has_input : List InputLine → Option ℕ → Bool
has_input inputs None = false
has_input inputs (Some guest) = list_any (λ i. i.guest == guest) inputs

abbrev pub with_input : Draft → ℕ → ℕ → List ℕ → Draft
with_input d line guest name = record d { inputs = d.inputs ++ record { line = line; guest = guest; name = name; bytes = [] } ∷ [] }

unfoldable pub add_input : Draft → ℕ → List (List ℕ) → Result Draft Why
add_input d line words =
    refuse_if (miscounts 2 2 words) Count
    (refuse_if (has_input d.inputs (number_of (word_at words 1))) Repeat
    (refuse_if (not (is_decimal (word_at words 1))) Number
    (guest_of d.guests (word_at words 1) >>= λ guest.
    Ok (with_input d line guest (word_at words 2)))))

-- the line that begins with a key
unfoldable pub add_key : Draft → ℕ → List ℕ → List (List ℕ) → Result Draft Why
add_key d line key words =
    if is_key (codes "frames") key then (one_number d.frames 1 16000 words >>= λ n. Ok (record d { frames = Some n }))
    else (if is_key (codes "cores") key then (one_number d.cores 1 8 words >>= λ n. Ok (record d { cores = Some n }))
    else (if is_key (codes "workers") key then (one_number d.workers 1 4 words >>= λ n. Ok (record d { workers = Some n }))
    else (if is_key (codes "rings") key then (one_number d.rings 1 8 words >>= λ n. Ok (record d { rings = Some n }))
    else (if is_key (codes "limit") key then (one_number d.limit 1 4000000 words >>= λ n. Ok (record d { limit = Some n }))
    else (if is_key (codes "guest") key then add_guest d line words
    else (if is_key (codes "signal") key then add_signal d line words
    else (if is_key (codes "file") key then add_file d line words
    else (if is_key (codes "input") key then add_input d line words
    else Err Keyword))))))))
