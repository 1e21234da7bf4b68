-- What the lines of a job keep.
use Rattle.std.proofs.Common.{◌≡◌, ◌≢◌, ℕ, zero, suc, ◌+◌, ◌<◌, ◌≤◌, ◌==◌, ◌||◌, ◌&&◌, not, nat_le, List, [], ◌∷◌, ◌++◌, Bool, true, false, All, length, Option, Some, None, Result, Ok, Err, is_some, unwrap_or, get_or, drop, length-drop, codes, refl, sym, ap, subst, arith, length-append, if◌then◌else◌}
use Rattle.std.specs.List.{list_any}
use Rattle.std.proofs.lemmas.Bool.Decides.{nat_tests}
use Rattle.std.proofs.lemmas.List.Elements.{All-push, All-drop}
use Rattle.std.proofs.lemmas.List.Quantifiers.{all_pairs_push}
use Rattle.mck_word.specs.Numbers.{number_of}
use Rattle.job_model.specs.declared.job.GuestLine.{GuestLine}
use Rattle.job_model.specs.declared.job.SignalLine.{SignalLine}
use Rattle.job_model.specs.declared.job.FileLine.{FileLine}
use Rattle.job_model.specs.declared.job.InputLine.{InputLine}
use Rattle.job_text.specs.declared.draft.Draft.{Draft}
use Rattle.job_text.specs.declared.fault.Why.{Why}
use Rattle.job_text.specs.Kept.{IsWord, IsGuestLine, IsSignalLine, IsFileLine, IsInputLine, IsWithin, IsDraft, IsJob}
use Rattle.job_text.specs.Lines.{one_number, guest_among, guest_of, sendable, signal_of, add_guest, add_signal, with_signal, add_file, add_input, with_input, has_input, add_key}
use Rattle.job_text.specs.Checks.{◌>>=◌, in_range}
use Rattle.job_text.specs.Paths.{is_path, is_taken, meets}
use Rattle.job_text.specs.Reading.{no_lines}
use Rattle.job_text.specs.TextLines.{IsLine}
use Rattle.job_text.specs.Words.{word_at, is_decimal, is_key, miscounts}
use Rattle.job_text.proofs.Passed.{bound, unrefused, chosen, same, within, range_kept, Counted, counted_words}
use Rattle.job_text.proofs.WordLists.{neither, word_kept_at, words_behind}

-- ---- numbers of a line

passed : (b : Bool) (why : Why) (n m : ℕ) → (let r : Result ℕ Why = if b then Err why else Ok n in r) ≡ Ok m → (b ≡ false) × (n ≡ m)
passed true why n m h = cc
passed false why n m h = (refl, cc)

number_kept : (old : Option ℕ) (least most : ℕ) (words : List (List ℕ)) (n : ℕ) → one_number old least most words ≡ Ok n → IsWithin least most n
unfolding one_number
number_kept old least most words n h =
    let counted = unrefused (miscounts 1 1 words) _ _ n h in
    let new = unrefused (is_some old) _ _ n counted.1 in
    range_kept least most (number_of (word_at words 1)) n new.1

among_kept : (count : ℕ) (o : Option ℕ) (n : ℕ) → guest_among count o ≡ Ok n → IsWithin 1 count n
among_kept count None n h = cc
among_kept count (Some m) n h = let t = chosen (nat_le 1 m && nat_le m count) _ m n h in within 1 count m n t.0 t.1

guest_kept : (guests : List GuestLine) (word : List ℕ) (n : ℕ) → guest_of guests word ≡ Ok n → IsWithin 1 (length guests) n
unfolding guest_of
guest_kept guests word n h = among_kept (length guests) (number_of word) n h

sendable_kept : (n m : ℕ) → sendable n ≡ Ok m → (n ≡ m) × (19 ≤ m → 22 < m)
sendable_kept n m h =
    let t = passed (nat_le 19 n && nat_le n 22) _ n m h in
    (t.1, λ low. grind (arith, nat_tests, t.0, t.1))

signal_kept : (word : List ℕ) (n : ℕ) → signal_of word ≡ Ok n → IsWithin 1 64 n × (19 ≤ n → 22 < n)
unfolding signal_of
signal_kept word n h =
    let t = bound (in_range 1 64 (number_of word)) sendable n h in
    let s = sendable_kept t.0 n t.2 in
    let r = range_kept 1 64 (number_of word) t.0 t.1 in
    ((omega (arith, r.0, s.0), omega (arith, r.1, s.0)), s.1)

-- ---- what each kind of line adds

guest_line_kept : (line : ℕ) (words : List (List ℕ)) → IsLine words → Counted 1 64 words → IsGuestLine (record { line = line; args = drop 1 words })
guest_line_kept line words l c =
    record {
      named = omega (arith, c.low, length-drop 1 words);
      most = omega (arith, c.high, length-drop 1 words);
      words = All-drop IsWord 1 words c.kept;
      small = omega (arith, l.small, words_behind words (omega (arith, c.low)));
    }

more_guests : (n m : ℕ) (xs : List SignalLine) → n ≤ m → All (IsSignalLine n) xs → All (IsSignalLine m) xs
more_guests n m xs h all k d i =
    let s = all k d i in
    record { guest = s.guest; most_guest = omega (arith, s.most_guest); sig = s.sig; most_sig = s.most_sig; sendable = s.sendable; after = s.after }

more_inputs : (n m : ℕ) (xs : List InputLine) → n ≤ m → All (IsInputLine n) xs → All (IsInputLine m) xs
more_inputs n m xs h all k d i =
    let s = all k d i in record { guest = s.guest; most_guest = omega (arith, s.most_guest); name = s.name; empty = s.empty }

add_guest_kept : (d new : Draft) (line : ℕ) (words : List (List ℕ)) → IsLine words → IsDraft d → add_guest d line words ≡ Ok new → IsDraft new
unfolding add_guest
add_guest_kept d new line words l k h =
    let c = unrefused (miscounts 1 64 words) _ _ new h in
    let room = unrefused (nat_le 16 (length d.guests)) _ _ new c.1 in
    let few : length d.guests < 16 = grind (arith, nat_tests, room.0) in
    let guest : GuestLine = record { line = line; args = drop 1 words } in
    let longer : length (d.guests ++ guest ∷ []) ≡ length d.guests + 1 = length-append d.guests (guest ∷ []) in
    subst IsDraft (same _ new room.1)
    (record {
      frames = k.frames;
      cores = k.cores;
      workers = k.workers;
      rings = k.rings;
      limit = k.limit;
      guests = omega (arith, longer);
      guest_lines = All-push IsGuestLine d.guests guest k.guest_lines (guest_line_kept line words l (counted_words 1 64 words l c.0));
      signals = k.signals;
      signal_lines = more_guests (length d.guests) (length (d.guests ++ guest ∷ [])) d.signals (omega (arith, longer)) k.signal_lines;
      files = k.files;
      file_lines = k.file_lines;
      apart = k.apart;
      inputs = more_inputs (length d.guests) (length (d.guests ++ guest ∷ [])) d.inputs (omega (arith, longer)) k.inputs;
      once = k.once;
    })

with_signal_kept : (d : Draft) (line guest sig after : ℕ) → IsDraft d → length d.signals < 64 → IsSignalLine (length d.guests) (record { line = line; guest = guest; sig = sig; after = after }) → IsDraft (with_signal d line guest sig after)
with_signal_kept d line guest sig after k few h =
    let made : SignalLine = record { line = line; guest = guest; sig = sig; after = after } in
    record {
      frames = k.frames;
      cores = k.cores;
      workers = k.workers;
      rings = k.rings;
      limit = k.limit;
      guests = k.guests;
      guest_lines = k.guest_lines;
      signals = omega (arith, length-append d.signals (made ∷ []));
      signal_lines = All-push (IsSignalLine (length d.guests)) d.signals made k.signal_lines h;
      files = k.files;
      file_lines = k.file_lines;
      apart = k.apart;
      inputs = k.inputs;
      once = k.once;
    }

add_signal_kept : (d new : Draft) (line : ℕ) (words : List (List ℕ)) → IsDraft d → add_signal d line words ≡ Ok new → IsDraft new
unfolding add_signal
add_signal_kept d new line words k h =
    let c = unrefused (miscounts 3 3 words) _ _ new h in
    let room = unrefused (nat_le 64 (length d.signals)) _ _ new c.1 in
    let few : length d.signals < 64 = grind (arith, nat_tests, room.0) in
    let number = unrefused (not (is_decimal (word_at words 1))) _ _ new room.1 in
    let sig = bound (signal_of (word_at words 2)) (λ sig. in_range 0 4000000 (number_of (word_at words 3)) >>= λ after. guest_of d.guests (word_at words 1) >>= λ guest. Ok (with_signal d line guest sig after)) new number.1 in
    let after = bound (in_range 0 4000000 (number_of (word_at words 3))) (λ after. guest_of d.guests (word_at words 1) >>= λ guest. Ok (with_signal d line guest sig.0 after)) new sig.2 in
    let guest = bound (guest_of d.guests (word_at words 1)) (λ guest. Ok (with_signal d line guest sig.0 after.0)) new after.2 in
    let s = signal_kept (word_at words 2) sig.0 sig.1 in
    let g = guest_kept d.guests (word_at words 1) guest.0 guest.1 in
    let a = range_kept 0 4000000 (number_of (word_at words 3)) after.0 after.1 in
    subst IsDraft (same (with_signal d line guest.0 sig.0 after.0) new guest.2)
    (with_signal_kept d line guest.0 sig.0 after.0 k few
    (record { guest = omega (arith, g.0); most_guest = g.1; sig = omega (arith, s.0.0); most_sig = s.0.1; sendable = s.1; after = a.1 }))

none_pass : {X : Type 0} (p : X → Bool) (xs : List X) → list_any p xs ≡ false → (k : ℕ) (d : X) → k < length xs → p (get_or xs k d) ≡ false
none_pass p [] h k d i = absurd (omega arith)
none_pass p (x ∷ xs) h zero d i = (neither (p x) (list_any p xs) h).0
none_pass p (x ∷ xs) h (suc k) d i = none_pass p xs (neither (p x) (list_any p xs) h).1 k d (omega arith)

not_false : (b : Bool) → not b ≡ false → b ≡ true
not_false true h = refl
not_false false h = cc

file_line_kept : (line : ℕ) (words : List (List ℕ)) → Counted 2 2 words → is_path (word_at words 1) ≡ true → IsFileLine (record { line = line; path = word_at words 1; name = word_at words 2; bytes = [] })
file_line_kept line words c h =
    record { path = h; path_word = word_kept_at words 1 (omega (arith, c.low)) c.kept; name = word_kept_at words 2 (omega (arith, c.low)) c.kept; empty = refl }

add_file_kept : (d new : Draft) (line : ℕ) (words : List (List ℕ)) → IsLine words → IsDraft d → add_file d line words ≡ Ok new → IsDraft new
unfolding add_file
add_file_kept d new line words l k h =
    let c = unrefused (miscounts 2 2 words) _ _ new h in
    let room = unrefused (nat_le 64 (length d.files)) _ _ new c.1 in
    let few : length d.files < 64 = grind (arith, nat_tests, room.0) in
    let good = unrefused (not (is_path (word_at words 1)) || is_taken d.files (word_at words 1)) _ _ new room.1 in
    let clear = neither (not (is_path (word_at words 1))) (is_taken d.files (word_at words 1)) good.0 in
    let file : FileLine = record { line = line; path = word_at words 1; name = word_at words 2; bytes = [] } in
    subst IsDraft (same _ new good.1)
    (record {
      frames = k.frames;
      cores = k.cores;
      workers = k.workers;
      rings = k.rings;
      limit = k.limit;
      guests = k.guests;
      guest_lines = k.guest_lines;
      signals = k.signals;
      signal_lines = k.signal_lines;
      files = omega (arith, length-append d.files (file ∷ []));
      file_lines = All-push IsFileLine d.files file k.file_lines (file_line_kept line words (counted_words 2 2 words l c.0) (not_false (is_path (word_at words 1)) clear.0));
      apart = all_pairs_push (λ f g. meets g.path f.path ≡ false) d.files file k.apart (none_pass (λ f. meets (word_at words 1) f.path) d.files clear.1);
      inputs = k.inputs;
      once = k.once;
    })

among_is : (count : ℕ) (o : Option ℕ) (n : ℕ) → guest_among count o ≡ Ok n → o ≡ Some n
among_is count None n h = cc
among_is count (Some m) n h = ap (λ x. Some x) (chosen (nat_le 1 m && nat_le m count) _ m n h).1

guest_is : (guests : List GuestLine) (word : List ℕ) (n : ℕ) → guest_of guests word ≡ Ok n → number_of word ≡ Some n
unfolding guest_of
guest_is guests word n h = among_is (length guests) (number_of word) n h

apart_from : (m n : ℕ) → (m == n) ≡ false → m ≢ n
apart_from m n h e = grind (arith, nat_tests)

with_input_kept : (d : Draft) (line guest : ℕ) (name : List ℕ) → IsDraft d → IsWithin 1 (length d.guests) guest → IsWord name → has_input d.inputs (Some guest) ≡ false → IsDraft (with_input d line guest name)
with_input_kept d line guest name k g w h =
    let made : InputLine = record { line = line; guest = guest; name = name; bytes = [] } in
    record {
      frames = k.frames;
      cores = k.cores;
      workers = k.workers;
      rings = k.rings;
      limit = k.limit;
      guests = k.guests;
      guest_lines = k.guest_lines;
      signals = k.signals;
      signal_lines = k.signal_lines;
      files = k.files;
      file_lines = k.file_lines;
      apart = k.apart;
      inputs = All-push (IsInputLine (length d.guests)) d.inputs made k.inputs (record { guest = omega (arith, g.0); most_guest = g.1; name = w; empty = refl });
      once = all_pairs_push (λ i j. i.guest ≢ j.guest) d.inputs made k.once (λ n e i. apart_from _ guest (none_pass (λ i. i.guest == guest) d.inputs h n e i));
    }

add_input_kept : (d new : Draft) (line : ℕ) (words : List (List ℕ)) → IsLine words → IsDraft d → add_input d line words ≡ Ok new → IsDraft new
unfolding add_input
add_input_kept d new line words l k h =
    let c = unrefused (miscounts 2 2 words) _ _ new h in
    let once = unrefused (has_input d.inputs (number_of (word_at words 1))) _ _ new c.1 in
    let number = unrefused (not (is_decimal (word_at words 1))) _ _ new once.1 in
    let guest = bound (guest_of d.guests (word_at words 1)) (λ guest. Ok (with_input d line guest (word_at words 2))) new number.1 in
    let n = counted_words 2 2 words l c.0 in
    subst IsDraft (same (with_input d line guest.0 (word_at words 2)) new guest.2)
    (with_input_kept d line guest.0 (word_at words 2) k (guest_kept d.guests (word_at words 1) guest.0 guest.1) (word_kept_at words 2 (omega (arith, n.low)) n.kept)
    (subst (λ o. has_input d.inputs o ≡ false) (guest_is d.guests (word_at words 1) guest.0 guest.1) once.0))

-- ---- numbers

with_number : (r : Result ℕ Why) (put : ℕ → Draft) (new : Draft) → ((n : ℕ) → r ≡ Ok n → IsDraft (put n)) → (r >>= λ n. Ok (put n)) ≡ Ok new → IsDraft new
with_number (Ok n) put new kept h = subst IsDraft (same (put n) new h) (kept n refl)
with_number (Err why) put new kept h = cc

frames_kept : (d new : Draft) (words : List (List ℕ)) → IsDraft d → (one_number d.frames 1 16000 words >>= λ n. Ok (record d { frames = Some n })) ≡ Ok new → IsDraft new
frames_kept d new words k h = with_number (one_number d.frames 1 16000 words) (λ n. record d { frames = Some n }) new (λ n e. record {
  frames = number_kept d.frames 1 16000 words n e;
  cores = k.cores;
  workers = k.workers;
  rings = k.rings;
  limit = k.limit;
  guests = k.guests;
  guest_lines = k.guest_lines;
  signals = k.signals;
  signal_lines = k.signal_lines;
  files = k.files;
  file_lines = k.file_lines;
  apart = k.apart;
  inputs = k.inputs;
  once = k.once;
}) h

cores_kept : (d new : Draft) (words : List (List ℕ)) → IsDraft d → (one_number d.cores 1 8 words >>= λ n. Ok (record d { cores = Some n })) ≡ Ok new → IsDraft new
cores_kept d new words k h = with_number (one_number d.cores 1 8 words) (λ n. record d { cores = Some n }) new (λ n e. record {
  frames = k.frames;
  cores = number_kept d.cores 1 8 words n e;
  workers = k.workers;
  rings = k.rings;
  limit = k.limit;
  guests = k.guests;
  guest_lines = k.guest_lines;
  signals = k.signals;
  signal_lines = k.signal_lines;
  files = k.files;
  file_lines = k.file_lines;
  apart = k.apart;
  inputs = k.inputs;
  once = k.once;
}) h

workers_kept : (d new : Draft) (words : List (List ℕ)) → IsDraft d → (one_number d.workers 1 4 words >>= λ n. Ok (record d { workers = Some n })) ≡ Ok new → IsDraft new
workers_kept d new words k h = with_number (one_number d.workers 1 4 words) (λ n. record d { workers = Some n }) new (λ n e. record {
  frames = k.frames;
  cores = k.cores;
  workers = number_kept d.workers 1 4 words n e;
  rings = k.rings;
  limit = k.limit;
  guests = k.guests;
  guest_lines = k.guest_lines;
  signals = k.signals;
  signal_lines = k.signal_lines;
  files = k.files;
  file_lines = k.file_lines;
  apart = k.apart;
  inputs = k.inputs;
  once = k.once;
}) h

rings_kept : (d new : Draft) (words : List (List ℕ)) → IsDraft d → (one_number d.rings 1 8 words >>= λ n. Ok (record d { rings = Some n })) ≡ Ok new → IsDraft new
rings_kept d new words k h = with_number (one_number d.rings 1 8 words) (λ n. record d { rings = Some n }) new (λ n e. record {
  frames = k.frames;
  cores = k.cores;
  workers = k.workers;
  rings = number_kept d.rings 1 8 words n e;
  limit = k.limit;
  guests = k.guests;
  guest_lines = k.guest_lines;
  signals = k.signals;
  signal_lines = k.signal_lines;
  files = k.files;
  file_lines = k.file_lines;
  apart = k.apart;
  inputs = k.inputs;
  once = k.once;
}) h

limit_kept : (d new : Draft) (words : List (List ℕ)) → IsDraft d → (one_number d.limit 1 4000000 words >>= λ n. Ok (record d { limit = Some n })) ≡ Ok new → IsDraft new
limit_kept d new words k h = with_number (one_number d.limit 1 4000000 words) (λ n. record d { limit = Some n }) new (λ n e. record {
  frames = k.frames;
  cores = k.cores;
  workers = k.workers;
  rings = k.rings;
  limit = number_kept d.limit 1 4000000 words n e;
  guests = k.guests;
  guest_lines = k.guest_lines;
  signals = k.signals;
  signal_lines = k.signal_lines;
  files = k.files;
  file_lines = k.file_lines;
  apart = k.apart;
  inputs = k.inputs;
  once = k.once;
}) h

-- ---- a line

either_kept : (b : Bool) (x y : Result Draft Why) (new : Draft) → (x ≡ Ok new → IsDraft new) → (y ≡ Ok new → IsDraft new) → (if b then x else y) ≡ Ok new → IsDraft new
either_kept true x y new f g h = f h
either_kept false x y new f g h = g h

pub add_key_kept : (d new : Draft) (line : ℕ) (key : List ℕ) (words : List (List ℕ)) → IsLine words → IsDraft d → add_key d line key words ≡ Ok new → IsDraft new
unfolding add_key
add_key_kept d new line key words l k h =
    either_kept (is_key (codes "frames") key) _ _ new (frames_kept d new words k)
    (either_kept (is_key (codes "cores") key) _ _ new (cores_kept d new words k)
    (either_kept (is_key (codes "workers") key) _ _ new (workers_kept d new words k)
    (either_kept (is_key (codes "rings") key) _ _ new (rings_kept d new words k)
    (either_kept (is_key (codes "limit") key) _ _ new (limit_kept d new words k)
    (either_kept (is_key (codes "guest") key) _ _ new (add_guest_kept d new line words l k)
    (either_kept (is_key (codes "signal") key) _ _ new (add_signal_kept d new line words k)
    (either_kept (is_key (codes "file") key) _ _ new (add_file_kept d new line words l k)
    (either_kept (is_key (codes "input") key) _ _ new (add_input_kept d new line words l k) (λ e. cc))))))))) h

pub none_kept : IsDraft no_lines
none_kept = record {
  frames = (omega arith, omega arith);
  cores = (omega arith, omega arith);
  workers = (omega arith, omega arith);
  rings = (omega arith, omega arith);
  limit = (omega arith, omega arith);
  guests = omega arith;
  guest_lines = λ k d i. absurd (omega arith);
  signals = omega arith;
  signal_lines = λ k d i. absurd (omega arith);
  files = omega arith;
  file_lines = λ k d i. absurd (omega arith);
  apart = λ i j d h w. absurd (omega arith);
  inputs = λ k d i. absurd (omega arith);
  once = λ i j d h w. absurd (omega arith);
}

pub job_kept : (d : Draft) (frames cores workers rings limit : ℕ) → IsDraft d → d.frames ≡ Some frames → length d.guests ≢ 0 → cores ≡ unwrap_or d.cores 1 → workers ≡ unwrap_or d.workers 2 → rings ≡ unwrap_or d.rings 1 → limit ≡ unwrap_or d.limit 1000000 → IsJob (record {
  frames = frames;
  cores = cores;
  workers = workers;
  rings = rings;
  limit = limit;
  guests = d.guests;
  signals = d.signals;
  files = d.files;
  inputs = d.inputs;
})
job_kept d frames cores workers rings limit k f some e g h i =
    record {
      frames = subst (λ o. IsWithin 1 16000 (unwrap_or o 1)) f k.frames;
      cores = subst (IsWithin 1 8) (sym e) k.cores;
      workers = subst (IsWithin 1 4) (sym g) k.workers;
      rings = subst (IsWithin 1 8) (sym h) k.rings;
      limit = subst (IsWithin 1 4000000) (sym i) k.limit;
      guests = (omega arith, k.guests);
      guest_lines = k.guest_lines;
      signals = k.signals;
      signal_lines = k.signal_lines;
      files = k.files;
      file_lines = k.file_lines;
      apart = k.apart;
      inputs = k.inputs;
      once = k.once;
    }
