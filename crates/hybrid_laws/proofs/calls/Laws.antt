-- The two kinds of steps of a delegated call: what a file step and the move of a piece do to the description that the call holds.
use Rattle.kernel_model.specs.CallPhases as Phases
use Rattle.kernel_model.specs.Progress as Steps
use Rattle.file_model.specs.Errno.{EINVAL, ENAMETOOLONG}
use Rattle.file_model.specs.FileSteps.{file_step}
use Rattle.file_model.specs.Files.{Files}
use Rattle.file_model.specs.Operations.{FileResult}
use Rattle.file_model.specs.declared.operations.FileOp.TheVariants.{Openat, Mkdirat, Unlinkat, Close, Lseek, Ioctl, Pipe2, Fstat, Getdents, Read as ReadAct, Write as WriteAct, Get, Put, Leave}
use Rattle.file_model.specs.declared.operations.FileOp.{FileOp}
use Rattle.hybrid_laws.proofs.calls.Steps.{act-find, act-plain, acts-rest, as-before, counted-most, ended, gives-back, is_act, settles}
use Rattle.hybrid_laws.proofs.files.Descriptions.{carries-beside, carries-same, carries-then}
use Rattle.hybrid_laws.proofs.files.Operations.{FindStep, PlainStep, cond-case, find-read, find-write, plain-close, plain-fstat, plain-get, plain-getdents, plain-ioctl, plain-lseek, plain-mkdirat, plain-openat, plain-pipe2, plain-put, plain-unlinkat}
use Rattle.hybrid_laws.specs.CallSteps.{Carries, FoundHeld, StepCarries}
use Rattle.hybrid_model.specs.Globals.{IsUnderWay, acts_left, description_held}
use Rattle.hybrid_model.specs.Tallies.{counted}
use Rattle.kernel_model.specs.CallPhases.{Gather, Scatter, Stream, act_of, most_moved}
use Rattle.kernel_model.specs.Progress.{Moved, Progress, advanced, cut_ranges, description_found, ends, file_step_in, gather_path, gather_vectors, gathered, given_back, move_piece, moved_in_phase, nat_of, next_piece, offset_argument, scattered, settle, stream_end, stream_operation, streamed, streamed_in, streamed_on, streamed_out, take_file_step, with_scatter, without_empty}
use Rattle.kernel_model.specs.Steps.{status_after}
use Rattle.kernel_model.specs.declared.ranges.Range.{Range}
use Rattle.mck_word.specs.Lists.{before_zero, tail}
use Rattle.mck_word.specs.Words.{refused}
use Rattle.std.proofs.Common.{ap, arith, refl, subst, sym}
use Rattle.std.specs.List.{list_any}
use Rattle.std.specs.Prelude.{Bool, List, None, Option, Some, [], cond, drop, false, get_or, length, nat_le, nat_lt, negsuc, pos, take, true, ℕ, ◌++◌, ◌+◌, ◌==◌, ◌^◌, ◌||◌, ◌∷◌, ◌≡◌, ◌≤◌}
use Rattle.system_calls.specs.FileCalls.{has_path, is_read, is_write}
use Rattle.system_calls.specs.declared.file_calls.FileCall.TheVariants as Calls
use Rattle.system_calls.specs.declared.file_calls.FileCall.{FileCall}

-- ---- which act a call has: reading and writing calls find a description, the others don't
abbrev Finding : FileOp → Type 0
Finding (ReadAct fd o n) = Unit {0}
Finding (WriteAct fd o n) = Unit {0}
Finding _ = ⊥

abbrev Other : FileOp → Type 0
Other (ReadAct fd o n) = ⊥
Other (WriteAct fd o n) = ⊥
Other (Get d o m n) = ⊥
Other (Put d o m n) = ⊥
Other (Leave d) = ⊥
Other _ = Unit {0}

abbrev Fits : Bool → FileOp → Type 0
Fits true op = Finding op
Fits false op = Other op

act-fits : (call : FileCall) (arguments : List ℕ) → Fits (is_read call || is_write call) (act_of call arguments)
act-fits Calls.Openat arguments = tt
act-fits Calls.Mkdirat arguments = tt
act-fits Calls.Unlinkat arguments = tt
act-fits Calls.Close arguments = tt
act-fits Calls.Lseek arguments = tt
act-fits Calls.Ioctl arguments = tt
act-fits Calls.Pipe2 arguments = tt
act-fits Calls.Fstat arguments = tt
act-fits Calls.Getdents64 arguments = tt
act-fits Calls.Read arguments = tt
act-fits Calls.Readv arguments = tt
act-fits Calls.Write arguments = tt
act-fits Calls.Writev arguments = tt
act-fits Calls.Pread64 arguments = tt
act-fits Calls.Pwrite64 arguments = tt

module _ (p : Progress) (files : Files) (process : ℕ) (u : IsUnderWay p) (l : FoundHeld files p.found) where
  finding : (op : FileOp) (given : List ℕ) → Finding op → FindStep files (file_step files process op given)
  finding (ReadAct fd o n) given f = find-read files process fd o n
  finding (WriteAct fd o n) given f = find-write files process fd o n
  finding (Openat a b) given f = absurd f
  finding (Mkdirat a) given f = absurd f
  finding (Unlinkat a b) given f = absurd f
  finding (Close a) given f = absurd f
  finding (Lseek a b c) given f = absurd f
  finding (Ioctl a) given f = absurd f
  finding (Pipe2 a) given f = absurd f
  finding (Fstat a) given f = absurd f
  finding (Getdents a b) given f = absurd f
  finding (Get a b c d) given f = absurd f
  finding (Put a b c d) given f = absurd f
  finding (Leave a) given f = absurd f

  other : (op : FileOp) (given : List ℕ) → Other op → PlainStep files (file_step files process op given)
  other (ReadAct fd o n) given f = absurd f
  other (WriteAct fd o n) given f = absurd f
  other (Openat a b) given f = plain-openat files process a b given
  other (Mkdirat a) given f = plain-mkdirat files process a given
  other (Unlinkat a b) given f = plain-unlinkat files process a b given
  other (Close a) given f = plain-close files process a
  other (Lseek a b c) given f = plain-lseek files process a b c
  other (Ioctl a) given f = plain-ioctl files process a
  other (Pipe2 a) given f = plain-pipe2 files process a
  other (Fstat a) given f = plain-fstat files process a
  other (Getdents a b) given f = plain-getdents files process a b
  other (Get a b c d) given f = absurd f
  other (Put a b c d) given f = absurd f
  other (Leave a) given f = absurd f

  acts : get_or p.phases 0 Phases.Act ≡ Phases.Act → StepCarries p files (Steps.acted p (file_step files process (act_of p.call p.arguments) p.buffer))
  acts is = go (is_read p.call || is_write p.call) (act-fits p.call p.arguments)
    where
      r : FileResult
      r = file_step files process (act_of p.call p.arguments) p.buffer

      go : (b : Bool) → Fits b (act_of p.call p.arguments) → StepCarries p files (elim (file_step files process (act_of p.call p.arguments) p.buffer).answer [
        | negsuc n ↦ record { progress = p; ended = Some (negsuc n); files = (file_step files process (act_of p.call p.arguments) p.buffer).files }
        | pos n ↦ cond b (settle (record p { found = Some n; phases = tail p.phases }) (file_step files process (act_of p.call p.arguments) p.buffer).files)
            (settle (record p { answer = pos n; buffer = (file_step files process (act_of p.call p.arguments) p.buffer).out; phases = with_scatter (file_step files process (act_of p.call p.arguments) p.buffer).out (tail p.phases) }) (file_step files process (act_of p.call p.arguments) p.buffer).files)
      ])
      go true f = act-find p files process u l is (file_step files process (act_of p.call p.arguments) p.buffer) (finding (act_of p.call p.arguments) p.buffer f)
      go false f = act-plain p files process u l is (file_step files process (act_of p.call p.arguments) p.buffer) (other (act_of p.call p.arguments) p.buffer f)

  -- ---- streams
  streams : (given : List ℕ) → PlainStep files (file_step files process (stream_operation p) given)
  streams given = cond-case (λ op. PlainStep files (file_step files process op given)) (is_read p.call)
      (Get (description_found p) (offset_argument p) p.moved (next_piece p).len) (Put (description_found p) (offset_argument p) p.moved (next_piece p).len)
      (plain-get files (description_found p) (offset_argument p) p.moved (next_piece p).len)
      (plain-put files (description_found p) (offset_argument p) p.moved (next_piece p).len given)

  -- what the call holds is still held after an operation that keeps it
  still-held : (r : FileResult) → PlainStep files r → FoundHeld r.files p.found
  still-held r s d e = omega (arith, s.kept.calls d, l d e)

  stream-ends : (r : FileResult) → PlainStep files r → StepCarries p files (stream_end p r)
  stream-ends r s = record {
    kept = carries-then p.found p.found None files.descriptions r.files.descriptions (given_back p r.files).descriptions (carries-beside p.found files.descriptions r.files.descriptions s.kept) (gives-back r.files p.found (still-held r s));
    goes = tt;
  }

  stream-goes : (r : FileResult) → PlainStep files r → is_act (get_or p.phases 0 Phases.Act) ≡ 0 → (ranges : List Range) (n : ℕ) → StepCarries p files (settle (streamed_on p ranges n) r.files)
  stream-goes r s e ranges n =
      let t = settles (streamed_on p ranges n) r.files (acts-rest p files process u l e) (still-held r s) in
      record { kept = carries-then p.found p.found (description_held (status_after (settle (streamed_on p ranges n) r.files))) files.descriptions r.files.descriptions (settle (streamed_on p ranges n) r.files).files.descriptions (carries-beside p.found files.descriptions r.files.descriptions s.kept) t.kept; goes = t.goes }

  -- ---- a file step
  pub carries-file-step : StepCarries p files (take_file_step p files process)
  carries-file-step = go (get_or p.phases 0 Phases.Act) refl
    where
      go : (phase : Phases.Phase) → get_or p.phases 0 Phases.Act ≡ phase → StepCarries p files (file_step_in p files process phase)
      go Phases.Act e = acts e
      go (Stream rs) e = stream-ends (file_step files process (stream_operation p) []) (streams [])
      go (Gather rs) e = settles p files u.acts l
      go (Scatter rs) e = settles p files u.acts l

  -- ---- a piece
  module _ (e : is_act (get_or p.phases 0 Phases.Act) ≡ 0) (page : List ℕ) where
    rest : acts_left (tail p.phases) + counted p.found ≤ 1
    rest = acts-rest p files process u l e

    onward : (q : Progress) → q.found ≡ p.found → 1 ≤ length q.phases → acts_left q.phases + counted q.found ≤ 1 → StepCarries p files (Steps.goes_on q files)
    onward q f g a = record {
      kept = subst (λ (o : Option ℕ). Carries p.found o files.descriptions files.descriptions) (sym f) (carries-same p.found files.descriptions);
      goes = record { phases = g; acts = a };
    }

    settled-onward : (q : Progress) → q.found ≡ p.found → acts_left q.phases + counted q.found ≤ 1 → StepCarries p files (settle q files)
    settled-onward q f a =
        let held : FoundHeld files q.found = subst (FoundHeld files) (sym f) l in
        let t = settles q files a held in
        record { kept = subst (λ (o : Option ℕ). Carries o (description_held (status_after (settle q files))) files.descriptions (settle q files).files.descriptions) f t.kept; goes = t.goes }

    paths : (q : Progress) → q.found ≡ p.found → q.phases ≡ p.phases → (ranges : List Range) → StepCarries p files (gather_path q ranges files)
    paths q f g ranges =
        let a : acts_left (tail q.phases) + counted q.found ≤ 1 = omega (arith, ap (λ (ps : List Phases.Phase). acts_left (tail ps)) g, ap (counted {A = ℕ}) f, rest) in
        cond-case (StepCarries p files) (nat_lt (length (before_zero q.buffer)) (length q.buffer)) (settle (record q { buffer = before_zero q.buffer; phases = tail q.phases }) files)
        (cond (length ranges == 0) (ends (refused ENAMETOOLONG) q files) (Steps.goes_on (record q { phases = Gather ranges ∷ tail q.phases }) files))
        (settled-onward (record q { buffer = before_zero q.buffer; phases = tail q.phases }) f a)
        (cond-case (StepCarries p files) (length ranges == 0) (ends (refused ENAMETOOLONG) q files) (Steps.goes_on (record q { phases = Gather ranges ∷ tail q.phases }) files)
        (ended p files process u l (refused ENAMETOOLONG) q f)
        (onward (record q { phases = Gather ranges ∷ tail q.phases }) f (omega arith) a))

    gather-vectors : (q : Progress) → q.found ≡ p.found → q.phases ≡ p.phases → (ranges : List Range) → StepCarries p files (gather_vectors q ranges files)
    gather-vectors q f g (r ∷ rs) =
        onward (record q { phases = Gather (r ∷ rs) ∷ tail q.phases }) f (omega arith) (omega (arith, ap (λ (ps : List Phases.Phase). acts_left (tail ps)) g, ap (counted {A = ℕ}) f, rest))
    gather-vectors q f g [] =
        cond-case (StepCarries p files) (list_any (λ v. nat_le (2 ^ 63) v.len) (Steps.vectors 16 q.buffer)) (ends (refused EINVAL) q files)
        (settle (record q { buffer = []; phases = Stream (without_empty (cut_ranges most_moved (Steps.vectors 16 q.buffer))) ∷ [] }) files)
        (ended p files process u l (refused EINVAL) q f)
        (settled-onward (record q { buffer = []; phases = Stream (without_empty (cut_ranges most_moved (Steps.vectors 16 q.buffer))) ∷ [] }) f (omega (arith, counted-most q.found)))

    moves-gather : (ranges : List Range) → StepCarries p files (gathered p ranges files page).after
    moves-gather ranges =
        let q : Progress = record p { buffer = p.buffer ++ take (next_piece p).len (drop (next_piece p).off page) } in
        cond-case (StepCarries p files) (has_path p.call) (gather_path q (advanced (next_piece p).len ranges) files) (gather_vectors q (advanced (next_piece p).len ranges) files)
        (paths q refl refl (advanced (next_piece p).len ranges)) (gather-vectors q refl refl (advanced (next_piece p).len ranges))

    moves-scatter : (ranges : List Range) → StepCarries p files (scattered p ranges files page).after
    moves-scatter ranges = settled-onward (record p { buffer = drop (next_piece p).len p.buffer; phases = Scatter (advanced (next_piece p).len ranges) ∷ tail p.phases }) refl rest

    moves-stream : (ranges : List Range) → StepCarries p files (streamed p ranges files process page).after
    moves-stream ranges = cond-case (λ (m : Moved). StepCarries p files m.after) (is_read p.call)
        (streamed_in p ranges files process page (file_step files process (stream_operation p) []))
        (streamed_out p ranges page (file_step files process (stream_operation p) (take (next_piece p).len (drop (next_piece p).off page))))
        (stream-goes (file_step files process (stream_operation p) []) (streams []) e ranges (length (file_step files process (stream_operation p) []).out))
        (stream-goes (file_step files process (stream_operation p) (take (next_piece p).len (drop (next_piece p).off page))) (streams (take (next_piece p).len (drop (next_piece p).off page))) e ranges
        (nat_of (file_step files process (stream_operation p) (take (next_piece p).len (drop (next_piece p).off page))).answer))

  pub carries-piece : (page : List ℕ) → StepCarries p files (move_piece p files process page).after
  carries-piece page = go (get_or p.phases 0 Phases.Act) refl
    where
      go : (phase : Phases.Phase) → get_or p.phases 0 Phases.Act ≡ phase → StepCarries p files (moved_in_phase p files process page phase).after
      go Phases.Act e = as-before p files process u l
      go (Gather rs) e = moves-gather (ap is_act e) page (without_empty rs)
      go (Scatter rs) e = moves-scatter (ap is_act e) page (without_empty rs)
      go (Stream rs) e = moves-stream (ap is_act e) page (without_empty rs)
