-- A piece of a stream leaves less to do: a whole one by its page, one that is cut by what may be cut no more; or it is quiet, and its step is ready no more.
use Rattle.file_model.specs.FileSteps.{file_step, ready}
use Rattle.file_model.specs.Files.{Files, description_of}
use Rattle.file_model.specs.Operations.{FileResult, done, fails}
use Rattle.file_model.specs.Streams.{bytes_there, get_piece, put_bytes, read_ready, write_error, write_ready}
use Rattle.file_model.specs.declared.descriptions.Target.TheVariants.{OfNode, ReadEnd, WriteEnd, OfConsole}
use Rattle.file_model.specs.declared.descriptions.Target.{Target}
use Rattle.file_model.specs.declared.operations.FileOp.TheVariants.{Get, Put}
use Rattle.file_model.specs.declared.operations.FileOp.{FileOp}
use Rattle.file_model.specs.declared.operations.Readiness.TheVariants.{Ready, NotReady, FileStep}
use Rattle.file_model.specs.declared.operations.Readiness.{Readiness}
use Rattle.kernel_model.specs.CallPhases.{Act, Phase, Stream}
use Rattle.kernel_model.specs.Progress.{After, Moved, Progress, advanced, answer_of, description_found, drop_used_up, ends, goes_on, has_piece, is_ready, is_used_up, kind_of_phase, nat_of, next_kind, next_piece, offset_argument, passed_on, ranges_left, settle, streamed, streamed_in, streamed_on, streamed_out, without_empty}
use Rattle.kernel_model.specs.declared.ranges.Range.{Range}
use Rattle.mck_word.specs.Lists.{tail}
use Rattle.std.proofs.Common.{ap, arith, inl, inr, length-drop, length-take, refl, subst, sym, ◌∙◌}
use Rattle.std.proofs.lemmas.Bool.Decides.{nat_tests}
use Rattle.std.specs.Prelude.{Bool, List, None, Option, [], cond, drop, false, get_or, length, min, nat_lt, pos, take, true, ℕ, ◌%◌, ◌*◌, ◌+◌, ◌-◌, ◌<◌, ◌==◌, ◌∷◌, ◌≡◌, ◌≤◌, ◌⊎◌}
use Rattle.system_calls.specs.FileCalls.{is_read}
use Rattle.work_laws.proofs.calls.Pieces.{UnderWay, part-piece, whole-piece}
use Rattle.work_laws.proofs.calls.Settling.{after_left, full-pieces, left-is, on-less, settle-less}
use Rattle.work_laws.proofs.files.CutGets.{get-cut}
use Rattle.work_laws.proofs.files.CutPuts.{put-cut}
use Rattle.work_laws.proofs.files.Quieter.{AsLong, Quieter, quieter}
use Rattle.work_laws.proofs.files.StreamsAdd.{get-adds, put_bytes-adds}
use Rattle.work_laws.specs.KernelLeft.{begins_with_act, files_left, phases_left, pieces, progress_left}

-- a step of a call after which nothing is readier, and its next step isn't ready
pub record QuietStep (p : Progress) (files : Files) (a : After) : Type 0 where
  pub same : after_left a ≤ files_left files + progress_left p
  pub quieter : Quieter files a.files
  pub goes : a.ended ≡ None
  pub idle : is_ready (next_kind a.files a.progress) ≡ false

abbrev pub PieceLess : Progress → Files → After → Type 0
PieceLess p files a = (after_left a + 1 ≤ files_left files + progress_left p) ⊎ QuietStep p files a

module _ (p : Progress) (files : Files) (process : ℕ) (rs : List Range) (rest : List Phase) (u : UnderWay p files (Stream rs) rest) where
  abbrev ranges : List Range
  ranges = without_empty rs

  abbrev piece : ℕ
  piece = (next_piece p).len

  abbrev on : ℕ → Progress
  on n = streamed_on p ranges n

  before : progress_left p ≡ 1 + (1 + 2 * pieces rs + phases_left p.call rest)
  before = left-is p (ap begins_with_act u.begins) ∙ ap (λ ps. 1 + phases_left p.call ps) u.begins

  tail-is : phases_left p.call (tail p.phases) ≡ phases_left p.call rest
  tail-is = ap (λ ps. phases_left p.call (tail ps)) u.begins

  pieces-are : pieces rs ≡ pieces (u.first ∷ u.others)
  pieces-are = let a = full-pieces rs in let b = ap pieces u.ranges in omega (arith, a, b)

  whole : (n : ℕ) (after : Files) → n ≡ piece → files_left after ≤ files_left files + 1 → PieceLess p files (settle (on n) after)
  whole n after e l =
      let a = settle-less (on n) after in
      let b = whole-piece u.first u.others n (e ∙ u.piece) u.some in
      let c = ap (λ ws. pieces (advanced n ws)) u.ranges in
      let d = before in
      let f = tail-is in
      let g = pieces-are in
      inl (omega (arith, a, b, c, d, f, g, l))

  -- a piece that is cut keeps its page
  kept : (n : ℕ) → n ≤ piece → pieces (advanced n ranges) ≤ pieces rs
  kept n l =
      let s = u.piece in
      let b = part-piece u.first u.others n (omega (arith, l, s)) u.some in
      let c = ap (λ ws. pieces (advanced n ws)) u.ranges in
      let g = pieces-are in
      omega (arith, b, c, g)

  cut-less : (n : ℕ) (after : Files) → n ≤ piece → files_left after + 1 ≤ files_left files → PieceLess p files (settle (on n) after)
  cut-less n after l m =
      let a = settle-less (on n) after in
      let b = kept n l in
      let d = before in
      let f = tail-is in
      inl (omega (arith, a, b, d, f, m))

  -- ---- a quiet step
  goes-on : (n : ℕ) (after : Files) → n < piece → settle (on n) after ≡ goes_on (on n) after
  goes-on n after l =
      ap (λ ps. passed_on (record (on n) { phases = ps }) after) dropped
      ∙ (let z : (length (on n).phases == 0) ≡ false = grind (arith, nat_tests) in ap (λ b. cond b (ends (answer_of (on n)) (on n) after) (goes_on (on n) after)) z)
    where
      rest-len : nat_lt 0 (u.first.len - n) ≡ true
      rest-len = let s = u.piece in let z : 0 < u.first.len - n = omega (arith, l, s) in grind (arith, nat_tests, z)

      left : Range
      left = record { address = u.first.address + n; len = u.first.len - n }

      some-left : advanced n ranges ≡ left ∷ without_empty u.others
      some-left = ap (advanced n) u.ranges ∙ ap (λ b. cond b (left ∷ without_empty u.others) (without_empty u.others)) rest-len

      not-used : is_used_up (Stream (advanced n ranges)) ≡ false
      not-used =
          ap (λ ws. length (without_empty ws) == 0) some-left
          ∙ ap (λ b. length (cond b (left ∷ without_empty (without_empty u.others)) (without_empty (without_empty u.others))) == 0) rest-len
          ∙ (let z : (length (left ∷ without_empty (without_empty u.others)) == 0) ≡ false = grind (arith, nat_tests) in z)

      dropped : drop_used_up (on n).phases ≡ (on n).phases
      dropped = ap (λ b. cond b (drop_used_up (tail p.phases)) (Stream (advanced n ranges) ∷ tail p.phases)) not-used

  quiet : (n : ℕ) (after : Files) → n < piece → files_left after ≤ files_left files → AsLong files after → is_ready (kind_of_phase after (on n) (Stream (advanced n ranges))) ≡ false → PieceLess p files (settle (on n) after)
  quiet n after l m long idle = inr (subst (λ a. QuietStep p files a) (sym (goes-on n after l)) (record {
    same = (let a = on-less (on n) after in let b = kept n (omega (arith, l)) in let d = before in let f = tail-is in omega (arith, a, b, d, f, m));
    quieter = quieter files after long;
    goes = refl;
    idle = idle;
  }))

  -- ---- reading and writing
  abbrev d : ℕ
  d = description_found p

  abbrev own : Option ℕ
  own = offset_argument p

  small : piece ≤ 4096
  small = let s = u.piece in omega (arith, s)

  abbrev reads : Files → ℕ → Bool
  reads after n = is_ready (read_ready after d own (p.moved + n))

  abbrev writes : Files → ℕ → ℕ → Bool
  writes after n k = is_ready (write_ready after d own (p.moved + n) k)

  -- the operation of the next piece, after n bytes
  next-idle : (b : Bool) → is_read p.call ≡ b → (after : Files) (n : ℕ) → (b ≡ true → reads after n ≡ false) → (b ≡ false → (k : ℕ) → writes after n k ≡ false) → is_ready (kind_of_phase after (on n) (Stream (advanced n ranges))) ≡ false
  next-idle b e after n r w =
      ap (λ c. is_ready (cond (has_piece (on n)) (ready after (cond c (Get d own (p.moved + n) (next_piece (on n)).len) (Put d own (p.moved + n) (next_piece (on n)).len))) FileStep)) e
      ∙ go b r w (has_piece (on n))
    where
      go : (c : Bool) → (c ≡ true → reads after n ≡ false) → (c ≡ false → (k : ℕ) → writes after n k ≡ false) → (h : Bool)
          → is_ready (cond h (ready after (cond c (Get d own (p.moved + n) (next_piece (on n)).len) (Put d own (p.moved + n) (next_piece (on n)).len))) FileStep) ≡ false
      go true r w true = r refl
      go false r w true = w refl (next_piece (on n)).len
      go c r w false = refl

  abbrev got : FileResult
  got = get_piece files d own p.moved piece

  read-less : is_read p.call ≡ true → is_ready (read_ready files d own p.moved) ≡ true → PieceLess p files (settle (on (length got.out)) got.files)
  read-less e r = go (nat_lt n piece) refl
    where
      n : ℕ
      n = length got.out

      most : n ≤ piece
      most = let a = length-take piece (bytes_there files (description_of files d) own p.moved (description_of files d).target) in omega (arith, a)

      cut : n < piece → PieceLess p files (settle (on n) got.files)
      cut l = elim (get-cut files d own p.moved piece small r l) [
        | inl a ↦ cut-less n got.files most a
        | inr i ↦ quiet n got.files l i.less i.long (next-idle true e got.files n (λ x. i.idle 0) (λ x. absurd (grind (arith, x))))
      ]

      go : (b : Bool) → nat_lt n piece ≡ b → PieceLess p files (settle (on n) got.files)
      go true f = cut (grind (arith, nat_tests, f))
      go false f = let m = most in whole n got.files (grind (arith, nat_tests, f, m)) (get-adds files d own p.moved piece)

  module _ (page : List ℕ) (full : length page ≡ 4096) where
    abbrev given : List ℕ
    given = take piece (drop (next_piece p).off page)

    off-is : (next_piece p).off + piece ≤ 4096
    off-is = fits (get_or (ranges_left p) 0 (record { address = 0; len = 0 }))
      where
        fits : (r : Range) → r.address % 4096 + min r.len (4096 - r.address % 4096) ≤ 4096
        fits r = omega arith

    given-length : length given ≡ piece
    given-length =
        let a = length-take piece (drop (next_piece p).off page) in
        let b = length-drop (next_piece p).off page in
        let o = off-is in
        omega (arith, a, b, o, full)

    -- the piece is put
    put-less : is_read p.call ≡ false → is_ready (write_ready files d own p.moved piece) ≡ true → PieceLess p files (settle (on (nat_of (put_bytes files d own p.moved given (description_of files d).target).answer)) (put_bytes files d own p.moved given (description_of files d).target).files)
    put-less e r = go (nat_lt n (length given)) refl
      where
        t : Target
        t = (description_of files d).target

        n : ℕ
        n = nat_of (put_bytes files d own p.moved given t).answer

        after : Files
        after = (put_bytes files d own p.moved given t).files

        g : length given ≡ piece
        g = given-length

        ready-given : is_ready (write_ready files d own p.moved (length given)) ≡ true
        ready-given = ap (λ (k : ℕ). is_ready (write_ready files d own p.moved k)) g ∙ r

        most : (u : Target) → (v : Bool) → nat_of (put_bytes files d own p.moved given u).answer ≤ length given
        most (OfNode k) v = omega arith
        most (ReadEnd k) v = omega arith
        most (WriteEnd k) v = omega arith
        most (OfConsole k) v = omega arith

        cut : n < length given → PieceLess p files (settle (on n) after)
        cut l =
            let s = small in
            let h = g in
            elim (put-cut files d own p.moved given (omega (arith, s, h)) ready-given l) [
              | inl a ↦ cut-less n after (omega (arith, l, h)) a
              | inr i ↦ quiet n after (omega (arith, l, h)) i.less i.long (next-idle false e after n (λ x. absurd (grind (arith, x))) (λ x k. i.idle k))
            ]

        go : (b : Bool) → nat_lt n (length given) ≡ b → PieceLess p files (settle (on n) after)
        go true f = cut (grind (arith, nat_tests, f))
        go false f =
            let m = most t true in
            let h = g in
            whole n after (grind (arith, nat_tests, f, m, h)) (put_bytes-adds files d own p.moved given t)

    abbrev operation : Bool → FileOp
    operation b = cond b (Get d own p.moved piece) (Put d own p.moved piece)

    op-ready : is_ready (next_kind files p) ≡ true → is_ready (ready files (operation (is_read p.call))) ≡ true
    op-ready r = go (has_piece p) (sym (ap (λ ps. is_ready (kind_of_phase files p (get_or ps 0 Act))) u.begins) ∙ r)
      where
        go : (b : Bool) → is_ready (cond b (ready files (operation (is_read p.call))) FileStep) ≡ true → is_ready (ready files (operation (is_read p.call))) ≡ true
        go true e = e
        go false e = absurd (grind (arith, e))

    ready-is : (k : Readiness) → is_ready k ≡ true → k ≡ Ready
    ready-is Ready e = refl
    ready-is NotReady e = absurd (grind (arith, e))
    ready-is FileStep e = absurd (grind (arith, e))

    abbrev streamed_as : Bool → Moved
    streamed_as b = cond b (streamed_in p ranges files process page (file_step files process (operation b) [])) (streamed_out p ranges page (file_step files process (operation b) given))

    by-kind : (b : Bool) → is_read p.call ≡ b → is_ready (ready files (operation b)) ≡ true → PieceLess p files (streamed_as b).after
    by-kind true e r = read-less e r
    by-kind false e r =
        let k = ready-is (write_ready files d own p.moved piece) r in
        let a = put-less e r in
        subst (λ (w : Readiness). PieceLess p files (settle (on (nat_of (put_as w).answer)) (put_as w).files)) (sym k) a
      where
        put_as : Readiness → FileResult
        put_as w = elim w as (λ _. FileResult) [
          | Ready ↦ put_bytes files d own p.moved given (description_of files d).target
          | NotReady ↦ done (pos 0) files
          | FileStep ↦ fails (write_error files (description_of files d) own p.moved (description_of files d).target) files
        ]

    pub stream-less : is_ready (next_kind files p) ≡ true → PieceLess p files (streamed p ranges files process page).after
    stream-less r = by-kind (is_read p.call) refl (op-ready r)
