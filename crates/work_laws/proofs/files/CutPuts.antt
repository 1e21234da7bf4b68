-- A piece of a writing stream that is cut: it fills a pipe or a console, or grows a file to its limit, which may be cut no more then; or it ends at the limit of a file that is full, where it is ready no more.
use Rattle.file_model.specs.Files.{Console, Files, Inode, change_node, console_of, description_of, is_open, is_same_target, no_description, no_node, node_of, pipe_of, set_offset}
use Rattle.file_model.specs.Operations.{FileResult}
use Rattle.file_model.specs.Streams.{moved_on, put_bytes, total_after, write_offset, write_ready, write_ready_of}
use Rattle.file_model.specs.declared.descriptions.Description.{Description}
use Rattle.file_model.specs.declared.descriptions.Target.TheVariants.{OfNode, ReadEnd, WriteEnd, OfConsole}
use Rattle.file_model.specs.declared.descriptions.Target.{Target}
use Rattle.file_model.specs.declared.operations.Readiness.TheVariants.{Ready, NotReady, FileStep}
use Rattle.hybrid_laws.proofs.maps.Lookups.{no-row}
use Rattle.hybrid_laws.proofs.maps.Sums.{counted_at, total-put-by}
use Rattle.hybrid_laws.proofs.maps.Tests.{both}
use Rattle.hybrid_laws.proofs.node.Primitives.{at-change}
use Rattle.hybrid_model.specs.Tallies.{as_number}
use Rattle.kernel_model.specs.Progress.{is_ready, nat_of}
use Rattle.mck_word.specs.Lists.{spliced}
use Rattle.mck_word.specs.Maps.{at, change_row, entries}
use Rattle.std.proofs.Common.{ap, arith, inl, inr, length-append, length-take, refl, sym, ◌∙◌}
use Rattle.std.proofs.lemmas.Bool.Decides.{nat_tests}
use Rattle.std.specs.Prelude.{Bool, List, None, Option, Some, [], cond, false, length, nat_le, nat_lt, not, option_map, sum_by, take, true, unwrap_or, ℕ, ◌&&◌, ◌++◌, ◌+◌, ◌<◌, ◌==◌, ◌≡◌, ◌≤◌, ◌⊎◌}
use Rattle.work_laws.proofs.files.CutGets.{Idle, present}
use Rattle.work_laws.proofs.files.Quieter.{AsLong, if-ready}
use Rattle.work_laws.proofs.files.StreamCuts.{as-long-bytes, as-long-moved, as-long-then, file-there}
use Rattle.work_laws.proofs.files.StreamsAdd.{moved-less, put-node, spliced-length}
use Rattle.work_laws.proofs.node.Left.{total-changed}
use Rattle.work_laws.specs.KernelLeft.{console_left, file_left, files_left, pipe_left}

-- a file on which a description is open is open
file-open : (files : Files) (d k : ℕ) (x : Description) → at files.descriptions d ≡ Some x → x.target ≡ OfNode k → is_open files (OfNode k) ≡ true
file-open files d k x is t = go (is_open files (OfNode k)) refl
  where
    go : (b : Bool) → is_open files (OfNode k) ≡ b → b ≡ true
    go true e = refl
    go false e = absurd (
        let n = no-row (λ j (y : Description). is_same_target y.target (OfNode k)) files.descriptions e d x is in
        let s = ap (λ u. is_same_target u (OfNode k)) t in
        let z : (k == k) ≡ true = grind (arith, nat_tests) in
        grind (arith, n, s, z)
        )

-- where a piece is put without an offset of the call's own
place-is : (files : Files) (x : Description) (moved k : ℕ) → x.target ≡ OfNode k → write_offset files x None moved ≡ cond x.append (length (node_of files k).bytes) x.offset
place-is files x moved k is = ap (λ (t : Target). elim t as (λ _. ℕ) [ OfNode m ↦ cond x.append (length (node_of files m).bytes) x.offset | ReadEnd m ↦ x.offset | WriteEnd m ↦ x.offset | OfConsole m ↦ x.offset ]) is

-- where the next piece is put
next-place : (files stored : Files) (d : ℕ) (own : Option ℕ) (moved n k : ℕ) (x : Description) → stored.descriptions ≡ files.descriptions → at files.descriptions d ≡ Some x → x.target ≡ OfNode k → (own ≡ None → x.append ≡ false)
    → write_offset (moved_on d own (write_offset files x own moved + n) stored) (description_of (moved_on d own (write_offset files x own moved + n) stored) d) own (moved + n) ≡ write_offset files x own moved + n
next-place files stored d (Some m) moved n k x same there is plain = omega arith
next-place files stored d None moved n k x same there is plain =
    let o = write_offset files x None moved + n in
    let there' = ap (λ ds. at ds d) same ∙ there in
    let f : Description → Description = (λ (y : Description). record y { offset = o }) in
    let i : (d == d) ≡ true = grind (arith, nat_tests) in
    let row : at (set_offset d o stored).descriptions d ≡ Some (f x) = at-change stored.descriptions d f d ∙ ap (λ b. cond b (option_map f (at stored.descriptions d)) (at stored.descriptions d)) i ∙ ap (option_map f) there' in
    let y = description_of (set_offset d o stored) d in
    let g : y ≡ f x = ap (λ (c : Option Description). unwrap_or c no_description) row in
    place-is (set_offset d o stored) y (moved + n) k (ap (λ (z : Description). z.target) g ∙ is)
    ∙ (λ j. cond (g j).append (length (node_of (set_offset d o stored) k).bytes) (g j).offset)
    ∙ ap (λ b. cond b (length (node_of (set_offset d o stored) k).bytes) o) (plain refl)

module _ (files : Files) (d : ℕ) (own : Option ℕ) (moved : ℕ) (given : List ℕ) (small : length given ≤ 4096) (ready : is_ready (write_ready files d own moved (length given)) ≡ true) where
  abbrev x : Description
  x = description_of files d

  abbrev result : Target → FileResult
  result t = put_bytes files d own moved given t

  abbrev count : Target → ℕ
  count t = nat_of (result t).answer

  abbrev Cut : Target → Type 0
  Cut t = (files_left (result t).files + 1 ≤ files_left files) ⊎ Idle files (result t).files (λ n. is_ready (write_ready (result t).files d own (moved + count t) n))

  ready-at : (t : Target) → x.target ≡ t → is_ready (write_ready_of files x own moved (length given) t) ≡ true
  ready-at t is = ap (λ u. is_ready (write_ready_of files x own moved (length given) u)) (sym is) ∙ ready

  cut-pipe : (k : ℕ) → x.target ≡ WriteEnd k → count (WriteEnd k) < length given → Cut (WriteEnd k)
  cut-pipe k is l =
      let below = takes (is_open files (ReadEnd k)) (nat_lt (length (pipe_of files k)) 65536) refl (ready-at (WriteEnd k) is) in
      let full : length (pipe_of files k) + count (WriteEnd k) ≡ 65536 = omega (arith, l, below) in
      let some : 0 < length (pipe_of files k) = omega (arith, full, l, small) in
      let b = present files.pipes k [] (λ bytes. length bytes) refl some in
      let same = ap (λ (o : Option (List ℕ)). length (unwrap_or o [])) b.1 in
      let new = take (count (WriteEnd k)) given in
      let c = total-changed pipe_left files.pipes k (λ bytes. bytes ++ new) b.0 b.1 in
      let e = length-append b.0 new in
      let g = length-take (count (WriteEnd k)) given in
      let u : nat_lt 0 (length b.0) ≡ true = grind (arith, nat_tests, some, same) in
      let v : nat_lt (length b.0) 65536 ≡ true = grind (arith, nat_tests, below, same) in
      let long : length (b.0 ++ new) ≡ 65536 = omega (arith, e, g, full, same, l) in
      let w : nat_lt 0 (length (b.0 ++ new)) ≡ true = grind (arith, nat_tests, long) in
      let z : nat_lt (length (b.0 ++ new)) 65536 ≡ false = grind (arith, nat_tests, long) in
      let was : pipe_left b.0 ≡ 2 = (λ i. as_number (u i) + as_number (v i)) in
      let now : pipe_left (b.0 ++ new) ≡ 1 = (λ i. as_number (w i) + as_number (z i)) in
      inl (omega (arith, c, was, now))
    where
      takes : (b c : Bool) → nat_lt (length (pipe_of files k)) 65536 ≡ c → is_ready (cond (not b) FileStep (cond c Ready NotReady)) ≡ true → length (pipe_of files k) < 65536
      takes true true e u = grind (arith, nat_tests, e)
      takes true false e u = absurd (grind (arith, u))
      takes false c e u = absurd (grind (arith, u))

  cut-console : (k : ℕ) → x.target ≡ OfConsole k → count (OfConsole k) < length given → Cut (OfConsole k)
  cut-console k is l =
      let r = sym (if-ready (nat_lt (length (console_of files k).output) 1048576)) ∙ ready-at (OfConsole k) is in
      let below : length (console_of files k).output < 1048576 = grind (arith, nat_tests, r) in
      let full : length (console_of files k).output + count (OfConsole k) ≡ 1048576 = omega (arith, l, below) in
      let some : 0 < length (console_of files k).output = omega (arith, full, l, small) in
      let b = present files.consoles k (record { input = []; output = [] }) (λ (c : Console). length c.output) refl some in
      let same = ap (λ (o : Option Console). length (unwrap_or o (record { input = []; output = [] })).output) b.1 in
      let new = take (count (OfConsole k)) given in
      let c = total-changed console_left files.consoles k (λ (y : Console). record y { output = y.output ++ new }) b.0 b.1 in
      let e = length-append b.0.output new in
      let g = length-take (count (OfConsole k)) given in
      let v : nat_lt (length b.0.output) 1048576 ≡ true = grind (arith, nat_tests, below, same) in
      let long : length (b.0.output ++ new) ≡ 1048576 = omega (arith, e, g, full, same, l) in
      let z : nat_lt (length (b.0.output ++ new)) 1048576 ≡ false = grind (arith, nat_tests, long) in
      let was = ap (λ b. as_number b) v in
      let now = ap (λ b. as_number b) z in
      inl (omega (arith, c, was, now))

  -- ---- a file
  module _ (k : ℕ) (is : x.target ≡ OfNode k) (l : count (OfNode k) < length given) where
    abbrev offset : ℕ
    offset = write_offset files x own moved

    abbrev n : ℕ
    n = count (OfNode k)

    abbrev grown : Inode → Inode
    grown y = record y { bytes = spliced y.bytes offset (take n given) }

    abbrev stored : Files
    stored = change_node k grown files

    below : offset < 1048576
    below =
        let r = sym (if-ready (nat_lt offset 1048576 && nat_le (total_after files k offset (length given)) 67108864)) ∙ ready-at (OfNode k) is in
        let a = both (nat_lt offset 1048576) (nat_le (total_after files k offset (length given)) 67108864) r in
        grind (arith, nat_tests, a.0)

    last : offset + n ≡ 1048576
    last = let b = below in omega (arith, l, b)

    -- the file is then as long as the limit
    longer-is : (y : Inode) → length y.bytes < 1048576 → length (grown y).bytes ≡ 1048576
    longer-is y u =
        let s = spliced-length y.bytes offset (take n given) in
        let g = length-take n given in
        let e = last in
        omega (arith, s, g, e, l, u)

    abbrev after : Files
    after = moved_on d own (offset + n) stored

    -- the file has the same length, and the piece isn't put at its end
    quiet : ((y : Inode) → at files.nodes k ≡ Some y → length (grown y).bytes ≡ length y.bytes) → (own ≡ None → x.append ≡ false) → Cut (OfNode k)
    quiet same plain = inr (record { long = long; less = put-node files d own moved given k; idle = idle })
      where
        there : (z : Description) × (at files.descriptions d ≡ Some z)
        there = file-there files d k is

        is-x : at files.descriptions d ≡ Some x
        is-x = there.1 ∙ ap Some (sym (ap (λ (o : Option Description). unwrap_or o no_description) there.1))

        before-limit : own ≡ None → x.offset ≤ offset + n
        before-limit e =
            let a = ap (λ o. write_offset files x o moved) e ∙ place-is files x moved k is ∙ ap (λ b. cond b (length (node_of files k).bytes) x.offset) (plain e) in
            omega (arith, a)

        long : AsLong files after
        long = as-long-then files stored after (as-long-bytes files k grown same) (as-long-moved stored d own (offset + n) before-limit)

        idle : (m : ℕ) → is_ready (write_ready after d own (moved + n) m) ≡ false
        idle m =
            let y = description_of after d in
            let t = (long.descriptions d).target ∙ is in
            let p = next-place files stored d own moved n k x refl is-x is plain in
            let e = last in
            let f : nat_lt (write_offset after y own (moved + n)) 1048576 ≡ false = grind (arith, nat_tests, p, e) in
            ap (λ u. is_ready (write_ready_of after y own (moved + n) m u)) t
            ∙ if-ready (nat_lt (write_offset after y own (moved + n)) 1048576 && nat_le (total_after after k (write_offset after y own (moved + n)) m) 67108864)
            ∙ ap (λ b. b && nat_le (total_after after k (write_offset after y own (moved + n)) m) 67108864) f

    -- the file grows to its limit
    grows : (y : Inode) → at files.nodes k ≡ Some y → length y.bytes < 1048576 → Cut (OfNode k)
    grows y there u =
        let t = file-there files d k is in
        let o = file-open files d k t.0 t.1 (ap (λ (c : Option Description). (unwrap_or c no_description).target) (sym t.1) ∙ is) in
        let a = total-put-by (file_left files) files.nodes k (grown y) in
        let b = ap (counted_at (file_left files) k) there in
        let c = ap (λ (q : Option Inode). sum_by (file_left files) (entries (change_row files.nodes k grown q))) there in
        let v : nat_lt (length y.bytes) 1048576 ≡ true = grind (arith, nat_tests, u) in
        let g = longer-is y u in
        let w : nat_lt (length (grown y).bytes) 1048576 ≡ false = grind (arith, nat_tests, g) in
        let was : file_left files (k, y) ≡ 1 = (λ i. as_number (o i && v i)) in
        let now : file_left files (k, grown y) ≡ 0 = (λ i. as_number (o i && w i)) in
        let z = moved-less stored d own (offset + n) in
        inl (omega (arith, a, b, c, was, now, z))

    pub cut-file : Cut (OfNode k)
    cut-file = go (at files.nodes k) refl
      where
        -- a file that is absent, or full: the piece isn't put at its end
        plain : (length (node_of files k).bytes ≡ 0) ⊎ (1048576 ≤ length (node_of files k).bytes) → own ≡ None → x.append ≡ false
        plain e f = by x.append refl e
          where
            by : (b : Bool) → x.append ≡ b → (length (node_of files k).bytes ≡ 0) ⊎ (1048576 ≤ length (node_of files k).bytes) → b ≡ false
            by false g h = refl
            by true g h = absurd (
                let a = ap (λ o. write_offset files x o moved) f ∙ place-is files x moved k is ∙ ap (λ b. cond b (length (node_of files k).bytes) x.offset) g in
                let e = last in
                let u = below in
                elim h [ inl z ↦ omega (arith, a, e, z, l, small) | inr z ↦ omega (arith, a, u, z) ]
                )

        full : (y : Inode) → at files.nodes k ≡ Some y → (b : Bool) → nat_lt (length y.bytes) 1048576 ≡ b → Cut (OfNode k)
        full y e true f = grows y e (grind (arith, nat_tests, f))
        full y e false f =
            let u : 1048576 ≤ length y.bytes = grind (arith, nat_tests, f) in
            quiet (λ z g. keeps z (let s = ap (λ (o : Option Inode). length (unwrap_or o y).bytes) (sym e ∙ g) in omega (arith, s, u)))
            (plain (inr (let s = ap (λ (o : Option Inode). length (unwrap_or o no_node).bytes) e in omega (arith, s, u))))
          where
            keeps : (z : Inode) → 1048576 ≤ length z.bytes → length (grown z).bytes ≡ length z.bytes
            keeps z u =
                let s = spliced-length z.bytes offset (take n given) in
                let g = length-take n given in
                let e = last in
                omega (arith, s, g, e, l, u)

        go : (o : Option Inode) → at files.nodes k ≡ o → Cut (OfNode k)
        go None e = quiet (λ z g. absurd (let s = sym e ∙ g in grind (arith, s))) (plain (inl (ap (λ (o : Option Inode). length (unwrap_or o no_node).bytes) e)))
        go (Some y) e = full y e (nat_lt (length y.bytes) 1048576) refl

  pub put-cut : count x.target < length given → Cut x.target
  put-cut l = go x.target refl l
    where
      go : (t : Target) → x.target ≡ t → count t < length given → Cut t
      go (OfNode k) is u = cut-file k is u
      go (ReadEnd k) is u = absurd (let r = ready-at (ReadEnd k) is in grind (arith, r))
      go (WriteEnd k) is u = cut-pipe k is u
      go (OfConsole k) is u = cut-console k is u
