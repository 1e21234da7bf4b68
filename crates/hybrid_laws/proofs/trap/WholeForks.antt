-- Trap in the whole state, where it makes a process.
use Rattle.std.specs.FinMap as finmap
use Rattle.hybrid_model.specs.declared.events.Event.TheVariants as Events
use Rattle.hybrid_laws.proofs.trap.Forks as forks
use Rattle.file_model.specs.Files.{Files, no_description}
use Rattle.file_model.specs.declared.descriptions.Description.{Description}
use Rattle.hybrid_laws.proofs.maps.Reading.{each-same}
use Rattle.hybrid_laws.proofs.maps.Tests.{both}
use Rattle.hybrid_laws.proofs.memory.Copying.{bytes_copied, length_copied, less-free}
use Rattle.hybrid_laws.proofs.memory.EffectCounts.{Below, below-lowest}
use Rattle.hybrid_laws.proofs.node.Goes.{IsAwake}
use Rattle.hybrid_laws.proofs.node.Keeps.{node-keeps}
use Rattle.hybrid_laws.proofs.node.Sound.{Sound, node-holds, sound-of}
use Rattle.hybrid_laws.proofs.reap.Reap.{count-each}
use Rattle.hybrid_laws.proofs.states.Born.{KeepingBorn, coherent-born}
use Rattle.hybrid_laws.proofs.states.Node.{left_with}
use Rattle.hybrid_laws.proofs.states.Pair.{has-side, there-has}
use Rattle.hybrid_laws.proofs.states.Quiet.{other-frame, own-frames, own-table}
use Rattle.hybrid_laws.proofs.states.Steps.{SimulatedPair, simulated-born}
use Rattle.hybrid_laws.proofs.trap.Begins.{Traps, may-traps}
use Rattle.hybrid_laws.proofs.trap.DoneAtOnce.{awake-stopped, past-steps, past-there}
use Rattle.hybrid_laws.proofs.trap.ForkNode.{fork-answers, fork-ended, fork-instructions, fork-made, fork-open, fork-paid, fork-there, left_by_fork}
use Rattle.hybrid_laws.proofs.trap.Forks.{born_forks, written-other}
use Rattle.hybrid_laws.proofs.trap.Goes.{NodeSteps}
use Rattle.hybrid_laws.proofs.trap.Keeps.{TrappedKeeps, next-new, sleepers-free, trap-idle, trap-keeps, trap_free}
use Rattle.hybrid_laws.proofs.trap.Says.{ForkSays, TrappedSays, trap-says}
use Rattle.hybrid_laws.proofs.trap.Trap.{simulated_trap}
use Rattle.hybrid_laws.specs.OneProcess.{NodeHolds, with_table}
use Rattle.hybrid_laws.specs.Stopped.{stops}
use Rattle.hybrid_model.specs.Coherence.{OfProcess}
use Rattle.hybrid_model.specs.Events.{after, may, may_here}
use Rattle.hybrid_model.specs.Globals.{Coherent, Frames, description_held, holders, is_number, ring_number, table_of}
use Rattle.hybrid_model.specs.Turns.{end_of_found, end_of_target}
use Rattle.hybrid_model.specs.OneProcess.{ran_last, view_here, memory_here}
use Rattle.hybrid_model.specs.Trap.{after_trap, trapped}
use Rattle.hybrid_model.specs.Pairs.{Here, Pair, here, put_here, side_of}
use Rattle.hybrid_model.specs.Shown.{status_of, shown_call, shown_own}
use Rattle.hybrid_model.specs.Sides.{Caller, Row, Side, new_side, no_lwk, service_of}
use Rattle.hybrid_model.specs.Spaces.{Space, copied_pages, page_at_lowest, shown_memory, shown_row}
use Rattle.hybrid_model.specs.Tallies.{Reads}
use Rattle.ikc_ring.specs.declared.Msg.{Msg}
use Rattle.isa_model.specs.Memory.{Page}
use Rattle.kernel_model.specs.CloneCalls.{with_child}
use Rattle.kernel_model.specs.Nodes.{Node, Process, Thread, has_process, instructions_in_all, is_asleep, is_ended, is_stopped, is_there, set_pc, thread_of}
use Rattle.kernel_model.specs.Pages.{zero_page}
use Rattle.kernel_model.specs.Signals.{Store, View, stored_all}
use Rattle.kernel_model.specs.Traps.{Forks, Trapped, past_ecall, trap}
use Rattle.mck_word.specs.MapLaws.{at-none, at-put, same_rows}
use Rattle.mck_word.specs.Maps.{Map, at, count, entries, no_rows, put, total, each}
use Rattle.mck_word.specs.declared.Tid.{Tid}
use Rattle.std.proofs.Common.{ap, arith, refl, subst, sym, ◌∙◌}
use Rattle.std.proofs.lemmas.Bool.Decides.{nat_tests}
use Rattle.std.specs.Ordering.{nat_cmp}
use Rattle.std.specs.Prelude.{Bool, List, None, Option, Some, [], cond, count_by, false, if◌then◌else◌, is_some, length, replicate, suc, true, unwrap_or, zero, ℕ, ◌%◌, ◌+◌, ◌==◌, ◌||◌, ◌∷◌, ◌≡◌, ◌≢◌, ◌≤◌}

-- what the fork does to the node as a whole
record ForkSteps (a b : Node) : Type 0 where
  pub sound : Sound b
  pub frames : b.frame_count ≡ a.frame_count
  pub limit : b.limit ≡ a.limit
  pub descriptions : b.files.descriptions ≡ a.files.descriptions
  pub instructions : instructions_in_all b ≡ instructions_in_all a
  pub made_others : (q : ℕ) → (q == a.next_number) ≡ false → has_process b q ≡ has_process a q
  pub made_own : has_process b a.next_number ≡ true
  pub ended_others : (q : ℕ) → (q == a.next_number) ≡ false → is_ended b q ≡ is_ended a q
  pub open_own : is_ended b a.next_number ≡ false
  pub next : b.next_number ≡ a.next_number + 1
  pub paid : total stops b.threads + 1 ≤ total stops a.threads

module _ (tables : ℕ → Reads Row) (p bound : ℕ) where
  below-copied : (es : List (ℕ × Page)) (sp : Space) → length es ≤ length sp.free → Below bound sp → Below bound (copied_pages es sp)
  below-copied [] sp l b = b
  below-copied (e ∷ es) sp l b = below-copied es (page_at_lowest e.1.rights e.1.bytes e.0 sp) (less-free tables p e.1.rights e.1.bytes e.0 (length es) sp l) (below-lowest bound e.1.rights e.1.bytes e.0 sp (omega (arith, l)) b)

no-holders : (d rings : ℕ) (table : Map Row) → holders d (record (new_side rings) { lwk = record no_lwk { table = table } }) ≡ 0
no-holders d rings table = go (entries no_rows) (sym (finmap.len-entries (no_rows {V = Caller})) ∙ finmap.len-empty nat_cmp Caller)
  where
    go : (es : List (ℕ × Caller)) → length es ≡ 0 → count_by (λ (c : ℕ × Caller). is_number d (description_held (status_of (record (new_side rings) { lwk = record no_lwk { table = table } }) c.1.request))) es ≡ 0
    go [] e = refl
    go (x ∷ es) e = absurd (grind (arith, e))

abbrev nothing : List Msg
nothing = []

length-replicate : (n : ℕ) → length (replicate n nothing) ≡ n
length-replicate zero = refl
length-replicate (suc n) = ap (λ k. suc k) (length-replicate n)

module _ (pair : Pair) (c : Coherent pair) (t : Tid) (e : may pair (Events.Trap t) ≡ true) where
  abbrev p : ℕ
  p = (thread_of pair.node t.0).process

  abbrev n : ℕ
  n = pair.node.next_number

  abbrev h : Here
  h = here pair p

  there : is_there pair.node p ≡ true
  there = (both (is_there pair.node p) (may_here (Events.Trap t) h) e).0

  allowed : may_here (Events.Trap t) h ≡ true
  allowed = (both (is_there pair.node p) (may_here (Events.Trap t) h) e).1

  abbrev x : Traps pair.node t.0
  x = may-traps pair.node t.0 allowed

  nodes : NodeHolds pair.node
  nodes = node-holds pair.node (sound-of pair c)

  abbrev behind : Node
  behind = (past_ecall t.0 (view_here h)).node

  past : NodeSteps pair.node behind
  past = past-steps t.0 (view_here h) (sound-of pair c) x.thread x.there x.stop x.stopped

  awake : IsAwake t.0 behind
  awake = awake-stopped t.0 (view_here h) (sound-of pair c) x.thread x.there x.stop x.stopped

  abbrev last : Map ℕ
  last = put pair.last (t.0 % pair.cores) t.0

  none-made : has_process pair.node n ≡ false
  none-made = go (at pair.node.processes n) refl
    where
      go : (o : Option Process) → at pair.node.processes n ≡ o → is_some o ≡ false
      go None f = refl
      go (Some z) f = absurd (let l = c.known.processes_below n z f in omega (arith, l))

  absent : at pair.sides n ≡ None
  absent = go (at pair.sides n) refl
    where
      go : (o : Option Side) → at pair.sides n ≡ o → o ≡ None
      go None f = refl
      go (Some z) f = absurd (let k = sym (ap is_some f) ∙ c.known.sides_are n ∙ none-made in grind (arith, k))

  other : p ≢ n
  other g = let k = sym (ap (has_process pair.node) g) ∙ there-has pair.node p there ∙ refl in let l = none-made in grind (arith, k, l)

  fresh : at pair.node.threads n ≡ None
  fresh = go (at pair.node.threads n) refl
    where
      go : (o : Option Thread) → at pair.node.threads n ≡ o → o ≡ None
      go None f = refl
      go (Some z) f = absurd (let l = c.known.threads_below n z f in omega (arith, l))

  module _ (v : View) (stores : List Store) (is : trap t.0 (length pair.free) (view_here h) ≡ Forks v n stores) where
    says : ForkSays t.0 (length pair.free) (view_here h) v n
    says = subst (TrappedSays t.0 (length pair.free) (view_here h)) is (trap-says t.0 (length pair.free) (view_here h))

    goes : ForkSteps pair.node v.node
    goes = subst (ForkSteps pair.node) (sym says.node) (record {
      sound = answers.sound;
      frames = past.frames;
      limit = past.limit;
      descriptions = ap (λ (f : Files). f.descriptions) past.files;
      instructions = fork-instructions behind past.sound t.0 x' behind-there says.flags says.stack says.tls says.child_tid awake stopped ∙ past.instructions;
      made_others = λ q d. fork-made behind past.sound t.0 x' behind-there says.flags says.stack says.tls says.child_tid q d ∙ past.made q;
      made_own = fork-there behind past.sound t.0 x' behind-there says.flags says.stack says.tls says.child_tid;
      ended_others = λ q d. fork-ended behind past.sound t.0 x' behind-there says.flags says.stack says.tls says.child_tid q d ∙ past.ended q;
      open_own = fork-open behind past.sound t.0 x' behind-there says.flags says.stack says.tls says.child_tid;
      next = refl;
      paid = (let a = fork-paid behind past.sound t.0 x' behind-there says.flags says.stack says.tls says.child_tid awake stopped in let b = past.paid in omega (arith, a, b));
    })
      where
        x' : Thread
        x' = record x.thread { regs = set_pc (x.thread.regs.pc + 4) x.thread.regs }

        behind-there : at behind.threads t.0 ≡ Some x'
        behind-there = past-there t.0 (view_here h) (sound-of pair c) x.thread x.there x.stop x.stopped

        stopped : is_stopped x'.does ≡ true
        stopped = ap is_stopped x.stopped

        answers : NodeSteps (with_child t.0 n says.flags says.stack says.tls says.child_tid behind) (left_by_fork behind past.sound t.0 x' behind-there says.flags says.stack says.tls says.child_tid)
        answers = fork-answers behind past.sound t.0 x' behind-there says.flags says.stack says.tls says.child_tid awake stopped

    abbrev copied : Space
    copied = forks.copied p t.0 h v n stores says (table_of pair) (own-frames pair c p) other refl

    abbrev frames' : Map (List ℕ)
    frames' = forks.frames3 p t.0 h v n stores says (table_of pair) (own-frames pair c p) other refl

    abbrev side : Side
    side = record (new_side pair.rings) { lwk = record no_lwk { table = copied.table } }

    others-whole : (q : ℕ) → q ≢ n → OfProcess q (side_of pair q) v.node pair.workers (ring_number pair)
    others-whole q d =
        let x = may-traps pair.node t.0 allowed in
        node-keeps q (trap_free t.0 pair.node) (side_of pair q) pair.node v.node pair.workers (ring_number pair)
        (subst (TrappedKeeps q (trap_free t.0 pair.node) pair.node) is (trap-keeps q (trap_free t.0 pair.node) t.0 free-own (length pair.free) (view_here h) (sleepers-free t.0 pair.node c.sleeping) (next-new pair.node nodes)) d)
        (trap-idle q t.0 pair.node x.thread x.there (let s = x.stopped in rw s refl)) (c.whole q)
      where
        free-own : trap_free t.0 pair.node t.0 ≡ true
        free-own = or-left (t.0 == t.0) (is_asleep (thread_of pair.node t.0).does) (grind (arith, nat_tests))
          where
            or-left : (a b : Bool) → a ≡ true → (a || b) ≡ true
            or-left true b f = refl
            or-left false b f = absurd (grind (arith, f))

    apart : (q : ℕ) → n ≢ q → (q == n) ≡ false
    apart q d = go (q == n) refl
      where
        go : (b : Bool) → (q == n) ≡ b → b ≡ false
        go false f = refl
        go true f = absurd (d (let y : q ≡ n = grind (arith, nat_tests, f) in sym y))

    below : Below pair.node.frame_count copied
    below = below-copied (table_of pair) n pair.node.frame_count (forks.pages p t.0 h v n stores says (table_of pair) (own-frames pair c p) other refl) (forks.begins p t.0 h v n stores says (table_of pair) (own-frames pair c p) other refl)
        (forks.enough p t.0 h v n stores says (table_of pair) (own-frames pair c p) other refl)
        (record { rows = λ i r f. absurd (let a = sym (at-none {V = Row} i) ∙ f in grind (arith, a)); free = c.counted.free_below })

    keeping : KeepingBorn pair c n absent side v.node frames' copied.free last
    keeping = record {
      own = born_forks p t.0 h v n stores says pair.workers (ring_number pair) fresh (subst (λ (s : Side). OfProcess n s pair.node pair.workers (ring_number pair)) (ap (λ (o : Option Side). unwrap_or o (new_side 0)) absent) (c.whole n)) copied.table;
      others = λ q d. others-whole q (λ g. d (sym g));
      framed = subst (λ (f : ℕ → Reads Row). Frames (with_table f n (at copied.table)) copied.free) (own-table pair c p) (forks.copied-frames p t.0 h v n stores says (table_of pair) (own-frames pair c p) other refl);
      rows_below = below.rows;
      free_below = below.free;
      counted = (let a = length_copied (table_of pair) n (forks.pages p t.0 h v n stores says (table_of pair) (own-frames pair c p) other refl) (forks.begins p t.0 h v n stores says (table_of pair) (own-frames pair c p) other refl) (forks.enough p t.0 h v n stores says (table_of pair) (own-frames pair c p) other refl) in
          let b = count-each (shown_row copied.frames) copied.table in
          let d = ap count (forks.copied-shown p t.0 h v n stores says (table_of pair) (own-frames pair c p) other refl) in
          let f = finmap.len-entries (shown_memory (side_of pair p).lwk.table (forks.frames1 p t.0 h v n stores says (table_of pair) (own-frames pair c p) other refl)) in
          omega (arith, a, b, d, f));
      frame_count = goes.frames;
      made_others = λ q d. goes.made_others q (apart q d);
      made_own = goes.made_own;
      ended_others = λ q d f. sym (goes.ended_others q (apart q d)) ∙ f;
      ended_own = λ f. absurd (let a = goes.open_own in grind (arith, a, f));
      rings = length-replicate pair.rings;
      ends = λ t x i u. ends-stay (service_of (side_of pair t.process).linux.services t.request).progress.found x u;
      held = λ d. (let a = ap (λ (m : Map Description). (unwrap_or (at m d) no_description).calls) goes.descriptions in let b = no-holders d pair.rings copied.table in omega (arith, a, b));
      calls = λ t x f. absurd (let a = sym (at-none {V = Caller} t) ∙ f in grind (arith, a));
      sound = goes.sound;
      paid = (let a = goes.paid in let b = goes.next in let d = goes.instructions in omega (arith, a, b, d));
      limit = (let a = goes.instructions in let b = goes.limit in let d = c.numbers.limit in omega (arith, a, b, d));
    }
      where
        ends-stay : (o : Option ℕ) (x : ℕ) → end_of_found pair.node.files o ≡ Some x → end_of_found v.node.files o ≡ Some x
        ends-stay None x u = u
        ends-stay (Some d) x u = ap (λ (m : Map Description). end_of_target (unwrap_or (at m d) no_description).target) goes.descriptions ∙ u

    -- the side of the caller is put back as it was
    put-back : put pair.sides p (side_of pair p) ≡ pair.sides
    put-back = same_rows (put pair.sides p (side_of pair p)) pair.sides (λ j. at-put pair.sides p (side_of pair p) j ∙ go j (j == p) refl)
      where
        go : (j : ℕ) (b : Bool) → (j == p) ≡ b → cond b (Some (side_of pair p)) (at pair.sides j) ≡ at pair.sides j
        go j false f = refl
        go j true f = let y : p ≡ j = grind (arith, nat_tests, f) in sym (has-side pair c.known p there) ∙ ap (at pair.sides) y

    after-is : after pair (Events.Trap t) ≡ left_with pair n side v.node frames' copied.free last
    unfolding after_trap
    after-is = ap (λ (y : Trapped). put_here pair p (ran_last t.0 (trapped p t.0 y h))) is
        ∙ ap (λ (m : Map Side). record (left_with pair n side v.node frames' copied.free last) { sides = put m n side }) put-back

    pub coherent_trap_born : Coherent (after pair (Events.Trap t))
    coherent_trap_born = subst Coherent (sym after-is) (coherent-born pair c n absent side v.node frames' copied.free last keeping)

    -- the frames of other processes keep their bytes
    abbrev pages : List (ℕ × Page)
    pages = forks.pages p t.0 h v n stores says (table_of pair) (own-frames pair c p) other refl

    abbrev begins : Space
    begins = forks.begins p t.0 h v n stores says (table_of pair) (own-frames pair c p) other refl

    frame-stays : (q j : ℕ) (r : Row) → (q == n) ≡ false → (q == p) ≡ false → table_of pair q j ≡ Some r → at frames' r.0.0 ≡ at pair.frames r.0.0
    frame-stays q j r d o e =
        written-other copied.table (stored_all stores (shown_memory copied.table copied.frames)) copied.frames r.0.0 (λ i y f. differ i y f (r.0.0 == y.0.0) refl)
        ∙ bytes_copied (table_of pair) n pages r.0.0 begins (forks.enough p t.0 h v n stores says (table_of pair) (own-frames pair c p) other refl) (c.frames.not_free q j r e)
        ∙ other-frame pair c p (stored_all v.stores (memory_here h)) q j r (λ z. grind (arith, nat_tests, o, z)) e
      where
        all : Frames (with_table (table_of pair) n (at copied.table)) copied.free
        all = subst (λ (f : ℕ → Reads Row). Frames (with_table f n (at copied.table)) copied.free) (own-table pair c p) (forks.copied-frames p t.0 h v n stores says (table_of pair) (own-frames pair c p) other refl)

        at-q : with_table (table_of pair) n (at copied.table) q j ≡ Some r
        at-q = ap (λ (b : Bool). (if b then at copied.table else table_of pair q) j) d ∙ e

        at-n : (i : ℕ) (y : Row) → at copied.table i ≡ Some y → with_table (table_of pair) n (at copied.table) n i ≡ Some y
        at-n i y f = let b : (n == n) ≡ true = grind (arith, nat_tests) in ap (λ (b : Bool). (if b then at copied.table else table_of pair n) i) b ∙ f

        differ : (i : ℕ) (y : Row) → at copied.table i ≡ Some y → (b : Bool) → (r.0.0 == y.0.0) ≡ b → b ≡ false
        differ i y f false g = refl
        differ i y f true g =
            let s : r.0.0 ≡ y.0.0 = grind (arith, nat_tests, g) in
            absurd (let z = (all.apart q j r n i y at-q (at-n i y f) (λ k. record { 0 = s k })).0 in grind (arith, nat_tests, z, d))

    others-shown : (q : ℕ) (s : Side) → (q == p) ≡ false → at pair.sides q ≡ Some s → shown_own frames' s ≡ shown_own pair.frames s
    others-shown q s o e =
        let f = ap (λ (o : Option Side). at (unwrap_or o (new_side 0)).lwk.table) e in
        let a = each-same (shown_row frames') (shown_row pair.frames) s.lwk.table (λ j r g.
        (let b = ap (λ (o : Option (List ℕ)). unwrap_or o zero_page) (frame-stays q j r (not-n (q == n) refl) o (ap (λ (t : Reads Row). t j) f ∙ g)) in λ k. record { rights = r.1; bytes = b k })) in
        λ i. record { memory = a i; calls = each (shown_call s) s.lwk.callers }
      where
        not-n : (b : Bool) → (q == n) ≡ b → b ≡ false
        not-n false g = refl
        not-n true g = absurd (let y : q ≡ n = grind (arith, nat_tests, g) in let z = sym e ∙ ap (at pair.sides) y ∙ absent in grind (arith, z))

    pub simulated_pair_trap_born : SimulatedPair pair (Events.Trap t)
    unfolding after_trap
    simulated_pair_trap_born = simulated-born pair p (has-side pair c.known p there) (Events.Trap t) refl
        (simulated_trap p t h allowed refl nodes pair.workers (c.whole p) (table_of pair) (own-frames pair c p) refl) refl
        (λ q s o f. ap (λ (y : Trapped). shown_own (trapped p t.0 y h).frames s) is ∙ others-shown q s o f)

  -- whatever number is said to be the new one
  module _ (v : View) (child : ℕ) (stores : List Store) (is : trap t.0 (length pair.free) (view_here h) ≡ Forks v child stores) where
    pub coherent_trap_forks : Coherent (after pair (Events.Trap t))
    coherent_trap_forks = coherent_trap_born v stores (is ∙ ap (λ (k : ℕ). Forks v k stores) (subst (TrappedSays t.0 (length pair.free) (view_here h)) is (trap-says t.0 (length pair.free) (view_here h))).number)

    pub simulated_pair_trap_forks : SimulatedPair pair (Events.Trap t)
    simulated_pair_trap_forks = simulated_pair_trap_born v stores (is ∙ ap (λ (k : ℕ). Forks v k stores) (subst (TrappedSays t.0 (length pair.free) (view_here h)) is (trap-says t.0 (length pair.free) (view_here h))).number)
