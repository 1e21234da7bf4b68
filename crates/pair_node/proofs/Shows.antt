-- What the tables of the parts answer of the state that they show.
use Rattle.file_model.specs.Files.{Files}
use Rattle.hybrid_model.specs.Globals.{Coherent}
use Rattle.hybrid_model.specs.Pairs.{Pair, side_of}
use Rattle.hybrid_model.specs.Sides.{Row, Side as SideOf, new_side}
use Rattle.hybrid_model.specs.Journals.{runs_on}
use Rattle.kernel_model.specs.Nodes.{Process, ScriptLine, has_ended, has_process, is_living, ready_to_run}
use Rattle.kernel_model.specs.declared.Does.{Does}
use Rattle.key_rows.specs.Table.{key_from}
use Rattle.kernel_tables.proofs.Rows.{shown_thread}
use Rattle.kernel_tables.specs.Shown.{node_of, shown_line, shown_process}
use Rattle.kernel_tables.specs.declared.process_rows.Process.{Process as ProcessRow}
use Rattle.kernel_tables.specs.declared.script_lines.ScriptLine.{ScriptLine as LineRow}
use Rattle.lwk_threads.proofs.Keys.{key_from-stands}
use Rattle.lwk_threads.proofs.Showing.{entries-each, pair_of as shown_pair}
use Rattle.lwk_threads.specs.declared.Thread.{Thread as ThreadRow}
use Rattle.mck_word.specs.EachLaws.{at-each}
use Rattle.mck_word.specs.MapLaws.{at-none}
use Rattle.mck_word.specs.Maps.{Map, at, each, each_row, entries, keys, no_rows, some_row}
use Rattle.mck_word.specs.declared.Req.{Req}
use Rattle.offer_laws.proofs.Small.{numbers-fit}
use Rattle.offer_laws.specs.Small.{Small}
use Rattle.hybrid_model.specs.declared.events.Event.{Event}
use Rattle.pair_node.specs.Listed.{owners, touched_by}
use Rattle.pair_node.specs.declared.members.Touched.{Touched}
use Rattle.thread_laws.specs.Members.{process_at, process_in}
use Rattle.pair_core.specs.Shown.{pair_of, shown_side}
use Rattle.pair_core.specs.declared.parts.Parts.{Parts}
use Rattle.pair_core.specs.declared.parts.Side.{Side}
use Rattle.std.proofs.Common.{ap, arith, inl, inr, refl, sym, ◌∙◌}
use Rattle.std.proofs.lemmas.Bool.{cases_lt, true≢false}
use Rattle.std.proofs.lemmas.Option.{slice_get-map}
use Rattle.std.specs.FinMap as finmap
use Rattle.std.specs.List.{list_all, list_any}
use Rattle.std.specs.Prelude.{Bool, IfSome, List, None, Option, Some, [], is_some, length, map, option_map, slice_get, unwrap_or, ℕ, ◌&&◌, ◌-◌, ◌<◌, ◌^◌, ◌||◌, ◌≡◌, ◌≤◌, ◌∷◌}

-- ---- a map whose values are seen in another form
module _ {V W : Type 0} (f : V → W) where
  first-same : (es : List (ℕ × V)) → map (λ (e : ℕ × W). e.0) (map (shown_pair f) es) ≡ map (λ (e : ℕ × V). e.0) es
  first-same [] = refl
  first-same (e ∷ es) = ap (λ ks. e.0 ∷ ks) (first-same es)

  pub keys-each : (m : Map V) → keys (each f m) ≡ keys m
  keys-each m = ap (map (λ (e : ℕ × W). e.0)) (entries-each f m) ∙ first-same (entries m)

  all-mapped : (test : ℕ × W → Bool) (es : List (ℕ × V)) → list_all test (map (shown_pair f) es) ≡ list_all (λ (e : ℕ × V). test (e.0, f e.1)) es
  all-mapped test [] = refl
  all-mapped test (e ∷ es) = ap (λ b. test (e.0, f e.1) && b) (all-mapped test es)

  pub each_row-each : (test : ℕ → W → Bool) (m : Map V) → each_row test (each f m) ≡ list_all (λ (e : ℕ × V). test e.0 (f e.1)) (entries m)
  each_row-each test m = ap (list_all (λ (e : ℕ × W). test e.0 e.1)) (entries-each f m) ∙ all-mapped (λ (e : ℕ × W). test e.0 e.1) (entries m)

  any-mapped : (test : ℕ × W → Bool) (es : List (ℕ × V)) → list_any test (map (shown_pair f) es) ≡ list_any (λ (e : ℕ × V). test (e.0, f e.1)) es
  any-mapped test [] = refl
  any-mapped test (e ∷ es) = ap (λ b. test (e.0, f e.1) || b) (any-mapped test es)

  pub some_row-each : (test : ℕ → W → Bool) (m : Map V) → some_row test (each f m) ≡ list_any (λ (e : ℕ × V). test e.0 (f e.1)) (entries m)
  some_row-each test m = ap (list_any (λ (e : ℕ × W). test e.0 e.1)) (entries-each f m) ∙ any-mapped (λ (e : ℕ × W). test e.0 e.1) (entries m)

-- ---- the parts
module _ {T F : Type 0} (rows : T → Map Row) (files : F → Files) (x : Parts T F) where
  -- the process of each live thread
  pub owners-are : (t : ℕ) → process_at (pair_of rows files x).node t ≡ owners x.lwk.node.threads t
  unfolding pair_of node_of
  owners-are t = ap process_in (at-each shown_thread x.lwk.node.threads.threads.rows t) ∙ seen (at x.lwk.node.threads.threads.rows t)
    where
      seen : (o : Option (ThreadRow Does)) → process_in (option_map shown_thread o) ≡ option_map (λ (y : ThreadRow Does). y.pid.0) o
      seen None = refl
      seen (Some y) = refl

  pub all-ended : each_row (λ p (y : Process). has_ended y.life) (pair_of rows files x).node.processes ≡ list_all (λ (e : ℕ × ProcessRow). has_ended e.1.life) (entries x.lwk.node.processes.map)
  unfolding pair_of node_of
  all-ended = each_row-each shown_process (λ p (y : Process). has_ended y.life) x.lwk.node.processes.map

  pub some-run : some_row (runs_on (pair_of rows files x)) (pair_of rows files x).node.threads
      ≡ list_any (λ (e : ℕ × ThreadRow Does). ready_to_run e.1.state && is_living (pair_of rows files x).node e.1.pid.0) (entries x.lwk.node.threads.threads.rows)
  unfolding pair_of node_of
  some-run = some_row-each shown_thread (runs_on (pair_of rows files x)) x.lwk.node.threads.threads.rows

  pub unsent-at : (i : ℕ) → option_map (λ (l : ScriptLine). l.index) (slice_get (pair_of rows files x).node.unsent i) ≡ option_map (λ (l : LineRow). l.index) (slice_get x.lwk.node.unsent.items i)
  unfolding pair_of node_of
  unsent-at i = ap (option_map (λ (l : ScriptLine). l.index)) (slice_get-map shown_line x.lwk.node.unsent.items i) ∙ twice (slice_get x.lwk.node.unsent.items i)
    where
      twice : (o : Option LineRow) → option_map (λ (l : ScriptLine). l.index) (option_map shown_line o) ≡ option_map (λ (l : LineRow). l.index) o
      twice None = refl
      twice (Some l) = refl

  -- the requests of a process that has a row, and of one that has none
  pub side-is : (p : ℕ) (o : Option (Side T)) → at x.sides.map p ≡ o → side_of (pair_of rows files x) p ≡ unwrap_or (option_map (shown_side rows) o) (new_side 0)
  unfolding pair_of
  side-is p o e = ap (λ (q : Option SideOf). unwrap_or q (new_side 0)) (at-each (shown_side rows) x.sides.map p ∙ ap (option_map (shown_side rows)) e)

  pub requests-from : (p from : ℕ) (s : Side T) → at x.sides.map p ≡ Some s → key_from (side_of (pair_of rows files x) p).book.rows from ≡ key_from s.channel.book.requests.rows from
  requests-from p from s e = ap (λ (y : SideOf). key_from y.book.rows from) (side-is p (Some s) e)

  none-from : (V : Type 0) (from : ℕ) → key_from (no_rows {V = V}) from ≡ None
  none-from V from = go (key_from (no_rows {V = V}) from) refl
    where
      go : (o : Option ℕ) → key_from (no_rows {V = V}) from ≡ o → o ≡ None
      go None e = refl
      go (Some k) e = absurd (true≢false (sym (key_from-stands (no_rows {V = V}) from k e) ∙ ap is_some (at-none {V = V} k)))

  pub no-requests-from : (p from : ℕ) → at x.sides.map p ≡ None → key_from (side_of (pair_of rows files x) p).book.rows from ≡ None
  no-requests-from p from e = ap (λ (y : SideOf). key_from y.book.rows from) (side-is p None e) ∙ none-from _ from

-- the next number
pub next-is : {T F : Type 0} (rows : T → Map Row) (files : F → Files) (x : Parts T F) (n : ℕ) → ((other : Files) → n ≡ (node_of x.lwk.node other).next_number) → n ≡ (pair_of rows files x).node.next_number
unfolding pair_of
next-is rows files x n e = e (files x.files)

-- whether a process was made
pub made-is : {T F : Type 0} (rows : T → Map Row) (files : F → Files) (x : Parts T F) (p : ℕ) (b : Bool) → ((other : Files) → b ≡ has_process (node_of x.lwk.node other) p) → b ≡ has_process (pair_of rows files x).node p
unfolding pair_of
made-is rows files x p b e = e (files x.files)

-- which threads an event may make or end
pub touched-is : {T F : Type 0} (rows : T → Map Row) (files : F → Files) (x : Parts T F) (e : Event) (z : Touched) → ((other : Files) → z ≡ touched_by (node_of x.lwk.node other) e) → z ≡ touched_by (pair_of rows files x).node e
unfolding pair_of
touched-is rows files x e z h = h (files x.files)

pub cores-are : {T F : Type 0} (rows : T → Map Row) (files : F → Files) (x : Parts T F) → (pair_of rows files x).cores ≡ x.lwk.cores
unfolding pair_of
cores-are rows files x = refl

-- a request's number is small
pub request-small : (pair : Pair) → Coherent pair → Small pair → (p from : ℕ) (o : Option Req) → option_map (λ (q : Req). q.0) o ≡ key_from (side_of pair p).book.rows from → IfSome o (λ (q : Req). q.0 < 2 ^ 64 - 1)
request-small pair k s p from None e = tt
request-small pair k s p from (Some q) e =
    let there = key_from-stands (side_of pair p).book.rows from q.0 (sym e) in
    let next = (numbers-fit pair k s).requests p in
    elim (cases_lt q.0 (side_of pair p).book.next) [
      | inl l ↦ omega arith
      | inr up ↦ absurd (true≢false (sym there ∙ ap is_some ((k.whole p).answered.fresh q.0 up)))
    ]

-- a state has few processes
pub few-processes : (pair : Pair) → Small pair → {A : Type 0} (number : A → ℕ) (pids : List A) → map number pids ≡ keys pair.node.processes → length pids ≤ 1_024
few-processes pair s number pids e =
    let a = mapped number pids in
    let b : length (map number pids) ≡ length (keys pair.node.processes) = ap (λ (ns : List ℕ). length ns) e in
    let c = mapped (λ (e : ℕ × Process). e.0) (entries pair.node.processes) in
    let d = finmap.len-entries pair.node.processes in
    let most = s.processes in
    omega arith
  where
    mapped : {A B : Type 0} (f : A → B) (xs : List A) → length (map f xs) ≡ length xs
    mapped f [] = refl
    mapped f (y ∷ ys) = let rest = mapped f ys in omega arith
