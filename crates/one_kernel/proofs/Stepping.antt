-- What each step of a call leaves of its process.
use Rattle.call_progress.specs.Kept.{after as left, moved}
use Rattle.file_model.specs.Files.{Files}
use Rattle.kernel_model.specs.Nodes.{Node, set_files}
use Rattle.kernel_model.specs.OneKernel as kernel
use Rattle.kernel_model.specs.OneKernel.{CallStatus, OneHere}
use Rattle.kernel_model.specs.Progress.{Moved, Progress, given_back, move_piece, next_piece, take_file_step}
use Rattle.kernel_model.specs.Steps.{after_call_step, after_here, answer_in, bytes_at, call_at, call_ended, one_piece, progress_at, return_of, set_status, status_if, with_memory, with_node, with_page}
use Rattle.kernel_model.specs.Signals.{moved_to_own}
use Rattle.kernel_model.specs.Traps.{returns}
use Rattle.kernel_model.specs.declared.steps.Step.TheVariants.{Block, FileStep, Mark, Piece, Return, Wake}
use Rattle.mck_word.specs.EachLaws.{each-cut, each-put}
use Rattle.mck_word.specs.Maps.{at, cut, each, put}
use Rattle.mck_word.specs.declared.Tid.{Tid}
use Rattle.one_kernel.proofs.Calling.{call-is, progress-active, progress-blocked}
use Rattle.one_kernel.specs.Parts.{here_in, shown_call, shown_own, status_by}
use Rattle.one_kernel.specs.Standings.{stood}
use Rattle.one_kernel.specs.declared.calls.Call.{Call}
use Rattle.one_kernel.specs.declared.calls.Standing.{Standing}
use Rattle.one_kernel.specs.declared.calls.Standing.TheVariants.{Active, Blocked, Over}
use Rattle.one_kernel.specs.declared.parts.One.{One}
use Rattle.one_kernel.specs.declared.parts.Own.{Own}
use Rattle.std.proofs.Common.{ap, refl, sym, ◌∙◌}
use Rattle.std.specs.Prelude.{Bool, List, None, Option, Some, true, ℕ, ℤ, ◌≡◌}

-- a row whose call of a thread is another one
abbrev pub with_call : Own → ℕ → Call → Own
with_call w t d = record w { calls = record w.calls { map = put w.calls.map t d } }

pub own-with : (w : Own) (t : ℕ) (d : Call) → shown_own (with_call w t d) ≡ record (shown_own w) { calls = put (shown_own w).calls t (shown_call d) }
own-with w t d = λ i. record { memory = w.memory.map; calls = each-put shown_call w.calls.map t d i }

-- a row with a call more
pub own-puts : (w o : Own) (t : ℕ) (d : Call) → o.memory ≡ w.memory → o.calls.map ≡ put w.calls.map t d → shown_own o ≡ record (shown_own w) { calls = put (shown_own w).calls t (shown_call d) }
own-puts w o t d memory puts = λ i. record { memory = (memory i).map; calls = (ap (each shown_call) puts ∙ each-put shown_call w.calls.map t d) i }

-- a row that has lost it
pub own-left : (w o : Own) (t : ℕ) → o.memory ≡ w.memory → o.calls.map ≡ cut w.calls.map t → shown_own o ≡ record (shown_own w) { calls = cut (shown_own w).calls t }
own-left w o t memory cuts = λ i. record { memory = (memory i).map; calls = (ap (each shown_call) cuts ∙ each-cut shown_call w.calls.map t) i }

status-stood : (p : Progress) (ended : Option ℤ) → status_by (stood ended) p ≡ status_if p ended
status-stood p None = refl
status-stood p (Some answer) = refl

module _ (x : One) (p : ℕ) (w : Own) (t : Tid) (c : Call) (there : at w.calls.map t.0 ≡ Some c) where
  abbrev h : OneHere
  h = here_in x w

  abbrev with_calls : Bool → CallStatus → OneHere
  with_calls marked status = set_status t.0 marked status h

  marked-is : (k : Bool → OneHere) → k c.marked ≡ k (call_at h t.0).marked
  marked-is k = ap (λ (y : kernel.Call). k y.marked) (sym (call-is x w t.0 c there))

  pub blocks : c.standing ≡ Active → with_calls c.marked (kernel.Blocked c.progress.progress) ≡ after_here (Block t) p h
  blocks active = marked-is (λ b. with_calls b (kernel.Blocked c.progress.progress)) ∙ ap (λ y. with_calls (call_at h t.0).marked (kernel.Blocked y)) (sym (progress-active x w t.0 c there active))

  pub wakes : c.standing ≡ Blocked → with_calls c.marked (kernel.Active c.progress.progress) ≡ after_here (Wake t) p h
  wakes blocked = marked-is (λ b. with_calls b (kernel.Active c.progress.progress)) ∙ ap (λ y. with_calls (call_at h t.0).marked (kernel.Active y)) (sym (progress-blocked x w t.0 c there blocked))

  -- the call is over, and gives its description back
  abbrev over : Bool → ℤ → Progress → OneHere
  over marked answer y = set_status t.0 marked (kernel.Over answer) (with_node (set_files (given_back y h.node.files) h.node) h)

  pub ends-with : (f : Progress → ℤ) (s : Standing) (z : ℤ) (files : Files) → c.standing ≡ Active → s ≡ Over z → z ≡ f c.progress.progress → files ≡ given_back c.progress.progress h.node.files
      → set_status t.0 c.marked (status_by s c.progress.progress) (with_node (set_files files h.node) h) ≡ call_ended t.0 (f (progress_at h t.0)) h
  unfolding call_ended
  ends-with f s z files active stands is gives =
      ap (λ k. set_status t.0 c.marked (status_by k c.progress.progress) (with_node (set_files files h.node) h)) stands
      ∙ ap (λ g. set_status t.0 c.marked (kernel.Over z) (with_node (set_files g h.node) h)) gives
      ∙ marked-is (λ b. over b z c.progress.progress) ∙ ap (λ y. over (call_at h t.0).marked y c.progress.progress) is
      ∙ ap (λ y. over (call_at h t.0).marked (f y) y) (sym (progress-active x w t.0 c there active))

  -- what a step of the call leaves
  abbrev stepped : Bool → CallStatus → Files → OneHere
  stepped marked status files = set_status t.0 marked status (with_node (set_files files h.node) h)

  pub steps-to : (q : Progress) (s : Standing) (ended : Option ℤ) (files : Files) → c.standing ≡ Active → s ≡ stood ended → left q ended files ≡ take_file_step c.progress.progress h.node.files p
      → stepped c.marked (status_by s q) files ≡ after_here (FileStep t) p h
  steps-to q s ended files active stands is =
      ap (λ k. stepped c.marked (status_by k q) files) stands
      ∙ marked-is (λ b. stepped b (status_by (stood ended) q) files) ∙ ap (λ y. stepped (call_at h t.0).marked y files) (status-stood q ended)
      ∙ ap (λ a. after_call_step t.0 a h) is ∙ ap (λ y. after_call_step t.0 (take_file_step y h.node.files p) h) (sym (progress-active x w t.0 c there active))

  -- what a piece leaves
  abbrev copied : Progress → Moved → OneHere
  copied y m = after_call_step t.0 m.after (with_memory (with_page (next_piece y).page m.page h.own.memory) h)

  pub copies-to : (q : Progress) (s : Standing) (ended : Option ℤ) (files : Files) (page : ℕ) (bytes before : List ℕ) → c.standing ≡ Active → s ≡ stood ended → page ≡ (next_piece c.progress.progress).page → before ≡ bytes_at h.own.memory page
      → moved bytes (left q ended files) ≡ move_piece c.progress.progress h.node.files p before
      → set_status t.0 c.marked (status_by s q) (with_node (set_files files h.node) (with_memory (with_page page bytes h.own.memory) h)) ≡ after_here (Piece t) p h
  unfolding one_piece
  copies-to q s ended files page bytes before active stands number there-is is =
      let y = c.progress.progress in
      let held = there-is ∙ ap (bytes_at h.own.memory) number in
      (λ i. set_status t.0 c.marked (status_by (stands i) q) (with_node (set_files files h.node) (with_memory (with_page (number i) bytes h.own.memory) h)))
      ∙ marked-is (λ b. set_status t.0 b (status_by (stood ended) q) (with_node (set_files files h.node) (with_memory (with_page (next_piece y).page bytes h.own.memory) h)))
      ∙ ap (λ s. set_status t.0 (call_at h t.0).marked s (with_node (set_files files h.node) (with_memory (with_page (next_piece y).page bytes h.own.memory) h))) (status-stood q ended)
      ∙ ap (copied y) is ∙ ap (λ b. copied y (move_piece y h.node.files p b)) held
      ∙ ap (λ z. copied z (move_piece z h.node.files p (bytes_at h.own.memory (next_piece z).page))) (sym (progress-active x w t.0 c there active))

  pub marks : (node : Node) → node ≡ moved_to_own t.0 h.node → set_status t.0 true (shown_call c).status (with_node node h) ≡ after_here (Mark t) p h
  marks node is = ap (λ n. set_status t.0 true (shown_call c).status (with_node n h)) is ∙ ap (λ (y : kernel.Call). set_status t.0 true y.status (with_node (moved_to_own t.0 h.node) h)) (sym (call-is x w t.0 c there))

  abbrev without_call : Node → OneHere
  without_call node = record (with_node node h) { own = record h.own { calls = cut h.own.calls t.0 } }

  pub returns-to : (z y : ℤ) (node : Node) → c.standing ≡ Over z → y ≡ z → node ≡ returns t.0 y h.node → without_call node ≡ after_here (Return t) p h
  returns-to z y node over same is = ap without_call (is ∙ ap (λ n. returns t.0 n h.node) same) ∙ ap (λ s. return_of t.0 (answer_in (status_by s c.progress.progress)) h) (sym over) ∙ ap (λ (y : kernel.Call). return_of t.0 (answer_in y.status) h) (sym (call-is x w t.0 c there))
