-- Answer: the lightweight kernel answers a fault that it noted with the row of its table, or with none.
-- Source: this project's own, after the idea of IHK/McKernel.
use Rattle.file_model.specs.Files.{Files}
use Rattle.hybrid_model.specs.OneProcess.{one_step}
use Rattle.hybrid_model.specs.Pairs.{Here, ring_of, with_node, with_side}
use Rattle.hybrid_model.specs.Rings.{post}
use Rattle.hybrid_model.specs.Sides.{Noted, Round, Row, Side, call_of, closes, looked_up, served, serves}
use Rattle.ikc_ring.specs.declared.Msg.TheVariants.{Answer}
use Rattle.kernel_model.specs.Nodes.{set_files}
use Rattle.kernel_model.specs.Progress.{Progress, given_back}
use Rattle.kernel_model.specs.declared.steps.Step.{Step}
use Rattle.kernel_model.specs.declared.steps.Step.TheVariants as Steps
use Rattle.mck_word.specs.Identifiers.{tid}
use Rattle.mck_word.specs.Maps.{at, cut}
use Rattle.mck_word.specs.declared.Access.TheVariants.{Read}
use Rattle.std.specs.Prelude.{Bool, List, None, Option, Some, [], false, not, unwrap_or, ℕ}

abbrev pub noted_may_be_answered : Option Round → Option Noted → Bool
noted_may_be_answered o None = false
noted_may_be_answered o (Some n) = not (closes o n.0)

abbrev pub may_answer : Side → ℕ → Bool
may_answer s w = noted_may_be_answered s.round (at s.lwk.noted w)

abbrev pub no_noted : Noted
no_noted = (0, Read)

abbrev pub noted_of : Side → ℕ → Noted
noted_of s w = unwrap_or (at s.lwk.noted w) no_noted

-- what a noted fault is answered: the row, or nothing where the page is absent or lacks the right
abbrev pub answer_to : Side → ℕ → Option Row
answer_to s w = looked_up (at s.lwk.table (noted_of s w).0) (noted_of s w).1

-- the thread whose request worker w serves
abbrev pub thread_served : Side → ℕ → ℕ
thread_served s w = (call_of s.book (serves s.linux w)).tid.0

unfoldable pub post_answer : ℕ → ℕ → Side → Side
post_answer r w s = record s {
  lwk = record s.lwk { noted = cut s.lwk.noted w };
  to_linux = post r (Answer w (noted_of s w).0 s.lwk.begun (answer_to s w)) s.to_linux;
}

-- an empty answer ends the call, whose description is given back here
abbrev pub files_after_answer : Option Row → Progress → Files → Files
files_after_answer (Some row) p files = files
files_after_answer None p files = given_back p files

abbrev pub give_answer : ℕ → Here → Here
give_answer w h = with_node (with_side h (post_answer (ring_of h (thread_served h.side w)) w h.side))
    (set_files (files_after_answer (answer_to h.side w) (served h.side.linux w).progress h.node.files) h.node)

abbrev pub image_of_answer : Option Row → ℕ → List Step
image_of_answer None t = one_step (Steps.PieceFault (tid t))
image_of_answer (Some row) t = []
