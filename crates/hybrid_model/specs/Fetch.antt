-- Fetch: the proxy takes the first message of a ring: a request, a clear, an answer or an interrupt.
-- Source: this project's own, after the idea of IHK/McKernel.
use Rattle.clear_rounds.specs.declared.Phase.TheVariants.{Taken}
use Rattle.hybrid_model.specs.Pairs.{Here, with_side}
use Rattle.hybrid_model.specs.Rings.{with_ring}
use Rattle.hybrid_model.specs.Sides.{Book, LinuxSide, Round, Row, Service, served, serves, service_of, state_of, with_phase, with_service, with_state}
use Rattle.hybrid_model.specs.Workers.{is_ended_or_replied}
use Rattle.ikc_ring.specs.declared.CallRequest.{CallRequest}
use Rattle.ikc_ring.specs.declared.Msg.{Msg}
use Rattle.ikc_ring.specs.declared.Msg.TheVariants.{Ack, Answer, Clear, Fault, Interrupt, Reply, Request}
use Rattle.kernel_model.specs.CallPhases.{phases_of}
use Rattle.kernel_model.specs.Progress.{Progress, fault_answer, starting}
use Rattle.mck_word.specs.Maps.{Map, keep, put}
use Rattle.mck_word.specs.Pages.{in_range}
use Rattle.mck_word.specs.declared.PageRange.{PageRange}
use Rattle.request_book.specs.declared.ReqState.TheVariants.{Ended, Held, Waiting}
use Rattle.std.specs.Prelude.{Bool, List, None, Option, Some, [], false, nat_lt, not, pos, true, ℕ, ◌++◌, ◌+◌, ◌∷◌}

-- what taking a message from a ring leaves
pub record Fetched : Type 0 where
  pub linux : LinuxSide
  pub book : Book
  pub round : Option Round

abbrev pub fetched_as : LinuxSide → Book → Option Round → Fetched
fetched_as l b o = record { linux = l; book = b; round = o }

-- how far a call is before its first step
abbrev pub first_progress : CallRequest → Progress
first_progress c = starting c.call c.args (phases_of c.call c.args)

abbrev pub new_service : CallRequest → Service
new_service c = record { progress = first_progress c; interrupted = false; worker = 0; answer = pos 0 }

unfoldable pub fetch_request : CallRequest → LinuxSide → Book → Option Round → Fetched
fetch_request c l b o =
    fetched_as (with_service l c.q.0 (new_service c)) (record (with_state b c.q.0 Waiting) { waiting = b.waiting ++ c.q.0 ∷ [] }) o

-- an answer that a later Clear has overtaken is dropped, and the worker goes on without a row
abbrev pub installed : Bool → Map Row → ℕ → Row → Map Row
installed true mirror page row = mirror
installed false mirror page row = put mirror page row

unfoldable pub fetch_row : ℕ → ℕ → ℕ → Row → LinuxSide → Book → Option Round → Fetched
fetch_row w page number row l b o =
    fetched_as (record l { mirror = installed (nat_lt number l.cleared) l.mirror page row }) (with_state b (serves l w) Held) o

unfoldable pub fetch_empty : ℕ → LinuxSide → Book → Option Round → Fetched
fetch_empty w l b o =
    let q = serves l w in
    fetched_as (with_service l q (record (served l w) { answer = fault_answer (served l w).progress })) (with_state b q Ended) o

unfoldable pub fetch_clear : PageRange → LinuxSide → Book → Option Round → Fetched
fetch_clear r l b o = fetched_as (record l { mirror = keep l.mirror (λ page. not (in_range r page)); cleared = l.cleared + 1 }) b (with_phase o Taken)

abbrev pub marked_for_linux : Bool → LinuxSide → ℕ → LinuxSide
marked_for_linux true l q = l
marked_for_linux false l q = with_service l q (record (service_of l.services q) { interrupted = true })

unfoldable pub fetch_interrupt : ℕ → LinuxSide → Book → Option Round → Fetched
fetch_interrupt q l b o = fetched_as (marked_for_linux (is_ended_or_replied (state_of b q)) l q) b o

abbrev pub fetch_answer : ℕ → ℕ → ℕ → Option Row → LinuxSide → Book → Option Round → Fetched
fetch_answer w page number None l b o = fetch_empty w l b o
fetch_answer w page number (Some row) l b o = fetch_row w page number row l b o

abbrev pub fetch_message : Msg → LinuxSide → Book → Option Round → Fetched
fetch_message (Request c) l b o = fetch_request c l b o
fetch_message (Clear r) l b o = fetch_clear r l b o
fetch_message (Answer w page number row) l b o = fetch_answer w page number row l b o
fetch_message (Interrupt q place) l b o = fetch_interrupt q.0 l b o
fetch_message (Reply q code) l b o = fetched_as l b o
fetch_message Ack l b o = fetched_as l b o
fetch_message (Fault w page a) l b o = fetched_as l b o

abbrev pub with_fetched : ℕ → List Msg → Fetched → Here → Here
with_fetched r rest f h = with_side h (record h.side { linux = f.linux; book = f.book; round = f.round; to_linux = with_ring r rest h.side.to_linux })

abbrev pub fetch_from : ℕ → List Msg → Here → Here
fetch_from r [] h = h
fetch_from r (m ∷ ms) h = with_fetched r ms (fetch_message m h.side.linux h.side.book h.side.round) h
