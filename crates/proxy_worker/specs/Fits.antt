-- What coherence gives an event that a proxy takes.
use Rattle.call_progress.specs.Streams.{HasRoomForPiece, HasRoomForStep}
use Rattle.clear_rounds.specs.Round.{phase_of}
use Rattle.clear_rounds.specs.declared.Phase.TheVariants.{Posted as RoundPosted}
use Rattle.file_calls.specs.Rooms.{Room}
use Rattle.file_model.specs.Files.{Files}
use Rattle.file_model.specs.declared.descriptions.Target.{Target}
use Rattle.hybrid_model.specs.Workers.{is_ended_or_replied}
use Rattle.hybrid_model.specs.Sides.{Book, Round, Row, serves, state_of}
use Rattle.ikc_ring.specs.declared.Msg.{Msg}
use Rattle.ikc_ring.specs.declared.Msg.TheVariants.{Request, Clear, Answer, Interrupt, Reply, Ack, Fault}
use Rattle.mck_word.specs.Maps.{at}
use Rattle.proxy_worker.specs.Shown.{HasMirrorRoom, HasServiceRoom, linux_of}
use Rattle.proxy_worker.specs.declared.proxy.Proxy.{Proxy}
use Rattle.proxy_worker.specs.declared.services.Service.{Service as ServiceOf}
use Rattle.request_book.specs.declared.ReqState.TheVariants.{Posted, Faulted}
use Rattle.std.specs.Prelude.{IsSome, None, Option, Some, false, ℕ, ◌<◌, ◌-◌, ◌^◌, ◌≡◌}

-- the request was fetched and is not replied
abbrev pub HasService : Proxy → ℕ → Type 0
HasService p q = IsSome (at (linux_of p).services q)

-- an answer comes to a worker whose request is Faulted; one with a row has room for it
abbrev pub AnswerFits : ℕ → Option Row → Proxy → Book → Type 0
AnswerFits w None p b = (state_of b (serves (linux_of p) w) ≡ Faulted) × HasService p (serves (linux_of p) w)
AnswerFits w (Some row) p b = (state_of b (serves (linux_of p) w) ≡ Faulted) × HasMirrorRoom p

-- a Request is Posted and has room, a Clear comes while the round is Posted, an Interrupt that counts is of a request that was fetched
abbrev pub FetchFits : Msg → Proxy → Book → Option Round → Type 0
FetchFits (Request c) p b o = (state_of b c.q.0 ≡ Posted) × HasServiceRoom p
FetchFits (Clear r) p b o = (phase_of o ≡ Some RoundPosted) × ((linux_of p).cleared < 2 ^ 64 - 1)
FetchFits (Answer w page number row) p b o = AnswerFits w row p b
FetchFits (Interrupt q place) p b o = is_ended_or_replied (state_of b q.0) ≡ false → HasService p q.0
FetchFits (Reply q code) p b o = Unit {0}
FetchFits Ack p b o = Unit {0}
FetchFits (Fault w page a) p b o = Unit {0}

-- there is room for the file step of the worker's request
abbrev pub HasActRoom : Room → (Target → ℕ → Type 0) → Files → Proxy → ℕ → Type 0
HasActRoom room can_write files p w = (k : ServiceOf) → at p.services.map (serves (linux_of p) w) ≡ Some k → HasRoomForStep room can_write files k.progress

-- there is room for the next piece of the worker's request
abbrev pub HasCopyRoom : Room → (Target → ℕ → Type 0) → Files → Proxy → ℕ → Type 0
HasCopyRoom room can_write files p w = (k : ServiceOf) → at p.services.map (serves (linux_of p) w) ≡ Some k → HasRoomForPiece room can_write files k.progress
