-- The Linux side of a process that a proxy shows, and the turns that the turns of pipes show.
use Rattle.hybrid_model.specs.Sides.{LinuxSide, Service, Turn}
use Rattle.mck_word.specs.Maps.{Map, each}
use Rattle.proxy_worker.specs.declared.proxy.Proxy.{Proxy}
use Rattle.proxy_worker.specs.declared.services.Service.{Service as ServiceOf}
use Rattle.proxy_worker.specs.declared.turns.Turn.{Turn as TurnOf}
use Rattle.proxy_worker.specs.declared.turns.Turns.{Turns}
use Rattle.std.specs.Prelude.{◌≤◌}

abbrev pub shown_service : ServiceOf → Service
shown_service k = record { progress = k.progress.progress; interrupted = k.interrupted; worker = k.worker; answer = k.answer }

abbrev pub services_of : Map ServiceOf → Map Service
services_of m = each shown_service m

abbrev pub linux_of : Proxy → LinuxSide
linux_of p = record { mirror = p.mirror.map; pins = p.pins; workers = p.workers; services = services_of p.services.map; cleared = p.cleared }

abbrev pub shown_turn : TurnOf → Turn
shown_turn t = record { process = t.process.0; request = t.request.0 }

abbrev pub turns_of : Turns → Map Turn
turns_of t = each shown_turn t.rows.map

-- ---- room

-- there is room for a turn
abbrev pub HasTurnRoom : Turns → Type 0
HasTurnRoom t = 1 ≤ t.rows.spare

-- there is room for a request that is fetched
abbrev pub HasServiceRoom : Proxy → Type 0
HasServiceRoom p = 1 ≤ p.services.spare

-- there is room for a row that is installed
abbrev pub HasMirrorRoom : Proxy → Type 0
HasMirrorRoom p = 1 ≤ p.mirror.spare
