-- The processes of the events of the Linux side, and the memory that they need.
use Rattle.file_calls.specs.Rooms.{Room}
use Rattle.file_model.specs.Files.{Files}
use Rattle.file_model.specs.declared.descriptions.Target.{Target}
use Rattle.hybrid_model.specs.Rings.{head_of, ring}
use Rattle.hybrid_model.specs.declared.events.Event.{Event}
use Rattle.hybrid_model.specs.declared.events.Event.TheVariants.{AckClear, Act, Assign, Copy, Fetch, Finish, Miss, Park, Pin, Unpark, Unpin}
use Rattle.ikc_ring.specs.declared.Msg.{Msg}
use Rattle.ikc_ring.specs.declared.Msg.TheVariants as messages
use Rattle.mck_word.specs.Maps.{at}
use Rattle.pair_core.specs.declared.parts.Parts.{Parts}
use Rattle.pair_core.specs.declared.parts.Side.{Side}
use Rattle.proxy_worker.specs.Fits.{HasActRoom, HasCopyRoom}
use Rattle.proxy_worker.specs.Shown.{HasMirrorRoom, HasServiceRoom, HasTurnRoom}
use Rattle.proxy_worker.specs.declared.proxy.Proxy.{Proxy}
use Rattle.std.specs.Prelude.{None, Option, Some, ℕ, ◌≡◌}

-- the process of an event of the Linux side
abbrev pub linux_process : Event → Option ℕ
linux_process (Fetch p r) = Some p.0
linux_process (Assign p w) = Some p.0
linux_process (Miss p w) = Some p.0
linux_process (Pin p w) = Some p.0
linux_process (Copy p w) = Some p.0
linux_process (Unpin p w) = Some p.0
linux_process (Act p w) = Some p.0
linux_process (Park p w) = Some p.0
linux_process (Unpark p q) = Some p.0
linux_process (Finish p w) = Some p.0
linux_process (AckClear p) = Some p.0
linux_process _ = None

-- there is room for taking the first message of a ring
abbrev pub HasFetchRoom : Option Msg → Proxy → Type 0
HasFetchRoom (Some (messages.Request c)) p = HasServiceRoom p
HasFetchRoom (Some (messages.Answer w page number row)) p = HasMirrorRoom p
HasFetchRoom _ p = Unit {0}

module _ {T F : Type 0} (room : F → Room) (can_write : F → Target → ℕ → Type 0) (files : F → Files) where
  -- there is room for the event
  abbrev pub HasLinuxRoom : Event → Parts T F → Type 0
  HasLinuxRoom (Fetch p r) x = (s : Side T) → at x.sides.map p.0 ≡ Some s → HasFetchRoom (head_of (ring r s.channel.to_linux.messages)) s.proxy
  HasLinuxRoom (Copy p w) x = (s : Side T) → at x.sides.map p.0 ≡ Some s → HasCopyRoom (room x.files) (can_write x.files) (files x.files) s.proxy w
  HasLinuxRoom (Act p w) x = (s : Side T) → at x.sides.map p.0 ≡ Some s → HasActRoom (room x.files) (can_write x.files) (files x.files) s.proxy w
  HasLinuxRoom (Unpark p q) x = HasTurnRoom x.turns
  HasLinuxRoom _ x = Unit {0}
