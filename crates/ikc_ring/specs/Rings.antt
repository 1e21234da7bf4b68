-- Rings: lists of messages, first in first out.
use Rattle.circular_buffer.specs.Buffer.{Buffer, buffer}
use Rattle.ikc_ring.specs.declared.Msg.{Msg}
use Rattle.std.specs.Prelude.{ℕ, List, [], ◌∷◌, ◌++◌, Option, None, Some}

-- the messages from the first on, beside the number that the ring takes
abbrev pub RingState : Type 0
RingState = Buffer Msg

abbrev pub ring : List Msg → ℕ → RingState
ring messages capacity = buffer messages capacity

abbrev pub head_of : List Msg → Option Msg
head_of [] = None
head_of (m ∷ ms) = Some m

abbrev pub rest_of : List Msg → List Msg
rest_of [] = []
rest_of (m ∷ ms) = ms

-- the ring with a message behind the others, and without the first
abbrev pub posted : Msg → RingState → RingState
posted m r = ring (r.items ++ m ∷ []) r.capacity

abbrev pub without_head : RingState → RingState
without_head r = ring (rest_of r.items) r.capacity
