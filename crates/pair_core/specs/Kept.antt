-- What the parts keep beside the state that they show.
use Rattle.ikc_channel.specs.declared.Channel.{Channel}
use Rattle.mck_word.specs.Maps.{at}
use Rattle.pair_core.specs.declared.parts.Parts.{Parts}
use Rattle.pair_core.specs.declared.parts.Side.{Side}
use Rattle.std.specs.Prelude.{Some, length, ℕ, ◌+◌, ◌≡◌}

-- each ring of the channel takes so many messages
pub record Takes (n : ℕ) (c : Channel) : Type 0 where
  pub to_linux : c.to_linux.capacity ≡ n
  pub to_lwk : c.to_lwk.capacity ≡ n

-- each ring takes what it may have to, and there are as many pages and places of the pool as frames
pub record Kept {T F : Type 0} (x : Parts T F) : Type 0 where
  pub rings : (p : ℕ) (s : Side T) → at x.sides.map p ≡ Some s → Takes (49 + x.workers) s.channel
  pub pages : length x.lwk.frames ≡ x.lwk.node.frame_count
  pub pool : x.lwk.pool.frames ≡ x.lwk.node.frame_count
