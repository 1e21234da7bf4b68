-- What the events need of a table's rows and the frames.
use Rattle.hybrid_model.specs.Sides.{Row}
use Rattle.ikc_channel.specs.declared.Channel.{Channel}
use Rattle.lwk_side.specs.declared.kernel.Lwk.{Lwk}
use Rattle.lwk_space.specs.Rows.{FramesApart, FramesIn, FramesTaken}
use Rattle.mck_word.specs.Maps.{Map}
use Rattle.std.specs.Prelude.{length, ◌≡◌}

-- the rows' frames are taken ones of the node, each in one row
pub record IsSound (lwk : Lwk) (rows : Map Row) : Type 0 where
  pub inside : FramesIn rows lwk.frames
  pub apart : FramesApart rows
  pub taken : FramesTaken rows lwk.pool
  pub frames : lwk.pool.frames ≡ length lwk.frames

-- no frame comes or goes
pub record KeepsFrames (a b : Lwk) : Type 0 where
  pub pages : length b.frames ≡ length a.frames
  pub pool : b.pool.frames ≡ a.pool.frames

-- the rings take as many messages as before
pub record KeepsRings (a b : Channel) : Type 0 where
  pub to_linux : b.to_linux.capacity ≡ a.to_linux.capacity
  pub to_lwk : b.to_lwk.capacity ≡ a.to_lwk.capacity
