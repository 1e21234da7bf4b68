-- Bytes behind the front of a buffer.
use Rattle.std.proofs.lemmas.List.{drop-take}

pub ruleset cuts = (drop-take)
