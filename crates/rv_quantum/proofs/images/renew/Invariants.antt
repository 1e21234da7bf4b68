use Rattle.rv_quantum.specs.Images.{AreClean, AreFresh, as_left, pages_of}
use Rattle.std.proofs.Common.{map, vec_len, ◌≡◌}
use Rattle.std.specs.Vec.{vec_capacity}
use Rattle.rv_quantum.proofs.images.renew.Given as goal

abbrev pub invariant-loop-k : goal.invariant-loop-k
invariant-loop-k l = record {
  pages : pages_of l.rows.items ≡ pages_of l.fn.rows.items;
  clean : AreClean l.rows.items;
  fresh : AreFresh l.k l.rows.items;
  left : map as_left l.rows.items ≡ map as_left l.fn.rows.items;
  len : vec_len l.rows ≡ l.k-end;
  same : vec_len l.rows ≡ vec_len l.fn.rows;
  room : vec_capacity l.rows ≡ vec_capacity l.fn.rows;
}
