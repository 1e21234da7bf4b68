-- What the rows end as, once a `&mut` to one of them has ended.
use Rattle.std.specs.Prelude.{ℕ}
use Rattle.std.specs.Borrow.{Lends, Fml, RattleType, MutBor}
use Rattle.std.specs.FinMap as map
use Rattle.key_rows.specs.Table.{Table}
use Rattle.key_rows.specs.contracts.Rows.{the_row}

module _ (V : RattleType) (t : MutBor (Table V.Denot)) (key : ℕ) where
  -- the key has the last value written through r
  abbrev pub lends_row : MutBor V.Denot → Fml
  lends_row r = Lends (the_row V) V t r (λ w. record { map = map.insert t.now.map key w; spare = t.now.spare })
