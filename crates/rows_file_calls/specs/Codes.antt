-- Files are plain data: two proofs that two of them are equal are the same proof.
use Rattle.file_model.specs.Files.{Files}
use Rattle.file_model.specs.contracts.descriptions.Description as description
use Rattle.mck_word.specs.Maps.{Map}
use Rattle.std.specs.Coded.{Coded, Coded-set, coded_ℕ, codes}
use Rattle.std.specs.FinMap as finmap
use Rattle.std.specs.Prelude.{◌≡◌}

coded-map : {X : Type 0} → Coded X → Coded (Map X)
coded-map x = finmap.code coded_ℕ x

coded-files : Coded Files
coded-files = hlevel (codes, coded-map, description.the_row.coded)

pub files-once : (a b : Files) → IsProp (a ≡ b)
files-once a b = Coded-set coded-files a b
