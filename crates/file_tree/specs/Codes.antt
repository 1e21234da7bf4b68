-- How the values of the tree and its parts are stored.
use Rattle.file_model.specs.Files.{Inode, Name}
use Rattle.file_tree.specs.Tables.{NodeRow, NodeTable, Tally, TreeTable}
use Rattle.mck_word.specs.Maps.{Map}
use Rattle.std.specs.FinMap as finmap
use Rattle.std.specs.Coded.{Coded, code_by, coded×, coded_bool, coded_list, coded_option, coded_ℕ}
use Rattle.std.specs.Prelude.{Bool, List, Option, refl, ℕ}

abbrev pub tally_code : Coded Tally
tally_code = code_by (Map ℕ × (ℕ × ℕ)) (coded× (finmap.code coded_ℕ coded_ℕ) (coded× coded_ℕ coded_ℕ)) (λ t. (t.counts, (t.spare, t.left))) (λ p. record { counts = p.0; spare = p.1.0; left = p.1.1 }) (λ _. refl)

abbrev pub inode_code : Coded Inode
inode_code = code_by ((ℕ × Option Name) × (Bool × List ℕ)) (coded× (coded× coded_ℕ (coded_option (coded_list coded_ℕ))) (coded× coded_bool (coded_list coded_ℕ)))
    (λ x. ((x.parent, x.name), (x.directory, x.bytes))) (λ p. record { parent = p.0.0; name = p.0.1; directory = p.1.0; bytes = p.1.1 }) (λ _. refl)

abbrev pub node_code : Coded NodeRow
node_code = code_by (Inode × (ℕ × ℕ)) (coded× inode_code (coded× coded_ℕ coded_ℕ)) (λ x. (x.inode, (x.number, x.room))) (λ p. record { number = p.1.0; inode = p.0; room = p.1.1 }) (λ _. refl)

abbrev pub nodes_code : Coded NodeTable
nodes_code = code_by (Map Inode × ((Map ℕ × Map ℕ) × (ℕ × ℕ))) (coded× (finmap.code coded_ℕ inode_code) (coded× (coded× (finmap.code coded_ℕ coded_ℕ) (finmap.code coded_ℕ coded_ℕ)) (coded× coded_ℕ coded_ℕ)))
    (λ t. (t.map, ((t.rooms, t.keys), (t.next, t.spare)))) (λ p. record { map = p.0; rooms = p.1.0.0; keys = p.1.0.1; next = p.1.1.0; spare = p.1.1.1 }) (λ _. refl)

abbrev pub tree_code : Coded TreeTable
tree_code = code_by ((Map Inode × Map ℕ) × ((ℕ × ℕ) × (Map ℕ × (ℕ × ℕ)))) (coded× (coded× (finmap.code coded_ℕ inode_code) (finmap.code coded_ℕ coded_ℕ)) (coded× (coded× coded_ℕ coded_ℕ) (coded× (finmap.code coded_ℕ coded_ℕ) (coded× coded_ℕ coded_ℕ))))
    (λ t. ((t.map, t.rooms), ((t.next, t.spare), (t.holds, (t.spare_holds, t.left_holds)))))
    (λ p. record { map = p.0.0; rooms = p.0.1; next = p.1.0.0; spare = p.1.0.1; holds = p.1.1.0; spare_holds = p.1.1.1.0; left_holds = p.1.1.1.1 }) (λ _. refl)
