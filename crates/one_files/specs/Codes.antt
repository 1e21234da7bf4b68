-- How nodes, consoles and tables of nodes are stored as the value of a row.
use Rattle.file_model.specs.Files.{Console, Inode, Name}
use Rattle.mck_word.specs.Maps.{Map}
use Rattle.one_files.specs.Tables.{NodeTable}
use Rattle.std.specs.FinMap as finmap
use Rattle.std.specs.Coded.{Coded, code_by, coded×, coded_bool, coded_list, coded_option, coded_ℕ}
use Rattle.std.specs.Prelude.{Bool, List, Option, refl, ℕ}

abbrev pub inode_code : Coded Inode
inode_code = code_by ((ℕ × Option Name) × (Bool × List ℕ)) (coded× (coded× coded_ℕ (coded_option (coded_list coded_ℕ))) (coded× coded_bool (coded_list coded_ℕ)))
    (λ x. ((x.parent, x.name), (x.directory, x.bytes))) (λ p. record { parent = p.0.0; name = p.0.1; directory = p.1.0; bytes = p.1.1 }) (λ _. refl)

abbrev pub console_code : Coded Console
console_code = code_by (List ℕ × List ℕ) (coded× (coded_list coded_ℕ) (coded_list coded_ℕ)) (λ c. (c.input, c.output)) (λ p. record { input = p.0; output = p.1 }) (λ _. refl)

abbrev pub table_code : Coded NodeTable
table_code = code_by (Map Inode × (ℕ × ℕ)) (coded× (finmap.code coded_ℕ inode_code) (coded× coded_ℕ coded_ℕ)) (λ t. (t.map, (t.next, t.spare))) (λ p. record { map = p.0; next = p.1.0; spare = p.1.1 }) (λ _. refl)
