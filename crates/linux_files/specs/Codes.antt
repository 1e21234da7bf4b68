-- How the values of pipes and consoles are stored.
use Rattle.file_model.specs.Files.{Console}
use Rattle.linux_files.specs.Tables.{ConsoleRow, ConsoleTable, PipeTable}
use Rattle.mck_word.specs.Maps.{Map}
use Rattle.std.specs.Coded.{Coded, code_by, coded_list, coded_ℕ, coded×}
use Rattle.std.specs.FinMap as finmap
use Rattle.std.specs.Prelude.{List, refl, ℕ}

abbrev pub pipes_code : Coded PipeTable
pipes_code = code_by (Map (List ℕ) × (Map ℕ × ℕ)) (coded× (finmap.code coded_ℕ (coded_list coded_ℕ)) (coded× (finmap.code coded_ℕ coded_ℕ) coded_ℕ))
    (λ t. (t.map, (t.rooms, t.spare))) (λ p. record { map = p.0; rooms = p.1.0; spare = p.1.1 }) (λ _. refl)

abbrev pub shown_code : Coded Console
shown_code = code_by (List ℕ × List ℕ) (coded× (coded_list coded_ℕ) (coded_list coded_ℕ)) (λ c. (c.input, c.output)) (λ p. record { input = p.0; output = p.1 }) (λ _. refl)

abbrev pub console_code : Coded ConsoleRow
console_code = code_by (Console × ℕ) (coded× shown_code coded_ℕ) (λ c. (c.console, c.room)) (λ p. record { console = p.0; room = p.1 }) (λ _. refl)

abbrev pub consoles_code : Coded ConsoleTable
consoles_code = code_by (Map Console × (Map ℕ × ℕ)) (coded× (finmap.code coded_ℕ shown_code) (coded× (finmap.code coded_ℕ coded_ℕ) coded_ℕ))
    (λ t. (t.map, (t.rooms, t.spare))) (λ p. record { map = p.0; rooms = p.1.0; spare = p.1.1 }) (λ _. refl)
