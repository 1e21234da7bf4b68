-- How many descriptions are open on a target, and how many descriptors name a description.
use Rattle.file_model.specs.Files.{is_same_target}
use Rattle.file_model.specs.declared.descriptions.Description.{Description}
use Rattle.file_model.specs.declared.descriptions.Target.{Target}
use Rattle.linux_files.specs.Slotted.{names_in_row}
use Rattle.mck_word.specs.Maps.{Map, total}
use Rattle.std.specs.Prelude.{cond, ℕ}

abbrev pub opens_it : Target → Description → ℕ
opens_it target x = cond (is_same_target x.target target) 1 0

abbrev pub opens_of : Map Description → Target → ℕ
opens_of descriptions target = total (opens_it target) descriptions

abbrev pub names_of : Map (Map ℕ) → ℕ → ℕ
names_of descriptors d = total (names_in_row d) descriptors
