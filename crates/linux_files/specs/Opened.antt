-- The descriptors 0, 1 and 2 of a process on its console.
use Rattle.file_model.specs.Files.{Files, opened}
use Rattle.file_model.specs.declared.descriptions.Target.TheVariants.{OfConsole}
use Rattle.std.specs.Prelude.{false, true, ℕ}

abbrev pub with_console_opened : ℕ → Files → Files
with_console_opened guest files = opened guest (OfConsole guest) false true false (opened guest (OfConsole guest) false true false (opened guest (OfConsole guest) true false false files))
