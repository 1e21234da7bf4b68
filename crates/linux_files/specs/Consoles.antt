-- The consoles of guests.
use Rattle.file_model.specs.Files.{Console}
use Rattle.linux_files.specs.Tables.{ConsoleRow}
use Rattle.mck_word.specs.Maps.{Map, at}
use Rattle.std.specs.Prelude.{None, [], unwrap_or, ℕ, ◌^◌, ◌≡◌, ◌≤◌}

abbrev pub console_of_row : ConsoleRow → Console
console_of_row c = c.console

abbrev pub room_of_row : ConsoleRow → ℕ
room_of_row c = c.room

-- a guest's console, or an empty one
abbrev pub console_at : Map Console → ℕ → Console
console_at m guest = unwrap_or (at m guest) (record { input = []; output = [] })

-- each console is of a guest, whose number is a u32
abbrev pub AreOfGuests : Map ConsoleRow → Type 0
AreOfGuests m = (k : ℕ) → 2 ^ 32 ≤ k → at m k ≡ None
