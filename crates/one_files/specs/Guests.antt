-- Consoles by the numbers of their guests.
use Rattle.file_model.specs.Files.{Console}
use Rattle.mck_word.specs.Maps.{Map, at}
use Rattle.std.specs.Prelude.{None, [], unwrap_or, ℕ, ◌^◌, ◌≡◌, ◌≤◌}

-- a console that isn't there has neither input nor output
abbrev pub console_at : Map Console → ℕ → Console
console_at consoles guest = unwrap_or (at consoles guest) (record { input = []; output = [] })

-- each number is that of a guest
abbrev pub AreOfGuests : Map Console → Type 0
AreOfGuests consoles = (k : ℕ) → 2 ^ 32 ≤ k → at consoles k ≡ None
