-- Texts of instructions.
use Rattle.std.proofs.Common.{◌≡◌, ◌≤◌, ℕ, []}
use Rattle.std.proofs.lemmas.List.{get_or_past}
use Rattle.guest_asm.specs.Names.{abi_name, abi_names}

pub past_names : (register : ℕ) → 32 ≤ register → abi_name register ≡ []
past_names register h = get_or_past abi_names register [] h
