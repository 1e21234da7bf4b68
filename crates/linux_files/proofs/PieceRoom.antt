-- The room of a piece, from that of its target up to its end.
use Rattle.file_calls.specs.Pieces.{HasPutRoom, put_end}
use Rattle.file_model.specs.Files.{Files, description_of}
use Rattle.file_model.specs.declared.descriptions.Description.{Description}
use Rattle.linux_files.specs.Rooms.{can_write_parts}
use Rattle.linux_files.specs.declared.parts.Parts.{Parts}
use Rattle.std.proofs.Common.{subst, sym}
use Rattle.std.specs.Prelude.{OnOk, Option, Result, ℕ, ◌≡◌}

pub piece-room : (p : Parts) (old new : Files) (d : ℕ) (at : Option ℕ) (moved n : ℕ) (x : Description) (end : ℕ) {R E : Type 0} (result : Result R E) → new ≡ old → x ≡ description_of old d
    → end ≡ put_end old d at moved n (description_of old d).target → OnOk result (can_write_parts p x.target end) → OnOk result (HasPutRoom (can_write_parts p) new d at moved n)
piece-room p old new d at moved n x end result same is whole room =
    subst (λ (files : Files). OnOk result (HasPutRoom (can_write_parts p) files d at moved n)) (sym same)
    (subst (λ (e : ℕ). OnOk result (can_write_parts p (description_of old d).target e)) whole (subst (λ (y : Description). OnOk result (can_write_parts p y.target end)) is room))
