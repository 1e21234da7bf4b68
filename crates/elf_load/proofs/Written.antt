-- The file that an image is written to loads to the image.
use Rattle.elf_load.proofs.Apart.{apart_loads}
use Rattle.elf_load.proofs.Around.{loads_from, around_loads}
use Rattle.elf_load.specs.Kept.{IsLoaded}
use Rattle.elf_load.specs.Profile.{image_of}
use Rattle.elf_load.specs.Written.{apart_file, file_around, placed_in, table_of}
use Rattle.job_model.specs.declared.image.Image.{Image}
use Rattle.std.proofs.Common.{◌≡◌, ℕ, List, IfOk, Some, None, Result, Ok, Err, ◌∙◌, ap, subst}

pub around_again : (image : Image) (table : List ℕ) → IsLoaded image → table_of image ≡ Some table → image_of (file_around image (placed_in table 0 0 image.phnum)) ≡ Ok image
around_again image table l e =
    let f = loads_from l.file image l.bytes l.loads in
    subst (λ i. table_of i ≡ Some table → image_of (file_around i (placed_in table 0 0 i.phnum)) ≡ Ok i) f.3 (around_loads l.file f.0 f.1 f.2 table) e

pub apart_again : (image : Image) → IsLoaded image → table_of image ≡ None → image_of (apart_file image) ≡ Ok image
apart_again image l e =
    let f = loads_from l.file image l.bytes l.loads in
    subst (λ i. table_of i ≡ None → image_of (apart_file i) ≡ Ok i) f.3 (apart_loads l.file f.0 f.1 f.2) e

pub carried : {E : Type 0} (image : Image) (file : List ℕ) (r : Result (List ℕ) E) → image_of file ≡ Ok image → IfOk r (λ made. made ≡ file) → IfOk r (λ made. image_of made ≡ Ok image)
carried image file (Ok made) e h = ap image_of h ∙ e
carried image file (Err x) e h = tt
