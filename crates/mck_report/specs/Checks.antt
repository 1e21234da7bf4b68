-- What a check of a job writes.
use Rattle.job_model.specs.declared.image.Image.{Image}
use Rattle.job_model.specs.declared.image.Segment.{Segment}
use Rattle.kernel_model.specs.Layout.{needed_frames}
use Rattle.mck_flags.specs.declared.rights.Rights.{Rights}
use Rattle.mck_word.specs.Words.{has_bit}
use Rattle.run_model.specs.Reports.{hex_digit}
use Rattle.run_model.specs.Texts.{Number, Text, Part, Line}
use Rattle.std.specs.Prelude.{ℕ, zero, suc, ◌+◌, ◌/◌, ◌%◌, cond, List, [], ◌∷◌, ◌++◌, map, codes}

-- so many hexadecimal digits
abbrev pub hex_digits : ℕ → ℕ → List ℕ
hex_digits zero n = []
hex_digits (suc k) n = hex_digits k (n / 16) ++ hex_digit (n % 16) ∷ []

unfoldable pub address_text : ℕ → List ℕ
address_text n = hex_digits 16 n

-- r, w and x, or - where the right is missing
abbrev pub rights_text : Rights → List ℕ
rights_text r = cond (has_bit 0 r.0) 114 45 ∷ cond (has_bit 1 r.0) 119 45 ∷ cond (has_bit 2 r.0) 120 45 ∷ []

abbrev pub segment_line : Segment → Part
segment_line s = Line (Text (codes "segment") ∷ Text (address_text s.addr) ∷ Number s.mem ∷ Text (rights_text s.rights) ∷ [])

abbrev pub guest_parts : ℕ → Image → List Part
guest_parts number image =
    Line (Text (codes "guest") ∷ Number number ∷ Text (codes "entry") ∷ Text (address_text image.entry) ∷ Text (codes "pages") ∷ Number (needed_frames image) ∷ [])
    ∷ map segment_line image.segments

-- the guests from this number on
abbrev pub guests_parts : ℕ → List Image → List Part
guests_parts number [] = []
guests_parts number (image ∷ images) = guest_parts number image ++ guests_parts (number + 1) images

abbrev pub frames_needed : List Image → ℕ
frames_needed [] = 0
frames_needed (image ∷ images) = needed_frames image + frames_needed images

-- of the guests' images, and the frames that the job gives
abbrev pub check_parts : ℕ → List Image → List Part
check_parts frames images =
    guests_parts 1 images ++ Line (Text (codes "frames") ∷ Number (frames_needed images) ∷ Text (codes "of") ∷ Number frames ∷ []) ∷ []
