-- The text of words.
use Rattle.std.specs.Prelude.{ℕ, ◌==◌, List, [], ◌∷◌, ◌++◌, codes, decimal, flat_map, Option, Some, None, ℤ, if◌then◌else◌}
use Rattle.std.specs.Fmt.{signed_decimal}
use Rattle.isa_model.specs.Decode.{decoded}
use Rattle.isa_model.specs.declared.names.Op.{Op}
use Rattle.isa_model.specs.declared.names.Op.TheVariants.{Fence}
use Rattle.isa_model.specs.declared.forms.Form.{Form}
use Rattle.isa_model.specs.declared.forms.Form.TheVariants.{R, I, S, B, U, J}
use Rattle.guest_asm.specs.declared.layout.Layout.{Layout}
use Rattle.guest_asm.specs.declared.layout.Layout.TheVariants as layout
use Rattle.guest_asm.specs.Names.{name_of, layout_of}

abbrev pub register_text : ℕ → List ℕ
register_text register = 120 ∷ decimal register

-- two and three operands
abbrev pub two : List ℕ → List ℕ → List ℕ
two a b = a ++ 44 ∷ b

abbrev pub three : List ℕ → List ℕ → List ℕ → List ℕ
three a b c = two a (two b c)

-- a place in memory, as 8(x2)
abbrev pub place_text : ℤ → ℕ → List ℕ
place_text offset base = signed_decimal offset ++ 40 ∷ (register_text base ++ 41 ∷ [])

-- an instruction with its operands
abbrev pub with_text : Op → List ℕ → List ℕ
with_text op operands = name_of op ++ 32 ∷ operands

abbrev pub i_text : Layout → Op → ℕ → ℕ → ℤ → List ℕ
i_text layout.Alone op rd rs1 imm = name_of op
i_text layout.Place op rd rs1 imm = with_text op (two (register_text rd) (place_text imm rs1))
i_text _ op rd rs1 imm = with_text op (three (register_text rd) (register_text rs1) (signed_decimal imm))

abbrev pub form_text : Form → List ℕ
form_text (R op rd rs1 rs2) = with_text op (three (register_text rd) (register_text rs1) (register_text rs2))
form_text (I op rd rs1 imm) = i_text (layout_of op) op rd rs1 imm
form_text (S op rs1 rs2 imm) = with_text op (two (register_text rs2) (place_text imm rs1))
form_text (B op rs1 rs2 imm) = with_text op (three (register_text rs1) (register_text rs2) (signed_decimal imm))
form_text (U op rd imm) = with_text op (two (register_text rd) (decimal imm))
form_text (J op rd imm) = with_text op (two (register_text rd) (signed_decimal imm))

abbrev pub number_text : ℕ → List ℕ
number_text word = codes ".word" ++ 32 ∷ decimal word

-- the FENCE that `fence` says
abbrev pub full_fence : ℕ
full_fence = 0x0ff0000f

-- a FENCE but that one is listed as a number
abbrev pub listed_form : ℕ → Form → List ℕ
listed_form word (I Fence rd rs1 imm) = if word == full_fence then name_of Fence else number_text word
listed_form word form = form_text form

abbrev pub listed : ℕ → Option Form → List ℕ
listed word None = number_text word
listed word (Some form) = listed_form word form

-- the line of a word
unfoldable pub line_of : ℕ → List ℕ
line_of word = listed word (decoded word)

abbrev pub listing_of : List ℕ → List ℕ
listing_of words = flat_map (λ word. line_of word ++ 10 ∷ []) words
