-- The lines of an assembler text, and the word that each says.
use Rattle.std.specs.Prelude.{ℕ, ◌+◌, ◌-◌, ◌*◌, ◌==◌, ◌&&◌, ◌||◌, nat_lt, nat_le, bytes_eq, codes, List, [], ◌∷◌, length, take, slice_index, Bool, true, false, Option, Some, None, option_map, ℤ, pos, if◌then◌else◌}
use Rattle.std.specs.List.{list_all}
use Rattle.isa_model.specs.Decode.{is_code, word_of}
use Rattle.isa_model.specs.declared.names.Op.{Op}
use Rattle.isa_model.specs.declared.names.Op.TheVariants.{Fence, Ecall, Ebreak}
use Rattle.isa_model.specs.declared.forms.Form.{Form}
use Rattle.isa_model.specs.declared.forms.Form.TheVariants.{R, I, S, B, U, J}
use Rattle.guest_asm.specs.declared.layout.Layout.{Layout}
use Rattle.guest_asm.specs.declared.layout.Layout.TheVariants as layout
use Rattle.guest_asm.specs.declared.marks.Mark.{Mark}
use Rattle.guest_asm.specs.declared.numbers.Number.{Number}
use Rattle.guest_asm.specs.Names.{named, layout_of, register_of}
use Rattle.guest_asm.specs.Numbers.{◌>>=◌, literal_of, immediate_of, natural_of}

-- the text before the first such byte, and what stands behind it
abbrev pub cut : ℕ → List ℕ → Option (List ℕ × List ℕ)
cut at [] = None
cut at (b ∷ bs) = if b == at then Some ([], bs) else option_map (λ p. (b ∷ p.0, p.1)) (cut at bs)

-- ---- labels

abbrev pub is_letter : ℕ → Bool
is_letter b = (nat_le 65 b && nat_le b 90) || ((nat_le 97 b && nat_le b 122) || b == 95)

abbrev pub is_digit : ℕ → Bool
is_digit b = nat_le 48 b && nat_le b 57

abbrev pub is_label_byte : ℕ → Bool
is_label_byte b = is_letter b || is_digit b

-- letters, digits and _, the first no digit
abbrev pub is_label : List ℕ → Bool
is_label [] = false
is_label (b ∷ bs) = is_letter b && list_all is_label_byte bs

abbrev pub last_byte : List ℕ → ℕ
last_byte text = slice_index text (length text - 1)

abbrev pub ends_in : ℕ → List ℕ → Bool
ends_in b text = nat_lt 0 (length text) && last_byte text == b

abbrev pub but_last : List ℕ → List ℕ
but_last text = take (length text - 1) text

-- the label that a line defines
abbrev pub defined_in : List ℕ → Option (List ℕ)
defined_in text = if ends_in 58 text && is_label (but_last text) then Some (but_last text) else None

-- a line without a word: an empty one, or one that ends as a label does
abbrev pub is_silent : List ℕ → Bool
is_silent text = length text == 0 || ends_in 58 text

abbrev pub words_in : List ℕ → ℕ
words_in text = if is_silent text then 0 else 1

-- where each label is defined first, by its line and by the number of words above
abbrev pub Marks : Type 0
Marks = List ℕ → Option Mark

-- ---- operands

abbrev pub apart : ℕ → ℕ → ℕ
apart a b = (a - b) + (b - a)

-- how far a place lies from here, in bytes; four of them for each word between
abbrev pub offset_to : ℕ → ℕ → Number
offset_to here place = record { negative = nat_lt place here; size = 4 * apart place here }

abbrev pub label_target : Marks → ℕ → List ℕ → Option ℤ
label_target marks here text = marks text >>= λ mark. immediate_of (offset_to here mark.place)

abbrev pub number_target : List ℕ → Option ℤ
number_target text = literal_of text >>= immediate_of

-- a label or an offset
abbrev pub target_of : Marks → ℕ → List ℕ → Option ℤ
target_of marks here text = if is_label text then label_target marks here text else number_target text

abbrev pub in_brackets : List ℕ → Option ℕ
in_brackets text = if ends_in 41 text then register_of (but_last text) else None

-- a place in memory, as 8(sp): the number and the register
abbrev pub place_of : List ℕ → Option (ℤ × ℕ)
place_of text = do
  parts ← cut 40 text
  number ← literal_of parts.0
  offset ← immediate_of number
  base ← in_brackets parts.1
  Some (offset, base)

unfoldable pub registers_form : Op → List ℕ → Option Form
registers_form op text = do
  first ← cut 44 text
  second ← cut 44 first.1
  rd ← register_of first.0
  rs1 ← register_of second.0
  rs2 ← register_of second.1
  Some (R op rd rs1 rs2)

unfoldable pub immediate_form : Op → List ℕ → Option Form
immediate_form op text = do
  first ← cut 44 text
  second ← cut 44 first.1
  rd ← register_of first.0
  rs1 ← register_of second.0
  number ← literal_of second.1
  value ← immediate_of number
  Some (I op rd rs1 value)

unfoldable pub place_form : Op → List ℕ → Option Form
place_form op text = do
  first ← cut 44 text
  rd ← register_of first.0
  place ← place_of first.1
  Some (I op rd place.1 place.0)

unfoldable pub store_form : Op → List ℕ → Option Form
store_form op text = do
  first ← cut 44 text
  rs2 ← register_of first.0
  place ← place_of first.1
  Some (S op place.1 rs2 place.0)

unfoldable pub branch_form : Marks → ℕ → Op → List ℕ → Option Form
branch_form marks here op text = do
  first ← cut 44 text
  second ← cut 44 first.1
  rs1 ← register_of first.0
  rs2 ← register_of second.0
  offset ← target_of marks here second.1
  Some (B op rs1 rs2 offset)

unfoldable pub upper_form : Op → List ℕ → Option Form
upper_form op text = do
  first ← cut 44 text
  rd ← register_of first.0
  number ← literal_of first.1
  value ← natural_of 1048575 number
  Some (U op rd value)

unfoldable pub jump_form : Marks → ℕ → Op → List ℕ → Option Form
jump_form marks here op text = do
  first ← cut 44 text
  rd ← register_of first.0
  offset ← target_of marks here first.1
  Some (J op rd offset)

abbrev pub form_in : Marks → ℕ → Layout → Op → List ℕ → Option Form
form_in marks here layout.Alone op text = None
form_in marks here layout.Registers op text = registers_form op text
form_in marks here layout.Immediate op text = immediate_form op text
form_in marks here layout.Place op text = place_form op text
form_in marks here layout.Store op text = store_form op text
form_in marks here layout.Branch op text = branch_form marks here op text
form_in marks here layout.Upper op text = upper_form op text
form_in marks here layout.Jump op text = jump_form marks here op text

-- an instruction without operands; `fence` is the one whose fields are all set
abbrev pub alone_form : Op → Option Form
alone_form Fence = Some (I Fence 0 0 (pos 255))
alone_form Ecall = Some (I Ecall 0 0 (pos 0))
alone_form Ebreak = Some (I Ebreak 0 0 (pos 1))
alone_form _ = None

-- ---- a line

-- the word of a form whose numbers fit
abbrev pub coded : Form → Option ℕ
coded form = if is_code form then Some (word_of form) else None

abbrev pub number_word : List ℕ → Option ℕ
number_word text = literal_of text >>= natural_of 0xffffffff

unfoldable pub with_operands : Marks → ℕ → List ℕ → List ℕ → Option ℕ
with_operands marks here key text =
    if bytes_eq key (codes ".word") then number_word text
    else (named key >>= λ op. form_in marks here (layout_of op) op text >>= coded)

unfoldable pub without_operands : List ℕ → Option ℕ
without_operands text = named text >>= λ op. alone_form op >>= coded

abbrev pub by_parts : Marks → ℕ → List ℕ → Option (List ℕ × List ℕ) → Option ℕ
by_parts marks here text None = without_operands text
by_parts marks here text (Some p) = with_operands marks here p.0 p.1

-- the word that a line says which has one
abbrev pub word_in : Marks → ℕ → List ℕ → Option ℕ
word_in marks here text = by_parts marks here text (cut 32 text)

abbrev pub is_first_at : ℕ → Option Mark → Bool
is_first_at line None = false
is_first_at line (Some mark) = mark.line == line

-- the label of a line isn't defined above
abbrev pub is_new : Marks → ℕ → Option (List ℕ) → Bool
is_new marks line None = false
is_new marks line (Some name) = is_first_at line (marks name)

abbrev pub silent_if : Bool → Option (Option ℕ)
silent_if true = Some None
silent_if false = None

-- what the line of that number says, with so many words above: a word, nothing, or it is broken
unfoldable pub said : Marks → ℕ → ℕ → List ℕ → Option (Option ℕ)
said marks line here text =
    if is_silent text then silent_if (length text == 0 || is_new marks line (defined_in text)) else option_map (λ w. Some w) (word_in marks here text)
