-- The words that the writers are handed.
use Rattle.mck_report.specs.declared.writing.Token.{Token}
use Rattle.mck_report.specs.declared.writing.Token.TheVariants as Tokens
use Rattle.run_model.specs.Texts.{Word, Text, Number, word_bytes}
use Rattle.std.specs.Prelude.{ℕ, List, ◌∷◌}

abbrev pub word_of : Token → Word
word_of (Tokens.Text t) = Text t.now
word_of (Tokens.Number n) = Number n

-- a word that is not the first of its line
abbrev pub spaced_token : Token → List ℕ
spaced_token token = 32 ∷ word_bytes (word_of token)
