-- Checks one after another, each of which may refuse a line.
use Rattle.std.specs.Prelude.{ℕ, ◌&&◌, nat_le, Bool, true, false, Option, Some, None, Result, Ok, Err, if◌then◌else◌}
use Rattle.job_text.specs.declared.fault.Why.{Why}
use Rattle.job_text.specs.declared.fault.Why.TheVariants.{Number}

infixl 10 ◌>>=◌
abbrev pub ◌>>=◌ : {A B E : Type 0} → Result A E → (A → Result B E) → Result B E
(Ok x) >>= f = f x
(Err e) >>= f = Err e

abbrev pub refuse_if : {A : Type 0} → Bool → Why → Result A Why → Result A Why
refuse_if true why rest = Err why
refuse_if false why rest = rest

abbrev pub in_range : ℕ → ℕ → Option ℕ → Result ℕ Why
in_range least most None = Err Number
in_range least most (Some n) = if nat_le least n && nat_le n most then Ok n else Err Number
