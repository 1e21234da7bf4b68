-- The rings of a process to Linux, by number.
use Rattle.hybrid_model.specs.Rings.{post, with_ring, ring, rest_of}
use Rattle.ikc_ring.specs.Rings.{RingState}
use Rattle.ikc_ring.specs.declared.Msg.{Msg}
use Rattle.std.specs.Coded.{Coded, code_by, coded_list, coded_ℕ, coded×}
use Rattle.std.specs.Prelude.{All, List, map, refl, ℕ, ◌≡◌}

-- the messages of each ring, and how many a ring takes
pub record Lines : Type 0 where
  pub messages : List (List Msg)
  pub capacity : ℕ

abbrev pub lines_code : Coded Msg → Coded Lines
lines_code m = code_by (List (List Msg) × ℕ) (coded× (coded_list (coded_list m)) coded_ℕ) (λ l. (l.messages, l.capacity)) (λ p. record { messages = p.0; capacity = p.1 }) (λ _. refl)

abbrev pub messages_of : List RingState → List (List Msg)
messages_of rings = map (λ (r : RingState). r.items) rings

-- each ring takes so many
abbrev pub EachTakes : ℕ → List RingState → Type 0
EachTakes n rings = All (λ (r : RingState). r.capacity ≡ n) rings

-- with a message behind the others of a ring, and without the first of a ring
abbrev pub posted : ℕ → Msg → Lines → Lines
posted r m l = record l { messages = post r m l.messages }

abbrev pub without_first : ℕ → Lines → Lines
without_first r l = record l { messages = with_ring r (rest_of (ring r l.messages)) l.messages }
