-- What a journal leaves from a coherent state on, and what holds on its way.
use Rattle.hybrid_laws.specs.Lasting.{Lasting}
use Rattle.hybrid_model.specs.Claims.{AtEach, Holds, Runs, replies}
use Rattle.hybrid_model.specs.Globals.{Coherent}
use Rattle.hybrid_model.specs.Journals.{images, state}
use Rattle.hybrid_model.specs.Pairs.{Pair, side_of}
use Rattle.hybrid_model.specs.Shown.{one}
use Rattle.hybrid_model.specs.Sides.{Side}
use Rattle.hybrid_model.specs.Tallies.{as_number}
use Rattle.hybrid_model.specs.declared.events.Event.{Event}
use Rattle.ikc_ring.specs.declared.CallRequest.{CallRequest}
use Rattle.mck_word.specs.Maps.{at}
use Rattle.request_book.specs.declared.ReqState.{ReqState}
use Rattle.std.specs.Prelude.{List, Option, is_none, nat_lt, ℕ, ◌&&◌, ◌+◌, ◌≡◌}

-- a number that was given and stands no more in the book
abbrev pub gone_in : Option (ReqState × CallRequest) → ℕ → ℕ → ℕ
gone_in o q next = as_number (nat_lt q next && is_none o)

abbrev pub gone : Side → ℕ → ℕ
gone s q = gone_in (at s.book.rows q) q s.book.next

-- what a journal leaves, and what holds on its way
pub record Follows (pair : Pair) (es : List Event) : Type 0 where
  pub coherent : Coherent (state pair es)
  pub lasting : Lasting (state pair es)
  pub simulated : Runs (one pair) (images pair es) (one (state pair es))
  pub events : AtEach Holds pair es
  pub replied : (p q : ℕ) → gone (side_of (state pair es) p) q ≡ gone (side_of pair p) q + replies pair es p q
