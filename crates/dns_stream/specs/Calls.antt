-- Calls on a reader in any order, and the messages that they hand out.
use Rattle.std.specs.Prelude.{◌≡◌, ℕ, List, [], ◌∷◌, ◌++◌, Option, None, Some}
use Rattle.dns_stream.specs.Frames.{Accepts, BeginsWith, IsPartial}

-- A call that succeeded: `push` with its octets, or `next` with the message that it returned, if any.
pub data Call : Type 0 where
  Push : List ℕ → Call
  Next : Option (List ℕ) → Call

-- The octets that calls push, in order.
abbrev pub pushed : List Call → List ℕ
pushed [] = []
pushed (Push octets ∷ calls) = octets ++ pushed calls
pushed (Next found ∷ calls) = pushed calls

-- The messages that calls hand out, in order.
abbrev pub handed_out : List Call → List (List ℕ)
handed_out [] = []
handed_out (Push octets ∷ calls) = handed_out calls
handed_out (Next None ∷ calls) = handed_out calls
handed_out (Next (Some message) ∷ calls) = message ∷ handed_out calls

-- Calls on a reader of frames of at most `most` octets lead from the octets that are left before them to those that are left after them.
-- A push appends its octets. `next` takes the first frame, if it is complete and accepted.
abbrev pub Lead : ℕ → List Call → List ℕ → List ℕ → Type 0
Lead most [] old new = new ≡ old
Lead most (Push octets ∷ calls) old new = Lead most calls (old ++ octets) new
Lead most (Next None ∷ calls) old new = IsPartial old × Lead most calls old new
Lead most (Next (Some message) ∷ calls) old new = (after : List ℕ) × Accepts most old × BeginsWith old message after × Lead most calls after new
