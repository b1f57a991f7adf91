-- Where the record sections begin, as a builder stores it. RFC 1035 section 4.1.
use Rattle.std.specs.Prelude.{◌≡◌, ◌≤◌, ◌<◌, ℕ, zero, suc, List, [], ◌∷◌}
use Rattle.dns_code.specs.HeaderSection.{header_size}
use Rattle.dns_build.specs.State.{Stage, InBuilder, InQuestion, InAnswer, InAuthority, InAdditional}
use Rattle.dns_build.specs.declared.starts.Starts.{Starts}

-- the starts of the record sections from the stage's own back to the answer section
abbrev pub starts_at : Stage → Starts → List ℕ
starts_at InBuilder r = []
starts_at InQuestion r = []
starts_at InAnswer r = r.answers ∷ []
starts_at InAuthority r = r.authorities ∷ r.answers ∷ []
starts_at InAdditional r = r.additionals ∷ r.authorities ∷ r.answers ∷ []

-- the start of the n-th section; the question section begins after the header section
abbrev pub start_of : ℕ → Starts → ℕ
start_of zero r = header_size
start_of (suc zero) r = header_size
start_of (suc (suc zero)) r = r.answers
start_of (suc (suc (suc zero))) r = r.authorities
start_of (suc (suc (suc (suc n)))) r = r.additionals

-- all begin after the header section
pub record AreAfter (r : Starts) : Type 0 where
  pub answers : header_size ≤ r.answers
  pub authorities : header_size ≤ r.authorities
  pub additionals : header_size ≤ r.additionals

-- those after the n-th section begin at `end`
pub record LaterBegin (n end : ℕ) (r : Starts) : Type 0 where
  pub answers : n < 2 → r.answers ≡ end
  pub authorities : n < 3 → r.authorities ≡ end
  pub additionals : n < 4 → r.additionals ≡ end

-- those up to the n-th section stay
pub record EarlierStay (n : ℕ) (old new : Starts) : Type 0 where
  pub answers : 2 ≤ n → new.answers ≡ old.answers
  pub authorities : 3 ≤ n → new.authorities ≡ old.authorities
  pub additionals : 4 ≤ n → new.additionals ≡ old.additionals
