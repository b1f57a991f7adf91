-- What a call knows of octets that a `Message` was made of.
use Rattle.std.proofs.Common.{◌≡◌, ℕ, List, ◌<◌, ◌≤◌, false, inl, inr, length, sym, true}
use Rattle.std.proofs.lemmas.Bool.{true≢false}
use Rattle.std.proofs.lemmas.Bool.Decides.{leb_tells}
use Rattle.dns_code.specs.HeaderSection.{header_size}
use Rattle.dnsm_replies.specs.Replies.{AreLong}

-- Octets have a header section if they can't be shorter than one.
pub is_long : (b : List ℕ) → (length b < header_size → false ≡ true) → header_size ≤ length b
is_long b short = elim (leb_tells header_size (length b)) [
  | inl long ↦ long.1
  | inr less ↦ absurd (true≢false (sym (short less.1)))
]

-- So have both.
pub are_long : (query received : List ℕ) → (length query < header_size → false ≡ true) → (length received < header_size → false ≡ true) → AreLong query received
are_long query received no_query no_message = record { query_long = is_long query no_query; received_long = is_long received no_message }
