-- What a parser sees, its offset, and how it moves.
use Rattle.std.specs.Prelude.{◌≡◌, ℕ, ◌+◌, ◌<◌, ◌≤◌, List, length, take, slice_range, Result, Ok, Err}
use Rattle.std.specs.Int.{Width, byte_len, from_be_bytes}
use Rattle.dns_octets.specs.declared.error.ParseError.{ParseError}
use Rattle.dns_octets.specs.declared.error.ParseError.TheVariants.{ShortInput}
use Rattle.dns_name.specs.declared.parser.Parser.{Parser}

-- The whole input.
abbrev pub input : Parser → List ℕ
input p = p.octets.now

-- The octets that a parser sees: the input up to the parser's end.
abbrev pub seen : Parser → List ℕ
seen p = take p.end p.octets.now

-- The offset of a parser.
abbrev pub offset : Parser → ℕ
offset p = p.pos

-- The parser moved to an offset, and sees the same octets.
pub record MovesTo (old new : Parser) (to : ℕ) : Type 0 where
  pub input : input new ≡ input old
  pub seen : seen new ≡ seen old
  pub offset : offset new ≡ to

-- If n octets are left, the result is a value with P, and the parser moved past them. Else it is `ShortInput`, and the parser is unchanged.
abbrev pub Takes : {T : Type 0} → Parser → Parser → ℕ → Result T ParseError → (T → Type 0) → Type 0
Takes old new n (Ok value) P = (offset old + n ≤ length (seen old)) × MovesTo old new (offset old + n) × P value
Takes old new n (Err e) P = (length (seen old) < offset old + n) × (e ≡ ShortInput) × (new ≡ old)

-- The same for a call that doesn't move the parser.
abbrev pub Peeks : {T : Type 0} → Parser → ℕ → Result T ParseError → (T → Type 0) → Type 0
Peeks p n (Ok value) P = (offset p + n ≤ length (seen p)) × P value
Peeks p n (Err e) P = (length (seen p) < offset p + n) × (e ≡ ShortInput)

-- The big-endian number of width w at offset p. RFC 1035 section 2.3.2.
abbrev pub number_at : Width → List ℕ → ℕ → ℕ
number_at w b p = from_be_bytes w (slice_range b p (p + byte_len w))
