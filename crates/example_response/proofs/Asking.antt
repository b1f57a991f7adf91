-- The header of a query.
use Rattle.std.proofs.Common.{◌≡◌, ◌∙◌, ℕ, List, ap, take}
use Rattle.dns_message.proofs.CallerLemmas.{fields_in-take}
use Rattle.dns_message.specs.Headers.{HeaderFields, fields, fields_in, header_octets}
use Rattle.dns_message.specs.declared.header.Header.{Header}

-- the opcode of a header is that of the octets that it is read from
pub opcode_is : (header : Header) (b : List ℕ) → header_octets header ≡ take 4 b → (fields header).opcode ≡ (fields_in b).opcode
opcode_is header b e = ap (λ (octets : List ℕ). (fields_in octets).opcode) e ∙ ap (λ (f : HeaderFields). f.opcode) (fields_in-take b)
