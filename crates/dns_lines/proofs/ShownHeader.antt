-- The lines of a header and of counts, put together from their fields.
use Rattle.std.proofs.Common.{◌≡◌, ℕ, Bool, true, false, [], ◌∷◌, append_assoc, ap, refl, codes, Some}
use Rattle.std.specs.Fmt.{◌++?◌, decimal}
use Rattle.std.specs.Prelude.{if◌then◌else◌}
use Rattle.dns_code.specs.Flags.{flags_text}
use Rattle.dns_code.specs.Header.{HeaderFields, flags_in}
use Rattle.dns_code.specs.HeaderCounts.{Counts}
use Rattle.dns_code.specs.declared.flags.Flags.{Flags}
use Rattle.dns_lines.specs.Show.{header_line, counts_line}
use mir.Val.{bool_byte}

-- a bit as a number
pub bit_number : (b : Bool) → bool_byte b ≡ (if b then 1 else 0)
bit_number true = refl
bit_number false = refl

-- The line of the header shows each of its fields.
pub printed_header : (f : HeaderFields) (id opcode rcode z : ℕ) (flags : Flags) → id ≡ f.id → opcode ≡ f.opcode → rcode ≡ f.rcode → z ≡ (if f.z then 1 else 0) → flags ≡ flags_in f
    → Some (codes "header id=") ++?
    (Some (decimal id) ++?
    (Some (codes " opcode=") ++?
    (Some (decimal opcode) ++?
    (Some (codes " rcode=") ++? (Some (decimal rcode) ++? (Some (codes " z=") ++? (Some (decimal z) ++? (Some (codes " flags=") ++? (Some (flags_text flags) ++? Some (10 ∷ []))))))))))
    ≡ Some (header_line f)
printed_header f id opcode rcode z flags a b c d e = rw (a, b, c, d, e) (ap Some (simp append_assoc))

-- The line of the counts shows the four of them.
pub printed_counts : (c : Counts) (q a n r : ℕ) → q ≡ c.qdcount → a ≡ c.ancount → n ≡ c.nscount → r ≡ c.arcount
    → Some (codes "counts ") ++?
    (Some (decimal q) ++? (Some (codes " ") ++? (Some (decimal a) ++? (Some (codes " ") ++? (Some (decimal n) ++? (Some (codes " ") ++? (Some (decimal r) ++? Some (10 ∷ []))))))))
    ≡ Some (counts_line c)
printed_counts c q a n r e f h k = rw (e, f, h, k) (ap Some (simp append_assoc))
