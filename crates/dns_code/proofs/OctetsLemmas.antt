-- Octets are known by the fields and the counts in them.
use Rattle.std.proofs.Common.{◌≡◌, ◌∙◌, ℕ, ◌+◌, ◌*◌, ◌<◌, List, length, ap, sym, arith, slice_index}
use Rattle.std.proofs.lemmas.List.{ext_get_or}
use Rattle.std.proofs.lemmas.Grind.{common_steps}
use Rattle.dns_code.specs.Header.{fields_in, octets_of_fields}
use Rattle.dns_code.specs.HeaderCounts.{Counts, counts_in}
use Rattle.dns_code.specs.Laws.{AreOctets}
use Rattle.dns_code.proofs.theory.HeaderOctets.{octet_below, octets_of_fields-fields_in}

-- the octets of a 16-bit number
same_octets : (a b c d : ℕ) → b < 256 → d < 256 → a * 256 + b ≡ c * 256 + d → (a ≡ c) × (b ≡ d)
same_octets a b c d p q e = (omega arith, omega arith)

-- lists of eight numbers are equal if their elements are
same_from_8 : (b c : List ℕ) → length b ≡ 8 → length c ≡ 8 → slice_index b 0 ≡ slice_index c 0 → slice_index b 1 ≡ slice_index c 1
    → slice_index b 2 ≡ slice_index c 2 → slice_index b 3 ≡ slice_index c 3 → slice_index b 4 ≡ slice_index c 4 → slice_index b 5 ≡ slice_index c 5
    → slice_index b 6 ≡ slice_index c 6 → slice_index b 7 ≡ slice_index c 7 → b ≡ c
same_from_8 b c p q h0 h1 h2 h3 h4 h5 h6 h7 = ext_get_or 0 b c (p ∙ sym q) (λ i within. grind (arith, common_steps))

-- the four octets of a header by its fields
pub fields_are_all_bits : (b c : List ℕ) → AreOctets b 4 → AreOctets c 4 → fields_in b ≡ fields_in c → b ≡ c
fields_are_all_bits b c p q e = sym (octets_of_fields-fields_in b p) ∙ ap octets_of_fields e ∙ octets_of_fields-fields_in c q

-- the eight octets of counts by their numbers
pub counts_are_all_octets : (b c : List ℕ) → AreOctets b 8 → AreOctets c 8 → counts_in b ≡ counts_in c → b ≡ c
counts_are_all_octets b c p q e =
    let f : (i : ℕ) → i < 8 → slice_index b i < 256 = λ i h. octet_below b 8 i p h in
    let g : (i : ℕ) → i < 8 → slice_index c i < 256 = λ i h. octet_below c 8 i q h in
    let qd = same_octets _ _ _ _ (f 1 (omega arith)) (g 1 (omega arith)) (ap (λ (x : Counts). x.qdcount) e) in
    let an = same_octets _ _ _ _ (f 3 (omega arith)) (g 3 (omega arith)) (ap (λ (x : Counts). x.ancount) e) in
    let ns = same_octets _ _ _ _ (f 5 (omega arith)) (g 5 (omega arith)) (ap (λ (x : Counts). x.nscount) e) in
    let ar = same_octets _ _ _ _ (f 7 (omega arith)) (g 7 (omega arith)) (ap (λ (x : Counts). x.arcount) e) in
    same_from_8 b c p.length q.length qd.0 qd.1 an.0 an.1 ns.0 ns.1 ar.0 ar.1
