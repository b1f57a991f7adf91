-- A header's fields and its octets determine each other.
use Rattle.std.proofs.Common.{◌≡◌, ◌∙◌, ℕ, ◌+◌, ◌*◌, ◌<◌, ◌≤◌, ◌^◌, Bool, true, false, List, [], ◌∷◌, length, take, get_or, ap, sym, refl, arith, slice_index, nat_eq}
use Rattle.std.proofs.lemmas.List.{ext_get_or}
use Rattle.std.proofs.lemmas.List.Elements.{All-get_or}
use Rattle.std.proofs.lemmas.Grind.{common_steps}
use Rattle.dns_code.specs.Bits.{bit, bits, one_bit}
use Rattle.dns_code.specs.Header.{HeaderFields, IsHeader, fields_in, octets_of_fields}
use Rattle.dns_code.specs.Laws.{AreOctets, OctetsHaveFields, OctetsAreOfFields}

-- each of the octets is below 256
pub octet_below : (b : List ℕ) (n i : ℕ) → AreOctets b n → i < n → slice_index b i < 256
octet_below b n i h within = All-get_or (λ (x : ℕ). x < 256) b i 0 (omega (arith, h.length)) h.below

-- a bit is 0 or 1 times its place value
record Placed (offset : ℕ) (set : Bool) : Type 0 where
  value : one_bit offset set ≡ one_bit 0 set * 2 ^ offset
  small : one_bit 0 set ≤ 1

placed : (offset : ℕ) (set : Bool) → Placed offset set
placed offset true = record { value = omega arith; small = omega arith }
placed offset false = record { value = omega arith; small = omega arith }

-- a bit by its number
bit_is : (x offset : ℕ) (set : Bool) → bits x offset 1 ≡ one_bit 0 set → bit x offset ≡ set
bit_is x offset true is = ap (λ (n : ℕ). nat_eq n 1) is
bit_is x offset false is = ap (λ (n : ℕ). nat_eq n 1) is

-- the number of a bit by the bit
number_is : (n : ℕ) → n ≤ 1 → one_bit 0 (nat_eq n 1) ≡ n
number_is n small = grind (arith, common_steps)

-- the fields in octet 2, by their numbers
record Second (x q o a t r : ℕ) : Type 0 where
  small : x < 256
  qr : bits x 7 1 ≡ q
  opcode : bits x 3 4 ≡ o
  aa : bits x 2 1 ≡ a
  tc : bits x 1 1 ≡ t
  rd : bits x 0 1 ≡ r

second : (x q o a t r : ℕ) → x ≡ q * 128 + o * 8 + a * 4 + t * 2 + r → q ≤ 1 → o < 16 → a ≤ 1 → t ≤ 1 → r ≤ 1 → Second x q o a t r
second x q o a t r is h7 h3 h2 h1 h0 = record { small = omega arith; qr = omega arith; opcode = omega arith; aa = omega arith; tc = omega arith; rd = omega arith }

-- the fields in octet 3, by their numbers
record Third (x r z a c o : ℕ) : Type 0 where
  small : x < 256
  ra : bits x 7 1 ≡ r
  z_bit : bits x 6 1 ≡ z
  ad : bits x 5 1 ≡ a
  cd : bits x 4 1 ≡ c
  rcode : bits x 0 4 ≡ o

third : (x r z a c o : ℕ) → x ≡ r * 128 + z * 64 + a * 32 + c * 16 + o → r ≤ 1 → z ≤ 1 → a ≤ 1 → c ≤ 1 → o < 16 → Third x r z a c o
third x r z a c o is h7 h6 h5 h4 h0 = record { small = omega arith; ra = omega arith; z_bit = omega arith; ad = omega arith; cd = omega arith; rcode = omega arith }

-- The octets of the fields before the counts are four.
pub length-octets_of_fields : (f : HeaderFields) → length (octets_of_fields f) ≡ 4
unfolding octets_of_fields
length-octets_of_fields f = refl

-- the third and the fourth octet of `octets_of_fields`, and the fields in them
module _ (f : HeaderFields) (is : IsHeader f) where
  second_in : Second (slice_index (octets_of_fields f) 2) (one_bit 0 f.qr) f.opcode (one_bit 0 f.aa) (one_bit 0 f.tc) (one_bit 0 f.rd)
  unfolding octets_of_fields
  second_in =
      let qr = placed 7 f.qr in
      let aa = placed 2 f.aa in
      let tc = placed 1 f.tc in
      let rd = placed 0 f.rd in
      let opcode = is.opcode in
      second _ _ _ _ _ _ (omega arith) qr.small opcode aa.small tc.small rd.small

  third_in : Third (slice_index (octets_of_fields f) 3) (one_bit 0 f.ra) (one_bit 0 f.z) (one_bit 0 f.ad) (one_bit 0 f.cd) f.rcode
  unfolding octets_of_fields
  third_in =
      let ra = placed 7 f.ra in
      let z = placed 6 f.z in
      let ad = placed 5 f.ad in
      let cd = placed 4 f.cd in
      let rcode = is.rcode in
      third _ _ _ _ _ _ (omega arith) ra.small z.small ad.small cd.small rcode

  -- the fields in the octets of these fields are the fields again
  pub fields_in-octets_of_fields : fields_in (octets_of_fields f) ≡ f
  unfolding octets_of_fields
  fields_in-octets_of_fields =
      let h = second_in in
      let k = third_in in
      let fits = is.id in
      let id : slice_index (octets_of_fields f) 0 * 256 + slice_index (octets_of_fields f) 1 ≡ f.id = omega arith in
      let qr = bit_is _ 7 f.qr h.qr in
      let aa = bit_is _ 2 f.aa h.aa in
      let tc = bit_is _ 1 f.tc h.tc in
      let rd = bit_is _ 0 f.rd h.rd in
      let ra = bit_is _ 7 f.ra k.ra in
      let z = bit_is _ 6 f.z k.z_bit in
      let ad = bit_is _ 5 f.ad k.ad in
      let cd = bit_is _ 4 f.cd k.cd in
      λ i. record { id = id i; qr = qr i; opcode = h.opcode i; aa = aa i; tc = tc i; rd = rd i; ra = ra i; z = z i; ad = ad i; cd = cd i; rcode = k.rcode i }

  octets_below : (i d : ℕ) → i < 4 → get_or (octets_of_fields f) i d < 256
  unfolding octets_of_fields
  octets_below i d within =
      let h : slice_index (octets_of_fields f) 2 < 256 = second_in.small in
      let k : slice_index (octets_of_fields f) 3 < 256 = third_in.small in
      let high : slice_index (octets_of_fields f) 0 < 256 = omega arith in
      let low : slice_index (octets_of_fields f) 1 < 256 = omega arith in
      grind (arith, common_steps)

  -- the octets of these fields are four numbers below 256
  pub are_octets : AreOctets (octets_of_fields f) 4
  are_octets = record { length = length-octets_of_fields f; below = λ i d within. octets_below i d (omega (arith, within, length-octets_of_fields f)) }

-- two lists of four numbers are equal if their elements are
same_from_4 : (b c : List ℕ) → length b ≡ 4 → length c ≡ 4 → slice_index b 0 ≡ slice_index c 0 → slice_index b 1 ≡ slice_index c 1
    → slice_index b 2 ≡ slice_index c 2 → slice_index b 3 ≡ slice_index c 3 → b ≡ c
same_from_4 b c p q h0 h1 h2 h3 = ext_get_or 0 b c (p ∙ sym q) (λ i within. grind (arith, common_steps))

-- the bit of an octet as a number at its place
bit_value : (m offset : ℕ) → bits m offset 1 ≤ 1 → one_bit offset (bit m offset) ≡ bits m offset 1 * 2 ^ offset
bit_value m offset small = let p = placed offset (bit m offset) in p.value ∙ ap (λ (n : ℕ). n * 2 ^ offset) (number_is (bits m offset 1) small)

module _ (b : List ℕ) (are : AreOctets b 4) where
  -- the octets of the fields in four octets are these four octets
  pub octets_of_fields-fields_in : octets_of_fields (fields_in b) ≡ b
  unfolding octets_of_fields
  octets_of_fields-fields_in =
      let m = slice_index b 2 in
      let n = slice_index b 3 in
      let h0 = octet_below b 4 0 are (omega arith) in
      let h1 = octet_below b 4 1 are (omega arith) in
      let h2 = octet_below b 4 2 are (omega arith) in
      let h3 = octet_below b 4 3 are (omega arith) in
      same_from_4 _ b refl are.length (omega arith) (omega arith)
      (omega (arith, bit_value m 7 (omega arith), bit_value m 2 (omega arith), bit_value m 1 (omega arith), bit_value m 0 (omega arith)))
      (omega (arith, bit_value n 7 (omega arith), bit_value n 6 (omega arith), bit_value n 5 (omega arith), bit_value n 4 (omega arith)))

  -- four octets can hold the fields that are in four octets
  pub is_header : IsHeader (fields_in b)
  is_header =
      let h0 = octet_below b 4 0 are (omega arith) in
      let h1 = octet_below b 4 1 are (omega arith) in
      record { id = omega arith; opcode = omega arith; rcode = omega arith }

-- Fields that four octets can hold are the fields in their octets.
pub octets_have_fields : OctetsHaveFields
octets_have_fields f is = (are_octets f is, fields_in-octets_of_fields f is)

-- Each four octets are those of their fields.
pub octets_are_of_fields : OctetsAreOfFields
octets_are_of_fields b are = (is_header b are, octets_of_fields-fields_in b are)

-- the fields are in the first four octets
pub fields_in-take : (b : List ℕ) → fields_in (take 4 b) ≡ fields_in b
fields_in-take [] = refl
fields_in-take (x ∷ []) = refl
fields_in-take (x ∷ y ∷ []) = refl
fields_in-take (x ∷ y ∷ z ∷ []) = refl
fields_in-take (x ∷ y ∷ z ∷ w ∷ b) = refl

-- octets that begin with those of fields have these fields
pub fields_in-octets : (b : List ℕ) (f : HeaderFields) → IsHeader f → take 4 b ≡ octets_of_fields f → fields_in b ≡ f
fields_in-octets b f is begins = sym (fields_in-take b) ∙ ap fields_in begins ∙ fields_in-octets_of_fields f is
