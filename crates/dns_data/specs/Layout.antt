-- The layout of the RDATA of a record type, what it says of octets, and which fault comes first. RFC 1035 sections 3.3 and 4.1.4.
--
-- `b` is the octets that are seen: those of the message up to the end of the RDATA.
use Rattle.std.specs.Prelude.{◌≡◌, ◌⊎◌, ℕ, ◌+◌, ◌*◌, ◌<◌, ◌≤◌, ◌==◌, ◌||◌, Bool, true, false, IsTrue, List, [], ◌∷◌, length, drop, slice_index, slice_range}
use Rattle.dns_name.specs.Names.{Fault, Labels, uncompressed, NameAt, FaultAt, NameEndsAt}
use Rattle.dns_octets.specs.declared.error.TheConstants.FormError.{BAD_POINTER}
use Rattle.dns_name.specs.Names.Fault.{ShortInput, Form}
use Rattle.dns_wire.specs.Parts.{Part, parts_size}
use Rattle.dns_wire.specs.Parts.Part.{Octets, CompressibleName, UncompressedName}

-- the fields of RDATA, in order
pub data Layout : Type 0 where
  -- no more fields
  End : Layout
  -- all remaining octets, if the test accepts them
  Rest : (List ℕ → Bool) → Layout
  -- these fields, if they take at most n octets uncompressed
  AtMost : ℕ → Layout → Layout
  -- n octets, and then the remaining fields
  Fixed : ℕ → Layout → Layout
  -- a character string, which is a length octet and that number of octets, and then the remaining fields
  CharacterString : Layout → Layout
  -- octets preceded by their length, a big-endian number of 16 bits, and then the remaining fields (RFC 8945 section 4.2)
  SizedOctets : Layout → Layout
  -- a name, perhaps with a pointer, and then the remaining fields
  DomainName : Layout → Layout
  -- a name that is never compressed when it is written (RFC 3597 section 4), and then the remaining fields. If the first flag is set, the name may have a
  -- pointer when it is read, as section 4 asks for SRV and NAPTR. If the second is set, its canonical form is lowercased (RFC 4034 section 6.2), as that of SRV
  -- is, but not that of NSEC (RFC 6840 section 5.1).
  UncompressedDomainName : Bool → Bool → Layout → Layout

-- the number of octets of a character string at offset p, its length octet included
abbrev pub string_size : List ℕ → ℕ → ℕ
string_size b p = 1 + slice_index b p

-- the number of octets at offset p that are preceded by their 16-bit length, the length's two octets included
abbrev pub octets_size : List ℕ → ℕ → ℕ
octets_size b p = 2 + (slice_index b p * 256 + slice_index b (p + 1))

-- whether a name may be encoded from p to q: if the field may have no pointer, the name takes all its octets
abbrev pub may_be_encoded : Bool → Labels → ℕ → ℕ → Bool
may_be_encoded pointers name p q = pointers || (q == (p + length (uncompressed name)))

-- the parts have the layout: one part for each field
abbrev pub IsLaidOut : Layout → List Part → Type 0
IsLaidOut End parts = parts ≡ []
IsLaidOut (Rest accepts) parts = (octets : List ℕ) × (parts ≡ Octets octets ∷ []) × IsTrue (accepts octets)
IsLaidOut (AtMost n layout) parts = (parts_size parts ≤ n) × IsLaidOut layout parts
IsLaidOut (Fixed n layout) [] = ⊥
IsLaidOut (Fixed n layout) (Octets octets ∷ parts) = (length octets ≡ n) × IsLaidOut layout parts
IsLaidOut (Fixed n layout) (CompressibleName name ∷ parts) = ⊥
IsLaidOut (Fixed n layout) (UncompressedName flag name ∷ parts) = ⊥
IsLaidOut (CharacterString layout) [] = ⊥
IsLaidOut (CharacterString layout) (Octets octets ∷ parts) = (length octets ≡ string_size octets 0) × IsLaidOut layout parts
IsLaidOut (CharacterString layout) (CompressibleName name ∷ parts) = ⊥
IsLaidOut (CharacterString layout) (UncompressedName flag name ∷ parts) = ⊥
IsLaidOut (SizedOctets layout) [] = ⊥
IsLaidOut (SizedOctets layout) (Octets octets ∷ parts) = (length octets ≡ octets_size octets 0) × IsLaidOut layout parts
IsLaidOut (SizedOctets layout) (CompressibleName name ∷ parts) = ⊥
IsLaidOut (SizedOctets layout) (UncompressedName flag name ∷ parts) = ⊥
IsLaidOut (DomainName layout) [] = ⊥
IsLaidOut (DomainName layout) (Octets octets ∷ parts) = ⊥
IsLaidOut (DomainName layout) (CompressibleName name ∷ parts) = IsLaidOut layout parts
IsLaidOut (DomainName layout) (UncompressedName flag name ∷ parts) = ⊥
IsLaidOut (UncompressedDomainName pointers lowercased layout) [] = ⊥
IsLaidOut (UncompressedDomainName pointers lowercased layout) (Octets octets ∷ parts) = ⊥
IsLaidOut (UncompressedDomainName pointers lowercased layout) (CompressibleName name ∷ parts) = ⊥
IsLaidOut (UncompressedDomainName pointers lowercased layout) (UncompressedName flag name ∷ parts) = (flag ≡ lowercased) × IsLaidOut layout parts

-- the fields are at offset p and end before q, with these parts
abbrev pub DataAt : List ℕ → Layout → ℕ → ℕ → List Part → Type 0
DataAt b End p q parts = (q ≡ p) × (parts ≡ [])
DataAt b (Rest accepts) p q parts = (q ≡ length b) × (parts ≡ Octets (drop p b) ∷ []) × IsTrue (accepts (drop p b))
DataAt b (AtMost n layout) p q parts = (parts_size parts ≤ n) × DataAt b layout p q parts
DataAt b (Fixed n layout) p q [] = ⊥
DataAt b (Fixed n layout) p q (Octets octets ∷ parts) =
    (length octets ≡ n) × (slice_range b p (p + n) ≡ octets) × DataAt b layout (p + n) q parts
DataAt b (Fixed n layout) p q (CompressibleName name ∷ parts) = ⊥
DataAt b (Fixed n layout) p q (UncompressedName flag name ∷ parts) = ⊥
DataAt b (CharacterString layout) p q [] = ⊥
DataAt b (CharacterString layout) p q (Octets octets ∷ parts) =
    let n = string_size b p in (length octets ≡ n) × (slice_range b p (p + n) ≡ octets) × DataAt b layout (p + n) q parts
DataAt b (CharacterString layout) p q (CompressibleName name ∷ parts) = ⊥
DataAt b (CharacterString layout) p q (UncompressedName flag name ∷ parts) = ⊥
DataAt b (SizedOctets layout) p q [] = ⊥
DataAt b (SizedOctets layout) p q (Octets octets ∷ parts) =
    let n = octets_size b p in (length octets ≡ n) × (slice_range b p (p + n) ≡ octets) × DataAt b layout (p + n) q parts
DataAt b (SizedOctets layout) p q (CompressibleName name ∷ parts) = ⊥
DataAt b (SizedOctets layout) p q (UncompressedName flag name ∷ parts) = ⊥
DataAt b (DomainName layout) p q [] = ⊥
DataAt b (DomainName layout) p q (Octets octets ∷ parts) = ⊥
DataAt b (DomainName layout) p q (CompressibleName name ∷ parts) =
    (r : ℕ) × NameAt b p name × NameEndsAt b p r × DataAt b layout r q parts
DataAt b (DomainName layout) p q (UncompressedName flag name ∷ parts) = ⊥
DataAt b (UncompressedDomainName pointers lowercased layout) p q [] = ⊥
DataAt b (UncompressedDomainName pointers lowercased layout) p q (Octets octets ∷ parts) = ⊥
DataAt b (UncompressedDomainName pointers lowercased layout) p q (CompressibleName name ∷ parts) = ⊥
DataAt b (UncompressedDomainName pointers lowercased layout) p q (UncompressedName flag name ∷ parts) =
    (r : ℕ) × NameAt b p name × NameEndsAt b p r × DataAt b layout r q parts × (flag ≡ lowercased) × (may_be_encoded pointers name p r ≡ true)

-- Why the fields aren't at offset p. The first field that isn't there lacks octets, or its name has a fault, or a pointer that it may not have. Or all fields are there, and take too many octets.
abbrev pub DataFaultAt : List ℕ → Layout → ℕ → Fault → Type 0
DataFaultAt b End p f = ⊥
DataFaultAt b (Rest accepts) p f = (f ≡ ShortInput) × (IsTrue (accepts (drop p b)) → ⊥)
DataFaultAt b (AtMost n layout) p f =
    DataFaultAt b layout p f ⊎ ((q : ℕ) × (parts : List Part) × DataAt b layout p q parts × (n < parts_size parts) × (f ≡ ShortInput))
DataFaultAt b (Fixed n layout) p f = ((f ≡ ShortInput) × (length b < p + n)) ⊎ ((p + n ≤ length b) × DataFaultAt b layout (p + n) f)
DataFaultAt b (CharacterString layout) p f =
    let n = string_size b p in ((f ≡ ShortInput) × (length b < p + n)) ⊎ ((p + n ≤ length b) × DataFaultAt b layout (p + n) f)
DataFaultAt b (SizedOctets layout) p f =
    let n = octets_size b p in ((f ≡ ShortInput) × (length b < p + n)) ⊎ ((p + n ≤ length b) × DataFaultAt b layout (p + n) f)
DataFaultAt b (DomainName layout) p f =
    FaultAt b p f ⊎ ((name : Labels) × (q : ℕ) × NameAt b p name × NameEndsAt b p q × DataFaultAt b layout q f)
DataFaultAt b (UncompressedDomainName pointers lowercased layout) p f =
    FaultAt b p f
    ⊎ (((name : Labels) × (q : ℕ) × NameAt b p name × NameEndsAt b p q × (may_be_encoded pointers name p q ≡ false) × (f ≡ Form BAD_POINTER))
    ⊎ ((name : Labels) × (q : ℕ) × NameAt b p name × NameEndsAt b p q × DataFaultAt b layout q f × (may_be_encoded pointers name p q ≡ true)))
