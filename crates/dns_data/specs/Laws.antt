-- Theorems over all parts that are composed and all RDATA in all octets. RFC 1035 sections 3.3 and 4.1.4.
use Rattle.std.specs.Prelude.{◌≡◌, ◌⊎◌, ℕ, ◌≤◌, List, [], ◌∷◌, length, take, Bool, Option, Result, Ok, Err}
use Rattle.dns_name.specs.Names.{Fault, Labels, IsName, uncompressed}
use Rattle.dns_wire.specs.Parts.{Part, PartsAt, encode_part, encode_parts}
use Rattle.dns_wire.specs.Encoders.{Rule}
use Rattle.dns_wire.specs.Targets.{Written, Fits, append, Appends, Composes}
use Rattle.dns_octets.specs.declared.error.AppendError.{AppendError}
use Rattle.dns_data.specs.Layout.{Layout, IsLaidOut, DataAt, DataFaultAt}

-- composing no parts changes nothing
abbrev pub NoPartComposes : Type 0
NoPartComposes = (capacity : Option ℕ) (grows : Bool) (rule : Rule) (t : Written)
    → Fits capacity (length t.octets) → Composes capacity grows (encode_parts rule []) t t {X = Unit} (Ok tt)

-- appending one part composes it
abbrev pub OnePartComposes : Type 0
OnePartComposes = (capacity : Option ℕ) (grows : Bool) (rule : Rule) (part : Part) (t u : Written) (r : Result Unit AppendError)
    → Appends capacity grows (encode_part rule part) t u r → Composes capacity grows (encode_parts rule (part ∷ [])) t u r

-- after the first part is appended, composing the remaining parts composes all of them, whatever the result
abbrev pub PartsComposeAfter : Type 0
PartsComposeAfter = (capacity : Option ℕ) (grows : Bool) (rule : Rule) (part : Part) (parts : List Part) (t u v : Written) (r : Result Unit AppendError)
    → u ≡ append (encode_part rule part) t → Composes capacity grows (encode_parts rule parts) u v r → Composes capacity grows (encode_parts rule (part ∷ parts)) t v r

-- if the first part can't be appended, composing all parts fails with the same error
abbrev pub RefusedPartComposes : Type 0
RefusedPartComposes = (capacity : Option ℕ) (grows : Bool) (rule : Rule) (part : Part) (parts : List Part) (t u : Written) (r q : Result Unit AppendError) (e : AppendError)
    → r ≡ Err e → q ≡ Err e → Appends capacity grows (encode_part rule part) t u r → Composes capacity grows (encode_parts rule (part ∷ parts)) t u q

-- an uncompressed name has at most 255 octets
abbrev pub NamesAreBounded : Type 0
NamesAreBounded = (name : Labels) → IsName name → length (uncompressed name) ≤ 255

-- at offset p, either exactly one list of parts has the layout, with one end, or there is exactly one fault, never both
pub record RdataOrFault (b : List ℕ) (layout : Layout) (p : ℕ) : Type 0 where
  pub some : ((q : ℕ) × (parts : List Part) × DataAt b layout p q parts) ⊎ ((f : Fault) × DataFaultAt b layout p f)
  pub one : (q r : ℕ) (xs ys : List Part) → DataAt b layout p q xs → DataAt b layout p r ys → (q ≡ r) × (xs ≡ ys)
  pub not_both : (q : ℕ) (parts : List Part) (f : Fault) → DataAt b layout p q parts → DataFaultAt b layout p f → ⊥
  pub one_fault : (f g : Fault) → DataFaultAt b layout p f → DataFaultAt b layout p g → f ≡ g

-- `RdataOrFault` holds at each offset in all octets, and at their end
abbrev pub OneRdataOrFault : Type 0
OneRdataOrFault = (b : List ℕ) (layout : Layout) (p : ℕ) → p ≤ length b → RdataOrFault b layout p

-- parts that fill the octets from p to an end are there in each layout that they have, if only the octets up to that end are seen
abbrev pub EncodedPartsRead : Type 0
EncodedPartsRead = (b : List ℕ) (end p : ℕ) (layout : Layout) (parts : List Part)
    → end ≤ length b → PartsAt b end p parts → IsLaidOut layout parts → DataAt (take end b) layout p end parts
