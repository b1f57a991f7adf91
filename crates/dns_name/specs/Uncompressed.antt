-- Octets that are exactly one uncompressed name. RFC 1035 section 3.1.
use Rattle.std.specs.Prelude.{◌≡◌, ℕ, ◌+◌, ◌<◌, List, length, Ok}
use Rattle.std.proofs.Props.{props}
use Rattle.dns_octets.specs.declared.error.TheConstants.FormError.{BAD_POINTER, LONG_NAME}
use Rattle.dns_name.specs.Names.{Fault, Labels, IsName, uncompressed, head_at, LabelsTo, SkipFaultAt}
use Rattle.dns_name.specs.Names.Fault.{Form}
use Rattle.dns_name.specs.declared.head.Head.TheVariants.{Root, Pointer}
use Rattle.dns_name.specs.Unique.{EncodedName, EncodedName-prop}

-- The octets are the uncompressed octets of a name.
abbrev pub IsUncompressed : List ℕ → Type 0
IsUncompressed b = (name : Labels) × IsName name × (uncompressed name ≡ b)

-- Why octets aren't one uncompressed name.
pub data NotUncompressed (b : List ℕ) : Fault → Type 0 where
  -- Skipping a name fails.
  fault : {f : Fault} → SkipFaultAt b 0 f → NotUncompressed b f
  -- A pointer follows the labels.
  pointer : {q t : ℕ} → LabelsTo b 0 0 q q → head_at b q ≡ Ok (Pointer t) → NotUncompressed b (Form BAD_POINTER)
  -- Octets follow the root label.
  followed : {q : ℕ} → LabelsTo b 0 0 q q → head_at b q ≡ Ok Root → q + 1 < length b → NotUncompressed b (Form LONG_NAME)

-- The name that is encoded at offset 0 without pointers and takes all of the octets.
abbrev pub WholeName : List ℕ → Type 0
WholeName b = (name : EncodedName b 0) × (uncompressed name.0 ≡ b)

pub WholeName-prop : (b : List ℕ) → IsProp (WholeName b)
WholeName-prop b = hlevel (props, EncodedName-prop b {p = 0})
