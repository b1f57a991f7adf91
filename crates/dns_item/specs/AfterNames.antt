-- Fields that follow a name, as those of questions and records do. RFC 1035 sections 4.1.2 and 4.1.3.
--
-- `b` is the octets that are seen. `size` is the number of octets of the fields after a name that ends at a given offset, and `Lacks` says that they aren't all there.
use Rattle.std.specs.Prelude.{◌≡◌, ℕ, ◌+◌, ◌≤◌, List, length}
use Rattle.dns_name.specs.Names.{Fault, Labels, NameAt, FaultAt, NameEndsAt, SkipFaultAt}
use Rattle.dns_name.specs.Names.Fault.{ShortInput}

-- the encoded name and the fields after it take the octets from p to q
pub record SkipsFields (b : List ℕ) (size : ℕ → ℕ) (p q : ℕ) : Type 0 where
  pub name_end : ℕ
  pub name_ends : NameEndsAt b p name_end
  pub end : q ≡ name_end + size name_end
  pub within : q ≤ length b

-- Why a name and its fields can't be read at p: the name has a fault, or the octets after the name aren't all there.
pub data FieldsFaultAt (b : List ℕ) (Lacks : ℕ → Type 0) (p : ℕ) : Fault → Type 0 where
  name : {f : Fault} → FaultAt b p f → FieldsFaultAt b Lacks p f
  short : {name : Labels} {r : ℕ} → NameAt b p name → NameEndsAt b p r → Lacks r → FieldsFaultAt b Lacks p ShortInput

-- why they can't be skipped at p; pointers are not followed
pub data FieldsSkipFaultAt (b : List ℕ) (Lacks : ℕ → Type 0) (p : ℕ) : Fault → Type 0 where
  name : {f : Fault} → SkipFaultAt b p f → FieldsSkipFaultAt b Lacks p f
  short : {r : ℕ} → NameEndsAt b p r → Lacks r → FieldsSkipFaultAt b Lacks p ShortInput
