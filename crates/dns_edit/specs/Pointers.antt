-- Names whose pointers lead to labels of earlier names. RFC 1035 section 4.1.4: a pointer is "to a prior occurrence of the same name".
--
-- `b` is the octets of the message, and `names` the offsets of the earlier names: of questions, owners and RDATA.
use Rattle.std.specs.Prelude.{◌≡◌, ℕ, ◌+◌, ◌<◌, ◌⊎◌, List, [], ◌∷◌, Ok}
use Rattle.dns_name.specs.Names.{head_at, NameEndsAt, SkipFaultAt, fault_of}
use Rattle.dns_name.specs.declared.head.Head.TheVariants.{Label, Pointer}
use Rattle.dns_edit.specs.declared.error.EditError.{EditError}
use Rattle.dns_edit.specs.declared.error.EditError.TheVariants as errors

-- A label of the name encoded at offset p begins at offset t.
pub data LabelOf (b : List ℕ) : ℕ → ℕ → Type 0 where
  first : {p n : ℕ} → head_at b p ≡ Ok (Label n) → LabelOf b p p
  later : {p n t : ℕ} → head_at b p ≡ Ok (Label n) → LabelOf b (p + 1 + n) t → LabelOf b p t

-- A label of one of these names begins at offset t.
abbrev pub LabelOfAny : List ℕ → List ℕ → ℕ → Type 0
LabelOfAny b [] t = ⊥
LabelOfAny b (p ∷ names) t = LabelOf b p t ⊎ LabelOfAny b names t

-- The encoding of the name at offset p ends with a pointer to offset t.
pub data PointsTo (b : List ℕ) : ℕ → ℕ → Type 0 where
  pointer : {p t : ℕ} → head_at b p ≡ Ok (Pointer t) → PointsTo b p t
  label : {p n t : ℕ} → head_at b p ≡ Ok (Label n) → PointsTo b (p + 1 + n) t → PointsTo b p t

-- Offset t is before offset p, and a label of one of the names begins there.
abbrev pub IsLabelBefore : List ℕ → List ℕ → ℕ → ℕ → Type 0
IsLabelBefore b names p t = (t < p) × LabelOfAny b names t

-- The name encoded from p to q is accepted: its pointer, if it has one, leads back to a label of an earlier name. `after` is the earlier names and this one.
pub record AcceptsName (b names : List ℕ) (p q : ℕ) (after : List ℕ) : Type 0 where
  pub ends : NameEndsAt b p q
  pub back : (t : ℕ) → PointsTo b p t → IsLabelBefore b names p t
  pub added : after ≡ p ∷ names

-- The name at offset p is refused with this error: it can't be skipped, or its pointer leads to no label of an earlier name.
abbrev pub RefusesName : List ℕ → List ℕ → ℕ → EditError → Type 0
RefusesName b names p (errors.Parse e) = SkipFaultAt b p (fault_of e)
RefusesName b names p errors.Pointer = (q t : ℕ) × NameEndsAt b p q × PointsTo b p t × (IsLabelBefore b names p t → ⊥)
RefusesName b names p errors.NotLast = ⊥
RefusesName b names p errors.OptionLength = ⊥
