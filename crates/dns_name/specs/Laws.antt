-- Theorems over all octets and offsets, and over all names.
use Rattle.std.specs.Prelude.{◌≡◌, ◌↔◌, ℕ, ◌⊎◌, List, Result, Ok, Err, IsOk, IsErrAnd}
use Rattle.std.specs.Cmp.{IsTotalOrder}
use Rattle.std.specs.declared.cmp.Ordering.TheVariants.{Equal}
use Rattle.dns_name.specs.Names.{Fault, fault_of, Labels, IsName, lowered, NameAt, FaultAt, NameEndsAt, SkipFaultAt}
use Rattle.dns_name.specs.NameOrders.{name_order, composed_order, name_hash_input}
use Rattle.dns_name.specs.Parsers.{offset}
use Rattle.dns_name.specs.ParsedName.{ParsesName, SkipsName}
use Rattle.dns_octets.specs.declared.error.ParseError.{ParseError}
use Rattle.dns_name.specs.declared.parser.Parser.{Parser}
use Rattle.dns_name.specs.declared.parsed_name.ParsedName.{ParsedName}

-- At each offset a name is encoded, or reading fails.
abbrev pub NameOrFault : Type 0
NameOrFault = (b : List ℕ) (p : ℕ) → ((name : Labels) × NameAt b p name) ⊎ ((f : Fault) × FaultAt b p f)

-- Never both.
abbrev pub NameOrFaultNotBoth : Type 0
NameOrFaultNotBoth = (b : List ℕ) (p : ℕ) (name : Labels) (f : Fault) → NameAt b p name → FaultAt b p f → ⊥

-- At most one name is encoded at an offset.
abbrev pub OneName : Type 0
OneName = (b : List ℕ) (p : ℕ) (m n : Labels) → NameAt b p m → NameAt b p n → m ≡ n

-- At most one fault is that of reading at an offset.
abbrev pub OneFault : Type 0
OneFault = (b : List ℕ) (p : ℕ) (f g : Fault) → FaultAt b p f → FaultAt b p g → f ≡ g

-- An encoded name satisfies `IsName`: its labels have 1 to 63 octets, and take at most 254 octets, each with its length octet.
abbrev pub EncodedNamesAreNames : Type 0
EncodedNamesAreNames = (b : List ℕ) (p : ℕ) (name : Labels) → NameAt b p name → IsName name

-- At each offset the encoding of a name has an end, or skipping fails.
abbrev pub EndOrSkipFault : Type 0
EndOrSkipFault = (b : List ℕ) (p : ℕ) → ((q : ℕ) × NameEndsAt b p q) ⊎ ((f : Fault) × SkipFaultAt b p f)

-- Never both.
abbrev pub EndOrSkipFaultNotBoth : Type 0
EndOrSkipFaultNotBoth = (b : List ℕ) (p q : ℕ) (f : Fault) → NameEndsAt b p q → SkipFaultAt b p f → ⊥

-- The encoding at an offset has at most one end.
abbrev pub OneEnd : Type 0
OneEnd = (b : List ℕ) (p q r : ℕ) → NameEndsAt b p q → NameEndsAt b p r → q ≡ r

-- The encoding of a name has an end.
abbrev pub EncodedNamesEnd : Type 0
EncodedNamesEnd = (b : List ℕ) (p : ℕ) (name : Labels) → NameAt b p name → (q : ℕ) × NameEndsAt b p q

-- If skipping fails, reading fails with the same fault.
abbrev pub SkipFaultsAreFaults : Type 0
SkipFaultsAreFaults = (b : List ℕ) (p : ℕ) (f : Fault) → SkipFaultAt b p f → FaultAt b p f

-- If parsing yields a name, skipping ends at the same offset.
abbrev pub SkippingEndsAlike : Type 0
SkippingEndsAlike = (old parsed skipped : Parser) (name : ParsedName) (r : Result Unit ParseError)
    → ParsesName old parsed (Ok name) → SkipsName old skipped r → IsOk r × (offset skipped ≡ offset parsed)

-- If skipping fails, parsing fails with the same fault.
abbrev pub SkippingFailsAlike : Type 0
SkippingFailsAlike = (old parsed skipped : Parser) (e : ParseError) (r : Result ParsedName ParseError)
    → SkipsName old skipped (Err e) → ParsesName old parsed r → IsErrAnd r (λ f. fault_of f ≡ fault_of e)

-- The order of names from the root is total.
abbrev pub NameOrderIsTotal : Type 0
NameOrderIsTotal = IsTotalOrder name_order

-- The order of their uncompressed octets is total.
abbrev pub ComposedOrderIsTotal : Type 0
ComposedOrderIsTotal = IsTotalOrder composed_order

-- `name_order` is `Equal` exactly for names that are equal ignoring ASCII case.
abbrev pub NameOrderAgrees : Type 0
NameOrderAgrees = (m n : Labels) → (name_order m n ≡ Equal) ↔ (lowered m ≡ lowered n)

-- `composed_order` is `Equal` exactly for names that are equal ignoring ASCII case.
abbrev pub ComposedOrderAgrees : Type 0
ComposedOrderAgrees = (m n : Labels) → (composed_order m n ≡ Equal) ↔ (lowered m ≡ lowered n)

-- Equal names hash alike.
abbrev pub EqualNamesHashAlike : Type 0
EqualNamesHashAlike = (m n : Labels) → lowered m ≡ lowered n → name_hash_input m ≡ name_hash_input n
