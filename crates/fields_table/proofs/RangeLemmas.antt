-- The fields of a record type are among those of the range of its number.
use Rattle.std.proofs.Common.{◌≡◌, ℕ, ◌<◌, ◌≤◌, Bool, true, false, List, [], ◌∷◌, ◌++◌, ap, sym, ◌∙◌, refl, arith}
use Rattle.std.specs.Prelude.{◌==◌, codes, if◌then◌else◌, nat_le, nat_lt}
use Rattle.std.specs.List.{list_all}
use Rattle.std.proofs.lemmas.Bool.{and_parts, leb-true, ltb-true, ltb-false, ne_eqb}
use Rattle.fields_table.specs.declared.kind.Kind.TheVariants.{Opaque}
use Rattle.fields_table.specs.declared.range.TypeRange.TheVariants.{From1, From24, From48, From99}
use Rattle.fields_table.specs.Ranges.{range_of, range_types, types_after, table_types}
use Rattle.fields_table.specs.RecordTypes.{TypeDefinition}
use Rattle.fields_table.specs.Table.{Definition, fields_in}

-- whether all numbers are at least this one
abbrev are_from : ℕ → List TypeDefinition → Bool
are_from least types = list_all (λ type. nat_le least type.number) types

-- whether all numbers are less than this one
abbrev are_below : ℕ → List TypeDefinition → Bool
are_below bound types = list_all (λ type. nat_lt type.number bound) types

-- a type below all numbers has no fields
absent : (types : List TypeDefinition) (least rtype : ℕ) → are_from least types ≡ true → rtype < least → fields_in types rtype ≡ (codes "data", Opaque) ∷ []
absent [] least rtype from below = refl
absent (type ∷ types) least rtype from below =
    let both = and_parts (nat_le least type.number) (are_from least types) from in
    let first = leb-true least type.number both.0 in
    rw (ne_eqb type.number rtype (λ same. omega arith)) (absent types least rtype both.1 below)

-- a type below all later numbers has its fields in the types before them
in_earlier : (types later : List TypeDefinition) (least rtype : ℕ) → are_from least later ≡ true → rtype < least
    → fields_in (types ++ later) rtype ≡ fields_in types rtype
in_earlier [] later least rtype from below = absent later least rtype from below
in_earlier (type ∷ types) later least rtype from below =
    ap (λ (fields : List Definition). if type.number == rtype then type.fields else fields) (in_earlier types later least rtype from below)

-- a type above all earlier numbers has its fields in the types after them
in_later : (types later : List TypeDefinition) (bound rtype : ℕ) → are_below bound types ≡ true → bound ≤ rtype
    → fields_in (types ++ later) rtype ≡ fields_in later rtype
in_later [] later bound rtype below least = refl
in_later (type ∷ types) later bound rtype below least =
    let both = and_parts (nat_lt type.number bound) (are_below bound types) below in
    let first = ltb-true type.number bound both.0 in
    rw (ne_eqb type.number rtype (λ same. omega arith)) (in_later types later bound rtype both.1 least)

-- the numbers in the ranges
from_24 : are_from 24 (types_after From1) ≡ true
unfolding range_types
from_24 = refl

from_48 : are_from 48 (types_after From24) ≡ true
unfolding range_types
from_48 = refl

from_99 : are_from 99 (types_after From48) ≡ true
unfolding range_types
from_99 = refl

below_24 : are_below 24 (range_types From1) ≡ true
unfolding range_types
below_24 = refl

below_48 : are_below 48 (range_types From24) ≡ true
unfolding range_types
below_48 = refl

below_99 : are_below 99 (range_types From48) ≡ true
unfolding range_types
below_99 = refl

-- after the first range, after the second, and after the third
after_24 : (rtype : ℕ) → 24 ≤ rtype → fields_in table_types rtype ≡ fields_in (types_after From1) rtype
after_24 rtype least = in_later (range_types From1) (types_after From1) 24 rtype below_24 least

after_48 : (rtype : ℕ) → 48 ≤ rtype → fields_in table_types rtype ≡ fields_in (types_after From24) rtype
after_48 rtype least = after_24 rtype (omega arith) ∙ in_later (range_types From24) (types_after From24) 48 rtype below_48 least

after_99 : (rtype : ℕ) → 99 ≤ rtype → fields_in table_types rtype ≡ fields_in (types_after From48) rtype
after_99 rtype least = after_48 rtype (omega arith) ∙ in_later (range_types From48) (types_after From48) 99 rtype below_99 least

-- by the tests of `range_of`
by_tests : (rtype : ℕ) (a b c : Bool) → nat_lt rtype 24 ≡ a → nat_lt rtype 48 ≡ b → nat_lt rtype 99 ≡ c
    → fields_in (range_types (if a then From1 else if b then From24 else if c then From48 else From99)) rtype ≡ fields_in table_types rtype
by_tests rtype true b c ea eb ec = sym (in_earlier (range_types From1) (types_after From1) 24 rtype from_24 (ltb-true rtype 24 ea))
by_tests rtype false true c ea eb ec =
    sym (after_24 rtype (ltb-false rtype 24 ea) ∙ in_earlier (range_types From24) (types_after From24) 48 rtype from_48 (ltb-true rtype 48 eb))
by_tests rtype false false true ea eb ec =
    sym (after_48 rtype (ltb-false rtype 48 eb) ∙ in_earlier (range_types From48) (types_after From48) 99 rtype from_99 (ltb-true rtype 99 ec))
by_tests rtype false false false ea eb ec = sym (after_99 rtype (ltb-false rtype 99 ec))

-- The range of a number has the fields of its type.
pub fields_in_range : (rtype : ℕ) → fields_in (range_types (range_of rtype)) rtype ≡ fields_in table_types rtype
fields_in_range rtype = by_tests rtype (nat_lt rtype 24) (nat_lt rtype 48) (nat_lt rtype 99) refl refl refl
