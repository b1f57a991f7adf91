-- An iterator over the record types of the table.
use Rattle.std.proofs.Common.{◌≡◌, ℕ, ◌-◌, ◌<◌, ◌≤◌, List, [], ◌∷◌, ◌++◌, Option, Some, None, length, take, drop, get_or, ap, sym, ◌∙◌, refl, arith}
use Rattle.std.proofs.lemmas.List.{append-nil, take_all}
use Rattle.fields_table.specs.declared.range.TypeRange.{TypeRange}
use Rattle.fields_table.specs.declared.range.TypeRange.TheVariants.{From1, From24, From48, From99}
use Rattle.fields_table.specs.Ranges.{later_types, next_range, range_types, types_after}
use Rattle.fields_table.specs.RecordTypes.{TypeDefinition}
use Rattle.fields_table.specs.Table.{Row, type_of, types_in}

-- how many ranges are left
abbrev pub ranges_left : Option TypeRange → ℕ
ranges_left None = 0
ranges_left (Some From1) = 4
ranges_left (Some From24) = 3
ranges_left (Some From48) = 2
ranges_left (Some From99) = 1

next_fewer : (range : TypeRange) → ranges_left (next_range range) < ranges_left (Some range)
next_fewer From1 = omega arith
next_fewer From24 = omega arith
next_fewer From48 = omega arith
next_fewer From99 = omega arith

-- After a range, one range less is left.
pub fewer : (later next : Option TypeRange) (range : TypeRange) → later ≡ Some range → next ≡ next_range range → ranges_left next < ranges_left later
fewer later next range is after = rw (after, is) (next_fewer range)

-- the types after a range are those from the next range on
next_types : (range : TypeRange) → later_types (next_range range) ≡ types_after range
next_types From1 = refl
next_types From24 = refl
next_types From48 = append-nil (range_types From99)
next_types From99 = refl

-- Taking the rows of the next range leaves the same types.
pub taken : (left rows : List Row) (later next : Option TypeRange) (range : TypeRange) (whole : List TypeDefinition) → length left ≡ 0 → later ≡ Some range
    → types_in rows ≡ range_types range → next ≡ next_range range → types_in left ++ later_types later ≡ whole → types_in rows ++ later_types next ≡ whole
taken [] rows later next range whole empty is types after same =
    ap (λ (ts : List TypeDefinition). ts ++ later_types next) types
    ∙ ap (λ (o : Option TypeRange). range_types range ++ later_types o) after
    ∙ ap (λ (ts : List TypeDefinition). range_types range ++ ts) (next_types range)
    ∙ ap later_types (sym is) ∙ same
taken (row ∷ left) rows later next range whole empty is types after same = absurd (omega (arith, empty))

-- Without rows and ranges no types are left.
pub ended : (left : List Row) (later : Option TypeRange) → left ≡ [] → ((range : TypeRange) → later ≡ Some range → ⊥) → types_in left ++ later_types later ≡ []
ended left None empty none = ap (λ (rows : List Row). types_in rows ++ later_types None) empty
ended left (Some range) empty none = absurd (none range refl)

-- No rows are the empty list.
pub no_rows : (rows : List Row) → length rows < 1 → rows ≡ []
no_rows [] few = refl
no_rows (row ∷ rows) few = absurd (omega arith)

-- The first row is the first of the types that are left.
pub first_left : (rows : List Row) (other : Row) (later whole : List TypeDefinition) → types_in rows ++ later ≡ whole → 1 ≤ length rows
    → whole ≡ type_of (get_or rows 0 other) ∷ (types_in (take (length rows - 1) (drop 1 rows)) ++ later)
first_left [] other later whole same some = absurd (omega arith)
first_left (row ∷ rows) other later whole same some =
    let all : take (length (row ∷ rows) - 1) rows ≡ rows = take_all (length (row ∷ rows) - 1) rows (let e : length rows ≤ length (row ∷ rows) - 1 = omega arith in e) in
    sym same ∙ ap (λ (xs : List Row). type_of row ∷ (types_in xs ++ later)) (sym all)
