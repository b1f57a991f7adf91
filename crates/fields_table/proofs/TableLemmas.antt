-- A binary search of the table finds the fields of a record type.
use Rattle.std.proofs.Common.{◌≡◌, ℕ, zero, suc, ◌+◌, ◌<◌, ◌≤◌, true, List, [], ◌∷◌, length, take, drop, get_or, length-drop, ◌-◌, ap, refl, arith}
use Rattle.std.specs.Prelude.{◌==◌, nat_le, codes, if◌then◌else◌}
use Rattle.std.proofs.lemmas.List.{take_all}
use Rattle.std.proofs.lemmas.Bool.{leb-true, le-leb, and_parts, and_from, eq-eqb, ne_eqb}
use Rattle.fields_table.specs.declared.kind.Kind.TheVariants.{Opaque}
use Rattle.fields_table.specs.Table.{Row, Definition, definitions, types_in, fields_in, are_above}

above : (rows : List Row) (least i : ℕ) (other : Row) → are_above least rows ≡ true → i < length rows → least ≤ (get_or rows i other).0
above [] least i other up l = absurd (omega arith)
above (row ∷ rows) least zero other up l = leb-true least row.0 (and_parts (nat_le least row.0) (are_above (row.0 + 1) rows) up).0
above (row ∷ rows) least (suc i) other up l =
    let both = and_parts (nat_le least row.0) (are_above (row.0 + 1) rows) up in
    let first = leb-true least row.0 both.0 in
    let rest = above rows (row.0 + 1) i other both.1 (omega arith) in
    omega arith

lower : (rows : List Row) (least below : ℕ) → are_above least rows ≡ true → below ≤ least → are_above below rows ≡ true
lower [] least below up l = refl
lower (row ∷ rows) least below up l =
    let both = and_parts (nat_le least row.0) (are_above (row.0 + 1) rows) up in
    let first = leb-true least row.0 both.0 in
    and_from (nat_le below row.0) (are_above (row.0 + 1) rows) (le-leb below row.0 (omega arith)) both.1

-- The first rows of a sorted table are sorted.
pub take_above : (rows : List Row) (least n : ℕ) → are_above least rows ≡ true → are_above least (take n rows) ≡ true
take_above rows least zero up = refl
take_above [] least (suc n) up = refl
take_above (row ∷ rows) least (suc n) up =
    let both = and_parts (nat_le least row.0) (are_above (row.0 + 1) rows) up in
    and_from (nat_le least row.0) (are_above (row.0 + 1) (take n rows)) both.0 (take_above rows (row.0 + 1) n both.1)

-- The last rows of a sorted table are sorted.
pub drop_above : (rows : List Row) (least n : ℕ) → are_above least rows ≡ true → are_above least (drop n rows) ≡ true
drop_above rows least zero up = up
drop_above [] least (suc n) up = refl
drop_above (row ∷ rows) least (suc n) up =
    let both = and_parts (nat_le least row.0) (are_above (row.0 + 1) rows) up in
    let first = leb-true least row.0 both.0 in
    lower (drop n rows) (row.0 + 1) least (drop_above rows (row.0 + 1) n both.1) (omega arith)

-- the row with this number has its fields
pub found : (rows : List Row) (least i : ℕ) (other : Row) (rtype : ℕ) → are_above least rows ≡ true → i < length rows → (get_or rows i other).0 ≡ rtype
    → fields_in (types_in rows) rtype ≡ definitions (get_or rows i other).2.now
found [] least i other rtype up l e = absurd (omega arith)
found (row ∷ rows) least zero other rtype up l e = rw (eq-eqb row.0 rtype e) refl
found (row ∷ rows) least (suc i) other rtype up l e =
    let both = and_parts (nat_le least row.0) (are_above (row.0 + 1) rows) up in
    let next = above rows (row.0 + 1) i other both.1 (omega arith) in
    rw (ne_eqb row.0 rtype (λ same. omega arith)) (found rows (row.0 + 1) i other rtype both.1 (omega arith) e)

-- a type below all rows has none
absent : (rows : List Row) (least rtype : ℕ) → are_above least rows ≡ true → rtype < least → fields_in (types_in rows) rtype ≡ (codes "data", Opaque) ∷ []
absent [] least rtype up l = refl
absent (row ∷ rows) least rtype up l =
    let both = and_parts (nat_le least row.0) (are_above (row.0 + 1) rows) up in
    let first = leb-true least row.0 both.0 in
    rw (ne_eqb row.0 rtype (λ same. omega arith)) (absent rows (row.0 + 1) rtype both.1 (omega arith))

-- a type below a row has its row before that row
pub before : (rows : List Row) (least i : ℕ) (other : Row) (rtype : ℕ) → are_above least rows ≡ true → i < length rows → rtype < (get_or rows i other).0
    → fields_in (types_in rows) rtype ≡ fields_in (types_in (take i rows)) rtype
before [] least i other rtype up l below = absurd (omega arith)
before (row ∷ rows) least zero other rtype up l below =
    let both = and_parts (nat_le least row.0) (are_above (row.0 + 1) rows) up in
    absent (row ∷ rows) row.0 rtype (and_from (nat_le row.0 row.0) (are_above (row.0 + 1) rows) (le-leb row.0 row.0 (omega arith)) both.1) below
before (row ∷ rows) least (suc i) other rtype up l below =
    let both = and_parts (nat_le least row.0) (are_above (row.0 + 1) rows) up in
    ap (λ (x : List Definition). if row.0 == rtype then definitions row.2.now else x) (before rows (row.0 + 1) i other rtype both.1 (omega arith) below)

-- a type above a row has its row after that row
pub later : (rows : List Row) (least i : ℕ) (other : Row) (rtype : ℕ) → are_above least rows ≡ true → i < length rows → (get_or rows i other).0 < rtype
    → fields_in (types_in rows) rtype ≡ fields_in (types_in (drop (suc i) rows)) rtype
later [] least i other rtype up l over = absurd (omega arith)
later (row ∷ rows) least zero other rtype up l over = rw (ne_eqb row.0 rtype (λ same. omega arith)) refl
later (row ∷ rows) least (suc i) other rtype up l over =
    let both = and_parts (nat_le least row.0) (are_above (row.0 + 1) rows) up in
    let next = above rows (row.0 + 1) i other both.1 (omega arith) in
    rw (ne_eqb row.0 rtype (λ same. omega arith)) (later rows (row.0 + 1) i other rtype both.1 (omega arith) over)

-- the rows after the first k
pub rest_is : (rows : List Row) (k : ℕ) → take (length rows - k) (drop k rows) ≡ drop k rows
rest_is rows k = take_all (length rows - k) (drop k rows) (omega (arith, length-drop k rows))
