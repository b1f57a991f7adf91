-- The lines of rows.
use Rattle.std.proofs.Common.{◌≡◌, ◌∙◌, ℕ, ◌+◌, ◌-◌, ◌<◌, ◌≤◌, Bool, true, false, Some, List, [], ◌∷◌, ◌++◌, suc, length, take, drop, get_or, map, slice_get}
use Rattle.std.proofs.Common.{ap, refl, sym, subst, arith, append_assoc, append-nil}
use Rattle.std.specs.Prelude.{if◌then◌else◌}
use Rattle.std.specs.List.{flat_map}
use Rattle.std.proofs.lemmas.List.{at_drop_all, at_drop_more, map-append}
use Rattle.dnsview_rows.specs.declared.row.Row.{Row}
use Rattle.dnsview_tool.specs.declared.joined.Line.{Line}
use Rattle.dnsview_tool.specs.Joined.{last_end, line_of, line_rows, lines, shares_line, with_row, PageLine}

-- a line of a row and the others that share it
abbrev pub line_with : Row → List Row → PageLine
line_with first others = record { first = first; others = others }

row_added : (large : Bool) (row : Row) (after : List PageLine) → flat_map line_rows (with_row large row after) ≡ row ∷ flat_map line_rows after
row_added large row [] = refl
row_added large row (line ∷ after) =
    elim (shares_line large row line.first) as
    (λ (b : Bool). flat_map line_rows (if b then line_with row (line_rows line) ∷ after else line_with row [] ∷ line ∷ after) ≡ row ∷ flat_map line_rows
    (line ∷ after)) [ true ↦ refl | false ↦ refl ]

-- the lines of rows have exactly these rows
pub lines_have_rows : (large : Bool) (rows : List Row) → flat_map line_rows (lines large rows) ≡ rows
lines_have_rows large [] = refl
lines_have_rows large (row ∷ rows) = row_added large row (lines large rows) ∙ ap (λ (l : List Row). row ∷ l) (lines_have_rows large rows)

-- the last of some rows
pub last_is : (first : Row) (others : List Row) (last : Row) → slice_get others (length others - 1) ≡ Some last → last_end first others ≡ last.end
last_is first [] last e = absurd (cc e)
last_is first (row ∷ []) last e = ap (λ (r : Row). r.end) (let same : row ≡ last = cc e in same)
last_is first (row ∷ next ∷ rows) last e =
    let before : length (row ∷ next ∷ rows) - 1 ≡ suc (length (next ∷ rows) - 1) = omega arith in
    let same : slice_get (next ∷ rows) (length (next ∷ rows) - 1) ≡ Some last = subst (λ (n : ℕ). slice_get (row ∷ next ∷ rows) n ≡ Some last) before e in
    last_is row (next ∷ rows) last same

-- how many rows share the line of the row before them
abbrev pub sharing : Bool → Row → List Row → ℕ
sharing large row [] = 0
sharing large row (next ∷ rows) = if shares_line large row next then suc (sharing large next rows) else 0

-- the next row begins a line
pub sharing_none : (large : Bool) (last : Row) (rows : List Row) (i : ℕ) (d : Row) → i < length rows → shares_line large last (get_or rows i d) ≡ false → sharing large last (drop i rows) ≡ 0
sharing_none large last rows i d within e =
    at_drop_more (sharing large last) rows i d within ∙ ap (λ (b : Bool). if b then suc (sharing large (get_or rows i d) (drop (i + 1) rows)) else 0) e

-- no row follows
pub sharing_all : (large : Bool) (last : Row) (rows : List Row) (i : ℕ) → length rows ≤ i → sharing large last (drop i rows) ≡ 0
sharing_all large last rows i past = at_drop_all (sharing large last) rows i past

-- the first line of rows, and the lines of the rows after it
first_line : (large : Bool) (first : Row) (others : List Row)
    → lines large (first ∷ others) ≡ line_with first (take (sharing large first others) others) ∷ lines large (drop (sharing large first others) others)
first_line large first [] = refl
first_line large first (next ∷ rows) =
    let count = sharing large next rows in
    let line = line_with next (take count rows) in
    let left = lines large (drop count rows) in
    let after : lines large (next ∷ rows) ≡ line ∷ left = first_line large next rows in
    let added : (if shares_line large first next then line_with first (line_rows line) ∷ left else line_with first [] ∷ line ∷ left)
    ≡ line_with first (take (if shares_line large first next then suc count else 0) (next ∷ rows)) ∷ lines large (drop (if shares_line large first next then suc count else 0) (next ∷ rows)) =
    elim (shares_line large first next) as (λ (b : Bool). (if b then line_with first (line_rows line) ∷ left else line_with first [] ∷ line ∷ left)
    ≡ line_with first (take (if b then suc count else 0) (next ∷ rows)) ∷ lines large (drop (if b then suc count else 0) (next ∷ rows))) [
      | true ↦ refl
      | false ↦ ap (λ (l : List PageLine). line_with first [] ∷ l) (sym after)
    ] in
    ap (with_row large first) after ∙ added

-- the same, with a number of rows that is found
pub first_line_of : (large : Bool) (first : Row) (others : List Row) (n : ℕ) → n ≡ sharing large first others → lines large (first ∷ others)
    ≡ line_with first (take n others) ∷ lines large (drop n others)
first_line_of large first others n is = subst (λ (k : ℕ). lines large (first ∷ others) ≡ line_with first (take k others) ∷ lines large (drop k others)) (sym is) (first_line large first others)

-- one line more
pub lines_more : (large : Bool) (done more : List Line) (line : Line) (left after : List Row) (all : List PageLine) → more ≡ done ++ line ∷ [] → lines large left ≡ line_of line ∷ lines large after
    → map line_of done ++ lines large left ≡ all → map line_of more ++ lines large after ≡ all
lines_more large done more line left after all pushed first h =
    ap (λ (l : List Line). map line_of l ++ lines large after) pushed ∙ ap (λ (l : List PageLine). l ++ lines large after) (map-append line_of done (line ∷ []))
    ∙ append_assoc (map line_of done) (line_of line ∷ []) (lines large after) ∙ ap (λ (l : List PageLine). map line_of done ++ l) (sym first) ∙ h

-- no row is left
pub lines_done : (large : Bool) (done : List Line) (left : List Row) (all : List PageLine) → length left ≡ 0 → map line_of done ++ lines large left ≡ all → map line_of done ≡ all
lines_done large done [] all none h = sym (append-nil (map line_of done)) ∙ h
lines_done large done (row ∷ left) all none h = absurd (omega (arith, none))
