-- The `id`s of a page of consecutive rows.
use Rattle.std.proofs.Common.{◌≡◌, ◌≢◌, ◌∙◌, ℕ, ◌-◌, ◌^◌, ◌<◌, ◌≤◌, ◌&&◌, ◌==◌, not, Bool, true, false, List, [], ◌∷◌, ◌++◌, length, take, drop, get_or, map}
use Rattle.std.proofs.Common.{filter, slice_range, All, AllPairs, nat_le, ap, refl, sym, subst, inl, inr, arith, append-nil}
use Rattle.std.specs.Prelude.{if◌then◌else◌, cond}
use Rattle.std.specs.Str.Parse.{digits_value, AllDigits}
use Rattle.std.proofs.lemmas.Bool.{cases_lt}
use Rattle.std.proofs.lemmas.Fmt.{decimal_injective, decimal_nonempty, digits_decimal, digits_is_IsNumeral}
use Rattle.std.proofs.lemmas.List.Elements.{All-append, All-cons, All-filter, All-map, All-nil, All-weaker}
use Rattle.std.proofs.lemmas.List.Kept.{AllPairs-cons}
use Rattle.std.proofs.lemmas.Str.Parse.{not_in_digits, numerals_by_value, tells_digits}
use Rattle.dnsview_rows.specs.Rows.{row_octets}
use Rattle.dnsview_rows.specs.Tiles.{Tiles}
use Rattle.dnsview_rows.specs.declared.row.RowKind.{RowKind}
use Rattle.dnsview_rows.specs.declared.row.RowField.{RowField}
use Rattle.dnsview_rows.specs.declared.row.Row.{Row}
use Rattle.dnsview_rows.specs.declared.row.RowKind.TheVariants as kinds
use Rattle.dnsview_rows.specs.declared.row.RowField.TheVariants as fields
use Rattle.dnsview_tool.specs.Digits.{hexadecimal}
use Rattle.dnsview_tool.specs.Joined.{joined, line_row, line_rows, lines, shares_line, with_row, PageLine}
use Rattle.dnsview_tool.specs.Links.{has_octets, linked_rows, page_ids}
use Rattle.dnsview_tool.specs.Pages.{cell_id, field_letter, letter_of, row_id}
use Rattle.dnsview_tool.proofs.PageLines.{line_with}

-- a row before lines that are consecutive
row_tiles : (large : Bool) (row : Row) (after : List PageLine) (start end : ℕ) → row.start ≡ start → start ≤ row.end → Tiles (map line_row after) row.end end
    → Tiles (map line_row (with_row large row after)) start end
row_tiles large row [] start end is order h = (is, order, h)
row_tiles large row (line ∷ after) start end is order h =
    elim (shares_line large row line.first) as (λ (b : Bool). Tiles (map line_row (if b then line_with row (line_rows line) ∷ after else line_with row [] ∷ line ∷ after)) start end) [
      | true ↦ (is, omega (arith, order, h.1), h.2)
      | false ↦ (is, order, h)
    ]

-- Rows that are joined tile the same octets.
pub joined_tiles : (large : Bool) (rows : List Row) (start end : ℕ) → Tiles rows start end → Tiles (joined large rows) start end
joined_tiles large [] start end h = h
joined_tiles large (row ∷ rows) start end h = row_tiles large row (lines large rows) start end h.0 h.1 (joined_tiles large rows row.end end h.2)

-- a text of one letter that is no digit
abbrev IsLetter : List ℕ → Type 0
IsLetter text = (letter : ℕ) × (57 < letter) × (text ≡ letter ∷ [])

field_letters : (field : RowField) → IsLetter (field_letter field)
field_letters fields.Id = (104, omega arith, refl)
field_letters fields.Flags = (104, omega arith, refl)
field_letters (fields.Count _) = (104, omega arith, refl)
field_letters (fields.Item _ _) = (100, omega arith, refl)
field_letters (fields.Label _) = (110, omega arith, refl)
field_letters (fields.Root _ _) = (110, omega arith, refl)
field_letters (fields.Pointer _ _) = (112, omega arith, refl)
field_letters fields.Type = (107, omega arith, refl)
field_letters fields.Class = (107, omega arith, refl)
field_letters fields.Ttl = (107, omega arith, refl)
field_letters fields.RdLength = (107, omega arith, refl)
field_letters fields.Data = (100, omega arith, refl)
field_letters (fields.Named _ _) = (100, omega arith, refl)
field_letters fields.Text = (100, omega arith, refl)
field_letters fields.PayloadSize = (111, omega arith, refl)
field_letters fields.ExtendedRcode = (111, omega arith, refl)
field_letters fields.Version = (111, omega arith, refl)
field_letters fields.OptFlags = (111, omega arith, refl)
field_letters fields.OptionCode = (111, omega arith, refl)
field_letters (fields.OptionLength _) = (111, omega arith, refl)
field_letters (fields.OptionData _) = (111, omega arith, refl)

letters : (kind : RowKind) → IsLetter (letter_of kind)
letters kinds.ShortHeader = (102, omega arith, refl)
letters (kinds.Field field) = field_letters field
letters (kinds.Fault _) = (102, omega arith, refl)
letters kinds.Unread = (102, omega arith, refl)

hexadecimal_value : (n : ℕ) → n < 2 ^ 64 → digits_value 16 (hexadecimal n) ≡ n
hexadecimal_value n small = (digits_is_IsNumeral 16 false (omega arith) (omega arith) n (omega (arith, small))).1

-- the digits of a cell's `id`
id_digits : (row : Row) → drop 1 (cell_id row) ≡ hexadecimal row.start
id_digits row = ap (λ (letter : List ℕ). drop 1 (letter ++ hexadecimal row.start)) (letters row.kind).2

same_cells : (row other : Row) → row.start < 2 ^ 64 → other.start < 2 ^ 64 → cell_id row ≡ cell_id other → row.start ≡ other.start
same_cells row other small bound e =
    sym (hexadecimal_value row.start small) ∙ ap (digits_value 16) (sym (id_digits row) ∙ ap (drop 1) e ∙ id_digits other) ∙ hexadecimal_value other.start bound

same_rows : (row other : Row) → row.start < 2 ^ 64 → other.start < 2 ^ 64 → row_id row ≡ row_id other → row.start ≡ other.start
same_rows row other small bound e = decimal_injective row.start other.start small bound e

-- a cell's `id` is that of no row
cell_is_no_row : (row other : Row) → other.start < 2 ^ 64 → cell_id row ≢ row_id other
cell_is_no_row row other small e =
    let letter = letters row.kind in
    let first : get_or (row_id other) 0 0 ≡ letter.0 = ap (λ (id : List ℕ). get_or id 0 0) (sym e) ∙ ap (λ (front : List ℕ). get_or (front ++ hexadecimal row.start) 0 0) letter.2 in
    let own = numerals_by_value (AllDigits 10) tells_digits in
    not_in_digits own (row_id other) letter.0 (digits_decimal own other.start small) (λ digit. omega (arith, letter.1, digit.1)) 0 (decimal_nonempty other.start small) first

-- a row ends past its start if it has octets
nonempty : (message : List ℕ) (row : Row) → has_octets message row ≡ true → row.start < row.end
nonempty message row some =
    elim (cases_lt row.start row.end) [
      | inl order ↦ order
      | inr past ↦
          let size : row.end - row.start ≡ 0 = omega (arith, past) in
          let none : row_octets message row ≡ [] =
          elim (nat_le row.start row.end && nat_le row.end (length message)) as
          (λ (within : Bool). (if within then slice_range message row.start row.end else []) ≡ []) [ true ↦ ap (λ n. take n (drop row.start message)) size | false ↦ refl ] in
          absurd (cc (sym some ∙ ap (λ (octets : List ℕ). not (length octets == 0)) none))
    ]

tiles_ordered : (rows : List Row) (start end : ℕ) → Tiles rows start end → start ≤ end
tiles_ordered [] start end h = omega (arith, h)
tiles_ordered (row ∷ rows) start end h = omega (arith, h.1, tiles_ordered rows row.end end h.2)

-- a row starts within a range
abbrev StartsWithin : ℕ → ℕ → Row → Type 0
StartsWithin start end row = (start ≤ row.start) × (row.start ≤ end)

-- consecutive rows start within what they cover
tiles_within : (rows : List Row) (start end : ℕ) → Tiles rows start end → All (StartsWithin start end) rows
tiles_within [] start end h = All-nil _
tiles_within (row ∷ rows) start end h =
    let P = StartsWithin start end in
    let past = tiles_ordered rows row.end end h.2 in
    All-cons P row rows (omega (arith, h.0), omega (arith, h.0, h.1, past))
    (All-weaker (StartsWithin row.end end) P (λ row within. (omega (arith, h.1, within.0), within.1)) rows (tiles_within rows row.end end h.2))

-- texts that are all different
abbrev pub AreDifferent : List (List ℕ) → Type 0
AreDifferent texts = AllPairs (λ one other. one ≢ other) texts

none_differ : AreDifferent []
none_differ i j d before within = absurd (omega (arith, within))

-- a text of each row that has octets, where it says where the row starts; these precede texts that are no row's
module _ (message : List ℕ) (text_of : Row → List ℕ) (others : List (List ℕ))
    (same : (row other : Row) → row.start < 2 ^ 64 → other.start < 2 ^ 64 → text_of row ≡ text_of other → row.start ≡ other.start)
    (apart : (row : Row) → row.start < 2 ^ 64 → All (λ other. text_of row ≢ other) others)
    (differ : AreDifferent others) where
  -- the text of a row is that of none after it
  first_differs : (row : Row) (rows : List Row) (end : ℕ) → row.start < row.end → end < 2 ^ 64 → Tiles rows row.end end
      → All (λ other. text_of row ≢ other) (map text_of (filter (has_octets message) rows))
  first_differs row rows end some small h =
      let past = tiles_ordered rows row.end end h in
      let P : Row → Type 0 = λ other. text_of row ≢ text_of other in
      All-map (λ other. text_of row ≢ other) text_of _
      (All-filter (has_octets message) P rows
      (All-weaker (StartsWithin row.end end) P
      (λ other within e. let clash = same row other (omega (arith, some, past, small)) (omega (arith, within.1, small)) e in
      absurd (omega (arith, clash, some, within.0))) rows (tiles_within rows row.end end h)))

  texts_differ : (rows : List Row) (start end : ℕ) → end < 2 ^ 64 → Tiles rows start end → AreDifferent (map text_of (filter (has_octets message) rows) ++ others)
  texts_differ [] start end small h = differ
  texts_differ (row ∷ rows) start end small h =
      let after = texts_differ rows row.end end small h.2 in
      let past = tiles_ordered rows row.end end h.2 in
      let kept = filter (has_octets message) rows in
      let P : List ℕ → Type 0 = λ other. text_of row ≢ other in
      elim (has_octets message row) as (λ (b : Bool). has_octets message row ≡ b → AreDifferent (map text_of (cond b (row ∷ kept) kept) ++ others)) [
        | true ↦ λ e.
            let some = nonempty message row e in
            AllPairs-cons (λ one other. one ≢ other) (text_of row) (map text_of kept ++ others)
            (All-append P (map text_of kept) others (first_differs row rows end some small h.2) (apart row (omega (arith, some, past, small)))) after
        | false ↦ λ e. after
      ] refl

-- No two elements of a page have one ID.
pub ids_differ : (brief : Bool) (message : List ℕ) (rows : List Row) → length message < 2 ^ 64 → Tiles rows 0 (length message) → AreDifferent (page_ids brief message rows)
ids_differ brief message rows small h =
    let lines = joined brief rows in
    let tiles = joined_tiles brief rows 0 (length message) h in
    let kept = linked_rows brief message rows in
    let in_list : AreDifferent (map row_id kept) =
    subst AreDifferent (append-nil (map row_id kept)) (texts_differ message row_id [] same_rows (λ row bound. All-nil _) none_differ lines 0 (length message) small tiles) in
    let apart : (row : Row) → row.start < 2 ^ 64 → All (λ other. cell_id row ≢ other) (map row_id kept) =
    λ row bound.
    All-map (λ other. cell_id row ≢ other) row_id kept
    (All-filter (has_octets message) (λ other. cell_id row ≢ row_id other) lines
    (All-weaker (StartsWithin 0 (length message)) (λ other. cell_id row ≢ row_id other)
    (λ other within. cell_is_no_row row other (omega (arith, within.1, small))) lines (tiles_within lines 0 (length message) tiles))) in
    texts_differ message cell_id (map row_id kept) same_cells apart in_list lines 0 (length message) small tiles
