-- The parts of a page, put together from what is written in order.
use Rattle.std.proofs.Common.{Option, Result, OnOk, ◌≡◌, ◌∙◌, ℕ, ◌+◌, ◌-◌, ◌<◌, ◌&&◌, Bool, true, false, ◌==◌, List, [], ◌∷◌, ◌++◌, length, take, drop}
use Rattle.std.proofs.Common.{slice_range, nat_le, get_or, map, ap, refl, sym, subst, arith, codes, append_assoc, append-nil, length-drop, length-take}
use Rattle.std.specs.Prelude.{if◌then◌else◌}
use Rattle.std.specs.Fmt.{decimal}
use Rattle.std.specs.List.{enumerate_from, flat_map, AllZip}
use Rattle.std.proofs.lemmas.Grind.{flat_map-append}
use Rattle.std.proofs.lemmas.List.Folds.{flat_map-map}
use Rattle.std.proofs.lemmas.List.{take_more}
use Rattle.std.specs.Io.KnownBytes.{Appends}
use Rattle.dnsview_tool.specs.Printable.{are_printable}
use Rattle.dnsview_tool.specs.Printed.{Prints, PrintsEach}
use Rattle.dnsview_rows.specs.declared.row.Row.{Row}
use Rattle.dns_lines.proofs.theory.AppendedTexts.{appends_both, appends_none}
use Rattle.dns_lines.proofs.theory.PrintedLines.{on_ok}
use Rattle.dnsview_tool.proofs.Appended.{appends_same, printed_both, printed_same}
use Rattle.dnsview_rows.specs.Rows.{row_octets}
use Rattle.dnsview_tool.specs.declared.joined.Line.{Line}
use Rattle.dnsview_tool.specs.Joined.{joined, line_of, line_row, line_rows, lines, PageLine}
use Rattle.dnsview_tool.specs.Pages.{arrow_text, cell_text, line_cells, octet_cells, opening_text, part_start, row_cells, row_text, top_text, IsListRow, IsPageOf}

-- one element more, with its index
enumerated_more : (start : ℕ) (xs : List ℕ) (x : ℕ) → enumerate_from start (xs ++ x ∷ []) ≡ enumerate_from start xs ++ (start + length xs, x) ∷ []
enumerated_more start [] x = ap (λ n. (n, x) ∷ []) (omega arith)
enumerated_more start (first ∷ xs) x = ap (λ l. (start, first) ∷ l) (enumerated_more (start + 1) xs x ∙ ap (λ n. enumerate_from (start + 1) xs ++ (n, x) ∷ []) (omega arith))

-- the cell of one octet more
pub cells_more : (message : List ℕ) (line row : Row) (octets : List ℕ) (i : ℕ) → i < length octets
    → octet_cells message line row (take i octets) ++ cell_text message line row (row.start + i, get_or octets i 0) ≡ octet_cells message line row (take (i + 1) octets)
cells_more message line row octets i within =
    let cell = cell_text message line row in
    let start = row.start in
    let octet = get_or octets i 0 in
    let before = enumerate_from start (take i octets) in
    let offset : start + length (take i octets) ≡ start + i = omega (arith, length-take i octets) in
    sym (ap (octet_cells message line row) (take_more octets i 0 within) ∙ ap (flat_map cell) (enumerated_more start (take i octets) octet ∙ ap (λ n. before ++ (n, octet) ∷ []) offset)
    ∙ flat_map-append cell before ((start + i, octet) ∷ []) ∙ ap (λ l. flat_map cell before ++ l) (append-nil (cell (start + i, octet))))

-- the offset of an octet of a row is within the message
pub cell_within : (message : List ℕ) (row : Row) (i : ℕ) → i < length (row_octets message row) → row.start + i < length message
cell_within message row i h =
    let size = length-take (row.end - row.start) (drop row.start message) in
    let left = length-drop row.start message in
    elim (nat_le row.start row.end && nat_le row.end (length message)) as (λ (b : Bool). i < length (if b then slice_range message row.start row.end else []) → row.start + i < length message) [
      | true ↦ λ k. omega (arith, k, size, left)
      | false ↦ λ k. absurd (omega (arith, k))
    ] h

-- the cells of a line, where they are put together as one row
abbrev cells_as : List ℕ → PageLine → Row → List ℕ
cells_as message line row = if length (row_octets message row) == 0 then [] else flat_map (row_cells message row) (line_rows line) ++ codes "</a>"

-- a line without octets has no cells
pub no_cells : (a : Option (List ℕ)) (message : List ℕ) (line : PageLine) (row : Row) → row ≡ line_row line → (length (row_octets message row) == 0) ≡ true → Appends a a (line_cells message line)
no_cells a message line row is none =
    let texts = flat_map (row_cells message row) (line_rows line) ++ codes "</a>" in
    let shown : [] ≡ line_cells message line = sym (ap (λ (b : Bool). if b then [] else texts) none) ∙ ap (cells_as message line) is in
    appends_same a a [] (line_cells message line) shown (appends_none a)

-- the cells of a line are printed: those of its first row, and those of the others
pub line_printed : {X E : Type 0} (r : Result X E) (a b c d : Option (List ℕ)) (message : List ℕ) (line : PageLine) (row : Row) → row ≡ line_row line → (length (row_octets message row) == 0) ≡ false
    → Appends a b (row_cells message row line.first) → Appends b c (flat_map (row_cells message row) line.others) → OnOk r (Appends c d (codes "</a>")) → OnOk r (Appends a d (line_cells message line))
line_printed r a b c d message line row is some first others closed =
    let texts = flat_map (row_cells message row) (line_rows line) ++ codes "</a>" in
    let shown : texts ≡ line_cells message line = sym (ap (λ (b : Bool). if b then [] else texts) some) ∙ ap (cells_as message line) is in
    printed_same a d texts (line_cells message line) r shown
    (printed_both a c d (row_cells message row line.first ++ flat_map (row_cells message row) line.others) (codes "</a>") r (appends_both a b c _ _ first others) closed)

-- four texts that are appended from the last to the first, and from the first to the last
four : (a b c d : List ℕ) → a ++ (b ++ (c ++ d)) ≡ a ++ b ++ c ++ d
four a b c d = simp append_assoc

-- The pieces of an arrow's style are its text.
pub arrow_pieces : (from target : ℕ) → codes " style=--p:" ++ (decimal from ++ (codes "," ++ decimal target)) ≡ arrow_text from target
arrow_pieces from target = four (codes " style=--p:") (decimal from) (codes ",") (decimal target)

-- a line of the list, as one row, is printed after what precedes it
pub list_row_printed : {X E : Type 0} (r : Result X E) (a b c : Option (List ℕ)) (brief : Bool) (message : List ℕ) (line row : Row) (words : List ℕ)
    → row ≡ line → are_printable words ≡ true → Appends a b (part_start row) → OnOk r (Appends b c (row_text brief message row words)) → OnOk r (Prints (IsListRow brief message line) a c)
list_row_printed r a b c brief message line row words is printable before printed =
    subst (λ (shown : Row). OnOk r (Prints (IsListRow brief message shown) a c)) is (on_ok r (λ ends. (_, (words, printable, refl), appends_both a b c _ _ before ends)) printed)

-- texts for items are texts for what they stand for
zip_mapped : {X Y : Type 0} (IsText : Y → List ℕ → Type 0) (f : X → Y) (xs : List X) (texts : List (List ℕ)) → AllZip (λ x. IsText (f x)) xs texts → AllZip IsText (map f xs) texts
zip_mapped IsText f [] [] h = h
zip_mapped IsText f [] (text ∷ texts) h = h
zip_mapped IsText f (x ∷ xs) [] h = h
zip_mapped IsText f (x ∷ xs) (text ∷ texts) h = (h.0, zip_mapped IsText f xs texts h.1)

module _ {X E : Type 0} (r : Result X E) (a b c d e f g : Option (List ℕ)) where
  -- if the parts of a page are appended in order and the last call succeeds, the page is printed
  pub page_printed : (brief : Bool) (message : List ℕ) (rows : List Row) (made : List Line) (title : List ℕ) → map line_of made ≡ lines brief rows
      → are_printable title ≡ true → Appends a b (top_text title) → Appends b c (opening_text rows)
      → Appends c d (flat_map (λ line. line_cells message (line_of line)) made) → Appends d e (codes "\n</div>\n<div class=list>\n<p>")
      → PrintsEach (λ line. IsListRow brief message (line_row (line_of line))) made e f
      → OnOk r (Appends f g (codes "\n</div>\n</main>\n</body>\n</html>\n")) → OnOk r (Prints (IsPageOf brief message rows) a g)
  page_printed brief message rows made title are printable top opened printed closed listed ended =
      let grid : flat_map (λ line. line_cells message (line_of line)) made ≡ flat_map (line_cells message) (lines brief rows) =
      sym (flat_map-map (line_cells message) line_of made) ∙ ap (flat_map (line_cells message)) are in
      let cells : Appends c d (flat_map (line_cells message) (lines brief rows)) = appends_same c d _ _ grid printed in
      let zipped : AllZip (IsListRow brief message) (map line_row (map line_of made)) listed.0 =
      zip_mapped (IsListRow brief message) line_row (map line_of made) listed.0 (zip_mapped (λ line. IsListRow brief message (line_row line)) line_of made listed.0 listed.1) in
      let shown : AllZip (IsListRow brief message) (joined brief rows) listed.0 = subst (λ (l : List PageLine). AllZip (IsListRow brief message) (map line_row l) listed.0) are zipped in
      on_ok r
      (λ ends. (
        _,
        record { title = title; printable = printable; list = listed.0; are_rows = shown; is = refl },
        appends_both a f g _ _ (appends_both a e f _ _ (appends_both a d e _ _ (appends_both a c d _ _ (appends_both a b c _ _ top opened) cells) closed) listed.2) ends,
      )) ended
