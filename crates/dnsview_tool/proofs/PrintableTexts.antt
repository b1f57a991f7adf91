-- What names an argument is printable ASCII.
use Rattle.std.proofs.Common.{◌≡◌, ◌∙◌, ℕ, ◌+◌, ◌/◌, ◌%◌, ◌<◌, ◌≤◌, ◌||◌, ◌==◌, Bool, true, false, inl, inr, List, [], ◌∷◌, ◌++◌, All, ap, refl, sym, subst, arith, codes, eqb-true}
use Rattle.std.specs.Prelude.{if◌then◌else◌}
use Rattle.std.specs.Int.{is_in_range}
use Rattle.std.specs.List.{flat_map}
use Rattle.std.proofs.lemmas.Bool.{and_parts, or_cases}
use Rattle.std.proofs.lemmas.List.Elements.{All-head, All-tail}
use Rattle.std.proofs.lemmas.List.Folds.{list_all-append}
use Rattle.fields_text.specs.String.{backslash, decimal_text, quote, quoted, string_octet}
use Rattle.dnsview_tool.specs.Failures.{IsFailureText}
use Rattle.dnsview_tool.specs.Printable.{are_lines, are_printable, is_printable}
use Rattle.dnsview_tool.proofs.Printables.{both_true, printable_number}

abbrev in_line : ℕ → Bool
in_line octet = is_printable octet || (octet == 10)

lines_both : (xs ys : List ℕ) → are_lines xs ≡ true → are_lines ys ≡ true → are_lines (xs ++ ys) ≡ true
lines_both xs ys h k = list_all-append in_line xs ys ∙ both_true (are_lines xs) (are_lines ys) h k

-- a printable octet in a line
printable_in_line : (o : ℕ) → is_printable o ≡ true → in_line o ≡ true
printable_in_line o e = ap (λ b. b || (o == 10)) e

-- an octet after a backslash
escaped_in_line : (o : ℕ) → ((o == quote) || (o == backslash)) ≡ true → are_lines (backslash ∷ o ∷ []) ≡ true
escaped_in_line o e =
    elim (or_cases (o == quote) (o == backslash) e) [
      | inl q ↦ subst (λ (n : ℕ). are_lines (backslash ∷ n ∷ []) ≡ true) (sym (eqb-true o quote q)) refl
      | inr q ↦ subst (λ (n : ℕ). are_lines (backslash ∷ n ∷ []) ≡ true) (sym (eqb-true o backslash q)) refl
    ]

digit_in_line : (n : ℕ) → n ≤ 9 → in_line (48 + n) ≡ true
digit_in_line n h = printable_in_line (48 + n) (printable_number (48 + n) (omega arith) (omega (arith, h)))

decimal_in_line : (o : ℕ) → o < 256 → are_lines (decimal_text o) ≡ true
decimal_in_line o h =
    both_true (in_line backslash) _ refl
    (both_true (in_line (48 + o / 100)) _ (digit_in_line (o / 100) (omega (arith, h)))
    (both_true (in_line (48 + o / 10 % 10)) _ (digit_in_line (o / 10 % 10) (omega arith)) (both_true (in_line (48 + o % 10)) true (digit_in_line (o % 10) (omega arith)) refl)))

octet_in_line : (o : ℕ) → o < 256 → are_lines (string_octet o) ≡ true
octet_in_line o h =
    let others = if is_in_range 0x20 0x7e o then o ∷ [] else decimal_text o in
    elim ((o == quote) || (o == backslash)) as (λ (b : Bool). ((o == quote) || (o == backslash)) ≡ b → are_lines (if b then backslash ∷ o ∷ [] else others) ≡ true) [
      | true ↦ λ e. escaped_in_line o e
      | false ↦ λ e.
          elim (is_in_range 0x20 0x7e o) as (λ (r : Bool). is_in_range 0x20 0x7e o ≡ r → are_lines (if r then o ∷ [] else decimal_text o) ≡ true) [
            | true ↦ λ p. both_true (in_line o) true (printable_in_line o p) refl
            | false ↦ λ p. decimal_in_line o h
          ] refl
    ] refl

octets_in_line : (octets : List ℕ) → All (λ o. o < 256) octets → are_lines (flat_map string_octet octets) ≡ true
octets_in_line [] h = refl
octets_in_line (o ∷ octets) h =
    let P : ℕ → Type 0 = λ n. n < 256 in
    lines_both (string_octet o) (flat_map string_octet octets) (octet_in_line o (All-head P o octets h)) (octets_in_line octets (All-tail P o octets h))

-- octets in quotation marks
quoted_in_line : (octets : List ℕ) → All (λ o. o < 256) octets → are_lines (quoted octets) ≡ true
quoted_in_line octets h = lines_both (quote ∷ flat_map string_octet octets) (quote ∷ []) (octets_in_line octets h) refl

-- the line that names an argument
pub named_in_line : (octets : List ℕ) → All (λ o. o < 256) octets → are_lines (codes "dnsview: unexpected argument " ++ quoted octets ++ codes "\n") ≡ true
named_in_line octets h =
    lines_both (codes "dnsview: unexpected argument " ++ quoted octets) (codes "\n") (lines_both (codes "dnsview: unexpected argument ") (quoted octets) refl (quoted_in_line octets h)) refl

-- printable words are in a line
words_in_line : (words : List ℕ) → are_printable words ≡ true → are_lines words ≡ true
words_in_line [] h = refl
words_in_line (o ∷ words) h =
    let parts = and_parts (is_printable o) (are_printable words) h in
    both_true (in_line o) (are_lines words) (printable_in_line o parts.0) (words_in_line words parts.1)

-- the line for a file that can't be opened
pub unopened_in_line : (file text : List ℕ) → All (λ o. o < 256) file → IsFailureText (codes "can't open " ++ quoted file) text → are_lines text ≡ true
unopened_in_line file text h is =
    let what = codes "can't open " ++ quoted file in
    let opening : are_lines what ≡ true = lines_both (codes "can't open ") (quoted file) refl (quoted_in_line file h) in
    let before : are_lines (codes "dnsview: " ++ what ++ codes ": ") ≡ true =
    lines_both (codes "dnsview: " ++ what) (codes ": ") (lines_both (codes "dnsview: ") what refl opening) refl
    in
    let line = codes "dnsview: " ++ what ++ codes ": " ++ is.0 in
    ap are_lines is.2 ∙ lines_both line (10 ∷ []) (lines_both (codes "dnsview: " ++ what ++ codes ": ") is.0 before (words_in_line is.0 is.1)) refl
