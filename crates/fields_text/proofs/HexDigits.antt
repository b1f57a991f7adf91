-- Hexadecimal digits in several words. RFC 4648 section 8.
use Rattle.std.proofs.Common.{◌≡◌, ◌∙◌, ◌↔◌, ℕ, ◌+◌, ◌%◌, ◌<◌, ◌≤◌, true, false, List, [], ◌++◌, length, get_or, drop, slice_index_or, refl, sym, ap, subst, arith, length-append}
use Rattle.std.specs.Borrow.{Bor}
use Rattle.std.specs.Char.{is_ascii_hexdigit}
use Rattle.std.specs.List.{AllPass, list_all}
use Rattle.std.proofs.lemmas.Bool.{and_from, and_parts, false≢true}
use Rattle.std.proofs.lemmas.List.{drop_all, drop_more}
use Rattle.std.proofs.lemmas.List.Folds.{list_all-append}
use Rattle.std.proofs.lemmas.List.Sums.{AllPass-from_list_all, list_all-from_AllPass}
use Rattle.hex.specs.Hex.{is_hex_digit}
use Rattle.hex.proofs.HexLemmas.{decode_of-digits, decode_of-ok}
use Rattle.fields_text.specs.Octets.{IsHex}
use Rattle.fields_text.specs.JoinedWords.{AreHex, joined}
use Rattle.fields_text.specs.Reading.{HasValue}
use Rattle.fields_text.proofs.HexWords.{same_digits}

-- all are digits, and their number is even if some come before them
abbrev pub AreEven : ℕ → List ℕ → Type 0
AreEven n s = (list_all is_ascii_hexdigit s ≡ true) × ((n + length s) % 2 ≡ 0)

-- Characters are hexadecimal digits of octets exactly if they are an even number of digits.
pub hex_is_even : (s : List ℕ) → HasValue (IsHex s) ↔ AreEven 0 s
hex_is_even s = (
  λ has.
      let parts = decode_of-ok s has.0 has.1 in
      let ascii : AllPass is_ascii_hexdigit s = λ k d h. same_digits (slice_index_or s k d) ∙ parts.1 k d h in
      let size = parts.2 in
      (list_all-from_AllPass is_ascii_hexdigit s ascii, omega arith),
  λ are.
      let ascii = AllPass-from_list_all is_ascii_hexdigit s are.0 in
      let digits : AllPass is_hex_digit s = λ k d h. sym (same_digits (slice_index_or s k d)) ∙ ascii k d h in
      let even = are.1 in
      let decoded = decode_of-digits s (omega arith) digits in
      (decoded.0, decoded.1),
)

module _ (words : List (Bor (List ℕ))) where
  -- The words are digits of octets exactly if the words from an index on are digits, and their number is even with those before.
  abbrev pub AreDigitsLeft : ℕ → ℕ → Type 0
  AreDigitsLeft odd i = HasValue (AreHex words) ↔ AreEven odd (joined (drop i words))

  split_left : (i : ℕ) (d : Bor (List ℕ)) → i < length words → joined (drop i words) ≡ (get_or words i d).now ++ joined (drop (i + 1) words)
  split_left i d lt = ap joined (drop_more words i d lt)

  -- one word of digits
  pub digits_taken : (i odd new : ℕ) (d : Bor (List ℕ)) → i < length words → AreDigitsLeft odd i → list_all is_ascii_hexdigit (get_or words i d).now ≡ true
      → new % 2 ≡ (odd + length (get_or words i d).now) % 2 → AreDigitsLeft new (i + 1)
  digits_taken i odd new d lt left digits parity =
      let word = (get_or words i d).now in
      let rest = joined (drop (i + 1) words) in
      let whole = split_left i d lt in
      let size = ap (λ (s : List ℕ). length s) whole ∙ length-append word rest in
      let all = ap (list_all is_ascii_hexdigit) whole ∙ list_all-append is_ascii_hexdigit word rest in (
        λ has.
            let are = left.0 has in
            let even = are.1 in
            ((and_parts (list_all is_ascii_hexdigit word) (list_all is_ascii_hexdigit rest) (sym all ∙ are.0)).1, omega arith),
        λ are.
            let even = are.1 in
            left.1 (all ∙ and_from (list_all is_ascii_hexdigit word) (list_all is_ascii_hexdigit rest) digits are.0, omega arith),
      )

  -- one word of other characters
  pub digits_refused : (i odd : ℕ) (d : Bor (List ℕ)) → i < length words → AreDigitsLeft odd i → list_all is_ascii_hexdigit (get_or words i d).now ≡ false → ¬ (HasValue (AreHex words))
  digits_refused i odd d lt left others = λ has.
      let word = (get_or words i d).now in
      let rest = joined (drop (i + 1) words) in
      let all = ap (list_all is_ascii_hexdigit) (split_left i d lt) ∙ list_all-append is_ascii_hexdigit word rest in
      false≢true (sym others ∙ (and_parts (list_all is_ascii_hexdigit word) (list_all is_ascii_hexdigit rest) (sym all ∙ (left.0 has).0)).0)

  -- no word is left
  pub no_digits_left : (i odd : ℕ) → length words ≤ i → AreDigitsLeft odd i → (HasValue (AreHex words) → odd % 2 ≡ 0) × (odd % 2 ≡ 0 → HasValue (AreHex words))
  no_digits_left i odd all left =
      let none : joined (drop i words) ≡ [] = ap joined (drop_all i words all) in (
        λ has. let even = (subst (AreEven odd) none (left.0 has)).1 in omega arith,
        λ even. left.1 (subst (AreEven odd) (sym none) (refl, omega arith)),
      )
