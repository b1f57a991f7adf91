-- A text that is cut off has at most so many octets.
use Rattle.std.proofs.Common.{◌≡◌, ℕ, ◌+◌, ◌-◌, ◌≤◌, Bool, true, false, List, [], ◌∷◌, length, nat_lt, ap, refl, arith, length-append}
use Rattle.std.specs.Prelude.{if◌then◌else◌}
use Rattle.std.proofs.lemmas.Bool.{ltb-false}
use Rattle.dnsview_tool.specs.Pages.{ellipsis_text, escaped, escaped_octet, escaped_within, front_within, limits_words, words_limit, words_text}
use Rattle.dnsview_rows.specs.Rows.{row_octets}
use Rattle.dnsview_rows.specs.declared.row.Row.{Row}

-- what fits leaves three octets
front_small : (room : ℕ) (text : List ℕ) → 3 ≤ room → length (escaped (front_within room text)) + 3 ≤ room
front_small room [] some = some
front_small room (octet ∷ text) some =
    let front = escaped_octet octet in
    let rest = front_within (room - length front) text in
    elim (nat_lt room (length front + 3)) as (λ (b : Bool). nat_lt room (length front + 3) ≡ b → length (escaped (if b then [] else octet ∷ rest)) + 3 ≤ room) [
      | true ↦ λ e. some
      | false ↦ λ e.
          let fits = ltb-false room (length front + 3) e in
          let after = front_small (room - length front) text (omega (arith, fits)) in
          omega (arith, fits, after, length-append front (escaped rest))
    ] refl

ellipsis_small : (cut : Bool) → length (ellipsis_text cut) ≤ 3
ellipsis_small true = omega arith
ellipsis_small false = omega arith

-- A text within a limit is no longer than the limit.
pub within_limit : (limit : ℕ) (text : List ℕ) → 3 ≤ limit → length (escaped_within limit text) ≤ limit
within_limit limit text some =
    let front = front_within limit text in
    let cut = nat_lt (length front) (length text) in
    omega (arith, length-append (escaped front) (ellipsis_text cut), front_small limit text some, ellipsis_small cut)

-- The words of a row are no longer than its limit.
pub words_bounded : (brief : Bool) (message : List ℕ) (row : Row) (words : List ℕ) → limits_words brief row ≡ true → length (words_text brief message row words) ≤ words_limit (row_octets message row)
words_bounded brief message row words limited =
    let limit = words_limit (row_octets message row) in
    let text : words_text brief message row words ≡ escaped_within limit words = ap (λ (b : Bool). if b then escaped_within limit words else escaped words) limited in
    omega (arith, within_limit limit words (omega arith), ap length text)
