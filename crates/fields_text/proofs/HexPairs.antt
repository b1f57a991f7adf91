-- The octets of pairs of hexadecimal digits. RFC 4648 section 8.
use Rattle.std.proofs.Common.{◌≡◌, ◌∙◌, ℕ, ◌+◌, ◌*◌, ◌%◌, ◌<◌, List, [], ◌∷◌, ◌++◌, length, get_or, refl, sym, ap, arith, length-append}
use Rattle.std.specs.Prelude.{Option, Some, None, Result, Ok, Err}
use Rattle.hex.specs.Hex.{decode_pairs, decode_sized, digit_or_error, hex_digit_value, pair_value, ◌>>=◌}
use Rattle.hex.specs.declared.error.FromHexError.{FromHexError}
use Rattle.hex.proofs.HexLemmas.{decode_of-even, decode_of-ok, decode_sized-twice}
use Rattle.hex.proofs.Pairs.{cons_byte, decode_pairs-err_pair, decode_pairs-ok_pair}
use Rattle.fields_text.specs.Octets.{IsHex}

-- the octet of two digits, or the error at their index
abbrev pair_of : ℕ → ℕ → ℕ → Option ℕ → Option ℕ → Result ℕ FromHexError
pair_of high low i a b = digit_or_error high i a >>= (λ h. digit_or_error low (i + 1) b >>= (λ l. Ok (h * 16 + l)))

moved : (high low i j octet : ℕ) (a b : Option ℕ) → pair_of high low i a b ≡ Ok octet → pair_of high low j a b ≡ Ok octet
moved high low i j octet (Some h) (Some l) e = e
moved high low i j octet (Some h) None e = absurd (cc e)
moved high low i j octet None b e = absurd (cc e)

-- the first octet of digits, and the others
pub record IsFirstOctet (i high low : ℕ) (rest bytes : List ℕ) : Type 0 where
  pub octet : ℕ
  pub others : List ℕ
  pub first : pair_value high low i ≡ Ok octet
  pub after : decode_pairs (i + 2) rest ≡ Ok others
  pub whole : bytes ≡ octet ∷ others

module _ (i high low : ℕ) (rest bytes : List ℕ) (decoded : decode_pairs i (high ∷ low ∷ rest) ≡ Ok bytes) where
  by_rest : (octet : ℕ) (r : Result (List ℕ) FromHexError) → pair_value high low i ≡ Ok octet → decode_pairs (i + 2) rest ≡ r → cons_byte octet r ≡ Ok bytes → IsFirstOctet i high low rest bytes
  by_rest octet (Ok others) first after is = record { octet = octet; others = others; first = first; after = after; whole = (let e = is in cc e) }
  by_rest octet (Err f) first after is = absurd (cc is)

  by_pair : (r : Result ℕ FromHexError) → pair_value high low i ≡ r → IsFirstOctet i high low rest bytes
  by_pair (Ok octet) first = by_rest octet (decode_pairs (i + 2) rest) first refl (sym (decode_pairs-ok_pair i high low octet rest first) ∙ decoded)
  by_pair (Err f) first = absurd (cc (sym (decode_pairs-err_pair i high low f rest first) ∙ decoded))

  first_octet : IsFirstOctet i high low rest bytes
  first_octet = by_pair (pair_value high low i) refl

-- the index is only that of errors
pairs_moved : (i j : ℕ) (s bytes : List ℕ) → decode_pairs i s ≡ Ok bytes → decode_pairs j s ≡ Ok bytes
unfolding decode_pairs
pairs_moved i j [] bytes h = h
pairs_moved i j (high ∷ []) bytes h = absurd (cc h)
pairs_moved i j (high ∷ low ∷ rest) bytes h =
    let f = first_octet i high low rest bytes h in
    let pair : pair_value high low j ≡ Ok f.octet = moved high low i j f.octet (hex_digit_value high) (hex_digit_value low) f.first in
    decode_pairs-ok_pair j high low f.octet rest pair
    ∙ ap (cons_byte f.octet) (pairs_moved (i + 2) (j + 2) rest f.others f.after)
    ∙ sym (ap (λ (xs : List ℕ). Ok xs) f.whole)

as_pairs : (s octets : List ℕ) → IsHex s octets → decode_pairs 0 s ≡ Ok octets
as_pairs s octets is = sym (decode_of-even s (decode_of-ok s octets is).0) ∙ is

of_pairs : (i : ℕ) (s octets : List ℕ) → length s % 2 ≡ 0 → decode_pairs i s ≡ Ok octets → IsHex s octets
of_pairs i s octets even h = decode_of-even s even ∙ pairs_moved i 0 s octets h

-- No digits are no octets.
pub no_digits : IsHex [] []
unfolding decode_pairs
no_digits = refl

one_pair : (high low octet : ℕ) → pair_value high low 0 ≡ Ok octet → IsHex (high ∷ low ∷ []) (octet ∷ [])
unfolding decode_pairs
one_pair high low octet first = decode_of-even (high ∷ low ∷ []) refl ∙ decode_pairs-ok_pair 0 high low octet [] first

-- the octet of two digits, and the octets of the digits after them
pub record AreSplit (high low : ℕ) (after all : List ℕ) : Type 0 where
  pub octet : ℕ
  pub others : List ℕ
  pub first : IsHex (high ∷ low ∷ []) (octet ∷ [])
  pub rest : IsHex after others
  pub whole : all ≡ octet ∷ others

-- Two digits and others represent the octet of the two and those of the others.
pub split_pair : (high low : ℕ) (after all : List ℕ) → IsHex (high ∷ low ∷ after) all → AreSplit high low after all
split_pair high low after all is =
    let even : length (high ∷ low ∷ after) % 2 ≡ 0 = (decode_of-ok (high ∷ low ∷ after) all is).0 in
    let f = first_octet 0 high low after all (as_pairs (high ∷ low ∷ after) all is) in
    record { octet = f.octet; others = f.others; first = one_pair high low f.octet f.first; rest = of_pairs 2 after f.others (omega arith) f.after; whole = f.whole }

-- The octet of two digits and the octets of others are those of all.
pub join_pair : (high low octet : ℕ) (after others : List ℕ) → IsHex (high ∷ low ∷ []) (octet ∷ []) → IsHex after others → IsHex (high ∷ low ∷ after) (octet ∷ others)
join_pair high low octet after others is rest =
    let f = first_octet 0 high low [] (octet ∷ []) (as_pairs (high ∷ low ∷ []) (octet ∷ []) is) in
    let same : f.octet ≡ octet = (let e = f.whole in cc e) in
    let pair : pair_value high low 0 ≡ Ok octet = f.first ∙ ap (λ (v : ℕ). Ok v) same in
    let even : length after % 2 ≡ 0 = (decode_of-ok after others rest).0 in
    decode_of-even (high ∷ low ∷ after) (omega arith)
    ∙ decode_pairs-ok_pair 0 high low octet after pair
    ∙ ap (cons_byte octet) (pairs_moved 0 2 after others (as_pairs after others rest))

-- two digits that are decoded into room for an octet
module _ (high low : ℕ) where
  only : (octets : List ℕ) → IsHex (high ∷ low ∷ []) octets → length octets ≡ 1 → IsHex (high ∷ low ∷ []) (get_or octets 0 0 ∷ [])
  only [] is size = absurd (omega arith)
  only (octet ∷ []) is size = is
  only (octet ∷ next ∷ octets) is size = absurd (omega arith)

  pair_size : (octets : List ℕ) → IsHex (high ∷ low ∷ []) octets → length octets ≡ 1
  pair_size octets is =
      let size : length (high ∷ low ∷ []) ≡ 2 * length octets = (decode_of-ok (high ∷ low ∷ []) octets is).2 in
      omega arith

  -- Two digits that are decoded are those of the octet.
  pub octet_decoded : (octets : List ℕ) → Ok octets ≡ decode_sized (high ∷ low ∷ []) 1 → IsHex (high ∷ low ∷ []) (get_or octets 0 0 ∷ [])
  octet_decoded octets h =
      let is : IsHex (high ∷ low ∷ []) octets = sym (h ∙ decode_sized-twice (high ∷ low ∷ []) 1 refl) in
      only octets is (pair_size octets is)

  -- Two characters that aren't decoded represent no octets.
  pub octet_refused : (error : FromHexError) → Err error ≡ decode_sized (high ∷ low ∷ []) 1 → (octets : List ℕ) → ¬ IsHex (high ∷ low ∷ []) octets
  octet_refused error h octets is = cc (h ∙ decode_sized-twice (high ∷ low ∷ []) 1 refl ∙ is)

  -- Their octet doesn't fit into a full array.
  pub octet_misfits : (old octets : List ℕ) (size : ℕ) → length old ≡ size → IsHex (high ∷ low ∷ []) octets → size < length (old ++ octets)
  octet_misfits old octets size full is =
      let one = pair_size octets is in
      let sum = length-append old octets in
      omega (arith, one, sum)
