-- Base64 that is decoded into a slice.
use Rattle.std.proofs.Common.{◌≡◌, ◌∙◌, ℕ, ◌+◌, ◌*◌, ◌/◌, ◌<◌, ◌≤◌, nat_lt, Bool, true, false, List, [], ◌++◌, Ok, Err, length, take, drop, refl, sym, ap, subst, arith, length-append}
use Rattle.std.specs.Prelude.{MatchOption, MatchResult, min, if◌then◌else◌}
use Rattle.std.specs.Result.{OnOk, result_ok}
use Rattle.std.specs.declared.option.Option.{Option}
use Rattle.std.specs.declared.option.Option.TheVariants.{None, Some}
use Rattle.std.specs.declared.result.Result.{Result}
use Rattle.std.proofs.lemmas.Bool.Decides.{nat_tests}
use Rattle.std.proofs.lemmas.List.{take_at}
use Rattle.base64.specs.Decode.{IsWrittenOver, bytes_fit, decode_error, decode_outcome, decode_slice_result, decoded_bytes, decoded_estimate, groups_before_last, groups_bytes, groups_error, lone_error, or_else, or_error, suffix_bytes, suffix_error}
use Rattle.base64.specs.Engines.{standard}
use Rattle.base64.specs.GeneralPurpose.{decode_slice_of, decoded_bytes_of}
use Rattle.base64.specs.declared.decode.DecodeError.{DecodeError}
use Rattle.base64.specs.declared.decode.DecodeSliceError.{DecodeSliceError}
use Rattle.base64.specs.declared.decode.DecodeSliceError.TheVariants.{OutputSliceTooSmall}
use Rattle.base64.specs.declared.engine.DecodePaddingMode.{DecodePaddingMode}
use Rattle.base64.proofs.Decoding.{length-groups_bytes, slice_result_room}
use Rattle.fields_text.specs.Octets.{IsBase64}
use Rattle.fields_parameters.specs.ParameterValues.{IsEch}
use Rattle.fields_parameters.specs.PushedValues.{DecodesInto, PushesValue}
use Rattle.fields_text.proofs.theory.DecodedBase64.{ok_parts}

-- what decoding into `size` octets returns: all octets, which fit, or there are none or more
abbrev Decodes : Option DecodeError → List ℕ → ℕ → Result ℕ DecodeSliceError → Type 0
Decodes e d size r =
    MatchResult r (λ n. (decode_outcome e d ≡ Ok d) × (length d ≡ n) × (n ≤ size)) (λ _. (octets : List ℕ) → decode_outcome e d ≡ Ok octets → size < length octets)

fits_by : (d : List ℕ) (size : ℕ) (b : Bool) → nat_lt size (length d) ≡ b → Decodes None d size (if b then Err OutputSliceTooSmall else Ok (length d))
fits_by d size true small = λ octets is.
    let same : d ≡ octets = cc is in
    let sizes = ap length same in
    grind (arith, nat_tests)
fits_by d size false small = (refl, refl, grind (arith, nat_tests))

decodes_by : (x y : Option DecodeError) (small : Bool) (d : List ℕ) (size : ℕ) → (small ≡ true → size < length d)
    → Decodes (or_else x y) d size (or_error x (if small then Err OutputSliceTooSmall else or_error y (bytes_fit (length d) size)))
decodes_by (Some e) y small d size fits = λ octets is. absurd (cc is)
decodes_by None (Some e) true d size fits = λ octets is. absurd (cc is)
decodes_by None (Some e) false d size fits = λ octets is. absurd (cc is)
decodes_by None None true d size fits = λ octets is.
    let same : d ≡ octets = cc is in
    let sizes = ap length same in
    let more = fits refl in
    omega arith
decodes_by None None false d size fits = fits_by d size (nat_lt size (length d)) refl

-- an alphabet
module _ (dec : List ℕ) (pad : ℕ) (allow : Bool) (mode : DecodePaddingMode) where
  abbrev error_in : List ℕ → Option DecodeError
  error_in s = decode_error dec pad allow mode s

  abbrev sliced : List ℕ → ℕ → Result ℕ DecodeSliceError
  sliced s size = decode_slice_result dec pad allow mode s size

  exceeds : (s : List ℕ) (size : ℕ) → nat_lt (size / 3) (groups_before_last (length s)) ≡ true → size < length (decoded_bytes dec pad s)
  exceeds s size small =
      let q : ℕ = groups_before_last (length s) in
      let less : size / 3 < q = grind (arith, nat_tests) in
      omega (arith, length-append (groups_bytes dec s q) (suffix_bytes dec pad (4 * q) s), length-groups_bytes dec s q, less)

  decodes : (s : List ℕ) (size : ℕ) → Decodes (error_in s) (decoded_bytes dec pad s) size (sliced s size)
  decodes s size =
      let q : ℕ = groups_before_last (length s) in
      decodes_by (lone_error dec pad s) (or_else (groups_error dec s q) (suffix_error dec pad allow mode (4 * q) s)) (nat_lt (size / 3) q) (decoded_bytes dec pad s) size (exceeds s size)

  -- all octets are at most three for each four characters that are there or begun
  decoded_size : (s octets : List ℕ) → decode_outcome (error_in s) (decoded_bytes dec pad s) ≡ Ok octets → length octets ≤ decoded_estimate (length s)
  decoded_size s octets is =
      let fine = ok_parts (error_in s) (decoded_bytes dec pad s) octets is in
      let size : ℕ = decoded_estimate (length s) in
      let room : sliced s size ≡ or_error (error_in s) (Ok (length (decoded_bytes dec pad s))) = slice_result_room dec s pad allow mode size (omega arith) in
      let read : sliced s size ≡ Ok (length (decoded_bytes dec pad s)) = room ∙ ap (λ (e : Option DecodeError). or_error e (Ok (length (decoded_bytes dec pad s)))) fine.0 in
      let parts : Decodes (error_in s) (decoded_bytes dec pad s) size (Ok (length (decoded_bytes dec pad s))) = subst (Decodes (error_in s) (decoded_bytes dec pad s) size) read (decodes s size) in
      let same = ap length fine.1 in
      omega (arith, parts.2, same)

  -- characters are decoded into a slice
  sliced_into : (s old new : List ℕ) (r : Result ℕ DecodeSliceError) → length new ≡ length old → Decodes (error_in s) (decoded_bytes dec pad s) (length old) r
      → OnOk r (IsWrittenOver (decoded_bytes dec pad s) old new)
      → MatchOption (result_ok r) ((octets : List ℕ) → decode_outcome (error_in s) (decoded_bytes dec pad s) ≡ Ok octets → length old < length octets)
      (λ n. (decode_outcome (error_in s) (decoded_bytes dec pad s) ≡ Ok (take n new)) × (n ≤ length new))
  sliced_into s old new (Ok n) sizes (is, counted, few) written =
      let d : List ℕ = decoded_bytes dec pad s in
      let front : take n new ≡ d = ap (take n) written ∙ take_at d (drop (length d) old) n counted in
      (is ∙ ap Ok (sym front), omega arith)
  sliced_into s old new (Err e) sizes bad written = bad

-- Base64 has at most three octets for each four characters that are there or begun.
base64_size : (s octets : List ℕ) → IsBase64 s octets → length octets ≤ decoded_estimate (length s)
base64_size s octets is = decoded_size standard.decode_table standard.padding.value standard.config.decode_allow_trailing_bits standard.config.decode_padding_mode s octets is

-- Characters are decoded into a slice.
pub decoded : (text bytes old new : List ℕ) (r : Result ℕ DecodeSliceError) → bytes ≡ text → length new ≡ length old → r ≡ decode_slice_of standard bytes (length old)
    → OnOk r (IsWrittenOver (decoded_bytes_of standard bytes) old new) → DecodesInto text old new (result_ok r)
decoded text bytes old new r same sizes is written =
    let dec : List ℕ = standard.decode_table in
    let pad : ℕ = standard.padding.value in
    let allow : Bool = standard.config.decode_allow_trailing_bits in
    let mode : DecodePaddingMode = standard.config.decode_padding_mode in
    subst (λ (t : List ℕ). DecodesInto t old new (result_ok r)) same
    (sliced_into dec pad allow mode bytes old new r sizes
    (subst (Decodes (decode_error dec pad allow mode bytes) (decoded_bytes dec pad bytes) (length old)) (sym is) (decodes dec pad allow mode bytes (length old))) written)

-- Base64 that isn't decoded into enough octets, or into as many as a value may have, is no value.
pub no_ech : (most : ℕ) (text old new filled : List ℕ) (size : ℕ) → old ≡ [] → size ≡ min ((length text / 4 + 1) * 3) most → length filled ≡ size
    → ((octets : List ℕ) → IsBase64 text octets → length filled < length octets) → PushesValue most (IsEch text) old new false
no_ech most text old new filled size empty is full bad octets ech =
    let more = bad octets ech.0 in
    let size_is = base64_size text octets ech.0 in
    let begun = ap (λ (xs : List ℕ). length (xs ++ octets)) empty in
    omega arith
