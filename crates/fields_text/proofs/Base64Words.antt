-- Words of base64 are read four symbols at a time. RFC 4648 section 4.
use Rattle.std.proofs.Common.{◌≡◌, ◌∙◌, ℕ, zero, suc, ◌+◌, ◌-◌, ◌*◌, ◌/◌, ◌%◌, ◌<◌, ◌≤◌, ◌==◌, ◌↔◌, nat_lt, Bool, true, false, List, [], ◌∷◌, ◌++◌, Ok, Err, length, take, drop, slice_index, refl, sym, ap, subst, arith, inl, inr, length-take, length-drop, length-append, lit≤, add-zero, if◌then◌else◌}
use Rattle.std.proofs.lemmas.Bool.Decides.{nat_tests}
use Rattle.std.proofs.lemmas.List.{take_at, drop_at, take-append-drop, length-replicate}
use Rattle.std.specs.Prelude.{MatchOption, unwrap_or}
use Rattle.std.specs.Result.{result_ok}
use Rattle.std.specs.declared.option.Option.{Option}
use Rattle.std.specs.declared.option.Option.TheVariants.{None, Some}
use Rattle.std.specs.declared.result.Result.{Result}
use Rattle.base64.specs.Decode.{IsDecodeTable, bytes_fit, decode_group, decode_outcome, group_bytes, group_error, groups_before_last, groups_bytes, groups_error, leftover_bytes, no_leftover, or_else, or_error, push_leftover, scan, scan_bytes, scan_error, scan_last, suffix_bytes, symbol_error}
use Rattle.base64.specs.Engines.{standard}
use Rattle.base64.specs.GeneralPurpose.{IsBytes, decode_slice_of, decoded_bytes_of, encode_of}
use Rattle.base64.specs.declared.decode.DecodeError.{DecodeError}
use Rattle.base64.specs.declared.decode.DecodeSliceError.{DecodeSliceError}
use Rattle.base64.specs.declared.decode.DecodeSliceError.TheVariants.{OutputSliceTooSmall}
use Rattle.base64.specs.declared.engine.DecodePaddingMode.{DecodePaddingMode}
use Rattle.base64.proofs.Decoding.{IsLeftover, IsLeftover_next, length-groups_bytes, scan-cons_err, scan-cons_ok, scan-nil}
use Rattle.base64.proofs.EngineFacts.{decode_of-encode_of, decode_of_strict, encode_of-append, front_bytes}
use Rattle.base64.proofs.RoundTrip.{length-encode_symbols}
use Rattle.base64.proofs.Tables.{IsDecodeTable_from, are_tables_inverse}
use Rattle.fields_text.specs.Octets.{IsBase64}
use Rattle.fields_text.specs.ReadOctets.{RepresentsCount, RepresentsSome, TakesMemory}
use Rattle.fields_text.proofs.theory.ByteLemmas.{bytes_append, bytes_take, bytes_back, bytes_drop}
use Rattle.fields_text.proofs.theory.DecodedBase64.{none_of, ok_parts}

-- three octets of four values below 64
group_below : (a b c d : ℕ) → a < 64 → b < 64 → c < 64 → d < 64 → IsBytes (decode_group a b c d)
group_below a b c d ha hb hc hd zero = omega arith
group_below a b c d ha hb hc hd (suc zero) = omega arith
group_below a b c d ha hb hc hd (suc (suc zero)) = omega arith
group_below a b c d ha hb hc hd (suc (suc (suc i))) = omega arith

module _ (dec s : List ℕ) (table : IsDecodeTable dec) (bytes : IsBytes s) where
  value_below : (i : ℕ) → symbol_error dec s i ≡ None → slice_index dec (slice_index s i) < 64
  value_below i none = elim (table (slice_index s i) (bytes i)) [ inl bad ↦ cc (rw bad at none) | inr small ↦ small ]

  one_group : (i : ℕ) → group_error dec s i ≡ None → IsBytes (group_bytes dec s i)
  one_group i none =
      let first = none_of _ _ none in
      let second = none_of _ _ first.1 in
      let third = none_of _ _ second.1 in
      group_below _ _ _ _ (value_below i first.0) (value_below (i + 1) second.0) (value_below (i + 2) third.0) (value_below (i + 3) third.1)

  all_groups : (q : ℕ) → groups_error dec s q ≡ None → IsBytes (groups_bytes dec s q)
  unfolding groups_error groups_bytes
  all_groups zero none i = omega arith
  all_groups (suc q) none i =
      let both = none_of _ _ none in
      bytes_append (groups_bytes dec s q) (group_bytes dec s (4 * q)) (all_groups q both.0) (one_group (4 * q) both.1) i

-- the scan of the last symbols keeps values below 64
scanned : (dec : List ℕ) (pad at : ℕ) (bs : List ℕ) (st fin : _) (i : ℕ) → IsDecodeTable dec → IsBytes bs → IsLeftover st i → scan dec pad at st i bs ≡ Ok fin
    → IsLeftover fin (i + length bs)
scanned dec pad at [] st fin i table bytes held is =
    let same : st ≡ fin = cc (scan-nil dec pad at st i) in
    rw (← same, add-zero) held
scanned dec pad at (b ∷ bs) st fin i table bytes held is =
    elim (push_leftover dec pad at st i b) as (λ r. push_leftover dec pad at st i b ≡ r → IsLeftover fin (i + length (b ∷ bs))) [
      | Ok next ↦ λ e.
          let later : scan dec pad at next (i + 1) bs ≡ Ok fin = sym (scan-cons_ok dec pad at st i b bs next e) ∙ is in
          let size : i + 1 + length bs ≡ i + length (b ∷ bs) = omega arith in
          subst (λ n. IsLeftover fin n) size (scanned dec pad at bs next fin (i + 1) table (λ k. bytes (suc k)) (IsLeftover_next dec pad at st i b next table held (bytes 0) e) later)
      | Err f ↦ λ e. cc (scan-cons_err dec pad at st i b bs f e)
    ] refl

zeros_below : (k : ℕ) → slice_index (0 ∷ 0 ∷ 0 ∷ 0 ∷ []) k < 64
zeros_below zero = omega arith
zeros_below (suc zero) = omega arith
zeros_below (suc (suc zero)) = omega arith
zeros_below (suc (suc (suc zero))) = omega arith
zeros_below (suc (suc (suc (suc k)))) = omega arith

leftover_below : (st : _) (i : ℕ) → IsLeftover st i → IsBytes (leftover_bytes st)
leftover_below st i held = bytes_take _ (decode_group _ _ _ _) (group_below _ _ _ _ (held.3 0) (held.3 1) (held.3 2) (held.3 3))

ok_scan : (empty : Bool) (at : ℕ) (allow : Bool) (mode : DecodePaddingMode) (r : _) → scan_error empty at allow mode r ≡ None
    → ((st : _) → r ≡ Ok st → IsBytes (leftover_bytes st)) → IsBytes (scan_bytes r)
ok_scan empty at allow mode (Ok st) none small = small st refl
ok_scan empty at allow mode (Err e) none small = cc none

standard_table : IsDecodeTable standard.decode_table
standard_table = IsDecodeTable_from standard.encode_table standard.decode_table (are_tables_inverse standard.encode_table standard.decode_table standard.padding.value standard.tables)

nothing_left : IsLeftover no_leftover 0
nothing_left = (lit≤ tt, lit≤ tt, lit≤ tt, zeros_below)

-- what a word of octets represents are octets
decoded_bytes : (word octets : List ℕ) → IsBytes word → IsBase64 word octets → IsBytes octets
decoded_bytes word octets bytes is =
    let parts = ok_parts _ _ octets is in
    let none = none_of _ _ parts.0 in
    let later = none_of _ _ none.1 in
    let at : ℕ = 4 * groups_before_last (length word) in
    let last : IsBytes (suffix_bytes standard.decode_table standard.padding.value at word) =
    ok_scan (length word == 0) at standard.config.decode_allow_trailing_bits standard.config.decode_padding_mode
    (scan_last standard.decode_table standard.padding.value at word) later.1
    (λ st e. leftover_below st _ (scanned standard.decode_table standard.padding.value at (drop at word) no_leftover st 0 standard_table (bytes_drop at word bytes) nothing_left e)) in
    subst IsBytes parts.1 (bytes_append _ _ (all_groups standard.decode_table word standard_table bytes _ later.0) last)

-- the length of a word
word_size : (octets : List ℕ) → length (encode_of standard octets) ≡ (4 * length octets + 2) / 3 + (3 - length octets % 3) % 3
word_size octets = simp (length-append, length-replicate, length-encode_symbols) refl

-- how a word of more than four symbols begins: four symbols of three octets, then a word
record Begins (front back : List ℕ) : Type 0 where
  three : List ℕ
  is_three : length three ≡ 3
  first : IsBase64 front three
  others : RepresentsSome (IsBase64 back)

begins : (first rest : List ℕ) → IsBytes (first ++ rest) → length first ≡ 4 → 0 < length rest → RepresentsSome (IsBase64 (first ++ rest)) → Begins first rest
begins first rest bytes four more (octets, is) =
    let all : IsBytes octets = decoded_bytes (first ++ rest) octets bytes is in
    let whole : first ++ rest ≡ encode_of standard octets = decode_of_strict standard (first ++ rest) octets (refl, refl) bytes is in
    let long : 3 < length octets = omega (arith, ap length whole, word_size octets, length-append first rest) in
    let three : length (take 3 octets) ≡ 3 = simp length-take (omega arith) in
    let size : length (encode_of standard (take 3 octets)) ≡ 4 = omega (arith, word_size (take 3 octets), three) in
    let halves : encode_of standard (take 3 octets ++ drop 3 octets) ≡ encode_of standard (take 3 octets) ++ encode_of standard (drop 3 octets) =
    encode_of-append standard (take 3 octets) (drop 3 octets) (rw three refl) in
    let split : first ++ rest ≡ encode_of standard (take 3 octets) ++ encode_of standard (drop 3 octets) =
    whole ∙ (rw take-append-drop at halves) in
    let front : first ≡ encode_of standard (take 3 octets) = sym (take_at first rest 4 four) ∙ ap (take 4) split ∙ take_at _ _ 4 size in
    let back : rest ≡ encode_of standard (drop 3 octets) = sym (drop_at first rest 4 four) ∙ ap (drop 4) split ∙ drop_at _ _ 4 size in
    record {
      three = take 3 octets;
      is_three = three;
      first = rw front (decode_of-encode_of standard (take 3 octets) refl (bytes_take 3 octets all));
      others = (drop 3 octets, rw back (decode_of-encode_of standard (drop 3 octets) refl (bytes_drop 3 octets all)));
    }

-- four symbols of three octets, then a word, are a word
joined : (first rest three : List ℕ) → IsBytes (first ++ rest) → length three ≡ 3 → IsBase64 first three → RepresentsSome (IsBase64 rest) → RepresentsSome (IsBase64 (first ++ rest))
joined first rest three bytes is_three is (octets, others) =
    let front_is : IsBytes first = front_bytes first rest bytes in
    let back_is : IsBytes rest = bytes_back first rest bytes in
    let front : first ≡ encode_of standard three = decode_of_strict standard first three (refl, refl) front_is is in
    let back : rest ≡ encode_of standard octets = decode_of_strict standard rest octets (refl, refl) back_is others in
    let all : IsBytes (three ++ octets) = bytes_append three octets (decoded_bytes first three front_is is) (decoded_bytes rest octets back_is others) in
    let whole : encode_of standard (three ++ octets) ≡ encode_of standard three ++ encode_of standard octets = encode_of-append standard three octets (rw is_three refl) in
    (three ++ octets, rw (front, back, ← whole) (decode_of-encode_of standard (three ++ octets) refl all))

-- three octets are decoded to one slice
ok_slice : (x y : Option DecodeError) (d : List ℕ) (n : ℕ) → or_error x (or_error y (bytes_fit (length d) 3)) ≡ Ok n → (decode_outcome (or_else x y) d ≡ Ok d) × (length d ≡ n)
ok_slice (Some e) y d n h = cc h
ok_slice None (Some e) d n h = cc h
ok_slice None None d n h =
    elim (nat_lt 3 (length d)) as (λ b. (if b then Err OutputSliceTooSmall else Ok (length d)) ≡ Ok n → (decode_outcome None d ≡ Ok d) × (length d ≡ n)) [
      | true ↦ λ e. cc e
      | false ↦ λ e. (refl, cc e)
    ] h

err_slice : (x y : Option DecodeError) (d : List ℕ) (e : DecodeSliceError) → length d ≤ 3 → or_error x (or_error y (bytes_fit (length d) 3)) ≡ Err e
    → (octets : List ℕ) → ¬ (decode_outcome (or_else x y) d ≡ Ok octets)
err_slice (Some f) y d e few h octets = λ is. cc is
err_slice None (Some f) d e few h octets = λ is. cc is
err_slice None None d e few h octets =
    let fits : nat_lt 3 (length d) ≡ false = grind (arith, nat_tests) in
    let no : bytes_fit (length d) 3 ≡ Ok (length d) = rw fits refl in
    λ is. cc (no, h)

-- at most four symbols are one group
one_scan : (s : List ℕ) → length s ≤ 4 → nat_lt 1 (groups_before_last (length s)) ≡ false
one_scan s few = grind (arith, nat_tests)

few_scanned : (r : _) → length (scan_bytes r) ≤ 3
few_scanned (Ok st) = simp length-take (omega arith)
few_scanned (Err e) = omega arith

few_octets : (s : List ℕ) → length s ≤ 4 → length (decoded_bytes_of standard s) ≤ 3
few_octets s few =
    let none : groups_before_last (length s) ≡ 0 = omega arith in
    let last : length (suffix_bytes standard.decode_table standard.padding.value (4 * groups_before_last (length s)) s) ≤ 3 =
    few_scanned (scan_last standard.decode_table standard.padding.value (4 * groups_before_last (length s)) s) in
    simp length-append (omega (arith, length-groups_bytes standard.decode_table s (groups_before_last (length s))))

symbols_read : (s : List ℕ) (n : ℕ) → length s ≤ 4 → Ok n ≡ decode_slice_of standard s 3 → RepresentsCount (IsBase64 s) n
symbols_read s n few is =
    let test = one_scan s few in
    let found = ok_slice _ _ _ n (rw test at (sym is)) in
    (decoded_bytes_of standard s, found.0, found.1)

symbols_refused : (s : List ℕ) (e : DecodeSliceError) → length s ≤ 4 → Err e ≡ decode_slice_of standard s 3 → (octets : List ℕ) → ¬ IsBase64 s octets
symbols_refused s e few is =
    let test = one_scan s few in
    err_slice _ _ _ e (few_octets s few) (rw test at (sym is))

-- at most four characters that decode to a count of octets represent that many; those that decode to none represent none
pub symbols_counted : (s : List ℕ) (r : Result ℕ DecodeSliceError) → length s ≤ 4 → r ≡ decode_slice_of standard s 3
    → MatchOption (result_ok r) ((octets : List ℕ) → ¬ IsBase64 s octets) (RepresentsCount (IsBase64 s))
symbols_counted s (Ok n) few is = symbols_read s n few is
symbols_counted s (Err e) few is = symbols_refused s e few is

-- four characters are three octets exactly if they are counted as three
count_of_three : (s : List ℕ) (r : Option ℕ) (three : List ℕ) → length three ≡ 3 → IsBase64 s three → MatchOption r ((octets : List ℕ) → ¬ IsBase64 s octets) (RepresentsCount (IsBase64 s))
    → unwrap_or r 0 ≡ 3
count_of_three s None three size is none = absurd (none three is)
count_of_three s (Some n) three size is (octets, found, counted) =
    let same : octets ≡ three = let e : Ok octets ≡ Ok three = sym found ∙ is in cc e in
    sym counted ∙ ap length same ∙ size

three_of_count : (s : List ℕ) (r : Option ℕ) → MatchOption r ((octets : List ℕ) → ¬ IsBase64 s octets) (RepresentsCount (IsBase64 s)) → unwrap_or r 0 ≡ 3 → RepresentsCount (IsBase64 s) 3
three_of_count s None none is = cc is
three_of_count s (Some n) (octets, found, counted) is = (octets, found, counted ∙ is)

-- a word whose first four characters aren't three octets
pub refused : (word : List ℕ) (r : Option ℕ) → IsBytes word → 4 < length word → MatchOption r ((octets : List ℕ) → ¬ IsBase64 (take 4 word) octets) (RepresentsCount (IsBase64 (take 4 word)))
    → ¬ (unwrap_or r 0 ≡ 3) → ¬ RepresentsSome (IsBase64 word)
refused word r bytes long counted other = λ some.
    let whole : take 4 word ++ drop 4 word ≡ word = take-append-drop 4 word in
    let four : length (take 4 word) ≡ 4 = simp length-take (omega arith) in
    let more : 0 < length (drop 4 word) = simp length-drop (omega arith) in
    let parts = begins (take 4 word) (drop 4 word) (rw whole bytes) four more (rw whole some) in
    other (count_of_three (take 4 word) r parts.three parts.is_three parts.first counted)

-- a word whose first four characters are three octets
pub passed : (word : List ℕ) (r : Option ℕ) → IsBytes word → 4 < length word → MatchOption r ((octets : List ℕ) → ¬ IsBase64 (take 4 word) octets) (RepresentsCount (IsBase64 (take 4 word)))
    → unwrap_or r 0 ≡ 3 → RepresentsSome (IsBase64 word) ↔ RepresentsSome (IsBase64 (drop 4 word))
passed word r bytes long counted is =
    let whole : take 4 word ++ drop 4 word ≡ word = take-append-drop 4 word in
    let four : length (take 4 word) ≡ 4 = simp length-take (omega arith) in
    let more : 0 < length (drop 4 word) = simp length-drop (omega arith) in
    let three = three_of_count (take 4 word) r counted is in (
      λ some. (begins (take 4 word) (drop 4 word) (rw whole bytes) four more (rw whole some)).others,
      λ some. rw whole at (joined (take 4 word) (drop 4 word) three.0 (rw whole bytes) three.2 three.1 some),
    )

-- a word that isn't empty represents octets that take memory
pub word_takes_memory : (word : List ℕ) → IsBytes word → 0 < length word → RepresentsSome (IsBase64 word) → TakesMemory (IsBase64 word)
word_takes_memory word bytes some (octets, is) =
    let whole : word ≡ encode_of standard octets = decode_of_strict standard word octets (refl, refl) bytes is in
    (octets, is, omega (arith, ap length whole, word_size octets))
