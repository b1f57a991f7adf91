-- Base64 is four characters of the alphabet before other base64, or at most four characters. RFC 4648 section 4.
use Rattle.std.proofs.Common.{◌≡◌, ◌∙◌, ◌↔◌, ℕ, zero, suc, ◌+◌, ◌-◌, ◌*◌, ◌%◌, ◌<◌, ◌≤◌, ◌==◌, Bool, true, false, not, ◌&&◌, List, [], ◌∷◌, ◌++◌, length, drop, slice_index, refl, sym, ap, subst, arith}
use Rattle.std.specs.Prelude.{if◌then◌else◌, nat_lt, ◌||◌, IsTrue}
use Rattle.std.specs.Char.{is_ascii_alphanumeric}
use Rattle.std.specs.List.{list_all}
use Rattle.std.specs.Result.{is_ok}
use Rattle.std.specs.declared.option.Option.{Option}
use Rattle.std.specs.declared.option.Option.TheVariants.{None, Some}
use Rattle.std.specs.declared.result.Result.{Result}
use Rattle.std.specs.declared.result.Result.TheVariants.{Err, Ok}
use Rattle.std.proofs.lemmas.Bool.{and_from, and_parts, false≢true, ne_eqb, not-true}
use Rattle.base64.specs.Decode.{decode_error, decode_outcome, group_error, groups_before_last, groups_error, leftover_error, lone_error, no_leftover, or_else, or_error, padding_error, push_leftover, scan, scan_error, scan_last, scan_steps, suffix_error, symbol_error, trailing_bits}
use Rattle.base64.specs.Engines.{standard}
use Rattle.base64.specs.GeneralPurpose.{decode_slice_of, decoded_bytes_of}
use Rattle.base64.specs.declared.decode.DecodeError.{DecodeError}
use Rattle.base64.specs.declared.decode.DecodeSliceError.{DecodeSliceError}
use Rattle.base64.specs.declared.engine.DecodePaddingMode.{DecodePaddingMode}
use Rattle.base64.proofs.Decoding.{slice_result_room}
use Rattle.base64.proofs.Tables.{all_below_at}
use Rattle.fields_text.specs.Octets.{IsBase64}
use Rattle.fields_text.specs.Base64Characters.{is_symbol}
use Rattle.fields_text.specs.Reading.{HasValue}
use Rattle.fields_text.proofs.theory.DecodedBase64.{none_of}

both_none : (x y : Option DecodeError) → x ≡ None → y ≡ None → or_else x y ≡ None
both_none None y h k = k
both_none (Some e) y h k = absurd (cc h)

-- whether there is an error says only its test, not where the error is
unset : (b : Bool) (e : DecodeError) (rest : Option DecodeError) → (if b then Some e else rest) ≡ None → (b ≡ false) × (rest ≡ None)
unset true e rest h = absurd (cc h)
unset false e rest h = (refl, h)

cleared : (b : Bool) (e : DecodeError) (rest : Option DecodeError) → b ≡ false → rest ≡ None → (if b then Some e else rest) ≡ None
cleared true e rest h k = absurd (cc h)
cleared false e rest h k = k

-- two states of a scan: the same, or an error in both
abbrev Agree : {S : Type 0} → Result S DecodeError → Result S DecodeError → Type 0
Agree (Ok s) (Ok t) = s ≡ t
Agree (Ok s) (Err f) = ⊥
Agree (Err e) (Ok t) = ⊥
Agree (Err e) (Err f) = Unit {0}

agree_if : {S : Type 0} (b : Bool) (x y u v : Result S DecodeError) → Agree x u → Agree y v → Agree (if b then x else y) (if b then u else v)
agree_if true x y u v first second = first
agree_if false x y u v first second = second

-- the characters of the alphabet, one by one
abbrev same : Bool → Bool → Bool
same a b = if a then b else not b

module _ (dec : List ℕ) (pad : ℕ) where
  abbrev is_symbol_in : ℕ → Bool
  is_symbol_in c = not (slice_index dec c == 255)

  symbol_fine : (c : ℕ) (e : DecodeError) → is_symbol_in c ≡ true → (if slice_index dec c == 255 then Some e else None) ≡ None
  symbol_fine c e is = cleared (slice_index dec c == 255) e None (not-true (slice_index dec c == 255) is) refl

  symbol_moved : (s r : List ℕ) (i j : ℕ) → slice_index s i ≡ slice_index r j → symbol_error dec s i ≡ None → symbol_error dec r j ≡ None
  symbol_moved s r i j same none = cleared _ _ None (ap (λ (c : ℕ). slice_index dec c == 255) (sym same) ∙ (unset _ _ None none).0) refl

  group_moved : (s r : List ℕ) (i j : ℕ) → slice_index s i ≡ slice_index r j → slice_index s (i + 1) ≡ slice_index r (j + 1) → slice_index s (i + 2) ≡ slice_index r (j + 2)
      → slice_index s (i + 3) ≡ slice_index r (j + 3) → group_error dec s i ≡ None → group_error dec r j ≡ None
  group_moved s r i j e f g h none =
      let first = none_of _ _ none in
      let second = none_of _ _ first.1 in
      let third = none_of _ _ second.1 in
      both_none _ _ (symbol_moved s r i j e first.0)
      (both_none _ _ (symbol_moved s r (i + 1) (j + 1) f second.0)
      (both_none _ _ (symbol_moved s r (i + 2) (j + 2) g third.0) (symbol_moved s r (i + 3) (j + 3) h third.1)))

  push_agrees : (at to : ℕ) (st : _) (i c : ℕ) → Agree (push_leftover dec pad at st i c) (push_leftover dec pad to st i c)
  push_agrees at to st i c =
      agree_if (c == pad) _ _ _ _ (agree_if (nat_lt i 2) _ _ _ _ tt refl)
      (agree_if (nat_lt 0 st.padding_count) _ _ _ _ tt (agree_if (slice_index dec c == 255) _ _ _ _ tt refl))

  scan_agrees : (cs : List ℕ) (at to i : ℕ) (r q : Result _ DecodeError) → Agree r q → Agree (scan_steps dec pad at r i cs) (scan_steps dec pad to q i cs)
  unfolding scan_steps
  scan_agrees cs at to i (Err e) (Err f) h = tt
  scan_agrees cs at to i (Err e) (Ok t) h = absurd h
  scan_agrees cs at to i (Ok s) (Err f) h = absurd h
  scan_agrees [] at to i (Ok s) (Ok t) h = h
  scan_agrees (c ∷ cs) at to i (Ok s) (Ok t) h =
      scan_agrees cs at to (i + 1) (push_leftover dec pad at s i c) (push_leftover dec pad to t i c)
      (rw h (push_agrees at to t i c))

  module _ (allow : Bool) (mode : DecodePaddingMode) where
    -- the last group has no error, wherever it is
    left_moved : (at to : ℕ) (st : _) → leftover_error false at allow mode st ≡ None → leftover_error false to allow mode st ≡ None
    left_moved at to st none =
        let outer = unset (nat_lt st.morsels_count 2) _ _ none in
        let inner = none_of (padding_error mode st) _ outer.1 in
        cleared (nat_lt st.morsels_count 2) _ _ outer.0
        (both_none (padding_error mode st) _ inner.0 (cleared (not allow && not (trailing_bits st == 0)) _ None (unset (not allow && not (trailing_bits st == 0)) _ None inner.1).0 refl))

    scan_moved : (at to : ℕ) (r q : Result _ DecodeError) → Agree r q → scan_error false at allow mode r ≡ None → scan_error false to allow mode q ≡ None
    scan_moved at to (Ok s) (Ok t) h none = rw (← h) (left_moved at to s none)
    scan_moved at to (Ok s) (Err f) h none = absurd h
    scan_moved at to (Err e) q h none = absurd (cc none)

    -- four characters before others
    module _ (a b c d x : ℕ) (xs : List ℕ) where
      abbrev others : List ℕ
      others = x ∷ xs

      abbrev all : List ℕ
      all = a ∷ b ∷ c ∷ d ∷ x ∷ xs

      -- the character four places on
      further : (i j : ℕ) → i ≡ suc (suc (suc (suc j))) → slice_index all i ≡ slice_index others j
      further i j e = ap (slice_index all) e

      groups_of_all : (q : ℕ) → groups_error dec all (suc q) ≡ None → (group_error dec all 0 ≡ None) × (groups_error dec others q ≡ None)
      unfolding groups_error
      groups_of_all zero none = (none, refl)
      groups_of_all (suc q) none =
          let parts = none_of (groups_error dec all (suc q)) (group_error dec all (4 * suc q)) none in
          let before = groups_of_all q parts.0 in (
            before.0,
            both_none (groups_error dec others q) (group_error dec others (4 * q)) before.1
                (group_moved all others (4 * suc q) (4 * q) (further _ _ (omega arith)) (further _ _ (omega arith)) (further _ _ (omega arith)) (further _ _ (omega arith)) parts.1),
          )

      groups_of_others : (q : ℕ) → group_error dec all 0 ≡ None → groups_error dec others q ≡ None → groups_error dec all (suc q) ≡ None
      unfolding groups_error
      groups_of_others zero first none = first
      groups_of_others (suc q) first none =
          let parts = none_of (groups_error dec others q) (group_error dec others (4 * q)) none in
          both_none (groups_error dec all (suc q)) (group_error dec all (4 * suc q)) (groups_of_others q first parts.0)
          (group_moved others all (4 * q) (4 * suc q) (sym (further _ _ (omega arith))) (sym (further _ _ (omega arith))) (sym (further _ _ (omega arith))) (sym (further _ _ (omega arith))) parts.1)

      -- a lone last character
      abbrev is_lone : ℕ → ℕ → Bool
      is_lone n last = n % 4 == 1 && not (last == pad) && (slice_index dec last == 255)

      same_lone : is_lone (length all) (slice_index all (length all - 1)) ≡ is_lone (length others) (slice_index others (length others - 1))
      same_lone =
          let size : length all % 4 ≡ length others % 4 = omega arith in
          let last = further (length all - 1) (length others - 1) (omega arith) in
          λ i. (size i == 1) && not (last i == pad) && (slice_index dec (last i) == 255)

      one_more : groups_before_last (length all) ≡ suc (groups_before_last (length others))
      one_more = omega arith

      -- the last group
      same_suffix : (q : ℕ) → drop (4 * suc q) all ≡ drop (4 * q) others
      same_suffix q = let e : 4 * suc q ≡ suc (suc (suc (suc (4 * q)))) = omega arith in ap (λ (n : ℕ). drop n all) e

      suffixes_agree : (q : ℕ) → Agree (scan_last dec pad (4 * suc q) all) (scan_last dec pad (4 * q) others)
      suffixes_agree q =
          subst (λ (cs : List ℕ). Agree (scan dec pad (4 * suc q) no_leftover 0 cs) (scan_last dec pad (4 * q) others)) (sym (same_suffix q))
          (scan_agrees (drop (4 * q) others) (4 * suc q) (4 * q) 0 (Ok no_leftover) (Ok no_leftover) refl)

      agree_back : (q : ℕ) → Agree (scan_last dec pad (4 * q) others) (scan_last dec pad (4 * suc q) all)
      agree_back q =
          subst (λ (cs : List ℕ). Agree (scan_last dec pad (4 * q) others) (scan dec pad (4 * suc q) no_leftover 0 cs)) (sym (same_suffix q))
          (scan_agrees (drop (4 * q) others) (4 * q) (4 * suc q) 0 (Ok no_leftover) (Ok no_leftover) refl)

      abbrev IsFine : List ℕ → Type 0
      IsFine s = decode_error dec pad allow mode s ≡ None

      -- the error of a last group of characters that aren't none
      suffix_set : (s : List ℕ) (at : ℕ) → 0 < length s → suffix_error dec pad allow mode at s ≡ None → scan_error false at allow mode (scan_last dec pad at s) ≡ None
      suffix_set s at some none = subst (λ (v : Bool). scan_error v at allow mode (scan_last dec pad at s) ≡ None) (ne_eqb (length s) 0 (omega arith)) none

      suffix_from : (s : List ℕ) (at : ℕ) → 0 < length s → scan_error false at allow mode (scan_last dec pad at s) ≡ None → suffix_error dec pad allow mode at s ≡ None
      suffix_from s at some none = subst (λ (v : Bool). scan_error v at allow mode (scan_last dec pad at s) ≡ None) (sym (ne_eqb (length s) 0 (omega arith))) none

      -- the characters are four symbols, and the others are base64
      pub parts_fine : IsFine all → (group_error dec all 0 ≡ None) × IsFine others
      parts_fine none =
          let q = groups_before_last (length others) in
          let lone = none_of (lone_error dec pad all) _ none in
          let back = none_of (groups_error dec all (groups_before_last (length all))) _ lone.1 in
          let groups = groups_of_all q (subst (λ (n : ℕ). groups_error dec all n ≡ None) one_more back.0) in
          let suffix = suffix_set all (4 * suc q) (omega arith) (subst (λ (n : ℕ). suffix_error dec pad allow mode (4 * n) all ≡ None) one_more back.1) in (
            groups.0,
            both_none (lone_error dec pad others) _ (cleared (is_lone (length others) (slice_index others (length others - 1))) _ None
                (sym same_lone ∙ (unset (is_lone (length all) (slice_index all (length all - 1))) _ None lone.0).0) refl)
                (both_none (groups_error dec others q) _ groups.1 (suffix_from others (4 * q) (omega arith) (scan_moved (4 * suc q) (4 * q) _ _ (suffixes_agree q) suffix))),
          )

      -- four symbols before base64 are base64
      pub all_fine : group_error dec all 0 ≡ None → IsFine others → IsFine all
      all_fine first none =
          let q = groups_before_last (length others) in
          let lone = none_of (lone_error dec pad others) _ none in
          let back = none_of (groups_error dec others q) _ lone.1 in
          let groups = groups_of_others q first back.0 in
          let suffix = suffix_set others (4 * q) (omega arith) back.1 in
          both_none (lone_error dec pad all) _
          (cleared (is_lone (length all) (slice_index all (length all - 1))) _ None (same_lone ∙ (unset (is_lone (length others) (slice_index others (length others - 1))) _ None lone.0).0) refl)
          (both_none (groups_error dec all (groups_before_last (length all))) _ (subst (λ (n : ℕ). groups_error dec all n ≡ None) (sym one_more) groups)
          (subst (λ (n : ℕ). suffix_error dec pad allow mode (4 * n) all ≡ None) (sym one_more)
          (suffix_from all (4 * suc q) (omega arith) (scan_moved (4 * q) (4 * suc q) _ _ (agree_back q) suffix))))

      -- four symbols have no error
      pub symbols_fine : list_all is_symbol_in (a ∷ b ∷ c ∷ d ∷ []) ≡ true → group_error dec all 0 ≡ None
      symbols_fine h =
          let first = and_parts (is_symbol_in a) (list_all is_symbol_in (b ∷ c ∷ d ∷ [])) h in
          let second = and_parts (is_symbol_in b) (list_all is_symbol_in (c ∷ d ∷ [])) first.1 in
          let third = and_parts (is_symbol_in c) (list_all is_symbol_in (d ∷ [])) second.1 in
          let fourth = and_parts (is_symbol_in d) true third.1 in
          both_none (symbol_error dec all 0) _ (symbol_fine a _ first.0)
          (both_none (symbol_error dec all 1) _ (symbol_fine b _ second.0) (both_none (symbol_error dec all 2) _ (symbol_fine c _ third.0) (symbol_fine d _ fourth.0)))

      -- without an error they are four symbols
      pub fine_symbols : group_error dec all 0 ≡ None → list_all is_symbol_in (a ∷ b ∷ c ∷ d ∷ []) ≡ true
      fine_symbols none =
          let first = none_of _ _ none in
          let second = none_of _ _ first.1 in
          let third = none_of _ _ second.1 in
          and_from _ _ (ap not (unset (slice_index dec a == 255) _ None first.0).0)
          (and_from _ _ (ap not (unset (slice_index dec b == 255) _ None second.0).0)
          (and_from _ _ (ap not (unset (slice_index dec c == 255) _ None third.0).0) (and_from _ _ (ap not (unset (slice_index dec d == 255) _ None third.1).0) refl)))

-- the standard alphabet, with padding
abbrev IsFineBase64 : List ℕ → Type 0
IsFineBase64 s = decode_error standard.decode_table standard.padding.value standard.config.decode_allow_trailing_bits standard.config.decode_padding_mode s ≡ None

outcome_fine : (e : Option DecodeError) (bytes octets : List ℕ) → decode_outcome e bytes ≡ Ok octets → e ≡ None
outcome_fine None bytes octets h = refl
outcome_fine (Some e) bytes octets h = absurd (cc h)

is_fine : (s : List ℕ) → HasValue (IsBase64 s) → IsFineBase64 s
is_fine s (octets, is) = outcome_fine _ _ octets is

from_fine : (s : List ℕ) → IsFineBase64 s → HasValue (IsBase64 s)
from_fine s none = (decoded_bytes_of standard s, ap (λ (e : Option DecodeError). decode_outcome e (decoded_bytes_of standard s)) none)

-- Four symbols before other characters represent octets with them exactly if those do.
pub four_symbols : (group : List ℕ) (x : ℕ) (xs : List ℕ) → length group ≡ 4 → list_all is_symbol group ≡ true → HasValue (IsBase64 (group ++ (x ∷ xs))) ↔ HasValue (IsBase64 (x ∷ xs))
four_symbols [] x xs four h = absurd (omega arith)
four_symbols (a ∷ []) x xs four h = absurd (omega arith)
four_symbols (a ∷ b ∷ []) x xs four h = absurd (omega arith)
four_symbols (a ∷ b ∷ c ∷ []) x xs four h = absurd (omega arith)
four_symbols (a ∷ b ∷ c ∷ d ∷ []) x xs four h = (
  λ has.
      from_fine (x ∷ xs)
      (parts_fine standard.decode_table standard.padding.value standard.config.decode_allow_trailing_bits standard.config.decode_padding_mode a b c d x xs (is_fine (a ∷ b ∷ c ∷ d ∷ x ∷ xs) has)).1,
  λ has.
      from_fine (a ∷ b ∷ c ∷ d ∷ x ∷ xs)
      (all_fine standard.decode_table standard.padding.value standard.config.decode_allow_trailing_bits standard.config.decode_padding_mode a b c d x xs
      (symbols_fine standard.decode_table standard.padding.value standard.config.decode_allow_trailing_bits standard.config.decode_padding_mode a b c d x xs h) (is_fine (x ∷ xs) has)),
)
four_symbols (a ∷ b ∷ c ∷ d ∷ e ∷ group) x xs four h = absurd (omega arith)

-- Four characters that aren't symbols represent no octets with others after them.
pub four_others : (group : List ℕ) (x : ℕ) (xs : List ℕ) → length group ≡ 4 → list_all is_symbol group ≡ false → ¬ (HasValue (IsBase64 (group ++ (x ∷ xs))))
four_others [] x xs four h = absurd (omega arith)
four_others (a ∷ []) x xs four h = absurd (omega arith)
four_others (a ∷ b ∷ []) x xs four h = absurd (omega arith)
four_others (a ∷ b ∷ c ∷ []) x xs four h = absurd (omega arith)
four_others (a ∷ b ∷ c ∷ d ∷ []) x xs four h = λ has.
    let parts =
    parts_fine standard.decode_table standard.padding.value standard.config.decode_allow_trailing_bits standard.config.decode_padding_mode a b c d x xs (is_fine (a ∷ b ∷ c ∷ d ∷ x ∷ xs) has) in
    false≢true (sym h ∙ fine_symbols standard.decode_table standard.padding.value standard.config.decode_allow_trailing_bits standard.config.decode_padding_mode a b c d x xs parts.0)
four_others (a ∷ b ∷ c ∷ d ∷ e ∷ group) x xs four h = absurd (omega arith)

-- at most four characters, decoded into three octets
ok_fine : (e : Option DecodeError) (n : ℕ) → is_ok (or_error e (Ok n)) ≡ true → e ≡ None
ok_fine None n h = refl
ok_fine (Some e) n h = absurd (false≢true h)

-- At most four characters represent octets exactly if they are decoded.
pub group_tested : (s : List ℕ) (b : Bool) (r : Result ℕ DecodeSliceError) → length s ≤ 4 → r ≡ decode_slice_of standard s 3 → b ≡ is_ok r → IsTrue b ↔ HasValue (IsBase64 s)
group_tested s b r few is tested =
    let room = slice_result_room standard.decode_table s standard.padding.value standard.config.decode_allow_trailing_bits standard.config.decode_padding_mode 3 (omega arith) in
    let whole = is ∙ room in (
      λ h. from_fine s (ok_fine _ _ (sym (ap is_ok whole) ∙ sym tested ∙ h)),
      λ has. tested ∙ ap is_ok whole ∙ ap (λ (e : Option DecodeError). is_ok (or_error e (Ok (length (decoded_bytes_of standard s))))) (is_fine s has),
    )

same_is : (a b : Bool) → same a b ≡ true → a ≡ b
same_is true b h = sym h
same_is false b h = sym (not-true b h)

abbrev is_plus_or_slash : ℕ → Bool
is_plus_or_slash c = (c == 43) || (c == 47)

-- The alphabet is the plus sign, the slash, letters and digits.
pub alphabet : (c : ℕ) → c < 256 → is_symbol c ≡ (is_plus_or_slash c || is_ascii_alphanumeric c)
alphabet c small = same_is (is_symbol c) (is_plus_or_slash c || is_ascii_alphanumeric c) (all_below_at (λ n. same (is_symbol n) (is_plus_or_slash n || is_ascii_alphanumeric n)) 256 c refl small)
