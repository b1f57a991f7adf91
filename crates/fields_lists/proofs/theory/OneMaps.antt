-- Words represent one type bit map.
use Rattle.std.proofs.Common.{◌≡◌, ◌∙◌, ℕ, zero, suc, ◌+◌, ◌-◌, ◌*◌, ◌%◌, ◌^◌, ◌<◌, ◌≤◌, ◌==◌, Bool, true, false, List, [], ◌∷◌, ◌++◌, length, get_or, take, drop, refl, sym, ap, subst, arith, inl, inr, ne_eqb, le-leb, take-append-drop, length-append, length-take-le}
use Rattle.std.specs.Prelude.{nat_le, nat_lt, ◌&&◌, ◌||◌, if◌then◌else◌}
use Rattle.std.proofs.Math.Nat.{mul-le-mul_right, pow-suc}
use Rattle.std.proofs.lemmas.Bool.{and_from, and_parts, cases_eq, cases_lt, false≢true, leb-true, ltb-true, not_from_false, or_cases, or_left}
use Rattle.std.proofs.lemmas.List.Folds.{list_any-append}
use Rattle.hex.specs.Hex.{IsBytes}
use Rattle.fields_lists.specs.TypeMaps.{blocks_after, is_bit_map, is_type_map, bit_types, ends_nonzero, map_types, octet_types}
use Rattle.fields_text.specs.Laws.{RepresentsOne}
use Rattle.fields_lists.specs.TypeMapWords.{IsSmallTypeMap, IsTypeMap, IsTypeMapOf, has}
use Rattle.fields_lists.proofs.BlockLemmas.{first_block, map_first}
use Rattle.fields_text.proofs.theory.ByteLemmas.{bytes_drop, bytes_take}
use Rattle.fields_lists.proofs.SmallMapLemmas.{bit_clear, bit_set, ends, has_some}
use Rattle.fields_lists.proofs.theory.TypeMapLaws.{map_bound}
use Rattle.fields_lists.proofs.TypeMapLemmas.{bit_range, octet_range}

-- what is true of the same numbers
same_truth : (a b : Bool) → (a ≡ true → b ≡ true) → (b ≡ true → a ≡ true) → a ≡ b
same_truth true b f g = sym (f refl)
same_truth false true f g = g refl
same_truth false false f g = refl

not_true : (b : Bool) → ¬ (b ≡ true) → b ≡ false
not_true true none = absurd (none refl)
not_true false none = refl

first_same : (a b c d : Bool) → b ≡ false → d ≡ false → a || b ≡ c || d → a ≡ c
first_same true b true d e f g = refl
first_same true b false d e f g = g ∙ f
first_same false b true d e f g = sym e ∙ g
first_same false b false d e f g = refl

second_same : (a b c d : Bool) → a ≡ false → c ≡ false → a || b ≡ c || d → b ≡ d
second_same true b c d e f g = absurd (false≢true (sym e))
second_same false b true d e f g = absurd (false≢true (sym f))
second_same false b false d e f g = g

-- an octet of its types
abbrev SameTypes : List ℕ → List ℕ → Type 0
SameTypes xs ys = (n : ℕ) → has xs n ≡ has ys n

bit_high : (count first octet n : ℕ) → 128 ≤ octet → has (bit_types (suc count) first octet) n ≡ (first == n) || has (bit_types count (first + 1) (octet % 128 * 2)) n
bit_high count first octet n high = ap (λ (b : Bool). has ((if b then first ∷ [] else []) ++ bit_types count (first + 1) (octet % 128 * 2)) n) (le-leb 128 octet high)

no_bit : (count first octet n : ℕ) → n < first → has (bit_types count first octet) n ≡ false
no_bit count first octet n before = not_true _ (λ h. let range = bit_range count first octet n h in omega (arith, range.0))

apart_bits : (count first x y : ℕ) → x < 128 → 128 ≤ y → ¬ (SameTypes (bit_types (suc count) first x) (bit_types (suc count) first y))
apart_bits count first x y low high same =
    let clear = sym (bit_clear count first x first low) ∙ same first ∙ bit_set count first y high in
    false≢true (sym (no_bit count (first + 1) (x % 128 * 2) first (omega arith)) ∙ clear)

-- an octet without its highest bit, twice
left_of : (m p i z : ℕ) → m * p ≡ 128 → z ≡ (p + i) * m → 128 ≤ z → z < 256 → z % 128 * 2 ≡ i * (m + m)
left_of m p i z power multiple high small = let rest : z ≡ 128 + i * m = omega (arith, power, multiple) in omega (arith, rest)

few_halves : (m p h z : ℕ) → m * p ≡ 128 → z ≡ h * m → 128 ≤ z → p ≤ h
few_halves m p h z power multiple high =
    elim (cases_lt h p) [
      | inl less ↦
          (let next : h + 1 ≤ p = omega arith in
          let most = mul-le-mul_right m next in
          elim (cases_lt 0 m) [
            | inl some ↦ absurd (omega (arith, most, power, multiple, high))
            | inr none ↦ (let zero : m ≡ 0 = omega arith in let empty : z ≡ h * 0 = multiple ∙ ap (λ (k : ℕ). h * k) zero in absurd (omega (arith, empty, high)))
          ])
      | inr more ↦ more
    ]

high_half : (m p h z : ℕ) → m * p ≡ 128 → z ≡ h * m → 128 ≤ z → z < 256 → (i : ℕ) × (z % 128 * 2 ≡ i * (m + m))
high_half m p h z power multiple high small =
    let most = few_halves m p h z power multiple high in
    let sum : h ≡ p + (h - p) = omega arith in
    (h - p, left_of m p (h - p) z power (multiple ∙ ap (λ (k : ℕ). k * m) sum) high small)

abbrev OneOctet : ℕ → ℕ → ℕ → Type 0
OneOctet count first m =
    (j k x y : ℕ) → m * 2 ^ count ≡ 256 → x ≡ j * m → y ≡ k * m → x < 256 → y < 256 → SameTypes (bit_types count first x) (bit_types count first y) → x ≡ y

one_octet : (count first m j k x y : ℕ) → m * 2 ^ count ≡ 256 → x ≡ j * m → y ≡ k * m → x < 256 → y < 256 → SameTypes (bit_types count first x) (bit_types count first y) → x ≡ y
one_octet zero first m j k x y e f g a b same =
    let whole : m ≡ 256 = omega (arith, e) in
    let one : x ≡ j * 256 = f ∙ ap (λ (n : ℕ). j * n) whole in
    let two : y ≡ k * 256 = g ∙ ap (λ (n : ℕ). k * n) whole in
    omega arith
one_octet (suc count) first m j k x y e f g a b same =
    elim (cases_lt x 128) [
      | inl low ↦ elim (cases_lt y 128) [
        | inl low' ↦ both_low low low' (one_octet count (first + 1) (m + m))
        | inr high' ↦ absurd (apart_bits count first x y low high' same)
      ]
      | inr high ↦ elim (cases_lt y 128) [
        | inl low' ↦ absurd (apart_bits count first y x low' high (λ n. sym (same n)))
        | inr high' ↦ both_high high high' (one_octet count (first + 1) (m + m))
      ]
    ] where
      double : (m + m) * 2 ^ count ≡ 256
      double = let power : m * 2 ^ suc count ≡ m * (2 ^ count * 2) = ap (λ (n : ℕ). m * n) (pow-suc 2 count) in omega arith

      half : (h z : ℕ) → z ≡ h * m → z < 128 → z % 128 * 2 ≡ h * (m + m)
      half h z multiple low = omega (arith, multiple, low)

      both_low : x < 128 → y < 128 → OneOctet count (first + 1) (m + m) → x ≡ y
      both_low low low' again =
          let rest =
          again j k (x % 128 * 2) (y % 128 * 2) double (half j x f low) (half k y g low') (omega arith) (omega arith)
          (λ n. sym (bit_clear count first x n low) ∙ same n ∙ bit_clear count first y n low') in
          omega (arith, rest, low, low')

      power : m * 2 ^ count ≡ 128
      power = let power : m * 2 ^ suc count ≡ m * (2 ^ count * 2) = ap (λ (n : ℕ). m * n) (pow-suc 2 count) in omega arith

      left_same : (n : ℕ) → 128 ≤ x → 128 ≤ y → has (bit_types count (first + 1) (x % 128 * 2)) n ≡ has (bit_types count (first + 1) (y % 128 * 2)) n
      left_same n high high' =
          elim (cases_eq first n) [
            | inl here ↦ no_bit count (first + 1) (x % 128 * 2) n (omega arith) ∙ sym (no_bit count (first + 1) (y % 128 * 2) n (omega arith))
            | inr other ↦
                second_same _ _ _ _ (ne_eqb first n other) (ne_eqb first n other) (sym (bit_high count first x n high) ∙ same n ∙ bit_high count first y n high')
          ]

      both_high : 128 ≤ x → 128 ≤ y → OneOctet count (first + 1) (m + m) → x ≡ y
      both_high high high' again =
          let one = high_half m (2 ^ count) j x power f high a in
          let two = high_half m (2 ^ count) k y power g high' b in
          let rest =
          again one.0 two.0 (x % 128 * 2) (y % 128 * 2) double one.1 two.1 (omega arith) (omega arith) (λ n. left_same n high high') in
          omega (arith, rest, high, high')

-- octets without zeros at their end
abbrev IsEnded : List ℕ → Type 0
IsEnded [] = Unit {0}
IsEnded (x ∷ xs) = ends_nonzero (x ∷ xs) ≡ true

ended : (xs : List ℕ) → ends_nonzero xs ≡ true → IsEnded xs
ended [] end = tt
ended (x ∷ xs) end = end

rest_ended : (x : ℕ) (xs : List ℕ) → ends_nonzero (x ∷ xs) ≡ true → IsEnded xs
rest_ended x [] end = tt
rest_ended x (y ∷ xs) end = end

module _ (first x y : ℕ) (xs ys : List ℕ) (same : SameTypes (octet_types first (x ∷ xs)) (octet_types first (y ∷ ys))) where
  by_parts : (n : ℕ) → has (bit_types 8 first x) n || has (octet_types (first + 8) xs) n ≡ has (bit_types 8 first y) n || has (octet_types (first + 8) ys) n
  by_parts n =
      sym (list_any-append (λ rtype. rtype == n) (bit_types 8 first x) (octet_types (first + 8) xs)) ∙ same n
      ∙ list_any-append (λ rtype. rtype == n) (bit_types 8 first y) (octet_types (first + 8) ys)

  none_after : (zs : List ℕ) (n : ℕ) → n < first + 8 → has (octet_types (first + 8) zs) n ≡ false
  none_after zs n before = not_true _ (λ h. let range = octet_range zs (first + 8) n h in omega (arith, range.0))

  none_before : (z n : ℕ) → first + 8 ≤ n → has (bit_types 8 first z) n ≡ false
  none_before z n after = not_true _ (λ h. let range = bit_range 8 first z n h in omega (arith, range.1))

  first_types : SameTypes (bit_types 8 first x) (bit_types 8 first y)
  first_types n =
      elim (cases_lt n (first + 8)) [
        | inl before ↦ first_same _ _ _ _ (none_after xs n before) (none_after ys n before) (by_parts n)
        | inr after ↦ none_before x n after ∙ sym (none_before y n after)
      ]

  other_types : SameTypes (octet_types (first + 8) xs) (octet_types (first + 8) ys)
  other_types n =
      elim (cases_lt n (first + 8)) [
        | inl before ↦ none_after xs n before ∙ sym (none_after ys n before)
        | inr after ↦ second_same _ _ _ _ (none_before x n after) (none_before y n after) (by_parts n)
      ]

no_types : (first x : ℕ) (xs : List ℕ) → IsBytes (x ∷ xs) → ends_nonzero (x ∷ xs) ≡ true → ¬ (SameTypes [] (octet_types first (x ∷ xs)))
no_types first x xs bytes end same = let some = has_some (x ∷ xs) first bytes end in false≢true (same some.0 ∙ some.1)

one_bits : (first : ℕ) (xs ys : List ℕ) → IsBytes xs → IsBytes ys → IsEnded xs → IsEnded ys → SameTypes (octet_types first xs) (octet_types first ys) → xs ≡ ys
one_bits first [] [] a b p q same = refl
one_bits first [] (y ∷ ys) a b p q same = absurd (no_types first y ys b q same)
one_bits first (x ∷ xs) [] a b p q same = absurd (no_types first x xs a p (λ n. sym (same n)))
one_bits first (x ∷ xs) (y ∷ ys) a b p q same =
    let octet = one_octet 8 first 1 x y x y refl (omega arith) (omega arith) (a 0) (b 0) (first_types first x y xs ys same) in
    let others =
    one_bits (first + 8) xs ys (λ i. a (suc i)) (λ i. b (suc i)) (rest_ended x xs p) (rest_ended y ys q) (other_types first x y xs ys same) in
    ap (λ (z : ℕ). z ∷ xs) octet ∙ ap (λ (zs : List ℕ). y ∷ zs) others

-- Words represent at most one small type map.
pub one_small_map : RepresentsOne IsSmallTypeMap
one_small_map words xs ys a b =
    one_bits 0 xs ys a.bytes b.bytes (ended xs (ends xs a.small)) (ended ys (ends ys b.small))
    (λ n. same_truth _ _ (λ h. (b.bits n).1 ((a.bits n).0 h)) (λ h. (a.bits n).1 ((b.bits n).0 h)))

-- blocks: the bits of the first, and the blocks after it
record Block (window : ℕ) (octets : List ℕ) : Type 0 where
  bits : List ℕ
  after : List ℕ
  whole : octets ≡ window ∷ length bits ∷ (bits ++ after)
  bytes : IsBytes bits
  after_bytes : IsBytes after
  short : length bits ≤ 32
  ends_is : ends_nonzero bits ≡ true
  blocks : blocks_after (window + 1) 0 after ≡ true
  types : (n : ℕ) → has (map_types octets) n ≡ has (octet_types (window * 256) bits) n || has (map_types after) n

last_ends : (size : ℕ) (octets : List ℕ) → 1 ≤ size → size ≤ length octets → 0 < get_or octets (size - 1) 0 → ends_nonzero (take size octets) ≡ true
last_ends zero octets some fits last = absurd (omega arith)
last_ends (suc size) [] some fits last = absurd (omega arith)
last_ends (suc zero) (x ∷ octets) some fits last = not_from_false _ (ne_eqb x 0 (λ e. let above : 0 < x = last in omega arith))
last_ends (suc (suc size)) (x ∷ []) some fits last = absurd (omega arith)
last_ends (suc (suc size)) (x ∷ y ∷ octets) some fits last =
    let same : suc (suc size - 1) ≡ suc (suc size) - 1 = omega arith in
    last_ends (suc size) (y ∷ octets) (omega arith) (omega arith) (subst (λ (k : ℕ). 0 < get_or (x ∷ y ∷ octets) k 0) (sym same) last)

block_of : (least window size : ℕ) (octets : List ℕ) → IsBytes (window ∷ size ∷ octets) → blocks_after least 0 (window ∷ size ∷ octets) ≡ true → Block window (window ∷ size ∷ octets)
block_of least window size octets bytes h =
    let parts = and_parts (nat_le least window && is_bit_map size octets) (blocks_after (window + 1) size octets) h in
    let front = and_parts (nat_le least window) (is_bit_map size octets) parts.0 in
    let map = and_parts (nat_le 1 size && nat_le size 32) (nat_lt 0 (get_or octets (size - 1) 0)) front.1 in
    let sizes = and_parts (nat_le 1 size) (nat_le size 32) map.0 in
    let some = leb-true 1 size sizes.0 in
    let first = first_block least window size octets h in
    let count : length (take size octets) ≡ size = length-take-le size octets first.fits in
    let others : IsBytes octets = λ i. bytes (suc (suc i)) in
    record {
      bits = take size octets;
      after = drop size octets;
      whole = ap (λ (k : ℕ). window ∷ k ∷ octets) (sym count) ∙ ap (λ (xs : List ℕ). window ∷ length (take size octets) ∷ xs) (sym (take-append-drop size octets));
      bytes = bytes_take size octets others;
      after_bytes = bytes_drop size octets others;
      short = (let short = first.short in omega (arith, count));
      ends_is = last_ends size octets some first.fits (ltb-true 0 (get_or octets (size - 1) 0) map.1);
      blocks = first.others;
      types = λ n.
          ap (λ (types : List ℕ). has types n) (map_first window size octets first.short first.fits)
          ∙ list_any-append (λ rtype. rtype == n) (octet_types (window * 256) (take size octets)) (map_types (drop size octets));
    }

-- the windows of blocks
low_window : (least window size : ℕ) (octets : List ℕ) → blocks_after least 0 (window ∷ size ∷ octets) ≡ true → (least ≤ window) × (blocks_after window 0 (window ∷ size ∷ octets) ≡ true)
low_window least window size octets h =
    let parts = and_parts (nat_le least window && is_bit_map size octets) (blocks_after (window + 1) size octets) h in
    let front = and_parts (nat_le least window) (is_bit_map size octets) parts.0 in
    (leb-true least window front.0, and_from _ _ (and_from _ _ (le-leb window window (omega arith)) front.1) parts.1)

after_size : (window : ℕ) (octets : List ℕ) (block : Block window octets) → length block.after < length octets
after_size window octets block = omega (arith, ap length block.whole, length-append block.bits block.after)

map_low : (fuel least n : ℕ) (octets : List ℕ) → length octets ≤ fuel → IsBytes octets → blocks_after least 0 octets ≡ true → has (map_types octets) n ≡ true → least * 256 ≤ n
map_low fuel least n [] few bytes blocks h = absurd (false≢true h)
map_low fuel least n (window ∷ []) few bytes blocks h = absurd (false≢true blocks)
map_low zero least n (window ∷ size ∷ octets) few bytes blocks h = absurd (omega arith)
map_low (suc fuel) least n (window ∷ size ∷ octets) few bytes blocks h =
    let block = block_of least window size octets bytes blocks in
    let low = (low_window least window size octets blocks).0 in
    let less = after_size window (window ∷ size ∷ octets) block in
    elim (or_cases (has (octet_types (window * 256) block.bits) n) (has (map_types block.after) n) (sym (block.types n) ∙ h)) [
      | inl here ↦ (let range = octet_range block.bits (window * 256) n here in omega (arith, range.0, low))
      | inr later ↦ (let above = map_low fuel (window + 1) n block.after (omega (arith, less)) block.after_bytes block.blocks later in omega (arith, above, low))
    ]

some_of : (window : ℕ) (octets : List ℕ) → Block window octets → (n : ℕ) × (has (map_types octets) n ≡ true) × (n < window * 256 + 256)
some_of window octets block =
    let some = has_some block.bits (window * 256) block.bytes block.ends_is in
    let range = octet_range block.bits (window * 256) some.0 some.1 in
    let short = block.short in
    (some.0, block.types some.0 ∙ or_left _ _ some.1, omega (arith, range.1, short))

no_lower : (least w v t : ℕ) (xs ps : List ℕ) → Block w xs → IsBytes (v ∷ t ∷ ps) → blocks_after least 0 (v ∷ t ∷ ps) ≡ true → w < v → ¬ (SameTypes (map_types xs) (map_types (v ∷ t ∷ ps)))
no_lower least w v t xs ps block bytes blocks less same =
    let some = some_of w xs block in
    let low = map_low (length (v ∷ t ∷ ps)) v some.0 (v ∷ t ∷ ps) (omega arith) bytes (low_window least v t ps blocks).1 (sym (same some.0) ∙ some.1) in
    let high = some.2 in
    omega (arith, low, high, less)

no_blocks : (w : ℕ) (xs : List ℕ) → Block w xs → ¬ (SameTypes [] (map_types xs))
no_blocks w xs block same = let some = some_of w xs block in false≢true (same some.0 ∙ some.1)

module _ (window : ℕ) (xs ys : List ℕ) (x : Block window xs) (y : Block window ys) (same : SameTypes (map_types xs) (map_types ys)) where
  blocks_by_parts : (n : ℕ) → has (octet_types (window * 256) x.bits) n || has (map_types x.after) n ≡ has (octet_types (window * 256) y.bits) n || has (map_types y.after) n
  blocks_by_parts n = sym (x.types n) ∙ same n ∙ y.types n

  none_later : (octets : List ℕ) (z : Block window octets) (n : ℕ) → n < window * 256 + 256 → has (map_types z.after) n ≡ false
  none_later octets z n before = not_true _ (λ h. let above = map_low (length z.after) (window + 1) n z.after (omega arith) z.after_bytes z.blocks h in omega (arith, above, before))

  none_here : (octets : List ℕ) (z : Block window octets) (n : ℕ) → window * 256 + 256 ≤ n → has (octet_types (window * 256) z.bits) n ≡ false
  none_here octets z n after = not_true _ (λ h. let range = octet_range z.bits (window * 256) n h in let short = z.short in omega (arith, range.1, short))

  same_bits : x.bits ≡ y.bits
  same_bits =
      one_bits (window * 256) x.bits y.bits x.bytes y.bytes (ended x.bits x.ends_is) (ended y.bits y.ends_is)
      (λ n. elim (cases_lt n (window * 256 + 256)) [
        | inl before ↦ first_same _ _ _ _ (none_later xs x n before) (none_later ys y n before) (blocks_by_parts n)
        | inr after ↦ none_here xs x n after ∙ sym (none_here ys y n after)
      ])

  same_after : SameTypes (map_types x.after) (map_types y.after)
  same_after n =
      elim (cases_lt n (window * 256 + 256)) [
        | inl before ↦ none_later xs x n before ∙ sym (none_later ys y n before)
        | inr after ↦ second_same _ _ _ _ (none_here xs x n after) (none_here ys y n after) (blocks_by_parts n)
      ]

abbrev OneBlocks : ℕ → ℕ → Type 0
OneBlocks fuel least =
    (xs ys : List ℕ) → length xs ≤ fuel → IsBytes xs → IsBytes ys → blocks_after least 0 xs ≡ true → blocks_after least 0 ys ≡ true → SameTypes (map_types xs) (map_types ys) → xs ≡ ys

one_by : (fuel least : ℕ) (xs ys : List ℕ) → length xs ≤ fuel → IsBytes xs → IsBytes ys → blocks_after least 0 xs ≡ true → blocks_after least 0 ys ≡ true → SameTypes (map_types xs) (map_types ys)
    → xs ≡ ys
one_by fuel least [] [] few a b p q same = refl
one_by fuel least [] (v ∷ []) few a b p q same = absurd (false≢true q)
one_by fuel least [] (v ∷ t ∷ ps) few a b p q same = absurd (no_blocks v (v ∷ t ∷ ps) (block_of least v t ps b q) same)
one_by fuel least (w ∷ []) ys few a b p q same = absurd (false≢true p)
one_by fuel least (w ∷ s ∷ os) [] few a b p q same = absurd (no_blocks w (w ∷ s ∷ os) (block_of least w s os a p) (λ n. sym (same n)))
one_by fuel least (w ∷ s ∷ os) (v ∷ []) few a b p q same = absurd (false≢true q)
one_by zero least (w ∷ s ∷ os) (v ∷ t ∷ ps) few a b p q same = absurd (omega arith)
one_by (suc fuel) least (w ∷ s ∷ os) (v ∷ t ∷ ps) few a b p q same =
    elim (cases_lt w v) [
      | inl less ↦ absurd (no_lower least w v t (w ∷ s ∷ os) ps x b q less same)
      | inr more ↦ elim (cases_lt v w) [
        | inl less ↦ absurd (no_lower least v w s (v ∷ t ∷ ps) os y a p less (λ n. sym (same n)))
        | inr more' ↦ (let equal : v ≡ w = omega arith in equal_windows (subst (λ (k : ℕ). Block k (v ∷ t ∷ ps)) equal y) (one_by fuel (w + 1)))
      ]
    ] where
      x : Block w (w ∷ s ∷ os)
      x = block_of least w s os a p

      y : Block v (v ∷ t ∷ ps)
      y = block_of least v t ps b q

      equal_windows : Block w (v ∷ t ∷ ps) → OneBlocks fuel (w + 1) → w ∷ s ∷ os ≡ v ∷ t ∷ ps
      equal_windows z again =
          let bits = same_bits w (w ∷ s ∷ os) (v ∷ t ∷ ps) x z same in
          let less = after_size w (w ∷ s ∷ os) x in
          let after =
          again x.after z.after (omega (arith, less, few)) x.after_bytes z.after_bytes x.blocks z.blocks (same_after w (w ∷ s ∷ os) (v ∷ t ∷ ps) x z same) in
          x.whole ∙ (λ i. w ∷ length (bits i) ∷ (bits i ++ after i)) ∙ sym z.whole

-- bit maps of the same types below 65,536 are the same
same_maps : (xs ys : List ℕ) → IsBytes xs → IsBytes ys → is_type_map xs ≡ true → is_type_map ys ≡ true → ((n : ℕ) → n < 65536 → has (map_types xs) n ≡ has (map_types ys) n) → xs ≡ ys
same_maps xs ys a b p q below = one_by (length xs) 0 xs ys (omega arith) a b p q same where
  none_above : (zs : List ℕ) (n : ℕ) → IsBytes zs → is_type_map zs ≡ true → 65536 ≤ n → has (map_types zs) n ≡ false
  none_above zs n bytes is above = not_true _ (λ h. let small = map_bound (length zs) 0 n zs (omega arith) bytes is h in omega arith)

  same : SameTypes (map_types xs) (map_types ys)
  same n =
      elim (cases_lt n 65536) [
        | inl small ↦ below n small
        | inr above ↦ none_above xs n a p above ∙ sym (none_above ys n b q above)
      ]

-- types have one bit map
pub one_type_map : (types xs ys : List ℕ) → IsTypeMapOf types xs → IsTypeMapOf types ys → xs ≡ ys
one_type_map types xs ys a b = same_maps xs ys a.bytes b.bytes a.blocks b.blocks (λ n small. a.bits n small ∙ sym (b.bits n small))

-- Words represent at most one type map.
pub one_map : RepresentsOne IsTypeMap
one_map words xs ys a b =
    same_maps xs ys a.bytes b.bytes a.blocks b.blocks
    (λ n small. same_truth _ _ (λ h. (b.bits n small).1 ((a.bits n small).0 h)) (λ h. (a.bits n small).1 ((b.bits n small).0 h)))
