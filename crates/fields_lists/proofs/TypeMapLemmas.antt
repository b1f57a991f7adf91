-- Type bit maps and their types.
use Rattle.std.proofs.Common.{◌≡◌, ◌∙◌, ◌≢◌, ℕ, zero, suc, ◌+◌, ◌-◌, ◌*◌, ◌/◌, ◌%◌, ◌^◌, ◌<◌, ◌≤◌, ◌==◌, Bool, true, false, List, [], ◌∷◌, ◌++◌, length, drop, replicate, refl, sym, ap, subst, arith, inl, inr, append_assoc, append-nil, get_or, eq-eqb, le-leb, ◌↔◌, ◌⊎◌}
use Rattle.std.specs.Prelude.{IsTrue, Result, Ok, Err, Some, None, nat_le, nat_lt, ◌&&◌, ◌||◌, if◌then◌else◌}
use Rattle.std.specs.Borrow.{Bor}
use Rattle.std.specs.List.{list_any}
use Rattle.std.proofs.Math.Nat.{pow-suc}
use Rattle.std.proofs.lemmas.Bool.{and_parts, eqb-true, false≢true, lt-leb, or_cases}
use Rattle.std.proofs.lemmas.Bool.Decides.{nat_tests}
use Rattle.std.proofs.lemmas.List.{drop_all, drop_more}
use Rattle.std.proofs.lemmas.List.Folds.{list_any-append}
use Rattle.hex.specs.Hex.{IsBytes}
use Rattle.fields_lists.specs.Prefixes.{is_trimmed}
use Rattle.fields_lists.specs.TypeMaps.{bit_types, ends_nonzero, map_types, octet_types}
use Rattle.fields_text.specs.declared.text_error.TextError.{TextError}
use Rattle.fields_text.specs.declared.text_error.TextError.TheVariants.{BadWord, OutOfMemory}
use Rattle.fields_lists.specs.TypeBits.{AppendsBlock, AppendsBlocks, AppendsTypes, FailsAsTypes, IsBits, IsBlocks, block_of, is_within, octet_bits, octets_bits}
use Rattle.fields_lists.specs.TypeMapWords.{AreTypes, HasType, IsTypeMap, has}
use Rattle.fields_plain.specs.TypeWords.{IsTypeWord}
use Rattle.fields_lists.proofs.BlockLemmas.{block_bytes, map_more, more_blocks, weaken}
use Rattle.fields_text.proofs.theory.AppendLemmas.{starts_after}
use Rattle.fields_text.proofs.theory.ByteLemmas.{bytes_front}

-- The octets of bits are the first's and the others'.
pub octets_more : (p : ℕ → Bool) (first count : ℕ) → 0 < count → octets_bits p first count ≡ octet_bits p first 8 ∷ octets_bits p (first + 8) (count - 1)
octets_more p first zero some = absurd (omega arith)
octets_more p first (suc count) some =
    let same : count ≡ suc count - 1 = omega arith in
    ap (λ (k : ℕ). octet_bits p first 8 ∷ octets_bits p (first + 8) k) same

-- ranges of types
range_none : (lo n : ℕ) → (nat_le lo n && nat_lt n lo) ≡ false
range_none lo n = grind (arith, nat_tests)

range_one : (lo n : ℕ) → (nat_le lo n && nat_lt n (lo + 1)) ≡ (lo == n)
range_one lo n = grind (arith, nat_tests)

range_split : (lo mid hi n : ℕ) → lo ≤ mid → mid ≤ hi → (nat_le lo n && nat_lt n mid) || (nat_le mid n && nat_lt n hi) ≡ (nat_le lo n && nat_lt n hi)
range_split lo mid hi n a b = grind (arith, nat_tests)

and_false : (b : Bool) → b && false ≡ false
and_false true = refl
and_false false = refl

and_or : (b x y z : Bool) → x || y ≡ z → (b && x) || (b && y) ≡ b && z
and_or true x y z e = e
and_or false x y z e = refl

module _ (p : ℕ → Bool) where
  within_none : (lo hi n : ℕ) → hi ≡ lo → is_within p lo hi n ≡ false
  within_none lo hi n same =
      ap (λ (k : ℕ). p n && (nat_le lo n && nat_lt n k)) same ∙ ap (λ (b : Bool). p n && b) (range_none lo n) ∙ and_false (p n)

  within_split : (lo mid hi n : ℕ) → lo ≤ mid → mid ≤ hi → is_within p lo mid n || is_within p mid hi n ≡ is_within p lo hi n
  within_split lo mid hi n a b = and_or (p n) (nat_le lo n && nat_lt n mid) (nat_le mid n && nat_lt n hi) (nat_le lo n && nat_lt n hi) (range_split lo mid hi n a b)

  same_at : (lo n : ℕ) (b : Bool) → (lo == n) ≡ b → p n && b ≡ p lo && b
  same_at lo n true e = ap (λ (k : ℕ). p k && true) (sym (eqb-true lo n e))
  same_at lo n false e = and_false (p n) ∙ sym (and_false (p lo))

  within_one : (lo n : ℕ) → is_within p lo (lo + 1) n ≡ p lo && (lo == n)
  within_one lo n = ap (λ (b : Bool). p n && b) (range_one lo n) ∙ same_at lo n (lo == n) refl

  -- the spare bits of an octet are zero
  multiple : (first count m : ℕ) → m * 2 ^ count ≡ 256 → (k : ℕ) × (octet_bits p first count ≡ k * m)
  multiple first zero m e = (0, omega arith)
  multiple first (suc count) m e =
      let power : m * 2 ^ suc count ≡ m * (2 ^ count * 2) = ap (λ (x : ℕ). m * x) (pow-suc 2 count) in
      let half : m * 2 ^ count ≡ 128 = omega arith in
      let double : (m + m) * 2 ^ count ≡ 256 = omega arith in
      let low = multiple (first + 1) count (m + m) double in
      let whole = low.1 in
      let half_low : octet_bits p (first + 1) count / 2 ≡ low.0 * m = omega arith in
      elim (p first) as (λ b. (k : ℕ) × ((if b then 128 else 0) + octet_bits p (first + 1) count / 2 ≡ k * m)) [
        | true ↦ (2 ^ count + low.0, omega (arith, half, half_low))
        | false ↦ (low.0, omega (arith, half_low))
      ]

  below : (first count : ℕ) → octet_bits p first count < 256
  below first zero = omega arith
  below first (suc count) =
      let low = below (first + 1) count in
      elim (p first) as (λ b. (if b then 128 else 0) + octet_bits p (first + 1) count / 2 < 256) [ true ↦ omega arith | false ↦ omega arith ]

  -- the types of an octet
  by_bit : (first count low n : ℕ) (b : Bool) → p first ≡ b → low < 256 → low % 2 ≡ 0
      → has (bit_types count (first + 1) low) n ≡ is_within p (first + 1) (first + suc count) n
      → has (bit_types (suc count) first ((if b then 128 else 0) + low / 2)) n ≡ is_within p first (first + suc count) n
  by_bit first count low n true set small even rest =
      let high : nat_le 128 (128 + low / 2) ≡ true = le-leb 128 (128 + low / 2) (omega arith) in
      let left : (128 + low / 2) % 128 * 2 ≡ low = omega arith in
      let here : is_within p first (first + 1) n ≡ (first == n) = within_one first n ∙ ap (λ (b : Bool). b && (first == n)) set in
      ap (λ (b : Bool). has ((if b then first ∷ [] else []) ++ bit_types count (first + 1) ((128 + low / 2) % 128 * 2)) n) high
      ∙ ap (λ (o : ℕ). (first == n) || has (bit_types count (first + 1) o) n) left
      ∙ ap (λ (b : Bool). (first == n) || b) rest
      ∙ ap (λ (b : Bool). b || is_within p (first + 1) (first + suc count) n) (sym here)
      ∙ within_split first (first + 1) (first + suc count) n (omega arith) (omega arith)
  by_bit first count low n false set small even rest =
      let high : nat_le 128 (0 + low / 2) ≡ false = lt-leb 128 (0 + low / 2) (omega arith) in
      let left : (0 + low / 2) % 128 * 2 ≡ low = omega arith in
      let here : is_within p first (first + 1) n ≡ false = within_one first n ∙ ap (λ (b : Bool). b && (first == n)) set in
      ap (λ (b : Bool). has ((if b then first ∷ [] else []) ++ bit_types count (first + 1) ((0 + low / 2) % 128 * 2)) n) high
      ∙ ap (λ (o : ℕ). has (bit_types count (first + 1) o) n) left
      ∙ rest
      ∙ ap (λ (b : Bool). b || is_within p (first + 1) (first + suc count) n) (sym here)
      ∙ within_split first (first + 1) (first + suc count) n (omega arith) (omega arith)

  bits_are : (first count m n : ℕ) → m * 2 ^ count ≡ 256 → has (bit_types count first (octet_bits p first count)) n ≡ is_within p first (first + count) n
  bits_are first zero m n e = sym (within_none first (first + 0) n (omega arith))
  bits_are first (suc count) m n e =
      let power : m * 2 ^ suc count ≡ m * (2 ^ count * 2) = ap (λ (x : ℕ). m * x) (pow-suc 2 count) in
      let double : (m + m) * 2 ^ count ≡ 256 = omega arith in
      let low = multiple (first + 1) count (m + m) double in
      let whole = low.1 in
      let even : octet_bits p (first + 1) count % 2 ≡ 0 = omega arith in
      let end : first + 1 + count ≡ first + suc count = omega arith in
      by_bit first count (octet_bits p (first + 1) count) n (p first) refl (below (first + 1) count) even
      (bits_are (first + 1) count (m + m) n double ∙ ap (λ (k : ℕ). is_within p (first + 1) k n) end)

  -- the types of octets
  pub octets_are : (first count n : ℕ) → has (octet_types first (octets_bits p first count)) n ≡ is_within p first (first + 8 * count) n
  octets_are first zero n = sym (within_none first (first + 8 * 0) n (omega arith))
  octets_are first (suc count) n =
      let end : first + 8 + 8 * count ≡ first + 8 * suc count = omega arith in
      list_any-append (λ rtype. rtype == n) (bit_types 8 first (octet_bits p first 8)) (octet_types (first + 8) (octets_bits p (first + 8) count))
      ∙ ap (λ (b : Bool). b || has (octet_types (first + 8) (octets_bits p (first + 8) count)) n) (bits_are first 8 1 n refl)
      ∙ ap (λ (b : Bool). is_within p first (first + 8) n || b) (octets_are (first + 8) count n)
      ∙ ap (λ (k : ℕ). is_within p first (first + 8) n || is_within p (first + 8) k n) end
      ∙ within_split first (first + 8) (first + 8 * suc count) n (omega arith) (omega arith)

  octets_count : (first count : ℕ) → length (octets_bits p first count) ≡ count
  octets_count first zero = refl
  octets_count first (suc count) = let others = octets_count (first + 8) count in omega (arith, others)

  octets_bytes : (first count : ℕ) → IsBytes (octets_bits p first count)
  octets_bytes first zero i = omega arith
  octets_bytes first (suc count) zero = below first 8
  octets_bytes first (suc count) (suc i) = octets_bytes (first + 8) count i

-- each type of octets has a bit in them
high_range : (b : Bool) (first end n : ℕ) (others : List ℕ) → first < end → (has others n ≡ true → (first ≤ n) × (n < end)) → has ((if b then first ∷ [] else []) ++ others) n ≡ true
    → (first ≤ n) × (n < end)
high_range true first end n others low later h =
    elim (or_cases (first == n) (has others n) h) [
      | inl e ↦ (let same = eqb-true first n e in (omega arith, omega arith))
      | inr g ↦ later g
    ]
high_range false first end n others low later h = later h

-- A type of an octet's bits is among its eight.
pub bit_range : (count first octet n : ℕ) → has (bit_types count first octet) n ≡ true → (first ≤ n) × (n < first + count)
bit_range zero first octet n h = absurd (false≢true h)
bit_range (suc count) first octet n h =
    high_range (nat_le 128 octet) first (first + suc count) n (bit_types count (first + 1) (octet % 128 * 2)) (omega arith)
    (λ g. let later = bit_range count (first + 1) (octet % 128 * 2) n g in (omega arith, omega arith)) h

-- A type of octets is one of the first octet or of the others.
pub octet_cases : (octet first n : ℕ) (octets : List ℕ) → has (octet_types first (octet ∷ octets)) n ≡ true
    → (has (bit_types 8 first octet) n ≡ true) ⊎ (has (octet_types (first + 8) octets) n ≡ true)
octet_cases octet first n octets h =
    or_cases (has (bit_types 8 first octet) n) (has (octet_types (first + 8) octets) n)
    (sym (list_any-append (λ rtype. rtype == n) (bit_types 8 first octet) (octet_types (first + 8) octets)) ∙ h)

-- A type of octets is among those of their bits.
pub octet_range : (octets : List ℕ) (first n : ℕ) → has (octet_types first octets) n ≡ true → (first ≤ n) × (n < first + 8 * length octets)
octet_range [] first n h = absurd (false≢true h)
octet_range (o ∷ octets) first n h =
    elim (octet_cases o first n octets h) [
      | inl e ↦ (let here = bit_range 8 first o n e in (omega arith, omega arith))
      | inr g ↦ (let later = octet_range octets (first + 8) n g in (omega arith, omega arith))
    ]

-- zero octets at the end have no types
zeros_types : (k first : ℕ) → octet_types first (replicate k 0) ≡ []
zeros_types zero first = refl
zeros_types (suc k) first = zeros_types k (first + 8)

trimmed_types : (octets : List ℕ) (k first : ℕ) → octet_types first (octets ++ replicate k 0) ≡ octet_types first octets
trimmed_types [] k first = zeros_types k first
trimmed_types (x ∷ octets) k first = ap (λ (types : List ℕ). bit_types 8 first x ++ types) (trimmed_types octets k (first + 8))

-- Bits without zeros at the end are the bits of their types.
pub trimmed_is : (p : ℕ → Bool) (first count : ℕ) (octets bits : List ℕ) → octets ≡ octets_bits p first count → is_trimmed bits ≡ true → length bits ≤ length octets
    → octets ≡ bits ++ replicate (length octets - length bits) 0 → IsBits p first count bits
trimmed_is p first count octets bits all trim fits zeros = record {
  bytes = bytes_front bits (replicate (length octets - length bits) 0) (subst (λ (xs : List ℕ). IsBytes xs) (sym all ∙ zeros) (octets_bytes p first count));
  short = omega (arith, ap length all, octets_count p first count);
  trimmed = trim;
  types = λ n.
      ap (λ (types : List ℕ). has types n) (sym (trimmed_types bits (length octets - length bits) first))
      ∙ ap (λ (xs : List ℕ). has (octet_types first xs) n) (sym zeros ∙ all)
      ∙ octets_are p first count n;
}

-- a window without types
second : (a b : Bool) → a || b ≡ false → b ≡ false
second true b e = cc
second false b e = e

none_at : (t : ℕ) (types : List ℕ) (window n : ℕ) (b : Bool) → (t == n) ≡ b → n / 256 ≡ window → list_any (λ rtype. rtype / 256 == window) (t ∷ types) ≡ false
    → has types n ≡ false → b || has types n ≡ false
none_at t types window n true e at none rest =
    let same = eqb-true t n e in
    let here : t / 256 ≡ window = ap (λ (k : ℕ). k / 256) same ∙ at in
    absurd (false≢true (sym none ∙ ap (λ (b : Bool). b || list_any (λ rtype. rtype / 256 == window) types) (eq-eqb (t / 256) window here)))
none_at t types window n false e at none rest = rest

none_of : (types : List ℕ) (window n : ℕ) → n / 256 ≡ window → list_any (λ rtype. rtype / 256 == window) types ≡ false → has types n ≡ false
none_of [] window n at none = refl
none_of (t ∷ types) window n at none =
    none_at t types window n (t == n) refl at none
    (none_of types window n at (second (t / 256 == window) (list_any (λ rtype. rtype / 256 == window) types) none))

-- A test of the order of numbers.
pub within : (n m : ℕ) → nat_le n m ≡ true → n ≤ m
within n m h = grind (arith, nat_tests)

under : (n m : ℕ) → nat_lt n m ≡ true → n < m
under n m h = grind (arith, nat_tests)

-- A window without a type has no bits.
pub window_none : (types : List ℕ) (window : ℕ) → list_any (λ rtype. rtype / 256 == window) types ≡ false → IsBits (has types) (window * 256) 32 []
window_none types window none = record {
  bytes = λ i. omega arith;
  short = omega arith;
  trimmed = refl;
  types = λ n. sym (by_range n (nat_le (window * 256) n && nat_lt n (window * 256 + 256)) refl);
} where
  by_range : (n : ℕ) (b : Bool) → (nat_le (window * 256) n && nat_lt n (window * 256 + 256)) ≡ b → is_within (has types) (window * 256) (window * 256 + 256) n ≡ false
  by_range n true e =
      let parts = and_parts (nat_le (window * 256) n) (nat_lt n (window * 256 + 256)) e in
      let low = within (window * 256) n parts.0 in
      let high = under n (window * 256 + 256) parts.1 in
      let at : n / 256 ≡ window = omega arith in
      ap (λ (b : Bool). b && (nat_le (window * 256) n && nat_lt n (window * 256 + 256))) (none_of types window n at none)
  by_range n false e = ap (λ (b : Bool). has types n && b) e ∙ and_false (has types n)

-- a block that is empty or ends with an octet that isn't zero
pub ends_of : (octet : ℕ) (octets : List ℕ) → is_trimmed (octet ∷ octets) ≡ true → ends_nonzero (octet ∷ octets) ≡ true
ends_of octet [] trim = trim
ends_of octet (next ∷ octets) trim = ends_of next octets trim

-- blocks of windows
module _ (p : ℕ → Bool) where
  within_past : (lo hi n : ℕ) (b : Bool) → p n ≡ b → (p n ≡ true → n < lo) → is_within p lo hi n ≡ false
  within_past lo hi n false e low = ap (λ (c : Bool). c && (nat_le lo n && nat_lt n hi)) e
  within_past lo hi n true e low = let small = low e in ap (λ (c : Bool). c && (nat_le lo n && nat_lt n hi)) e ∙ grind (arith, nat_tests)

  -- After the last window, 255, there are no more blocks, and nothing is appended.
  pub blocks_none : (window : ℕ) (old : List ℕ) → window ≡ 256 → (blocks : List ℕ) × IsBlocks p window blocks × (old ≡ old ++ blocks)
  blocks_none window old last = (
    [],
    record { bytes = λ i. omega arith; shape = refl; types = λ n. sym (within_none p (window * 256) 65536 n (omega arith)) },
    sym (append-nil old),
  )

  -- So it is after the last window with types.
  pub blocks_past : (window end : ℕ) (old : List ℕ) → end ≤ window → ((n : ℕ) → p n ≡ true → n < end * 256) → (blocks : List ℕ) × IsBlocks p window blocks × (old ≡ old ++ blocks)
  blocks_past window end old past last = (
    [],
    record { bytes = λ i. omega arith; shape = refl; types = λ n. sym (within_past (window * 256) 65536 n (p n) refl (λ is. let small = last n is in omega arith)) },
    sym (append-nil old),
  )

  -- A block, if there are bits, and those of the windows after it are those from this window on.
  pub blocks_more : (window : ℕ) (bits after : List ℕ) → window < 256 → IsBits p (window * 256) 32 bits → IsBlocks p (window + 1) after → IsBlocks p window (block_of window bits ++ after)
  blocks_more window [] after small is others =
      let next : (window + 1) * 256 ≡ window * 256 + 256 = omega arith in
      record {
        bytes = others.bytes;
        shape = weaken window (window + 1) after (omega arith) others.shape;
        types = λ n.
            others.types n
            ∙ ap (λ (lo : ℕ). is_within p lo 65536 n) next
            ∙ ap (λ (b : Bool). b || is_within p (window * 256 + 256) 65536 n) (is.types n)
            ∙ within_split p (window * 256) (window * 256 + 256) 65536 n (omega arith) (omega arith);
      }
  blocks_more window (x ∷ xs) after small is others =
      let next : (window + 1) * 256 ≡ window * 256 + 256 = omega arith in
      record {
        bytes = block_bytes window (x ∷ xs) after small is.short is.bytes others.bytes;
        shape = more_blocks window window (x ∷ xs) after (omega arith) is.short (ends_of x xs is.trimmed) others.shape;
        types = λ n.
            ap (λ (types : List ℕ). has types n) (map_more window (x ∷ xs) after is.short)
            ∙ list_any-append (λ rtype. rtype == n) (octet_types (window * 256) (x ∷ xs)) (map_types after)
            ∙ ap (λ (b : Bool). b || has (map_types after) n) (is.types n)
            ∙ ap (λ (b : Bool). is_within p (window * 256) (window * 256 + 256) n || b) (others.types n)
            ∙ ap (λ (lo : ℕ). is_within p (window * 256) (window * 256 + 256) n || is_within p lo 65536 n) next
            ∙ within_split p (window * 256) (window * 256 + 256) 65536 n (omega arith) (omega arith);
      }

  -- If the block of a window is appended and then those of the windows after it, the blocks from this window on are appended.
  pub appends_blocks : (window : ℕ) (old middle new : List ℕ) (u : Unit {0}) (result : Result Unit TextError) → window < 256
      → AppendsBlock p window old middle (Ok u) → AppendsBlocks p (window + 1) middle new result → AppendsBlocks p window old new result
  appends_blocks window old middle new u (Ok v) small a b = (
    block_of window a.0 ++ b.0,
    blocks_more window a.0 b.0 small a.1 b.1,
    b.2 ∙ ap (λ (xs : List ℕ). xs ++ b.0) a.2 ∙ append_assoc old (block_of window a.0) b.0,
  )
  appends_blocks window old middle new u (Err e) small a b = (b.0, starts_after old (block_of window a.0) middle new a.2 b.1)

-- types of words
pub or_true : (b : Bool) → b || true ≡ true
or_true true = refl
or_true false = refl

module _ (word : Bor (List ℕ)) (words : List (Bor (List ℕ))) (k : ℕ) (types : List ℕ) (is : (n : ℕ) → IsTypeWord word.now n ↔ (Some k ≡ Some n))
    (others : (n : ℕ) → has types n ≡ true ↔ HasType words n) where
  -- If a type is that of the first word or one of the other words' types, one of the words represents it.
  pub has_type : (n : ℕ) (b : Bool) → (k == n) ≡ b → b || has types n ≡ true → HasType (word ∷ words) n
  has_type n true e h = inl ((is n).1 (ap (λ (m : ℕ). Some m) (eqb-true k n e)))
  has_type n false e h = inr ((others n).0 h)

  -- If one of the words represents a type, it is that of the first word or one of the other words' types.
  pub type_has : (n : ℕ) → HasType (word ∷ words) n → (k == n) || has types n ≡ true
  type_has n (inl w) =
      let same : k ≡ n = (let e = (is n).0 w in cc e) in
      ap (λ (b : Bool). b || has types n) (eq-eqb k n same)
  type_has n (inr h) = ap (λ (b : Bool). (k == n) || b) ((others n).1 h) ∙ or_true (k == n)

-- One more word adds its type.
pub types_more : (words : List (Bor (List ℕ))) (d : Bor (List ℕ)) (old pushed new : List ℕ) (k : ℕ) (result : Result Unit TextError) → 1 ≤ length words
    → ((n : ℕ) → IsTypeWord (get_or words 0 d).now n ↔ (Some k ≡ Some n)) → pushed ≡ old ++ k ∷ [] → AppendsTypes (drop 1 words) pushed new result → AppendsTypes words old new result
types_more [] d old pushed new k result some is e a = absurd (omega arith)
types_more (word ∷ words) d old pushed new k (Ok u) some is e a = (
  k ∷ a.0,
  a.1 ∙ ap (λ (xs : List ℕ). xs ++ a.0) e ∙ append_assoc old (k ∷ []) a.0,
  ((k, (is k).1 refl), a.2),
  λ n. (λ h. has_type word words k a.0 is a.3 n (k == n) refl h, λ h. type_has word words k a.0 is a.3 n h),
)
types_more (word ∷ words) d old pushed new k (Err f) some is e (inl memory) = inl (memory.0, ((k, (is k).1 refl), memory.1))
types_more (word ∷ words) d old pushed new k (Err f) some is e (inr bad) = inr (bad.0, λ all. bad.1 all.1)

-- Words whose first is no type are no types.
pub no_types : (words : List (Bor (List ℕ))) (d : Bor (List ℕ)) → 1 ≤ length words → ((n : ℕ) → IsTypeWord (get_or words 0 d).now n ↔ (None ≡ Some n)) → ¬ (AreTypes words)
no_types [] d some none all = omega arith
no_types (word ∷ words) d some none all = let e = (none all.0.0).0 all.0.1 in cc e

-- the word at an index
module _ (words : List (Bor (List ℕ))) (i : ℕ) (d : Bor (List ℕ)) (within : i < length words) where
  split_there : drop i words ≡ get_or words i d ∷ drop (i + 1) words
  split_there = drop_more words i d within

  -- If the type of the word at an index is added and then those of the words after it, those of the words from the index on are.
  pub type_at : (old pushed new : List ℕ) (k : ℕ) (result : Result Unit TextError) → ((n : ℕ) → IsTypeWord (get_or words i d).now n ↔ (Some k ≡ Some n)) → pushed ≡ old ++ k ∷ []
      → AppendsTypes (drop (i + 1) words) pushed new result → AppendsTypes (drop i words) old new result
  type_at old pushed new k result is e a =
      subst (λ (ws : List (Bor (List ℕ))). AppendsTypes ws old new result) (sym split_there) (types_more (get_or words i d ∷ drop (i + 1) words) d old pushed new k result (omega arith) is e a)

  none_there : ((n : ℕ) → IsTypeWord (get_or words i d).now n ↔ (None ≡ Some n)) → ¬ (AreTypes (drop i words))
  none_there none all = no_types (get_or words i d ∷ drop (i + 1) words) d (omega arith) none (subst AreTypes split_there all)

  -- If the word at an index is no type, the words from it on fail as a bad word.
  pub type_wrong : (old new : List ℕ) → ((n : ℕ) → IsTypeWord (get_or words i d).now n ↔ (None ≡ Some n)) → AppendsTypes (drop i words) old new (Err BadWord)
  type_wrong old new none = inr (refl, none_there none)

  -- If the word at an index is a type, like those before it, all words are types exactly if those after it are.
  pub types_left : (k : ℕ) → ((n : ℕ) → IsTypeWord (get_or words i d).now n ↔ (Some k ≡ Some n)) → AreTypes words ↔ AreTypes (drop i words) → AreTypes words ↔ AreTypes (drop (i + 1) words)
  types_left k is left = (
    λ all. (subst AreTypes split_there (left.0 all)).1,
    λ after. left.1 (subst AreTypes (sym split_there) ((k, (is k).1 refl), after)),
  )

  -- If the word at an index is no type, not all words are types.
  pub types_none : ((n : ℕ) → IsTypeWord (get_or words i d).now n ↔ (None ≡ Some n)) → AreTypes words ↔ AreTypes (drop i words) → IsTrue false ↔ AreTypes words
  types_none none left = (λ t. absurd (cc t), λ all. absurd (none_there none (left.0 all)))

-- After the last word nothing is added.
pub types_end : (words : List (Bor (List ℕ))) (i : ℕ) (now : List ℕ) (u : Unit {0}) → length words ≤ i → AppendsTypes (drop i words) now now (Ok u)
types_end words i now u past =
    subst (λ (ws : List (Bor (List ℕ))). AppendsTypes ws now now (Ok u)) (sym (drop_all i words past)) ([], sym (append-nil now), tt, λ n. (λ h. absurd (cc h), λ h. absurd h))

-- After the last word all are types.
pub types_all : (words : List (Bor (List ℕ))) (i : ℕ) → length words ≤ i → AreTypes words ↔ AreTypes (drop i words) → IsTrue true ↔ AreTypes words
types_all words i past left = (λ t. left.1 (subst AreTypes (sym (drop_all i words past)) tt), λ all. refl)

-- Words fail for want of memory if they are types, and else as a bad word.
pub why_types : (words : List (Bor (List ℕ))) (b : Bool) (e : TextError) → e ≡ (if b then OutOfMemory else BadWord) → IsTrue b ↔ AreTypes words → FailsAsTypes words e
why_types words true e is all = inl (is, all.0 refl)
why_types words false e is all = inr (is, λ are. cc (all.1 are))

-- a type is from 0 to 65,535
all_small : (n : ℕ) → n < 65536 → (nat_le 0 n && nat_lt n 65536) ≡ true
all_small n h = grind (arith, nat_tests)

-- If blocks are those of the types of words, they are the bit map of the words.
pub map_is : (words : List (Bor (List ℕ))) (types map : List ℕ) → AreTypes words → ((n : ℕ) → has types n ≡ true ↔ HasType words n) → IsBlocks (has types) 0 map → IsTypeMap words map
map_is words types map are represented blocks = record {
  types = are;
  bytes = blocks.bytes;
  blocks = blocks.shape;
  bits = λ n small. (
    λ h. (represented n).0 (and_parts (has types n) (nat_le 0 n && nat_lt n 65536) (sym (blocks.types n) ∙ h)).0,
    λ h. blocks.types n ∙ ap (λ (b : Bool). b && (nat_le 0 n && nat_lt n 65536)) ((represented n).1 h) ∙ all_small n small,
  );
}

-- Words of types are read as the map of their types.
pub map_read : (words : List (Bor (List ℕ))) (start types slice blank map : List ℕ) (u v : Unit {0}) → start ≡ [] → blank ≡ [] → slice ≡ types
    → AppendsTypes words start types (Ok u) → AppendsBlocks (has slice) 0 blank map (Ok v) → IsTypeMap words map
map_read words start types slice blank map u v none empty same a b =
    let whole : types ≡ a.0 = a.1 ∙ ap (λ (xs : List ℕ). xs ++ a.0) none in
    let blocks : map ≡ b.0 = b.2 ∙ ap (λ (xs : List ℕ). xs ++ b.0) empty in
    map_is words types map a.2
    (subst (λ (ts : List ℕ). (n : ℕ) → has ts n ≡ true ↔ HasType words n) (sym whole) a.3)
    (subst (IsBlocks (has types) 0) (sym blocks) (subst (λ (ts : List ℕ). IsBlocks (has ts) 0 b.0) same b.1))

-- Bits that aren't none make a block.
pub block_some : (window : ℕ) (bits : List ℕ) → length bits ≢ 0 → window ∷ length bits ∷ bits ≡ block_of window bits
block_some window [] some = absurd (some refl)
block_some window (x ∷ xs) some = refl
