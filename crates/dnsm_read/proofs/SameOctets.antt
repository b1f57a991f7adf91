-- Octets that are compared eight at a time.
use Rattle.std.proofs.Common.{◌≡◌, ℕ, ◌+◌, ◌-◌, ◌^◌, ◌<◌, ◌≤◌, List, [], ◌∷◌, ◌++◌, length, length-drop, take, drop, get_or, arith, ap, sym, ◌∙◌, refl}
use Rattle.std.specs.Prelude.{slice_range}
use Rattle.std.specs.Int.{to_le_bytes, from_le_bytes, w64}
use Rattle.std.proofs.lemmas.Nat.{from_le_bytes-to_le_bytes_8}
use Rattle.std.proofs.lemmas.List.{take-take, take_all, length-take-le}
use Rattle.std.proofs.Math.Seq.{take-add}

-- Eight octets are what they are one by one.
pub eight_octets : (xs : List ℕ) → length xs ≡ 8
    → get_or xs 0 0 ∷ (get_or xs 1 0 ∷ (get_or xs 2 0 ∷ (get_or xs 3 0 ∷ (get_or xs 4 0 ∷ (get_or xs 5 0 ∷ (get_or xs 6 0 ∷ (get_or xs 7 0 ∷ []))))))) ≡ xs
eight_octets (a ∷ b ∷ c ∷ d ∷ e ∷ f ∷ g ∷ h ∷ []) size = refl
eight_octets _ size = absurd (omega arith)

-- Eight of the octets are eight.
pub eight_there : (xs : List ℕ) (i j : ℕ) → j ≡ i + 8 → j ≤ length xs → length (slice_range xs i j) ≡ 8
eight_there xs i j end within =
    let left = length-drop i xs in
    let size = length-take-le (j - i) (drop i xs) (omega arith) in
    omega (arith, size, end)

-- Numbers whose eight octets are the same are the same.
pub same_numbers : (x y : ℕ) → x < 2 ^ 64 → y < 2 ^ 64 → to_le_bytes w64 x ≡ to_le_bytes w64 y → x ≡ y
same_numbers x y fits-x fits-y octets =
    sym (from_le_bytes-to_le_bytes_8 x fits-x) ∙ ap (from_le_bytes w64) octets ∙ from_le_bytes-to_le_bytes_8 y fits-y

-- Eight more octets are the same.
pub same_more : (a b : List ℕ) (i : ℕ) → take i a ≡ take i b → slice_range a i (i + 8) ≡ slice_range b i (i + 8) → take (i + 8) a ≡ take (i + 8) b
same_more a b i before eight =
    let k : i + 8 - i ≡ 8 = omega arith in
    let more : take 8 (drop i a) ≡ take 8 (drop i b) = ap (λ m. take m (drop i a)) (sym k) ∙ eight ∙ ap (λ m. take m (drop i b)) k in
    take-add i 8 a ∙ ap (λ (xs : List ℕ). xs ++ take 8 (drop i a)) before ∙ ap (λ (xs : List ℕ). take i b ++ xs) more ∙ sym (take-add i 8 b)

-- All octets are the same if the last eight are, and those before them.
pub same_whole : (a b : List ℕ) (i len : ℕ) → length a ≡ len → length b ≡ len → 8 ≤ len → len - i ≤ 8 → take i a ≡ take i b
    → slice_range a (len - 8) len ≡ slice_range b (len - 8) len → a ≡ b
same_whole a b i len la lb long low before eight =
    let n = len - 8 in
    let end : n + 8 ≡ len = omega arith in
    let first : take n a ≡ take n b = sym (take-take n i a (omega arith)) ∙ ap (take n) before ∙ take-take n i b (omega arith) in
    let last : slice_range a n (n + 8) ≡ slice_range b n (n + 8) = ap (slice_range a n) end ∙ eight ∙ ap (slice_range b n) (sym end) in
    sym (take_all (n + 8) a (omega arith)) ∙ same_more a b n first last ∙ take_all (n + 8) b (omega arith)
