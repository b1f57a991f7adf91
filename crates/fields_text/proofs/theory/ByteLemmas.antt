-- Octets, and those of parts of a list.
use Rattle.std.proofs.Common.{ℕ, zero, suc, ◌<◌, List, [], ◌∷◌, ◌++◌, arith, ◌≡◌, ◌==◌, true, drop, take}
use Rattle.hex.specs.Hex.{IsBytes}
use Rattle.std.specs.Prelude.{All, not}
use Rattle.std.proofs.lemmas.Bool.{false≢true}
use Rattle.std.proofs.lemmas.List.Elements.{All-cons, All-from_get_or, All-nil}
use Rattle.dns_name.specs.Names.{Labels, uncompressed}

-- octets and one more
pub bytes_more : (octets : List ℕ) (octet : ℕ) → IsBytes octets → octet < 256 → IsBytes (octets ++ octet ∷ [])
bytes_more [] octet bytes small zero = small
bytes_more [] octet bytes small (suc i) = omega arith
bytes_more (o ∷ octets) octet bytes small zero = bytes 0
bytes_more (o ∷ octets) octet bytes small (suc i) = bytes_more octets octet (λ i. bytes (suc i)) small i

-- A number that isn't equal to zero is positive.
pub nonzero : (x : ℕ) → not (x == 0) ≡ true → 0 < x
nonzero zero h = absurd (false≢true h)
nonzero (suc x) h = omega arith

-- The first of octets are octets.
pub bytes_front : (xs ys : List ℕ) → IsBytes (xs ++ ys) → IsBytes xs
bytes_front [] ys bytes i = omega arith
bytes_front (x ∷ xs) ys bytes zero = bytes 0
bytes_front (x ∷ xs) ys bytes (suc i) = bytes_front xs ys (λ k. bytes (suc k)) i

-- The last of octets are octets.
pub bytes_back : (xs ys : List ℕ) → IsBytes (xs ++ ys) → IsBytes ys
bytes_back [] ys bytes = bytes
bytes_back (x ∷ xs) ys bytes = bytes_back xs ys (λ i. bytes (suc i))

-- Octets and octets are octets.
pub bytes_append : (xs ys : List ℕ) → IsBytes xs → IsBytes ys → IsBytes (xs ++ ys)
bytes_append [] ys first second i = second i
bytes_append (x ∷ xs) ys first second zero = first 0
bytes_append (x ∷ xs) ys first second (suc i) = bytes_append xs ys (λ k. first (suc k)) second i

-- What is left of octets is octets.
pub bytes_drop : (k : ℕ) (xs : List ℕ) → IsBytes xs → IsBytes (drop k xs)
bytes_drop zero xs bytes i = bytes i
bytes_drop (suc k) [] bytes i = bytes i
bytes_drop (suc k) (x ∷ xs) bytes i = bytes_drop k xs (λ j. bytes (suc j)) i

-- Some first octets are octets.
pub bytes_take : (k : ℕ) (xs : List ℕ) → IsBytes xs → IsBytes (take k xs)
bytes_take zero xs bytes i = omega arith
bytes_take (suc k) [] bytes i = bytes i
bytes_take (suc k) (x ∷ xs) bytes zero = bytes 0
bytes_take (suc k) (x ∷ xs) bytes (suc i) = bytes_take k xs (λ j. bytes (suc j)) i

-- the octets of labels
abbrev pub OfOctets : List ℕ → Type 0
OfOctets label = All (λ octet. octet < 256) label

-- The labels of a name in octets are octets.
pub labels_of_octets : (name : Labels) → IsBytes (uncompressed name) → All OfOctets name
labels_of_octets [] bytes = All-nil OfOctets
labels_of_octets (label ∷ name) bytes =
    let own : IsBytes (label ++ uncompressed name) = λ i. bytes (suc i) in
    All-cons OfOctets label name (All-from_get_or (λ octet. octet < 256) label 0 (λ i h. bytes_front label (uncompressed name) own i))
    (labels_of_octets name (bytes_back label (uncompressed name) own))
