-- Printed salts and hashes read back.
use Rattle.std.proofs.Common.{ℕ, ◌≤◌, List, [], ◌∷◌, length, refl, arith, inl, inr}
use Rattle.hex.specs.Hex.{IsBytes}
use Rattle.fields_plain.specs.Salts.{salt_text, IsCounted, IsHashWord, IsSaltWord}
use Rattle.fields_text.specs.Base32.{base32_text}
use Rattle.fields_text.specs.Laws.{HexReadsBack}
use Rattle.fields_text.proofs.theory.Base32Lemmas.{base32_reads_back}

-- A salt that is printed is read back.
pub salts_read_back : HexReadsBack → (octets : List ℕ) → IsBytes octets → length octets ≤ 255 → IsSaltWord (salt_text octets) octets
salts_read_back hex [] bytes few = inl (refl, refl)
salts_read_back hex (o ∷ octets) bytes few = inr (hex (o ∷ octets) bytes, (omega arith, few))

-- A hash that is printed is read back.
pub hashes_read_back : (octets : List ℕ) → IsBytes octets → IsCounted octets → IsHashWord (base32_text octets) octets
hashes_read_back octets bytes counted = (base32_reads_back octets bytes, counted)
