-- Words of salts and hashes: how many digits are 1 to 255 octets.
use Rattle.std.proofs.Common.{◌≡◌, ◌≢◌, ap, ℕ, ◌<◌, ◌≤◌, List, length, codes, inl, inr, arith, ◌∙◌, ◌++◌, refl}
use Rattle.std.specs.Prelude.{Result, Ok, Err, OnOk, IfErr}
use Rattle.std.specs.Global.{Vec}
use Rattle.hex.proofs.HexLemmas.{decode_of-ok}
use Rattle.fields_text.specs.Octets.{IsHex}
use Rattle.fields_text.specs.ReadOctets.{ReadsOctets, TakesMemory}
use Rattle.fields_text.specs.declared.text_error.TextError.{TextError}
use Rattle.fields_text.specs.declared.text_error.TextError.TheVariants.{OutOfMemory}
use Rattle.fields_text.specs.Base32Words.{IsBase32}
use Rattle.fields_plain.specs.Salts.{IsCountedHex, IsCounted, IsHashWord, IsSaltWord, IsHash, IsSalt}
use Rattle.fields_text.specs.Reading.{ReadsWords, AppendsOctets, Fails}
use Rattle.fields_text.proofs.theory.Base32Lemmas.{text_size, word_length}
use Rattle.fields_text.specs.LengthOctets.{counted}

-- base32
pub hash_digits : (word octets : List ℕ) → IsHashWord word octets → (0 < length word) × (length word ≤ 408)
hash_digits word octets is =
    let digits = word_length word octets is.0 in
    let size = text_size octets in
    let some = is.1.0 in
    let few = is.1.1 in
    (omega arith, omega arith)

hash_octets : (word octets : List ℕ) → IsBase32 word octets → 0 < length word → length word ≤ 408 → IsCounted octets
hash_octets word octets is some few =
    let digits = word_length word octets is in
    let size = text_size octets in
    (omega arith, omega arith)

-- A hash is read as its base32 is.
pub hash_read : (word : List ℕ) (result : Result (Vec ℕ) TextError) → 0 < length word → length word ≤ 408 → ReadsWords (IsBase32 word) result → ReadsWords (IsHashWord word) result
hash_read word (Ok octets) some few is = (is, hash_octets word octets.items is some few)
hash_read word (Err e) some few (inl memory) = let is = memory.1 in inl (memory.0, (is.0, (is.1, hash_octets word is.0 is.1 some few)))
hash_read word (Err e) some few (inr bad) = inr (bad.0, λ octets is. bad.1 octets is.0)

-- hexadecimal
pub hex_digits : (word octets : List ℕ) → IsCountedHex word octets → (0 < length word) × (length word ≤ 510)
hex_digits word octets is =
    let size = (decode_of-ok word octets is.0).2 in
    let some = is.1.0 in
    let few = is.1.1 in
    (omega arith, omega arith)

hex_octets : (word octets : List ℕ) → IsHex word octets → 0 < length word → length word ≤ 510 → IsCountedHex word octets
hex_octets word octets is some few = let size = (decode_of-ok word octets is).2 in (is, (omega arith, omega arith))

-- A salt is read as its hexadecimal digits are.
pub hex_read : (word : List ℕ) (result : Result (Vec ℕ) TextError) → 0 < length word → length word ≤ 510 → ReadsOctets (IsHex word) result → (result ≡ Err OutOfMemory → TakesMemory (IsHex word))
    → ReadsWords (IsCountedHex word) result
hex_read word (Ok octets) some few is full = hex_octets word octets.items is some few
hex_read word (Err e) some few (inl memory) full = let is = full (ap Err memory) in inl (memory, (is.0, hex_octets word is.0 is.1 some few))
hex_read word (Err e) some few (inr bad) full = inr (bad.0, λ octets is. bad.1 octets is.0)

-- a salt
pub salt_read : (word : List ℕ) (result : Result (Vec ℕ) TextError) → word ≢ codes "-" → ReadsWords (IsCountedHex word) result → ReadsWords (IsSaltWord word) result
salt_read word (Ok octets) other is = inr is
salt_read word (Err e) other (inl memory) = inl (memory.0, (memory.1.0, inr memory.1.1))
salt_read word (Err e) other (inr bad) = inr (bad.0, λ octets is. by_word octets is) where
  by_word : (octets : List ℕ) → IsSaltWord word octets → ⊥
  by_word octets (inl hyphen) = other hyphen.0
  by_word octets (inr is) = bad.1 octets is

-- a salt, and a hash
pub salt_appended : (word salt slice old new : List ℕ) (r : Result Unit TextError) → IsSaltWord word salt → slice ≡ salt → OnOk r (new ≡ old ++ counted slice) → IfErr r (λ error. error ≡ OutOfMemory)
    → AppendsOctets (IsSalt word) old new r
salt_appended word salt slice old new (Ok u) is same ok err = (counted salt, (salt, is, refl), ok ∙ ap (λ (xs : List ℕ). old ++ counted xs) same)
salt_appended word salt slice old new (Err e) is same ok err = inl (err, (counted salt, (salt, is, refl)))

-- Reading a salt fails as its word says.
pub salt_fails : (word : List ℕ) (e : TextError) → Fails (IsSaltWord word) e → Fails (IsSalt word) e
salt_fails word e (inl memory) = inl (memory.0, (counted memory.1.0, (memory.1.0, memory.1.1, refl)))
salt_fails word e (inr bad) = inr (bad.0, λ octets is. bad.1 is.0 is.1)

-- A hash is appended after its length.
pub hash_appended : (word hash slice old new : List ℕ) (r : Result Unit TextError) → IsHashWord word hash → slice ≡ hash → OnOk r (new ≡ old ++ counted slice) → IfErr r (λ error. error ≡ OutOfMemory)
    → AppendsOctets (IsHash word) old new r
hash_appended word hash slice old new (Ok u) is same ok err = (counted hash, (hash, is, refl), ok ∙ ap (λ (xs : List ℕ). old ++ counted xs) same)
hash_appended word hash slice old new (Err e) is same ok err = inl (err, (counted hash, (hash, is, refl)))

-- Reading a hash fails as its word says.
pub hash_fails : (word : List ℕ) (e : TextError) → Fails (IsHashWord word) e → Fails (IsHash word) e
hash_fails word e (inl memory) = inl (memory.0, (counted memory.1.0, (memory.1.0, memory.1.1, refl)))
hash_fails word e (inr bad) = inr (bad.0, λ octets is. bad.1 is.0 is.1)
