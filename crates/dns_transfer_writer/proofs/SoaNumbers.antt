-- Octets that are several parts, as one.
use Rattle.std.proofs.Common.{◌≡◌, ◌∙◌, ℕ, ◌+◌, Bool, true, false, List, [], ◌∷◌, ◌++◌, ap, sym, refl, arith, length, length-append, drop, take, take-add}
use Rattle.std.proofs.lemmas.Grind.{common_steps}
use Rattle.std.specs.List.{slice_range}
use Rattle.dns_wire.specs.Parts.{Part, PartsAt}
use Rattle.dns_wire.specs.Parts.Part.{Octets, CompressibleName, UncompressedName}
use Rattle.dns_transfer.specs.Kinds.{octets_in}
use Rattle.dns_transfer_writer.specs.Reading.{has_no_name}

-- n octets from an offset
slice-is : (b : List ℕ) (p n : ℕ) → slice_range b p (p + n) ≡ take n (drop p b)
slice-is b p n = ap (λ k. take k (drop p b)) (omega arith)

-- n octets and the m octets after them
slices-join : (b : List ℕ) (p n m : ℕ) → slice_range b p (p + (n + m)) ≡ slice_range b p (p + n) ++ slice_range b (p + n) ((p + n) + m)
slices-join b p n m =
    let first = slice-is b p n in
    let second = slice-is b (p + n) m in
    let dropped : drop n (drop p b) ≡ drop (p + n) b = grind (arith, common_steps) in
    slice-is b p (n + m) ∙ take-add n m (drop p b) ∙ (λ i. sym first i ++ (ap (take m) dropped ∙ sym second) i)

-- Parts that are all octets are encoded as one part.
pub numbers-join : (b : List ℕ) (end p : ℕ) (numbers : List Part) → has_no_name numbers ≡ true → PartsAt b end p numbers → PartsAt b end p (Octets (octets_in numbers) ∷ [])
numbers-join b end p [] none at = (grind (arith, common_steps), omega (arith, at))
numbers-join b end p (CompressibleName name ∷ parts) none at = absurd (cc none)
numbers-join b end p (UncompressedName lowercased name ∷ parts) none at = absurd (cc none)
numbers-join b end p (Octets octets ∷ parts) none at =
    let later = numbers-join b end (p + length octets) parts none at.1 in
    let n = length-append octets (octets_in parts) in (
      ap (λ k. slice_range b p (p + k)) n ∙ slices-join b p (length octets) (length (octets_in parts)) ∙ (λ i. at.0 i ++ later.0 i),
      omega (arith, n, later.1),
    )
