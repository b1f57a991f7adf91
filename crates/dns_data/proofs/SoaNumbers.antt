-- The numbers in SOA data.
use Rattle.std.proofs.Common.{◌≡◌, ℕ, ◌+◌, ◌-◌, List, ◌++◌, take, drop, slice_range, ap, sym, ◌∙◌, arith}
use Rattle.std.proofs.lemmas.List.{take-append-drop, drop-drop}
use Rattle.std.specs.Int.{to_be_bytes, w32}
use Rattle.dns_name.specs.Names.{Labels, IsName}
use Rattle.dns_name.proofs.theory.LabelsLemmas.{length-uncompressed}
use Rattle.dns_data.specs.RecordData.{IsData}
use Rattle.dns_data.specs.Soa.{mname_of, rname_of, number_octets, soa_parts}
use Rattle.dns_data.specs.declared.soa.Soa.{Soa}

-- the number at an offset, and the octets after it
pub number_after : (b : List ℕ) (p n : ℕ) (rest : List ℕ) → to_be_bytes w32 n ≡ slice_range b p (p + 4) → rest ≡ drop (p + 4) b → to_be_bytes w32 n ++ rest ≡ drop p b
number_after b p n rest is after =
    let four : p + 4 - p ≡ 4 = omega arith in
    let here : to_be_bytes w32 n ≡ take 4 (drop p b) = is ∙ ap (λ k. take k (drop p b)) four in
    ap (λ (c : List ℕ). c ++ rest) here ∙ ap (λ (c : List ℕ). take 4 (drop p b) ++ c) (after ∙ sym (drop-drop 4 p b)) ∙ take-append-drop 4 (drop p b)

-- two names and the numbers are short enough to be RDATA
pub soa_is_data : {N : Type 0} (name : N → Labels) (soa : Soa N) → IsName (name (mname_of soa)) → IsName (name (rname_of soa)) → IsData (soa_parts name soa)
unfolding number_octets
soa_is_data name soa m r = record {
  names = (m, (r, tt));
  short =
      let a = length-uncompressed (name (mname_of soa)) in
      let b = length-uncompressed (name (rname_of soa)) in
      let x = m.short in
      let y = r.short in
      omega arith;
}
