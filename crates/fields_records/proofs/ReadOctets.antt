-- The octets of RDATA that is read of octets are octets.
use Rattle.std.proofs.Common.{◌≡◌, ℕ, zero, suc, ◌+◌, ◌-◌, ◌<◌, List, [], ◌∷◌, length, drop, refl, sym, subst, arith, length-take}
use Rattle.std.specs.Prelude.{slice_range}
use Rattle.hex.specs.Hex.{IsBytes}
use Rattle.dns_name.specs.Names.{Labels, NameAt, framed, uncompressed}
use Rattle.dns_name.specs.Names.NameAt.{label, pointer, root}
use Rattle.dns_wire.specs.Parts.{Part}
use Rattle.dns_wire.specs.Parts.Part.{Octets, CompressibleName, UncompressedName}
use Rattle.dns_data.specs.Layout.{DataAt, Layout, octets_size, string_size}
use Rattle.dns_data.specs.Layout.Layout.{End, AtMost, Rest, Fixed, CharacterString, SizedOctets, DomainName, UncompressedDomainName}
use Rattle.fields_table.specs.DataOrders.{octets_of_parts}
use Rattle.fields_text.proofs.theory.ByteLemmas.{bytes_append, bytes_drop, bytes_take}

no_octets : IsBytes []
no_octets i = omega arith

-- a label after its length
framed_octets : (own : List ℕ) → length own < 256 → IsBytes own → IsBytes (framed own)
framed_octets own short is zero = short
framed_octets own short is (suc i) = is i

module _ (b : List ℕ) (bytes : IsBytes b) where
  range_octets : (p q : ℕ) (octets : List ℕ) → slice_range b p q ≡ octets → IsBytes octets
  range_octets p q octets e = subst IsBytes e (bytes_take (q - p) (drop p b) (bytes_drop p b bytes))

  -- if a name is encoded in octets below 256, its uncompressed encoding consists of octets below 256
  pub name_octets : {p : ℕ} {name : Labels} → NameAt b p name → IsBytes (uncompressed name)
  name_octets (root h) = framed_octets [] (omega arith) no_octets
  name_octets (label {p = p} {n = n} {name = name} h inside at short) =
      let own = slice_range b (p + 1) (p + 1 + n) in
      let size = length-take (p + 1 + n - (p + 1)) (drop (p + 1) b) in
      bytes_append (framed own) (uncompressed name) (framed_octets own (omega (arith, size, short)) (range_octets (p + 1) (p + 1 + n) own refl)) (name_octets at)
  name_octets (pointer h back at) = name_octets at

  pub data_octets : (layout : Layout) (p q : ℕ) (parts : List Part) → DataAt b layout p q parts → IsBytes (octets_of_parts parts)
  data_octets End p q parts h = subst (λ (ps : List Part). IsBytes (octets_of_parts ps)) (sym h.1) no_octets
  data_octets (Rest test) p q parts h = subst (λ (ps : List Part). IsBytes (octets_of_parts ps)) (sym h.1) (bytes_append (drop p b) [] (bytes_drop p b bytes) no_octets)
  data_octets (AtMost n layout) p q parts h = data_octets layout p q parts h.1
  data_octets (Fixed n layout) p q [] h = absurd h
  data_octets (Fixed n layout) p q (Octets own ∷ parts) h =
      bytes_append own (octets_of_parts parts) (range_octets p (p + n) own h.1) (data_octets layout (p + n) q parts h.2)
  data_octets (Fixed n layout) p q (CompressibleName name ∷ parts) h = absurd h
  data_octets (Fixed n layout) p q (UncompressedName flag name ∷ parts) h = absurd h
  data_octets (CharacterString layout) p q [] h = absurd h
  data_octets (CharacterString layout) p q (Octets own ∷ parts) h =
      bytes_append own (octets_of_parts parts) (range_octets p (p + string_size b p) own h.1) (data_octets layout (p + string_size b p) q parts h.2)
  data_octets (CharacterString layout) p q (CompressibleName name ∷ parts) h = absurd h
  data_octets (CharacterString layout) p q (UncompressedName flag name ∷ parts) h = absurd h
  data_octets (SizedOctets layout) p q [] h = absurd h
  data_octets (SizedOctets layout) p q (Octets own ∷ parts) h =
      bytes_append own (octets_of_parts parts) (range_octets p (p + octets_size b p) own h.1) (data_octets layout (p + octets_size b p) q parts h.2)
  data_octets (SizedOctets layout) p q (CompressibleName name ∷ parts) h = absurd h
  data_octets (SizedOctets layout) p q (UncompressedName flag name ∷ parts) h = absurd h
  data_octets (DomainName layout) p q [] h = absurd h
  data_octets (DomainName layout) p q (Octets own ∷ parts) h = absurd h
  data_octets (DomainName layout) p q (CompressibleName name ∷ parts) h = bytes_append (uncompressed name) (octets_of_parts parts) (name_octets h.1) (data_octets layout h.0 q parts h.3)
  data_octets (DomainName layout) p q (UncompressedName flag name ∷ parts) h = absurd h
  data_octets (UncompressedDomainName pointers lowers layout) p q [] h = absurd h
  data_octets (UncompressedDomainName pointers lowers layout) p q (Octets own ∷ parts) h = absurd h
  data_octets (UncompressedDomainName pointers lowers layout) p q (CompressibleName name ∷ parts) h = absurd h
  data_octets (UncompressedDomainName pointers lowers layout) p q (UncompressedName flag name ∷ parts) h =
      bytes_append (uncompressed name) (octets_of_parts parts) (name_octets h.1) (data_octets layout h.0 q parts h.3)
