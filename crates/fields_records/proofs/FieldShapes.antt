-- The part of a field of each shape: what holds of each part of the shape holds of it.
use Rattle.std.proofs.Common.{◌≡◌, ℕ, ◌+◌, ◌*◌, Bool, true, List, [], ◌∷◌, length, sym, subst, arith}
use Rattle.dns_name.specs.Names.{Labels}
use Rattle.dns_wire.specs.Parts.{Part}
use Rattle.dns_wire.specs.Parts.Part.{Octets, CompressibleName, UncompressedName}
use Rattle.dns_data.specs.Layout.{IsLaidOut}
use Rattle.dns_data.specs.Layout.Layout.{CharacterString, DomainName, End, Fixed, Rest, SizedOctets, UncompressedDomainName}

module _ (P : Part → Type 0) where
  -- n octets
  pub of_fixed : (n : ℕ) → ((octets : List ℕ) → length octets ≡ n → P (Octets octets)) → (part : Part) → IsLaidOut (Fixed n End) (part ∷ []) → P part
  of_fixed n own (Octets octets) laid = own octets laid.0
  of_fixed n own (CompressibleName name) laid = absurd laid
  of_fixed n own (UncompressedName lowers name) laid = absurd laid

  -- octets after their number
  pub of_counted : ((size : ℕ) (octets : List ℕ) → length octets ≡ size → P (Octets (size ∷ octets))) → (part : Part) → IsLaidOut (CharacterString End) (part ∷ []) → P part
  of_counted own (Octets []) laid = let sized = laid.0 in absurd (omega arith)
  of_counted own (Octets (size ∷ octets)) laid = let sized = laid.0 in own size octets (omega arith)
  of_counted own (CompressibleName name) laid = absurd laid
  of_counted own (UncompressedName lowers name) laid = absurd laid

  -- octets after their number of 16 bits
  pub of_sized : ((high low : ℕ) (octets : List ℕ) → length octets ≡ high * 256 + low → P (Octets (high ∷ low ∷ octets))) → (part : Part) → IsLaidOut (SizedOctets End) (part ∷ []) → P part
  of_sized own (Octets []) laid = let sized = laid.0 in absurd (omega arith)
  of_sized own (Octets (high ∷ [])) laid = let sized = laid.0 in absurd (omega arith)
  of_sized own (Octets (high ∷ low ∷ octets)) laid = let sized = laid.0 in own high low octets (omega arith)
  of_sized own (CompressibleName name) laid = absurd laid
  of_sized own (UncompressedName lowers name) laid = absurd laid

  -- names
  pub of_name : ((name : Labels) → P (CompressibleName name)) → (part : Part) → IsLaidOut (DomainName End) (part ∷ []) → P part
  of_name own (Octets octets) laid = absurd laid
  of_name own (CompressibleName name) laid = own name
  of_name own (UncompressedName lowers name) laid = absurd laid

  -- what is true of each uncompressed name is true of a part with the layout of an uncompressed name
  pub of_uncompressed : (pointers lowered : Bool) → ((lowers : Bool) (name : Labels) → P (UncompressedName lowers name)) → (part : Part)
      → IsLaidOut (UncompressedDomainName pointers lowered End) (part ∷ [])
      → P part
  of_uncompressed pointers lowered own (Octets octets) laid = absurd laid
  of_uncompressed pointers lowered own (CompressibleName name) laid = absurd laid
  of_uncompressed pointers lowered own (UncompressedName lowers name) laid = own lowers name

  -- all octets
  pub of_rest : (test : List ℕ → Bool) → ((octets : List ℕ) → test octets ≡ true → P (Octets octets)) → (part : Part) → IsLaidOut (Rest test) (part ∷ []) → P part
  of_rest test own part laid =
      let whole = laid.1 in
      let same : part ≡ Octets laid.0 = cc whole in
      subst P (sym same) (own laid.0 laid.2)
