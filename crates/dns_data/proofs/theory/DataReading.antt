-- At each offset the fields of a layout are there with one list of parts, or have one fault.
use Rattle.std.proofs.Common.{Bool, true, false, ◌≡◌, ℕ, ◌+◌, ◌-◌, ◌≤◌, ◌⊎◌, inl, inr, List, [], ◌∷◌, length, drop, slice_range, length-take, length-drop, ap, sym, ◌∙◌, refl, subst, arith}
use Rattle.std.proofs.lemmas.Bool.{cases_Bool}
use Rattle.std.proofs.lemmas.Bool.Decides.{leb_tells}
use Rattle.dns_name.specs.Names.{Fault, Labels, NameAt, FaultAt}
use Rattle.dns_octets.specs.declared.error.TheConstants.FormError.{BAD_POINTER}
use Rattle.dns_name.specs.Names.Fault.{ShortInput, Form}
use Rattle.dns_wire.specs.Parts.{Part, parts_size}
use Rattle.dns_wire.specs.Parts.Part.{Octets, CompressibleName, UncompressedName}
use Rattle.dns_name.specs.Unique.{same_name, encoded_short}
use Rattle.dns_name.proofs.theory.NameOrFaultLaws.{one_answer}
use Rattle.dns_name.proofs.theory.NameOrFaultLaws as names
use Rattle.dns_name.proofs.theory.ExtentLaws.{one_end, encoded_end, ends_in_octets}
use Rattle.dns_data.specs.Layout.{Layout, string_size, octets_size, may_be_encoded, DataAt, DataFaultAt}
use Rattle.dns_data.specs.Layout.Layout.{End, Rest, AtMost, Fixed, CharacterString, SizedOctets, DomainName, UncompressedDomainName}
use Rattle.dns_data.specs.Laws.{OneRdataOrFault}

module _ (b : List ℕ) where
  -- no offset has both a name and a fault
  pub name_or_fault : {p : ℕ} {name : Labels} {f : Fault} → NameAt b p name → FaultAt b p f → ⊥
  name_or_fault {name = name} x f = names.not_both b f name x (let short = encoded_short x in omega arith)

  -- the same name with the same end either may be encoded there or may not
  pub one_encoded : (pointers : Bool) (p : ℕ) (x y : Labels) (q r : ℕ) → x ≡ y → q ≡ r → may_be_encoded pointers x p q ≡ false → may_be_encoded pointers y p r ≡ true → ⊥
  one_encoded pointers p x y q r same end bad good =
      let no : may_be_encoded pointers y p r ≡ false = subst (λ (n : Labels). may_be_encoded pointers n p r ≡ false) same (subst (λ e. may_be_encoded pointers x p e ≡ false) end bad) in
      cc

  -- the number of octets in a range
  pub length-range : (p n : ℕ) → p + n ≤ length b → length (slice_range b p (p + n)) ≡ n
  length-range p n l = simp (length-take, length-drop) (omega arith)

  -- octets that are there are within the input
  pub range_within : (p n : ℕ) (octets : List ℕ) → p ≤ length b → length octets ≡ n → slice_range b p (p + n) ≡ octets → p + n ≤ length b
  range_within p n octets l size is =
      let long : length (slice_range b p (p + n)) ≡ n = ap length is ∙ size in
      let k = length-take (p + n - p) (drop p b) in
      let m = length-drop p b in
      omega arith

  -- RDATA ends within the octets
  pub data_within : (layout : Layout) (p q : ℕ) (parts : List Part) → p ≤ length b → DataAt b layout p q parts → q ≤ length b
  data_within End p q parts l h = let end = h.0 in omega arith
  data_within (Rest accepts) p q parts l h = let end = h.0 in omega arith
  data_within (AtMost n layout) p q parts l h = data_within layout p q parts l h.1
  data_within (Fixed n layout) p q [] l h = absurd h
  data_within (Fixed n layout) p q (CompressibleName x ∷ parts) l h = absurd h
  data_within (Fixed n layout) p q (UncompressedName a x ∷ parts) l h = absurd h
  data_within (Fixed n layout) p q (Octets x ∷ parts) l h = data_within layout (p + n) q parts (range_within p n x l h.0 h.1) h.2
  data_within (CharacterString layout) p q [] l h = absurd h
  data_within (CharacterString layout) p q (CompressibleName x ∷ parts) l h = absurd h
  data_within (CharacterString layout) p q (UncompressedName a x ∷ parts) l h = absurd h
  data_within (CharacterString layout) p q (Octets x ∷ parts) l h =
      let n = string_size b p in data_within layout (p + n) q parts (range_within p n x l h.0 h.1) h.2
  data_within (SizedOctets layout) p q [] l h = absurd h
  data_within (SizedOctets layout) p q (CompressibleName x ∷ parts) l h = absurd h
  data_within (SizedOctets layout) p q (UncompressedName a x ∷ parts) l h = absurd h
  data_within (SizedOctets layout) p q (Octets x ∷ parts) l h =
      let n = octets_size b p in data_within layout (p + n) q parts (range_within p n x l h.0 h.1) h.2
  data_within (DomainName layout) p q [] l h = absurd h
  data_within (DomainName layout) p q (Octets x ∷ parts) l h = absurd h
  data_within (DomainName layout) p q (CompressibleName x ∷ parts) l h = data_within layout h.0 q parts (ends_in_octets h.2) h.3
  data_within (DomainName layout) p q (UncompressedName a x ∷ parts) l h = absurd h
  data_within (UncompressedDomainName pointers lowercased layout) p q [] l h = absurd h
  data_within (UncompressedDomainName pointers lowercased layout) p q (Octets x ∷ parts) l h = absurd h
  data_within (UncompressedDomainName pointers lowercased layout) p q (CompressibleName x ∷ parts) l h = absurd h
  data_within (UncompressedDomainName pointers lowercased layout) p q (UncompressedName a x ∷ parts) l h = data_within layout h.0 q parts (ends_in_octets h.2) h.3

  -- at each offset the fields of a layout are there, or they have a fault
  pub rdata_or_fault : (layout : Layout) (p : ℕ) → ((q : ℕ) × (parts : List Part) × DataAt b layout p q parts) ⊎ ((f : Fault) × DataFaultAt b layout p f)
  rdata_or_fault End p = inl (p, [], (refl, refl))
  rdata_or_fault (Rest accepts) p = elim (cases_Bool (accepts (drop p b))) [
    | inl good ↦ inl (length b, Octets (drop p b) ∷ [], (refl, refl, good))
    | inr bad ↦ inr (ShortInput, (refl, λ good. cc (good, bad)))
  ]
  rdata_or_fault (AtMost n layout) p = elim (rdata_or_fault layout p) [
    | inl d ↦ elim (leb_tells (parts_size d.1) n) [
      | inl l ↦ inl (d.0, d.1, (l.1, d.2))
      | inr l ↦ inr (ShortInput, inr (d.0, d.1, d.2, l.1, refl))
    ]
    | inr f ↦ inr (f.0, inl f.1)
  ]
  rdata_or_fault (Fixed n layout) p = elim (leb_tells (p + n) (length b)) [
    | inl l ↦ elim (rdata_or_fault layout (p + n)) [
      | inl d ↦ inl (d.0, Octets (slice_range b p (p + n)) ∷ d.1, (length-range p n l.1, refl, d.2))
      | inr f ↦ inr (f.0, inr (l.1, f.1))
    ]
    | inr l ↦ inr (ShortInput, inl (refl, l.1))
  ]
  rdata_or_fault (CharacterString layout) p =
      let n = string_size b p in
      elim (leb_tells (p + n) (length b)) [
        | inl l ↦ elim (rdata_or_fault layout (p + n)) [
          | inl d ↦ inl (d.0, Octets (slice_range b p (p + n)) ∷ d.1, (length-range p n l.1, refl, d.2))
          | inr f ↦ inr (f.0, inr (l.1, f.1))
        ]
        | inr l ↦ inr (ShortInput, inl (refl, l.1))
      ]
  rdata_or_fault (SizedOctets layout) p =
      let n = octets_size b p in
      elim (leb_tells (p + n) (length b)) [
        | inl l ↦ elim (rdata_or_fault layout (p + n)) [
          | inl d ↦ inl (d.0, Octets (slice_range b p (p + n)) ∷ d.1, (length-range p n l.1, refl, d.2))
          | inr f ↦ inr (f.0, inr (l.1, f.1))
        ]
        | inr l ↦ inr (ShortInput, inl (refl, l.1))
      ]
  rdata_or_fault (DomainName layout) p = elim (one_answer b p) [
    | inl x ↦
        let w = encoded_end 0 x.1 x.2 in
        elim (rdata_or_fault layout w.0) [
          | inl d ↦ inl (d.0, CompressibleName x.0 ∷ d.1, (w.0, x.1, w.1, d.2))
          | inr f ↦ inr (f.0, inr (x.0, w.0, x.1, w.1, f.1))
        ]
    | inr f ↦ inr (f.0, inl f.1)
  ]
  rdata_or_fault (UncompressedDomainName pointers lowercased layout) p = elim (one_answer b p) [
    | inl x ↦
        let w = encoded_end 0 x.1 x.2 in
        elim (cases_Bool (may_be_encoded pointers x.0 p w.0)) [
          | inl good ↦ elim (rdata_or_fault layout w.0) [
            | inl d ↦ inl (d.0, UncompressedName lowercased x.0 ∷ d.1, (w.0, x.1, w.1, d.2, refl, good))
            | inr f ↦ inr (f.0, inr (inr (x.0, w.0, x.1, w.1, f.1, good)))
          ]
          | inr bad ↦ inr (Form BAD_POINTER, inr (inl (x.0, w.0, x.1, w.1, bad, refl)))
        ]
    | inr f ↦ inr (f.0, inl f.1)
  ]

  -- at each offset the fields of a layout have at most one end and one list of parts
  pub one_rdata : (layout : Layout) (p q r : ℕ) (xs ys : List Part) → DataAt b layout p q xs → DataAt b layout p r ys → (q ≡ r) × (xs ≡ ys)
  one_rdata End p q r xs ys h k = (h.0 ∙ sym k.0, h.1 ∙ sym k.1)
  one_rdata (Rest accepts) p q r xs ys h k = (h.0 ∙ sym k.0, h.1 ∙ sym k.1)
  one_rdata (AtMost n layout) p q r xs ys h k = one_rdata layout p q r xs ys h.1 k.1
  one_rdata (Fixed n layout) p q r [] ys h k = absurd h
  one_rdata (Fixed n layout) p q r (CompressibleName x ∷ xs) ys h k = absurd h
  one_rdata (Fixed n layout) p q r (UncompressedName a x ∷ xs) ys h k = absurd h
  one_rdata (Fixed n layout) p q r (Octets x ∷ xs) [] h k = absurd k
  one_rdata (Fixed n layout) p q r (Octets x ∷ xs) (CompressibleName y ∷ ys) h k = absurd k
  one_rdata (Fixed n layout) p q r (Octets x ∷ xs) (UncompressedName a y ∷ ys) h k = absurd k
  one_rdata (Fixed n layout) p q r (Octets x ∷ xs) (Octets y ∷ ys) h k =
      let after = one_rdata layout (p + n) q r xs ys h.2 k.2 in
      let same : x ≡ y = sym h.1 ∙ k.1 in
      (after.0, cc (same, after.1))
  one_rdata (CharacterString layout) p q r [] ys h k = absurd h
  one_rdata (CharacterString layout) p q r (CompressibleName x ∷ xs) ys h k = absurd h
  one_rdata (CharacterString layout) p q r (UncompressedName a x ∷ xs) ys h k = absurd h
  one_rdata (CharacterString layout) p q r (Octets x ∷ xs) [] h k = absurd k
  one_rdata (CharacterString layout) p q r (Octets x ∷ xs) (CompressibleName y ∷ ys) h k = absurd k
  one_rdata (CharacterString layout) p q r (Octets x ∷ xs) (UncompressedName a y ∷ ys) h k = absurd k
  one_rdata (CharacterString layout) p q r (Octets x ∷ xs) (Octets y ∷ ys) h k =
      let after = one_rdata layout (p + string_size b p) q r xs ys h.2 k.2 in
      let same : x ≡ y = sym h.1 ∙ k.1 in
      (after.0, cc (same, after.1))
  one_rdata (SizedOctets layout) p q r [] ys h k = absurd h
  one_rdata (SizedOctets layout) p q r (CompressibleName x ∷ xs) ys h k = absurd h
  one_rdata (SizedOctets layout) p q r (UncompressedName a x ∷ xs) ys h k = absurd h
  one_rdata (SizedOctets layout) p q r (Octets x ∷ xs) [] h k = absurd k
  one_rdata (SizedOctets layout) p q r (Octets x ∷ xs) (CompressibleName y ∷ ys) h k = absurd k
  one_rdata (SizedOctets layout) p q r (Octets x ∷ xs) (UncompressedName a y ∷ ys) h k = absurd k
  one_rdata (SizedOctets layout) p q r (Octets x ∷ xs) (Octets y ∷ ys) h k =
      let after = one_rdata layout (p + octets_size b p) q r xs ys h.2 k.2 in
      let same : x ≡ y = sym h.1 ∙ k.1 in
      (after.0, cc (same, after.1))
  one_rdata (DomainName layout) p q r [] ys h k = absurd h
  one_rdata (DomainName layout) p q r (Octets x ∷ xs) ys h k = absurd h
  one_rdata (DomainName layout) p q r (UncompressedName a x ∷ xs) ys h k = absurd h
  one_rdata (DomainName layout) p q r (CompressibleName x ∷ xs) [] h k = absurd k
  one_rdata (DomainName layout) p q r (CompressibleName x ∷ xs) (Octets y ∷ ys) h k = absurd k
  one_rdata (DomainName layout) p q r (CompressibleName x ∷ xs) (UncompressedName a y ∷ ys) h k = absurd k
  one_rdata (DomainName layout) p q r (CompressibleName x ∷ xs) (CompressibleName y ∷ ys) h k =
      let end : k.0 ≡ h.0 = one_end b k.2 h.2 in
      let after = one_rdata layout h.0 q r xs ys h.3 (subst (λ e. DataAt b layout e r ys) end k.3) in
      let same : x ≡ y = same_name b h.1 k.1 in
      (after.0, cc (same, after.1))
  one_rdata (UncompressedDomainName pointers lowercased layout) p q r [] ys h k = absurd h
  one_rdata (UncompressedDomainName pointers lowercased layout) p q r (Octets x ∷ xs) ys h k = absurd h
  one_rdata (UncompressedDomainName pointers lowercased layout) p q r (CompressibleName x ∷ xs) ys h k = absurd h
  one_rdata (UncompressedDomainName pointers lowercased layout) p q r (UncompressedName a x ∷ xs) [] h k = absurd k
  one_rdata (UncompressedDomainName pointers lowercased layout) p q r (UncompressedName a x ∷ xs) (Octets y ∷ ys) h k = absurd k
  one_rdata (UncompressedDomainName pointers lowercased layout) p q r (UncompressedName a x ∷ xs) (CompressibleName y ∷ ys) h k = absurd k
  one_rdata (UncompressedDomainName pointers lowercased layout) p q r (UncompressedName a x ∷ xs) (UncompressedName c y ∷ ys) h k =
      let end : k.0 ≡ h.0 = one_end b k.2 h.2 in
      let after = one_rdata layout h.0 q r xs ys h.3 (subst (λ e. DataAt b layout e r ys) end k.3) in
      let same : x ≡ y = same_name b h.1 k.1 in
      let alike : a ≡ c = h.4 ∙ sym k.4 in
      (after.0, cc (same, alike, after.1))

  -- at no offset the fields of a layout are there and have a fault too
  pub not_both : (layout : Layout) (p q : ℕ) (parts : List Part) (f : Fault) → p ≤ length b → DataAt b layout p q parts → DataFaultAt b layout p f → ⊥
  not_both End p q parts f l h k = k
  not_both (Rest accepts) p q parts f l h k = k.1 h.2
  not_both (AtMost n layout) p q parts f l h (inl k) = not_both layout p q parts f l h.1 k
  not_both (AtMost n layout) p q parts f l h (inr k) =
      let same = ap parts_size (one_rdata layout p q k.0 parts k.1 h.1 k.2).1 in
      let few = h.0 in
      let many = k.3 in
      omega arith
  not_both (Fixed n layout) p q [] f l h k = h
  not_both (Fixed n layout) p q (CompressibleName x ∷ parts) f l h k = h
  not_both (Fixed n layout) p q (UncompressedName a x ∷ parts) f l h k = h
  not_both (Fixed n layout) p q (Octets x ∷ parts) f l h (inl k) = let w = range_within p n x l h.0 h.1 in let short = k.1 in omega arith
  not_both (Fixed n layout) p q (Octets x ∷ parts) f l h (inr k) = not_both layout (p + n) q parts f k.0 h.2 k.1
  not_both (CharacterString layout) p q [] f l h k = h
  not_both (CharacterString layout) p q (CompressibleName x ∷ parts) f l h k = h
  not_both (CharacterString layout) p q (UncompressedName a x ∷ parts) f l h k = h
  not_both (CharacterString layout) p q (Octets x ∷ parts) f l h (inl k) =
      let w = range_within p (string_size b p) x l h.0 h.1 in
      let short = k.1 in
      omega arith
  not_both (CharacterString layout) p q (Octets x ∷ parts) f l h (inr k) = not_both layout (p + string_size b p) q parts f k.0 h.2 k.1
  not_both (SizedOctets layout) p q [] f l h k = h
  not_both (SizedOctets layout) p q (CompressibleName x ∷ parts) f l h k = h
  not_both (SizedOctets layout) p q (UncompressedName a x ∷ parts) f l h k = h
  not_both (SizedOctets layout) p q (Octets x ∷ parts) f l h (inl k) =
      let w = range_within p (octets_size b p) x l h.0 h.1 in
      let short = k.1 in
      omega arith
  not_both (SizedOctets layout) p q (Octets x ∷ parts) f l h (inr k) = not_both layout (p + octets_size b p) q parts f k.0 h.2 k.1
  not_both (DomainName layout) p q [] f l h k = h
  not_both (DomainName layout) p q (Octets x ∷ parts) f l h k = h
  not_both (DomainName layout) p q (CompressibleName x ∷ parts) f l h (inl k) = name_or_fault h.1 k
  not_both (DomainName layout) p q (CompressibleName x ∷ parts) f l h (inr k) =
      let end : k.1 ≡ h.0 = one_end b k.3 h.2 in
      not_both layout h.0 q parts f (ends_in_octets h.2) h.3 (subst (λ e. DataFaultAt b layout e f) end k.4)
  not_both (DomainName layout) p q (UncompressedName a x ∷ parts) f l h k = h
  not_both (UncompressedDomainName pointers lowercased layout) p q [] f l h k = h
  not_both (UncompressedDomainName pointers lowercased layout) p q (Octets x ∷ parts) f l h k = h
  not_both (UncompressedDomainName pointers lowercased layout) p q (CompressibleName x ∷ parts) f l h k = h
  not_both (UncompressedDomainName pointers lowercased layout) p q (UncompressedName a x ∷ parts) f l h (inl k) = name_or_fault h.1 k
  not_both (UncompressedDomainName pointers lowercased layout) p q (UncompressedName a x ∷ parts) f l h (inr (inl k)) =
      let end : k.1 ≡ h.0 = one_end b k.3 h.2 in
      let same : k.0 ≡ x = same_name b k.2 h.1 in
      one_encoded pointers p k.0 x k.1 h.0 same end k.4 h.5
  not_both (UncompressedDomainName pointers lowercased layout) p q (UncompressedName a x ∷ parts) f l h (inr (inr k)) =
      let end : k.1 ≡ h.0 = one_end b k.3 h.2 in
      not_both layout h.0 q parts f (ends_in_octets h.2) h.3 (subst (λ e. DataFaultAt b layout e f) end k.4)

  one_fault : (layout : Layout) (p : ℕ) (f g : Fault) → p ≤ length b → DataFaultAt b layout p f → DataFaultAt b layout p g → f ≡ g
  one_fault End p f g l h k = absurd h
  one_fault (Rest accepts) p f g l h k = h.0 ∙ sym k.0
  one_fault (AtMost n layout) p f g l (inl h) (inl k) = one_fault layout p f g l h k
  one_fault (AtMost n layout) p f g l (inl h) (inr k) = absurd (not_both layout p k.0 k.1 f l k.2 h)
  one_fault (AtMost n layout) p f g l (inr h) (inl k) = absurd (not_both layout p h.0 h.1 g l h.2 k)
  one_fault (AtMost n layout) p f g l (inr h) (inr k) = h.4 ∙ sym k.4
  one_fault (Fixed n layout) p f g l (inl h) (inl k) = h.0 ∙ sym k.0
  one_fault (Fixed n layout) p f g l (inl h) (inr k) = let short = h.1 in let long = k.0 in absurd (omega arith)
  one_fault (Fixed n layout) p f g l (inr h) (inl k) = let short = k.1 in let long = h.0 in absurd (omega arith)
  one_fault (Fixed n layout) p f g l (inr h) (inr k) = one_fault layout (p + n) f g h.0 h.1 k.1
  one_fault (CharacterString layout) p f g l (inl h) (inl k) = h.0 ∙ sym k.0
  one_fault (CharacterString layout) p f g l (inl h) (inr k) = let short = h.1 in let long = k.0 in absurd (omega arith)
  one_fault (CharacterString layout) p f g l (inr h) (inl k) = let short = k.1 in let long = h.0 in absurd (omega arith)
  one_fault (CharacterString layout) p f g l (inr h) (inr k) = one_fault layout (p + string_size b p) f g h.0 h.1 k.1
  one_fault (SizedOctets layout) p f g l (inl h) (inl k) = h.0 ∙ sym k.0
  one_fault (SizedOctets layout) p f g l (inl h) (inr k) = let short = h.1 in let long = k.0 in absurd (omega arith)
  one_fault (SizedOctets layout) p f g l (inr h) (inl k) = let short = k.1 in let long = h.0 in absurd (omega arith)
  one_fault (SizedOctets layout) p f g l (inr h) (inr k) = one_fault layout (p + octets_size b p) f g h.0 h.1 k.1
  one_fault (DomainName layout) p f g l (inl h) (inl k) = names.one_fault b h k
  one_fault (DomainName layout) p f g l (inl h) (inr k) = absurd (name_or_fault k.2 h)
  one_fault (DomainName layout) p f g l (inr h) (inl k) = absurd (name_or_fault h.2 k)
  one_fault (DomainName layout) p f g l (inr h) (inr k) =
      let end : k.1 ≡ h.1 = one_end b k.3 h.3 in
      one_fault layout h.1 f g (ends_in_octets h.3) h.4 (subst (λ e. DataFaultAt b layout e g) end k.4)
  one_fault (UncompressedDomainName pointers lowercased layout) p f g l (inl h) (inl k) = names.one_fault b h k
  one_fault (UncompressedDomainName pointers lowercased layout) p f g l (inl h) (inr (inl k)) = absurd (name_or_fault k.2 h)
  one_fault (UncompressedDomainName pointers lowercased layout) p f g l (inl h) (inr (inr k)) = absurd (name_or_fault k.2 h)
  one_fault (UncompressedDomainName pointers lowercased layout) p f g l (inr (inl h)) (inl k) = absurd (name_or_fault h.2 k)
  one_fault (UncompressedDomainName pointers lowercased layout) p f g l (inr (inr h)) (inl k) = absurd (name_or_fault h.2 k)
  one_fault (UncompressedDomainName pointers lowercased layout) p f g l (inr (inl h)) (inr (inl k)) = h.5 ∙ sym k.5
  one_fault (UncompressedDomainName pointers lowercased layout) p f g l (inr (inl h)) (inr (inr k)) =
      absurd (one_encoded pointers p h.0 k.0 h.1 k.1 (same_name b h.2 k.2) (one_end b h.3 k.3) h.4 k.5)
  one_fault (UncompressedDomainName pointers lowercased layout) p f g l (inr (inr h)) (inr (inl k)) =
      absurd (one_encoded pointers p k.0 h.0 k.1 h.1 (same_name b k.2 h.2) (one_end b k.3 h.3) k.4 h.5)
  one_fault (UncompressedDomainName pointers lowercased layout) p f g l (inr (inr h)) (inr (inr k)) =
      let end : k.1 ≡ h.1 = one_end b k.3 h.3 in
      one_fault layout h.1 f g (ends_in_octets h.3) h.4 (subst (λ e. DataFaultAt b layout e g) end k.4)

-- For each layout, RDATA has one value or one fault.
pub one_rdata_or_fault : OneRdataOrFault
one_rdata_or_fault b layout p l = record {
  some = rdata_or_fault b layout p;
  one = one_rdata b layout p;
  not_both = λ q parts f. not_both b layout p q parts f l;
  one_fault = λ f g. one_fault b layout p f g l;
}
