-- A field, and the fields after it.
use Rattle.std.proofs.Common.{◌≡◌, ℕ, ◌+◌, ◌-◌, ◌<◌, ◌≤◌, inl, inr, Bool, List, [], ◌∷◌, length, take, drop, get_or, ap, sym, ◌∙◌, refl, subst, arith}
use Rattle.std.specs.Prelude.{Ok}
use Rattle.std.proofs.lemmas.List.{take_all}
use Rattle.dns_name.specs.Parsers.{seen, offset, MovesTo}
use Rattle.dns_name.specs.declared.parser.Parser.{Parser}
use Rattle.dns_name.specs.Names.{Fault, Labels}
use Rattle.dns_name.specs.Unique.{same_name}
use Rattle.dns_name.proofs.theory.ExtentLaws.{one_end}
use Rattle.dns_wire.specs.Parts.{Part, part_size}
use Rattle.dns_wire.specs.Parts.Part.{Octets as OctetsPart, CompressibleName, UncompressedName as UncompressedPart}
use Rattle.dns_data.specs.Layout.{Layout, string_size, octets_size, DataAt, DataFaultAt}
use Rattle.dns_data.specs.Layout.Layout.{Fixed, CharacterString, SizedOctets, DomainName, UncompressedDomainName}
use Rattle.dns_data.proofs.theory.DataReading.{length-range, range_within, name_or_fault, one_encoded}
use Rattle.fields_table.specs.declared.kind.Kind.{Kind}
use Rattle.fields_table.specs.declared.shape.Shape.{Shape}
use Rattle.fields_table.specs.declared.shape.Shape.TheVariants.{Octets, Counted, Sized, Name, UncompressedName, Rest}
use Rattle.fields_table.specs.Shapes.{shape_of}
use Rattle.fields_table.specs.Accepts.{accepts}
use Rattle.fields_table.specs.Table.{Field, Definition, definitions, kinds}
use Rattle.fields_table.specs.Layouts.{field_layout, layout_of, HasPart, HasField, PartFaultAt, FieldFaultAt}
use Rattle.fields_table.specs.Skipping.{Skips}
use Rattle.fields_table.specs.Values.{HasSize}

-- the layout of a first field and the others
pub layout_step : (kind : Kind) (ks : List Kind) (s : Shape) → s ≡ shape_of kind → layout_of (kind ∷ ks) ≡ field_layout s (accepts kind) (layout_of ks)
unfolding layout_of
layout_step kind ks s e = ap (λ (t : Shape). field_layout t (accepts kind) (layout_of ks)) (sym e)

module _ (b : List ℕ) where
  -- a field and RDATA after it are RDATA
  joined : (s : Shape) (test : List ℕ → Bool) (others : Layout) (p r q : ℕ) (part : Part) (ps : List Part) → HasPart b s test p r part → (s ≡ Rest → ⊥) → DataAt b others r q ps
      → DataAt b (field_layout s test others) p q (part ∷ ps)
  joined (Octets n) test others p r q part ps h not d =
      subst (λ (x : Part). DataAt b (Fixed n others) p q (x ∷ ps)) (sym h.1)
      (length-range b p n h.0, refl, subst (λ k. DataAt b others k q ps) h.2 d)
  joined Counted test others p r q part ps h not d =
      subst (λ (x : Part). DataAt b (CharacterString others) p q (x ∷ ps)) (sym h.1)
      (length-range b p (string_size b p) h.0, refl, subst (λ k. DataAt b others k q ps) h.2 d)
  joined Sized test others p r q part ps h not d =
      subst (λ (x : Part). DataAt b (SizedOctets others) p q (x ∷ ps)) (sym h.1)
      (length-range b p (octets_size b p) h.0, refl, subst (λ k. DataAt b others k q ps) h.2 d)
  joined Name test others p r q part ps h not d =
      subst (λ (x : Part). DataAt b (DomainName others) p q (x ∷ ps)) (sym h.1) (r, h.2, h.3, d)
  joined (UncompressedName pointers lowers) test others p r q part ps h not d =
      subst (λ (x : Part). DataAt b (UncompressedDomainName pointers lowers others) p q (x ∷ ps)) (sym h.1) (r, h.2, h.3, d, refl, h.4)
  joined Rest test others p r q part ps h not d = absurd (not refl)

  -- a field that takes all remaining octets is RDATA
  last : (test : List ℕ → Bool) (others : Layout) (p r : ℕ) (part : Part) → HasPart b Rest test p r part → DataAt b (field_layout Rest test others) p r (part ∷ [])
  last test others p r part h =
      (h.2, ap (λ (x : Part). let xs : List Part = x ∷ [] in xs) h.1, h.0)

  -- the fault of the first field, or that of a field after it
  first_fault : (s : Shape) (test : List ℕ → Bool) (others : Layout) (p : ℕ) (f : Fault) → PartFaultAt b s test p f → DataFaultAt b (field_layout s test others) p f
  first_fault (Octets n) test others p f h = inl h
  first_fault Counted test others p f h = inl h
  first_fault Sized test others p f h = inl h
  first_fault Name test others p f h = inl h
  first_fault (UncompressedName pointers lowers) test others p f (inl h) = inl h
  first_fault (UncompressedName pointers lowers) test others p f (inr h) = inr (inl h)
  first_fault Rest test others p f h = (h.0, λ good. let no = h.1 in cc)

  later_fault : (s : Shape) (test : List ℕ → Bool) (others : Layout) (p r : ℕ) (part : Part) (f : Fault) → HasPart b s test p r part → (s ≡ Rest → ⊥) → DataFaultAt b others r f
      → DataFaultAt b (field_layout s test others) p f
  later_fault (Octets n) test others p r part f h not d = inr (h.0, subst (λ k. DataFaultAt b others k f) h.2 d)
  later_fault Counted test others p r part f h not d = inr (h.0, subst (λ k. DataFaultAt b others k f) h.2 d)
  later_fault Sized test others p r part f h not d = inr (h.0, subst (λ k. DataFaultAt b others k f) h.2 d)
  later_fault Name test others p r part f h not d = inr (h.0, r, h.2, h.3, d)
  later_fault (UncompressedName pointers lowers) test others p r part f h not d = inr (inr (h.0, r, h.2, h.3, d, h.4))
  later_fault Rest test others p r part f h not d = absurd (not refl)

  -- The same by the kinds of fields.
  module _ (kind : Kind) (ks : List Kind) (s : Shape) (e : s ≡ shape_of kind) where
    -- a first field that doesn't take the rest, and RDATA of the fields after it, are RDATA of all these fields
    pub skipped : (p r q : ℕ) (part : Part) (ps : List Part) → HasField b kind s p r part → (s ≡ Rest → ⊥) → DataAt b (layout_of ks) r q ps → DataAt b (layout_of (kind ∷ ks)) p q (part ∷ ps)
    skipped p r q part ps h not d =
        subst (λ (x : Layout). DataAt b x p q (part ∷ ps)) (sym (layout_step kind ks s e)) (joined s (accepts kind) (layout_of ks) p r q part ps h not d)

    -- a first field that takes the rest is RDATA of all these fields, with its part alone
    pub skipped_last : (p r : ℕ) (part : Part) → HasField b kind s p r part → s ≡ Rest → DataAt b (layout_of (kind ∷ ks)) p r (part ∷ [])
    skipped_last p r part h is =
        let k : HasPart b Rest (accepts kind) p r part = subst (λ (t : Shape). HasPart b t (accepts kind) p r part) is h in
        let d = last (accepts kind) (layout_of ks) p r part k in
        let d' = subst (λ (t : Shape). DataAt b (field_layout t (accepts kind) (layout_of ks)) p r (part ∷ [])) (sym is) d in
        subst (λ (x : Layout). DataAt b x p r (part ∷ [])) (sym (layout_step kind ks s e)) d'

    -- a fault of the first field is the fault of the RDATA
    pub faults : (p : ℕ) (f : Fault) → FieldFaultAt b kind s p f → DataFaultAt b (layout_of (kind ∷ ks)) p f
    faults p f h = subst (λ (x : Layout). DataFaultAt b x p f) (sym (layout_step kind ks s e)) (first_fault s (accepts kind) (layout_of ks) p f h)

    -- if the first field is there and doesn't take the rest, a fault of the fields after it is the fault of the RDATA
    pub faults_later : (p r : ℕ) (part : Part) (f : Fault) → HasField b kind s p r part → (s ≡ Rest → ⊥) → DataFaultAt b (layout_of ks) r f
        → DataFaultAt b (layout_of (kind ∷ ks)) p f
    faults_later p r part f h not d =
        subst (λ (x : Layout). DataFaultAt b x p f) (sym (layout_step kind ks s e)) (later_fault s (accepts kind) (layout_of ks) p r part f h not d)

-- an encoded field has the size of its shape
pub has_size : (b : List ℕ) (s : Shape) (test : List ℕ → Bool) (p r : ℕ) (part : Part) → HasPart b s test p r part → HasSize s part
has_size b (Octets n) test p r part h = ap part_size h.1 ∙ length-range b p n h.0
has_size b Counted test p r part h = refl
has_size b Sized test p r part h = refl
has_size b Name test p r part h = refl
has_size b (UncompressedName pointers lowers) test p r part h = refl
has_size b Rest test p r part h = refl

-- No fields, and a first field before others.

-- No fields have no kinds.
pub no_fields : (fields : List Field) → length fields < 1 → kinds fields ≡ []
no_fields [] l = refl
no_fields (x ∷ xs) l = absurd (omega arith)

-- The kinds of fields are the first's kind and those of the others.
pub first_of_fields : (fields : List Field) (other : Field) → 1 ≤ length fields → kinds fields ≡ (get_or fields 0 other).1 ∷ kinds (take (length fields - 1) (drop 1 fields))
first_of_fields [] other l = absurd (omega arith)
first_of_fields (x ∷ xs) other l =
    let all : take (length (x ∷ xs) - 1) xs ≡ xs = take_all (length (x ∷ xs) - 1) xs (let e : length xs ≤ length (x ∷ xs) - 1 = omega arith in e) in
    ap (λ (l : List Field). x.1 ∷ kinds l) (sym all)

-- The definitions of fields are the first's and those of the others.
pub first_definition : (fields : List Field) (other : Field) → 1 ≤ length fields
    → definitions fields ≡ ((get_or fields 0 other).0.now, (get_or fields 0 other).1) ∷ definitions (take (length fields - 1) (drop 1 fields))
first_definition [] other l = absurd (omega arith)
first_definition (x ∷ xs) other l =
    let all : take (length (x ∷ xs) - 1) xs ≡ xs = take_all (length (x ∷ xs) - 1) xs (let e : length xs ≤ length (x ∷ xs) - 1 = omega arith in e) in
    ap (λ (l : List Field). let d : Definition = (x.0.now, x.1) in d ∷ definitions l) (sym all)

-- Skipping.

-- no fields are encoded at each offset
pub none_encoded : (b : List ℕ) (p : ℕ) → DataAt b (layout_of []) p p []
unfolding layout_of
none_encoded b p = (refl, refl)

-- without fields the parser doesn't move
pub none_skipped : (old : Parser) → Skips (layout_of []) old (Ok (record { parser = old; size = 0 }))
none_skipped old = (([], none_encoded (seen old) (offset old), refl), record { input = refl; seen = refl; offset = refl })

-- a field that was read, and the fields after it
module _ (kind : Kind) (ks : List Kind) (s : Shape) (e : s ≡ shape_of kind) (old mid : Parser) (part : Part)
    (h : HasField (seen old) kind s (offset old) (offset mid) part) (m : MovesTo old mid (offset mid)) where
  -- if the field that was read doesn't take the rest, the fault after it is the fault of all the RDATA from the first parser on
  pub skip_fault : (f : Fault) → (s ≡ Rest → ⊥) → DataFaultAt (seen mid) (layout_of ks) (offset mid) f → DataFaultAt (seen old) (layout_of (kind ∷ ks)) (offset old) f
  skip_fault f not d =
      faults_later (seen old) kind ks s e (offset old) (offset mid) part f h not (subst (λ (b : List ℕ). DataFaultAt b (layout_of ks) (offset mid) f) m.seen d)

-- RDATA as its first field and the rest.

-- the RDATA after a field
abbrev pub After : List ℕ → Shape → Layout → ℕ → ℕ → List Part → Type 0
After b (Octets n) others r q ps = DataAt b others r q ps
After b Counted others r q ps = DataAt b others r q ps
After b Sized others r q ps = DataAt b others r q ps
After b Name others r q ps = DataAt b others r q ps
After b (UncompressedName pointers lowers) others r q ps = DataAt b others r q ps
After b Rest others r q ps = (q ≡ r) × (ps ≡ [])

-- After a field that takes the rest there are no parts.
pub after_rest : (b : List ℕ) (s : Shape) (others : Layout) (r q : ℕ) (ps : List Part) → s ≡ Rest → After b s others r q ps → ps ≡ []
after_rest b (Octets n) others r q ps is h = cc is
after_rest b Counted others r q ps is h = cc is
after_rest b Sized others r q ps is h = cc is
after_rest b Name others r q ps is h = cc is
after_rest b (UncompressedName pointers lowers) others r q ps is h = cc is
after_rest b Rest others r q ps is h = h.1

-- A field that takes the rest ends where the RDATA does.
pub after_end : (b : List ℕ) (s : Shape) (others : Layout) (r q : ℕ) (ps : List Part) → s ≡ Rest → After b s others r q ps → q ≡ r
after_end b (Octets n) others r q ps is h = cc is
after_end b Counted others r q ps is h = cc is
after_end b Sized others r q ps is h = cc is
after_end b Name others r q ps is h = cc is
after_end b (UncompressedName pointers lowers) others r q ps is h = cc is
after_end b Rest others r q ps is h = h.0

-- After another field are the parts of the others.
pub after_other : (b : List ℕ) (s : Shape) (others : Layout) (r q : ℕ) (ps : List Part) → (s ≡ Rest → ⊥) → After b s others r q ps → DataAt b others r q ps
after_other b (Octets n) others r q ps not h = h
after_other b Counted others r q ps not h = h
after_other b Sized others r q ps not h = h
after_other b Name others r q ps not h = h
after_other b (UncompressedName pointers lowers) others r q ps not h = h
after_other b Rest others r q ps not h = absurd (not refl)

-- the first field of RDATA, and the rest
pub record First (b : List ℕ) (s : Shape) (test : List ℕ → Bool) (others : Layout) (p q : ℕ) (ps : List Part) : Type 0 where
  pub end : ℕ
  pub part : Part
  pub rest : List Part
  pub is : ps ≡ part ∷ rest
  pub has : HasPart b s test p end part
  pub after : After b s others end q rest

module _ (b : List ℕ) where
  taken_apart : (s : Shape) (test : List ℕ → Bool) (others : Layout) (p q : ℕ) (ps : List Part) → p ≤ length b → DataAt b (field_layout s test others) p q ps → First b s test others p q ps
  taken_apart (Octets n) test others p q [] l h = absurd h
  taken_apart (Octets n) test others p q (OctetsPart xs ∷ ps) l h =
      record { end = p + n; part = OctetsPart xs; rest = ps; is = refl; has = (range_within b p n xs l h.0 h.1, ap (λ (x : List ℕ). let y : Part = OctetsPart x in y) (sym h.1), refl); after = h.2 }
  taken_apart (Octets n) test others p q (CompressibleName x ∷ ps) l h = absurd h
  taken_apart (Octets n) test others p q (UncompressedPart a x ∷ ps) l h = absurd h
  taken_apart Counted test others p q [] l h = absurd h
  taken_apart Counted test others p q (OctetsPart xs ∷ ps) l h =
      let n = string_size b p in
      record { end = p + n; part = OctetsPart xs; rest = ps; is = refl; has = (range_within b p n xs l h.0 h.1, ap (λ (x : List ℕ). let y : Part = OctetsPart x in y) (sym h.1), refl); after = h.2 }
  taken_apart Counted test others p q (CompressibleName x ∷ ps) l h = absurd h
  taken_apart Counted test others p q (UncompressedPart a x ∷ ps) l h = absurd h
  taken_apart Sized test others p q [] l h = absurd h
  taken_apart Sized test others p q (OctetsPart xs ∷ ps) l h =
      let n = octets_size b p in
      record { end = p + n; part = OctetsPart xs; rest = ps; is = refl; has = (range_within b p n xs l h.0 h.1, ap (λ (x : List ℕ). let y : Part = OctetsPart x in y) (sym h.1), refl); after = h.2 }
  taken_apart Sized test others p q (CompressibleName x ∷ ps) l h = absurd h
  taken_apart Sized test others p q (UncompressedPart a x ∷ ps) l h = absurd h
  taken_apart Name test others p q [] l h = absurd h
  taken_apart Name test others p q (OctetsPart xs ∷ ps) l h = absurd h
  taken_apart Name test others p q (CompressibleName x ∷ ps) l h =
      record { end = h.0; part = CompressibleName x; rest = ps; is = refl; has = (x, refl, h.1, h.2); after = h.3 }
  taken_apart Name test others p q (UncompressedPart a x ∷ ps) l h = absurd h
  taken_apart (UncompressedName pointers lowers) test others p q [] l h = absurd h
  taken_apart (UncompressedName pointers lowers) test others p q (OctetsPart xs ∷ ps) l h = absurd h
  taken_apart (UncompressedName pointers lowers) test others p q (CompressibleName x ∷ ps) l h = absurd h
  taken_apart (UncompressedName pointers lowers) test others p q (UncompressedPart a x ∷ ps) l h =
      record { end = h.0; part = UncompressedPart a x; rest = ps; is = refl; has = (x, ap (λ (c : Bool). let y : Part = UncompressedPart c x in y) h.4, h.1, h.2, h.5); after = h.3 }
  taken_apart Rest test others p q ps l h =
      record { end = length b; part = OctetsPart (drop p b); rest = []; is = h.1; has = (h.2, refl, refl); after = (h.0, refl) }

  -- The same by the kinds of fields.
  pub first_field : (kind : Kind) (ks : List Kind) (s : Shape) → s ≡ shape_of kind → (p q : ℕ) (ps : List Part) → p ≤ length b → DataAt b (layout_of (kind ∷ ks)) p q ps
      → First b s (accepts kind) (layout_of ks) p q ps
  first_field kind ks s e p q ps l h = taken_apart s (accepts kind) (layout_of ks) p q ps l (subst (λ (x : Layout). DataAt b x p q ps) (layout_step kind ks s e) h)

  -- at most one field is encoded at an offset
  pub one_part : (s : Shape) (test : List ℕ → Bool) (p r t : ℕ) (x y : Part) → HasPart b s test p r x → HasPart b s test p t y → (r ≡ t) × (x ≡ y)
  one_part (Octets n) test p r t x y h k = (h.2 ∙ sym k.2, h.1 ∙ sym k.1)
  one_part Counted test p r t x y h k = (h.2 ∙ sym k.2, h.1 ∙ sym k.1)
  one_part Sized test p r t x y h k = (h.2 ∙ sym k.2, h.1 ∙ sym k.1)
  one_part Name test p r t x y h k =
      (one_end b h.3 k.3, h.1 ∙ (ap (λ (z : Labels). let w : Part = CompressibleName z in w) (same_name b h.2 k.2) ∙ sym k.1))
  one_part (UncompressedName pointers lowers) test p r t x y h k =
      (one_end b h.3 k.3, h.1 ∙ (ap (λ (z : Labels). let w : Part = UncompressedPart lowers z in w) (same_name b h.2 k.2) ∙ sym k.1))
  one_part Rest test p r t x y h k = (h.2 ∙ sym k.2, h.1 ∙ sym k.1)

  -- a field and a fault are never at the same offset
  part_or_fault : (s : Shape) (test : List ℕ → Bool) (p r : ℕ) (x : Part) (f : Fault) → HasPart b s test p r x → PartFaultAt b s test p f → ⊥
  part_or_fault (Octets n) test p r x f h k = let l = h.0 in let g = k.1 in omega arith
  part_or_fault Counted test p r x f h k = let l = h.0 in let g = k.1 in omega arith
  part_or_fault Sized test p r x f h k = let l = h.0 in let g = k.1 in omega arith
  part_or_fault Name test p r x f h k = name_or_fault b h.2 k
  part_or_fault (UncompressedName pointers lowers) test p r x f h (inl k) = name_or_fault b h.2 k
  part_or_fault (UncompressedName pointers lowers) test p r x f h (inr k) =
      one_encoded b pointers p k.0 h.0 k.1 r (same_name b k.2 h.2) (one_end b k.3 h.3) k.4 h.4
  part_or_fault Rest test p r x f h k = let g = h.0 in let n = k.1 in cc

  -- no offset has both a field and a fault of this field
  pub field_or_fault : (kind : Kind) (s : Shape) (p r : ℕ) (x : Part) (f : Fault) → HasField b kind s p r x → FieldFaultAt b kind s p f → ⊥
  field_or_fault kind s p r x f h k = part_or_fault s (accepts kind) p r x f h k
