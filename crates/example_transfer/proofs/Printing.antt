-- What is printed for items, one after the other, and the lines of records.
use Rattle.std.proofs.Common.{◌≡◌, ◌∙◌, ℕ, inl, inr, Bool, Option, Some, Result, Ok, Err, OnOk, List, [], ◌∷◌, ◌++◌, drop}
use Rattle.std.proofs.Common.{length, ap, refl, sym, subst, append-nil, append_assoc, codes, arith}
use Rattle.std.specs.Fmt.{◌++?◌, decimal}
use Rattle.std.specs.Io.KnownBytes.{Appends}
use Rattle.std.proofs.lemmas.Bool.{cases_lt}
use Rattle.dns_message.specs.Names.{fault_of, labels}
use Rattle.dns_message.specs.Data.{Part, Octets, Layout, opaque_layout, opaque_text}
use Rattle.dns_message.specs.Fields.{class_word, data_text, definitions_of, named_parts, parts_of, record_line, record_text, rtype_of, type_layout, type_word, zone_name_text}
use Rattle.dns_message.specs.declared.fields.FieldData.{FieldData}
use Rattle.dns_message.specs.Records.{EncodedRecord, owner_of, class_of, ttl_of, data_of, IsThere, ReturnsLaidOut, up_to_rdata_end}
use Rattle.dns_message.specs.Show.{line}
use Rattle.dns_message.specs.declared.name.ParsedName.{ParsedName}
use Rattle.dns_message.specs.declared.record.Record.{Record}
use Rattle.dns_message.specs.declared.wire.ParseError.{ParseError}
use Rattle.dns_message.proofs.CallerLemmas.{appends_both, appends_none}
use Rattle.dns_message.specs.Transfers.Steps.{Item}
use Rattle.example_transfer.specs.Printed.{AreItemTexts, HasNoOctets, IsRecordText, IsRemovedText, octets_line, Prints, PrintsItem, PrintsItems}
use Rattle.example_transfer.specs.Printed.AreItemTexts.{none, more}
use Rattle.example_transfer.specs.Printed.IsRecordLine.{as_fields, as_octets}

module _ (by_ixfr : Bool) where
  -- from `old` to `new`, the writer got the texts of the items of `whole` that aren't in `left`; `first` was kept before them, and `kept` is then
  pub record PrintedUpTo (whole left : List Item) (first kept : List ℕ) (old new : Option (List ℕ)) : Type 0 where
    pub done : List ℕ
    pub appended : Appends old new done
    pub later : (text last : List ℕ) → AreItemTexts by_ixfr kept left text last → AreItemTexts by_ixfr first whole (done ++ text) last

  -- no text is printed at first
  pub none_printed : (whole : List Item) (first : List ℕ) (old : Option (List ℕ)) → PrintedUpTo whole whole first first old old
  none_printed whole first old = record { done = []; appended = appends_none old; later = λ text last h. h }

  -- the text of the next item is printed
  pub more_printed : (whole left xs : List Item) (x : Item) (first kept later : List ℕ) (a b c : Option (List ℕ)) → PrintedUpTo whole left first kept a b → left ≡ x ∷ xs
      → PrintsItem by_ixfr kept x later b c → PrintedUpTo whole xs first later a c
  more_printed whole left xs x first kept later a b c p is h = record {
    done = p.done ++ h.0;
    appended = appends_both a b c p.done h.0 p.appended h.2;
    later = λ text last k.
        subst (λ (l : List ℕ). AreItemTexts by_ixfr first whole l last) (sym (append_assoc p.done h.0 text))
        (p.later (h.0 ++ text) last (subst (λ (l : List Item). AreItemTexts by_ixfr kept l (h.0 ++ text) last) (sym is) (more h.0 h.1 k)));
  }

  -- all texts are printed if no item is left
  pub all_printed : (whole left : List Item) (first kept : List ℕ) (a b : Option (List ℕ)) → PrintedUpTo whole left first kept a b → left ≡ [] → PrintsItems by_ixfr first whole kept a b
  all_printed whole left first kept a b p is =
      let texts = p.later [] kept (subst (λ (l : List Item). AreItemTexts by_ixfr kept l [] kept) (sym is) none) in
      (p.done, subst (λ (l : List ℕ). AreItemTexts by_ixfr first whole l kept) (append-nil p.done) texts, p.appended)

  both_texts : {first kept last text texts : List ℕ} {xs ys : List Item} → AreItemTexts by_ixfr first xs text kept → AreItemTexts by_ixfr kept ys texts last
      → AreItemTexts by_ixfr first (xs ++ ys) (text ++ texts) last
  both_texts none k = k
  both_texts {first = first} {last = last} {texts = others} {xs = x ∷ xs} {ys = ys} (more {texts = texts} text h r) k =
      subst (λ (l : List ℕ). AreItemTexts by_ixfr first (x ∷ xs ++ ys) l last) (sym (append_assoc text texts others)) (more text h (both_texts r k))

  -- the texts of items are printed, and then those of others
  pub both_printed : (xs ys : List Item) (first kept last : List ℕ) (a b c : Option (List ℕ)) → PrintsItems by_ixfr first xs kept a b → PrintsItems by_ixfr kept ys last b c
      → PrintsItems by_ixfr first (xs ++ ys) last a c
  both_printed xs ys first kept last a b c h k = (h.0 ++ k.0, both_texts h.1 k.1, appends_both a b c h.0 k.0 h.2 k.2)

-- if the result is Ok, a text of this form is printed
pub on_printed : {X E : Type 0} (r : Result X E) (a b : Option (List ℕ)) (IsText : List ℕ → Type 0) (text : List ℕ) → IsText text → OnOk r (Appends a b text) → OnOk r (Prints IsText a b)
on_printed (Ok x) a b IsText text is h = (text, is, h)
on_printed (Err e) a b IsText text is h = h

-- a text of this form is printed, and what is kept stays
pub with_kept : {X E : Type 0} (r : Result X E) (a b : Option (List ℕ)) (IsText : List ℕ → Type 0) (kept : List ℕ) → OnOk r (Prints IsText a b)
    → OnOk r (Prints (λ text. IsText text × (kept ≡ kept)) a b)
with_kept (Ok x) a b IsText kept h = (h.0, (h.1, refl), h.2)
with_kept (Err e) a b IsText kept h = h

-- the line of a record is kept, and nothing is printed
pub line_kept : {X E : Type 0} (x : EncodedRecord) (r : Result X E) (old new : List ℕ) (a : Option (List ℕ)) → old ≡ [] → OnOk r (Prints (IsRecordText x) (Some old) (Some new))
    → OnOk r (Prints (λ text. (text ≡ []) × IsRecordText x new) a a)
line_kept x (Ok done) old new a is h =
    let same : new ≡ h.0 = h.2 ∙ ap (λ (l : List ℕ). l ++ h.0) is in ([], (refl, subst (λ (l : List ℕ). IsRecordText x l) (sym same) h.1), appends_none a)
line_kept x (Err e) old new a is h = h

-- a text is printed after another
pub after_text : {X E : Type 0} (r : Result X E) (a b c : Option (List ℕ)) (first second : List ℕ) → Appends a b first → OnOk r (Appends b c second) → OnOk r (Appends a c (first ++ second))
after_text (Ok x) a b c first second h k = appends_both a b c first second h k
after_text (Err e) a b c first second h k = k

-- the text of a record that is removed
pub removed_printed : {X E : Type 0} (x : EncodedRecord) (r : Result X E) (a b c : Option (List ℕ)) → Appends a b (codes "- ") → OnOk r (Prints (IsRecordText x) b c)
    → OnOk r (Prints (IsRemovedText x) a c)
removed_printed x (Ok done) a b c h k = (codes "- " ++ k.0, (k.0, k.1, refl), appends_both a b c (codes "- ") k.0 h k.2)
removed_printed x (Err e) a b c h k = k

-- a record that was read has its RDATA there
was_there : {D : Type 0} (type : D → ℕ) (parts : D → List Part) (x : EncodedRecord) (layout : Layout) (r : Record ParsedName D)
    → ReturnsLaidOut type parts x.octets x.entry layout (Ok r) → IsThere x.octets x.entry
was_there type parts x layout r returned =
    elim (cases_lt (length x.octets) x.entry.rdata_end) [
      | inl missing ↦ let e = returned.missing (λ there. omega arith) in cc e
      | inr there ↦ there
    ]

module _ (x : EncodedRecord) where
  -- the line of a record whose RDATA is the fields of its type
  pub fields_line : (r : Record ParsedName FieldData) → ReturnsLaidOut rtype_of parts_of x.octets x.entry (type_layout x.entry.rtype) (Ok r)
      → IsRecordText x (record_line labels r ++ codes "\n")
  fields_line r returned =
      let given = returned.gives (was_there rtype_of parts_of x (type_layout x.entry.rtype) r returned) in
      let is = given.0 in
      let parts = parts_of (data_of r) in
      inl (as_fields parts given.1
      (λ i. line (record_text (zone_name_text (is i).owner) (is i).ttl (is i).class (is i).rtype (data_text (named_parts (definitions_of (is i).rtype) parts)))))

  module _ {D : Type 0} (type_of : D → ℕ) (octets_of : D → List ℕ) (r : Record ParsedName D) where
    -- the line of a record whose RDATA isn't the fields of its type
    pub unknown_line : {R : Type 0} (other_type : R → ℕ) (other_parts : R → List Part) (e : ParseError)
        → ReturnsLaidOut other_type other_parts x.octets x.entry (type_layout x.entry.rtype) (Err e)
        → ReturnsLaidOut type_of (λ d. Octets (octets_of d) ∷ []) x.octets x.entry opaque_layout (Ok r)
        → IsRecordText x (octets_line type_of octets_of r)
    unknown_line other_type other_parts e refused returned =
        let there = was_there type_of (λ d. Octets (octets_of d) ∷ []) x opaque_layout r returned in
        let given = returned.gives there in
        let is = given.0 in
        let octets : octets_of (data_of r) ≡ drop x.entry.rdata_start (up_to_rdata_end x.octets x.entry) = let same = given.1.1 in cc same in
        inl (as_octets (fault_of e) (refused.gives there)
        (λ i. line (record_text (zone_name_text (is i).owner) (is i).ttl (is i).class (is i).rtype (opaque_text (octets i)))))

  -- RDATA that can't be read
  pub no_octets : {D : Type 0} (type : D → ℕ) (parts : D → List Part) (e : ParseError) → ReturnsLaidOut type parts x.octets x.entry opaque_layout (Err e) → HasNoOctets x
  no_octets type parts e returned = λ there. (fault_of e, returned.gives there)

-- what is printed of a record with its RDATA as octets
pub octets_printed : {D : Type 0} (type_of : D → ℕ) (octets_of : D → List ℕ) (r : Record ParsedName D) (owner : List ℕ) (ttl class rtype : ℕ) (octets : List ℕ)
    → owner ≡ zone_name_text (labels (owner_of r)) → ttl ≡ ttl_of r → class ≡ class_of r → rtype ≡ type_of (data_of r) → octets ≡ octets_of (data_of r)
    → Some owner ++? (Some (codes " ") ++?
    (Some (decimal ttl) ++?
    (Some (codes " ") ++? (Some (class_word class) ++? (Some (codes " ") ++? (Some (type_word rtype) ++? (Some (codes " ") ++? (Some (opaque_text octets) ++? Some (10 ∷ [])))))))))
    ≡ Some (octets_line type_of octets_of r)
octets_printed type_of octets_of r owner ttl class rtype octets o t c y d =
    ap Some (simp append_assoc) ∙ λ i. Some (line (record_text (o i) (t i) (c i) (y i) (opaque_text (d i))))
