-- RDATA of the types of RFC 1035 with names: the names and the octets beside them are the fields of its type.
use Rattle.std.proofs.Common.{◌≡◌, ℕ, zero, suc, ◌*◌, ◌+◌, ◌≤◌, Bool, true, false, List, [], ◌∷◌, ◌++◌, length, length-append, length-drop, take, drop, arith, ap, sym, ◌∙◌, subst, refl, append-nil}
use Rattle.std.specs.Prelude.{if◌then◌else◌, ◌==◌}
use Rattle.std.proofs.lemmas.Bool.Decides.{Decides-eqb}
use Rattle.std.proofs.lemmas.List.{length-take-le, take-append-drop}
use Rattle.dns_name.specs.Names.{uncompressed}
use Rattle.dns_name.proofs.theory.LabelsLemmas.{length-uncompressed}
use Rattle.dns_wire.specs.Parts.{Part, AreParts, parts_size}
use Rattle.dns_wire.specs.Parts.Part.{Octets, CompressibleName}
use Rattle.dns_data.specs.Layout.{Layout as Fields, IsLaidOut, DataAt}
use Rattle.dns_data.specs.Layout.Layout.{AtMost, DomainName, End, Fixed}
use Rattle.fields_table.specs.DataOrders.{octets_of_parts}
use Rattle.fields_table.specs.FieldData.{type_layout as fields_layout}
use Rattle.fields_table.specs.Layouts.{layout_of as kinds_layout, most}
use Rattle.fields_table.specs.RecordTypes.{record_types}
use Rattle.fields_table.specs.Table.{definitions_of}
use Rattle.fields_table.specs.UncompressedData.{IsUncompressedData}
use Rattle.fields_table.proofs.theory.UncompressedOctets.{parts_read}
use Rattle.dnsm_put.specs.declared.draft.PutItem.{PutItem}
use Rattle.dnsm_put.specs.declared.rdata.Layout.{Layout}
use Rattle.dnsm_put.specs.declared.rdata.Layout.TheVariants.{Name, TwoNames, Plain}
use Rattle.dnsm_put.specs.Rdata.{HasFields, IsTypeData, data_type, layout_of, type_layout}

-- numbers of four octets
abbrev numbers : ℕ → Fields
numbers zero = End
numbers (suc k) = Fixed 4 (numbers k)

abbrev number_parts : ℕ → List ℕ → List Part
number_parts zero xs = []
number_parts (suc k) xs = Octets (take 4 xs) ∷ number_parts k (drop 4 xs)

record AreNumbers (k : ℕ) (xs : List ℕ) : Type 0 where
  are : AreParts (number_parts k xs)
  laid : IsLaidOut (numbers k) (number_parts k xs)
  size : parts_size (number_parts k xs) ≡ length xs
  same : octets_of_parts (number_parts k xs) ≡ xs

are_numbers : (k : ℕ) (xs : List ℕ) → length xs ≡ 4 * k → AreNumbers k xs
are_numbers zero [] e = record { are = tt; laid = refl; size = refl; same = refl }
are_numbers zero (x ∷ xs) e = absurd (omega arith)
are_numbers (suc k) xs e =
    let left = length-drop 4 xs in
    let first : length (take 4 xs) ≡ 4 = length-take-le 4 xs (omega arith) in
    let r = are_numbers k (drop 4 xs) (omega arith) in
    let size = r.size in
    record {
      are = r.are;
      laid = (first, r.laid);
      size = omega arith;
      same = ap (λ (c : List ℕ). take 4 xs ++ c) r.same ∙ take-append-drop 4 xs;
    }

-- The fields of a record type are these names and octets.
abbrev FieldsAre : Layout → ℕ → Type 0
FieldsAre (Name zero) rtype = fields_layout rtype ≡ AtMost most (DomainName End)
FieldsAre (Name (suc n)) rtype = (n ≤ 1) × (fields_layout rtype ≡ AtMost most (Fixed (suc n) (DomainName End)))
FieldsAre (TwoNames n) rtype = (k : ℕ) × (n ≡ 4 * k) × (k ≤ 5) × (fields_layout rtype ≡ AtMost most (DomainName (DomainName (numbers k))))
FieldsAre Plain rtype = Unit {0}

-- parts of this layout are RDATA
data_of : (l : Fields) (rtype : ℕ) (rdata : List ℕ) (parts : List Part) → fields_layout rtype ≡ l → AreParts parts → IsLaidOut l parts → octets_of_parts parts ≡ rdata
    → IsUncompressedData rtype rdata parts
data_of l rtype rdata parts layout are laid same =
    let P : Fields → Type 0 = λ l. IsLaidOut l parts in
    let Q : List ℕ → Type 0 = λ xs. DataAt xs (fields_layout rtype) 0 (length xs) parts in
    record { fields = subst Q same (parts_read (fields_layout rtype) parts are (subst P (sym layout) laid)); uncompressed = same }

some_data : (l : Layout) (rtype : ℕ) (rdata : List ℕ) → FieldsAre l rtype → (l ≡ Plain → ⊥) → HasFields l rdata → (parts : List Part) × IsUncompressedData rtype rdata parts
some_data (Name zero) rtype rdata is other has =
    let n = has.1.0 in
    let short = has.1.1.short in
    let size = length-uncompressed n in
    let same : uncompressed n ≡ rdata = has.1.2 in
    let long = ap length same in
    let parts : List Part = CompressibleName n ∷ [] in
    (parts, data_of _ rtype rdata parts is (has.1.1, tt) (omega arith, refl) (append-nil (uncompressed n) ∙ same))
some_data (Name (suc k)) rtype rdata is other has =
    let n = has.1.0 in
    let short = has.1.1.short in
    let size = length-uncompressed n in
    let same : uncompressed n ≡ drop (suc k) rdata = has.1.2 in
    let before : length (take (suc k) rdata) ≡ suc k = length-take-le (suc k) rdata has.0 in
    let few = is.0 in
    let long = has.0 in
    let parts : List Part = Octets (take (suc k) rdata) ∷ CompressibleName n ∷ [] in (
      parts,
      data_of _ rtype rdata parts is.1 (has.1.1, tt) (omega arith, (before, refl))
          (ap (λ (c : List ℕ). take (suc k) rdata ++ c) (append-nil (uncompressed n) ∙ same) ∙ take-append-drop (suc k) rdata),
    )
some_data (TwoNames m) rtype rdata is other has =
    let k = is.0 in
    let first = has.first in
    let second = has.second in
    let one = has.is_first.short in
    let two = has.is_second.short in
    let first_size = length-uncompressed first in
    let second_size = length-uncompressed second in
    let few = is.2 in
    let rest_size : length has.rest ≡ 4 * k = has.size ∙ is.1 in
    let r = are_numbers k has.rest rest_size in
    let size = r.size in
    let parts : List Part = CompressibleName first ∷ CompressibleName second ∷ number_parts k has.rest in
    let same : octets_of_parts parts ≡ rdata = ap (λ (c : List ℕ). uncompressed first ++ (uncompressed second ++ c)) r.same ∙ sym has.octets in
    let long : length rdata ≡ length (uncompressed first) + length (uncompressed second ++ has.rest) = ap length has.octets ∙ length-append (uncompressed first) (uncompressed second ++ has.rest) in
    (parts, data_of _ rtype rdata parts is.3 (has.is_first, (has.is_second, r.are)) (omega arith, r.laid) same)
some_data Plain rtype rdata is other has = absurd (other refl)

-- a test of a record type, and the tests after it
tested : (rtype k : ℕ) (l others : Layout) → FieldsAre l k → FieldsAre others rtype → FieldsAre (if rtype == k then l else others) rtype
tested rtype k l others here rest = go (rtype == k) (λ t. (Decides-eqb rtype k).0 t)
  where
    go : (b : Bool) → (b ≡ true → rtype ≡ k) → FieldsAre (if b then l else others) rtype
    go true e = subst (λ t. FieldsAre l t) (sym (e refl)) here
    go false e = rest

fields_are : (rtype : ℕ) → FieldsAre (type_layout rtype) rtype
unfolding kinds_layout definitions_of record_types
fields_are rtype =
    tested rtype 15 (Name 2) _ (omega arith, refl)
    (tested rtype 6 (TwoNames 20) _ (5, refl, omega arith, refl)
    (tested rtype 14 (TwoNames 0) _ (0, refl, omega arith, refl)
    (tested rtype 2 (Name 0) _ refl
    (tested rtype 3 (Name 0) _ refl
    (tested rtype 4 (Name 0) _ refl
    (tested rtype 5 (Name 0) _ refl
    (tested rtype 7 (Name 0) _ refl
    (tested rtype 8 (Name 0) _ refl
    (tested rtype 9 (Name 0) _ refl
    (tested rtype 12 (Name 0) _ refl tt))))))))))

-- RDATA with the names of its type, if the type has some, is all fields of the type.
pub named_data : (item : PutItem) → HasFields (layout_of item) item.rdata.now → (layout_of item ≡ Plain → ⊥) → IsTypeData item
named_data item has other = some_data (layout_of item) (data_type item) item.rdata.now (fields_are (data_type item)) other has
