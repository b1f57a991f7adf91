-- How fields of RDATA are walked over, with the offset of each.
use Rattle.std.proofs.Common.{◌≡◌, ◌∙◌, ℕ, ◌+◌, ◌≤◌, Bool, true, false, List, [], ◌∷◌, ◌++◌, length, ap, sym, subst, refl, arith, length-append, append_assoc, append-nil}
use Rattle.dns_name.specs.Names.{Labels, NameAt, NameEndsAt}
use Rattle.dns_name.proofs.theory.ExtentLaws.{one_end}
use Rattle.dns_wire.specs.Parts.{Part}
use Rattle.dns_wire.specs.Parts.Part.{Octets, CompressibleName, UncompressedName}
use Rattle.fields_table.specs.FieldParts.{NamedPart}
use Rattle.dnsm_read.specs.FieldOffsets.{FieldsAt, IsFieldAt, PartAt}

-- A part that is encoded at an offset has one end.
pub one_part_end : (b : List ℕ) (part : Part) (p q r : ℕ) → PartAt b part p q → PartAt b part p r → q ≡ r
one_part_end b (Octets octets) p q r h k = h.0 ∙ sym k.0
one_part_end b (CompressibleName name) p q r h k = one_end b h.1 k.1
one_part_end b (UncompressedName lowercased name) p q r h k = one_end b h.1 k.1

fields_more : (b : List ℕ) (fields : List NamedPart) (field : NamedPart) (p q r : ℕ) → FieldsAt b fields p q → PartAt b field.part q r → FieldsAt b (fields ++ field ∷ []) p r
fields_more b [] field p q r at part = (r, subst (λ (n : ℕ). PartAt b field.part n r) at part, refl)
fields_more b (first ∷ fields) field p q r at part = (at.0, at.1, fields_more b fields field at.0 q r at.2 part)

-- Of fields that are encoded from `start` on, those that are left begin at `place`. The others and `more` count to `index`.
pub record Walked (b : List ℕ) (all left : List NamedPart) (start place more index : ℕ) : Type 0 where
  pub before : List NamedPart
  pub split : all ≡ before ++ left
  pub earlier : FieldsAt b before start place
  pub end : ℕ
  pub later : FieldsAt b left place end
  pub counted : length before + more ≡ index

-- Before the first field all are left.
pub walk_begins : (b : List ℕ) (all left : List NamedPart) (start end index : ℕ) → left ≡ all → FieldsAt b all start end → Walked b all left start start index index
walk_begins b all left start end index same at = record {
  before = [];
  split = sym same;
  earlier = refl;
  end = end;
  later = subst (λ (fields : List NamedPart). FieldsAt b fields start end) (sym same) at;
  counted = omega arith;
}

module _ (b : List ℕ) (all left rest : List NamedPart) (field : NamedPart) (start place more index : ℕ) (is : left ≡ field ∷ rest) (walked : Walked b all left start place more index) where
  -- The fields that are left begin with it.
  pub next_at : FieldsAt b (field ∷ rest) place walked.end
  next_at = subst (λ (fields : List NamedPart). FieldsAt b fields place walked.end) is walked.later

  -- The next field is encoded there.
  pub next_part : (end : ℕ) × PartAt b field.part place end
  next_part = (next_at.0, next_at.1)

  -- It is the field after those before it.
  pub next_field : IsFieldAt b start all walked.before field place next_at.0
  next_field = record {
    after = rest;
    all = walked.split ∙ ap (λ (fields : List NamedPart). walked.before ++ fields) is;
    earlier = walked.earlier;
    part = next_at.1;
  }

  -- The walk goes on after it.
  pub walk_on : (next fewer : ℕ) → PartAt b field.part place next → more ≡ fewer + 1 → Walked b all rest start next fewer index
  walk_on next fewer part less =
      let size = length-append walked.before (field ∷ []) in
      let counted = walked.counted in
      let end : next_at.0 ≡ next = one_part_end b field.part place next_at.0 next next_at.1 part in
      record {
        before = walked.before ++ field ∷ [];
        split = walked.split ∙ ap (λ (fields : List NamedPart). walked.before ++ fields) is ∙ sym (append_assoc walked.before (field ∷ []) rest);
        earlier = fields_more b walked.before field start place next walked.earlier part;
        end = walked.end;
        later = subst (λ (n : ℕ). FieldsAt b rest n walked.end) end next_at.2;
        counted = omega (arith, size, counted, less);
      }

-- After the last field all are counted.
pub walk_ends : (b : List ℕ) (all left : List NamedPart) (start place more index : ℕ) → left ≡ [] → Walked b all left start place more index → length all ≤ index
walk_ends b all left start place more index none walked =
    let whole : all ≡ walked.before = walked.split ∙ ap (λ (fields : List NamedPart). walked.before ++ fields) none ∙ append-nil walked.before in
    let counts = ap length whole in
    let all_counted = walked.counted in
    omega (arith, counts, all_counted)

-- The ends of parts.

-- whether a part is a name
abbrev pub is_name : Part → Bool
is_name (Octets octets) = false
is_name (CompressibleName name) = true
is_name (UncompressedName lowercased name) = true

module _ (b : List ℕ) where
  -- Octets end after their number.
  pub octets_end : (part : Part) (octets : List ℕ) (p q : ℕ) → part ≡ Octets octets → PartAt b part p q → (q ≡ p + length octets) × (q ≤ length b)
  octets_end part octets p q is at = let there = subst (λ (x : Part). PartAt b x p q) is at in (there.0, there.1)

  -- A name ends where its encoding does.
  pub name_part_end : (part : Part) (p q r : ℕ) → is_name part ≡ true → PartAt b part p q → NameEndsAt b p r → PartAt b part p r
  name_part_end (Octets octets) p q r is at ends = absurd (cc)
  name_part_end (CompressibleName name) p q r is at ends = (at.0, ends)
  name_part_end (UncompressedName lowercased name) p q r is at ends = (at.0, ends)

  -- A name can be read.
  pub name_there : (part : Part) (p q : ℕ) → is_name part ≡ true → PartAt b part p q → (name : Labels) × NameAt b p name
  name_there (Octets octets) p q is at = absurd (cc)
  name_there (CompressibleName name) p q is at = (name, at.0)
  name_there (UncompressedName lowercased name) p q is at = (name, at.0)
