-- How the octets of fields are written one after the other.
use Rattle.std.proofs.Common.{◌≡◌, ◌∙◌, ℕ, List, [], ◌∷◌, ◌++◌, ap, append_assoc, append-nil, sym}
use Rattle.fields_table.specs.DataOrders.{part_octets}
use Rattle.fields_table.specs.FieldParts.{NamedPart}
use Rattle.fields_records.specs.FieldTexts.{fields_octets}
use Rattle.dnsm_status.specs.CallerBuffers.{Holds}
use Rattle.dnsm_status.proofs.theory.PieceLemmas.{empty_held, holds_as}

-- The buffer holds the octets of the fields before those that are left.
pub record Written (all left : List NamedPart) (out : List ℕ) (end : ℕ) : Type 0 where
  pub octets : List ℕ
  pub split : fields_octets all ≡ octets ++ fields_octets left
  pub held : Holds out octets end

-- Nothing is written at first.
pub writing_begins : (all left : List NamedPart) (out : List ℕ) → left ≡ all → Written all left out 0
writing_begins all left out same = record { octets = []; split = ap fields_octets (sym same); held = empty_held out }

-- One more field is written.
pub field_written : (all left rest : List NamedPart) (field : NamedPart) (old new : List ℕ) (end after : ℕ) → left ≡ field ∷ rest → Written all left old end
    → ((octets : List ℕ) → Holds old octets end → Holds new (octets ++ part_octets field.part) after) → Written all rest new after
field_written all left rest field old new end after is h appends = record {
  octets = h.octets ++ part_octets field.part;
  split =
      h.split ∙ ap (λ (fields : List NamedPart). h.octets ++ fields_octets fields) is
      ∙ sym (append_assoc h.octets (part_octets field.part) (fields_octets rest));
  held = appends h.octets h.held;
}

-- All fields are written.
pub all_written : (all left : List NamedPart) (out : List ℕ) (end : ℕ) → left ≡ [] → Written all left out end → Holds out (fields_octets all) end
all_written all left out end none h =
    holds_as out h.octets (fields_octets all) end
    (sym (h.split ∙ ap (λ (fields : List NamedPart). h.octets ++ fields_octets fields) none ∙ append-nil h.octets)) h.held
