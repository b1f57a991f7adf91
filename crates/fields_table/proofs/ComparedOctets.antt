-- Fields that are compared with octets.
use Rattle.std.proofs.Common.{◌≡◌, ◌≢◌, ◌∙◌, ℕ, List, [], ◌∷◌, ◌++◌, append_assoc, length, ap, sym, subst}
use Rattle.std.proofs.lemmas.Bool.{true≢false}
use Rattle.std.proofs.lemmas.Bool.Decides.{Decides-eqb}
use Rattle.std.proofs.lemmas.List.{append_cancel_left, nil_from_length}
use Rattle.std.proofs.lemmas.Slice.Eq.{strip_prefix_is}
use Rattle.std.specs.Borrow.{Bor}
use Rattle.std.specs.Prelude.{◌==◌, ◌+◌, true, false, IfSome, IsNone, MatchOption, None, Option, Some, drop, take}
use Rattle.std.specs.Cmp.Lexicographic.{pointwise}
use Rattle.dns_name.specs.Names.{Fault}
use Rattle.dns_wire.specs.Parts.{Part}
use Rattle.dns_data.specs.Layout.{DataAt, DataFaultAt}
use Rattle.fields_table.specs.DataOrders.{octets_of_parts, part_octets}
use Rattle.fields_table.specs.FieldData.{type_layout}

-- what stripping octets of a prefix says of a field whose octets are that prefix
module _ (octets prefix own : List ℕ) (is : prefix ≡ own) where
  abbrev Strips : Option (Bor (List ℕ)) → Type 0
  Strips r = MatchOption r (pointwise ◌==◌ (take (length prefix) octets) prefix ≡ false)
      (λ x. (pointwise ◌==◌ (take (length prefix) octets) prefix ≡ true) × (x.now ≡ drop (length prefix) octets) × (length x.now + length prefix ≡ length octets))

  -- if the prefix is stripped, the octets are those of the field and then the ones that are left
  pub after_prefix : (r : Option (Bor (List ℕ))) → Strips r → IfSome r (λ x. octets ≡ own ++ x.now)
  after_prefix None h = tt
  after_prefix (Some x) h = strip_prefix_is Decides-eqb octets prefix (Some x) h ∙ ap (λ (p : List ℕ). p ++ x.now) is

  -- if the prefix can't be stripped, the octets don't begin with those of the field
  pub other_prefix : (r : Option (Bor (List ℕ))) → Strips r → IsNone r → (rest : List ℕ) → octets ≢ own ++ rest
  other_prefix None h none rest same = strip_prefix_is Decides-eqb octets prefix None h rest (same ∙ ap (λ (p : List ℕ). p ++ rest) (sym is))
  other_prefix (Some x) h none rest same = true≢false none

-- Fields are compared with octets: the octets of the compared ones are the first octets.
pub record Compared (parts left : List Part) (octets after : List ℕ) : Type 0 where
  pub first : List ℕ
  pub all : octets_of_parts parts ≡ first ++ octets_of_parts left
  pub split : octets ≡ first ++ after

module _ (parts left : List Part) (octets after : List ℕ) where
  -- nothing is compared at first
  pub none_compared : left ≡ parts → after ≡ octets → Compared parts left octets after
  none_compared same all = record { first = []; all = ap octets_of_parts (sym same); split = sym all }

  module _ (part : Part) (rest : List Part) (is : left ≡ part ∷ rest) (h : Compared parts left octets after) where
    next_octets : octets_of_parts left ≡ part_octets part ++ octets_of_parts rest
    next_octets = ap octets_of_parts is

    -- one more field, whose octets are next
    pub one_compared : (next : List ℕ) → after ≡ part_octets part ++ next → Compared parts rest octets next
    one_compared next equal = record {
      first = h.first ++ part_octets part;
      all = h.all ∙ ap (λ (x : List ℕ). h.first ++ x) next_octets ∙ sym (append_assoc h.first (part_octets part) (octets_of_parts rest));
      split = h.split ∙ ap (λ (x : List ℕ). h.first ++ x) equal ∙ sym (append_assoc h.first (part_octets part) next);
    }

    -- a field whose octets aren't next
    pub other_field : ((next : List ℕ) → after ≢ part_octets part ++ next) → octets_of_parts parts ≢ octets
    other_field other same = other (octets_of_parts rest) (append_cancel_left h.first after (octets_of_parts left) (sym h.split ∙ sym same ∙ h.all) ∙ next_octets)

  -- no fields are left: the octets are equal if none are left
  module _ (none : left ≡ []) (h : Compared parts left octets after) where
    all_first : octets_of_parts parts ≡ h.first ++ []
    all_first = h.all ∙ ap (λ (ps : List Part). h.first ++ octets_of_parts ps) none

    -- if no octets are left either, the octets of the fields are equal to the given ones
    pub all_compared : (length after == 0) ≡ true → octets_of_parts parts ≡ octets
    all_compared empty = all_first ∙ sym (h.split ∙ ap (λ (x : List ℕ). h.first ++ x) (nil_from_length after ((Decides-eqb (length after) 0).0 empty)))

    -- if octets are left, the octets of the fields differ from the given ones
    pub more_octets : (length after == 0) ≡ false → octets_of_parts parts ≢ octets
    more_octets some same =
        let empty : after ≡ [] = append_cancel_left h.first after [] (sym h.split ∙ sym same ∙ all_first) in
        true≢false (sym (ap (λ (x : List ℕ). length x == 0) empty) ∙ some)

-- what a parser saw of octets that it was made for
module _ (octets seen : List ℕ) (p rtype : ℕ) (same : seen ≡ octets) (start : p ≡ 0) where
  -- a fault of the RDATA that the parser saw is a fault of the RDATA at offset 0 of the octets
  pub seen_fault : (f : Fault) → DataFaultAt seen (type_layout rtype) p f → DataFaultAt octets (type_layout rtype) 0 f
  seen_fault f at = subst (λ (b : List ℕ). DataFaultAt b (type_layout rtype) 0 f) same (subst (λ n. DataFaultAt seen (type_layout rtype) n f) start at)

  -- the RDATA that the parser saw is encoded at offset 0 of the octets, with the same end and parts
  pub seen_data : (q : ℕ) (parts : List Part) → DataAt seen (type_layout rtype) p q parts → DataAt octets (type_layout rtype) 0 q parts
  seen_data q parts at = subst (λ (b : List ℕ). DataAt b (type_layout rtype) 0 q parts) same (subst (λ n. DataAt seen (type_layout rtype) n q parts) start at)

  -- if the RDATA that the parser saw ends where the octets end, all the octets are this RDATA
  pub whole_data : (q : ℕ) (parts : List Part) → DataAt seen (type_layout rtype) p q parts → q ≡ length octets → DataAt octets (type_layout rtype) 0 (length octets) parts
  whole_data q parts at end = subst (λ n. DataAt octets (type_layout rtype) 0 n parts) end (seen_data q parts at)
