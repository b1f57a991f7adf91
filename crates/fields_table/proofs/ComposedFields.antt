-- RDATA whose first field was read.
use Rattle.std.proofs.Common.{◌≡◌, ℕ, ◌-◌, ◌<◌, ◌≤◌, List, [], ◌∷◌, length, take, drop, get_or, ap, sym, ◌∙◌, subst}
use Rattle.dns_name.specs.Names.{Fault}
use Rattle.dns_name.specs.Parsers.{seen, offset, MovesTo}
use Rattle.dns_name.specs.declared.parser.Parser.{Parser}
use Rattle.dns_wire.specs.Parts.{Part}
use Rattle.dns_data.specs.Layout.{DataAt}
use Rattle.fields_table.specs.declared.kind.Kind.{Kind}
use Rattle.fields_table.specs.declared.shape.Shape.{Shape}
use Rattle.fields_table.specs.declared.shape.Shape.TheVariants.{Rest}
use Rattle.fields_table.specs.Shapes.{shape_of}
use Rattle.fields_table.specs.Table.{Field, kinds}
use Rattle.fields_table.specs.Layouts.{layout_of, HasField, FieldFaultAt}
use Rattle.fields_table.specs.Accepts.{accepts}
use Rattle.fields_table.specs.Data.{offset_within}
use Rattle.fields_table.proofs.FieldLemmas.{no_fields, first_of_fields, first_field, one_part, field_or_fault, after_rest, after_end, after_other}

-- without fields there are no parts
none_in : (b : List ℕ) (p q : ℕ) (ps : List Part) → DataAt b (layout_of []) p q ps → ps ≡ []
unfolding layout_of
none_in b p q ps h = h.1

-- No fields have no parts.
pub no_parts : (fields : List Field) → length fields < 1 → (b : List ℕ) (p q : ℕ) (ps : List Part) → DataAt b (layout_of (kinds fields)) p q ps → ps ≡ []
no_parts fields l b p q ps h = none_in b p q ps (subst (λ (ks : List Kind). DataAt b (layout_of ks) p q ps) (no_fields fields l) h)

-- the fields after the first
abbrev pub after : List Field → List Field
after fields = take (length fields - 1) (drop 1 fields)

-- the parts: the one that was read, and the rest
pub record Front (fields : List Field) (s : Shape) (mid : Parser) (q : ℕ) (part : Part) (ps : List Part) : Type 0 where
  pub rest : List Part
  pub is : ps ≡ part ∷ rest
  pub last : s ≡ Rest → rest ≡ []
  pub last_end : s ≡ Rest → q ≡ offset mid
  pub others : (s ≡ Rest → ⊥) → DataAt (seen mid) (layout_of (kinds (after fields))) (offset mid) q rest

module _ (fields : List Field) (other : Field) (some : 1 ≤ length fields) (s : Shape) (e : s ≡ shape_of (get_or fields 0 other).1) (old : Parser) (q : ℕ) (ps : List Part)
    (h : DataAt (seen old) (layout_of (kinds fields)) (offset old) q ps) where
  encoded : DataAt (seen old) (layout_of ((get_or fields 0 other).1 ∷ kinds (after fields))) (offset old) q ps
  encoded = subst (λ (ks : List Kind). DataAt (seen old) (layout_of ks) (offset old) q ps) (first_of_fields fields other some) h

  -- if the first field was read, the parts of the RDATA are its part and those of the fields after it
  pub front : (mid : Parser) (part : Part) → HasField (seen old) (get_or fields 0 other).1 s (offset old) (offset mid) part → MovesTo old mid (offset mid) → Front fields s mid q part ps
  front mid part has m =
      let first = first_field (seen old) (get_or fields 0 other).1 (kinds (after fields)) s e (offset old) q ps (offset_within old) encoded in
      let same = one_part (seen old) s (accepts (get_or fields 0 other).1) (offset old) first.end (offset mid) first.part part first.has has in
      let layout = layout_of (kinds (after fields)) in
      record {
        rest = first.rest;
        is = first.is ∙ ap (λ (x : Part). x ∷ first.rest) same.1;
        last = λ is. after_rest (seen old) s layout first.end q first.rest is first.after;
        last_end = λ is. after_end (seen old) s layout first.end q first.rest is first.after ∙ same.0;
        others = λ not.
            let there = after_other (seen old) s layout first.end q first.rest not first.after in
            subst (λ (b : List ℕ). DataAt b layout (offset mid) q first.rest) (sym m.seen) (subst (λ p. DataAt (seen old) layout p q first.rest) same.0 there);
      }

  -- the first field of well-formed RDATA has no fault
  pub no_fault : (f : Fault) → FieldFaultAt (seen old) (get_or fields 0 other).1 s (offset old) f → ⊥
  no_fault f fault =
      let found = first_field (seen old) (get_or fields 0 other).1 (kinds (after fields)) s e (offset old) q ps (offset_within old) encoded in
      field_or_fault (seen old) (get_or fields 0 other).1 s (offset old) found.end found.part f found.has fault
