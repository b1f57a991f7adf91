-- Fields that are skipped one after the other.
use Rattle.std.proofs.Common.{◌≡◌, ℕ, ◌+◌, ◌-◌, ◌^◌, ◌<◌, ◌≤◌, List, [], ◌∷◌, length, get_or, sym, ◌∙◌, refl, subst, arith}
use Rattle.std.specs.Prelude.{min, Ok}
use Rattle.dns_name.specs.Names.{Fault}
use Rattle.dns_name.specs.Parsers.{seen, offset, MovesTo}
use Rattle.dns_name.specs.declared.parser.Parser.{Parser}
use Rattle.dns_wire.specs.Parts.{Part, part_size, parts_size}
use Rattle.dns_data.specs.Layout.{DataAt, DataFaultAt}
use Rattle.fields_table.specs.declared.kind.Kind.{Kind}
use Rattle.fields_table.specs.declared.shape.Shape.{Shape}
use Rattle.fields_table.specs.declared.shape.Shape.TheVariants.{Rest}
use Rattle.fields_table.specs.Layouts.{layout_of, HasField, FieldFaultAt}
use Rattle.fields_table.specs.Shapes.{shape_of}
use Rattle.fields_table.specs.Skipping.{Skips}
use Rattle.fields_table.specs.Table.{Field, kinds}
use Rattle.fields_table.proofs.ComposedFields.{after}
use Rattle.fields_table.proofs.FieldLemmas.{no_fields, first_of_fields, none_encoded, skipped, skipped_last, faults, faults_later}

-- whole RDATA, whose skipped fields take `taken` octets uncompressed, and the others as many as these parts
pub record Whole (b : List ℕ) (fields : List Field) (p q taken : ℕ) (others : List Part) : Type 0 where
  pub parts : List Part
  pub there : DataAt b (layout_of (kinds fields)) p q parts
  pub size : parts_size parts ≡ taken + parts_size others

-- from `old` the fields up to those that are left were skipped: `ahead` is after them
pub record Reached (fields : List Field) (old : Parser) (left : List Field) (ahead : Parser) (size : ℕ) : Type 0 where
  pub taken : ℕ
  pub capped : size ≡ min taken (2 ^ 64 - 1)
  pub moves : MovesTo old ahead (offset ahead)
  pub whole : (q : ℕ) (ps : List Part) → DataAt (seen old) (layout_of (kinds left)) (offset ahead) q ps → Whole (seen old) fields (offset old) q taken ps
  pub faulty : (f : Fault) → DataFaultAt (seen old) (layout_of (kinds left)) (offset ahead) f → DataFaultAt (seen old) (layout_of (kinds fields)) (offset old) f

-- Before the first field no part is skipped.
pub at_start : (fields : List Field) (old : Parser) → Reached fields old fields old 0
at_start fields old =
    record {
      taken = 0;
      capped = refl;
      moves = record { input = refl; seen = refl; offset = refl };
      whole = λ q ps d. record { parts = ps; there = d; size = omega arith };
      faulty = λ f d. d;
    }

module _ (fields : List Field) (old : Parser) (left : List Field) (ahead : Parser) (size : ℕ) (r : Reached fields old left ahead size) where
  -- all fields were skipped
  pub at_end : length left < 1 → Skips (layout_of (kinds fields)) old (Ok (record { parser = ahead; size = size }))
  at_end none =
      let d = subst (λ (ks : List Kind). DataAt (seen old) (layout_of ks) (offset ahead) (offset ahead) []) (sym (no_fields left none)) (none_encoded (seen old) (offset ahead)) in
      let w = r.whole (offset ahead) [] d in
      let few = w.size in
      let all = r.capped in
      ((w.parts, w.there, omega arith), r.moves)

  module _ (other : Field) (some : 1 ≤ length left) (s : Shape) (e : s ≡ shape_of (get_or left 0 other).1) where
    abbrev kind : Kind
    kind = (get_or left 0 other).1

    -- the next field has a fault
    pub at_fault : (f : Fault) → FieldFaultAt (seen ahead) (get_or left 0 other).1 s (offset ahead) f → DataFaultAt (seen old) (layout_of (kinds fields)) (offset old) f
    at_fault f fault =
        let here = subst (λ (b : List ℕ). FieldFaultAt b kind s (offset ahead) f) r.moves.seen fault in
        let first = faults (seen old) kind (kinds (after left)) s e (offset ahead) f here in
        r.faulty f (subst (λ (ks : List Kind). DataFaultAt (seen old) (layout_of ks) (offset ahead) f) (sym (first_of_fields left other some)) first)

    -- the next field is skipped
    module _ (mid : Parser) (part : Part) (has : HasField (seen ahead) (get_or left 0 other).1 s (offset ahead) (offset mid) part) (m : MovesTo ahead mid (offset mid))
        (more : ℕ) (sum : more ≡ min (size + part_size part) (2 ^ 64 - 1)) where
      here : HasField (seen old) kind s (offset ahead) (offset mid) part
      here = subst (λ (b : List ℕ). HasField b kind s (offset ahead) (offset mid) part) r.moves.seen has

      onwards : MovesTo old mid (offset mid)
      onwards = record { input = m.input ∙ r.moves.input; seen = m.seen ∙ r.moves.seen; offset = refl }

      -- if the next field doesn't take the rest, the fields up to the one after it were skipped
      pub at_next : (s ≡ Rest → ⊥) → Reached fields old (after left) mid more
      at_next not =
          record {
            taken = r.taken + part_size part;
            capped = let all = r.capped in omega arith;
            moves = onwards;
            whole = λ q ps d.
                let two = skipped (seen old) kind (kinds (after left)) s e (offset ahead) (offset mid) q part ps here not d in
                let w = r.whole q (part ∷ ps) (subst (λ (ks : List Kind). DataAt (seen old) (layout_of ks) (offset ahead) q (part ∷ ps)) (sym (first_of_fields left other some)) two) in
                let few = w.size in
                record { parts = w.parts; there = w.there; size = omega arith };
            faulty = λ f d.
                let later = faults_later (seen old) kind (kinds (after left)) s e (offset ahead) (offset mid) part f here not d in
                r.faulty f (subst (λ (ks : List Kind). DataFaultAt (seen old) (layout_of ks) (offset ahead) f) (sym (first_of_fields left other some)) later);
          }

      -- it takes all remaining octets
      pub at_rest : s ≡ Rest → Skips (layout_of (kinds fields)) old (Ok (record { parser = mid; size = more }))
      at_rest is =
          let one = skipped_last (seen old) kind (kinds (after left)) s e (offset ahead) (offset mid) part here is in
          let w = r.whole (offset mid) (part ∷ []) (subst (λ (ks : List Kind). DataAt (seen old) (layout_of ks) (offset ahead) (offset mid) (part ∷ [])) (sym (first_of_fields left other some)) one) in
          let few = w.size in
          let all = r.capped in
          ((w.parts, w.there, omega arith), onwards)
