-- RDATA that was skipped.
use Rattle.std.proofs.Common.{◌≡◌, ◌<◌, ◌≤◌, List, inr, sym, refl, subst, arith}
use Rattle.std.specs.Prelude.{Ok}
use Rattle.dns_name.specs.Names.Fault.{ShortInput}
use Rattle.dns_name.specs.Parsers.{seen, offset, MovesTo}
use Rattle.dns_name.specs.declared.parser.Parser.{Parser}
use Rattle.dns_wire.specs.Parts.{Part, parts_size}
use Rattle.dns_data.specs.Layout.{DataAt, DataFaultAt}
use Rattle.fields_table.specs.declared.kind.Kind.{Kind}
use Rattle.fields_table.specs.declared.skip.Skipped.{Skipped}
use Rattle.fields_table.specs.Data.{offset_within}
use Rattle.fields_table.specs.EncodedData.{is_there}
use Rattle.fields_table.specs.FieldData.{AreAt, parts_at}
use Rattle.fields_table.specs.Layouts.{most, layout_of, rdata_layout}
use Rattle.fields_table.specs.Skipping.{Skips}
use Rattle.fields_table.specs.Table.{Field, kinds}

-- skipped fields of at most 65,535 octets are RDATA
pub record SkippedData (ks : List Kind) (old new : Parser) : Type 0 where
  pub there : AreAt ks old
  pub short : parts_size (parts_at ks old) ≤ most
  pub encoded : DataAt (seen old) (rdata_layout ks) (offset old) (offset new) (parts_at ks old)
  pub moves : MovesTo old new (offset new)

module _ (fields : List Field) (defined : List Kind) (e : kinds fields ≡ defined) (old : Parser) where
  -- skipped fields of at most 65,535 octets are RDATA of these kinds
  pub skipped_data : (new : Skipped) → Skips (layout_of (kinds fields)) old (Ok new) → new.size ≤ most → SkippedData defined old new.parser
  skipped_data new h few =
      let d = subst (λ (ks : List Kind). DataAt (seen old) (layout_of ks) (offset old) (offset new.parser) h.0.0) e h.0.1 in
      let size = h.0.2 in
      let is = is_there (seen old) (layout_of defined) (offset old) (offset new.parser) h.0.0 (offset_within old) d in
      let short = subst (λ (ps : List Part). parts_size ps ≤ most) (sym is.1) (omega arith) in
      record {
        there = is.0;
        short = short;
        encoded = (short, subst (λ (ps : List Part). DataAt (seen old) (layout_of defined) (offset old) (offset new.parser) ps) (sym is.1) d);
        moves = h.1;
      }

  -- longer fields are no RDATA
  pub too_long : (new : Skipped) → Skips (layout_of (kinds fields)) old (Ok new) → most < new.size → DataFaultAt (seen old) (rdata_layout defined) (offset old) ShortInput
  too_long new h many =
      let d = subst (λ (ks : List Kind). DataAt (seen old) (layout_of ks) (offset old) (offset new.parser) h.0.0) e h.0.1 in
      let size = h.0.2 in
      inr (offset new.parser, h.0.0, d, omega arith, refl)
