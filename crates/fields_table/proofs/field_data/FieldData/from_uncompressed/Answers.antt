use Rattle.std.proofs.Common.{◌∙◌, List, ℕ, ap, arith, length, sym}
use Rattle.std.proofs.lemmas.Result.{err_from_is_err_and}
use Rattle.fields_table.specs.DataOrders.{octets_of_parts}
use Rattle.fields_table.specs.UncompressedData.UncompressedDataFault.{first, left_over, compressed}
use Rattle.fields_table.proofs.ComparedOctets.{seen_data, seen_fault, whole_data}
use Rattle.fields_table.proofs.theory.NamedFields.{parts_of_fields}
use Rattle.fields_table.proofs.field_data.FieldData.from_uncompressed.Goals as goal

pub returns-in_err-fields-clause-err : goal.returns-in_err-fields-clause-err
returns-in_err-fields-clause-err c =
    let p = err_from_is_err_and c.from_residual.result c.from_residual.ensures.1 in
    rw (p.1, p.2) (first (seen_fault c.args.octets.now _ _ _ c.new-parser.ensures.seen c.new-parser.ensures.offset _ c.in_err-fields.ensures.0))

pub returns-then-remaining-gt0-clause-err : goal.returns-then-remaining-gt0-clause-err
returns-then-remaining-gt0-clause-err c =
    let same = ap (λ (x : List ℕ). length x) c.in_ok-fields.ensures.2.seen in
    let whole = ap (λ (x : List ℕ). length x) c.new-parser.ensures.seen in
    left_over _ _ (seen_data c.args.octets.now _ _ _ c.new-parser.ensures.seen c.new-parser.ensures.offset _ _ c.in_ok-fields.ensures.1) (omega (arith, c.remaining.ensures, same, whole))

pub returns-then-not-are_uncompressed-clause-err : goal.returns-then-not-are_uncompressed-clause-err
returns-then-not-are_uncompressed-clause-err c =
    let same = ap (λ (x : List ℕ). length x) c.in_ok-fields.ensures.2.seen in
    let whole = ap (λ (x : List ℕ). length x) c.new-parser.ensures.seen in
    let parts = parts_of_fields c.in_ok-fields.fields c.fields.result c.fields.ensures in
    compressed _
    (whole_data c.args.octets.now _ _ _ c.new-parser.ensures.seen c.new-parser.ensures.offset _ _ c.in_ok-fields.ensures.1 (omega (arith, c.remaining.ensures, same, whole)))
    (λ e. c.are_uncompressed.ensures.other c.if-not-are_uncompressed.true (ap octets_of_parts parts ∙ e))

pub returns-clause-ok : goal.returns-clause-ok
returns-clause-ok c =
    let same = ap (λ (x : List ℕ). length x) c.in_ok-fields.ensures.2.seen in
    let whole = ap (λ (x : List ℕ). length x) c.new-parser.ensures.seen in
    let parts = parts_of_fields c.in_ok-fields.fields c.fields.result c.fields.ensures in
    record {
      fields = whole_data c.args.octets.now _ _ _ c.new-parser.ensures.seen c.new-parser.ensures.offset _ _ c.in_ok-fields.ensures.1 (omega (arith, c.remaining.ensures, same, whole));
      uncompressed = ap octets_of_parts (sym parts) ∙ c.are_uncompressed.ensures.are c.if-not-are_uncompressed.false;
    }
