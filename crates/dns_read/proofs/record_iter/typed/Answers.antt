use Rattle.std.proofs.Common.{◌≡◌, ◌∙◌, ap, sym, ℕ, Bool, true, false, List, [], ◌∷◌}
use Rattle.std.specs.Prelude.{◌==◌, not, Option, option_map, option_to_list, Result, Ok}
use Rattle.dns_octets.specs.declared.error.ParseError.{ParseError}
use Rattle.dns_name.specs.Names.{Fault}
use Rattle.dns_name.specs.declared.parsed_name.ParsedName.{ParsedName}
use Rattle.dns_wire.specs.Parts.{Part}
use Rattle.dns_data.specs.Layout.{Layout}
use Rattle.dns_item.specs.ParsedData.{HasSpan}
use Rattle.dns_item.specs.Items.{RecordItem}
use Rattle.dns_item.specs.ParsedRecord.{octets_of, parsed_entry, encoded_record}
use Rattle.dns_item.specs.RecordReading.{ReturnsTaken}
use Rattle.dns_item.specs.TypedRecords.{typed_result}
use Rattle.dns_item.specs.declared.parsed_record.ParsedRecord.{ParsedRecord}
use Rattle.dns_item.specs.declared.record.Record.{Record}
use Rattle.dns_item.proofs.theory.TypedLemmas.{parsed_as-returned}
use Rattle.std.specs.Result.{result_transpose}
use Rattle.dns_read.specs.Limited.{limited_by}
use Rattle.dns_read.specs.RecordSection.{record_result}
use Rattle.dns_read.proofs.LimitedLemmas.{limited_by-one}
use Rattle.dns_read.proofs.record_iter.typed.Goals as goal
use Rattle.dns_read.proofs.record_iter.typed.Goals.{else-in_only-via-then-in_only+else-ne, else-in_only-via-else-in_only}

-- a record that isn't left out for its class
record_taken : {D : Type 0} (rtype_of : D → ℕ) (parts_of : D → List Part) (layouts : ℕ → Option Layout) (in_only : Bool) (item : Result ParsedRecord ParseError) (r : ParsedRecord)
    (read : Result (Option (Record ParsedName D)) ParseError) (result : Option (Result (Record ParsedName D) ParseError)) → item ≡ Ok r → HasSpan (encoded_record r)
    → ReturnsTaken rtype_of parts_of (octets_of r) (parsed_entry r) (layouts (parsed_entry r).rtype) read → result ≡ result_transpose read
    → (in_only ≡ true → ((parsed_entry r).class == 1) ≡ true)
    → limited_by layouts in_only (record_result item ∷ []) ≡ option_to_list (option_map (typed_result rtype_of parts_of) result)
record_taken {D = D} rtype_of parts_of layouts in_only item r read result is span answers transposed class =
    ap (λ (x : Result ParsedRecord ParseError). limited_by layouts in_only (record_result x ∷ [])) is
    ∙ limited_by-one layouts in_only (encoded_record r) class
    ∙ ap (λ (o : Option (Result RecordItem Fault)). option_to_list o) (sym (parsed_as-returned rtype_of parts_of (encoded_record r) span (layouts (parsed_entry r).rtype) read answers))
    ∙ ap (λ (o : Option (Result (Record ParsedName D) ParseError)). option_to_list (option_map (typed_result rtype_of parts_of) o)) (sym transposed)

not_false : (b : Bool) → false ≡ not b → b ≡ true
not_false true e = cc
not_false false e = cc

pub returns-else-in_only-clause-outcome : goal.returns-else-in_only-clause-outcome
returns-else-in_only-clause-outcome g c =
    record_taken g.D.RecordData.rtype_of g.D.RecordData.parts g.D.ParseRecordData.layout c.args.in_only c.args.item c.in-Ok.record c.to_record.result c.transpose.result c.in-Ok.is
    (c.requires c.in-Ok.record c.in-Ok.is) c.to_record.ensures.returned c.transpose.ensures
    (elim c.else-in_only.branch [
      | else-in_only-via-then-in_only+else-ne w ↦ λ _. ap (λ (k : ℕ). k == 1) (sym w.class.ensures) ∙ not_false (w.class.result == 1) w.if-ne.ensures
      | else-in_only-via-else-in_only w ↦ λ e. let no = w.if-in_only.false in absurd (cc)
    ])
