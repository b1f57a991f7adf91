-- A record with its TTL capped, by what reading its RDATA returns.
use Rattle.std.proofs.Common.{◌≡◌, ◌∙◌, ap, refl, ℕ, List, Bool, true, false}
use Rattle.std.specs.Prelude.{◌==◌, if◌then◌else◌, min, not, Some, None, Result, Ok, Err}
use Rattle.dns_message.specs.declared.wire.ParseError.{ParseError}
use Rattle.dns_message.specs.Names.{Fault, labels}
use Rattle.dns_message.specs.declared.name.ParsedName.{ParsedName}
use Rattle.dns_message.specs.Data.{Part}
use Rattle.dns_message.specs.Records.{RecordEntry, RecordItem, HasFields, class_of, data_of, owner_of, record_item, ttl_of, item_of, typed_result, with_parts}
use Rattle.dns_message.specs.declared.record.Record.{Record}
use Rattle.example_rewrite.specs.Rewriting.{cut_answer, with_ttl_cut}

abbrev item_in : RecordItem → Result RecordItem Fault → RecordItem
item_in other (Ok item) = item
item_in other (Err f) = other

cached : (b : Bool) (item : RecordItem) → b ≡ false → Some item ≡ (if not b then Some item else None)
cached true item other = absurd (cc)
cached false item other = refl

module _ {D : Type 0} (rtype_of : D → ℕ) (parts_of : D → List Part) (most : ℕ) where
  -- a record that isn't OPT is written, with its TTL capped
  pub record_cut : (x : RecordEntry) (d : Result (List Part) Fault) (r after : Record ParsedName D) (ttl : ℕ) → typed_result rtype_of parts_of (Ok r) ≡ with_parts x d → (x.rtype == 41) ≡ false
      → HasFields after (owner_of r) (class_of r) ttl (data_of r) → ttl ≡ min (ttl_of r) most → Some (record_item labels rtype_of parts_of after) ≡ cut_answer most (with_parts x d)
  record_cut x (Ok parts) r after ttl read other has is =
      let said = record_item labels rtype_of parts_of r in
      let same : said ≡ item_of x parts = ap (item_in said) read in
      let cut : record_item labels rtype_of parts_of after ≡ with_ttl_cut most said = (λ i. record {
        owner = labels (has.same_owner i);
        rtype = rtype_of (has.same_data i);
        class = has.same_class i;
        ttl = (has.same_ttl ∙ is) i;
        parts = parts_of (has.same_data i);
      }) in
      ap (λ (item : RecordItem). Some item) (cut ∙ ap (with_ttl_cut most) same) ∙ cached (x.rtype == 41) (with_ttl_cut most (item_of x parts)) other
  record_cut x (Err f) r after ttl read other has is = absurd (cc)

  -- one whose RDATA can't be read isn't
  pub fault_dropped : (e : ParseError) (answer : Result RecordItem Fault) → typed_result rtype_of parts_of (Err e) ≡ answer → None ≡ cut_answer most answer
  fault_dropped e answer read = ap (cut_answer most) read
