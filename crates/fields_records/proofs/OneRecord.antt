-- Words represent one record.
use Rattle.std.proofs.Common.{ℕ, drop, subst}
use Rattle.fields_text.specs.Laws.{RepresentsOne}
use Rattle.fields_records.specs.DataWords.{IsDataText}
use Rattle.fields_records.specs.RecordWords.{IsRecordText}
use Rattle.fields_records.proofs.OneData.{one_parts}
use Rattle.fields_records.proofs.RecordLemmas.{one_head}

-- A line represents at most one record.
pub one_record : RepresentsOne IsRecordText
one_record words x y a b =
    let head = one_head words x.owner y.owner x.ttl x.class x.rtype y.ttl y.class y.rtype a.head b.head in
    let value = subst (λ (rtype : ℕ). IsDataText rtype (drop 4 words) x.parts) head.3 a.value in
    let parts = one_parts y.rtype (drop 4 words) x.parts y.parts value b.value in
    λ i. record { owner = head.0 i; rtype = head.3 i; class = head.2 i; ttl = head.1 i; parts = parts i }
