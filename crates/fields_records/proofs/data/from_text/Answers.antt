use Rattle.std.proofs.Common.{◌∙◌, ℕ, sym, subst, inr}
use Rattle.std.proofs.lemmas.Bool.{false≢true}
use Rattle.fields_table.specs.Table.{kinds_of}
use Rattle.fields_records.specs.DataWords.{AreFields}
use Rattle.fields_records.proofs.MarkedData.{marked_may}
use Rattle.fields_records.proofs.OneData.{data_read, no_data}
use Rattle.fields_records.proofs.data.from_text.Goals as goal

pub returns-then-is_marked : goal.returns-then-is_marked
returns-then-is_marked c = marked_may c.args.rtype c.args.words.now c.read_marked.result c.read_marked.ensures

pub returns-in-Ok : goal.returns-in-Ok
returns-in-Ok c =
    let are = subst (λ (n : ℕ). AreFields (kinds_of n) c.args.words.now c.in-Ok.octets.items) c.to_int.ensures c.in-Ok.ensures in
    data_read c.args.rtype c.args.words.now c.in-Ok.octets.items c.read_rdata.result (inr (λ is. false≢true (sym c.if-is_marked.false ∙ c.is_marked.ensures.1 is), are)) c.read_rdata.ensures

pub returns-in-Err : goal.returns-in-Err
returns-in-Err c =
    no_data c.args.rtype c.to_int.result c.args.words.now c.in-Err.error c.to_int.ensures (λ is. false≢true (sym c.if-is_marked.false ∙ c.is_marked.ensures.1 is)) c.in-Err.ensures
