use Rattle.std.proofs.Common.{◌∙◌, sym, arith}
use Rattle.std.specs.Prelude.{min}
use Rattle.dns_message.specs.Records.{data_in, encoded_record}
use Rattle.dns_message.specs.Fields.{rtype_of, parts_of, type_layout}
use Rattle.dns_message.proofs.CallerLemmas.{laid_out-read}
use Rattle.example_rewrite.proofs.CutLemmas.{record_cut, fault_dropped}
use Rattle.example_rewrite.proofs.rewriting.cut.Goals as goal

pub returns-in-Ok : goal.returns-in-Ok
returns-in-Ok c =
    let x = encoded_record c.args.shown in
    let read = laid_out-read rtype_of parts_of x (type_layout x.entry.rtype) c.into_any_record.result (omega arith) c.into_any_record.ensures.returned in
    record_cut rtype_of parts_of c.args.most x.entry (data_in x (type_layout x.entry.rtype)) c.in-Ok.record c.set_ttl.new.self c.from_secs.result
    (rw c.in-Ok.is at read) (rw c.rtype.ensures at (sym c.eq.ensures ∙ c.if-eq.false)) c.set_ttl.ensures
    (c.from_secs.ensures ∙ c.min-secs.ensures ∙ (λ i. min ((c.as_secs.ensures ∙ c.ttl.ensures) i) (c.as_secs-in-Ok.ensures i)))

pub returns-in-Err : goal.returns-in-Err
returns-in-Err c =
    let x = encoded_record c.args.shown in
    let read = laid_out-read rtype_of parts_of x (type_layout x.entry.rtype) c.into_any_record.result (omega arith) c.into_any_record.ensures.returned in
    fault_dropped rtype_of parts_of c.args.most _ _ (rw c.in-Err.is at read)
