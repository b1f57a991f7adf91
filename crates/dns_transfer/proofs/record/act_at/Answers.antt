use Rattle.std.proofs.Common.{◌∙◌, sym}
use Rattle.dns_item.specs.ParsedRecord.{encoded_record}
use Rattle.dns_transfer.specs.Asked.{asked_by}
use Rattle.dns_transfer.proofs.ActLemmas.{known_acts, refused_stops, unknown_stops, unread_stops}
use Rattle.dns_transfer.proofs.record.act_at.Goals as goal

pub returns-in-Err-clause-stops : goal.returns-in-Err-clause-stops
returns-in-Err-clause-stops c = unread_stops (asked_by c.args.query.now) c.args.octets.now c.args.place c.args.state c.in-Err.error c.in-Err.ensures.none

pub returns-in-Err-kind_of-clause-stops : goal.returns-in-Err-kind_of-clause-stops
returns-in-Err-kind_of-clause-stops c =
    let read = c.in-Ok.ensures in
    unknown_stops (asked_by c.args.query.now) c.args.octets.now c.args.place c.in-Ok.found.1 (encoded_record c.in-Ok.found.0) read.octets read.reads c.args.state c.in-Err-kind_of.error
    (sym c.kind_of.ensures ∙ c.in-Err-kind_of.is)

pub returns-in-Ok-advance-clause-acts : goal.returns-in-Ok-advance-clause-acts
returns-in-Ok-advance-clause-acts c =
    let read = c.in-Ok.ensures in
    record {
      reads = read.reads;
      octets = read.octets;
      gives = known_acts (asked_by c.args.query.now) c.args.octets.now c.args.place c.in-Ok.found.1 (encoded_record c.in-Ok.found.0) read.octets read.reads c.args.state
          c.in-Ok-kind_of.kind (sym c.kind_of.ensures ∙ c.in-Ok-kind_of.is) c.in-Ok-advance.act c.in-Ok-advance.state c.falls_back.result
          (sym c.advance.ensures ∙ c.in-Ok-advance.is) c.falls_back.ensures;
    }

pub returns-in-Err-advance-clause-stops : goal.returns-in-Err-advance-clause-stops
returns-in-Err-advance-clause-stops c =
    let read = c.in-Ok.ensures in
    refused_stops (asked_by c.args.query.now) c.args.octets.now c.args.place c.in-Ok.found.1 (encoded_record c.in-Ok.found.0) read.octets read.reads c.args.state
    c.in-Ok-kind_of.kind (sym c.kind_of.ensures ∙ c.in-Ok-kind_of.is) c.in-Err-advance.error
    (sym c.advance.ensures ∙ c.in-Err-advance.is)
