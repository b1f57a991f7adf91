use Rattle.std.proofs.Common.{◌∙◌, List, ℕ, ap, length}
use Rattle.dns_name.specs.Parsers.{offset}
use Rattle.fields_table.specs.Data.{parts_of}
use Rattle.dnsm_read.proofs.DataFieldLemmas.{all_read, no_fields, octets_left}
use Rattle.dnsm_read.proofs.data_fields.parse_data.Goals as goal

pub returns-in_default-parse_any_rdata-clause-none : goal.returns-in_default-parse_any_rdata-clause-none
returns-in_default-parse_any_rdata-clause-none c =
    let moved = c.in-Ok.ensures.ok.1 in
    no_fields c.args.octets.now _ c.args.rtype c.args.start _ (moved.seen ∙ c.new-parser.ensures.seen) moved.offset _ c.in_default-parse_any_rdata.ensures.0

pub returns-then-remaining-gt0-clause-none : goal.returns-then-remaining-gt0-clause-none
returns-then-remaining-gt0-clause-none c =
    let moved = c.in-Ok.ensures.ok.1 in
    let read = c.in-Ok-parse_any_rdata.ensures in
    let same = moved.seen ∙ c.new-parser.ensures.seen in
    octets_left c.args.octets.now _ c.args.rtype c.args.start _ same moved.offset (offset c.parse_any_rdata.new.parser) c.remaining.result (parts_of c.in-Ok-parse_any_rdata.fields)
    read.1 (c.remaining.ensures ∙ ap (λ (x : List ℕ). length x) (read.2.seen ∙ same)) c.if-remaining-gt0.true

pub returns-clause-fields : goal.returns-clause-fields
returns-clause-fields c =
    let moved = c.in-Ok.ensures.ok.1 in
    let read = c.in-Ok-parse_any_rdata.ensures in
    let same = moved.seen ∙ c.new-parser.ensures.seen in
    all_read c.args.octets.now _ c.args.rtype c.args.start _ same moved.offset (offset c.parse_any_rdata.new.parser) c.remaining.result (parts_of c.in-Ok-parse_any_rdata.fields)
    read.1 (c.remaining.ensures ∙ ap (λ (x : List ℕ). length x) (read.2.seen ∙ same)) c.if-remaining-gt0.false
