use Rattle.std.proofs.Common.{refl, take}
use Rattle.fields_table.specs.Data.{parts_of}
use Rattle.dnsm_read.proofs.DataFieldLemmas.{data_encoded, data_there, no_data}
use Rattle.dnsm_read.proofs.data_fields.fields.Goals as goal

pub returns-in-Some-clause-there : goal.returns-in-Some-clause-there
returns-in-Some-clause-there c =
    let own = c.in_ok-end.ensures.end in
    data_there c.args.octets.now (take c.in_ok-end.end c.args.octets.now) c.args.item.now c.in_ok-end.end c.data_type.result refl own.0 own.1 c.data_type.ensures
    (parts_of c.in-Some.fields) c.in-Some.ensures.fields

pub returns-in-Some-clause-encoded : goal.returns-in-Some-clause-encoded
returns-in-Some-clause-encoded c =
    let own = c.in_ok-end.ensures.end in
    let there =
    data_there c.args.octets.now (take c.in_ok-end.end c.args.octets.now) c.args.item.now c.in_ok-end.end c.data_type.result refl own.0 own.1 c.data_type.ensures
    (parts_of c.in-Some.fields) c.in-Some.ensures.fields in
    (data_encoded c.args.octets.now c.args.item.now (parts_of c.in-Some.fields) there).at

pub returns-in-None-clause-none : goal.returns-in-None-clause-none
returns-in-None-clause-none c =
    let own = c.in_ok-end.ensures.end in
    λ some.
    no_data c.args.octets.now (take c.in_ok-end.end c.args.octets.now) c.args.item.now c.in_ok-end.end c.data_type.result refl own.0 own.1 c.data_type.ensures c.in-None.ensures.none
