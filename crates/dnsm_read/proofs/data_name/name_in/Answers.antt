use Rattle.std.proofs.Common.{inr, refl, subst, ◌<◌}
use Rattle.dns_name.specs.ParsedName.{labels}
use Rattle.fields_table.specs.Table.{definitions_of}
use Rattle.dnsm_read.specs.DataNames.{MayHaveName, most_names_in}
use Rattle.dnsm_read.proofs.DataFieldLemmas.{data_name, few_names, left_names}
use Rattle.dnsm_read.proofs.data_name.name_in.Goals as goal

pub name_among-requires : goal.name_among-requires
name_among-requires c =
    let found = c.in_ok-seen.ensures in
    left_names c.args.octets.now c.in_ok-seen.seen.now c.args.item.now c.in_ok-seen.data c.fields-2.result found.seen found.rtype c.fields-2.ensures found.there

pub returns-in-Some-clause-place : goal.returns-in-Some-clause-place
returns-in-Some-clause-place c =
    let found = c.in_ok-seen.ensures in
    data_name c.args.octets.now c.in_ok-seen.seen.now c.args.item.now c.in_ok-seen.data c.fields-2.result found.seen found.rtype c.fields-2.ensures c.args.index c.in-Some.found.0
    (labels c.in-Some.found.1) found.there c.in-Some.ensures.offset c.in-Some.ensures.name

pub returns-in-None-clause-none : goal.returns-in-None-clause-none
returns-in-None-clause-none c =
    let found = c.in_ok-seen.ensures in
    let may : MayHaveName c.args.item.now c.args.index =
    subst (λ n. c.args.index < most_names_in (definitions_of n)) c.data_type.ensures (c.may_have_name.ensures.0 c.if-not-may_have_name.false) in
    let few =
    few_names c.args.octets.now c.in_ok-seen.seen.now c.args.item.now c.in_ok-seen.data c.fields-2.result found.seen found.rtype c.fields-2.ensures c.args.index found.there
    c.in-None.ensures.none in
    λ some. inr (inr (may, few, refl))
