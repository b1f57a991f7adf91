use Rattle.std.proofs.Common.{◌≡◌, ◌≢◌, rules, arith, sym}
use Rattle.std.proofs.lemmas.Bool.Decides.{nat_tests}
use Rattle.std.specs.Prelude.{option_map}
use Rattle.dns_name.specs.ParsedName.{labels}
use Rattle.dns_read.specs.RecordSection.{records_left}
use Rattle.dns_reply.specs.Records.{soa_for}
use Rattle.dns_reply.specs.Replies.{soa_item}
use Rattle.dns_reply.specs.Sayings.{IsNoError}
use Rattle.dns_reply.specs.Sayings.SaysNone.{no_name}
use Rattle.dns_reply.proofs.SayingLemmas.{no_error, none_found, soa_found}
use Rattle.dns_reply.proofs.saying.said_none.Goals as goal

pub returns-then-eq : goal.returns-then-eq
returns-then-eq c =
    let three : c.args.rcode ≡ 3 = first_of (search rules, grind (arith, nat_tests)) in
    no_name (option_map soa_item c.first_found-soa.result) three (sym c.first_found-soa.ensures)

pub returns-then-is_some : goal.returns-then-is_some
returns-then-is_some c =
    let other : c.args.rcode ≢ 3 = first_of (search rules, grind (arith, nat_tests)) in
    soa_found soa_item c.first_found-soa.result (records_left c.args.authorities) c.args.rcode c.args.qclass (labels c.args.zone.now) (labels c.args.name) c.args.alias_ttl
    (no_error c.args.rcode c.requires other) (sym c.if-is_some.ensures) c.first_found-soa.ensures

pub said_by_servers-requires : goal.said_by_servers-requires
said_by_servers-requires c =
    let soa = soa_for c.args.qclass (labels c.args.zone.now) (records_left c.args.authorities) (labels c.args.name) in
    none_found soa_item c.first_found-soa.result soa (sym c.if-is_some.ensures) c.first_found-soa.ensures

pub returns : goal.returns
returns c =
    let other : c.args.rcode ≢ 3 = first_of (search rules, grind (arith, nat_tests)) in
    let zero : IsNoError c.args.rcode = no_error c.args.rcode c.requires other in
    rw zero c.said_by_servers.ensures
