use Rattle.std.proofs.Common.{◌≡◌, ◌+◌, ℕ, List, [], arith, subst, sym}
use Rattle.fields_table.specs.declared.kind.Kind.{Kind}
use Rattle.dnsm_read.specs.NameOffsets.{Finds, NamesInOctets, gateway_offset, relay_offset}
use Rattle.dnsm_read.proofs.NameOffsetLemmas.{only_finds, other_names}
use Rattle.dnsm_read.proofs.name_offsets.offset_in_octets.Goals as goal

pub server_in-requires : goal.server_in-requires
server_in-requires c =
    let octets = c.args.octets.now in
    let own = c.args.own.now in
    record {
      fits = c.requires.fits;
      names = subst (λ (k : Kind). (offsets : List ℕ) × NamesInOctets octets k own c.args.start offsets) c.in-HostIdentity.is c.requires.names;
    }

pub returns-in-GatewayAndKey : goal.returns-in-GatewayAndKey
returns-in-GatewayAndKey c =
    let octets = c.args.octets.now in
    let own = c.args.own.now in
    let names = subst (λ (k : Kind). (offsets : List ℕ) × NamesInOctets octets k own c.args.start offsets) c.in-GatewayAndKey.is c.requires.names in
    subst (λ (k : Kind). (offsets : List ℕ) × NamesInOctets octets k own c.args.start offsets × Finds offsets c.args.index c.only_name.result) (sym c.in-GatewayAndKey.is)
    (only_finds octets (gateway_offset own c.args.start) c.gateway_offset.result c.args.index c.only_name.result c.gateway_offset.ensures names c.only_name.ensures)

pub returns-in-Relay : goal.returns-in-Relay
returns-in-Relay c =
    let octets = c.args.octets.now in
    let own = c.args.own.now in
    let names = subst (λ (k : Kind). (offsets : List ℕ) × NamesInOctets octets k own c.args.start offsets) c.in-Relay.is c.requires.names in
    subst (λ (k : Kind). (offsets : List ℕ) × NamesInOctets octets k own c.args.start offsets × Finds offsets c.args.index c.only_name-in-Relay.result) (sym c.in-Relay.is)
    (only_finds octets (relay_offset own c.args.start) c.relay_offset.result c.args.index c.only_name-in-Relay.result c.relay_offset.ensures names c.only_name-in-Relay.ensures)

pub returns-in-HostIdentity : goal.returns-in-HostIdentity
returns-in-HostIdentity c =
    subst (λ (k : Kind). (offsets : List ℕ) × NamesInOctets c.args.octets.now k c.args.own.now c.args.start offsets × Finds offsets c.args.index c.server_in.result)
    (sym c.in-HostIdentity.is) c.server_in.ensures

pub returns-in_default : goal.returns-in_default
returns-in_default c =
    let other = c.in_default in
    let none : 0 + c.args.index ≡ c.args.index = omega arith in
    ([], other_names c.args.octets.now c.args.kind c.args.own.now c.args.start other.not-GatewayAndKey other.not-Relay other.not-HostIdentity, none)
