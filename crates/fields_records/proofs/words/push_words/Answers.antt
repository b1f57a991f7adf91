use Rattle.fields_table.specs.declared.kind.Kind.TheVariants as kinds
use Rattle.fields_records.proofs.AppendLemmas.{as_kinds, read_as_kind}
use Rattle.fields_records.proofs.words.push_words.Goals as goal

pub returns-in-Strings : goal.returns-in-Strings
returns-in-Strings c = as_kinds c.args.kind kinds.Strings c.args.words.now c.args.octets.now.items c.push_some_strings.new.octets.items
    c.push_some_strings.result c.in-Strings.is c.push_some_strings.ensures

pub returns-in-Hexadecimal : goal.returns-in-Hexadecimal
returns-in-Hexadecimal c = as_kinds c.args.kind kinds.Hexadecimal c.args.words.now c.args.octets.now.items c.push_hex.new.octets.items c.push_hex.result c.in-Hexadecimal.is c.push_hex.ensures

pub returns-in-Base64 : goal.returns-in-Base64
returns-in-Base64 c = as_kinds c.args.kind kinds.Base64 c.args.words.now c.args.octets.now.items c.push_base64.new.octets.items c.push_base64.result c.in-Base64.is c.push_base64.ensures

pub returns-in-Base64OrHyphen : goal.returns-in-Base64OrHyphen
returns-in-Base64OrHyphen c = as_kinds c.args.kind kinds.Base64OrHyphen c.args.words.now c.args.octets.now.items c.push_base64_or_hyphen.new.octets.items
    c.push_base64_or_hyphen.result c.in-Base64OrHyphen.is c.push_base64_or_hyphen.ensures

pub returns-in-Location : goal.returns-in-Location
returns-in-Location c = as_kinds c.args.kind kinds.Location c.args.words.now c.args.octets.now.items c.push_location.new.octets.items c.push_location.result c.in-Location.is c.push_location.ensures

pub returns-in-TypeBitMap : goal.returns-in-TypeBitMap
returns-in-TypeBitMap c =
    read_as_kind c.args.kind kinds.TypeBitMap c.args.words.now c.read_type_map.result c.args.octets.now.items c.push_read.new.octets.items c.push_read.result
    c.in-TypeBitMap.is c.read_type_map.ensures c.push_read.ensures

pub returns-in-SmallTypeBitMap : goal.returns-in-SmallTypeBitMap
returns-in-SmallTypeBitMap c =
    read_as_kind c.args.kind kinds.SmallTypeBitMap c.args.words.now c.read_small_type_map.result c.args.octets.now.items
    c.push_read-in-SmallTypeBitMap.new.octets.items c.push_read-in-SmallTypeBitMap.result c.in-SmallTypeBitMap.is
    c.read_small_type_map.ensures c.push_read-in-SmallTypeBitMap.ensures

pub returns-in-ServiceParameters : goal.returns-in-ServiceParameters
returns-in-ServiceParameters c =
    read_as_kind c.args.kind kinds.ServiceParameters c.args.words.now c.read_parameters.result c.args.octets.now.items
    c.push_read-in-ServiceParameters.new.octets.items c.push_read-in-ServiceParameters.result c.in-ServiceParameters.is c.read_parameters.ensures c.push_read-in-ServiceParameters.ensures

pub returns-in-AddressPrefixes : goal.returns-in-AddressPrefixes
returns-in-AddressPrefixes c =
    read_as_kind c.args.kind kinds.AddressPrefixes c.args.words.now c.read_prefixes.result c.args.octets.now.items
    c.push_read-in-AddressPrefixes.new.octets.items c.push_read-in-AddressPrefixes.result c.in-AddressPrefixes.is c.read_prefixes.ensures c.push_read-in-AddressPrefixes.ensures

pub returns-in-GatewayAndKey : goal.returns-in-GatewayAndKey
returns-in-GatewayAndKey c =
    read_as_kind c.args.kind kinds.GatewayAndKey c.args.words.now c.read_gateway.result c.args.octets.now.items c.push_read-in-GatewayAndKey.new.octets.items
    c.push_read-in-GatewayAndKey.result c.in-GatewayAndKey.is c.read_gateway.ensures c.push_read-in-GatewayAndKey.ensures

pub returns-in-Relay : goal.returns-in-Relay
returns-in-Relay c =
    read_as_kind c.args.kind kinds.Relay c.args.words.now c.read_relay.result c.args.octets.now.items c.push_read-in-Relay.new.octets.items
    c.push_read-in-Relay.result c.in-Relay.is c.read_relay.ensures c.push_read-in-Relay.ensures

pub returns-in-HostIdentity : goal.returns-in-HostIdentity
returns-in-HostIdentity c =
    read_as_kind c.args.kind kinds.HostIdentity c.args.words.now c.read_host_identity.result c.args.octets.now.items
    c.push_read-in-HostIdentity.new.octets.items c.push_read-in-HostIdentity.result c.in-HostIdentity.is
    c.read_host_identity.ensures c.push_read-in-HostIdentity.ensures
