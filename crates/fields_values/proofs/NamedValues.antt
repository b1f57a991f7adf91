-- The values of A, NS, CNAME, SOA, PTR, MX, AAAA and SRV have parts.
use Rattle.std.proofs.Common.{◌≡◌, ℕ, ◌<◌, ◌≤◌, ◌^◌, List, [], ◌∷◌, length, refl, subst, arith}
use Rattle.std.specs.Prelude.{Result, true}
use Rattle.dns_name.specs.Names.{Labels}
use Rattle.dns_name.specs.ParsedName.{labels}
use Rattle.dns_name.specs.Unique.{encoded_name}
use Rattle.dns_name.specs.declared.parsed_name.ParsedName.{ParsedName}
use Rattle.dns_data.specs.Laws.{NamesAreBounded}
use Rattle.fields_table.specs.RecordTypes.{record_types}
use Rattle.fields_table.specs.Table.{definitions_of, kinds_of}
use Rattle.fields_table.specs.declared.owned.OwnedFieldData.{OwnedFieldData}
use Rattle.fields_text.specs.Base32Words.{last_octets}
use Rattle.dns_wire.specs.Parts.{Part, parts_size}
use Rattle.dns_wire.specs.Parts.Part.{CompressibleName, Octets, UncompressedName}
use Rattle.fields_values.specs.ValueData.{AreValuesOf, MakesData, MakesParts}
use Rattle.fields_values.specs.declared.new_value.NewValue.TheVariants.{Ipv4, Ipv6, Name, Number}
use Rattle.fields_values.specs.declared.value_error.ValueError.{ValueError}
use Rattle.fields_values.proofs.MadeParts.{values_are_made}
use Rattle.fields_values.proofs.NumberLemmas.{length-last_octets}

-- a number of 16 bits
abbrev number_of : ℕ → Part
number_of n = Octets (last_octets 2 n)

-- a number of 32 bits
abbrev wide_of : ℕ → Part
wide_of n = Octets (last_octets 4 n)

-- A name is the value of NS.
pub ns_values : (target : ParsedName) → AreValuesOf (kinds_of 2) (Name target ∷ []) (CompressibleName (labels target) ∷ [])
unfolding definitions_of record_types
ns_values target = (refl, tt)

-- A name is the value of CNAME.
pub cname_values : (target : ParsedName) → AreValuesOf (kinds_of 5) (Name target ∷ []) (CompressibleName (labels target) ∷ [])
unfolding definitions_of record_types
cname_values target = (refl, tt)

-- A name is the value of PTR.
pub ptr_values : (target : ParsedName) → AreValuesOf (kinds_of 12) (Name target ∷ []) (CompressibleName (labels target) ∷ [])
unfolding definitions_of record_types
ptr_values target = (refl, tt)

soa_values : (mname rname : ParsedName) (serial refresh retry expire minimum : ℕ) → serial < 2 ^ 32 → refresh < 2 ^ 32 → retry < 2 ^ 32 → expire < 2 ^ 32 → minimum < 2 ^ 32
    → AreValuesOf (kinds_of 6) (Name mname ∷ Name rname ∷ Number serial ∷ Number refresh ∷ Number retry ∷ Number expire ∷ Number minimum ∷ [])
    (CompressibleName (labels mname) ∷ CompressibleName (labels rname) ∷ wide_of serial ∷ wide_of refresh ∷ wide_of retry ∷ wide_of expire ∷ wide_of minimum ∷ [])
unfolding definitions_of record_types
soa_values mname rname serial refresh retry expire minimum a b c d e = (
  refl,
  (
    refl,
    (
      (last_octets 4 serial, refl, (a, refl)),
      (
        (last_octets 4 refresh, refl, (b, refl)),
        (
          (last_octets 4 retry, refl, (c, refl)),
          ((last_octets 4 expire, refl, (d, refl)), ((last_octets 4 minimum, refl, (e, refl)), tt)),
        ),
      ),
    ),
  ),
)

mx_values : (preference : ℕ) (exchange : ParsedName) → preference < 65536
    → AreValuesOf (kinds_of 15) (Number preference ∷ Name exchange ∷ []) (number_of preference ∷ CompressibleName (labels exchange) ∷ [])
unfolding definitions_of record_types
mx_values preference exchange small = ((last_octets 2 preference, refl, (small, refl)), (refl, tt))

srv_values : (priority weight port : ℕ) (target : ParsedName) → priority < 65536 → weight < 65536 → port < 65536
    → AreValuesOf (kinds_of 33) (Number priority ∷ Number weight ∷ Number port ∷ Name target ∷ []) (number_of priority ∷ number_of weight ∷ number_of port ∷ UncompressedName true (labels target) ∷ [])
unfolding definitions_of record_types
srv_values priority weight port target a b c =
    ((last_octets 2 priority, refl, (a, refl)), ((last_octets 2 weight, refl, (b, refl)), ((last_octets 2 port, refl, (c, refl)), (refl, tt))))

a_values : (address : List ℕ) → length address ≡ 4 → AreValuesOf (kinds_of 1) (Ipv4 address ∷ []) (Octets address ∷ [])
unfolding definitions_of record_types
a_values address size = ((address, refl, (size, refl)), tt)

aaaa_values : (address : List ℕ) → length address ≡ 16 → AreValuesOf (kinds_of 28) (Ipv6 address ∷ []) (Octets address ∷ [])
unfolding definitions_of record_types
aaaa_values address size = ((address, refl, (size, refl)), tt)

-- a name is short
name_size : NamesAreBounded → (name : ParsedName) → parts_size (CompressibleName (labels name) ∷ []) ≤ 255
name_size bounded name = let few = bounded (labels name) (encoded_name name.name_at.0.1) in omega (arith, few)

-- A preference and a name make the RDATA of MX.
pub made_mx : NamesAreBounded → (preference : ℕ) (exchange : ParsedName) (name : Labels) (result : Result OwnedFieldData ValueError) → preference < 65536 → labels exchange ≡ name
    → MakesData 15 (Number preference ∷ Name exchange ∷ []) result → MakesParts 15 (number_of preference ∷ CompressibleName name ∷ []) result
made_mx bounded preference exchange name result small same h =
    let few = name_size bounded exchange in
    let two = length-last_octets 2 preference in
    subst (λ (l : Labels). MakesParts 15 (number_of preference ∷ CompressibleName l ∷ []) result) same
    (values_are_made 15 _ (number_of preference ∷ CompressibleName (labels exchange) ∷ []) result (mx_values preference exchange small) (omega (arith, few, two)) h)

-- A name makes the RDATA of a type whose only field is a name that may be compressed.
pub made_pointed : NamesAreBounded → (rtype : ℕ) (target : ParsedName) (name : Labels) (result : Result OwnedFieldData ValueError)
    → AreValuesOf (kinds_of rtype) (Name target ∷ []) (CompressibleName (labels target) ∷ []) → labels target ≡ name
    → MakesData rtype (Name target ∷ []) result → MakesParts rtype (CompressibleName name ∷ []) result
made_pointed bounded rtype target name result are same h =
    let few = name_size bounded target in
    subst (λ (l : Labels). MakesParts rtype (CompressibleName l ∷ []) result) same
    (values_are_made rtype _ (CompressibleName (labels target) ∷ []) result are (omega (arith, few)) h)

-- Two names and five numbers make the RDATA of SOA.
pub made_soa : NamesAreBounded → (mname rname : ParsedName) (first second : Labels) (serial refresh retry expire minimum : ℕ) (result : Result OwnedFieldData ValueError)
    → serial < 2 ^ 32 → refresh < 2 ^ 32 → retry < 2 ^ 32 → expire < 2 ^ 32 → minimum < 2 ^ 32 → labels mname ≡ first → labels rname ≡ second
    → MakesData 6 (Name mname ∷ Name rname ∷ Number serial ∷ Number refresh ∷ Number retry ∷ Number expire ∷ Number minimum ∷ []) result
    → MakesParts 6 (CompressibleName first ∷ CompressibleName second ∷ wide_of serial ∷ wide_of refresh ∷ wide_of retry ∷ wide_of expire ∷ wide_of minimum ∷ []) result
made_soa bounded mname rname first second serial refresh retry expire minimum result a b c d e same others h =
    let few = name_size bounded mname in
    let fewer = name_size bounded rname in
    let first_size = length-last_octets 4 serial in
    let second_size = length-last_octets 4 refresh in
    let third_size = length-last_octets 4 retry in
    let fourth_size = length-last_octets 4 expire in
    let last_size = length-last_octets 4 minimum in
    subst (λ (l : Labels). MakesParts 6 (CompressibleName l ∷ CompressibleName second
    ∷ wide_of serial ∷ wide_of refresh ∷ wide_of retry ∷ wide_of expire ∷ wide_of minimum ∷ []) result) same
    (subst (λ (l : Labels). MakesParts 6 (CompressibleName (labels mname) ∷ CompressibleName l
    ∷ wide_of serial ∷ wide_of refresh ∷ wide_of retry ∷ wide_of expire ∷ wide_of minimum ∷ []) result) others
    (values_are_made 6 _
    (CompressibleName (labels mname) ∷ CompressibleName (labels rname) ∷ wide_of serial ∷ wide_of refresh ∷ wide_of retry ∷ wide_of expire ∷ wide_of minimum ∷ []) result
    (soa_values mname rname serial refresh retry expire minimum a b c d e)
    (omega (arith, few, fewer, first_size, second_size, third_size, fourth_size, last_size)) h))

-- Three numbers and a name make the RDATA of SRV.
pub made_srv : NamesAreBounded → (priority weight port : ℕ) (target : ParsedName) (name : Labels) (result : Result OwnedFieldData ValueError) → priority < 65536
    → weight < 65536 → port < 65536 → labels target ≡ name
    → MakesData 33 (Number priority ∷ Number weight ∷ Number port ∷ Name target ∷ []) result
    → MakesParts 33 (number_of priority ∷ number_of weight ∷ number_of port ∷ UncompressedName true name ∷ []) result
made_srv bounded priority weight port target name result a b c same h =
    let few = name_size bounded target in
    let first = length-last_octets 2 priority in
    let second = length-last_octets 2 weight in
    let third = length-last_octets 2 port in
    subst (λ (l : Labels). MakesParts 33 (number_of priority ∷ number_of weight ∷ number_of port ∷ UncompressedName true l ∷ []) result) same
    (values_are_made 33 _ (number_of priority ∷ number_of weight ∷ number_of port ∷ UncompressedName true (labels target) ∷ []) result
    (srv_values priority weight port target a b c) (omega (arith, few, first, second, third)) h)

-- Four octets make the RDATA of A.
pub made_a : (address : List ℕ) (result : Result OwnedFieldData ValueError) → length address ≡ 4 → MakesData 1 (Ipv4 address ∷ []) result → MakesParts 1 (Octets address ∷ []) result
made_a address result size h = values_are_made 1 _ (Octets address ∷ []) result (a_values address size) (omega (arith, size)) h

-- Sixteen octets make the RDATA of AAAA.
pub made_aaaa : (address : List ℕ) (result : Result OwnedFieldData ValueError) → length address ≡ 16 → MakesData 28 (Ipv6 address ∷ []) result → MakesParts 28 (Octets address ∷ []) result
made_aaaa address result size h = values_are_made 28 _ (Octets address ∷ []) result (aaaa_values address size) (omega (arith, size)) h
