-- Service parameters that need others. RFC 9460 sections 7.1.1 and 8.
use Rattle.std.specs.Prelude.{ℕ, ◌%◌, ◌==◌, ◌&&◌, not, nat_lt, Bool, true, if◌then◌else◌, Option, Some, None, List, [], ◌∷◌, length, map, find}
use Rattle.std.specs.Int.{from_be_bytes, w16}
use Rattle.std.specs.List.{flat_map, list_any}
use Rattle.fields_lists.specs.Groups.{groups}
use Rattle.fields_parameters.specs.ParameterItems.{ParameterItem}
use Rattle.fields_checks.specs.declared.check_error.ValueReason.{ValueReason}
use Rattle.fields_checks.specs.declared.check_error.ValueReason.TheVariants.{BadMandatory, MissingKey, NoAlpn}

-- whether one of the parameters has this key
abbrev pub has_key : List ParameterItem → ℕ → Bool
has_key items key = list_any (λ item. item.key == key) items

-- the keys that a parameter lists: those of two octets each, if it is `mandatory`
abbrev pub listed_keys : ParameterItem → List ℕ
listed_keys item = if item.key == 0 then map (from_be_bytes w16) (groups 2 item.value) else []

-- the first key that `mandatory` lists and no parameter has. RFC 9460 section 8
abbrev pub missing_key : List ParameterItem → Option ℕ
missing_key items = find (λ key. not (has_key items key)) (flat_map listed_keys items)

-- whether numbers are in strictly ascending order, and greater than this one
abbrev pub are_ascending : ℕ → List ℕ → Bool
are_ascending before [] = true
are_ascending before (key ∷ keys) = nat_lt before key && are_ascending key keys

-- whether octets are a list of mandatory keys: keys of two octets each, one at least, in strictly ascending order, and without `mandatory` itself, which is key 0. RFC 9460
-- section 8
abbrev pub are_mandatory_keys : List ℕ → Bool
are_mandatory_keys octets = not (length octets == 0) && (length octets % 2 == 0) && are_ascending 0 (map (from_be_bytes w16) (groups 2 octets))

-- whether a parameter is `mandatory` with another value
abbrev pub is_bad_mandatory : ParameterItem → Bool
is_bad_mandatory item = (item.key == 0) && not (are_mandatory_keys item.value)

-- whether one of the parameters is
abbrev pub has_bad_mandatory : List ParameterItem → Bool
has_bad_mandatory items = list_any is_bad_mandatory items

-- what is wrong with parameters whose list of mandatory keys is right: a key is missing; else `no-default-alpn` is there without `alpn`. RFC 9460 section 7.1.1
abbrev pub reason_after : List ParameterItem → Option ℕ → Option ValueReason
reason_after items (Some key) = Some (MissingKey key)
reason_after items None = if has_key items 2 && not (has_key items 1) then Some NoAlpn else None

-- what is wrong with parameters that aren't ignored
abbrev pub service_reason : List ParameterItem → Option ValueReason
service_reason items = if has_bad_mandatory items then Some BadMandatory else reason_after items (missing_key items)

-- what is wrong with parameters after this priority: nothing in AliasMode, whose priority is 0, in which they are ignored. RFC 9460 section 2.4.2
abbrev pub parameters_reason : ℕ → List ParameterItem → Option ValueReason
parameters_reason priority items = if priority == 0 then None else service_reason items
