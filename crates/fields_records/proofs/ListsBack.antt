-- Printed fields of all words that are left read back.
use Rattle.std.proofs.Common.{◌≡◌, ◌∙◌, ℕ, Bool, true, false, List, [], ◌∷◌, ◌++◌, length, map, refl, sym, ap, subst}
use Rattle.std.specs.Prelude.{Option, Some, None, codes, if◌then◌else◌}
use Rattle.std.specs.Fmt.{◌++?◌}
use Rattle.std.proofs.lemmas.List.{length-map}
use Rattle.std.proofs.lemmas.Option.{same_Some}
use Rattle.hex.specs.Hex.{IsBytes}
use Rattle.dns_data.specs.Layout.{IsLaidOut}
use Rattle.dns_data.specs.Layout.Layout.{Rest as RestLayout}
use Rattle.dns_wire.specs.Parts.{Part}
use Rattle.dns_wire.specs.Parts.Part.{Octets as OctetsPart, CompressibleName, UncompressedName as UncompressedPart}
use Rattle.fields_table.specs.DataOrders.{part_octets}
use Rattle.fields_parameters.specs.Parameters.{are_parameters, parameters_text, parameter_word}
use Rattle.fields_lists.specs.Prefixes.{are_prefixes, prefixes_text, has_word, prefix_text, prefix_word}
use Rattle.fields_lists.specs.TypeMaps.{is_type_map, is_small_map, map_types, octet_types, types_text}
use Rattle.fields_table.specs.declared.kind.Kind.TheVariants as kinds
use Rattle.fields_parameters.specs.ParameterItems.{parameters_of}
use Rattle.fields_lists.specs.PrefixItems.{PrefixItem, prefixes_of}
use Rattle.fields_text.specs.Separated.{separated, spaced, spaced_if_all}
use Rattle.fields_plain.specs.TypeNames.{type_word}
use Rattle.fields_text.specs.LineWords.{AreWordsOf, texts}
use Rattle.fields_records.proofs.PrintedFieldWords.{map_below, small_below}
use Rattle.fields_text.proofs.theory.LineLemmas.{one_list}
use Rattle.fields_lists.specs.PrefixWords.{ArePrefixWords}
use Rattle.fields_lists.specs.TypeMapWords.{AreTypeTexts, IsSmallTypeMap, IsTypeMap}
use Rattle.fields_parameters.specs.ParameterWords.{AreParameterWords}
use Rattle.fields_records.specs.DataWords.{IsMarked}
use Rattle.fields_records.specs.FieldWords.{AreFieldWords, Words}
use Rattle.fields_records.proofs.FieldPart.{HasWords, IsFieldPart}
use Rattle.fields_records.proofs.GatewaysBack.{gateway_read, identity_read, relay_read}
use Rattle.fields_records.proofs.LocationBack.{location_read}
use Rattle.fields_records.proofs.MarkedWords.{gateway_words_unmarked, identity_words_unmarked, location_words_unmarked, parameter_words_unmarked, prefix_words_unmarked, relay_words_unmarked, types_unmarked}
use Rattle.fields_records.proofs.ParametersBack.{parameters_read}
use Rattle.fields_records.proofs.PrintedLaws.{PrintedLaws}

-- the octets of a field that takes all remaining octets
rest_octets : (test : List ℕ → Bool) (octets : List ℕ) → IsLaidOut (RestLayout test) (OctetsPart octets ∷ []) → test octets ≡ true
rest_octets test octets (others, same, accepted) = let e : others ≡ octets = cc same in subst (λ (xs : List ℕ). test xs ≡ true) e accepted

-- the words of record types
type_texts : (own : Words) (types : List ℕ) → texts own ≡ map type_word types → AreTypeTexts own types
type_texts [] [] same = tt
type_texts [] (n ∷ types) same = absurd (cc same)
type_texts (word ∷ own) [] same = absurd (cc same)
type_texts (word ∷ own) (n ∷ types) same = (cc same, type_texts own types (cc same))

if_some : (b : Bool) (x text : List ℕ) → (if b then Some x else None) ≡ Some text → (b ≡ true) × (x ≡ text)
if_some true x text e = (refl, same_Some x text e)
if_some false x text e = absurd (cc e)

-- the text of prefixes
prefix_then : (first word text : List ℕ) (known : Bool) (others : Option (List ℕ)) → (Some first ++? (if known then Some word else None)) ++? others ≡ Some text
    → (rest : List ℕ) × (others ≡ Some rest) × ((first ++ word) ++ rest ≡ text)
prefix_then first word text true (Some rest) e = (rest, refl, same_Some ((first ++ word) ++ rest) text e)
prefix_then first word text true None e = absurd (cc e)
prefix_then first word text false None e = absurd (cc e)
prefix_then first word text false (Some rest) e = absurd (cc e)

prefixes_are : (first : List ℕ) (items : List PrefixItem) (text : List ℕ) → spaced_if_all first (map prefix_word items) ≡ Some text → separated first (codes " ") (map prefix_text items) ≡ text
prefixes_are first [] text e = same_Some [] text e
prefixes_are first (item ∷ items) text e =
    let here = prefix_then first (prefix_text item) text (has_word item) (spaced_if_all (codes " ") (map prefix_word items)) e in
    ap (λ (xs : List ℕ). (first ++ prefix_text item) ++ xs) (prefixes_are (codes " ") items here.0 here.1) ∙ here.2

module _ (laws : PrintedLaws) where
  -- the octets of each kind
  module _ (octets text : List ℕ) (own : Words) (bytes : IsBytes octets) (are : AreWordsOf text (texts own)) where
    same_words : (other : List ℕ) (words : List (List ℕ)) → other ≡ text → AreWordsOf other words → texts own ≡ words
    same_words other words e is = one_list text (texts own) words are (subst (λ (xs : List ℕ). AreWordsOf xs words) e is)

    type_map_is : is_type_map octets ≡ true → Some (types_text (map_types octets)) ≡ Some text → IsTypeMap own octets
    type_map_is map_is e =
        let same = same_words (types_text (map_types octets)) (map type_word (map_types octets)) (same_Some _ text e) (laws.lists.types (map_types octets) (map_below octets bytes)) in
        laws.reading.type_maps own octets bytes map_is (type_texts own (map_types octets) same)

    small_map_is : (if is_small_map octets then Some (types_text (octet_types 0 octets)) else None) ≡ Some text → IsSmallTypeMap own octets
    small_map_is e =
        let parts = if_some (is_small_map octets) (types_text (octet_types 0 octets)) text e in
        let same = same_words (types_text (octet_types 0 octets)) (map type_word (octet_types 0 octets)) parts.1 (laws.lists.types (octet_types 0 octets) (small_below octets parts.0)) in
        laws.reading.small_type_maps own octets bytes parts.0 (type_texts own (octet_types 0 octets) same)

    parameters_are : are_parameters octets ≡ true → Some (parameters_text octets) ≡ Some text → AreParameterWords own octets
    parameters_are is e =
        parameters_read laws.reading.parameters octets own bytes is
        (same_words (parameters_text octets) (map parameter_word (parameters_of octets)) (same_Some _ text e) (laws.lists.parameters octets bytes))

    prefixes_is : are_prefixes octets ≡ true → prefixes_text octets ≡ Some text → ArePrefixWords own octets
    prefixes_is is e =
        let same = same_words text (map prefix_text (prefixes_of octets)) refl (laws.lists.prefixes octets text bytes e) in
        let count = sym (length-map own (λ word. word.now)) ∙ ap length same ∙ length-map (prefixes_of octets) prefix_text in
        laws.reading.prefixes own octets text bytes is e count (ap spaced same ∙ prefixes_are [] (prefixes_of octets) text e)

  -- a field of each kind reads back
  pub type_map_back : (part : Part) (own : Words) → IsFieldPart kinds.TypeBitMap part → HasWords kinds.TypeBitMap part own → AreFieldWords kinds.TypeBitMap own (part_octets part)
  type_map_back (OctetsPart octets) own field words = type_map_is octets words.0 own field.2 words.2 (rest_octets is_type_map octets field.0) words.1
  type_map_back (CompressibleName name) own field words = absurd (cc (field.0.1))
  type_map_back (UncompressedPart lowered name) own field words = absurd (cc (field.0.1))

  -- the printed words of a field that is a bit map of types below 128 are read as its octets
  pub small_map_back : (part : Part) (own : Words) → IsFieldPart kinds.SmallTypeBitMap part → HasWords kinds.SmallTypeBitMap part own → AreFieldWords kinds.SmallTypeBitMap own (part_octets part)
  small_map_back (OctetsPart octets) own field words = small_map_is octets words.0 own field.2 words.2 words.1
  small_map_back (CompressibleName name) own field words = absurd (cc (field.0.1))
  small_map_back (UncompressedPart lowered name) own field words = absurd (cc (field.0.1))

  -- the printed words of a field of service parameters are read as its octets
  pub parameters_back : (part : Part) (own : Words) → IsFieldPart kinds.ServiceParameters part → HasWords kinds.ServiceParameters part own
      → AreFieldWords kinds.ServiceParameters own (part_octets part)
  parameters_back (OctetsPart octets) own field words = parameters_are octets words.0 own field.2 words.2 (rest_octets are_parameters octets field.0) words.1
  parameters_back (CompressibleName name) own field words = absurd (cc (field.0.1))
  parameters_back (UncompressedPart lowered name) own field words = absurd (cc (field.0.1))

  -- the printed words of a field of address prefixes are read as its octets
  pub prefixes_back : (part : Part) (own : Words) → IsFieldPart kinds.AddressPrefixes part → HasWords kinds.AddressPrefixes part own → AreFieldWords kinds.AddressPrefixes own (part_octets part)
  prefixes_back (OctetsPart octets) own field words = prefixes_is octets words.0 own field.2 words.2 (rest_octets are_prefixes octets field.0) words.1
  prefixes_back (CompressibleName name) own field words = absurd (cc (field.0.1))
  prefixes_back (UncompressedPart lowered name) own field words = absurd (cc (field.0.1))

  -- the printed words of a location field are read as its octets
  pub location_back : (part : Part) (own : Words) → IsFieldPart kinds.Location part → HasWords kinds.Location part own → AreFieldWords kinds.Location own (part_octets part)
  location_back (OctetsPart octets) own field words = location_read laws.lists.locations laws.reading.locations octets words.0 own field.2 words.2 words.1
  location_back (CompressibleName name) own field words = absurd field.0
  location_back (UncompressedPart lowered name) own field words = absurd field.0

  -- the printed words of a field that is a gateway with its key are read as its octets
  pub gateway_back : (part : Part) (own : Words) → IsFieldPart kinds.GatewayAndKey part → HasWords kinds.GatewayAndKey part own → AreFieldWords kinds.GatewayAndKey own (part_octets part)
  gateway_back (OctetsPart octets) own field words = gateway_read laws.reading.ipv4 laws.reading.ipv6 own words.0 words.2 laws.lists.gateways laws.reading.gateways octets field.2 words.1
  gateway_back (CompressibleName name) own field words = absurd (cc (field.0.1))
  gateway_back (UncompressedPart lowered name) own field words = absurd (cc (field.0.1))

  -- the printed words of a relay field are read as its octets
  pub relay_back : (part : Part) (own : Words) → IsFieldPart kinds.Relay part → HasWords kinds.Relay part own → AreFieldWords kinds.Relay own (part_octets part)
  relay_back (OctetsPart octets) own field words = relay_read laws.reading.ipv4 laws.reading.ipv6 own words.0 words.2 laws.lists.relays laws.reading.relays octets field.2 words.1
  relay_back (CompressibleName name) own field words = absurd (cc (field.0.1))
  relay_back (UncompressedPart lowered name) own field words = absurd (cc (field.0.1))

  -- the printed words of a host identity field are read as its octets
  pub identity_back : (part : Part) (own : Words) → IsFieldPart kinds.HostIdentity part → HasWords kinds.HostIdentity part own → AreFieldWords kinds.HostIdentity own (part_octets part)
  identity_back (OctetsPart octets) own field words = identity_read laws.lists.identities laws.reading.identities own words.0 words.2 octets field.2 words.1
  identity_back (CompressibleName name) own field words = absurd (cc (field.0.1))
  identity_back (UncompressedPart lowered name) own field words = absurd (cc (field.0.1))

  -- its first word isn't `\#`
  pub type_map_unmarked : (part : Part) (own : Words) → IsFieldPart kinds.TypeBitMap part → HasWords kinds.TypeBitMap part own → ¬ (IsMarked own)
  type_map_unmarked part own field words = types_unmarked own (type_map_back part own field words).types

  -- the first printed word of a bit map of types below 128 isn't `\#`
  pub small_map_unmarked : (part : Part) (own : Words) → IsFieldPart kinds.SmallTypeBitMap part → HasWords kinds.SmallTypeBitMap part own → ¬ (IsMarked own)
  small_map_unmarked part own field words = types_unmarked own (small_map_back part own field words).types

  -- the first printed word of service parameters isn't `\#`
  pub parameters_unmarked : (part : Part) (own : Words) → IsFieldPart kinds.ServiceParameters part → HasWords kinds.ServiceParameters part own → ¬ (IsMarked own)
  parameters_unmarked part own field words = let is = parameters_back part own field words in parameter_words_unmarked own is.items is.represented

  -- the first printed word of address prefixes isn't `\#`
  pub prefixes_unmarked : (part : Part) (own : Words) → IsFieldPart kinds.AddressPrefixes part → HasWords kinds.AddressPrefixes part own → ¬ (IsMarked own)
  prefixes_unmarked part own field words = prefix_words_unmarked own (part_octets part) (prefixes_back part own field words)

  -- the first printed word of a location isn't `\#`
  pub location_unmarked : (part : Part) (own : Words) → IsFieldPart kinds.Location part → HasWords kinds.Location part own → ¬ (IsMarked own)
  location_unmarked part own field words = location_words_unmarked own (part_octets part) (location_back part own field words)

  -- the first printed word of a gateway with its key isn't `\#`
  pub gateway_unmarked : (part : Part) (own : Words) → IsFieldPart kinds.GatewayAndKey part → HasWords kinds.GatewayAndKey part own → ¬ (IsMarked own)
  gateway_unmarked part own field words = gateway_words_unmarked own (part_octets part) (gateway_back part own field words)

  -- the first printed word of a relay isn't `\#`
  pub relay_unmarked : (part : Part) (own : Words) → IsFieldPart kinds.Relay part → HasWords kinds.Relay part own → ¬ (IsMarked own)
  relay_unmarked part own field words = relay_words_unmarked own (part_octets part) (relay_back part own field words)

  -- the first printed word of a host identity isn't `\#`
  pub identity_unmarked : (part : Part) (own : Words) → IsFieldPart kinds.HostIdentity part → HasWords kinds.HostIdentity part own → ¬ (IsMarked own)
  identity_unmarked part own field words = identity_words_unmarked own (part_octets part) (identity_back part own field words)
