-- What is printed of fields reads back.
use Rattle.std.proofs.Common.{◌≡◌, true, List, [], ◌∷◌, ◌++◌, refl, ap, subst, append-nil}
use Rattle.dns_wire.specs.Parts.{Part}
use Rattle.dns_wire.specs.Parts.Part.{Octets as OctetsPart, CompressibleName, UncompressedName as UncompressedPart}
use Rattle.fields_table.specs.DataOrders.{octets_of_parts, part_octets}
use Rattle.fields_table.specs.FieldParts.{named_parts}
use Rattle.fields_table.specs.Layouts.{layout_of}
use Rattle.fields_table.specs.Table.{Definition, kinds_in}
use Rattle.fields_table.specs.declared.kind.Kind.{Kind}
use Rattle.fields_table.specs.declared.kind.Kind.TheVariants as kinds
use Rattle.fields_records.specs.FieldLaws.{AreWordsOfFields}
use Rattle.fields_text.specs.LineWords.{texts}
use Rattle.fields_records.specs.DataWords.{AreFields, IsMarked}
use Rattle.fields_records.specs.Extents.{extent_of}
use Rattle.fields_records.specs.FieldWords.{IsField, Words}
use Rattle.fields_records.specs.declared.extent.Extent.TheVariants.{All}
use Rattle.fields_records.proofs.FieldPart.{HasWords, IsFieldPart}
use Rattle.fields_records.proofs.FirstFields.{AreLayoutParts, first_field, left_is_last, no_texts, others_end}
use Rattle.fields_records.proofs.ListsBack.{gateway_back, gateway_unmarked, identity_back, identity_unmarked, location_back, location_unmarked, parameters_back, parameters_unmarked, prefixes_back, prefixes_unmarked, relay_back, relay_unmarked, small_map_back, small_map_unmarked, type_map_back, type_map_unmarked}
use Rattle.fields_records.proofs.PrintedLaws.{PrintedLaws}
use Rattle.fields_records.proofs.WordsBack.{base64_back, base64_or_hyphen_back, base64_or_hyphen_unmarked, base64_unmarked, hexadecimal_back, hexadecimal_unmarked, sized_back, sized_unmarked, strings_back, strings_unmarked, word_back, word_unmarked}

-- an opaque field has no text
no_text : (part : Part) (own : Words) → IsFieldPart kinds.Opaque part → HasWords kinds.Opaque part own → ⊥
no_text (OctetsPart octets) own is has = let none = has.1 in cc none
no_text (CompressibleName name) own is has = let other = is.0.1 in cc other
no_text (UncompressedPart lowered name) own is has = let other = is.0.1 in cc other

-- all words that are left
own_marked : (own after : Words) → (after ≡ []) → IsMarked (own ++ after) → IsMarked own
own_marked own after none marked = subst IsMarked (append-nil own) (subst (λ (ws : Words). IsMarked (own ++ ws)) none marked)

module _ (laws : PrintedLaws) where
  -- the words of the text of a field are the field
  field_back : (kind : Kind) (part : Part) (own : Words) → IsFieldPart kind part → HasWords kind part own → IsField kind own (part_octets part)
  field_back kinds.SizedOctets part own is has = sized_back laws part own is has
  field_back kinds.Strings part own is has = strings_back laws part own is has
  field_back kinds.Hexadecimal part own is has = hexadecimal_back laws part own is has
  field_back kinds.Base64 part own is has = base64_back laws part own is has
  field_back kinds.Base64OrHyphen part own is has = base64_or_hyphen_back laws part own is has
  field_back kinds.TypeBitMap part own is has = type_map_back laws part own is has
  field_back kinds.SmallTypeBitMap part own is has = small_map_back laws part own is has
  field_back kinds.ServiceParameters part own is has = parameters_back laws part own is has
  field_back kinds.AddressPrefixes part own is has = prefixes_back laws part own is has
  field_back kinds.Location part own is has = location_back laws part own is has
  field_back kinds.GatewayAndKey part own is has = gateway_back laws part own is has
  field_back kinds.Relay part own is has = relay_back laws part own is has
  field_back kinds.HostIdentity part own is has = identity_back laws part own is has
  field_back kinds.Opaque part own is has = absurd (no_text part own is has)
  field_back kind part own is has = word_back laws kind part own refl is has

  -- and they don't begin with `\#`
  field_unmarked : (kind : Kind) (part : Part) (own after : Words) → IsFieldPart kind part → HasWords kind part own → (extent_of kind ≡ All → after ≡ []) → ¬ (IsMarked (own ++ after))
  field_unmarked kinds.SizedOctets part own after is has all marked = sized_unmarked laws part own is has after marked
  field_unmarked kinds.Strings part own after is has all marked = strings_unmarked laws part own is has after marked
  field_unmarked kinds.Hexadecimal part own after is has all marked = hexadecimal_unmarked laws part own is has after marked
  field_unmarked kinds.Base64 part own after is has all marked = base64_unmarked laws part own is has after marked
  field_unmarked kinds.Base64OrHyphen part own after is has all marked = base64_or_hyphen_unmarked laws part own is has after marked
  field_unmarked kinds.TypeBitMap part own after is has all marked = type_map_unmarked laws part own is has (own_marked own after (all refl) marked)
  field_unmarked kinds.SmallTypeBitMap part own after is has all marked = small_map_unmarked laws part own is has (own_marked own after (all refl) marked)
  field_unmarked kinds.ServiceParameters part own after is has all marked = parameters_unmarked laws part own is has (own_marked own after (all refl) marked)
  field_unmarked kinds.AddressPrefixes part own after is has all marked = prefixes_unmarked laws part own is has (own_marked own after (all refl) marked)
  field_unmarked kinds.Location part own after is has all marked = location_unmarked laws part own is has (own_marked own after (all refl) marked)
  field_unmarked kinds.GatewayAndKey part own after is has all marked = gateway_unmarked laws part own is has (own_marked own after (all refl) marked)
  field_unmarked kinds.Relay part own after is has all marked = relay_unmarked laws part own is has (own_marked own after (all refl) marked)
  field_unmarked kinds.HostIdentity part own after is has all marked = identity_unmarked laws part own is has (own_marked own after (all refl) marked)
  field_unmarked kinds.Opaque part own after is has all marked = no_text part own is has
  field_unmarked kind part own after is has all marked = word_unmarked laws kind part own refl is has after marked

  -- the words of the texts of fields are the fields
  pub fields_back : (ds : List Definition) (parts : List Part) (words : Words) → left_is_last (kinds_in ds) ≡ true → AreLayoutParts (layout_of (kinds_in ds)) parts
      → AreWordsOfFields (named_parts ds parts) (texts words) → AreFields (kinds_in ds) words (octets_of_parts parts)
  unfolding layout_of
  fields_back [] parts words last are printed = (no_texts words printed, ap octets_of_parts are.0)
  fields_back (d ∷ ds) parts words last are printed =
      let first = first_field d ds last parts words are printed in
      record {
        own = first.own;
        after = first.after;
        field = part_octets first.part;
        others = octets_of_parts first.left;
        split = first.split;
        whole = ap octets_of_parts first.parts_are;
        takes_all = first.takes_all;
        is_field = field_back d.1 first.part first.own first.is_part first.has_words;
        are_others = fields_back ds first.left first.after (others_end d ds last) first.are_left first.words_left;
      }

  -- and they don't begin with `\#`
  pub fields_unmarked : (ds : List Definition) (parts : List Part) (words : Words) → left_is_last (kinds_in ds) ≡ true → AreLayoutParts (layout_of (kinds_in ds)) parts
      → AreWordsOfFields (named_parts ds parts) (texts words) → ¬ (IsMarked words)
  fields_unmarked [] parts words last are printed marked = subst IsMarked (no_texts words printed) marked
  fields_unmarked (d ∷ ds) parts words last are printed marked =
      let first = first_field d ds last parts words are printed in
      field_unmarked d.1 first.part first.own first.after first.is_part first.has_words first.takes_all (subst IsMarked first.split marked)
