-- The printed words of fields stay as they are.
use Rattle.std.proofs.Common.{◌≡◌, ◌⊎◌, ◌∙◌, ℕ, ◌+◌, ◌^◌, ◌<◌, Bool, true, false, List, [], ◌∷◌, ◌++◌, length, take, drop, refl, sym, ap, subst, arith, inl, inr, append-nil, append_assoc, length-drop}
use Rattle.std.proofs.Math.Seq.{drop-append_seam, take-append_seam}
use Rattle.std.specs.Prelude.{Option, Some, None, Ok, codes, decimal, min, ◌==◌, nat_lt, if◌then◌else◌}
use Rattle.std.specs.Net.Addr.{segments_of}
use Rattle.std.specs.Net.Text.{ipv4_text, ipv6_text}
use Rattle.std.proofs.lemmas.Fmt.{decimal_digit}
use Rattle.base64.specs.Engines.{standard}
use Rattle.base64.specs.GeneralPurpose.{encode_of}
use Rattle.dns_name.specs.Names.{IsName, Labels}
use Rattle.dns_wire.specs.Parts.{Part}
use Rattle.dns_wire.specs.Parts.Part.{Octets as OctetsPart, CompressibleName, UncompressedName as UncompressedPart}
use Rattle.fields_lists.specs.TypeMaps.{is_small_map, octet_types, types_text}
use Rattle.fields_plain.specs.EuiTexts.{eui_text}
use Rattle.fields_plain.specs.LocatorWords.{locator_text}
use Rattle.fields_plain.specs.Salts.{salt_text}
use Rattle.fields_plain.specs.SizedWords.{sized_text}
use Rattle.fields_plain.specs.Time.{time_text}
use Rattle.fields_plain.specs.TypeNames.{type_word}
use Rattle.fields_plain.specs.ZoneNames.{zone_name_text}
use Rattle.fields_plain.proofs.theory.Words.{eui_word, hash_word, ipv4_word, ipv6_word, locator_word, name_word, salt_word, sized_split, time_word, type_is_word}
use Rattle.fields_records.specs.FieldLaws.{AreWordsOfFields, IsPartOf}
use Rattle.fields_records.specs.FieldTexts.{scheme_text, text_of_any, value_text}
use Rattle.fields_table.specs.Accepts.{accepts}
use Rattle.fields_table.specs.FieldParts.{named_parts}
use Rattle.fields_table.specs.Layouts.{layout_of, takes_rest}
use Rattle.fields_table.specs.Shapes.{shape_of}
use Rattle.fields_table.specs.Table.{Definition, kinds_in}
use Rattle.fields_table.specs.Values.{number_after, octets_value, part_value}
use Rattle.fields_table.specs.declared.kind.Kind.{Kind}
use Rattle.fields_table.specs.declared.kind.Kind.TheVariants as kinds
use Rattle.fields_table.proofs.theory.NumberOctets.{number_small}
use Rattle.fields_text.specs.Base32.{base32_text}
use Rattle.fields_text.specs.LineWords.{AreWordsOf, IsWord, word_of_any}
use Rattle.fields_text.specs.String.{is_tag, quoted}
use Rattle.fields_text.proofs.theory.ByteLemmas.{bytes_drop}
use Rattle.fields_text.proofs.theory.LineLemmas.{one_list}
use Rattle.fields_text.proofs.theory.Options.{some_same}
use Rattle.fields_text.proofs.theory.SpacedTexts.{one_word, words_are}
use Rattle.fields_text.proofs.theory.WordTexts.{quoted_word}
use Rattle.fields_text.proofs.theory.Words.{decimal_word, tag_word}
use Rattle.fields_lines.specs.Completing.{Completed, and_then, completed_fields, completed_own}
use Rattle.fields_lines.specs.FieldWays.{Texts, is_zero, own_count, way_of, word_way}
use Rattle.fields_lines.specs.WordTexts.{completed_word}
use Rattle.fields_lines.specs.declared.way.Way.{Way}
use Rattle.fields_lines.specs.declared.way.Way.TheVariants as ways
use Rattle.fields_lines.proofs.FirstParts.{ArePartsOf, first_part}
use Rattle.fields_lines.proofs.KeptForms.{gateways_stay, identities_stay, relays_stay, small_map_stays, some_word}
use Rattle.fields_lines.proofs.KeptHashes.{hash_complete, tag_complete}
use Rattle.fields_lines.proofs.KeptNames.{name_complete}
use Rattle.fields_lines.proofs.KeptNumbers.{not_zero}
use Rattle.fields_lines.proofs.KeptTypes.{type_complete}
use Rattle.fields_lines.proofs.KeptWords.{EachStays, number_stays, own_stays, same_stays, seconds_stay}

-- the words of the first field stay, and these words of the other fields follow them, or none
record StaysFirst (origin : Option (List ℕ)) (rtype index : ℕ) (kind : Kind) (words after : Texts) : Type 0 where
  own : Texts
  rest : Texts
  split : words ≡ own ++ rest
  count : own_count kind words ≡ length own
  stays : EachStays origin (way_of rtype index kind) own 0 own
  is_rest : (rest ≡ after) ⊎ (rest ≡ [])

if_some : (b : Bool) (x text : List ℕ) → (if b then Some x else None) ≡ Some text → (b ≡ true) × (Some x ≡ Some text)
if_some true x text e = (refl, e)
if_some false x text e = absurd (cc e)

any_some : (f : List ℕ → List ℕ) (octets text : List ℕ) → text_of_any f octets ≡ Some text → (0 < length octets) × (Some (f octets) ≡ Some text)
any_some f [] text e = absurd (cc e)
any_some f (x ∷ xs) text e = (omega arith, e)

scheme_word : (b : Bool) (n : ℕ) → n < 2 ^ 64 → IsWord (if b then codes "NOTIFY" else decimal n)
scheme_word true n small = tag_word (codes "NOTIFY") refl
scheme_word false n small = decimal_word n small

module _ (origin : Option (List ℕ)) (rtype index : ℕ) (words own after : Texts) (split : words ≡ own ++ after) where
  abbrev Stays : Kind → Type 0
  Stays kind = StaysFirst origin rtype index kind words after

  -- a field of one word
  one_stays : (kind : Kind) (x text : List ℕ) → ((ts : Texts) → own_count kind ts ≡ min (length ts) 1) → IsWord x → Some x ≡ Some text → AreWordsOf text own
      → completed_word origin (word_way (way_of rtype index kind) (x ∷ []) 0) x ≡ Some x → Stays kind
  one_stays kind x text counts is e are stays =
      let printed = subst (λ (t : List ℕ). AreWordsOf t own) (sym (some_same x text e)) are in
      let same : x ∷ [] ≡ own = one_list x (x ∷ []) own (words_are x (x ∷ []) (one_word x is)) printed in
      let whole : words ≡ x ∷ after = split ∙ ap (λ (ts : Texts). ts ++ after) (sym same) in
      let one : min (length (x ∷ after)) 1 ≡ 1 = omega arith in
      record {
        own = x ∷ [];
        rest = after;
        split = whole;
        count = counts words ∙ ap (λ (ts : Texts). min (length ts) 1) whole ∙ one;
        stays = (stays, tt);
        is_rest = inl refl;
      }

  -- a field of all words that are left, which stay as they are
  all_stay : (kind : Kind) → ((ts : Texts) → own_count kind ts ≡ length ts) → way_of rtype index kind ≡ ways.Same → Stays kind
  all_stay kind counts way = record {
    own = words;
    rest = [];
    split = sym (append-nil words);
    count = counts words;
    stays = subst (λ (w : Way). EachStays origin w words 0 words) (sym way) (same_stays origin words 0 words);
    is_rest = inr refl;
  }

  -- a field of all words that are left, after which no field is
  last_stay : (kind : Kind) → ((ts : Texts) → own_count kind ts ≡ length ts) → after ≡ [] → EachStays origin (way_of rtype index kind) own 0 own → Stays kind
  last_stay kind counts none stays =
      let whole : words ≡ own ++ [] = split ∙ ap (λ (ts : Texts). own ++ ts) none in
      record {
        own = own;
        rest = [];
        split = whole;
        count = counts words ∙ ap (λ (ts : Texts). length ts) (whole ∙ append-nil own);
        stays = stays;
        is_rest = inr refl;
      }

  -- the count of sized octets
  abbrev one_or_two : Bool → ℕ
  one_or_two is = if is then 1 else 2

  zero_count : (ts : Texts) → own_count kinds.SizedOctets (decimal 0 ∷ ts) ≡ 1
  zero_count [] = refl
  zero_count (t ∷ ts) =
      let zero_is : is_zero (decimal 0) ≡ true = ap is_zero (decimal_digit 0 (omega arith)) in
      ap one_or_two zero_is

  -- sized octets
  sized_stay : (octets text : List ℕ) → length octets < 2 ^ 64 → Some (sized_text octets) ≡ Some text → AreWordsOf text own → Stays kinds.SizedOctets
  sized_stay octets text small e are = by_octets octets same small where
    same : decimal (length octets) ∷ word_of_any (encode_of standard) octets ≡ own
    same =
        one_list (sized_text octets) _ own (words_are _ _ (sized_split octets small)) (subst (λ (t : List ℕ). AreWordsOf t own) (sym (some_same (sized_text octets) text e)) are)

    by_octets : (xs : List ℕ) → decimal (length xs) ∷ word_of_any (encode_of standard) xs ≡ own → length xs < 2 ^ 64 → Stays kinds.SizedOctets
    by_octets [] is few =
        let whole : words ≡ decimal 0 ∷ after = split ∙ ap (λ (ts : Texts). ts ++ after) (sym is) in
        record {
          own = decimal 0 ∷ [];
          rest = after;
          split = whole;
          count = ap (own_count kinds.SizedOctets) whole ∙ zero_count after;
          stays = (refl, tt);
          is_rest = inl refl;
        }
    by_octets (x ∷ xs) is few =
        let number = decimal (length (x ∷ xs)) in
        let key = encode_of standard (x ∷ xs) in
        let whole : words ≡ number ∷ key ∷ after = split ∙ ap (λ (ts : Texts). ts ++ after) (sym is) in
        let above = not_zero (length (x ∷ xs)) (omega arith) few in
        record {
          own = number ∷ key ∷ [];
          rest = after;
          split = whole;
          count = ap (own_count kinds.SizedOctets) whole ∙ ap one_or_two above;
          stays = (refl, (refl, tt));
          is_rest = inl refl;
        }

  -- a field of octets
  octets_stay : (kind : Kind) (octets text : List ℕ) → IsPartOf (shape_of kind) (OctetsPart octets) → value_text kind (octets_value kind octets) ≡ Some text → AreWordsOf text own
      → (takes_rest (shape_of kind) ≡ true → after ≡ []) → Stays kind
  octets_stay kinds.Number8 octets text h e are ends =
      let n = number_after 0 octets in
      let small = number_small 1 octets h.1 h.0 in
      let wide : n < 2 ^ 64 = omega (arith, small) in
      one_stays kinds.Number8 (decimal n) text (λ ts. refl) (decimal_word n wide) e are (number_stays origin (decimal n ∷ []) rtype index n wide)
  octets_stay kinds.Number16 octets text h e are ends =
      let n = number_after 0 octets in
      let small = number_small 2 octets h.1 h.0 in
      let wide : n < 2 ^ 64 = omega (arith, small) in
      one_stays kinds.Number16 (decimal n) text (λ ts. refl) (decimal_word n wide) e are (number_stays origin (decimal n ∷ []) rtype index n wide)
  octets_stay kinds.Number32 octets text h e are ends =
      let small = number_small 4 octets h.1 h.0 in
      one_stays kinds.Number32 (decimal (number_after 0 octets)) text (λ ts. refl) (decimal_word (number_after 0 octets) (omega (arith, small))) e are refl
  octets_stay kinds.Number48 octets text h e are ends =
      let small = number_small 6 octets h.1 h.0 in
      one_stays kinds.Number48 (decimal (number_after 0 octets)) text (λ ts. refl) (decimal_word (number_after 0 octets) (omega (arith, small))) e are refl
  octets_stay kinds.Number64 octets text h e are ends =
      let small = number_small 8 octets h.1 h.0 in
      one_stays kinds.Number64 (decimal (number_after 0 octets)) text (λ ts. refl) (decimal_word (number_after 0 octets) (omega (arith, small))) e are refl
  octets_stay kinds.SyncScheme octets text h e are ends =
      let n = number_after 0 octets in
      let small = number_small 1 octets h.1 h.0 in
      one_stays kinds.SyncScheme (scheme_text n) text (λ ts. refl) (scheme_word (n == 1) n (omega (arith, small))) e are refl
  octets_stay kinds.Seconds octets text h e are ends =
      let n = number_after 0 octets in
      let small = number_small 4 octets h.1 h.0 in
      let short : n < 2 ^ 32 = omega (arith, small) in
      one_stays kinds.Seconds (decimal n) text (λ ts. refl) (decimal_word n (omega arith)) e are (seconds_stay origin n short)
  octets_stay kinds.Time octets text h e are ends =
      let n = number_after 0 octets in
      one_stays kinds.Time (time_text n) text (λ ts. refl) (time_word n) (if_some (nat_lt n (2 ^ 32)) (time_text n) text e).1 are refl
  octets_stay kinds.Ipv4 octets text h e are ends =
      one_stays kinds.Ipv4 (ipv4_text octets) text (λ ts. refl) (ipv4_word octets h.0) (if_some (length octets == 4) (ipv4_text octets) text e).1 are refl
  octets_stay kinds.Ipv6 octets text h e are ends =
      let x = ipv6_text (segments_of octets) in
      one_stays kinds.Ipv6 x text (λ ts. refl) (ipv6_word octets h.0 h.1) (if_some (length octets == 16) x text e).1 are refl
  octets_stay kinds.Eui48 octets text h e are ends =
      let size = h.1 in one_stays kinds.Eui48 (eui_text octets) text (λ ts. refl) (eui_word octets h.0 (omega arith)) e are refl
  octets_stay kinds.Eui64 octets text h e are ends =
      let size = h.1 in one_stays kinds.Eui64 (eui_text octets) text (λ ts. refl) (eui_word octets h.0 (omega arith)) e are refl
  octets_stay kinds.Locator64 octets text h e are ends =
      one_stays kinds.Locator64 (locator_text octets) text (λ ts. refl) (locator_word octets h.0 h.1) (if_some (length octets == 8) (locator_text octets) text e).1 are refl
  octets_stay kinds.RecordType octets text h e are ends =
      let n = number_after 0 octets in
      let small = number_small 2 octets h.1 h.0 in
      one_stays kinds.RecordType (type_word n) text (λ ts. refl) (type_is_word n (omega (arith, small))) e are (ap (λ (word : List ℕ). Some word) (type_complete n))
  octets_stay kinds.CharacterString octets text h e are ends =
      one_stays kinds.CharacterString (quoted (drop 1 octets)) text (λ ts. refl) (quoted_word (drop 1 octets)) e are refl
  octets_stay kinds.Tag octets text h e are ends =
      let test = if_some (is_tag (drop 1 octets)) (drop 1 octets) text e in
      one_stays kinds.Tag (drop 1 octets) text (λ ts. refl) (tag_word (drop 1 octets) test.0) test.1 are (ap (λ (word : List ℕ). Some word) (tag_complete (drop 1 octets) test.0))
  octets_stay kinds.Salt octets text h e are ends =
      one_stays kinds.Salt (salt_text (drop 1 octets)) text (λ ts. refl) (salt_word (drop 1 octets) (bytes_drop 1 octets h.0)) e are refl
  octets_stay kinds.Hash octets text h e are ends =
      let some = any_some base32_text (drop 1 octets) text e in
      one_stays kinds.Hash (base32_text (drop 1 octets)) text (λ ts. refl) (hash_word (drop 1 octets) some.0) some.1 are
      (ap (λ (word : List ℕ). Some word) (hash_complete (drop 1 octets)))
  octets_stay kinds.SizedOctets octets text h e are ends =
      let short = h.1 in
      let size = length-drop 2 octets in
      sized_stay (drop 2 octets) text (omega (arith, size, short)) e are
  octets_stay kinds.Text octets text h e are ends = one_stays kinds.Text (quoted octets) text (λ ts. refl) (quoted_word octets) e are refl
  octets_stay kinds.Strings octets text h e are ends = all_stay kinds.Strings (λ ts. refl) refl
  octets_stay kinds.Hexadecimal octets text h e are ends = all_stay kinds.Hexadecimal (λ ts. refl) refl
  octets_stay kinds.Base64 octets text h e are ends = all_stay kinds.Base64 (λ ts. refl) refl
  octets_stay kinds.Base64OrHyphen octets text h e are ends = all_stay kinds.Base64OrHyphen (λ ts. refl) refl
  octets_stay kinds.TypeBitMap octets text h e are ends = all_stay kinds.TypeBitMap (λ ts. refl) refl
  octets_stay kinds.ServiceParameters octets text h e are ends = all_stay kinds.ServiceParameters (λ ts. refl) refl
  octets_stay kinds.AddressPrefixes octets text h e are ends = all_stay kinds.AddressPrefixes (λ ts. refl) refl
  octets_stay kinds.Location octets text h e are ends = all_stay kinds.Location (λ ts. refl) refl
  octets_stay kinds.Opaque octets text h e are ends = all_stay kinds.Opaque (λ ts. refl) refl
  octets_stay kinds.SmallTypeBitMap octets text h e are ends =
      let test = if_some (is_small_map octets) (types_text (octet_types 0 octets)) text e in
      last_stay kinds.SmallTypeBitMap (λ ts. refl) (ends refl) (small_map_stays origin octets text own test.0 test.1 are)
  octets_stay kinds.GatewayAndKey octets text h e are ends = last_stay kinds.GatewayAndKey (λ ts. refl) (ends refl) (gateways_stay origin octets text own h.0 e are)
  octets_stay kinds.Relay octets text h e are ends = last_stay kinds.Relay (λ ts. refl) (ends refl) (relays_stay origin octets text own h.0 e are)
  octets_stay kinds.HostIdentity octets text h e are ends = last_stay kinds.HostIdentity (λ ts. refl) (ends refl) (identities_stay origin octets text own h.0 e are)
  octets_stay kind octets text h e are ends = absurd h

  -- a field that is a name
  name_stays : (kind : Kind) (name : Labels) (text : List ℕ) → ((ts : Texts) → own_count kind ts ≡ min (length ts) 1) → way_of rtype index kind ≡ ways.Name → IsName name
      → Some (zone_name_text name) ≡ Some text → AreWordsOf text own → Stays kind
  name_stays kind name text counts way is e are =
      let x = zone_name_text name in
      let complete = name_complete origin name (some_word x (name_word name is)) in
      one_stays kind x text counts (name_word name is) e are (subst (λ (w : Way). completed_word origin (word_way w (x ∷ []) 0) x ≡ Some x) (sym way) complete)

  compressible_stays : (kind : Kind) (name : Labels) (text : List ℕ) → IsPartOf (shape_of kind) (CompressibleName name) → Some (zone_name_text name) ≡ Some text → AreWordsOf text own
      → Stays kind
  compressible_stays kinds.CompressibleName name text h e are = name_stays kinds.CompressibleName name text (λ ts. refl) refl h e are
  compressible_stays kind name text h e are = absurd h

  uncompressed_stays : (kind : Kind) (lowered : Bool) (name : Labels) (text : List ℕ) → IsPartOf (shape_of kind) (UncompressedPart lowered name) → Some (zone_name_text name) ≡ Some text
      → AreWordsOf text own → Stays kind
  uncompressed_stays kinds.PointedName lowered name text h e are = name_stays kinds.PointedName name text (λ ts. refl) refl h e are
  uncompressed_stays kinds.LowercasedName lowered name text h e are = name_stays kinds.LowercasedName name text (λ ts. refl) refl h e are
  uncompressed_stays kinds.PlainName lowered name text h e are = name_stays kinds.PlainName name text (λ ts. refl) refl h e are
  uncompressed_stays kind lowered name text h e are = absurd h

  -- a field
  part_stays : (kind : Kind) (part : Part) (text : List ℕ) → IsPartOf (shape_of kind) part → value_text kind (part_value kind part) ≡ Some text → AreWordsOf text own
      → (takes_rest (shape_of kind) ≡ true → after ≡ []) → Stays kind
  part_stays kind (OctetsPart octets) text h e are ends = octets_stay kind octets text h e are ends
  part_stays kind (CompressibleName name) text h e are ends = compressible_stays kind name text h e are
  part_stays kind (UncompressedPart lowered name) text h e are ends = uncompressed_stays kind lowered name text h e are

none_count : (kind : Kind) → own_count kind [] ≡ 0
none_count kinds.SizedOctets = refl
none_count kinds.Strings = refl
none_count kind = refl

no_words : (ds : List Definition) (words : Texts) → AreWordsOfFields (named_parts ds []) words → words ≡ []
no_words [] words h = h
no_words (d ∷ ds) words h = h

module _ (origin : Option (List ℕ)) (rtype : ℕ) where
  -- without words
  none_stay : (ks : List Kind) (at index : ℕ) (done : Texts) → completed_fields origin at rtype index ks done [] ≡ Ok (done ++ [])
  none_stay [] at index done = refl
  none_stay (kind ∷ ks) at index done =
      let none : Texts = [] in
      ap (λ (n : ℕ). and_then (completed_own origin at (way_of rtype index kind) (take n none) 0 done (take n none))
      (λ (more : Texts). completed_fields origin (at + n) rtype (index + 1) ks more (drop n none))) (none_count kind)
      ∙ none_stay ks (at + 0) (index + 1) done

  -- the words of the first field, and those of the others
  both_stay : (kind : Kind) (ks : List Kind) (at index : ℕ) (done words after : Texts) (first : StaysFirst origin rtype index kind words after)
      → ((at : ℕ) (done : Texts) → completed_fields origin at rtype (index + 1) ks done first.rest ≡ Ok (done ++ first.rest))
      → completed_fields origin at rtype index (kind ∷ ks) done words ≡ Ok (done ++ words)
  both_stay kind ks at index done words after first later =
      let way = way_of rtype index kind in
      let n = length first.own in
      let others = λ (m : ℕ) (ts more : Texts). completed_fields origin (at + m) rtype (index + 1) ks more ts in
      let all = λ (m : ℕ) (ts : Texts). and_then (completed_own origin at way (take m ts) 0 done (take m ts)) (others m (drop m ts)) in
      ap (λ (m : ℕ). all m words) first.count
      ∙ ap (all n) first.split
      ∙ ap (λ (ts : Texts). and_then (completed_own origin at way ts 0 done ts) (others n (drop n (first.own ++ first.rest)))) (take-append_seam first.own first.rest)
      ∙ ap (λ (ts : Texts). and_then (completed_own origin at way first.own 0 done first.own) (others n ts)) (drop-append_seam first.own first.rest)
      ∙ ap (λ (completed : Completed). and_then completed (others n first.rest)) (own_stays origin at way first.own 0 done first.own first.stays)
      ∙ later (at + n) (done ++ first.own)
      ∙ ap (λ (ts : Texts). Ok ts) (append_assoc done first.own first.rest ∙ ap (λ (ts : Texts). done ++ ts) (sym first.split))

  -- The words of fields stay.
  pub fields_stay : (ds : List Definition) (parts : List Part) (at index : ℕ) (done words : Texts) → ArePartsOf (layout_of (kinds_in ds)) parts → AreWordsOfFields (named_parts ds parts) words
      → completed_fields origin at rtype index (kinds_in ds) done words ≡ Ok (done ++ words)
  unfolding layout_of
  fields_stay [] parts at index done words are printed = refl
  fields_stay (d ∷ ds) parts at index done words are printed =
      let first = first_part (shape_of d.1) (accepts d.1) (layout_of (kinds_in ds)) parts are in
      let own = subst (λ (ps : List Part). AreWordsOfFields (named_parts (d ∷ ds) ps) words) first.are printed in
      let ends : takes_rest (shape_of d.1) ≡ true → own.1 ≡ [] =
      λ rest. elim first.are_left [
        | inl e ↦ no_words ds own.1 (subst (λ (ps : List Part). AreWordsOfFields (named_parts ds ps) own.1) e own.4)
        | inr laid ↦ absurd (cc (rest, laid.1))
      ] in
      let stays = part_stays origin rtype index words own.0 own.1 own.2 d.1 first.part own.3.0 first.is_part own.3.1 own.3.2 ends in
      let left : (at : ℕ) (done : Texts) → completed_fields origin at rtype (index + 1) (kinds_in ds) done own.1 ≡ Ok (done ++ own.1) =
      λ at done. elim first.are_left [
        | inl e ↦
            let none = no_words ds own.1 (subst (λ (ps : List Part). AreWordsOfFields (named_parts ds ps) own.1) e own.4) in
            subst (λ (ts : Texts). completed_fields origin at rtype (index + 1) (kinds_in ds) done ts ≡ Ok (done ++ ts)) (sym none) (none_stay (kinds_in ds) at (index + 1) done)
        | inr laid ↦ fields_stay ds first.left at (index + 1) done own.1 laid.0 own.4
      ] in
      both_stay d.1 (kinds_in ds) at index done words own.1 stays (λ at done.
      elim stays.is_rest [
        | inl e ↦ subst (λ (ts : Texts). completed_fields origin at rtype (index + 1) (kinds_in ds) done ts ≡ Ok (done ++ ts)) (sym e) (left at done)
        | inr e ↦
            subst (λ (ts : Texts). completed_fields origin at rtype (index + 1) (kinds_in ds) done ts ≡ Ok (done ++ ts)) (sym e) (none_stay (kinds_in ds) at (index + 1) done)
      ])
