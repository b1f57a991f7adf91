-- Printed host identities read back.
use Rattle.std.proofs.Common.{◌≡◌, ◌∙◌, ℕ, zero, suc, ◌+◌, ◌*◌, ◌/◌, ◌%◌, ◌<◌, ◌≤◌, Bool, true, false, List, [], ◌∷◌, ◌++◌, length, take, drop, decimal, refl, sym, ap, subst, arith, append_assoc}
use Rattle.std.specs.Prelude.{codes, nat_le, Option, Some, None, if◌then◌else◌}
use Rattle.std.specs.Borrow.{Bor}
use Rattle.std.specs.Fmt.{◌++?◌}
use Rattle.std.specs.Option.{option_and_then}
use Rattle.std.proofs.lemmas.Bool.{leb-true}
use Rattle.std.proofs.lemmas.Option.{same_Some}
use Rattle.std.proofs.lemmas.List.{length-take-le, take-append-drop, length-drop}
use Rattle.base64.specs.Engines.{standard}
use Rattle.base64.specs.GeneralPurpose.{encode_of}
use Rattle.hex.specs.Hex.{IsBytes}
use Rattle.dns_name.specs.Names.{Labels, uncompressed}
use Rattle.fields_plain.specs.NameWords.{IsNameText}
use Rattle.fields_text.specs.Hex.{hex_text}
use Rattle.fields_text.specs.Laws.{Base64ReadsBack, HexReadsBack}
use Rattle.fields_text.specs.Octets.{IsBase64, IsHex}
use Rattle.fields_forms.specs.GatewayTexts.{name_at}
use Rattle.fields_forms.specs.HostIdentities.{identity_parts, identity_text, identity_words, servers_in, servers_text}
use Rattle.fields_plain.specs.ZoneNames.{zone_name_text}
use Rattle.fields_forms.specs.IdentityWords.{AreNames, IsHostIdentity, IsIdentity, identity_octets}
use Rattle.fields_text.specs.PrintedWords.{AreWords}
use Rattle.fields_text.proofs.theory.ByteLemmas.{bytes_back, bytes_front}
use Rattle.fields_forms.proofs.FoundNames.{name_first}
use Rattle.fields_plain.proofs.theory.NameLaws.{names_read_back}
use Rattle.fields_plain.proofs.theory.SizedLaws.{number_read}
use Rattle.fields_text.proofs.theory.SpaceLemmas.{BeginsWithSpace, Separate, Taken, base64_clear, decimal_clear, hex_clear, no_words, taken, texts}
use Rattle.fields_plain.proofs.theory.NameSpaces.{name_clear}

abbrev Words : Type 0
Words = List (Bor (List ℕ))

-- The names of servers.
abbrev server : Labels → List ℕ
server name = codes " " ++ zone_name_text name

-- what a text after another is part of
begins_after : (name : Labels) (others : Option (List ℕ)) (text : List ℕ) → Some (server name) ++? others ≡ Some text → BeginsWithSpace text
begins_after name None text e = absurd (cc)
begins_after name (Some more) text e = subst BeginsWithSpace (same_Some (server name ++ more) text e) refl

begins_with : (count : ℕ) (o : Option (Labels × List ℕ)) (text : List ℕ) → option_and_then (λ first. Some (server first.0) ++? servers_in count first.1) o ≡ Some text → BeginsWithSpace text
begins_with count None text e = absurd (cc)
begins_with count (Some (name, after)) text e = begins_after name (servers_in count after) text e

servers_begin : (count : ℕ) (octets text : List ℕ) → servers_in count octets ≡ Some text → BeginsWithSpace text
servers_begin zero [] text e = subst BeginsWithSpace (same_Some [] text e) tt
servers_begin zero (x ∷ xs) text e = absurd (cc)
servers_begin (suc count) [] text e = subst BeginsWithSpace (same_Some [] text e) tt
servers_begin (suc count) (x ∷ xs) text e = begins_with count (name_at (x ∷ xs)) text e

none_read : (text : List ℕ) (words : Words) → Some [] ≡ Some text → text ≡ texts words → AreNames words []
none_read text words e f = subst (λ (ws : Words). AreNames ws []) (sym (no_words words (same_Some [] text e ∙ f))) refl

module _ (count : ℕ) (later : (octets text : List ℕ) (words : Words) → IsBytes octets → servers_in count octets ≡ Some text → text ≡ texts words → Separate words → AreNames words octets)
    (octets text : List ℕ) (words : Words) (bytes : IsBytes octets) (f : text ≡ texts words) (separate : Separate words) where
  by_others : (name : Labels) (after : List ℕ) → name_at octets ≡ Some (name, after) → (others : Option (List ℕ)) → servers_in count after ≡ others → Some (server name) ++? others ≡ Some text
      → AreNames words octets
  by_others name after found None h e = absurd (cc)
  by_others name after found (Some more) h e =
      let here = name_first octets after name bytes found in
      let first = taken (zone_name_text name) more words (name_clear name) (servers_begin count after more h) (same_Some (server name ++ more) text e ∙ f) separate in
      subst (λ (ws : Words). AreNames ws octets) (sym first.whole) (
        uncompressed name,
        after,
        (name, subst (λ (w : List ℕ). IsNameText w name) first.same (names_read_back name here.is_name here.of_octets), refl),
        here.whole,
        later after more first.others here.bytes h first.rest_is first.separate,
      )

  by_name : (o : Option (Labels × List ℕ)) → name_at octets ≡ o → option_and_then (λ first. Some (server first.0) ++? servers_in count first.1) o ≡ Some text → AreNames words octets
  by_name None found e = absurd (cc)
  by_name (Some (name, after)) found e = by_others name after found (servers_in count after) refl e

servers_read : (count : ℕ) (octets text : List ℕ) (words : Words) → IsBytes octets → servers_in count octets ≡ Some text → text ≡ texts words → Separate words → AreNames words octets
servers_read zero [] text words bytes e f separate = none_read text words e f
servers_read zero (x ∷ xs) text words bytes e f separate = absurd (cc)
servers_read (suc count) [] text words bytes e f separate = none_read text words e f
servers_read (suc count) (x ∷ xs) text words bytes e f separate = by_name count (servers_read count) (x ∷ xs) text words bytes f separate (name_at (x ∷ xs)) refl e

-- The words before them.
record Parts (algorithm : ℕ) (tag key servers text : List ℕ) : Type 0 where
  more : List ℕ
  servers_are : servers_text servers ≡ Some more
  text_is : identity_words algorithm tag key ++ more ≡ text
  some_tag : 0 < length tag
  some_key : 0 < length key

parts_of : (algorithm : ℕ) (tag key servers text : List ℕ) → identity_parts algorithm tag key servers ≡ Some text → Parts algorithm tag key servers text
parts_of algorithm [] key servers text e = absurd (cc)
parts_of algorithm (t ∷ tag) [] servers text e = absurd (cc)
parts_of algorithm (t ∷ tag) (k ∷ key) servers text e = by_servers (servers_text servers) refl e where
  by_servers : (o : Option (List ℕ)) → servers_text servers ≡ o → Some (identity_words algorithm (t ∷ tag) (k ∷ key)) ++? o ≡ Some text → Parts algorithm (t ∷ tag) (k ∷ key) servers text
  by_servers None h e = absurd (cc)
  by_servers (Some more) h e = record {
    more = more;
    servers_are = h;
    text_is = same_Some (identity_words algorithm (t ∷ tag) (k ∷ key) ++ more) text e;
    some_tag = omega arith;
    some_key = omega arith;
  }

word_parts : (s a b k more : List ℕ) → s ++ (a ++ s ++ b ++ s ++ k ++ more) ≡ s ++ (a ++ (s ++ (b ++ (s ++ (k ++ more)))))
word_parts s a b k more = simp append_assoc

-- A tag, a key and servers, and their octets.
record Fields (algorithm : ℕ) (tag key servers octets : List ℕ) : Type 0 where
  small : algorithm < 256
  tag_bytes : IsBytes tag
  key_bytes : IsBytes key
  server_bytes : IsBytes servers
  short : length tag ≤ 255
  few : length key < 65536
  whole : octets ≡ identity_octets algorithm tag key ++ servers

module _ (hex : HexReadsBack) (base64 : Base64ReadsBack) (algorithm : ℕ) (tag key servers octets text : List ℕ) (words : Words) (fields : Fields algorithm tag key servers octets)
    (parts : Parts algorithm tag key servers text) where
  abbrev after_tag : List ℕ
  after_tag = 32 ∷ (encode_of standard key ++ parts.more)

  identity_from : (one : Taken (decimal algorithm) (32 ∷ (hex_text tag ++ after_tag)) words) (two : Taken (hex_text tag) after_tag one.others)
      (three : Taken (encode_of standard key) parts.more two.others)
      → IsHostIdentity words octets
  identity_from one two three =
      let small = fields.small in
      let is : IsIdentity one.first.now two.first.now three.first.now three.others octets =
      record {
        algorithm = algorithm;
        tag = tag;
        key = key;
        servers = servers;
        is_algorithm = (number_read algorithm one.first.now (omega (arith, small)) one.same, omega (arith, small));
        is_tag = (subst (λ (w : List ℕ). IsHex w tag) two.same (hex tag fields.tag_bytes), (parts.some_tag, fields.short));
        is_key = (subst (λ (w : List ℕ). IsBase64 w key) three.same (base64 key fields.key_bytes), parts.some_key, fields.few);
        are_servers = servers_read (length servers) servers parts.more three.others fields.server_bytes parts.servers_are three.rest_is three.separate;
        whole = fields.whole;
      } in
      subst (λ (ws : Words). IsHostIdentity ws octets) (sym (one.whole ∙ ap (λ (ws : Words). one.first ∷ ws) (two.whole ∙ ap (λ (ws : Words). two.first ∷ ws) three.whole))) is

  identity_read : AreWords (codes " " ++ text) words → IsHostIdentity words octets
  identity_read printed =
      let small = fields.small in
      let one =
      taken (decimal algorithm) (32 ∷ (hex_text tag ++ after_tag)) words (decimal_clear algorithm (omega (arith, small))) refl
      (sym (word_parts (codes " ") (decimal algorithm) (hex_text tag) (encode_of standard key) parts.more) ∙ ap (λ (xs : List ℕ). 32 ∷ xs) parts.text_is ∙ printed.text_is) printed.separate in
      let two = taken (hex_text tag) after_tag one.others (hex_clear tag) refl one.rest_is one.separate in
      identity_from one two (taken (encode_of standard key) parts.more two.others (base64_clear key) (servers_begin (length servers) servers parts.more parts.servers_are) two.rest_is two.separate)

-- Octets as an identity.
module _ (hex : HexReadsBack) (base64 : Base64ReadsBack) (size algorithm high low : ℕ) (octets text : List ℕ) (words : Words) (bytes : IsBytes (size ∷ algorithm ∷ high ∷ low ∷ octets))
    (printed : AreWords (codes " " ++ text) words) where
  abbrev key_size : ℕ
  key_size = high * 256 + low

  abbrev tag : List ℕ
  tag = take size octets

  abbrev key : List ℕ
  key = take key_size (drop size octets)

  abbrev servers : List ℕ
  servers = drop key_size (drop size octets)

  fields_of : size + key_size ≤ length octets → Fields algorithm tag key servers (size ∷ algorithm ∷ high ∷ low ∷ octets)
  fields_of fits =
      let size_small : size < 256 = bytes 0 in
      let high_small : high < 256 = bytes 2 in
      let low_small : low < 256 = bytes 3 in
      let left = length-drop size octets in
      let tag_size : length tag ≡ size = length-take-le size octets (omega (arith, fits)) in
      let key_count : length key ≡ key_size = length-take-le key_size (drop size octets) (omega (arith, fits, left)) in
      let first : octets ≡ tag ++ drop size octets = sym (take-append-drop size octets) in
      let second : drop size octets ≡ key ++ servers = sym (take-append-drop key_size (drop size octets)) in
      let first_bytes : IsBytes (tag ++ drop size octets) = subst IsBytes first (λ i. bytes (suc (suc (suc (suc i))))) in
      let second_bytes : IsBytes (key ++ servers) = subst IsBytes second (bytes_back tag (drop size octets) first_bytes) in
      let high_is : high ≡ length key / 256 = omega (arith, key_count, low_small) in
      let low_is : low ≡ length key % 256 = omega (arith, key_count, low_small) in
      record {
        small = bytes 1;
        tag_bytes = bytes_front tag (drop size octets) first_bytes;
        key_bytes = bytes_front key servers second_bytes;
        server_bytes = bytes_back key servers second_bytes;
        short = omega (arith, tag_size, size_small);
        few = omega (arith, key_count, high_small, low_small);
        whole =
            ap (λ (n : ℕ). n ∷ algorithm ∷ high ∷ low ∷ octets) (sym tag_size)
            ∙ ap (λ (n : ℕ). length tag ∷ algorithm ∷ n ∷ low ∷ octets) high_is
            ∙ ap (λ (n : ℕ). length tag ∷ algorithm ∷ (length key / 256) ∷ n ∷ octets) low_is
            ∙ ap (λ (xs : List ℕ). length tag ∷ algorithm ∷ (length key / 256) ∷ (length key % 256) ∷ xs) (first ∙ ap (λ (xs : List ℕ). tag ++ xs) second ∙ sym (append_assoc tag key servers));
      }

  by_sizes : (b : Bool) → nat_le (size + key_size) (length octets) ≡ b → (if b then identity_parts algorithm tag key servers else None) ≡ Some text
      → IsHostIdentity words (size ∷ algorithm ∷ high ∷ low ∷ octets)
  by_sizes true t e =
      identity_read hex base64 algorithm tag key servers (size ∷ algorithm ∷ high ∷ low ∷ octets) text words (fields_of (leb-true (size + key_size) (length octets) t))
      (parts_of algorithm tag key servers text e) printed
  by_sizes false t e = absurd (cc)

-- A host identity that is printed is read back.
pub identities_read_back : HexReadsBack → Base64ReadsBack → (octets text : List ℕ) (words : Words) → IsBytes octets → identity_text octets ≡ Some text → AreWords (codes " " ++ text) words
    → IsHostIdentity words octets
identities_read_back hex base64 [] text words bytes e printed = absurd (cc)
identities_read_back hex base64 (a ∷ []) text words bytes e printed = absurd (cc)
identities_read_back hex base64 (a ∷ b ∷ []) text words bytes e printed = absurd (cc)
identities_read_back hex base64 (a ∷ b ∷ c ∷ []) text words bytes e printed = absurd (cc)
identities_read_back hex base64 (size ∷ algorithm ∷ high ∷ low ∷ octets) text words bytes e printed =
    by_sizes hex base64 size algorithm high low octets text words bytes printed (nat_le (size + (high * 256 + low)) (length octets)) refl e
