-- The names within fields: that they are there, and what is known of each.
use Rattle.std.proofs.Common.{◌≡◌, ◌∙◌, ℕ, zero, suc, ◌+◌, ◌*◌, ◌%◌, ◌<◌, ◌≤◌, ◌==◌, Bool, true, false, List, [], ◌∷◌, ◌++◌, ◌⊎◌, length, drop, get_or, ap, inl, inr, sym, subst, refl, arith, length-drop}
use Rattle.std.specs.Option.{option_to_list}
use Rattle.std.specs.Prelude.{Option, Result, Some, None, ◌||◌, if◌then◌else◌, is_some, nat_le, nat_lt, slice_get}
use Rattle.std.proofs.lemmas.Bool.{and_parts, eqb-true, leb-true}
use Rattle.std.proofs.lemmas.List.{drop-drop}
use Rattle.std.proofs.lemmas.Option.{same_Some}
use Rattle.dns_name.specs.Unique.{EncodedName}
use Rattle.dns_name.proofs.theory.ExtentLaws.{ends_after, one_end}
use Rattle.dns_wire.specs.Parts.{Part}
use Rattle.dns_wire.specs.Parts.Part.{Octets, CompressibleName, UncompressedName}
use Rattle.fields_table.specs.Accepts.{accepts}
use Rattle.fields_forms.specs.Gateways.{gateway_size, is_gateway_and_key, is_relay, is_size}
use Rattle.fields_forms.specs.HostIdentities.{is_host_identity}
use Rattle.fields_table.specs.Layouts.{takes_rest}
use Rattle.fields_forms.specs.PlainNames.{are_plain_names, plain_name_size}
use Rattle.fields_table.specs.Shapes.{shape_of}
use Rattle.fields_table.specs.declared.kind.Kind.{Kind}
use Rattle.fields_table.specs.declared.kind.Kind.TheVariants as kinds
use Rattle.fields_table.specs.declared.kind.Kind.TheVariants.{GatewayAndKey, HostIdentity, Relay}
use Rattle.fields_table.specs.declared.shape.Shape.TheVariants as shapes
use Rattle.dnsm_read.specs.DataNames.{most_names}
use Rattle.dnsm_read.specs.NameOffsets.{Finds, NamesAt, NamesInOctets, NamesWithin, OnlyName, ServersAt, gateway_offset, relay_offset}
use Rattle.dnsm_read.proofs.PlainNameLemmas.{after_first, plain_name, plain_names}
use Rattle.dnsm_read.proofs.theory.UncompressedLemmas.{ends_later}

-- Octets that a field accepts have names at some offsets.

is_there : (o : Option ℕ) → is_some o ≡ true → (size : ℕ) × (o ≡ Some size)
is_there None t = absurd (cc)
is_there (Some size) t = (size, refl)

has_size : (n : ℕ) (o : Option ℕ) → is_size n o ≡ true → is_some o ≡ true
has_size n None t = absurd (cc)
has_size n (Some size) t = refl

module _ (b : List ℕ) where
  -- a gateway or a relay at offset p is a name if its type is 3
  name_if : (gateway_type : ℕ) (octets : List ℕ) (p : ℕ) → octets ≡ drop p b → (gateway_type ≡ 3 → is_some (plain_name_size octets) ≡ true)
      → (is : Bool) → (gateway_type == 3) ≡ is → (offsets : List ℕ) × OnlyName b (if is then Some p else None) offsets
  name_if gateway_type octets p here known false e = ([], refl)
  name_if gateway_type octets p here known true e =
      let size = is_there (plain_name_size octets) (known (eqb-true gateway_type 3 e)) in
      (p ∷ [], ((plain_name b octets p size.0 here size.1).0, refl))

  gateway_there : (octets : List ℕ) (p : ℕ) → octets ≡ drop p b → is_gateway_and_key octets ≡ true → (offsets : List ℕ) × OnlyName b (gateway_offset octets p) offsets
  gateway_there [] p here t = ([], refl)
  gateway_there (x ∷ []) p here t = ([], refl)
  gateway_there (gateway_type ∷ algorithm ∷ octets) p here t =
      let known : gateway_type ≡ 3 → is_some (plain_name_size octets) ≡ true = λ e. subst (λ (k : ℕ). (nat_lt 3 k || is_some (gateway_size k octets)) ≡ true) e t in
      name_if gateway_type octets (p + 2) (ap (drop 2) here ∙ drop-drop 2 p b) known (gateway_type == 3) refl

  relay_there : (octets : List ℕ) (p : ℕ) → octets ≡ drop p b → is_relay octets ≡ true → (offsets : List ℕ) × OnlyName b (relay_offset octets p) offsets
  relay_there [] p here t = ([], refl)
  relay_there (first ∷ octets) p here t =
      let known : first % 128 ≡ 3 → is_some (plain_name_size octets) ≡ true =
      λ e. has_size (length octets) (plain_name_size octets) (subst (λ (k : ℕ). (nat_lt 3 k || is_size (length octets) (gateway_size k octets)) ≡ true) e t) in
      name_if (first % 128) octets (p + 1) (after_first b p first octets here) known (first % 128 == 3) refl

  servers_there : (octets : List ℕ) (p : ℕ) → octets ≡ drop p b → is_host_identity octets ≡ true → (offsets : List ℕ) × ServersAt b octets p offsets
  servers_there [] p here t = ([], refl)
  servers_there (x ∷ []) p here t = ([], refl)
  servers_there (x ∷ y ∷ []) p here t = ([], refl)
  servers_there (x ∷ y ∷ z ∷ []) p here t = ([], refl)
  servers_there (tag_size ∷ algorithm ∷ high ∷ low ∷ octets) p here t =
      let size : ℕ = tag_size + (high * 256 + low) in
      let parts = and_parts (nat_le size (length octets)) (are_plain_names (drop size octets)) t in
      let fits : size ≤ length octets = leb-true size (length octets) parts.0 in
      let after : octets ≡ drop (p + 4) b = ap (drop 4) here ∙ drop-drop 4 p b in
      let servers : drop size octets ≡ drop (p + 4 + size) b = ap (drop size) after ∙ drop-drop size (p + 4) b in
      let all = ap length here in
      let left = length-drop p b in
      let found = plain_names b (drop size octets) (p + 4 + size) 0 servers (omega arith) parts.1 in
      let start : p + 4 + size + 0 ≡ p + 4 + size = omega arith in
      let end : length b ≡ p + 4 + length octets = omega arith in
      (found.0, subst (λ (q : ℕ). NamesAt b (p + 4 + size) q found.0) end (subst (λ (q : ℕ). NamesAt b q (length b) found.0) start found.1))

  -- The names within octets that a field of this kind accepts.
  pub names_there : (kind : Kind) (octets : List ℕ) (p : ℕ) → octets ≡ drop p b → accepts kind octets ≡ true → (offsets : List ℕ) × NamesInOctets b kind octets p offsets
  names_there GatewayAndKey octets p here t = gateway_there octets p here t
  names_there Relay octets p here t = relay_there octets p here t
  names_there HostIdentity octets p here t = servers_there octets p here t
  names_there kind octets p here t = ([], refl)

  -- No names are within octets of a field that doesn't take all remaining octets.
  pub no_names : (kind : Kind) (octets : List ℕ) (p : ℕ) → takes_rest (shape_of kind) ≡ false → NamesInOctets b kind octets p []
  no_names GatewayAndKey octets p fixed = absurd (cc)
  no_names Relay octets p fixed = absurd (cc)
  no_names HostIdentity octets p fixed = absurd (cc)
  no_names kind octets p fixed = refl

  -- Nor within octets of another kind.
  pub other_names : (kind : Kind) (octets : List ℕ) (p : ℕ) → (kind ≡ GatewayAndKey → ⊥) → (kind ≡ Relay → ⊥) → (kind ≡ HostIdentity → ⊥) → NamesInOctets b kind octets p []
  other_names GatewayAndKey octets p gateway relay identity = absurd (gateway refl)
  other_names Relay octets p gateway relay identity = absurd (relay refl)
  other_names HostIdentity octets p gateway relay identity = absurd (identity refl)
  other_names kind octets p gateway relay identity = refl

-- The servers of a host identity, which begins with the sizes of a tag and of a key, are names up to its end.
module _ (b : List ℕ) (p from to : ℕ) (offsets : List ℕ) where
  -- They are after the sizes, the tag and the key.
  pub servers_are : (identity : List ℕ) → 4 ≤ length identity → from ≡ p + 4 + (get_or identity 0 0 + (get_or identity 2 0 * 256 + get_or identity 3 0)) → to ≡ p + length identity
      → ServersAt b identity p offsets → NamesAt b from to offsets
  servers_are [] long first last at = absurd (omega arith)
  servers_are (x ∷ []) long first last at = absurd (omega arith)
  servers_are (x ∷ y ∷ []) long first last at = absurd (omega arith)
  servers_are (x ∷ y ∷ z ∷ []) long first last at = absurd (omega arith)
  servers_are (tag_size ∷ algorithm ∷ high ∷ low ∷ octets) long first last at =
      let end : p + 4 + length octets ≡ to = omega arith in
      subst (λ (q : ℕ). NamesAt b q to offsets) (sym first) (subst (λ (r : ℕ). NamesAt b (p + 4 + (tag_size + (high * 256 + low))) r offsets) end at)

  -- Such names are servers.
  pub are_servers : (identity : List ℕ) → 4 ≤ length identity → from ≡ p + 4 + (get_or identity 0 0 + (get_or identity 2 0 * 256 + get_or identity 3 0)) → to ≡ p + length identity
      → NamesAt b from to offsets → ServersAt b identity p offsets
  are_servers [] long first last at = absurd (omega arith)
  are_servers (x ∷ []) long first last at = absurd (omega arith)
  are_servers (x ∷ y ∷ []) long first last at = absurd (omega arith)
  are_servers (x ∷ y ∷ z ∷ []) long first last at = absurd (omega arith)
  are_servers (tag_size ∷ algorithm ∷ high ∷ low ∷ octets) long first last at =
      let end : to ≡ p + 4 + length octets = omega arith in
      subst (λ (q : ℕ). NamesAt b q (p + 4 + length octets) offsets) first (subst (λ (r : ℕ). NamesAt b from r offsets) end at)

-- Fewer than four octets have none.
pub no_servers : (b identity : List ℕ) (p : ℕ) → length identity < 4 → ServersAt b identity p []
no_servers b [] p short = refl
no_servers b (x ∷ []) p short = refl
no_servers b (x ∷ y ∷ []) p short = refl
no_servers b (x ∷ y ∷ z ∷ []) p short = refl
no_servers b (tag_size ∷ algorithm ∷ high ∷ low ∷ octets) p short = absurd (omega arith)

-- A name at each of the offsets.

-- no offset is among none
pub none_found : (offsets : List ℕ) (index q : ℕ) → offsets ≡ [] → slice_get offsets index ≡ Some q → ⊥
none_found [] index q none found = absurd (cc)
none_found (offset ∷ offsets) index q none found = absurd (cc)

-- an offset among two lists is among one of them
pub get_either : (xs ys : List ℕ) (i q : ℕ) → slice_get (xs ++ ys) i ≡ Some q → (slice_get xs i ≡ Some q) ⊎ ((j : ℕ) × (slice_get ys j ≡ Some q))
get_either [] ys i q found = inr (i, found)
get_either (x ∷ xs) ys zero q found = inl found
get_either (x ∷ xs) ys (suc i) q found = get_either xs ys i q found

only_found : (p index q : ℕ) → slice_get (p ∷ []) index ≡ Some q → p ≡ q
only_found p zero q found = same_Some p q found
only_found p (suc index) q found = absurd (none_found [] index q refl found)

only_is : (b : List ℕ) (place : Option ℕ) (offsets : List ℕ) → OnlyName b place offsets → offsets ≡ option_to_list place
only_is b None offsets only = only
only_is b (Some p) offsets only = only.1

-- The search for the only name is one within octets of its kind.
pub only_finds : (b : List ℕ) (there place : Option ℕ) (index : ℕ) (result : Result ℕ ℕ) → place ≡ there → (names : (offsets : List ℕ) × OnlyName b there offsets)
    → Finds (option_to_list place) index result → (offsets : List ℕ) × OnlyName b there offsets × Finds offsets index result
only_finds b there place index result same names found =
    let is : option_to_list place ≡ names.0 = ap (λ (o : Option ℕ). option_to_list o) same ∙ sym (only_is b there names.0 names.1) in
    (names.0, names.1, subst (λ (xs : List ℕ). Finds xs index result) is found)

module _ (b : List ℕ) where
  only_encoded : (place : Option ℕ) (offsets : List ℕ) (index q : ℕ) → OnlyName b place offsets → slice_get offsets index ≡ Some q → EncodedName b q
  only_encoded None offsets index q only found = absurd (none_found offsets index q only found)
  only_encoded (Some p) offsets index q only found =
      let one : slice_get (p ∷ []) index ≡ Some q = ap (λ (xs : List ℕ). slice_get xs index) (sym only.1) ∙ found in
      subst (λ (k : ℕ). EncodedName b k) (only_found p index q one) only.0

  names_encoded : (offsets : List ℕ) (p q index place : ℕ) → NamesAt b p q offsets → slice_get offsets index ≡ Some place → EncodedName b place
  names_encoded [] p q index place at found = absurd (none_found [] index place refl found)
  names_encoded (offset ∷ offsets) p q zero place at found = subst (λ (k : ℕ). EncodedName b k) (sym at.0 ∙ same_Some offset place found) at.1
  names_encoded (offset ∷ offsets) p q (suc index) place at found = names_encoded offsets at.2 q index place at.4 found

  servers_encoded : (octets : List ℕ) (p : ℕ) (offsets : List ℕ) (index q : ℕ) → ServersAt b octets p offsets → slice_get offsets index ≡ Some q → EncodedName b q
  servers_encoded [] p offsets index q at found = absurd (none_found offsets index q at found)
  servers_encoded (x ∷ []) p offsets index q at found = absurd (none_found offsets index q at found)
  servers_encoded (x ∷ y ∷ []) p offsets index q at found = absurd (none_found offsets index q at found)
  servers_encoded (x ∷ y ∷ z ∷ []) p offsets index q at found = absurd (none_found offsets index q at found)
  servers_encoded (tag_size ∷ algorithm ∷ high ∷ low ∷ octets) p offsets index q at found =
      names_encoded offsets (p + 4 + (tag_size + (high * 256 + low))) (p + 4 + length octets) index q at found

  -- A name is encoded at each offset within octets.
  pub octets_encoded : (kind : Kind) (octets : List ℕ) (p : ℕ) (offsets : List ℕ) (index q : ℕ) → NamesInOctets b kind octets p offsets → slice_get offsets index ≡ Some q → EncodedName b q
  octets_encoded GatewayAndKey octets p offsets index q at found = only_encoded (gateway_offset octets p) offsets index q at found
  octets_encoded Relay octets p offsets index q at found = only_encoded (relay_offset octets p) offsets index q at found
  octets_encoded HostIdentity octets p offsets index q at found = servers_encoded octets p offsets index q at found
  octets_encoded kind octets p offsets index q at found = absurd (none_found offsets index q at found)

  -- The offsets are at or after that of the octets.

  only_later : (p place : ℕ) (is : Bool) (offsets : List ℕ) (index q : ℕ) → p ≤ place → OnlyName b (if is then Some place else None) offsets → slice_get offsets index ≡ Some q → p ≤ q
  only_later p place false offsets index q after only found = absurd (none_found offsets index q only found)
  only_later p place true offsets index q after only found =
      let one : slice_get (place ∷ []) index ≡ Some q = ap (λ (xs : List ℕ). slice_get xs index) (sym only.1) ∙ found in
      let is = only_found place index q one in
      omega arith

  names_later : (offsets : List ℕ) (p q index place : ℕ) → NamesAt b p q offsets → slice_get offsets index ≡ Some place → p ≤ place
  names_later [] p q index place at found = absurd (none_found [] index place refl found)
  names_later (offset ∷ offsets) p q zero place at found = let is = same_Some offset place found in let own = at.0 in omega arith
  names_later (offset ∷ offsets) p q (suc index) place at found =
      let first = ends_after at.3 in
      let others = names_later offsets at.2 q index place at.4 found in
      omega arith

  gateway_later : (octets : List ℕ) (p : ℕ) (offsets : List ℕ) (index q : ℕ) → OnlyName b (gateway_offset octets p) offsets → slice_get offsets index ≡ Some q → p ≤ q
  gateway_later [] p offsets index q at found = absurd (none_found offsets index q at found)
  gateway_later (x ∷ []) p offsets index q at found = absurd (none_found offsets index q at found)
  gateway_later (gateway_type ∷ algorithm ∷ octets) p offsets index q at found = only_later p (p + 2) (gateway_type == 3) offsets index q (omega arith) at found

  relay_later : (octets : List ℕ) (p : ℕ) (offsets : List ℕ) (index q : ℕ) → OnlyName b (relay_offset octets p) offsets → slice_get offsets index ≡ Some q → p ≤ q
  relay_later [] p offsets index q at found = absurd (none_found offsets index q at found)
  relay_later (first ∷ octets) p offsets index q at found = only_later p (p + 1) (first % 128 == 3) offsets index q (omega arith) at found

  servers_later : (octets : List ℕ) (p : ℕ) (offsets : List ℕ) (index q : ℕ) → ServersAt b octets p offsets → slice_get offsets index ≡ Some q → p ≤ q
  servers_later [] p offsets index q at found = absurd (none_found offsets index q at found)
  servers_later (x ∷ []) p offsets index q at found = absurd (none_found offsets index q at found)
  servers_later (x ∷ y ∷ []) p offsets index q at found = absurd (none_found offsets index q at found)
  servers_later (x ∷ y ∷ z ∷ []) p offsets index q at found = absurd (none_found offsets index q at found)
  servers_later (tag_size ∷ algorithm ∷ high ∷ low ∷ octets) p offsets index q at found =
      let later = names_later offsets (p + 4 + (tag_size + (high * 256 + low))) (p + 4 + length octets) index q at found in
      omega arith

  octets_later : (kind : Kind) (octets : List ℕ) (p : ℕ) (offsets : List ℕ) (index q : ℕ) → NamesInOctets b kind octets p offsets → slice_get offsets index ≡ Some q → p ≤ q
  octets_later GatewayAndKey octets p offsets index q at found = gateway_later octets p offsets index q at found
  octets_later Relay octets p offsets index q at found = relay_later octets p offsets index q at found
  octets_later HostIdentity octets p offsets index q at found = servers_later octets p offsets index q at found
  octets_later kind octets p offsets index q at found = absurd (none_found offsets index q at found)

  -- The names within a field begin at or after its offset.
  pub within_later : (kind : Kind) (part : Part) (p : ℕ) (offsets : List ℕ) (index q : ℕ) → NamesWithin b kind part p offsets → slice_get offsets index ≡ Some q → p ≤ q
  within_later kind (Octets octets) p offsets index q at found = octets_later kind octets p offsets index q at found
  within_later kind (CompressibleName name) p offsets index q at found = only_later p p true offsets index q (omega arith) at found
  within_later kind (UncompressedName lowercased name) p offsets index q at found = only_later p p true offsets index q (omega arith) at found

-- How many names there are.

few_none : (n : ℕ) (offsets : List ℕ) → offsets ≡ [] → length offsets ≤ n
few_none n offsets none = let size = ap length none in omega (arith, size)

few_only : (b : List ℕ) (place : Option ℕ) (offsets : List ℕ) → OnlyName b place offsets → length offsets ≤ 1
few_only b None offsets only = few_none 1 offsets only
few_only b (Some p) offsets only = let size = ap length only.1 in omega (arith, size)

module _ (b : List ℕ) where
  -- a name takes an octet at least
  few_at : (offsets : List ℕ) (p q : ℕ) → NamesAt b p q offsets → length offsets + p ≤ q
  few_at [] p q at = omega arith
  few_at (offset ∷ offsets) p q at =
      let first = ends_later at.3 in
      let others = few_at offsets at.2 q at.4 in
      omega arith

  few_servers : (octets : List ℕ) (p : ℕ) (offsets : List ℕ) → length octets ≤ 65535 → ServersAt b octets p offsets → length offsets ≤ 65531
  few_servers [] p offsets small at = few_none 65531 offsets at
  few_servers (x ∷ []) p offsets small at = few_none 65531 offsets at
  few_servers (x ∷ y ∷ []) p offsets small at = few_none 65531 offsets at
  few_servers (x ∷ y ∷ z ∷ []) p offsets small at = few_none 65531 offsets at
  few_servers (tag_size ∷ algorithm ∷ high ∷ low ∷ octets) p offsets small at =
      let few = few_at offsets (p + 4 + (tag_size + (high * 256 + low))) (p + 4 + length octets) at in
      omega arith

  -- Within octets of RDATA are at most as many names as their kind allows.
  pub few_names : (kind : Kind) (octets : List ℕ) (p : ℕ) (offsets : List ℕ) → length octets ≤ 65535 → NamesInOctets b kind octets p offsets → length offsets ≤ most_names kind
  few_names GatewayAndKey octets p offsets small at = few_only b (gateway_offset octets p) offsets at
  few_names Relay octets p offsets small at = few_only b (relay_offset octets p) offsets at
  few_names HostIdentity octets p offsets small at = few_servers octets p offsets small at
  few_names kind octets p offsets small at = few_none (most_names kind) offsets at

-- A field of the shape of a name may have one.
pub one_name : (kind : Kind) → shape_of kind ≡ shapes.Name → 1 ≤ most_names kind
one_name kinds.CompressibleName is = omega arith
one_name kind is = absurd (cc)

-- So may one of the shape of an uncompressed name.
pub one_uncompressed_name : (kind : Kind) (pointers lowers : Bool) → shape_of kind ≡ shapes.UncompressedName pointers lowers → 1 ≤ most_names kind
one_uncompressed_name kinds.PointedName pointers lowers is = omega arith
one_uncompressed_name kinds.LowercasedName pointers lowers is = omega arith
one_uncompressed_name kinds.PlainName pointers lowers is = omega arith
one_uncompressed_name kind pointers lowers is = absurd (cc)

-- The names are at the same offsets, however they are found.

one_only : (b : List ℕ) (place : Option ℕ) (xs ys : List ℕ) → OnlyName b place xs → OnlyName b place ys → xs ≡ ys
one_only b None xs ys x y = x ∙ sym y
one_only b (Some p) xs ys x y = x.1 ∙ sym y.1

module _ (b : List ℕ) where
  none_more : (p q x : ℕ) (xs : List ℕ) → q ≡ p → NamesAt b p q (x ∷ xs) → ⊥
  none_more p q x xs end at = let few = few_at b (x ∷ xs) p q at in omega arith

  one_list : (xs ys : List ℕ) (p q : ℕ) → NamesAt b p q xs → NamesAt b p q ys → xs ≡ ys
  one_list [] [] p q x y = refl
  one_list [] (o ∷ ys) p q x y = absurd (none_more p q o ys x y)
  one_list (o ∷ xs) [] p q x y = absurd (none_more p q o xs y x)
  one_list (o ∷ xs) (u ∷ ys) p q x y =
      let end : x.2 ≡ y.2 = one_end b x.3 y.3 in
      let others = one_list xs ys y.2 q (subst (λ (r : ℕ). NamesAt b r q xs) end x.4) y.4 in
      ap (λ (k : ℕ). k ∷ xs) (x.0 ∙ sym y.0) ∙ ap (λ (zs : List ℕ). u ∷ zs) others

  one_servers : (octets : List ℕ) (p : ℕ) (xs ys : List ℕ) → ServersAt b octets p xs → ServersAt b octets p ys → xs ≡ ys
  one_servers [] p xs ys x y = x ∙ sym y
  one_servers (o ∷ []) p xs ys x y = x ∙ sym y
  one_servers (o ∷ u ∷ []) p xs ys x y = x ∙ sym y
  one_servers (o ∷ u ∷ v ∷ []) p xs ys x y = x ∙ sym y
  one_servers (tag_size ∷ algorithm ∷ high ∷ low ∷ octets) p xs ys x y = one_list xs ys (p + 4 + (tag_size + (high * 256 + low))) (p + 4 + length octets) x y

  one_in_octets : (kind : Kind) (octets : List ℕ) (p : ℕ) (xs ys : List ℕ) → NamesInOctets b kind octets p xs → NamesInOctets b kind octets p ys → xs ≡ ys
  one_in_octets GatewayAndKey octets p xs ys x y = one_only b (gateway_offset octets p) xs ys x y
  one_in_octets Relay octets p xs ys x y = one_only b (relay_offset octets p) xs ys x y
  one_in_octets HostIdentity octets p xs ys x y = one_servers octets p xs ys x y
  one_in_octets kind octets p xs ys x y = x ∙ sym y

  -- The names within a field have one list of offsets.
  pub one_within : (kind : Kind) (part : Part) (p : ℕ) (xs ys : List ℕ) → NamesWithin b kind part p xs → NamesWithin b kind part p ys → xs ≡ ys
  one_within kind (Octets octets) p xs ys x y = one_in_octets kind octets p xs ys x y
  one_within kind (CompressibleName name) p xs ys x y = one_only b (Some p) xs ys x y
  one_within kind (UncompressedName lowercased name) p xs ys x y = one_only b (Some p) xs ys x y
