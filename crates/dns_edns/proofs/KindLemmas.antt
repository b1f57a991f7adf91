-- What the octets of options encode, and the first option of a code.
use Rattle.std.proofs.Common.{◌≡◌, ◌∙◌, ap, sym, subst, refl, ℕ, ◌-◌, ◌*◌, ◌/◌, ◌≤◌, min, [], get_or, Bool, true, cond, eqb, List, ◌∷◌, ◌++◌}
use Rattle.std.proofs.Common.{length, take, drop, replicate, take-append-drop, length-append, length-drop, arith, eq-eqb, Option, Some, None}
use Rattle.std.specs.Prelude.{◌↔◌, ◌==◌, option_map}
use Rattle.std.specs.List.{find}
use Rattle.std.proofs.lemmas.List.{take_all, take_at, drop_at, drop-replicate, length-replicate}
use Rattle.dns_edns.specs.KnownOptions.{IsServerCookie, prefix_octets, zeros, family, address_bits, address_octets, client_subnet_option}
use Rattle.dns_edns.specs.Options.{OptionItem}
use Rattle.dns_edns.specs.Prefixes.{HasPrefix, HasSubnetPrefix}
use Rattle.dns_edns.specs.ReadKinds.{first_octets}
use Rattle.dns_edns.specs.ReadOptions.{CookieOctets, EncodesCookie, EncodesClientSubnet}
use Rattle.dns_edns.specs.declared.option.SubnetAddr.{SubnetAddr}
use Rattle.dns_edns.specs.declared.option.SubnetAddr.TheVariants.{V4, V6}
use Rattle.dns_edns.specs.declared.subnet.ClientSubnet.{ClientSubnet}

-- eight octets of the client, and those of the server after them
module _ (octets client server : List ℕ) (first : client ≡ take 8 octets) (second : server ≡ drop 8 octets) (eight : length client ≡ 8) (is : IsServerCookie server) where
  cookie : CookieOctets
  cookie = record { client = client; server = Some server }

  only_one : (s : Option (List ℕ)) (c : List ℕ) → (let v : CookieOctets = record { client = c; server = s } in EncodesCookie octets v → cookie ≡ v)
  unfolding cookie
  only_one None c h =
      let all = ap length h.encoded in
      let own = h.client in
      let left = ap length second ∙ length-drop 8 octets in
      absurd (omega (arith, all, own, left, is.0))
  only_one (Some s) c h =
      let e : client ≡ c = first ∙ ap (λ (o : List ℕ). take 8 o) h.encoded ∙ take_at c s 8 h.client in
      let f : server ≡ s = second ∙ ap (λ (o : List ℕ). drop 8 o) h.encoded ∙ drop_at c s 8 h.client in
      λ i. record { client = e i; server = Some (f i) }

  -- these octets encode the cookie of this client and this server, and no other cookie
  pub server_read : (v : CookieOctets) → EncodesCookie octets v ↔ ((let c : CookieOctets = record { client = client; server = Some server } in c) ≡ v)
  unfolding cookie
  server_read v = (
    λ h. only_one v.server v.client h,
    λ e. subst (λ (c : CookieOctets). EncodesCookie octets c) e (record {
      client = eight;
      server = is;
      encoded = sym (take-append-drop 8 octets) ∙ (λ i. sym first i ++ sym second i);
    }),
  )

-- the first of the options has the code, or another one
pub first_found : (x : OptionItem) (left xs : List OptionItem) (code : ℕ) → left ≡ x ∷ xs → x.code ≡ code → first_octets code left ≡ Some x.octets
first_found x left xs code e is =
    let yes : eqb x.code code ≡ true = eq-eqb x.code code is in
    ap (first_octets code) e ∙ ap (λ (b : Bool). option_map (λ (y : OptionItem). y.octets) (cond b (Some x) (find (λ (y : OptionItem). y.code == code) xs))) yes

-- an address of zeros that the prefix is copied to
abbrev pub padded : ℕ → List ℕ → List ℕ
padded size prefix = prefix ++ drop (length prefix) (replicate size 0)

padded_zeros : (size : ℕ) (prefix : List ℕ) → padded size prefix ≡ prefix ++ zeros (size - length prefix)
padded_zeros size prefix = ap (λ (o : List ℕ). prefix ++ o) (drop-replicate (length prefix) size 0)

-- an address with the prefix is the padded one
pub is_padded : (size bits : ℕ) (prefix address : List ℕ) → HasPrefix size bits prefix address → padded size prefix ≡ address
is_padded size bits prefix address h =
    padded_zeros size prefix
    ∙ (λ i. h.begins i ++ zeros (sym h.whole i - length (h.begins i)))
    ∙ sym h.only

-- if the prefix of the padded one is another, there is none
pub none_padded : (size bits : ℕ) (prefix address : List ℕ) → HasPrefix size bits prefix address → prefix_octets bits (padded size prefix) ≡ prefix
none_padded size bits prefix address h = ap (prefix_octets bits) (is_padded size bits prefix address h) ∙ sym h.begins

-- A prefix that was padded with zeros has the prefix.
pub padded_has : (size bits : ℕ) (prefix : List ℕ) → length prefix ≤ size → bits ≤ 8 * size → prefix_octets bits (padded size prefix) ≡ prefix → HasPrefix size bits prefix (padded size prefix)
padded_has size bits prefix fits within same =
    let blank : List ℕ = replicate size 0 in
    let both = length-append prefix (drop (length prefix) blank) in
    let whole : length (padded size prefix) ≡ size = omega (arith, both, length-drop (length prefix) blank, length-replicate size (let zero_octet : ℕ = 0 in zero_octet)) in
    record {
      whole = whole;
      within = within;
      begins = sym same;
      only = padded_zeros size prefix ∙ (λ i. sym same i ++ zeros (sym whole i - length (sym same i)));
    }

-- a client subnet's octets: a zero octet, the family, both lengths and the prefix
subnet_encoding : (source scope : ℕ) (address : SubnetAddr) → source ≤ address_bits address → scope ≤ address_bits address
    → (client_subnet_option source scope address).octets ≡ 0 ∷ family address ∷ source ∷ scope ∷ prefix_octets source (address_octets address)
subnet_encoding source scope (V4 octets) first second =
    let e : min source 32 ≡ source = omega arith in
    let f : min scope 32 ≡ scope = omega arith in
    λ i. 0 ∷ 1 ∷ e i ∷ f i ∷ prefix_octets (e i) octets
subnet_encoding source scope (V6 octets) first second =
    let e : min source 128 ≡ source = omega arith in
    let f : min scope 128 ≡ scope = omega arith in
    λ i. 0 ∷ 2 ∷ e i ∷ f i ∷ prefix_octets (e i) octets

-- what octets that encode a client subnet are
pub encoded_as : (octets : List ℕ) (v : ClientSubnet) → EncodesClientSubnet octets v → octets ≡ 0 ∷ family v.address ∷ v.source ∷ v.scope ∷ prefix_octets v.source (address_octets v.address)
encoded_as octets v h = h.encoded ∙ subnet_encoding v.source v.scope v.address h.source h.scope

-- the number of octets of an address, and a number of bits within them
size_of : (address : SubnetAddr) → 8 * length (address_octets address) ≡ address_bits address → length (address_octets address) ≡ address_bits address / 8
size_of (V4 octets) e = omega arith
size_of (V6 octets) e = omega arith

within_of : (address : SubnetAddr) (bits : ℕ) → bits ≤ address_bits address → bits ≤ 8 * (address_bits address / 8)
within_of (V4 octets) bits h = h
within_of (V6 octets) bits h = h

bits_within : (address : SubnetAddr) (bits : ℕ) → bits ≤ 8 * (address_bits address / 8) → bits ≤ address_bits address
bits_within (V4 octets) bits h = h
bits_within (V6 octets) bits h = h

whole_of : (address : SubnetAddr) → length (address_octets address) ≡ address_bits address / 8 → 8 * length (address_octets address) ≡ address_bits address
whole_of (V4 octets) e = omega arith
whole_of (V6 octets) e = omega arith

-- the address of an encoded client subnet
own_prefix : (octets : List ℕ) (v : ClientSubnet) → EncodesClientSubnet octets v → HasSubnetPrefix (family v.address) v.source (prefix_octets v.source (address_octets v.address)) v.address
own_prefix octets v h = (
  refl,
  record {
    whole = size_of v.address h.whole;
    within = within_of v.address v.source h.source;
    begins = refl;
    only = h.address;
  },
)

-- the octets after the first four, as a slice of them all
abbrev pub after_four : List ℕ → List ℕ
after_four octets = take (length octets - 4) (drop 4 octets)

after_four-is : (octets : List ℕ) → after_four octets ≡ drop 4 octets
after_four-is octets = let left = length-drop 4 octets in take_all (length octets - 4) (drop 4 octets) (omega (arith, left))

-- octets that encode a client subnet, taken apart
pub address_read : (octets : List ℕ) (v : ClientSubnet) → EncodesClientSubnet octets v → HasSubnetPrefix (get_or octets 1 0) (get_or octets 2 0) (after_four octets) v.address
address_read octets v h =
    let P : List ℕ → Type 0 = λ o. HasSubnetPrefix (get_or o 1 0) (get_or o 2 0) (drop 4 o) v.address in
    let Q : List ℕ → Type 0 = λ o. HasSubnetPrefix (get_or octets 1 0) (get_or octets 2 0) o v.address in
    subst Q (sym (after_four-is octets)) (subst P (sym (encoded_as octets v h)) (own_prefix octets v h))

-- four octets, and those after them
four_first : (octets : List ℕ) → 4 ≤ length octets → octets ≡ get_or octets 0 0 ∷ get_or octets 1 0 ∷ get_or octets 2 0 ∷ get_or octets 3 0 ∷ drop 4 octets
four_first (a ∷ b ∷ c ∷ d ∷ after) h = refl
four_first [] h = absurd (omega arith)
four_first (a ∷ []) h = absurd (omega arith)
four_first (a ∷ b ∷ []) h = absurd (omega arith)
four_first (a ∷ b ∷ c ∷ []) h = absurd (omega arith)

-- the client subnet that octets encode
pub subnet_encoded : (octets : List ℕ) (address : SubnetAddr) → 4 ≤ length octets → get_or octets 0 0 ≡ 0 → get_or octets 3 0 ≤ address_bits address
    → HasSubnetPrefix (get_or octets 1 0) (get_or octets 2 0) (after_four octets) address
    → (let v : ClientSubnet = record { source = get_or octets 2 0; scope = get_or octets 3 0; address = address } in EncodesClientSubnet octets v)
subnet_encoded octets address there zeroth scope h =
    let within = bits_within address (get_or octets 2 0) h.1.within in
    record {
      whole = whole_of address h.1.whole;
      source = within;
      scope = scope;
      address = h.1.only;
      encoded = four_first octets there
          ∙ (λ i. zeroth i ∷ sym h.0 i ∷ get_or octets 2 0 ∷ get_or octets 3 0 ∷ (sym (after_four-is octets) ∙ h.1.begins) i)
          ∙ sym (subnet_encoding (get_or octets 2 0) (get_or octets 3 0) address within scope);
    }

-- an address of the IPv4 family, and of the IPv6 family
pub v4_read : (number bits : ℕ) (prefix octets : List ℕ) → number ≡ 1 → ((w : List ℕ) → HasPrefix 4 bits prefix w ↔ (octets ≡ w)) → (v : SubnetAddr)
    → HasSubnetPrefix number bits prefix v ↔ (V4 octets ≡ v)
v4_read number bits prefix octets is one (V4 w) = (λ h. ap (λ (o : List ℕ). V4 o) ((one w).0 h.1), λ e. (sym is, (one w).1 cc))
v4_read number bits prefix octets is one (V6 w) = (λ h. absurd (omega (arith, h.0)), λ e. absurd cc)

-- An IPv6 prefix is the address that its octets give.
pub v6_read : (number bits : ℕ) (prefix octets : List ℕ) → number ≡ 2 → ((w : List ℕ) → HasPrefix 16 bits prefix w ↔ (octets ≡ w)) → (v : SubnetAddr)
    → HasSubnetPrefix number bits prefix v ↔ (V6 octets ≡ v)
v6_read number bits prefix octets is one (V6 w) = (λ h. ap (λ (o : List ℕ). V6 o) ((one w).0 h.1), λ e. (sym is, (one w).1 cc))
v6_read number bits prefix octets is one (V4 w) = (λ h. absurd (omega (arith, h.0)), λ e. absurd cc)

-- Octets that are no IPv4 prefix give no address of family 1.
pub no_v4 : (number bits : ℕ) (prefix : List ℕ) → number ≡ 1 → ((w : List ℕ) → HasPrefix 4 bits prefix w → ⊥) → (v : SubnetAddr) → HasSubnetPrefix number bits prefix v → ⊥
no_v4 number bits prefix is never (V4 w) h = never w h.1
no_v4 number bits prefix is never (V6 w) h = omega (arith, h.0)

-- Octets that are no IPv6 prefix give no address of family 2.
pub no_v6 : (number bits : ℕ) (prefix : List ℕ) → number ≡ 2 → ((w : List ℕ) → HasPrefix 16 bits prefix w → ⊥) → (v : SubnetAddr) → HasSubnetPrefix number bits prefix v → ⊥
no_v6 number bits prefix is never (V6 w) h = never w h.1
no_v6 number bits prefix is never (V4 w) h = omega (arith, h.0)
