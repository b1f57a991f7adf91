-- Gateways and relays, and their words.
use Rattle.std.proofs.Common.{◌≡◌, ◌≢◌, ◌∙◌, ◌↔◌, ◌+◌, ◌*◌, ◌≤◌, ◌<◌, ◌++◌, length, get_or, drop, ℕ, Bool, true, false, List, [], ◌∷◌, codes, refl, sym, subst, arith, inl, inr}
use Rattle.std.specs.Prelude.{IsTrue, Option, Some, None, Result, bytes_eq, is_some}
use Rattle.std.proofs.lemmas.Slice.Eq.{bytes_eq-Decides}
use Rattle.std.specs.Borrow.{Bor}
use Rattle.std.specs.Global.{Vec}
use Rattle.std.specs.Net.Grammar.{IsDotted}
use Rattle.fields_text.specs.declared.text_error.TextError.{TextError}
use Rattle.dns_octets.specs.declared.octets.Octets.{Ghosts}
use Rattle.dns_name.specs.Names.{uncompressed}
use Rattle.dns_name.specs.NameReading.{name_labels}
use Rattle.dns_name.specs.declared.name.Name.{Name}
use Rattle.fields_plain.specs.Addresses.{IsIpv6Word}
use Rattle.fields_forms.specs.GatewayWords.{IsGateway, IsGatewayAndKey, IsGatewayOf, IsNumberTo, IsRelay, IsRelayOf}
use Rattle.fields_text.specs.JoinedWords.{AreBase64}
use Rattle.fields_plain.specs.NameWords.{IsNameText, IsNameWord, ReadsNameWord}
use Rattle.fields_text.specs.Reading.{AppendsOctets, Fails, HasValue, ReadsWords}
use Rattle.fields_text.proofs.theory.AppendLemmas.{appends_as}

-- a word is one number
pub one_number : (most : ℕ) (word : List ℕ) (m n : ℕ) → IsNumberTo most word m → IsNumberTo most word n → m ≡ n
one_number most word m n a b = sym a.0.1 ∙ b.0.1

-- a gateway of each type
module _ (t : ℕ) (word octets : List ℕ) where
  dotted_of : t ≡ 1 → IsGatewayOf t word octets → IsDotted word octets
  dotted_of one (inl is) = let other = is.0 in absurd (omega arith)
  dotted_of one (inr (inl is)) = is.1
  dotted_of one (inr (inr (inl is))) = let two = is.0 in absurd (omega arith)
  dotted_of one (inr (inr (inr is))) = let three = is.0 in absurd (omega arith)

  colon_of : t ≡ 2 → IsGatewayOf t word octets → IsIpv6Word word octets
  colon_of two (inl is) = let other = is.0 in absurd (omega arith)
  colon_of two (inr (inl is)) = let one = is.0 in absurd (omega arith)
  colon_of two (inr (inr (inl is))) = is.1
  colon_of two (inr (inr (inr is))) = let three = is.0 in absurd (omega arith)

  name_of : t ≡ 3 → IsGatewayOf t word octets → IsNameWord word octets
  name_of three (inl is) = let other = is.0 in absurd (omega arith)
  name_of three (inr (inl is)) = let one = is.0 in absurd (omega arith)
  name_of three (inr (inr (inl is))) = let two = is.0 in absurd (omega arith)
  name_of three (inr (inr (inr is))) = is.1

module _ (t : ℕ) (word old new : List ℕ) (result : Result Unit TextError) where
  -- if a gateway's type is 1, what appends the IPv4 address of a word appends the gateway
  pub appends_ipv4 : t ≡ 1 → AppendsOctets (IsDotted word) old new result → AppendsOctets (IsGatewayOf t word) old new result
  appends_ipv4 one appended = appends_as (IsDotted word) (IsGatewayOf t word) old new result (λ octets is. inr (inl (one, is))) (λ octets is. dotted_of t word octets one is) appended

  -- if a gateway's type is 2, what appends the IPv6 address of a word appends the gateway
  pub appends_ipv6 : t ≡ 2 → AppendsOctets (IsIpv6Word word) old new result → AppendsOctets (IsGatewayOf t word) old new result
  appends_ipv6 two appended = appends_as (IsIpv6Word word) (IsGatewayOf t word) old new result (λ octets is. inr (inr (inl (two, is)))) (λ octets is. colon_of t word octets two is) appended

  -- if a gateway's type is 3, what appends the name of a word appends the gateway
  pub appends_name : t ≡ 3 → AppendsOctets (IsNameWord word) old new result → AppendsOctets (IsGatewayOf t word) old new result
  appends_name three appended = appends_as (IsNameWord word) (IsGatewayOf t word) old new result (λ octets is. inr (inr (inr (three, is)))) (λ octets is. name_of t word octets three is) appended

-- whether a word is a gateway of each type
module _ (t : ℕ) (word : List ℕ) (b : Bool) where
  -- if a gateway's type is 0, a word represents one exactly if it is `.`
  pub tested_none : t ≡ 0 → b ≡ bytes_eq word (codes ".") → IsTrue b ↔ HasValue (IsGatewayOf t word)
  tested_none zero e = (
    λ is. ([], inl (zero, (bytes_eq-Decides word (codes ".")).0 (sym e ∙ is), refl)),
    λ there. e ∙ (bytes_eq-Decides word (codes ".")).1 (dot there.0 there.1),
  ) where
    dot : (octets : List ℕ) → IsGatewayOf t word octets → word ≡ codes "."
    dot octets (inl is) = is.1
    dot octets (inr (inl is)) = let one = is.0 in absurd (omega arith)
    dot octets (inr (inr (inl is))) = let two = is.0 in absurd (omega arith)
    dot octets (inr (inr (inr is))) = let three = is.0 in absurd (omega arith)

  -- if a gateway's type is 1, a test whether a word is an IPv4 address says whether it represents a gateway
  pub tested_ipv4 : t ≡ 1 → IsTrue b ↔ HasValue (IsDotted word) → IsTrue b ↔ HasValue (IsGatewayOf t word)
  tested_ipv4 one is = (
    λ h. let there = is.0 h in (there.0, inr (inl (one, there.1))),
    λ there. is.1 (there.0, dotted_of t word there.0 one there.1),
  )

  -- if a gateway's type is 2, a test whether a word is an IPv6 address says whether it represents a gateway
  pub tested_ipv6 : t ≡ 2 → IsTrue b ↔ HasValue (IsIpv6Word word) → IsTrue b ↔ HasValue (IsGatewayOf t word)
  tested_ipv6 two is = (
    λ h. let there = is.0 h in (there.0, inr (inr (inl (two, there.1)))),
    λ there. is.1 (there.0, colon_of t word there.0 two there.1),
  )

  -- if a gateway's type is 3, a test whether a word is a name says whether it represents a gateway
  pub tested_name : t ≡ 3 → IsTrue b ↔ HasValue (IsNameText word) → IsTrue b ↔ HasValue (IsGatewayOf t word)
  tested_name three is = (
    λ h. let there = is.0 h in (uncompressed there.0, inr (inr (inr (three, (there.0, there.1, refl))))),
    λ there. let name = name_of t word there.0 three there.1 in is.1 (name.0, name.1),
  )

  -- if a gateway's type isn't one of 0 to 3, no word represents a gateway of this type
  pub tested_other : b ≡ false → t ≢ 0 → t ≢ 1 → t ≢ 2 → t ≢ 3 → IsTrue b ↔ HasValue (IsGatewayOf t word)
  tested_other is_false zero one two three = (λ h. absurd (cc (is_false, h)), λ there. absurd (other there.0 there.1)) where
    other : (octets : List ℕ) → ¬ (IsGatewayOf t word octets)
    other octets (inl is) = zero is.0
    other octets (inr (inl is)) = one is.0
    other octets (inr (inr (inl is))) = two is.0
    other octets (inr (inr (inr is))) = three is.0

-- a name was read, or there is none
pub name_read : {X : Type 0} {buffer : Ghosts X} (word : List ℕ) (o : Option (Name X buffer)) (b : Bool) → b ≡ is_some o → ReadsNameWord word o → IsTrue b ↔ HasValue (IsNameText word)
name_read word None b e none = (λ t. absurd (cc (e, t)), λ there. absurd (none there.0 there.1))
name_read word (Some name) b e is = (λ t. (name_labels name, is), λ there. e)

-- a gateway with its key
module _ (type_word algorithm_word word : List ℕ) (key_words : List (Bor (List ℕ))) (t : ℕ) (is_t : IsNumberTo 3 type_word t) where
  gateway_in : (octets : List ℕ) (is : IsGatewayAndKey type_word algorithm_word word key_words octets) → IsGatewayOf t word is.gateway
  gateway_in octets is = subst (λ (n : ℕ). IsGatewayOf n word is.gateway) (one_number 3 type_word is.gateway_type t is.is_type is_t) is.is_gateway

  -- if a word represents no gateway of the type, the words represent no gateway with a key
  pub no_gateway : (b : Bool) → b ≡ false → IsTrue b ↔ HasValue (IsGatewayOf t word) → (octets : List ℕ) → ¬ (IsGatewayAndKey type_word algorithm_word word key_words octets)
  no_gateway b is_false tested octets is = let is_true = tested.1 (is.gateway, gateway_in octets is) in absurd (cc (is_false, is_true))

  -- if type, algorithm, gateway and key are right, the words represent a gateway with its key
  pub gateway_there : (algorithm : ℕ) (b : Bool) → IsNumberTo 255 algorithm_word algorithm → b ≡ true → IsTrue b ↔ HasValue (IsGatewayOf t word)
      → HasValue (AreBase64 key_words) → HasValue (IsGatewayAndKey type_word algorithm_word word key_words)
  gateway_there algorithm b is is_true tested key =
      let gateway = tested.0 is_true in (
        t ∷ algorithm ∷ (gateway.0 ++ key.0),
        record {
          gateway_type = t;
          algorithm = algorithm;
          gateway = gateway.0;
          key = key.0;
          is_type = is_t;
          is_algorithm = is;
          is_gateway = gateway.1;
          is_key = key.1;
          whole = refl;
        },
      )

  -- if reading the gateway fails, reading the gateway with its key fails for the same reason
  pub gateway_fails : (e : TextError) → HasValue (IsGatewayAndKey type_word algorithm_word word key_words) → Fails (IsGatewayOf t word) e
      → Fails (IsGatewayAndKey type_word algorithm_word word key_words) e
  gateway_fails e there (inl memory) = inl (memory.0, there)
  gateway_fails e there (inr bad) = inr (bad.0, λ octets is. bad.1 is.gateway (gateway_in octets is))

  -- if reading the key fails, reading the gateway with its key fails for the same reason
  pub key_fails : (e : TextError) → (HasValue (AreBase64 key_words) → HasValue (IsGatewayAndKey type_word algorithm_word word key_words)) → Fails (AreBase64 key_words) e
      → Fails (IsGatewayAndKey type_word algorithm_word word key_words) e
  key_fails e there (inl memory) = inl (memory.0, there memory.1)
  key_fails e there (inr bad) = inr (bad.0, λ octets is. bad.1 is.key is.is_key)

-- Three words and those of the key.
pub gateway_words : (words key : List (Bor (List ℕ))) (a b c : Bor (List ℕ)) (result : Result (Vec ℕ) TextError) → 3 ≤ length words → key ≡ drop 3 words
    → ReadsWords (IsGatewayAndKey (get_or words 0 a).now (get_or words 1 b).now (get_or words 2 c).now key) result → ReadsWords (IsGateway words) result
gateway_words [] key a b c result least same reads = absurd (omega arith)
gateway_words (w ∷ []) key a b c result least same reads = absurd (omega arith)
gateway_words (w ∷ x ∷ []) key a b c result least same reads = absurd (omega arith)
gateway_words (w ∷ x ∷ y ∷ words) key a b c result least same reads = subst (λ (ws : List (Bor (List ℕ))). ReadsWords (IsGatewayAndKey w.now x.now y.now ws) result) same reads

-- a relay
module _ (bit_word type_word word : List ℕ) (t : ℕ) (is_t : IsNumberTo 3 type_word t) where
  relay_in : (octets : List ℕ) (is : IsRelayOf bit_word type_word word octets) → IsGatewayOf t word is.relay
  relay_in octets is = subst (λ (n : ℕ). IsGatewayOf n word is.relay) (one_number 3 type_word is.relay_type t is.is_type is_t) is.is_relay

  -- if a word represents no gateway of the relay's type, the words represent no relay
  pub no_relay : (b : Bool) → b ≡ false → IsTrue b ↔ HasValue (IsGatewayOf t word) → (octets : List ℕ) → ¬ (IsRelayOf bit_word type_word word octets)
  no_relay b is_false tested octets is = let is_true = tested.1 (is.relay, relay_in octets is) in absurd (cc (is_false, is_true))

  -- if the bit and the gateway of the relay's type are right, the words represent a relay
  pub relay_there : (bit : ℕ) (b : Bool) → IsNumberTo 1 bit_word bit → b ≡ true → IsTrue b ↔ HasValue (IsGatewayOf t word) → HasValue (IsRelayOf bit_word type_word word)
  relay_there bit b is is_true tested =
      let relay = tested.0 is_true in
      ((bit * 128 + t) ∷ relay.0, record { bit = bit; relay_type = t; relay = relay.0; is_bit = is; is_type = is_t; is_relay = relay.1; whole = refl })

  -- if reading the gateway of a relay fails, reading the relay fails for the same reason
  pub relay_fails : (e : TextError) → HasValue (IsRelayOf bit_word type_word word) → Fails (IsGatewayOf t word) e → Fails (IsRelayOf bit_word type_word word) e
  relay_fails e there (inl memory) = inl (memory.0, there)
  relay_fails e there (inr bad) = inr (bad.0, λ octets is. bad.1 is.relay (relay_in octets is))

-- three words
pub relay_words : (words : List (Bor (List ℕ))) (a b c : Bor (List ℕ)) (result : Result (Vec ℕ) TextError) → 3 ≤ length words → length words < 4
    → ReadsWords (IsRelayOf (get_or words 0 a).now (get_or words 1 b).now (get_or words 2 c).now) result → ReadsWords (IsRelay words) result
relay_words [] a b c result least most reads = absurd (omega arith)
relay_words (w ∷ []) a b c result least most reads = absurd (omega arith)
relay_words (w ∷ x ∷ []) a b c result least most reads = absurd (omega arith)
relay_words (w ∷ x ∷ y ∷ []) a b c result least most reads = reads
relay_words (w ∷ x ∷ y ∷ z ∷ words) a b c result least most reads = absurd (omega arith)
