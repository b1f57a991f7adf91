-- The words of a field represent one list of octets.
use Rattle.std.proofs.Common.{◌≡◌, ◌∙◌, ℕ, ◌*◌, ◌+◌, List, [], ◌∷◌, ◌++◌, sym, subst, arith, inl, inr}
use Rattle.std.specs.Borrow.{Bor}
use Rattle.fields_forms.specs.GatewayWords.{IsGateway, IsGatewayAndKey, IsGatewayOf, IsRelay, IsRelayOf}
use Rattle.fields_forms.specs.IdentityWords.{AreNames, IsHostIdentity, IsIdentity, identity_octets}
use Rattle.fields_text.specs.Laws.{RepresentsOne}
use Rattle.fields_forms.proofs.GatewayLemmas.{one_number}
use Rattle.fields_plain.proofs.theory.OneWords.{one_ipv4, one_ipv6, one_name}
use Rattle.fields_text.proofs.theory.OneWords.{same_value}

-- gateways and relays
one_gateway_of : (t : ℕ) (word xs ys : List ℕ) → IsGatewayOf t word xs → IsGatewayOf t word ys → xs ≡ ys
one_gateway_of t word xs ys (inl a) (inl b) = a.2 ∙ sym b.2
one_gateway_of t word xs ys (inl a) (inr (inl b)) = absurd (omega (arith, a.0, b.0))
one_gateway_of t word xs ys (inl a) (inr (inr (inl b))) = absurd (omega (arith, a.0, b.0))
one_gateway_of t word xs ys (inl a) (inr (inr (inr b))) = absurd (omega (arith, a.0, b.0))
one_gateway_of t word xs ys (inr (inl a)) (inl b) = absurd (omega (arith, a.0, b.0))
one_gateway_of t word xs ys (inr (inl a)) (inr (inl b)) = one_ipv4 word xs ys a.1 b.1
one_gateway_of t word xs ys (inr (inl a)) (inr (inr (inl b))) = absurd (omega (arith, a.0, b.0))
one_gateway_of t word xs ys (inr (inl a)) (inr (inr (inr b))) = absurd (omega (arith, a.0, b.0))
one_gateway_of t word xs ys (inr (inr (inl a))) (inl b) = absurd (omega (arith, a.0, b.0))
one_gateway_of t word xs ys (inr (inr (inl a))) (inr (inl b)) = absurd (omega (arith, a.0, b.0))
one_gateway_of t word xs ys (inr (inr (inl a))) (inr (inr (inl b))) = one_ipv6 word xs ys a.1 b.1
one_gateway_of t word xs ys (inr (inr (inl a))) (inr (inr (inr b))) = absurd (omega (arith, a.0, b.0))
one_gateway_of t word xs ys (inr (inr (inr a))) (inl b) = absurd (omega (arith, a.0, b.0))
one_gateway_of t word xs ys (inr (inr (inr a))) (inr (inl b)) = absurd (omega (arith, a.0, b.0))
one_gateway_of t word xs ys (inr (inr (inr a))) (inr (inr (inl b))) = absurd (omega (arith, a.0, b.0))
one_gateway_of t word xs ys (inr (inr (inr a))) (inr (inr (inr b))) = one_name word xs ys a.1 b.1

same_gateway : (s t : ℕ) (word xs ys : List ℕ) → s ≡ t → IsGatewayOf s word xs → IsGatewayOf t word ys → xs ≡ ys
same_gateway s t word xs ys same a b = one_gateway_of t word xs ys (subst (λ (n : ℕ). IsGatewayOf n word xs) same a) b

one_gateway_and_key : (x y z : List ℕ) (key : List (Bor (List ℕ))) (xs ys : List ℕ) → IsGatewayAndKey x y z key xs → IsGatewayAndKey x y z key ys → xs ≡ ys
one_gateway_and_key x y z key xs ys a b =
    let kind = one_number 3 x a.gateway_type b.gateway_type a.is_type b.is_type in
    let algorithm = one_number 255 y a.algorithm b.algorithm a.is_algorithm b.is_algorithm in
    let gateway = same_gateway a.gateway_type b.gateway_type z a.gateway b.gateway kind a.is_gateway b.is_gateway in
    let keys : a.key ≡ b.key = same_value _ a.key b.key a.is_key b.is_key in
    a.whole ∙ (λ i. kind i ∷ algorithm i ∷ (gateway i ++ keys i)) ∙ sym b.whole

-- Words represent at most one gateway.
pub one_gateway : RepresentsOne IsGateway
one_gateway [] xs ys a b = absurd a
one_gateway (x ∷ []) xs ys a b = absurd a
one_gateway (x ∷ y ∷ []) xs ys a b = absurd a
one_gateway (x ∷ y ∷ z ∷ key) xs ys a b = one_gateway_and_key x.now y.now z.now key xs ys a b

one_relay_of : (x y z xs ys : List ℕ) → IsRelayOf x y z xs → IsRelayOf x y z ys → xs ≡ ys
one_relay_of x y z xs ys a b =
    let bit = one_number 1 x a.bit b.bit a.is_bit b.is_bit in
    let kind = one_number 3 y a.relay_type b.relay_type a.is_type b.is_type in
    let relay = same_gateway a.relay_type b.relay_type z a.relay b.relay kind a.is_relay b.is_relay in
    a.whole ∙ (λ i. (bit i * 128 + kind i) ∷ relay i) ∙ sym b.whole

-- Words represent at most one relay.
pub one_relay : RepresentsOne IsRelay
one_relay [] xs ys a b = absurd a
one_relay (x ∷ []) xs ys a b = absurd a
one_relay (x ∷ y ∷ []) xs ys a b = absurd a
one_relay (x ∷ y ∷ z ∷ []) xs ys a b = one_relay_of x.now y.now z.now xs ys a b
one_relay (x ∷ y ∷ z ∷ w ∷ words) xs ys a b = absurd a

-- host identities
one_names : (words : List (Bor (List ℕ))) (xs ys : List ℕ) → AreNames words xs → AreNames words ys → xs ≡ ys
one_names [] xs ys a b = a ∙ sym b
one_names (word ∷ words) xs ys a b =
    let first = one_name word.now a.0 b.0 a.2 b.2 in
    let others = one_names words a.1 b.1 a.4 b.4 in
    a.3 ∙ (λ i. first i ++ others i) ∙ sym b.3

one_identity_of : (x y z : List ℕ) (servers : List (Bor (List ℕ))) (xs ys : List ℕ) → IsIdentity x y z servers xs → IsIdentity x y z servers ys → xs ≡ ys
one_identity_of x y z servers xs ys a b =
    let algorithm = one_number 255 x a.algorithm b.algorithm a.is_algorithm b.is_algorithm in
    let tag : a.tag ≡ b.tag = same_value _ a.tag b.tag a.is_tag.0 b.is_tag.0 in
    let key : a.key ≡ b.key = same_value _ a.key b.key a.is_key.0 b.is_key.0 in
    let names = one_names servers a.servers b.servers a.are_servers b.are_servers in
    a.whole ∙ (λ i. identity_octets (algorithm i) (tag i) (key i) ++ names i) ∙ sym b.whole

-- Words represent at most one host identity.
pub one_identity : RepresentsOne IsHostIdentity
one_identity [] xs ys a b = absurd a
one_identity (x ∷ []) xs ys a b = absurd a
one_identity (x ∷ y ∷ []) xs ys a b = absurd a
one_identity (x ∷ y ∷ z ∷ servers) xs ys a b = one_identity_of x.now y.now z.now servers xs ys a b
