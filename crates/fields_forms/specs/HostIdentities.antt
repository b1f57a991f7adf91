-- Host identities. RFC 8005 section 5.
use Rattle.std.specs.Prelude.{ℕ, ◌+◌, ◌*◌, nat_le, ◌&&◌, Bool, false, List, ◌∷◌, length, drop, zero, suc, if◌then◌else◌, [], ◌++◌, take, codes, decimal, Option, Some, None}
use Rattle.fields_forms.specs.PlainNames.{are_plain_names}
use Rattle.std.specs.Fmt.{◌++?◌}
use Rattle.std.specs.Option.{option_and_then}
use Rattle.base64.specs.Engines.{standard}
use Rattle.base64.specs.GeneralPurpose.{encode_of}
use Rattle.fields_text.specs.Hex.{hex_text}
use Rattle.fields_forms.specs.GatewayTexts.{name_at}
use Rattle.fields_plain.specs.ZoneNames.{zone_name_text}

-- the sizes of the tag and of the public key, with the algorithm between them; then the tag, the key, and the names of the servers
abbrev pub is_host_identity : List ℕ → Bool
is_host_identity (tag_size ∷ algorithm ∷ high ∷ low ∷ octets) =
    let size = tag_size + (high * 256 + low) in
    nat_le size (length octets) && are_plain_names (drop size octets)
is_host_identity _ = false

-- at most `count` names that fill octets, each after a space and with its final dot
abbrev pub servers_in : ℕ → List ℕ → Option (List ℕ)
servers_in zero [] = Some []
servers_in zero (x ∷ xs) = None
servers_in (suc count) [] = Some []
servers_in (suc count) (x ∷ xs) =
    option_and_then (λ server. Some (codes " " ++ zone_name_text server.0) ++? servers_in count server.1) (name_at (x ∷ xs))

-- the names that fill octets
abbrev pub servers_text : List ℕ → Option (List ℕ)
servers_text octets = servers_in (length octets) octets

-- an algorithm, a host identity tag and a public key, separated by spaces
abbrev pub identity_words : ℕ → List ℕ → List ℕ → List ℕ
identity_words algorithm tag key = decimal algorithm ++ codes " " ++ hex_text tag ++ codes " " ++ encode_of standard key

-- these words and the names of servers; a tag or a key of no octets has no word
abbrev pub identity_parts : ℕ → List ℕ → List ℕ → List ℕ → Option (List ℕ)
identity_parts algorithm (t ∷ tag) (k ∷ key) servers = Some (identity_words algorithm (t ∷ tag) (k ∷ key)) ++? servers_text servers
identity_parts algorithm tag key servers = None

-- the sizes of the tag and of the key, with the algorithm between them; then the tag, the key and the servers
abbrev pub identity_text : List ℕ → Option (List ℕ)
identity_text (tag_size ∷ algorithm ∷ high ∷ low ∷ octets) =
    let key_size = high * 256 + low in
    if nat_le (tag_size + key_size) (length octets)
    then identity_parts algorithm (take tag_size octets) (take key_size (drop tag_size octets)) (drop key_size (drop tag_size octets))
    else None
identity_text _ = None
