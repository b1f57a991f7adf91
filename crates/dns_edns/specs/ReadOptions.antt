-- How the octets of an option are read by its kind: as the value of which they are the encoding in `KnownOptions`.
use Rattle.std.specs.Prelude.{◌≡◌, ◌↔◌, ◌*◌, ◌-◌, ◌<◌, ◌≤◌, ◌^◌, ℕ, ◌++◌, List, length, Option, Some, option_copied, Result, Ok, Err, IfSome}
use Rattle.dns_edns.specs.KnownOptions.{address_bits, address_octets, prefix_octets, zeros, client_subnet_option, expire_option, cookie_option, IsServerCookie}
use Rattle.dns_edns.specs.KnownOptions.{tcp_keepalive_option, extended_error_option}
use Rattle.dns_edns.specs.declared.kinds.Cookie.{Cookie}
use Rattle.dns_edns.specs.declared.kinds.Expire.{Expire}
use Rattle.dns_edns.specs.declared.kinds.ExtendedError.{ExtendedError}
use Rattle.dns_edns.specs.declared.kinds.TcpKeepalive.{TcpKeepalive}
use Rattle.dns_edns.specs.declared.subnet.ClientSubnet.{ClientSubnet}

-- What reading returns, where `Encodes v` says that the octets encode `v`: the one value that they encode, or an error if they encode none.
abbrev pub ReadsExactly : {X V E : Type 0} → (X → V) → (V → Type 0) → Result X E → Type 0
ReadsExactly {X} {V} {E} view Encodes (Ok x) = (v : V) → Encodes v ↔ (view x ≡ v)
ReadsExactly {X} {V} {E} view Encodes (Err e) = (v : V) → ¬ (Encodes v)

-- the address has no bits but its first ones: the others are zero
abbrev pub HasOnlyBits : ℕ → List ℕ → Type 0
HasOnlyBits bits address = address ≡ prefix_octets bits address ++ zeros (length address - length (prefix_octets bits address))

-- Client subnet: neither prefix is longer than the address, and its bits after the source prefix are zero. RFC 7871 section 6.
pub record EncodesClientSubnet (octets : List ℕ) (subnet : ClientSubnet) : Type 0 where
  pub whole : 8 * length (address_octets subnet.address) ≡ address_bits subnet.address
  pub source : subnet.source ≤ address_bits subnet.address
  pub scope : subnet.scope ≤ address_bits subnet.address
  pub address : HasOnlyBits subnet.source (address_octets subnet.address)
  pub encoded : octets ≡ (client_subnet_option subnet.source subnet.scope subnet.address).octets

abbrev pub ReadsClientSubnet : {E : Type 0} → List ℕ → Result ClientSubnet E → Type 0
ReadsClientSubnet octets = ReadsExactly (λ subnet. subnet) (EncodesClientSubnet octets)

-- EXPIRE: 32 bits of seconds, or none. RFC 7314 section 2.
abbrev pub EncodesExpire : List ℕ → Option ℕ → Type 0
EncodesExpire octets seconds = (octets ≡ (expire_option seconds).octets) × IfSome seconds (λ n. n < 2 ^ 32)

abbrev pub ReadsExpire : {E : Type 0} → List ℕ → Result Expire E → Type 0
ReadsExpire octets = ReadsExactly (λ expire. expire.0) (EncodesExpire octets)

-- COOKIE: the octets of the client, and those of the server. RFC 7873 section 4.
pub record CookieOctets : Type 0 where
  pub client : List ℕ
  pub server : Option (List ℕ)

abbrev pub cookie_octets : Cookie → CookieOctets
cookie_octets cookie = record { client = cookie.client; server = option_copied cookie.server }

pub record EncodesCookie (octets : List ℕ) (cookie : CookieOctets) : Type 0 where
  pub client : length cookie.client ≡ 8
  pub server : IfSome cookie.server IsServerCookie
  pub encoded : octets ≡ (cookie_option cookie.client cookie.server).octets

abbrev pub ReadsCookie : {E : Type 0} → List ℕ → Result Cookie E → Type 0
ReadsCookie octets = ReadsExactly cookie_octets (EncodesCookie octets)

-- TCP keepalive: 16 bits of time, or none. RFC 7828 section 3.1.
abbrev pub EncodesTcpKeepalive : List ℕ → Option ℕ → Type 0
EncodesTcpKeepalive octets timeout = (octets ≡ (tcp_keepalive_option timeout).octets) × IfSome timeout (λ n. n < 2 ^ 16)

abbrev pub ReadsTcpKeepalive : {E : Type 0} → List ℕ → Result TcpKeepalive E → Type 0
ReadsTcpKeepalive octets = ReadsExactly (λ keepalive. keepalive.0) (EncodesTcpKeepalive octets)

-- Extended DNS error: a code, and a text, the empty one if there is none. RFC 8914 section 2.
pub record ErrorOctets : Type 0 where
  pub code : ℕ
  pub text : List ℕ

abbrev pub error_octets : ExtendedError → ErrorOctets
error_octets error = record { code = error.code; text = error.text_octets.now }

pub record EncodesError (octets : List ℕ) (error : ErrorOctets) : Type 0 where
  pub code : error.code < 2 ^ 16
  pub encoded : octets ≡ (extended_error_option error.code (Some error.text)).octets

abbrev pub ReadsExtendedError : {E : Type 0} → List ℕ → Result ExtendedError E → Type 0
ReadsExtendedError octets = ReadsExactly error_octets (EncodesError octets)
