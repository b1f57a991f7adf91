-- When option values are equal: by their numbers and octets, wherever the octets are.
use Rattle.std.specs.Prelude.{ℕ, Bool, false, List, ◌==◌}
use Rattle.std.specs.Cmp.Lexicographic.{pointwise}
use Rattle.std.specs.Option.{option_eq}
use Rattle.std.specs.Ordering.{on, eq_of_both}
use Rattle.dns_edns.specs.declared.kinds.Cookie.{Cookie}
use Rattle.dns_edns.specs.declared.kinds.ExtendedError.{ExtendedError}
use Rattle.dns_edns.specs.declared.kinds.Expire.{Expire}
use Rattle.dns_edns.specs.declared.kinds.TcpKeepalive.{TcpKeepalive}
use Rattle.dns_edns.specs.declared.known_data.KnownOptData.{KnownOptData}
use Rattle.dns_edns.specs.declared.known_data.KnownOptData.TheVariants as kinds
use Rattle.dns_edns.specs.declared.option.SubnetAddr.{SubnetAddr}
use Rattle.dns_edns.specs.declared.option.SubnetAddr.TheVariants.{V4, V6}
use Rattle.dns_edns.specs.declared.subnet.ClientSubnet.{ClientSubnet}

-- whether octets are the same
abbrev pub octets_equal : List ℕ → List ℕ → Bool
octets_equal = pointwise ◌==◌

-- EXPIRE: both have the same seconds, or none. RFC 7314 section 2.
abbrev pub expires_equal : Expire → Expire → Bool
expires_equal = on (λ expire. expire.0) (option_eq ◌==◌)

-- TCP keepalive: both have the same timeout, or none. RFC 7828 section 3.1.
abbrev pub keepalives_equal : TcpKeepalive → TcpKeepalive → Bool
keepalives_equal = on (λ keepalive. keepalive.0) (option_eq ◌==◌)

-- COOKIE: the client's octets are the same, and so are the server's, if there are any. RFC 7873 section 4.
abbrev pub cookies_equal : Cookie → Cookie → Bool
cookies_equal =
    eq_of_both (on (λ cookie. cookie.client) octets_equal) (on (λ cookie. cookie.server) (option_eq (on (λ server. server.now) octets_equal)))

-- extended error: the code and the text are the same. RFC 8914 section 2.
abbrev pub errors_equal : ExtendedError → ExtendedError → Bool
errors_equal = eq_of_both (on (λ error. error.code) ◌==◌) (on (λ error. error.text_octets.now) octets_equal)

-- addresses are equal if they are of one family and have the same octets
abbrev pub addresses_equal : SubnetAddr → SubnetAddr → Bool
addresses_equal (V4 x) (V4 y) = octets_equal x y
addresses_equal (V6 x) (V6 y) = octets_equal x y
addresses_equal _ _ = false

-- client subnet: both prefix lengths and the address are the same. RFC 7871 section 6.
abbrev pub subnets_equal : ClientSubnet → ClientSubnet → Bool
subnets_equal =
    eq_of_both (on (λ subnet. subnet.source) ◌==◌) (eq_of_both (on (λ subnet. subnet.scope) ◌==◌) (on (λ subnet. subnet.address) addresses_equal))

-- options are equal if they are of one kind and their values are equal
abbrev pub known_data_equal : KnownOptData → KnownOptData → Bool
known_data_equal (kinds.Nsid x) (kinds.Nsid y) = octets_equal x.now y.now
known_data_equal (kinds.ClientSubnet x) (kinds.ClientSubnet y) = subnets_equal x y
known_data_equal (kinds.Expire x) (kinds.Expire y) = expires_equal x y
known_data_equal (kinds.Cookie x) (kinds.Cookie y) = cookies_equal x y
known_data_equal (kinds.TcpKeepalive x) (kinds.TcpKeepalive y) = keepalives_equal x y
known_data_equal (kinds.Padding x) (kinds.Padding y) = octets_equal x.now y.now
known_data_equal (kinds.ExtendedError x) (kinds.ExtendedError y) = errors_equal x y
known_data_equal _ _ = false
