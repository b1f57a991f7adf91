-- How an option is read by its code, and the first option of a code.
use Rattle.std.specs.Prelude.{◌≡◌, ◌==◌, ◌⊎◌, ℕ, List, Option, Some, None, option_map, Result, Ok, Err}
use Rattle.std.specs.List.{find}
use Rattle.dns_edns.specs.Options.{OptionItem}
use Rattle.dns_edns.specs.ReadOptions.{ReadsClientSubnet, ReadsExpire, ReadsCookie, ReadsTcpKeepalive, ReadsExtendedError}
use Rattle.dns_edns.specs.declared.error.BadOptData.{BadOptData}
use Rattle.dns_edns.specs.declared.known_data.KnownOptData.{KnownOptData}
use Rattle.dns_edns.specs.declared.known_data.KnownOptData.TheVariants.{Nsid, ClientSubnet, Expire, Cookie, TcpKeepalive, Padding, ExtendedError}

-- The codes of these kinds: NSID, client subnet, EXPIRE, COOKIE, TCP keepalive, padding, extended error.
abbrev pub IsKnownCode : ℕ → Type 0
IsKnownCode code = (code ≡ 3) ⊎ (code ≡ 8) ⊎ (code ≡ 9) ⊎ (code ≡ 10) ⊎ (code ≡ 11) ⊎ (code ≡ 12) ⊎ (code ≡ 15)

-- What reading an option of any code returns: what its kind reads, `None` if the code is none of these. The octets of NSID and padding have no structure.
abbrev pub ReadsKnown : ℕ → List ℕ → Result (Option KnownOptData) BadOptData → Type 0
ReadsKnown code octets (Ok None) = ¬ (IsKnownCode code)
ReadsKnown code octets (Ok (Some (Nsid identifier))) = (code ≡ 3) × (identifier.now ≡ octets)
ReadsKnown code octets (Ok (Some (ClientSubnet subnet))) = (code ≡ 8) × ReadsClientSubnet {E = BadOptData} octets (Ok subnet)
ReadsKnown code octets (Ok (Some (Expire expire))) = (code ≡ 9) × ReadsExpire {E = BadOptData} octets (Ok expire)
ReadsKnown code octets (Ok (Some (Cookie cookie))) = (code ≡ 10) × ReadsCookie {E = BadOptData} octets (Ok cookie)
ReadsKnown code octets (Ok (Some (TcpKeepalive keepalive))) = (code ≡ 11) × ReadsTcpKeepalive {E = BadOptData} octets (Ok keepalive)
ReadsKnown code octets (Ok (Some (Padding padding))) = (code ≡ 12) × (padding.now ≡ octets)
ReadsKnown code octets (Ok (Some (ExtendedError error))) = (code ≡ 15) × ReadsExtendedError {E = BadOptData} octets (Ok error)
ReadsKnown code octets (Err e) =
    ((code ≡ 8) × ReadsClientSubnet octets (Err e))
    ⊎ ((code ≡ 9) × ReadsExpire octets (Err e))
    ⊎ ((code ≡ 10) × ReadsCookie octets (Err e))
    ⊎ ((code ≡ 11) × ReadsTcpKeepalive octets (Err e))
    ⊎ ((code ≡ 15) × ReadsExtendedError octets (Err e))

-- the octets of the first option with the code, if there is one
abbrev pub first_octets : ℕ → List OptionItem → Option (List ℕ)
first_octets code options = option_map (λ x. x.octets) (find (λ x. x.code == code) options)

-- What a search for the first option of a kind returns: `None` if there is none, else what reading its octets returns.
abbrev pub ReadsFirst : {X E : Type 0} → (List ℕ → Result X E → Type 0) → Option (List ℕ) → Result (Option X) E → Type 0
ReadsFirst Reads None result = result ≡ Ok None
ReadsFirst Reads (Some octets) (Ok (Some x)) = Reads octets (Ok x)
ReadsFirst Reads (Some octets) (Ok None) = ⊥
ReadsFirst Reads (Some octets) (Err e) = Reads octets (Err e)
