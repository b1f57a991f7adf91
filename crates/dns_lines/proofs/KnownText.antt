-- The text of known RDATA is that of its parts.
use Rattle.std.proofs.Common.{◌≡◌, ℕ, ◌<◌, ◌^◌, List, ◌++◌, ap, refl, sym, codes, Option, Some}
use Rattle.std.proofs.lemmas.Nat.{from_be_bytes-to_be_bytes_4}
use Rattle.std.specs.Fmt.{decimal}
use Rattle.dns_name.specs.NameTexts.{name_text}
use Rattle.dns_name.specs.ParsedName.{labels}
use Rattle.dns_name.specs.declared.parsed_name.ParsedName.{ParsedName}
use Rattle.dns_data.specs.Printing.{numbers_text}
use Rattle.dns_data.specs.Soa.{mname_of, rname_of, serial_of, refresh_of, retry_of, expire_of, minimum_of, number_octets}
use Rattle.dns_data.specs.declared.soa.Soa.{Soa}
use Rattle.dns_lines.specs.Show.{parts_text, zone_numbers_text}
use Rattle.dns_lines.specs.KnownData.{parts_of, known_text}
use Rattle.dns_lines.specs.declared.known_data.KnownData.{KnownData}
use Rattle.dns_lines.specs.declared.known_data.KnownData.TheVariants as variants

-- the numbers of an SOA record fit in 32 bits
pub record NumbersFit (zone : Soa ParsedName) : Type 0 where
  pub serial : serial_of zone < 2 ^ 32
  pub refresh : refresh_of zone < 2 ^ 32
  pub retry : retry_of zone < 2 ^ 32
  pub expire : expire_of zone < 2 ^ 32
  pub minimum : minimum_of zone < 2 ^ 32

numbers_read : (zone : Soa ParsedName) → NumbersFit zone → zone_numbers_text (number_octets zone) ≡ numbers_text zone
unfolding number_octets
numbers_read zone fit =
    let a = from_be_bytes-to_be_bytes_4 (serial_of zone) fit.serial in
    let b = from_be_bytes-to_be_bytes_4 (refresh_of zone) fit.refresh in
    let c = from_be_bytes-to_be_bytes_4 (retry_of zone) fit.retry in
    let d = from_be_bytes-to_be_bytes_4 (expire_of zone) fit.expire in
    let e = from_be_bytes-to_be_bytes_4 (minimum_of zone) fit.minimum in
    λ i. decimal (a i) ++ codes " " ++ decimal (b i) ++ codes " " ++ decimal (c i) ++ codes " " ++ decimal (d i) ++ codes " " ++ decimal (e i)

-- the text of a parsed name
abbrev pub parsed_text : ParsedName → Option (List ℕ)
parsed_text name = Some (name_text (labels name))

-- RDATA of a known type is shown as the text of its parts.
pub known_shown : (value : KnownData ParsedName) → ((zone : Soa ParsedName) → value ≡ variants.Soa zone → NumbersFit zone) → known_text parsed_text value ≡ Some (parts_text (parts_of labels value))
known_shown (variants.A address) fit = refl
known_shown (variants.Ns server) fit = refl
known_shown (variants.Cname alias) fit = refl
known_shown (variants.Soa zone) fit =
    ap (λ (numbers : List ℕ). Some (name_text (labels (mname_of zone)) ++ codes ". " ++ name_text (labels (rname_of zone)) ++ codes ". " ++ numbers)) (sym (numbers_read zone (fit zone refl)))
