-- Address prefixes are words.
use Rattle.std.proofs.Common.{◌≡◌, ℕ, zero, suc, ◌^◌, ◌<◌, ◌==◌, Bool, true, false, List, [], ◌++◌, length, replicate, decimal, refl, arith, length-append}
use Rattle.std.specs.Prelude.{if◌then◌else◌, codes}
use Rattle.std.specs.Net.Addr.{segments_of}
use Rattle.std.specs.Net.Text.{ipv4_text, ipv6_text}
use Rattle.std.proofs.lemmas.List.{length-replicate, length-take-le}
use Rattle.hex.specs.Hex.{IsBytes}
use Rattle.fields_lists.specs.PrefixItems.{PrefixItem}
use Rattle.fields_lists.specs.Prefixes.{address_text, padded, prefix_text, sign}
use Rattle.fields_text.proofs.theory.WordTexts.IsBare.{nothing, plain}
use Rattle.fields_plain.proofs.theory.Ipv6Texts.{ipv6_word}
use Rattle.fields_text.proofs.theory.WordTexts.{IsBareWord, decimal_rest, decimal_word, word_append}
use Rattle.fields_plain.proofs.theory.WordTexts.{ipv4_word}
use Rattle.fields_text.proofs.theory.ByteLemmas.{bytes_take, bytes_append}

bytes_zeros : (n : ℕ) → IsBytes (replicate n 0)
bytes_zeros zero i = omega arith
bytes_zeros (suc n) zero = omega arith
bytes_zeros (suc n) (suc i) = bytes_zeros n i

padded_bytes : (width : ℕ) (octets : List ℕ) → IsBytes octets → IsBytes (padded width octets)
padded_bytes width octets bytes = bytes_take width (octets ++ replicate width 0) (bytes_append octets (replicate width 0) bytes (bytes_zeros width))

-- An address that is padded has the size of its family.
pub padded_size : (width : ℕ) (octets : List ℕ) → length (padded width octets) ≡ width
padded_size width octets = length-take-le width (octets ++ replicate width 0) (omega (arith, length-append octets (replicate width 0), length-replicate {A = ℕ} width 0))

sign_word : (negated : Bool) (text : List ℕ) → IsBareWord text → IsBareWord ((if negated then codes "!" else []) ++ text)
sign_word true text h = (omega arith, plain refl h.1)
sign_word false text h = h

-- the address of a prefix, which has 4 or 16 octets
prefix_address : (address : List ℕ) (b : Bool) → IsBytes address
    → IsBareWord (if b then ipv4_text (padded 4 address) else ipv6_text (segments_of (padded 16 address)))
prefix_address address true bytes = ipv4_word (padded 4 address) (padded_bytes 4 address bytes)
prefix_address address false bytes = ipv6_word (padded 16 address) (padded_bytes 16 address bytes) (padded_size 16 address)

-- a prefix
pub prefix_is_word : (item : PrefixItem) → IsBytes item.address → item.family < 2 ^ 16 → item.size < 256 → IsBareWord (prefix_text item)
prefix_is_word item bytes family size =
    let start = sign_word item.negated (decimal item.family) (decimal_word item.family (omega arith)) in
    let address = prefix_address item.address (item.family == 1) bytes in
    let colon = word_append (sign item ++ decimal item.family) (codes ":") start (plain refl nothing) in
    let front = word_append (sign item ++ decimal item.family ++ codes ":") (address_text item) colon address.1 in
    let slash = word_append (sign item ++ decimal item.family ++ codes ":" ++ address_text item) (codes "/") front (plain refl nothing) in
    word_append (sign item ++ decimal item.family ++ codes ":" ++ address_text item ++ codes "/") (decimal item.size) slash (decimal_rest item.size (omega arith))
