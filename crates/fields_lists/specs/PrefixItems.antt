-- Address prefixes as octets. RFC 3123 section 4.
use Rattle.std.specs.Prelude.{ℕ, ◌+◌, ◌*◌, ◌%◌, nat_le, Bool, List, ◌∷◌, take, drop, Option, Some, None}
use Rattle.fields_lists.specs.Items.{items_of}

-- an address prefix: its family, its size in bits, whether it is negated, and the octets of the address up to the last one that isn't zero
pub record PrefixItem : Type 0 where
  pub family : ℕ
  pub size : ℕ
  pub negated : Bool
  pub address : List ℕ

-- the prefix at the start of octets, and the octets after it: a family, a size, a bit and a length of seven bits, and that number of octets, or as many as there are
abbrev pub prefix_at : List ℕ → Option (PrefixItem × List ℕ)
prefix_at (high ∷ low ∷ size ∷ bits ∷ octets) =
    let item : PrefixItem = record { family = high * 256 + low; size = size; negated = nat_le 128 bits; address = take (bits % 128) octets } in
    Some (item, drop (bits % 128) octets)
prefix_at _ = None

-- the prefixes of octets
abbrev pub prefixes_of : List ℕ → List PrefixItem
prefixes_of octets = items_of prefix_at octets
