-- The options of an OPT record, and how they are encoded in its RDATA. RFC 6891 section 6.1.2.
use Rattle.std.specs.Prelude.{◌≡◌, ◌≤◌, ℕ, List, [], ◌∷◌, ◌++◌, length, drop}
use Rattle.std.specs.Int.{to_be_bytes, w16}
use Rattle.std.specs.List.{flat_map}
use Rattle.dns_code.specs.Bits.{number_in}

-- an option: its code, and its octets
pub record OptionItem : Type 0 where
  pub code : ℕ
  pub octets : List ℕ

-- Octets `b` begin with the option, and `after` follows it. An option is encoded as two octets of code, two octets of length, and its octets.
pub record OptionBegins (x : OptionItem) (b after : List ℕ) : Type 0 where
  pub there : 4 ≤ length b
  pub code : number_in b 0 ≡ x.code
  pub size : number_in b 2 ≡ length x.octets
  pub octets : drop 4 b ≡ x.octets ++ after

-- octets are exactly these options, in order
abbrev pub AreOptions : List ℕ → List OptionItem → Type 0
AreOptions b [] = b ≡ []
AreOptions b (x ∷ xs) = (after : List ℕ) × OptionBegins x b after × AreOptions after xs

-- the octets of an option, and those of options in order
abbrev pub encode_option : OptionItem → List ℕ
encode_option x = to_be_bytes w16 x.code ++ to_be_bytes w16 (length x.octets) ++ x.octets

abbrev pub encode_options : List OptionItem → List ℕ
encode_options = flat_map encode_option
