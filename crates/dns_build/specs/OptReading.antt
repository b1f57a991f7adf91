-- A pushed OPT record reads back from the octets of the message. RFC 6891 section 6.1.
use Rattle.std.specs.Prelude.{◌≡◌, ◌+◌, ◌*◌, ℕ, List, ◌∷◌, ◌++◌, Some}
use Rattle.std.specs.List.{All}
use Rattle.dns_edns_builder.specs.Gathered.{Gathered, IsGathered}
use Rattle.dns_item.specs.Items.{RecordItem}
use Rattle.dns_item.specs.OptRecord.{OptItem}
use Rattle.dns_read.specs.OptSearches.{opt_of, opt_rcode_of}
use Rattle.dns_build.specs.MessageOf.{ReadsBack}
use Rattle.dns_build.specs.Opt.{opt_record}
use Rattle.dns_build.specs.State.{State}

-- what the OPT record of `g` says: its fields and options
abbrev pub said : Gathered → OptItem
said g = record { fields = g.fields; options = g.options }

-- none of the records is an OPT record
abbrev pub HasNoOpt : List RecordItem → Type 0
HasNoOpt = All (λ x. x.rtype ≡ 41 → ⊥)

-- A gathered OPT record that is the first of the additional section reads back: its fields, its options, and the 12-bit rcode, whose lower four bits are in the header.
abbrev pub OptsReadBack : Type 0
OptsReadBack = (g : Gathered) (s : State) (b : List ℕ) (before after : List RecordItem) → s.additionals ≡ before ++ opt_record g ∷ after → IsGathered g → HasNoOpt before → ReadsBack s b
    → (opt_of b ≡ Some (said g)) × (opt_rcode_of b ≡ g.fields.ext * 16 + s.header.rcode)
