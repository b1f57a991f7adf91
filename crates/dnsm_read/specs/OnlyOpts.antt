-- The OPT record of a message. RFC 6891 sections 6.1.1 and 6.1.3.
use Rattle.std.specs.Prelude.{◌≡◌, ◌≢◌, ◌==◌, ◌⊎◌, ◌<◌, ◌≤◌, ◌+◌, ◌*◌, ◌++◌, ℕ, Bool, true, false, List, [], ◌∷◌, Option, Some, None, Result, Ok, Err, length, take, if◌then◌else◌}
use Rattle.std.specs.List.{filter_map}
use Rattle.dns_name.specs.Names.{Fault}
use Rattle.dns_code.specs.Header.{fields_in as header_in}
use Rattle.dns_code.specs.HeaderSection.{header_size}
use Rattle.dns_edns.specs.OptHeader.{fields_in}
use Rattle.dns_item.specs.Items.{RecordEntry}
use Rattle.dns_read.specs.declared.section.Section.TheVariants.{Answer, Authority, Additional}
use Rattle.dnsm_status.specs.Codes.{number_of, ReportsFault}
use Rattle.dnsm_status.specs.declared.code.CallError.{CallError}
use Rattle.dnsm_status.specs.declared.code.CallError.TheVariants as faults
use Rattle.dnsm_read.specs.Steps.{IsOpen, ReportsRecord, left_from}
use Rattle.dnsm_read.specs.Walk.{Asked, Given, Stated, walk_of}
use Rattle.dnsm_read.specs.declared.walk.Cursor.{Cursor}
use Rattle.dnsm_read.specs.declared.walk.Item.{Item}

-- an OPT record of the additional section, if that is what was yielded
abbrev pub opt_given : Given → Option RecordEntry
opt_given (Ok (Asked x)) = None
opt_given (Ok (Stated Answer x)) = None
opt_given (Ok (Stated Authority x)) = None
opt_given (Ok (Stated Additional x)) = if x.rtype == 41 then Some x else None
opt_given (Err f) = None

-- the OPT records of a message: those of its additional section, before its first error
abbrev pub opts_of : List ℕ → List RecordEntry
opts_of b = filter_map opt_given (walk_of b)

-- how an iteration ends: with this error, or with none
abbrev pub EndsWith : List Given → Option Fault → Type 0
EndsWith [] None = Unit {0}
EndsWith [] (Some f) = ⊥
EndsWith (Err f ∷ xs) None = ⊥
EndsWith (Err f ∷ xs) (Some g) = f ≡ g
EndsWith (Ok x ∷ xs) end = EndsWith xs end

-- The item is the only OPT record of a message, in which no error is. Its owner is the root.
pub record IsOnlyOpt (b : List ℕ) (item : Item) : Type 0 where
  pub entry : RecordEntry
  pub only : opts_of b ≡ entry ∷ []
  pub whole : EndsWith (walk_of b) None
  pub root : entry.owner ≡ []
  pub reports : ReportsRecord b item entry
  pub section : item.section ≡ 3

-- the rcode of 12 bits: the upper eight are those of an OPT record, the lower four those of the header
abbrev pub whole_rcode : List ℕ → Item → ℕ
whole_rcode b item = (fields_in item.class item.ttl).ext * 16 + (header_in (take 4 b)).rcode

-- A message hasn't exactly one such record, and the number says why. It is the first of: shorter than a header section, two OPT records, an error in the
-- message, no OPT record, another owner than the root.
abbrev pub LacksOpt : List ℕ → ℕ → Type 0
LacksOpt b n =
    ((length b < header_size) × (n ≡ number_of faults.ShortInput))
    ⊎ ((2 ≤ length (opts_of b)) × (n ≡ number_of faults.TwoOpts))
    ⊎ ((length (opts_of b) ≤ 1) × ((f : Fault) × EndsWith (walk_of b) (Some f) × ReportsFault f n))
    ⊎ ((opts_of b ≡ []) × EndsWith (walk_of b) None × (n ≡ number_of faults.NoOpt))
    ⊎ (((x : RecordEntry) × (opts_of b ≡ x ∷ []) × (x.owner ≢ [])) × EndsWith (walk_of b) None × (n ≡ number_of faults.BadOwner))

-- Entries that an iteration yields, none of them an OPT record.
abbrev pub PassesOver : List Given → Type 0
PassesOver [] = Unit {0}
PassesOver (Err f ∷ xs) = ⊥
PassesOver (Ok x ∷ xs) = (opt_given (Ok x) ≡ None) × PassesOver xs

-- What searching for the next OPT record from a cursor on returns: the record, or that there is none, or the error that comes first.
abbrev pub FindsOpt : List ℕ → Cursor → Cursor → Item → Result Bool CallError → Type 0
FindsOpt b old new item (Ok true) =
    (others : List Given) × PassesOver others
    × ((x : RecordEntry) × (left_from b old ≡ others ++ Ok (Stated Additional x) ∷ left_from b new) × (x.rtype ≡ 41) × ReportsRecord b item x × (item.section ≡ 3) × IsOpen b new)
FindsOpt b old new item (Ok false) = PassesOver (left_from b old)
FindsOpt b old new item (Err fault) =
    (others : List Given) × PassesOver others × ((f : Fault) × (left_from b old ≡ others ++ Err f ∷ []) × ReportsFault f (number_of fault))
