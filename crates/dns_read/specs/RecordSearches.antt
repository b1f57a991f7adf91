-- Searches in the records of a message, as functions of their readings. RFC 1035 sections 3.3.1 and 4.1.
--
-- `b` is the octets of the message, and `layouts` gives the layout of each record type that a data type accepts.
use Rattle.std.specs.Prelude.{◌≡◌, ◌≢◌, ℕ, zero, suc, ◌<◌, List, [], ◌∷◌, find, Option, Some, None, option_map, option_and_then, Result}
use Rattle.std.specs.List.{filter_map}
use Rattle.std.specs.Result.{result_ok}
use Rattle.dns_name.specs.Names.{Fault, Labels}
use Rattle.dns_name.specs.NameOrders.{names_equal}
use Rattle.dns_wire.specs.Parts.{Part}
use Rattle.dns_wire.specs.Parts.Part.{Octets, CompressibleName, UncompressedName}
use Rattle.dns_data.specs.Layout.{Layout}
use Rattle.dns_data.specs.Layout.Layout.{DomainName, End}
use Rattle.dns_data.specs.RecordData.{only}
use Rattle.dns_item.specs.Questions.{QuestionItem}
use Rattle.dns_item.specs.Items.{RecordItem}
use Rattle.dns_item.specs.ParsedRecord.{EncodedRecord}
use Rattle.dns_item.specs.TypedRecords.{parsed_as}
use Rattle.dns_read.specs.Limited.{limited}
use Rattle.dns_read.specs.declared.section.Section.TheVariants.{Answer, Additional}
use Rattle.dns_read.specs.Searches.{asked_first}
use Rattle.dns_read.specs.SectionStarts.{start_of, records_of}

-- the answer section has a start and, in it, a record whose type the data type accepts, even if its RDATA is malformed, or a fault
abbrev pub HasAnswer : (ℕ → Option Layout) → List ℕ → Type 0
HasAnswer layouts b = limited layouts (records_of Answer b) ≢ []

-- the last item of a list that begins with x
abbrev pub last_from : {X : Type 0} → X → List X → X
last_from x [] = x
last_from x (y ∷ ys) = last_from y ys

-- the last item of a list, if it has one
abbrev pub last_item : {X : Type 0} → List X → Option X
last_item [] = None
last_item (x ∷ xs) = Some (last_from x xs)

-- the last record of a reading that has no fault
abbrev pub last_record : List (Result EncodedRecord Fault) → Option EncodedRecord
last_record xs = option_and_then result_ok (last_item xs)

-- the last additional record with its RDATA parsed; none if the data type doesn't accept its type, or if its RDATA is malformed
abbrev pub last_additional : (ℕ → Option Layout) → List ℕ → Option RecordItem
last_additional layouts b = option_and_then (λ x. option_and_then result_ok (parsed_as layouts x)) (last_record (records_of Additional b))

-- the layout of CNAME RDATA: RFC 1035 section 3.3.1
abbrev pub cname_layout : ℕ → Option Layout
cname_layout = only 5 (DomainName End)

-- the name of record data that is a name alone
abbrev pub only_name : List Part → Option Labels
only_name [] = None
only_name (Octets octets ∷ parts) = None
only_name (CompressibleName name ∷ []) = Some name
only_name (CompressibleName name ∷ part ∷ parts) = None
only_name (UncompressedName lowercased name ∷ parts) = None

-- the name that `name` is an alias of: the one in the first record with this owner, ignoring ASCII case, in any class; faults are skipped
abbrev pub alias_of : List (Result RecordItem Fault) → Labels → Option Labels
alias_of xs name = option_and_then (λ (x : RecordItem). only_name x.parts) (find (λ (x : RecordItem). names_equal x.owner name) (filter_map result_ok xs))

-- The i-th name in a chain of aliases: first the first question's name, then each name that the one before is an alias of, by the answer section. RFC 1034 section 3.6.2.
unfoldable pub nth_name : List ℕ → ℕ → Option Labels
nth_name b zero = option_map (λ (q : QuestionItem). q.name) (asked_first b)
nth_name b (suc i) = option_and_then (alias_of (limited cname_layout (records_of Answer b))) (nth_name b i)

-- The canonical name: the first of 20 names in the chain that is no alias. There is none if all 20 are aliases, if the first question can't be read, or if the answer section has no start.
pub data CanonicalName (b : List ℕ) : Option Labels → Type 0 where
  ends : (i p : ℕ) (name : Labels) → i < 20 → start_of Answer b ≡ Some p → nth_name b i ≡ Some name → nth_name b (suc i) ≡ None → CanonicalName b (Some name)
  goes_on : (name : Labels) → nth_name b 20 ≡ Some name → CanonicalName b None
  no_question : nth_name b 0 ≡ None → CanonicalName b None
  no_section : start_of Answer b ≡ None → CanonicalName b None

-- there is at most one result
abbrev pub OneCanonicalName : Type 0
OneCanonicalName = (b : List ℕ) (x y : Option Labels) → CanonicalName b x → CanonicalName b y → x ≡ y
