-- Records as lines of zone files. RFC 1035 section 5.1, RFC 2308 section 4.
use Rattle.std.specs.Prelude.{◌≡◌, ◌⊎◌, ◌↔◌, ℕ, ◌+◌, ◌-◌, ◌^◌, nat_lt, if◌then◌else◌, Bool, true, false, Option, Some, None, option_map, unwrap_or, List, [], ◌∷◌, length, decimal}
use Rattle.std.specs.Prelude.{Result, Ok, Err, MatchResult, MatchOption, string_bytes}
use Rattle.std.specs.declared.alloc.Global.{Global}
use Rattle.std.specs.declared.string.String.{String}
use Rattle.std.specs.Borrow.{Bor}
use Rattle.std.specs.Option.{option_or}
use Rattle.dns_octets.specs.declared.octets.Octets.{Ghosts}
use Rattle.dns_name.specs.NameReading.{name_labels}
use Rattle.dns_name.specs.Names.{Labels}
use Rattle.dns_name.specs.ParsedName.{labels}
use Rattle.dns_name.specs.declared.name.Name.{Name}
use Rattle.dns_name.specs.declared.parsed_name.ParsedName.{ParsedName}
use Rattle.dns_item.specs.Items.{RecordItem}
use Rattle.dns_item.specs.Record.{record_item}
use Rattle.dns_item.specs.declared.record.Record.{Record}
use Rattle.fields_plain.specs.NameWords.{IsNameText}
use Rattle.fields_plain.specs.TypeNames.{class_word}
use Rattle.fields_plain.specs.TypeWords.{IsTypeWord}
use Rattle.fields_plain.specs.ZoneNames.{zone_name_text}
use Rattle.fields_records.specs.FieldWords.{Words}
use Rattle.fields_records.specs.RecordWords.{IsRecordText}
use Rattle.fields_table.specs.OwnedData.{owned_parts_of, owned_rtype_of}
use Rattle.fields_table.specs.declared.owned.OwnedFieldData.{OwnedFieldData}
use Rattle.fields_text.specs.LineWords.{texts}
use Rattle.fields_lines.specs.Completing.{Completed, completed_data}
use Rattle.fields_lines.specs.FieldWays.{Texts, text_at}
use Rattle.fields_lines.specs.Heads.{IsHead}
use Rattle.fields_lines.specs.NameWords.{completed_name}
use Rattle.fields_lines.specs.declared.defaults.Defaults.{Defaults}
use Rattle.fields_lines.specs.declared.line_error.LineError.{LineError}
use Rattle.fields_lines.specs.declared.line_error.LineError.TheVariants.{BadWord, OutOfMemory}
use Rattle.fields_lines.specs.declared.line_error.WordReason.{WordReason}
use Rattle.fields_lines.specs.declared.line_error.WordReason.TheVariants.{Missing, NoOwner, NoTtl, Relative, NoType, NoValue}

-- the text of a name, if there is one
abbrev pub text_of_name : Option ParsedName → Option (List ℕ)
text_of_name name = option_map (λ n. zone_name_text (labels n)) name

-- the index of a word in a line, and why it is wrong
abbrev pub Problem : Type 0
Problem = ℕ × WordReason

-- an owner and the words after it
abbrev pub Owner : Type 0
Owner = Result (List ℕ × Texts) Problem

-- the owner and these words, or why there is none
abbrev pub owner_or : WordReason → Texts → Option (List ℕ) → Owner
owner_or reason words (Some owner) = Ok (owner, words)
owner_or reason words None = Err (0, reason)

-- the owner that the first word is
abbrev pub named_owner : Option (List ℕ) → Texts → Owner
named_owner origin [] = Err (0, Missing)
named_owner origin (word ∷ words) = owner_or Relative words (completed_name origin word)

-- the owner of a line: its first word if it is named, else the owner before it
abbrev pub owner_of : Defaults → Bool → Texts → Owner
owner_of defaults true words = named_owner (text_of_name defaults.origin) words
owner_of defaults false words = owner_or NoOwner words (text_of_name defaults.owner)

-- complete words and the index in the line of the first word of the RDATA, or which word is wrong
abbrev pub Outcome : Type 0
Outcome = Result (ℕ × Texts) Problem

-- the complete words of a line whose RDATA is at this index
abbrev pub outcome_at : ℕ → Completed → Outcome
outcome_at at (Ok words) = Ok (at, words)
outcome_at at (Err index) = Err (index, Relative)

-- a TTL that a record has: zero if it is above 2^31-1. RFC 2181 section 8
abbrev pub in_31_bits : ℕ → ℕ
in_31_bits ttl = if nat_lt ttl (2 ^ 31) then ttl else 0

-- the TTL of a record: that of its line, else the default
abbrev pub record_ttl : Option ℕ → Option ℕ → Option ℕ
record_ttl ttl default = option_map in_31_bits (option_or ttl default)

-- the complete words of a line of this owner and class, whose type is the word at this index: none without a TTL
abbrev pub with_ttl : Defaults → ℕ → List ℕ → Option ℕ → ℕ → List ℕ → ℕ → Texts → Outcome
with_ttl defaults at owner None class type_word rtype value = Err (at, NoTtl)
with_ttl defaults at owner (Some ttl) class type_word rtype value =
    outcome_at (at + 1) (completed_data (text_of_name defaults.origin) (at + 1) rtype (owner ∷ decimal ttl ∷ class_word class ∷ type_word ∷ []) value)

-- the same, of a TTL and a class that may be left out: none if the word isn't a record type
abbrev pub with_type : Defaults → ℕ → List ℕ → Option ℕ → Option ℕ → List ℕ → Option ℕ → Texts → Outcome
with_type defaults at owner ttl class type_word None value = Err (at, NoType)
with_type defaults at owner ttl class type_word (Some rtype) value =
    with_ttl defaults at owner (record_ttl ttl defaults.ttl) (unwrap_or class defaults.class) type_word rtype value

-- the record type that a word is, or none
abbrev pub IsTypeOf : List ℕ → Option ℕ → Type 0
IsTypeOf word rtype = (n : ℕ) → IsTypeWord word n ↔ (rtype ≡ Some n)

-- the complete words of a line of so many words, of which these follow the owner, the TTL and the class
abbrev pub IsTail : Defaults → ℕ → List ℕ → Option ℕ → Option ℕ → Texts → Outcome → Type 0
IsTail defaults size owner ttl class [] outcome = outcome ≡ Err (size, Missing)
IsTail defaults size owner ttl class (type_word ∷ value) outcome =
    (rtype : Option ℕ) × IsTypeOf type_word rtype × (outcome ≡ with_type defaults (size - length (type_word ∷ value)) owner ttl class type_word rtype value)

-- the complete words of a line of so many words, of which these follow the owner
pub record IsAfterOwner (defaults : Defaults) (size : ℕ) (owner : List ℕ) (words : Texts) (outcome : Outcome) : Type 0 where
  pub ttl : Option ℕ
  pub class : Option ℕ
  pub after : Texts
  pub is_head : IsHead words ttl class after
  pub is_tail : IsTail defaults size owner ttl class after outcome

-- The complete words of a line: owner, TTL, class, type and RDATA. What is left out is what the lines before it say. Else which word is wrong.
abbrev pub IsLine : Defaults → Bool → Texts → Outcome → Type 0
IsLine defaults named words outcome =
    MatchResult (owner_of defaults named words) (λ taken. IsAfterOwner defaults (length words) taken.0 taken.1 outcome) (λ problem. outcome ≡ Err problem)

-- a line has complete words
abbrev pub HasWords : (Outcome → Type 0) → Type 0
HasWords Is = (at : ℕ) × (completed : Texts) × Is (Ok (at, completed))

-- which word of a line is wrong, and why; or none, if the line has complete words
abbrev pub FindsProblem : (Outcome → Type 0) → Option Problem → Type 0
FindsProblem Is found = MatchOption found (HasWords Is) (λ problem. Is (Err problem))

-- the error reports this problem
abbrev pub Reports : LineError → Problem → Type 0
Reports error problem = error ≡ BadWord problem.0 problem.1

-- the record that the complete words of a line represent
abbrev pub IsRecordOf : Defaults → Bool → Words → RecordItem → Type 0
IsRecordOf defaults named words item =
    (at : ℕ) × (completed : Words) × IsLine defaults named (texts words) (Ok (at, texts completed)) × IsRecordText completed item

-- The index in the line of the word that is wrong, if complete words represent no record: 0 if the owner isn't a name, else that of the first word of the RDATA.
abbrev pub IsBadIndex : Texts → ℕ → ℕ → Type 0
IsBadIndex completed at index =
    ((index ≡ 0) × ((name : Labels) → ¬ (IsNameText (text_at completed 0) name))) ⊎ ((index ≡ at) × ((name : Labels) × IsNameText (text_at completed 0) name))

-- the error reports which word is wrong of complete words that represent no record
abbrev pub ReportsWhich : LineError → Texts → ℕ → Type 0
ReportsWhich error completed at = (index : ℕ) × IsBadIndex completed at index × Reports error (index, NoValue)

-- the complete words of a line represent no record, and the error reports which word is wrong
pub record IsNoRecord (defaults : Defaults) (named : Bool) (words : Words) (error : LineError) : Type 0 where
  pub at : ℕ
  pub completed : Words
  pub is_line : IsLine defaults named (texts words) (Ok (at, texts completed))
  pub none : (item : RecordItem) → ¬ (IsRecordText completed item)
  pub reports : ReportsWhich error (texts completed) at

-- a line without complete words, of which one is wrong
abbrev pub HasProblem : Defaults → Bool → Words → LineError → Type 0
HasProblem defaults named words error = (problem : Problem) × IsLine defaults named (texts words) (Err problem) × Reports error problem

-- The record that the words of a line represent. Else which word is wrong, and why; or an allocation fails, which happens only to a line that has complete words.
abbrev pub ReadsLine : {X : Type 0} {buffer : Ghosts X} → Defaults → Bool → Words → Result (Record (Name X buffer) OwnedFieldData) LineError → Type 0
ReadsLine defaults named words result =
    MatchResult result (λ r. IsRecordOf defaults named words (record_item name_labels owned_rtype_of owned_parts_of r))
    (λ error. ((error ≡ OutOfMemory) × HasWords (IsLine defaults named (texts words))) ⊎ (HasProblem defaults named words error ⊎ IsNoRecord defaults named words error))

-- the owner of a line and the words after it, or why there is none
abbrev pub TakesOwner : Owner → Result (String Global × Bor (List (Bor (List ℕ)))) LineError → Type 0
TakesOwner owner result =
    MatchResult result (λ taken. owner ≡ Ok (string_bytes taken.0, texts taken.1.now))
    (λ error. (error ≡ OutOfMemory) ⊎ ((problem : Problem) × (owner ≡ Err problem) × Reports error problem))

-- the words after the owner of a line, or why it has none
abbrev pub TakesAfterOwner : Owner → Result (Bor (List (Bor (List ℕ)))) WordReason → Type 0
TakesAfterOwner owner result = MatchResult result (λ after. (name : List ℕ) × (owner ≡ Ok (name, texts after.now))) (λ reason. owner ≡ Err (0, reason))

-- the complete words and the index of the first word of the RDATA, or which word is wrong
abbrev pub CompletesTo : (Outcome → Type 0) → Texts → Result ℕ LineError → Type 0
CompletesTo Is completed result =
    MatchResult result (λ at. Is (Ok (at, completed))) (λ error. (error ≡ OutOfMemory) ⊎ ((problem : Problem) × Is (Err problem) × Reports error problem))

-- the record that complete words represent; else they represent none
abbrev pub ReadsCompleted : {X : Type 0} {buffer : Ghosts X} → Texts → ℕ → Result (Record (Name X buffer) OwnedFieldData) LineError → Type 0
ReadsCompleted completed at result =
    MatchResult result (λ r. (words : Words) × (texts words ≡ completed) × IsRecordText words (record_item name_labels owned_rtype_of owned_parts_of r))
    (λ error. (error ≡ OutOfMemory)
    ⊎ ((words : Words) × (texts words ≡ completed) × ((item : RecordItem) → ¬ (IsRecordText words item)) × ReportsWhich error completed at))
