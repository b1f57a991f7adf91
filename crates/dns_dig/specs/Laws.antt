-- What is true of the lines of records.
use Rattle.std.specs.Prelude.{◌≡◌, ℕ, ◌+◌, ◌<◌, ◌⊎◌, Bool, true, false, if◌then◌else◌, List, [], ◌∷◌, ◌++◌, length, map, All, Some, Result, Ok, Err, codes, decimal}
use Rattle.std.specs.List.{concat, flat_map, list_any}
use Rattle.dns_name.specs.Names.{Fault}
use Rattle.dns_item.specs.ParsedRecord.{EncodedRecord}
use Rattle.dns_read.specs.declared.section.Section.{Section}
use Rattle.dns_read.specs.declared.section.Section.TheVariants.{Answer, Authority, Additional}
use Rattle.dns_lines.specs.Show.{data_parts}
use Rattle.dns_lines.specs.ZoneLines.{line_with, malformed_line}
use Rattle.fields_plain.specs.TypeNames.{class_word, type_word}
use Rattle.fields_plain.specs.ZoneNames.{zone_name_text}
use Rattle.fields_table.specs.FieldData.{type_layout}
use Rattle.dns_dig.specs.Opt.{is_opt, opt_text}
use Rattle.dns_dig.specs.Records.{record_data, record_line}
use Rattle.dns_dig.specs.Sections.{is_opt_item, is_signature, item_lines, opts_text, section_lines, signed_record_text, signatures_text}
use Rattle.dns_dig.specs.declared.signature.Signature.{Signature}
use Rattle.dns_dig.specs.declared.signature.Signature.TheVariants.{Tsig, Sig0}

-- the line of an item: a record, or that it is malformed
abbrev pub item_line : Section → Result EncodedRecord Fault → List ℕ
item_line section (Ok x) = record_line x
item_line section (Err f) = malformed_line section

-- A section has the line of each of its items, in order.
abbrev pub HasEachLine : Section → Type 0
HasEachLine section = (xs : List (Result EncodedRecord Fault)) → section_lines section (Some xs) ≡ map (item_line section) xs

-- So have the answer and the authority section.
abbrev pub SectionsHaveEachLine : Type 0
SectionsHaveEachLine = HasEachLine Answer × HasEachLine Authority

-- the first OPT record of items prints before the sections, and the others in their section
pub record IsOptPrinted (xs : List (Result EncodedRecord Fault)) : Type 0 where
  pub before : List (Result EncodedRecord Fault)
  pub opt : EncodedRecord
  pub after : List (Result EncodedRecord Fault)
  pub whole : xs ≡ before ++ Ok opt ∷ after
  pub first : list_any is_opt_item before ≡ false
  pub is : is_opt opt ≡ true
  pub text : opts_text (Some xs) ≡ opt_text opt
  pub lines : section_lines Additional (Some xs) ≡ flat_map (item_lines Additional) (before ++ after)

-- items without an OPT record print in their section
pub record HasNoOpt (xs : List (Result EncodedRecord Fault)) : Type 0 where
  pub none : list_any is_opt_item xs ≡ false
  pub text : opts_text (Some xs) ≡ []
  pub lines : section_lines Additional (Some xs) ≡ flat_map (item_lines Additional) xs

-- The additional section prints without its first OPT record, which prints before the sections.
abbrev pub FirstOptIsPrinted : Type 0
FirstOptIsPrinted = (xs : List (Result EncodedRecord Fault)) → IsOptPrinted xs ⊎ HasNoOpt xs

-- the records that can be read and of which a test holds, in order
abbrev pub records_with : (EncodedRecord → Bool) → List (Result EncodedRecord Fault) → List EncodedRecord
records_with test [] = []
records_with test (Ok x ∷ xs) = if test x then x ∷ records_with test xs else records_with test xs
records_with test (Err f ∷ xs) = records_with test xs

-- Each record that signs the message prints after the sections, in order.
abbrev pub EachSignatureIsPrinted : Type 0
EachSignatureIsPrinted =
    (signature : Signature) (xs : List (Result EncodedRecord Fault))
    → signatures_text signature (Some xs) ≡ concat (map (signed_record_text signature) (records_with (is_signature signature) xs))

-- 1 if a test holds, else 0
abbrev pub one_if : Bool → ℕ
one_if test = if test then 1 else 0

-- how often another record of the additional section is printed: in its section, and as a signature after the sections
abbrev pub times_printed : EncodedRecord → ℕ
times_printed x = length (item_lines Additional (Ok x)) + (one_if (is_signature Tsig x) + one_if (is_signature Sig0 x))

-- Each is printed once.
abbrev pub AdditionalsArePrintedOnce : Type 0
AdditionalsArePrintedOnce = (x : EncodedRecord) → times_printed x ≡ 1

-- the fields of a record, with these texts between them
abbrev pub fields_between : List ℕ → List ℕ → List ℕ → List ℕ → EncodedRecord → List ℕ
fields_between a b c d x =
    zone_name_text x.entry.owner ++ a ++ decimal x.entry.ttl ++ b ++ class_word x.entry.class ++ c ++ type_word x.entry.rtype ++ d ++ record_data x ++ codes "\n"

-- one tab (9) or space (32) or more
pub record IsBlank (text : List ℕ) : Type 0 where
  pub some : 0 < length text
  pub blanks : All (λ c. (c ≡ 9) ⊎ (c ≡ 32)) text

-- The line of a record is that of a zone file, but for the blanks between its fields.
pub record IsZoneLine (x : EncodedRecord) : Type 0 where
  pub ttl_gap : List ℕ
  pub class_gap : List ℕ
  pub type_gap : List ℕ
  pub data_gap : List ℕ
  pub blank : IsBlank ttl_gap × IsBlank class_gap × IsBlank type_gap × IsBlank data_gap
  pub line : record_line x ≡ fields_between ttl_gap class_gap type_gap data_gap x
  pub zone_line : line_with x (data_parts x (type_layout x.entry.rtype)) ≡ fields_between (codes " ") (codes " ") (codes " ") (codes " ") x

-- So is the line of each record.
abbrev pub LinesAreZoneLines : Type 0
LinesAreZoneLines = (x : EncodedRecord) → IsZoneLine x
