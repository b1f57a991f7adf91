-- A record is printed, and its line is split into words.
use Rattle.std.specs.Prelude.{◌≡◌, ℕ, ◌<◌, ◌^◌, List, true, Result, MatchResult}
use Rattle.std.specs.Borrow.{Bor}
use Rattle.std.specs.Global.{Vec}
use Rattle.hex.specs.Hex.{IsBytes}
use Rattle.dns_name.specs.Names.{IsName, Labels, uncompressed}
use Rattle.fields_plain.specs.ZoneNames.{zone_name_text}
use Rattle.fields_records.specs.DataTexts.{data_line}
use Rattle.fields_records.specs.Laws.{HasOctets, record_with}
use Rattle.fields_records.specs.RecordLines.{record_text}
use Rattle.fields_table.specs.Data.{rtype_of}
use Rattle.fields_table.specs.declared.field_data.FieldData.{FieldData}
use Rattle.fields_text.specs.LineWords.{SplitsWords}
use Rattle.fields_text.specs.declared.text_error.TextError.{TextError}
use Rattle.fields_text.specs.declared.text_error.TextError.TheVariants.{OutOfMemory}
use Rattle.fields_lines.specs.Lines.{IsRecordOf}
use Rattle.fields_lines.specs.declared.defaults.Defaults.{Defaults}

-- The words of a printed record represent it as a line that begins with its owner, whatever the lines before it say, unless an allocation failed.
abbrev pub PrintedLinesAreRead : Type 0
PrintedLinesAreRead =
    (defaults : Defaults) (owner : Labels) (class ttl : ℕ) (fields : FieldData) (split : Result (Vec (Bor (List ℕ))) TextError) → IsName owner → IsBytes (uncompressed owner)
    → class < 2 ^ 16 → ttl < 2 ^ 31 → rtype_of fields < 2 ^ 16
    → HasOctets fields → SplitsWords (record_text (zone_name_text owner) ttl class (rtype_of fields) (data_line fields)) split
    → MatchResult split (λ words. IsRecordOf defaults true words.items (record_with owner class ttl fields)) (λ error. error ≡ OutOfMemory)
