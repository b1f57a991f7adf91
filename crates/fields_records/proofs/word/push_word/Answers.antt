use Rattle.std.proofs.Common.{ℕ, List, subst, inl, inr}
use Rattle.fields_text.specs.Strings.{SpellsString}
use Rattle.fields_text.specs.Reading.{ReadsWords}
use Rattle.fields_table.specs.declared.kind.Kind.TheVariants as kinds
use Rattle.fields_records.proofs.AppendLemmas.{as_kind}
use Rattle.fields_text.proofs.theory.AppendLemmas.{read_appended, reads_string}
use Rattle.fields_records.proofs.word.push_word.Goals as goal

pub returns-in-Number8 : goal.returns-in-Number8
returns-in-Number8 c = as_kind c.args.kind kinds.Number8 c.args.word.now c.args.octets.now.items c.push_number.new.octets.items c.push_number.result c.in-Number8.is c.push_number.ensures

pub returns-in-Number16 : goal.returns-in-Number16
returns-in-Number16 c = as_kind c.args.kind kinds.Number16 c.args.word.now c.args.octets.now.items c.push_number-in-Number16.new.octets.items
    c.push_number-in-Number16.result c.in-Number16.is c.push_number-in-Number16.ensures

pub returns-in-Number48 : goal.returns-in-Number48
returns-in-Number48 c = as_kind c.args.kind kinds.Number48 c.args.word.now c.args.octets.now.items c.push_number-in-Number48.new.octets.items
    c.push_number-in-Number48.result c.in-Number48.is c.push_number-in-Number48.ensures

pub returns-in-Number64 : goal.returns-in-Number64
returns-in-Number64 c = as_kind c.args.kind kinds.Number64 c.args.word.now c.args.octets.now.items c.push_number-in-Number64.new.octets.items
    c.push_number-in-Number64.result c.in-Number64.is c.push_number-in-Number64.ensures

pub returns-in-SyncScheme : goal.returns-in-SyncScheme
returns-in-SyncScheme c = as_kind c.args.kind kinds.SyncScheme c.args.word.now c.args.octets.now.items c.push_scheme.new.octets.items c.push_scheme.result c.in-SyncScheme.is c.push_scheme.ensures

pub returns-in-Time : goal.returns-in-Time
returns-in-Time c = as_kind c.args.kind kinds.Time c.args.word.now c.args.octets.now.items c.push_time.new.octets.items c.push_time.result c.in-Time.is c.push_time.ensures

pub returns-in-Ipv4 : goal.returns-in-Ipv4
returns-in-Ipv4 c = as_kind c.args.kind kinds.Ipv4 c.args.word.now c.args.octets.now.items c.push_ipv4.new.octets.items c.push_ipv4.result c.in-Ipv4.is c.push_ipv4.ensures

pub returns-in-Ipv6 : goal.returns-in-Ipv6
returns-in-Ipv6 c = as_kind c.args.kind kinds.Ipv6 c.args.word.now c.args.octets.now.items c.push_ipv6.new.octets.items c.push_ipv6.result c.in-Ipv6.is c.push_ipv6.ensures

pub returns-in-Eui48 : goal.returns-in-Eui48
returns-in-Eui48 c = as_kind c.args.kind kinds.Eui48 c.args.word.now c.args.octets.now.items c.push_eui48.new.octets.items c.push_eui48.result c.in-Eui48.is c.push_eui48.ensures

pub returns-in-Eui64 : goal.returns-in-Eui64
returns-in-Eui64 c = as_kind c.args.kind kinds.Eui64 c.args.word.now c.args.octets.now.items c.push_eui64.new.octets.items c.push_eui64.result c.in-Eui64.is c.push_eui64.ensures

pub returns-in-Locator64 : goal.returns-in-Locator64
returns-in-Locator64 c = as_kind c.args.kind kinds.Locator64 c.args.word.now c.args.octets.now.items c.push_locator.new.octets.items c.push_locator.result c.in-Locator64.is c.push_locator.ensures

pub returns-in-RecordType : goal.returns-in-RecordType
returns-in-RecordType c = as_kind c.args.kind kinds.RecordType c.args.word.now c.args.octets.now.items c.push_type.new.octets.items c.push_type.result c.in-RecordType.is c.push_type.ensures

pub returns-in-Salt : goal.returns-in-Salt
returns-in-Salt c = as_kind c.args.kind kinds.Salt c.args.word.now c.args.octets.now.items c.push_salt.new.octets.items c.push_salt.result c.in-Salt.is c.push_salt.ensures

pub returns-in-Hash : goal.returns-in-Hash
returns-in-Hash c = as_kind c.args.kind kinds.Hash c.args.word.now c.args.octets.now.items c.push_hash.new.octets.items c.push_hash.result c.in-Hash.is c.push_hash.ensures

pub returns-in-Number32 : goal.returns-in-Number32
returns-in-Number32 c =
    elim c.in-Number32.is [
      | inl is ↦ as_kind c.args.kind kinds.Number32 c.args.word.now c.args.octets.now.items c.push_number-in-Number32.new.octets.items
          c.push_number-in-Number32.result is c.push_number-in-Number32.ensures
      | inr is ↦ as_kind c.args.kind kinds.Seconds c.args.word.now c.args.octets.now.items c.push_number-in-Number32.new.octets.items
          c.push_number-in-Number32.result is c.push_number-in-Number32.ensures
    ]

pub returns-in-CharacterString : goal.returns-in-CharacterString
returns-in-CharacterString c = as_kind c.args.kind kinds.CharacterString c.args.word.now c.args.octets.now.items c.push_string.new.octets.items
    c.push_string.result c.in-CharacterString.is c.push_string.ensures

pub returns-in-Tag : goal.returns-in-Tag
returns-in-Tag c = as_kind c.args.kind kinds.Tag c.args.word.now c.args.octets.now.items c.push_tag.new.octets.items c.push_tag.result c.in-Tag.is c.push_tag.ensures

pub returns-in-CompressibleName : goal.returns-in-CompressibleName
returns-in-CompressibleName c =
    elim c.in-CompressibleName.is [
      | inl is ↦ as_kind c.args.kind kinds.CompressibleName c.args.word.now c.args.octets.now.items c.push_name.new.octets.items c.push_name.result is c.push_name.ensures
      | inr others ↦
          elim others [
            | inl is ↦ as_kind c.args.kind kinds.PointedName c.args.word.now c.args.octets.now.items c.push_name.new.octets.items c.push_name.result is c.push_name.ensures
            | inr last ↦
                elim last [
                  | inl is ↦ as_kind c.args.kind kinds.LowercasedName c.args.word.now c.args.octets.now.items c.push_name.new.octets.items c.push_name.result is c.push_name.ensures
                  | inr is ↦ as_kind c.args.kind kinds.PlainName c.args.word.now c.args.octets.now.items c.push_name.new.octets.items c.push_name.result is c.push_name.ensures
                ]
          ]
    ]

pub returns-in-Text : goal.returns-in-Text
returns-in-Text c =
    as_kind c.args.kind kinds.Text c.args.word.now c.args.octets.now.items c.push_read.new.octets.items c.push_read.result c.in-Text.is
    (read_appended (SpellsString c.args.word.now) c.read_string.result c.args.octets.now.items c.push_read.new.octets.items c.push_read.result
    (subst (λ (text : List ℕ). ReadsWords (SpellsString text) c.read_string.result) c.as_bytes.ensures.value
    (reads_string (SpellsString c.as_bytes.result.now) c.read_string.result c.read_string.ensures.reads c.read_string.ensures.full))
    c.push_read.ensures)
