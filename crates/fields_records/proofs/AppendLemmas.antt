-- Appending the octets of words.
use Rattle.std.proofs.Common.{◌≡◌, ℕ, List, sym, subst}
use Rattle.std.specs.Prelude.{Result}
use Rattle.std.specs.Global.{Vec}
use Rattle.fields_text.specs.declared.text_error.TextError.{TextError}
use Rattle.fields_table.specs.declared.kind.Kind.{Kind}
use Rattle.fields_text.specs.Reading.{AppendsOctets, ReadsWords}
use Rattle.fields_text.specs.Appended.{AppendsRead}
use Rattle.fields_records.specs.FieldWords.{AreFieldWords, IsFieldWord, Words}
use Rattle.fields_text.proofs.theory.AppendLemmas.{read_appended}

-- a field of this kind
pub as_kind : (kind own : Kind) (word old new : List ℕ) (result : Result Unit TextError) → kind ≡ own → AppendsOctets (IsFieldWord own word) old new result
    → AppendsOctets (IsFieldWord kind word) old new result
as_kind kind own word old new result is appends = subst (λ (k : Kind). AppendsOctets (IsFieldWord k word) old new result) (sym is) appends

-- fields of several words
pub as_kinds : (kind own : Kind) (words : Words) (old new : List ℕ) (result : Result Unit TextError) → kind ≡ own → AppendsOctets (AreFieldWords own words) old new result
    → AppendsOctets (AreFieldWords kind words) old new result
as_kinds kind own words old new result is appends = subst (λ (k : Kind). AppendsOctets (AreFieldWords k words) old new result) (sym is) appends

-- the same of octets that were read
pub read_as_kind : (kind own : Kind) (words : Words) (read : Result (Vec ℕ) TextError) (old new : List ℕ) (result : Result Unit TextError) → kind ≡ own
    → ReadsWords (AreFieldWords own words) read → AppendsRead read old new result → AppendsOctets (AreFieldWords kind words) old new result
read_as_kind kind own words read old new result is reads appends =
    as_kinds kind own words old new result is (read_appended (AreFieldWords own words) read old new result reads appends)
