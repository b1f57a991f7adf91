-- The complete words of RDATA, by the fields of its type.
use Rattle.std.specs.Prelude.{◌≡◌, ◌⊎◌, ℕ, ◌+◌, Bool, Option, Some, None, List, [], ◌∷◌, ◌++◌, take, drop, map, codes, bytes_eq, if◌then◌else◌, Ok, Err, Result, MatchResult, MatchOption}
use Rattle.fields_table.specs.Table.{kinds_of}
use Rattle.fields_table.specs.declared.kind.Kind.{Kind}
use Rattle.fields_lines.specs.FieldWays.{Texts, own_count, text_at, way_of, word_way}
use Rattle.fields_lines.specs.WordTexts.{completed_word, text_of}
use Rattle.fields_lines.specs.declared.line_error.LineError.{LineError}
use Rattle.fields_lines.specs.declared.line_error.LineError.TheVariants.{BadWord, OutOfMemory}
use Rattle.fields_lines.specs.declared.line_error.WordReason.TheVariants.{Relative}
use Rattle.fields_lines.specs.declared.way.Way.{Way}
use Rattle.fields_lines.specs.declared.word.Word.{Word}

-- complete words; or the index in the line of the first word that is a relative name, without an origin
abbrev pub Completed : Type 0
Completed = Result Texts ℕ

-- what follows complete words
abbrev pub and_then : Completed → (Texts → Completed) → Completed
and_then (Ok words) after = after words
and_then (Err index) after = Err index

-- complete words and the word after them; an error at this index, if there is none
abbrev pub with_word : Texts → ℕ → Option (List ℕ) → Completed
with_word done index (Some word) = Ok (done ++ word ∷ [])
with_word done index None = Err index

-- complete words and those of a field of this way after them, from index n of the field on. `own` are all words of the field, and `at` is the index in the line of the first
abbrev pub completed_own : Option (List ℕ) → ℕ → Way → Texts → ℕ → Texts → Texts → Completed
completed_own origin at way own n done [] = Ok done
completed_own origin at way own n done (word ∷ words) =
    and_then (with_word done (at + n) (completed_word origin (word_way way own n) word)) (λ more. completed_own origin at way own (n + 1) more words)

-- complete words, and these words after them
abbrev pub kept_words : Texts → Texts → Completed
kept_words done words = Ok (done ++ words)

-- complete words and those of fields of these kinds after them, from this field of the record type on. `at` is the index in the line of the first; words after those of the fields stay
abbrev pub completed_fields : Option (List ℕ) → ℕ → ℕ → ℕ → List Kind → Texts → Texts → Completed
completed_fields origin at rtype index [] done words = kept_words done words
completed_fields origin at rtype index (kind ∷ kinds) done words =
    let n = own_count kind words in
    and_then (completed_own origin at (way_of rtype index kind) (take n words) 0 done (take n words)) (λ more. completed_fields origin (at + n) rtype (index + 1) kinds more (drop n words))

-- whether the first word is `\#`: RDATA of any type, by its octets. RFC 3597 section 5
abbrev pub is_marked : Texts → Bool
is_marked words = bytes_eq (text_at words 0) (codes "\\#")

-- complete words and those of RDATA of this type after them. `at` is the index in the line of the first
abbrev pub completed_data : Option (List ℕ) → ℕ → ℕ → Texts → Texts → Completed
completed_data origin at rtype done words = if is_marked words then kept_words done words else completed_fields origin at rtype 0 (kinds_of rtype) done words

-- the texts of words
abbrev pub texts_of : List Word → Texts
texts_of words = map text_of words

-- the words are the complete ones; or the word at an index is a relative name, or an allocation fails
abbrev pub PushesWords : Completed → List Word → Result Unit LineError → Type 0
PushesWords completed new result =
    MatchResult result (λ _. completed ≡ Ok (texts_of new))
    (λ error. (error ≡ OutOfMemory) ⊎ ((index : ℕ) × (completed ≡ Err index) × (error ≡ BadWord index Relative)))

-- the words can be completed; or the index of the first relative name, without an origin
abbrev pub FindsRelative : Completed → Option ℕ → Type 0
FindsRelative completed found = MatchOption found ((words : Texts) × (completed ≡ Ok words)) (λ index. completed ≡ Err index)
