-- Words that can be completed, and the first one that can't.
use Rattle.std.proofs.Common.{◌≡◌, ◌∙◌, ℕ, ◌+◌, ◌<◌, ◌≤◌, Bool, true, false, List, [], ◌∷◌, ◌++◌, length, get_or, drop, refl, sym, ap, subst, arith}
use Rattle.std.specs.Prelude.{Option, Some, None, Ok, Err, codes, bytes_eq, is_none, is_some, not, ◌&&◌, ◌||◌, option_map, if◌then◌else◌}
use Rattle.std.specs.Borrow.{Bor}
use Rattle.std.proofs.lemmas.List.{at_drop_all, at_drop_more}
use Rattle.dns_name.specs.ParsedName.{labels}
use Rattle.dns_name.specs.declared.parsed_name.ParsedName.{ParsedName}
use Rattle.fields_records.specs.FieldWords.{Words}
use Rattle.fields_plain.specs.ZoneNames.{zone_name_text}
use Rattle.fields_table.specs.Table.{Field, kinds, kinds_of}
use Rattle.fields_text.specs.LineWords.{texts}
use Rattle.fields_lines.proofs.LineLemmas.{line_is, named_empty, named_first, owner_given, owner_named}
use Rattle.fields_lines.specs.Completing.{Completed, FindsRelative, and_then, completed_data, completed_fields, completed_own, is_marked, kept_words, with_word}
use Rattle.fields_lines.specs.FieldWays.{Texts, word_way}
use Rattle.fields_lines.specs.Lines.{FindsProblem, IsAfterOwner, IsLine, Outcome, Problem, outcome_at, owner_of, owner_or, text_of_name}
use Rattle.fields_lines.specs.NameWords.{completed_name, ends_with_dot, lacks_origin, origin_text, spaced}
use Rattle.fields_lines.specs.WordTexts.{completed_word}
use Rattle.fields_lines.specs.declared.defaults.Defaults.{Defaults}
use Rattle.fields_lines.specs.declared.line_error.WordReason.TheVariants.{Missing, NoOwner, Relative}
use Rattle.fields_lines.specs.declared.way.Way.{Way}

-- A word.

by_tests : (origin : Option (List ℕ)) (at dot : Bool) (text : List ℕ) (more : List ℕ → List ℕ)
    → (not (is_some origin) && (at || not dot)) ≡ is_none (if at then origin else if dot then Some text else option_map more origin)
by_tests None true dot text more = refl
by_tests None false true text more = refl
by_tests None false false text more = refl
by_tests (Some name) true dot text more = refl
by_tests (Some name) false true text more = refl
by_tests (Some name) false false text more = refl

same_some : (name : Option ParsedName) → is_some name ≡ is_some (text_of_name name)
same_some None = refl
same_some (Some name) = refl

-- A name lacks an origin exactly if it can't be completed.
pub name_lacks : (name : Option ParsedName) (word : List ℕ) → lacks_origin (is_some name) word ≡ is_none (completed_name (text_of_name name) word)
name_lacks name word =
    ap (λ (some : Bool). lacks_origin some word) (same_some name)
    ∙ by_tests (text_of_name name) (bytes_eq word (codes "@")) (ends_with_dot false false word) (spaced false word) (λ origin. spaced false word ++ origin_text origin)

-- The words of a field.

none_next : (word : Option (List ℕ)) (done : Texts) (index : ℕ) (after : Texts → Completed) → is_none word ≡ true → and_then (with_word done index word) after ≡ Err index
none_next None done index after none = refl
none_next (Some word) done index after none = absurd (cc none)

some_next : (word : Option (List ℕ)) (done : Texts) (index : ℕ) (after : Texts → Completed) → is_none word ≡ false
    → (more : Texts) × (and_then (with_word done index word) after ≡ after more)
some_next None done index after some = absurd (cc some)
some_next (Some word) done index after some = (done ++ word ∷ [], refl)

module _ (origin : Option (List ℕ)) (at : ℕ) (way : Way) (all : Words) (i : ℕ) (d : Bor (List ℕ)) where
  -- what completing the words from index i on gives, after others
  abbrev pub own_from : Texts → Completed
  own_from done = completed_own origin at way (texts all) i done (texts (drop i all))

  -- what completing the later words gives
  abbrev pub own_later : Texts → Completed
  own_later done = completed_own origin at way (texts all) (i + 1) done (texts (drop (i + 1) all))

  -- the word at the index
  abbrev word_here : Way → Option (List ℕ)
  word_here own = completed_word origin own (get_or all i d).now

  first_here : (own : Way) (done : Texts) → own ≡ word_way way (texts all) i → i < length all → own_from done ≡ and_then (with_word done (at + i) (word_here own)) own_later
  first_here own done is within =
      at_drop_more (λ (words : Words). completed_own origin at way (texts all) i done (texts words)) all i d within
      ∙ sym (ap (λ (w : Way). and_then (with_word done (at + i) (word_here w)) own_later) is)

  -- a relative name without an origin
  pub own_relative : (own : Way) (done : Texts) → own ≡ word_way way (texts all) i → i < length all → is_none (word_here own) ≡ true → own_from done ≡ Err (at + i)
  own_relative own done is within none = first_here own done is within ∙ none_next (word_here own) done (at + i) own_later none

  -- a word that can be completed
  pub own_next : (own : Way) (done : Texts) → own ≡ word_way way (texts all) i → i < length all → is_none (word_here own) ≡ false → (more : Texts) × (own_from done ≡ own_later more)
  own_next own done is within some =
      let next = some_next (word_here own) done (at + i) own_later some in
      (next.0, first_here own done is within ∙ next.1)

  -- no words are left
  pub own_done : (done : Texts) → length all ≤ i → own_from done ≡ Ok done
  own_done done h = at_drop_all (λ (words : Words). completed_own origin at way (texts all) i done (texts words)) all i h

-- The fields.

-- without fields all words are kept
pub no_fields : (origin : Option (List ℕ)) (at rtype index : ℕ) (fields : List Field) (done words : Texts) → length fields < 1
    → completed_fields origin at rtype index (kinds fields) done words ≡ Ok (done ++ words)
no_fields origin at rtype index [] done words few = refl
no_fields origin at rtype index (field ∷ fields) done words few = absurd (omega arith)

-- completing that goes on
pub goes_on : (whole first : Completed) (after : Texts → Completed) (more : Texts) (found : Option ℕ) → whole ≡ and_then first after → first ≡ Ok more → FindsRelative (after more) found
    → FindsRelative whole found
goes_on whole first after more found split is rest = subst (λ (done : Completed). FindsRelative done found) (sym (split ∙ ap (λ (done : Completed). and_then done after) is)) rest

-- completing that ends
pub ends_here : (whole first : Completed) (after : Texts → Completed) (index : ℕ) → whole ≡ and_then first after → first ≡ Err index → whole ≡ Err index
ends_here whole first after index split is = split ∙ ap (λ (done : Completed). and_then done after) is

-- RDATA by its octets
pub data_marked : (origin : Option (List ℕ)) (at rtype : ℕ) (done words : Texts) (marked : Bool) → marked ≡ is_marked words → marked ≡ true
    → completed_data origin at rtype done words ≡ Ok (done ++ words)
data_marked origin at rtype done words marked is on = ap (λ (b : Bool). if b then kept_words done words else completed_fields origin at rtype 0 (kinds_of rtype) done words) (sym is ∙ on)

-- RDATA by its fields
pub data_fields : (origin : Option (List ℕ)) (at rtype : ℕ) (done words : Texts) (marked : Bool) → marked ≡ is_marked words → marked ≡ false
    → completed_data origin at rtype done words ≡ completed_fields origin at rtype 0 (kinds_of rtype) done words
data_fields origin at rtype done words marked is off = ap (λ (b : Bool). if b then kept_words done words else completed_fields origin at rtype 0 (kinds_of rtype) done words) (sym is ∙ off)

-- The owner.

module _ (defaults : Defaults) (named : Bool) (words : Words) where
  -- an owner that was given before
  pub owner_some : (name : ParsedName) → named ≡ false → defaults.owner ≡ Some name → (owner : List ℕ) × (owner_of defaults named (texts words) ≡ Ok (owner, texts words))
  owner_some name off some = (zone_name_text (labels name), owner_given defaults named (Some (zone_name_text (labels name))) (texts words) off (sym (ap text_of_name some)))

  -- no owner
  pub owner_none : named ≡ false → defaults.owner ≡ None → owner_of defaults named (texts words) ≡ Err (0, NoOwner)
  owner_none off none = owner_given defaults named None (texts words) off (sym (ap text_of_name none))

  -- no word
  pub owner_missing : named ≡ true → length words < 1 → owner_of defaults named (texts words) ≡ Err (0, Missing)
  owner_missing on few = sym (owner_named defaults named (text_of_name defaults.origin) (texts words) on refl) ∙ named_empty (text_of_name defaults.origin) words few

  module _ (after : Words) (d : Bor (List ℕ)) (on : named ≡ true) (some : 1 ≤ length words) (rest : after ≡ drop 1 words) where
    -- the first word, completed
    abbrev first_word : Option (List ℕ)
    first_word = completed_name (text_of_name defaults.origin) (get_or words 0 d).now

    by_first_word : owner_of defaults named (texts words) ≡ owner_or Relative (texts after) first_word
    by_first_word =
        sym (owner_named defaults named (text_of_name defaults.origin) (texts words) on refl) ∙ named_first (text_of_name defaults.origin) words after d some rest

    -- a first word that is a relative name
    pub owner_relative : is_none first_word ≡ true → owner_of defaults named (texts words) ≡ Err (0, Relative)
    owner_relative none = by_first_word ∙ by_case first_word none where
      by_case : (word : Option (List ℕ)) → is_none word ≡ true → owner_or Relative (texts after) word ≡ Err (0, Relative)
      by_case None e = refl
      by_case (Some word) e = absurd (cc e)

    -- a first word that is a complete name
    pub owner_complete : is_none first_word ≡ false → (owner : List ℕ) × (owner_of defaults named (texts words) ≡ Ok (owner, texts after))
    owner_complete is =
        let found = by_case first_word is in
        (found.0, by_first_word ∙ found.1)
      where
        by_case : (word : Option (List ℕ)) → is_none word ≡ false → (owner : List ℕ) × (owner_or Relative (texts after) word ≡ Ok (owner, texts after))
        by_case None e = absurd (cc e)
        by_case (Some word) e = (word, refl)

-- The line.

-- RDATA that can be completed, or a relative name in it
pub after_data : (Is : Outcome → Type 0) (at : ℕ) (done : Completed) (found : Option ℕ) → ((completed : Completed) → done ≡ completed → Is (outcome_at at completed)) → FindsRelative done found
    → FindsProblem Is (option_map (λ index. (index, Relative)) found)
after_data Is at done None is (words, complete) = (at, words, is (Ok words) complete)
after_data Is at done (Some index) is bad = is (Err index) bad

module _ (defaults : Defaults) (named : Bool) (words : Words) where
  -- a line whose owner is found
  pub line_problem : (owner : List ℕ) (after : Texts) (found : Option Problem) → owner_of defaults named (texts words) ≡ Ok (owner, after)
      → FindsProblem (IsAfterOwner defaults (length words) owner after) found → FindsProblem (IsLine defaults named (texts words)) found
  line_problem owner after None is (at, completed, done) = (at, completed, line_is defaults named words owner after (Ok (at, completed)) is done)
  line_problem owner after (Some problem) is bad = line_is defaults named words owner after (Err problem) is bad
