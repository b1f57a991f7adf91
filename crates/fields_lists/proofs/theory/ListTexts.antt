-- Texts of several words.
use Rattle.std.proofs.Common.{◌≡◌, ℕ, zero, suc, ◌+◌, ◌*◌, ◌%◌, ◌^◌, ◌<◌, List, [], ◌∷◌, length, take, drop, refl, subst, arith}
use Rattle.std.specs.Prelude.{All, Option, Some, None, codes, map, nat_le}
use Rattle.std.specs.Option.{option_map_or}
use Rattle.std.proofs.lemmas.List.Elements.{All-cons, All-head, All-nil, All-tail}
use Rattle.hex.specs.Hex.{IsBytes}
use Rattle.fields_text.specs.String.{quoted}
use Rattle.fields_lists.specs.Prefixes.{prefixes_text, has_word, prefix_text, prefix_word}
use Rattle.fields_lists.specs.Strings.{strings_text, strings_of}
use Rattle.fields_lists.specs.Items.{items_in}
use Rattle.fields_lists.specs.PrefixItems.{PrefixItem, prefix_at, prefixes_of}
use Rattle.fields_text.specs.Separated.{spaced_if_all}
use Rattle.fields_lists.specs.TypeMaps.{types_text}
use Rattle.fields_plain.specs.TypeNames.{type_word}
use Rattle.fields_text.specs.LineWords.{EndsWord, IsWord}
use Rattle.fields_text.proofs.theory.ByteLemmas.{bytes_take, bytes_drop}
use Rattle.fields_text.proofs.theory.SpacedTexts.{AreSpaced, items_are, spaced_are, appended}
use Rattle.fields_text.proofs.theory.SpacedTexts.AreSpaced.{nothing as no_words, space, word}
use Rattle.fields_text.proofs.theory.WordTexts.{quoted_word}
use Rattle.fields_lists.proofs.theory.Words.{prefix_is_word}
use Rattle.fields_plain.proofs.theory.Words.{type_is_word}
use Rattle.fields_text.proofs.theory.Options.{some_same}

-- character strings
strings_words : (strings : List (List ℕ)) → All IsWord (map quoted strings)
strings_words [] = All-nil IsWord
strings_words (string ∷ strings) = All-cons IsWord (quoted string) (map quoted strings) (quoted_word string) (strings_words strings)

-- The text of strings is split into each, in quotes.
pub strings_split : (octets : List ℕ) → AreSpaced (strings_text octets) (map quoted (strings_of octets))
strings_split octets = (spaced_are (map quoted (strings_of octets)) (strings_words (strings_of octets)))

-- record types
types_words : (types : List ℕ) → All (λ n. n < 2 ^ 16) types → All (λ n. IsWord (type_word n)) types
types_words [] all = All-nil (λ n. IsWord (type_word n))
types_words (n ∷ types) all =
    All-cons (λ n. IsWord (type_word n)) n types (type_is_word n (All-head (λ n. n < 2 ^ 16) n types all)) (types_words types (All-tail (λ n. n < 2 ^ 16) n types all))

-- The text of types is split into the word of each.
pub types_split : (types : List ℕ) → All (λ n. n < 2 ^ 16) types → AreSpaced (types_text types) (map type_word types)
types_split types all = (items_are type_word types (types_words types all))

-- the items of octets, if the octets after each item are as those before it
abbrev pub Steps : {A : Type 0} → (A → Type 0) → (List ℕ → Type 0) → (List ℕ → Option (A × List ℕ)) → Type 0
Steps {A} P Q item_at = (octets after : List ℕ) (item : A) → Q octets → item_at octets ≡ Some (item, after) → P item × Q after

first_all : {A : Type 0} (P : A → Type 0) (Q : List ℕ → Type 0) (item_at : List ℕ → Option (A × List ℕ)) → Steps P Q item_at → (count : ℕ) (octets : List ℕ) → Q octets
    → ((after : List ℕ) → Q after → All P (items_in item_at count after))
    → (o : Option (A × List ℕ)) → item_at octets ≡ o → All P (option_map_or (λ first. first.0 ∷ items_in item_at count first.1) o [])
first_all P Q item_at steps count octets own later None e = All-nil P
first_all P Q item_at steps count octets own later (Some (item, after)) e =
    let step = steps octets after item own e in All-cons P item (items_in item_at count after) step.0 (later after step.1)

-- What holds of each item holds of all.
pub items_all : {A : Type 0} (P : A → Type 0) (Q : List ℕ → Type 0) (item_at : List ℕ → Option (A × List ℕ)) → Steps P Q item_at → (count : ℕ) (octets : List ℕ)
    → Q octets → All P (items_in item_at count octets)
items_all P Q item_at steps zero octets own = All-nil P
items_all P Q item_at steps (suc count) octets own =
    first_all P Q item_at steps count octets own (items_all P Q item_at steps count) (item_at octets) refl

-- prefixes
abbrev IsPrefix : PrefixItem → Type 0
IsPrefix item = IsBytes item.address × (item.family < 2 ^ 16) × (item.size < 256)

prefix_steps : Steps IsPrefix IsBytes prefix_at
prefix_steps [] after item bytes e = absurd (cc e)
prefix_steps (a ∷ []) after item bytes e = absurd (cc e)
prefix_steps (a ∷ b ∷ []) after item bytes e = absurd (cc e)
prefix_steps (a ∷ b ∷ c ∷ []) after item bytes e = absurd (cc e)
prefix_steps (high ∷ low ∷ size ∷ bits ∷ octets) after item bytes e =
    let own : PrefixItem = record { family = high * 256 + low; size = size; negated = nat_le 128 bits; address = take (bits % 128) octets } in
    let left : PrefixItem × List ℕ = (own, drop (bits % 128) octets) in
    let right : PrefixItem × List ℕ = (item, after) in
    let same : left ≡ right = some_same left right e in
    let upper : high < 256 = bytes 0 in
    let lower : low < 256 = bytes 1 in
    let small : size < 256 = bytes 2 in
    let rest : IsBytes octets = λ i. bytes (suc (suc (suc (suc i)))) in
    let here : IsPrefix own = (bytes_take (bits % 128) octets rest, omega arith, small) in (
      subst (λ (p : PrefixItem × List ℕ). IsPrefix p.0) same here,
      subst (λ (p : PrefixItem × List ℕ). IsBytes p.1) same (bytes_drop (bits % 128) octets rest),
    )

prefix_of : (item : PrefixItem) → IsPrefix item → IsWord (prefix_text item)
prefix_of item is = prefix_is_word item is.0 is.1 is.2

others_split : (items : List PrefixItem) (text : List ℕ) → All IsPrefix items → spaced_if_all (codes " ") (map prefix_word items) ≡ Some text
    → AreSpaced text (map prefix_text items) × EndsWord text
others_split [] text all e =
    let none : List ℕ = [] in
    let same : none ≡ text = some_same none text e in
    (subst (λ (xs : List ℕ). AreSpaced xs []) same no_words, subst EndsWord same tt)
others_split (item ∷ items) text all e =
    let parts = appended (codes " ") (prefix_text item) (has_word item) (spaced_if_all (codes " ") (map prefix_word items)) text e in
    let rest = others_split items parts.0 (All-tail IsPrefix item items all) parts.1 in
    let here = prefix_of item (All-head IsPrefix item items all) in (
      subst (λ (xs : List ℕ). AreSpaced xs (map prefix_text (item ∷ items))) parts.2 (space (word (prefix_text item) here rest.1 rest.0)),
      subst EndsWord parts.2 refl,
    )

all_split : (items : List PrefixItem) (text : List ℕ) → All IsPrefix items → spaced_if_all [] (map prefix_word items) ≡ Some text → AreSpaced text (map prefix_text items)
all_split [] text all e =
    let none : List ℕ = [] in
    let same : none ≡ text = some_same none text e in
    subst (λ (xs : List ℕ). AreSpaced xs []) same no_words
all_split (item ∷ items) text all e =
    let parts = appended [] (prefix_text item) (has_word item) (spaced_if_all (codes " ") (map prefix_word items)) text e in
    let rest = others_split items parts.0 (All-tail IsPrefix item items all) parts.1 in
    let here = prefix_of item (All-head IsPrefix item items all) in
    subst (λ (xs : List ℕ). AreSpaced xs (map prefix_text (item ∷ items))) parts.2 (word (prefix_text item) here rest.1 rest.0)

-- The text of address prefixes is split into the word of each.
pub prefixes_split : (octets text : List ℕ) → IsBytes octets → prefixes_text octets ≡ Some text → AreSpaced text (map prefix_text (prefixes_of octets))
prefixes_split octets text bytes e =
    (all_split (prefixes_of octets) text (items_all IsPrefix IsBytes prefix_at prefix_steps (length octets) octets bytes) e)
