-- The words of a line. RFC 1035 section 5.1.
use Rattle.std.specs.Prelude.{◌≡◌, ◌⊎◌, ◌↔◌, ℕ, ◌+◌, ◌-◌, ◌<◌, ◌≤◌, ◌==◌, ◌&&◌, ◌||◌, not, Bool, true, false, if◌then◌else◌, length, map, List, [], ◌∷◌, ◌++◌, Result, MatchResult}
use Rattle.std.specs.Borrow.{Bor}
use Rattle.std.specs.Global.{Vec}
use Rattle.fields_text.specs.String.{quote, backslash}
use Rattle.fields_text.specs.declared.line_words.Left.{Left}
use Rattle.fields_text.specs.declared.text_error.TextError.{TextError}
use Rattle.fields_text.specs.declared.text_error.TextError.TheVariants.{BadWord, OutOfMemory}

-- the ASCII codes of a semicolon, a newline and parentheses
abbrev pub semicolon : ℕ
semicolon = 0x3b

abbrev pub newline : ℕ
newline = 0x0a

abbrev pub left_parenthesis : ℕ
left_parenthesis = 0x28

abbrev pub right_parenthesis : ℕ
right_parenthesis = 0x29

-- a space, a tab or a carriage return
abbrev pub is_blank : ℕ → Bool
is_blank c = (c == 0x20) || (c == 0x09) || (c == 0x0d)

-- whether a character ends a word outside of quotes: a blank, a newline, a parenthesis, or a semicolon, which begins a comment
abbrev pub ends_word : ℕ → Bool
ends_word c = is_blank c || (c == newline) || (c == left_parenthesis) || (c == right_parenthesis) || (c == semicolon)

-- whether a character stands for itself, within quotes or outside of them
abbrev pub is_plain : Bool → ℕ → Bool
is_plain quoted c = not ((c == quote) || (c == backslash)) && (quoted || not (ends_word c))

-- The rest of a word, from within quotes or from outside of them. Outside it may be nothing. Else it begins with a plain character, with a backslash and any
-- character, or with a quote, which opens or closes the quotes.
pub data IsRest : Bool → List ℕ → Type 0 where
  nothing : IsRest false []
  plain : {quoted : Bool} {c : ℕ} {rest : List ℕ} → is_plain quoted c ≡ true → IsRest quoted rest → IsRest quoted (c ∷ rest)
  escaped : {quoted : Bool} {c : ℕ} {rest : List ℕ} → IsRest quoted rest → IsRest quoted (backslash ∷ c ∷ rest)
  turned : {quoted : Bool} {rest : List ℕ} → IsRest (not quoted) rest → IsRest quoted (quote ∷ rest)

-- the rest of a string in quotes, up to its closing quote: plain characters, and backslashes, each with any character
pub data IsString : List ℕ → Type 0 where
  closed : IsString (quote ∷ [])
  plain : {c : ℕ} {rest : List ℕ} → is_plain true c ≡ true → IsString rest → IsString (c ∷ rest)
  escaped : {c : ℕ} {rest : List ℕ} → IsString rest → IsString (backslash ∷ c ∷ rest)

-- whether a text begins with a quote
abbrev pub begins_string : List ℕ → Bool
begins_string [] = false
begins_string (c ∷ text) = c == quote

-- a word: a string in quotes, or some characters that begin with no quote and end outside of quotes
pub data IsWord : List ℕ → Type 0 where
  string : {rest : List ℕ} → IsString rest → IsWord (quote ∷ rest)
  bare : {word : List ℕ} → 0 < length word → begins_string word ≡ false → IsRest false word → IsWord word

-- a text that may follow a word that isn't in quotes: none, or one that begins with a character that ends a word
abbrev pub EndsWord : List ℕ → Type 0
EndsWord [] = Unit {0}
EndsWord (c ∷ text) = ends_word c ≡ true

-- A word at the start of a text, and the text after it. Any text may follow a string in quotes.
pub record SplitsWord (text word after : List ℕ) : Type 0 where
  pub whole : text ≡ word ++ after
  pub is : IsWord word
  pub ends : begins_string word ≡ false → EndsWord after

-- the text from its first newline on; nothing if it has none
abbrev pub from_newline : List ℕ → List ℕ
from_newline [] = []
from_newline (c ∷ text) = if c == newline then c ∷ text else from_newline text

-- The words of a text after parentheses, of which `depth` are open. At the end of the text none is open. A blank is no word, and neither is a comment, which a
-- semicolon begins and the next newline ends. No word follows a newline, unless a parenthesis is open. Else the text begins with a parenthesis or with a word.
pub data AreWordsWithin : ℕ → List ℕ → List (List ℕ) → Type 0 where
  none : AreWordsWithin 0 [] []
  blank : {depth c : ℕ} {text : List ℕ} {words : List (List ℕ)} → is_blank c ≡ true → AreWordsWithin depth text words → AreWordsWithin depth (c ∷ text) words
  comment : {depth : ℕ} {text : List ℕ} {words : List (List ℕ)} → AreWordsWithin depth (from_newline text) words → AreWordsWithin depth (semicolon ∷ text) words
  line_end : {depth : ℕ} {text : List ℕ} {words : List (List ℕ)} → (depth ≡ 0 → words ≡ []) → AreWordsWithin depth text words → AreWordsWithin depth (newline ∷ text) words
  opened : {depth : ℕ} {text : List ℕ} {words : List (List ℕ)} → AreWordsWithin (depth + 1) text words → AreWordsWithin depth (left_parenthesis ∷ text) words
  closed : {depth : ℕ} {text : List ℕ} {words : List (List ℕ)} → 0 < depth → AreWordsWithin (depth - 1) text words → AreWordsWithin depth (right_parenthesis ∷ text) words
  more : {depth : ℕ} {text word after : List ℕ} {words : List (List ℕ)} → SplitsWord text word after → AreWordsWithin depth after words → AreWordsWithin depth text (word ∷ words)

-- the words of a line
abbrev pub AreWordsOf : List ℕ → List (List ℕ) → Type 0
AreWordsOf line words = AreWordsWithin 0 line words

-- the texts of words
abbrev pub texts : List (Bor (List ℕ)) → List (List ℕ)
texts words = map (λ word. word.now) words

-- The words of the line. Else `BadWord` if it has none, or `OutOfMemory` if an allocation fails.
abbrev pub SplitsWords : List ℕ → Result (Vec (Bor (List ℕ))) TextError → Type 0
SplitsWords line result =
    MatchResult result (λ words. AreWordsOf line (texts words.items))
    (λ error. (error ≡ OutOfMemory) ⊎ ((error ≡ BadWord) × ((words : List (List ℕ)) → ¬ AreWordsOf line words)))

-- the rest of a word at the start of a text, and the text after it
pub record SplitsRest (text word after : List ℕ) : Type 0 where
  pub whole : text ≡ word ++ after
  pub rest : IsRest false word
  pub ends : EndsWord after

-- the rest of a string in quotes at the start of a text, and the text after it
pub record SplitsString (text word after : List ℕ) : Type 0 where
  pub whole : text ≡ word ++ after
  pub string : IsString word

-- the words of what is left of a line; none if the line has ended
abbrev pub AreWordsLeft : Left → List (List ℕ) → Type 0
AreWordsLeft left words = AreWordsWithin left.depth left.text.now words × (left.ended ≡ true → words ≡ [])

-- a text that is empty, or begins with a word, or with a parenthesis that closes none
abbrev pub BeginsNoBlank : ℕ → List ℕ → Type 0
BeginsNoBlank depth [] = Unit {0}
BeginsNoBlank depth (c ∷ text) = (ends_word c ≡ false) ⊎ ((c ≡ right_parenthesis) × (depth ≡ 0))

-- less text with the same words
pub record SkipsBlank (left after : Left) : Type 0 where
  pub same : (words : List (List ℕ)) → AreWordsLeft left words ↔ AreWordsLeft after words
  pub shorter : length after.text.now < length left.text.now
  pub fits : after.depth + length after.text.now ≤ left.depth + length left.text.now

-- no more text, with the same words, where no blank is left to skip
pub record SkipsBlanks (left after : Left) : Type 0 where
  pub same : (words : List (List ℕ)) → AreWordsLeft left words ↔ AreWordsLeft after words
  pub begins : BeginsNoBlank after.depth after.text.now
  pub shorter : length after.text.now ≤ length left.text.now
  pub fits : after.depth + length after.text.now ≤ left.depth + length left.text.now

-- the word of octets, if there are any
abbrev pub word_of_any : (List ℕ → List ℕ) → List ℕ → List (List ℕ)
word_of_any text [] = []
word_of_any text (x ∷ xs) = text (x ∷ xs) ∷ []
