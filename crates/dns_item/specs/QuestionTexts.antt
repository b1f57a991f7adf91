-- Questions as texts, a profile of the master file format. RFC 1035 section 5.1.
use Rattle.std.specs.Prelude.{ℕ, ◌<◌, List, [], ◌∷◌, ◌++◌, length, Result, Ok, Err, ◌≡◌, Option, Some, None}
use Rattle.std.specs.Char.{is_whitespace, is_not_whitespace}
use Rattle.std.specs.Str.{NoCharPasses, EmptyOrStartsWithPassing, IsUtf8}
use Rattle.std.specs.Borrow.{Bor}
use Rattle.dns_octets.specs.declared.octets.Octets.{Ghosts}
use Rattle.dns_name.specs.Names.{Labels}
use Rattle.dns_name.specs.NameTexts.{SpellsName, NameTextFault}
use Rattle.dns_name.specs.declared.name_error.PresentationError.{PresentationError as NamePresentationError}
use Rattle.dns_name.specs.declared.name_error.FromStrError.{FromStrError as NameError}
use Rattle.dns_name.specs.declared.name_error.FromStrError.TheVariants.{Presentation as NamePresentation, ShortBuf as NameShortBuf, OutOfMemory as NameOutOfMemory}
use Rattle.dns_name.specs.NameReading.{name_labels}
use Rattle.dns_name.specs.declared.name.Name.{Name}
use Rattle.dns_iana.specs.Types.{SpellsType}
use Rattle.dns_iana.specs.Classes.{SpellsClass}
use Rattle.dns_item.specs.Questions.{QuestionItem}
use Rattle.dns_item.specs.declared.question_error.PresentationErrorEnum.{PresentationErrorEnum}
use Rattle.dns_item.specs.declared.question_error.PresentationErrorEnum.TheVariants.{BadName, MissingQname, MissingClassAndQtype, MissingQtype, BadClass, BadQtype, TrailingData}
use Rattle.dns_item.specs.declared.question_error.FromStrError.{FromStrError}
use Rattle.dns_item.specs.declared.question_error.FromStrError.TheVariants.{Presentation, ShortBuf, OutOfMemory}
use Rattle.dns_item.specs.declared.question_error.PresentationError.{PresentationError}
use Rattle.dns_item.specs.Question.{question_item}
use Rattle.dns_item.specs.declared.question.Question.{Question}

-- The words of a text, as in RFC 1035 section 5.1, but separated by Unicode white space.

-- only white space, or nothing
abbrev pub IsGap : List ℕ → Type 0
IsGap text = NoCharPasses is_not_whitespace text

-- at least one character, and none is white space
pub record IsWord (text : List ℕ) : Type 0 where
  pub some : 0 < length text
  pub no_white : NoCharPasses is_whitespace text

-- empty, or beginning with white space
abbrev pub StartsWhite : List ℕ → Type 0
StartsWhite text = (after : List ℕ) × EmptyOrStartsWithPassing is_whitespace text after

-- the words of a text from the left, each as long as possible
pub data AreWords : List ℕ → List (List ℕ) → Type 0 where
  none : {gap : List ℕ} → IsGap gap → AreWords gap []
  word : {gap word text : List ℕ} {words : List (List ℕ)} → IsGap gap → IsWord word → StartsWhite text → AreWords text words → AreWords (gap ++ (word ++ text)) (word ∷ words)

-- the class IN
abbrev pub class_in : ℕ
class_in = 1

-- the word is not the text of a type
abbrev pub SpellsNoType : List ℕ → Type 0
SpellsNoType a = (n : ℕ) → SpellsType a n → ⊥

-- the word is not the text of a class
abbrev pub SpellsNoClass : List ℕ → Type 0
SpellsNoClass a = (n : ℕ) → SpellsClass a n → ⊥

-- the question for a name, a type and a class
abbrev pub asks : Labels → ℕ → ℕ → QuestionItem
asks name rtype class = record { name = name; rtype = rtype; class = class }

-- what words are read as: a question, or what is wrong
abbrev pub Answer : Type 0
Answer = Result QuestionItem PresentationErrorEnum

-- What words are read as: a name, followed by a type, or by a type and a class in either order. The words before the wrong one are right.
pub data ReadsWords : List (List ℕ) → Answer → Type 0 where
  no_name : ReadsWords [] (Err MissingQname)
  bad_name : {a : List ℕ} {more : List (List ℕ)} {f : NamePresentationError} → NameTextFault a f → ReadsWords (a ∷ more) (Err (BadName f))
  name_alone : {a : List ℕ} {name : Labels} → SpellsName a name → ReadsWords (a ∷ []) (Err MissingClassAndQtype)
  class_alone : {a b : List ℕ} {name : Labels} {class : ℕ} → SpellsName a name → SpellsClass b class → ReadsWords (a ∷ b ∷ []) (Err MissingQtype)
  no_type_after_class : {a b c : List ℕ} {more : List (List ℕ)} {name : Labels} {class : ℕ} → SpellsName a name → SpellsClass b class → SpellsNoType c
      → ReadsWords (a ∷ b ∷ c ∷ more) (Err BadQtype)
  class_and_type : {a b c : List ℕ} {name : Labels} {rtype class : ℕ} → SpellsName a name → SpellsClass b class → SpellsType c rtype
      → ReadsWords (a ∷ b ∷ c ∷ []) (Ok (asks name rtype class))
  neither : {a b : List ℕ} {more : List (List ℕ)} {name : Labels} → SpellsName a name → SpellsNoClass b → SpellsNoType b
      → ReadsWords (a ∷ b ∷ more) (Err BadQtype)
  type_alone : {a b : List ℕ} {name : Labels} {rtype : ℕ} → SpellsName a name → SpellsNoClass b → SpellsType b rtype
      → ReadsWords (a ∷ b ∷ []) (Ok (asks name rtype class_in))
  no_class_after_type : {a b c : List ℕ} {more : List (List ℕ)} {name : Labels} {rtype : ℕ} → SpellsName a name → SpellsNoClass b → SpellsType b rtype → SpellsNoClass c
      → ReadsWords (a ∷ b ∷ c ∷ more) (Err BadClass)
  type_and_class : {a b c : List ℕ} {name : Labels} {rtype class : ℕ} → SpellsName a name → SpellsNoClass b → SpellsType b rtype → SpellsClass c class
      → ReadsWords (a ∷ b ∷ c ∷ []) (Ok (asks name rtype class))
  trailing : {a b c d : List ℕ} {more : List (List ℕ)} {x : QuestionItem} → ReadsWords (a ∷ b ∷ c ∷ []) (Ok x) → ReadsWords (a ∷ b ∷ c ∷ d ∷ more) (Err TrailingData)

-- a text is read as its words are
pub record ReadsText (text : List ℕ) (answer : Answer) : Type 0 where
  pub words : List (List ℕ)
  pub are_words : AreWords text words
  pub reads : ReadsWords words answer

-- Theorems over all texts of questions.

-- every text is read as a question or an error
abbrev pub EachTextRead : Type 0
EachTextRead = (text : List ℕ) → IsUtf8 text → (answer : Answer) × ReadsText text answer

-- and as only one
abbrev pub OneTextResult : Type 0
OneTextResult = (text : List ℕ) (x y : Answer) → ReadsText text x → ReadsText text y → x ≡ y

-- the same of every list of words
abbrev pub EachWordsRead : Type 0
EachWordsRead = (words : List (List ℕ)) → (answer : Answer) × ReadsWords words answer

abbrev pub OneWordsResult : Type 0
OneWordsResult = (words : List (List ℕ)) (x y : Answer) → ReadsWords words x → ReadsWords words y → x ≡ y

-- What reading questions from texts returns. RFC 1035 section 5.1.

-- The errors of reading a question from a text. RFC 1035 section 5.1.

-- what is wrong
abbrev pub kind_of : PresentationError → PresentationErrorEnum
kind_of error = error.0

-- the error says that this is wrong with the text
abbrev pub IsKind : PresentationErrorEnum → FromStrError → Type 0
IsKind kind e = (error : PresentationError) × (e ≡ Presentation error) × (kind_of error ≡ kind)

-- the error of a question whose name has this error
abbrev pub IsErrorOfName : NameError → FromStrError → Type 0
IsErrorOfName (NamePresentation fault) e = IsKind (BadName fault) e
IsErrorOfName NameShortBuf e = e ≡ ShortBuf
IsErrorOfName NameOutOfMemory e = e ≡ OutOfMemory

-- a type and a class, or what is wrong with their words
abbrev pub Fields : Type 0
Fields = Result (ℕ × ℕ) PresentationErrorEnum

-- the result of a name and the fields after it
abbrev pub named : Labels → Fields → Answer
named name (Ok (rtype, class)) = Ok (asks name rtype class)
named name (Err f) = Err f

-- after every word that is the text of a name, the words are read as these fields
abbrev pub ReadsAfterName : List (List ℕ) → Fields → Type 0
ReadsAfterName words fields = (a : List ℕ) (name : Labels) → SpellsName a name → ReadsWords (a ∷ words) (named name fields)

-- What the second word and the third, if there is one, are read as. If three words are wrong, they are so whatever words follow.
abbrev pub ReadsFields : List ℕ → Option (Bor (List ℕ)) → Fields → Type 0
ReadsFields b None fields = ReadsAfterName (b ∷ []) fields
ReadsFields b (Some c) (Ok x) = ReadsAfterName (b ∷ c.now ∷ []) (Ok x)
ReadsFields b (Some c) (Err f) = (more : List (List ℕ)) → ReadsAfterName (b ∷ c.now ∷ more) (Err f)

-- what the text after the first word is read as
abbrev pub ReadsTextAfterName : List ℕ → Fields → Type 0
ReadsTextAfterName text fields = IsUtf8 text → (words : List (List ℕ)) × AreWords text words × ReadsAfterName words fields

-- the text is read as a question
abbrev pub ReadsSomeQuestion : List ℕ → Type 0
ReadsSomeQuestion text = (x : QuestionItem) × ReadsText text (Ok x)

-- The error says what is wrong with the text, or it is `OutOfMemory`, only if `Memory` holds. It is never `ShortBuf`.
abbrev pub ReadsFault : Type 0 → List ℕ → FromStrError → Type 0
ReadsFault Memory text (Presentation error) = ReadsText text (Err (kind_of error))
ReadsFault Memory text ShortBuf = ⊥
ReadsFault Memory text OutOfMemory = Memory

-- the question that the text is read as, or the error
abbrev pub ReadsQuestionText : {X : Type 0} {buffer : Ghosts X} → Type 0 → List ℕ → Result (Question (Name X buffer)) FromStrError → Type 0
ReadsQuestionText Memory text (Ok question) = ReadsText text (Ok (question_item name_labels question))
ReadsQuestionText Memory text (Err e) = ReadsFault Memory text e
