-- From what the words are read as to what the text is read as.
use Rattle.std.proofs.Common.{◌≡◌, ℕ, List, Bor, sym, subst, ◌∷◌, ap, ◌∙◌}
use Rattle.std.specs.Prelude.{Option, Some, None, Result, Ok, Err}
use Rattle.std.specs.Str.{IsUtf8}
use Rattle.std.specs.Str.Iter.{split_whitespace_rest, split_whitespace_steps}
use Rattle.std.specs.declared.str.SplitWhitespace.{SplitWhitespace}
use Rattle.dns_name.specs.Names.{Labels}
use Rattle.dns_name.specs.NameTexts.{SpellsName, NameTextFault}
use Rattle.dns_name.specs.declared.name_error.FromStrError.{FromStrError as NameError}
use Rattle.dns_name.specs.declared.name_error.FromStrError.TheVariants.{Presentation as NamePresentation, ShortBuf as NameShortBuf, OutOfMemory as NameOutOfMemory}
use Rattle.dns_iana.specs.Classes.{SpellsClass}
use Rattle.dns_iana.specs.NumberTexts.{ReadsNumber}
use Rattle.dns_iana.specs.Types.{SpellsType}
use Rattle.dns_item.specs.QuestionTexts.{ReadsFields, SpellsNoClass, SpellsNoType, IsErrorOfName, IsKind, Fields, ReadsFault, ReadsTextAfterName, named, ReadsText, asks, AreWords}
use Rattle.dns_item.specs.QuestionTexts.ReadsWords.{class_alone, no_type_after_class, class_and_type, neither, type_alone, no_class_after_type, type_and_class, bad_name}
use Rattle.dns_item.specs.declared.question_error.PresentationErrorEnum.TheVariants.{MissingQtype, BadClass, BadQtype, BadName}
use Rattle.dns_item.specs.Question.{qname_of, qtype_of, qclass_of, question_item}
use Rattle.dns_item.specs.declared.question.Question.{Question}
use Rattle.dns_item.specs.declared.question_error.FromStrError.{FromStrError}
use Rattle.dns_item.specs.declared.question_error.PresentationErrorEnum.{PresentationErrorEnum}
use Rattle.dns_item.proofs.WordLemmas.{word_before, utf8_after, some_words}

-- What the words for a type and a class are read as.

-- a text that is read as a number is a text of that number
pub spelled : {E : Type 0} (P : ℕ → Type 0) (r : Result ℕ E) (n : ℕ) → ReadsNumber P r → r ≡ Ok n → P n
spelled P r n h e = (h n).1 e

-- a text that is read as an error is the text of no number
pub unspelled : {E : Type 0} (P : ℕ → Type 0) (r : Result ℕ E) (f : E) → ReadsNumber P r → r ≡ Err f → (n : ℕ) → P n → ⊥
unspelled P r f h e n p = let read : r ≡ Ok n = (h n).0 p in cc

module _ (b : List ℕ) where
  -- if the second word is a class and there is no third, the error is `MissingQtype`
  pub read_class_alone : (o : Option (Bor (List ℕ))) (class : ℕ) → o ≡ None → SpellsClass b class → ReadsFields b o (Err MissingQtype)
  read_class_alone o class e h = subst (λ o'. ReadsFields b o' (Err MissingQtype)) (sym e) (λ a name s. class_alone {name = name} {class = class} s h)

  -- if the second word is a class and the third is no type, the error is `BadQtype`
  pub read_class_without_type : (o : Option (Bor (List ℕ))) (c : Bor (List ℕ)) (class : ℕ) → o ≡ Some c → SpellsClass b class → SpellsNoType c.now → ReadsFields b o (Err BadQtype)
  read_class_without_type o c class e h n = subst (λ o'. ReadsFields b o' (Err BadQtype)) (sym e) (λ more a name s. no_type_after_class {name = name} {class = class} s h n)

  -- if the second word is a class and the third is a type, the text has this type and this class
  pub read_class_and_type : (o : Option (Bor (List ℕ))) (c : Bor (List ℕ)) (rtype class : ℕ) → o ≡ Some c → SpellsClass b class → SpellsType c.now rtype
      → ReadsFields b o (Ok (rtype, class))
  read_class_and_type o c rtype class e h t = subst (λ o'. ReadsFields b o' (Ok (rtype, class))) (sym e) (λ a name s. class_and_type {name = name} {rtype = rtype} {class = class} s h t)

  -- if the second word is neither a class nor a type, the error is `BadQtype`
  pub read_neither : (o : Option (Bor (List ℕ))) → SpellsNoClass b → SpellsNoType b → ReadsFields b o (Err BadQtype)
  read_neither None n t = λ a name s. neither {name = name} s n t
  read_neither (Some c) n t = λ more a name s. neither {name = name} s n t

  -- if the second word is a type and no class, and there is no third, the text has this type and class IN
  pub read_type_alone : (o : Option (Bor (List ℕ))) (rtype : ℕ) → o ≡ None → SpellsNoClass b → SpellsType b rtype → ReadsFields b o (Ok (rtype, 1))
  read_type_alone o rtype e n t = subst (λ o'. ReadsFields b o' (Ok (rtype, 1))) (sym e) (λ a name s. type_alone {name = name} {rtype = rtype} s n t)

  -- if the second word is a type and no class, and the third is no class, the error is `BadClass`
  pub read_type_without_class : (o : Option (Bor (List ℕ))) (c : Bor (List ℕ)) (rtype : ℕ) → o ≡ Some c → SpellsNoClass b → SpellsType b rtype → SpellsNoClass c.now
      → ReadsFields b o (Err BadClass)
  read_type_without_class o c rtype e n t m = subst (λ o'. ReadsFields b o' (Err BadClass)) (sym e) (λ more a name s. no_class_after_type {name = name} {rtype = rtype} s n t m)

  -- if the second word is a type and no class, and the third is a class, the text has this type and this class
  pub read_type_and_class : (o : Option (Bor (List ℕ))) (c : Bor (List ℕ)) (rtype class : ℕ) → o ≡ Some c → SpellsNoClass b → SpellsType b rtype → SpellsClass c.now class
      → ReadsFields b o (Ok (rtype, class))
  read_type_and_class o c rtype class e n t h = subst (λ o'. ReadsFields b o' (Ok (rtype, class))) (sym e) (λ a name s. type_and_class {name = name} {rtype = rtype} {class = class} s n t h)

-- a question with these fields as a value
pub question_item_is : {N : Type 0} (labels_of : N → Labels) (q : Question N) (n : N) (rtype class : ℕ) → qname_of q ≡ n → qtype_of q ≡ rtype → qclass_of q ≡ class
    → question_item labels_of q ≡ asks (labels_of n) rtype class
question_item_is labels_of q n rtype class e f g =
    ap (λ m. asks (labels_of m) (qtype_of q) (qclass_of q)) e ∙ ap (λ t. asks (labels_of n) t (qclass_of q)) f ∙ ap (λ c. asks (labels_of n) rtype c) g

-- the error says what is wrong with the text
pub returns_kind : (Memory : Type 0) (text : List ℕ) (kind : PresentationErrorEnum) (e : FromStrError) → IsKind kind e → ReadsText text (Err kind) → ReadsFault Memory text e
returns_kind Memory text kind e h reads = subst (λ e'. ReadsFault Memory text e') (sym h.1) (subst (λ k. ReadsText text (Err k)) (sym h.2) reads)

-- why a word is not the text of a name
abbrev NoName : List ℕ → NameError → Type 0
NoName word (NamePresentation f) = NameTextFault word f
NoName word NameShortBuf = ⊥
NoName word NameOutOfMemory = ⊥

module _ (text : List ℕ) (s t : SplitWhitespace) (x : Bor (List ℕ)) (start : split_whitespace_rest s ≡ text) (step : split_whitespace_steps s (Some x) t) (u : IsUtf8 text) where
  -- the words of the text are the first word and those after it
  all_words : (words : List (List ℕ)) → AreWords (split_whitespace_rest t) words → AreWords text (x.now ∷ words)
  all_words words w = subst (λ bs. AreWords bs (x.now ∷ words)) start (word_before s t x words step w)

  after : IsUtf8 (split_whitespace_rest t)
  after = utf8_after s t x step (subst (λ bs. IsUtf8 bs) (sym start) u)

  -- the first word is the text of a name
  pub reads_named : (name : Labels) (fields : Fields) → SpellsName x.now name → ReadsTextAfterName (split_whitespace_rest t) fields → ReadsText text (named name fields)
  reads_named name fields h reads =
      let r = reads after in
      record { words = x.now ∷ r.0; are_words = all_words r.0 r.1; reads = r.2 x.now name h }

  -- the first word is not the text of a name
  pub reads_bad_name : (e : NameError) (f : FromStrError) → NoName x.now e → IsErrorOfName e f → ReadsFault ⊥ text f
  reads_bad_name (NamePresentation fault) f h is =
      let more = some_words (split_whitespace_rest t) after in
      returns_kind ⊥ text (BadName fault) f is (record { words = x.now ∷ more.0; are_words = all_words more.0 more.1; reads = bad_name h })
  reads_bad_name NameShortBuf f h is = absurd h
  reads_bad_name NameOutOfMemory f h is = absurd h
