-- Words are read as exactly one question or error. It is found by deciding what the first, second and third word are texts of.
use Rattle.std.proofs.Common.{◌≡◌, ℕ, ◌↔◌, List, [], ◌∷◌, refl, sym, ap, ◌∙◌, inl, inr, subst}
use Rattle.std.specs.Prelude.{Option, Some, None, Result, Ok, Err}
use Rattle.dns_name.specs.Names.{Labels}
use Rattle.dns_name.specs.NameTexts.{SpellsName, NameTextFault}
use Rattle.dns_name.specs.declared.name_error.PresentationError.{PresentationError}
use Rattle.dns_name.proofs.theory.NameTextFaults.{text_name_or_fault, one_text_fault, text_name_or_fault_not_both, one_text_name}
use Rattle.dns_iana.specs.Classes.{SpellsClass}
use Rattle.dns_iana.specs.Types.{SpellsType}
use Rattle.dns_item.specs.QuestionTexts.{Fields, named, EachTextRead, OneTextResult, EachWordsRead, OneWordsResult, Answer, ReadsWords}
use Rattle.dns_item.specs.QuestionTexts.ReadsWords.{no_name, bad_name, name_alone, class_alone, no_type_after_class, class_and_type, neither, type_alone}
use Rattle.dns_item.specs.QuestionTexts.ReadsWords.{no_class_after_type, type_and_class, trailing}
use Rattle.dns_item.specs.declared.question_error.PresentationErrorEnum.TheVariants.{BadName, MissingQname, MissingClassAndQtype, MissingQtype, BadClass, BadQtype, TrailingData}
use Rattle.dns_item.proofs.WordLemmas.{one_words, some_words}
use Rattle.dns_item.proofs.SpelledNumbers.{type_of, class_of, found, none_found}

-- ---- the first word, as a name

-- the name whose text a word is, or its fault
abbrev IsNameOf : List ℕ → Result Labels PresentationError → Type 0
IsNameOf a (Ok name) = SpellsName a name
IsNameOf a (Err f) = NameTextFault a f

name_of : (a : List ℕ) → (r : Result Labels PresentationError) × IsNameOf a r
name_of a = elim (text_name_or_fault a) [ inl x ↦ (Ok x.0, x.1) | inr x ↦ (Err x.0, x.1) ]

name_is : (a : List ℕ) (r s : Result Labels PresentationError) → IsNameOf a r → IsNameOf a s → r ≡ s
name_is a (Ok m) (Ok n) x y = ap Ok (one_text_name a m n x y)
name_is a (Ok m) (Err f) x y = absurd (text_name_or_fault_not_both a m f x y)
name_is a (Err f) (Ok m) x y = absurd (text_name_or_fault_not_both a m f y x)
name_is a (Err f) (Err g) x y = ap Err (one_text_fault a f g x y)

-- ---- what is found

-- the words after a type and a class
abbrev ended : List (List ℕ) → ℕ → ℕ → Fields
ended [] rtype class = Ok (rtype, class)
ended (d ∷ more) rtype class = Err TrailingData

abbrev type_after : Option ℕ → List (List ℕ) → ℕ → Fields
type_after None more class = Err BadQtype
type_after (Some rtype) more class = ended more rtype class

abbrev class_after : Option ℕ → List (List ℕ) → ℕ → Fields
class_after None more rtype = Err BadClass
class_after (Some class) more rtype = ended more rtype class

abbrev after_class : List (List ℕ) → ℕ → Fields
after_class [] class = Err MissingQtype
after_class (c ∷ more) class = type_after (type_of c).0 more class

abbrev after_type : List (List ℕ) → ℕ → Fields
after_type [] rtype = Ok (rtype, 1)
after_type (c ∷ more) rtype = class_after (class_of c).0 more rtype

-- the second word is a class, or a type, or neither
abbrev fields_by : Option ℕ → Option ℕ → List (List ℕ) → Fields
fields_by (Some class) rtype more = after_class more class
fields_by None (Some rtype) more = after_type more rtype
fields_by None None more = Err BadQtype

abbrev fields_of : List (List ℕ) → Fields
fields_of [] = Err MissingClassAndQtype
fields_of (b ∷ more) = fields_by (class_of b).0 (type_of b).0 more

abbrev result_by : Result Labels PresentationError → List (List ℕ) → Answer
result_by (Ok name) more = named name (fields_of more)
result_by (Err f) more = Err (BadName f)

abbrev result_of : List (List ℕ) → Answer
result_of [] = Err MissingQname
result_of (a ∷ more) = result_by (name_of a).0 more

-- ---- what is read is what is found

named_found : (a : List ℕ) (name : Labels) (more : List (List ℕ)) (fields : Fields) → SpellsName a name → fields_of more ≡ fields → result_of (a ∷ more) ≡ named name fields
named_found a name more fields s e = ap (λ r. result_by r more) (name_is a (name_of a).0 (Ok name) (name_of a).1 s) ∙ ap (named name) e

class_found : (b : List ℕ) (class : ℕ) (more : List (List ℕ)) → SpellsClass b class → fields_of (b ∷ more) ≡ after_class more class
class_found b class more h = ap (λ r. fields_by r (type_of b).0 more) (found (SpellsClass b) (class_of b) class h)

type_found : (b : List ℕ) (rtype : ℕ) (more : List (List ℕ)) → ((n : ℕ) → SpellsClass b n → ⊥) → SpellsType b rtype → fields_of (b ∷ more) ≡ after_type more rtype
type_found b rtype more none h =
    ap (λ r. fields_by r (type_of b).0 more) (none_found (SpellsClass b) (class_of b) none) ∙ ap (λ r. fields_by None r more) (found (SpellsType b) (type_of b) rtype h)

second_type : (c : List ℕ) (rtype class : ℕ) (more : List (List ℕ)) → SpellsType c rtype → after_class (c ∷ more) class ≡ ended more rtype class
second_type c rtype class more h = ap (λ r. type_after r more class) (found (SpellsType c) (type_of c) rtype h)

second_class : (c : List ℕ) (rtype class : ℕ) (more : List (List ℕ)) → SpellsClass c class → after_type (c ∷ more) rtype ≡ ended more rtype class
second_class c rtype class more h = ap (λ r. class_after r more rtype) (found (SpellsClass c) (class_of c) class h)

is_answer : (words : List (List ℕ)) (x : Answer) → ReadsWords words x → result_of words ≡ x
is_answer _ _ no_name = refl
is_answer _ _ (bad_name {a} {more} {f} h) = ap (λ r. result_by r more) (name_is a (name_of a).0 (Err f) (name_of a).1 h)
is_answer _ _ (name_alone {a} {name} s) = named_found a name [] (Err MissingClassAndQtype) s refl
is_answer _ _ (class_alone {a} {b} {name} {class} s h) = named_found a name (b ∷ []) (Err MissingQtype) s (class_found b class [] h)
is_answer _ _ (no_type_after_class {a} {b} {c} {more} {name} {class} s h n) =
    named_found a name (b ∷ c ∷ more) (Err BadQtype) s (class_found b class (c ∷ more) h ∙ ap (λ r. type_after r more class) (none_found (SpellsType c) (type_of c) n))
is_answer _ _ (class_and_type {a} {b} {c} {name} {rtype} {class} s h t) =
    named_found a name (b ∷ c ∷ []) (Ok (rtype, class)) s (class_found b class (c ∷ []) h ∙ second_type c rtype class [] t)
is_answer _ _ (neither {a} {b} {more} {name} s n m) =
    named_found a name (b ∷ more) (Err BadQtype) s
    (ap (λ r. fields_by r (type_of b).0 more) (none_found (SpellsClass b) (class_of b) n) ∙ ap (λ r. fields_by None r more) (none_found (SpellsType b) (type_of b) m))
is_answer _ _ (type_alone {a} {b} {name} {rtype} s n t) = named_found a name (b ∷ []) (Ok (rtype, 1)) s (type_found b rtype [] n t)
is_answer _ _ (no_class_after_type {a} {b} {c} {more} {name} {rtype} s n t m) =
    named_found a name (b ∷ c ∷ more) (Err BadClass) s (type_found b rtype (c ∷ more) n t ∙ ap (λ r. class_after r more rtype) (none_found (SpellsClass c) (class_of c) m))
is_answer _ _ (type_and_class {a} {b} {c} {name} {rtype} {class} s n t h) =
    named_found a name (b ∷ c ∷ []) (Ok (rtype, class)) s (type_found b rtype (c ∷ []) n t ∙ second_class c rtype class [] h)
is_answer _ _ (trailing {d} {more} (class_and_type {a} {b} {c} {name} {rtype} {class} s h t)) =
    named_found a name (b ∷ c ∷ d ∷ more) (Err TrailingData) s (class_found b class (c ∷ d ∷ more) h ∙ second_type c rtype class (d ∷ more) t)
is_answer _ _ (trailing {d} {more} (type_and_class {a} {b} {c} {name} {rtype} {class} s n t h)) =
    named_found a name (b ∷ c ∷ d ∷ more) (Err TrailingData) s (type_found b rtype (c ∷ d ∷ more) n t ∙ second_class c rtype class (d ∷ more) h)

-- ---- what is found is read

module _ (a : List ℕ) (name : Labels) (s : SpellsName a name) where
  none_spelled : (Holds : ℕ → Type 0) → ((n : ℕ) → Holds n ↔ (None ≡ Some n)) → (n : ℕ) → Holds n → ⊥
  none_spelled Holds h n x = let e = (h n).0 x in cc e

  read_after_class : (b : List ℕ) (class : ℕ) (more : List (List ℕ)) → SpellsClass b class → ReadsWords (a ∷ b ∷ more) (named name (after_class more class))
  read_after_class b class [] h = class_alone {name = name} {class = class} s h
  read_after_class b class (c ∷ more) h = by (type_of c).0 (type_of c).1 more
    where
      by : (r : Option ℕ) → ((n : ℕ) → SpellsType c n ↔ (r ≡ Some n)) → (more : List (List ℕ)) → ReadsWords (a ∷ b ∷ c ∷ more) (named name (type_after r more class))
      by None g more = no_type_after_class {name = name} {class = class} s h (none_spelled (SpellsType c) g)
      by (Some rtype) g [] = class_and_type {name = name} {rtype = rtype} {class = class} s h ((g rtype).1 refl)
      by (Some rtype) g (d ∷ more) = trailing (class_and_type {name = name} {rtype = rtype} {class = class} s h ((g rtype).1 refl))

  read_after_type : (b : List ℕ) (rtype : ℕ) (more : List (List ℕ)) → ((n : ℕ) → SpellsClass b n → ⊥) → SpellsType b rtype
      → ReadsWords (a ∷ b ∷ more) (named name (after_type more rtype))
  read_after_type b rtype [] none t = type_alone {name = name} {rtype = rtype} s none t
  read_after_type b rtype (c ∷ more) none t = by (class_of c).0 (class_of c).1 more
    where
      by : (r : Option ℕ) → ((n : ℕ) → SpellsClass c n ↔ (r ≡ Some n)) → (more : List (List ℕ)) → ReadsWords (a ∷ b ∷ c ∷ more) (named name (class_after r more rtype))
      by None g more = no_class_after_type {name = name} {rtype = rtype} s none t (none_spelled (SpellsClass c) g)
      by (Some class) g [] = type_and_class {name = name} {rtype = rtype} {class = class} s none t ((g class).1 refl)
      by (Some class) g (d ∷ more) = trailing (type_and_class {name = name} {rtype = rtype} {class = class} s none t ((g class).1 refl))

  read_after : (more : List (List ℕ)) → ReadsWords (a ∷ more) (named name (fields_of more))
  read_after [] = name_alone {name = name} s
  read_after (b ∷ more) = by (class_of b).0 (class_of b).1 (type_of b).0 (type_of b).1
    where
      by : (r : Option ℕ) → ((n : ℕ) → SpellsClass b n ↔ (r ≡ Some n)) → (t : Option ℕ) → ((n : ℕ) → SpellsType b n ↔ (t ≡ Some n))
          → ReadsWords (a ∷ b ∷ more) (named name (fields_by r t more))
      by (Some class) g t u = read_after_class b class more ((g class).1 refl)
      by None g (Some rtype) u = read_after_type b rtype more (none_spelled (SpellsClass b) g) ((u rtype).1 refl)
      by None g None u = neither {name = name} s (none_spelled (SpellsClass b) g) (none_spelled (SpellsType b) u)

reads_answer : (words : List (List ℕ)) → ReadsWords words (result_of words)
reads_answer [] = no_name
reads_answer (a ∷ more) = by (name_of a).0 (name_of a).1
  where
    by : (r : Result Labels PresentationError) → IsNameOf a r → ReadsWords (a ∷ more) (result_by r more)
    by (Ok name) h = read_after a name h more
    by (Err f) h = bad_name h

-- Words give a question or an error.
pub each_words_read : EachWordsRead
each_words_read words = (result_of words, reads_answer words)

-- Words give at most one result.
pub one_words_result : OneWordsResult
one_words_result words x y r s = sym (is_answer words x r) ∙ is_answer words y s

-- A text gives a question or an error.
pub each_text_read : EachTextRead
each_text_read text u =
    let words = some_words text u in
    (result_of words.0, record { words = words.0; are_words = words.1; reads = reads_answer words.0 })

-- A text gives at most one result.
pub one_text_result : OneTextResult
one_text_result text x y r s =
    one_words_result s.words x y (subst (λ words. ReadsWords words x) (one_words text r.words s.words r.are_words s.are_words) r.reads) s.reads
