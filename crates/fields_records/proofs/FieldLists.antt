-- The fields of record data, in order.
use Rattle.std.proofs.Common.{◌≡◌, ◌∙◌, ℕ, ◌≤◌, List, [], ◌∷◌, ◌++◌, length, get_or, take, drop, refl, sym, ap, subst, arith, inl, inr, take-append-drop, append_assoc}
use Rattle.std.proofs.Math.Seq.{drop-append_seam, take-append_seam}
use Rattle.std.proofs.lemmas.List.{drop_all}
use Rattle.std.specs.Prelude.{Result, Ok, Err}
use Rattle.fields_text.specs.declared.text_error.TextError.{TextError}
use Rattle.fields_text.specs.declared.text_error.TextError.TheVariants.{BadWord, OutOfMemory}
use Rattle.fields_table.specs.Table.{Field, kinds as kinds_at}
use Rattle.fields_table.specs.declared.kind.Kind.{Kind}
use Rattle.fields_text.specs.Reading.{AppendsOctets, Fails, HasValue}
use Rattle.fields_text.proofs.theory.WordLists.{bad_only, full_only}
use Rattle.fields_records.specs.DataWords.{AreFields, BeginsWith}
use Rattle.fields_records.specs.FieldWords.{IsField, Words}
use Rattle.fields_records.specs.WordCounts.{IsWordCount}

-- why the words aren't read, by what reading the other fields returns
abbrev pub FailsAfter : Result Unit TextError → TextError → Type 0
FailsAfter (Ok u) e = e ≡ OutOfMemory
FailsAfter (Err f) e = e ≡ f

-- the words of the first field, and those of the others
module _ (kind : Kind) (ks : List Kind) (words : Words) (n : ℕ) (count : IsWordCount kind words n) where
  is_split : words ≡ take n words ++ drop n words
  is_split = sym (take-append-drop n words)

  begins : (field others : List ℕ) → IsField kind (take n words) field → AreFields ks (drop n words) others → BeginsWith kind (AreFields ks) words (field ++ others)
  begins field others is are = record {
    own = take n words;
    after = drop n words;
    field = field;
    others = others;
    split = is_split;
    whole = refl;
    takes_all = λ all. drop_all n words (let last = count.last all in omega arith);
    is_field = is;
    are_others = are;
  }

  -- the words of the first field are these
  own_words : (octets : List ℕ) (b : BeginsWith kind (AreFields ks) words octets) → (take n words ≡ b.own) × (drop n words ≡ b.after)
  own_words octets b =
      let size : n ≡ length b.own = sym (count.only b.own b.after b.field b.split b.takes_all b.is_field) in (
        (λ i. take (size i) (b.split i)) ∙ take-append_seam b.own b.after,
        (λ i. drop (size i) (b.split i)) ∙ drop-append_seam b.own b.after,
      )

  -- without the first field there are no fields
  no_first : ((octets : List ℕ) → ¬ (IsField kind (take n words) octets)) → (octets : List ℕ) → ¬ (AreFields (kind ∷ ks) words octets)
  no_first none octets b = none b.field (subst (λ (ws : Words). IsField kind ws b.field) (sym (own_words octets b).0) b.is_field)

  -- without the others there are none
  no_others : ((octets : List ℕ) → ¬ (AreFields ks (drop n words) octets)) → (octets : List ℕ) → ¬ (AreFields (kind ∷ ks) words octets)
  no_others none octets b = none b.others (subst (λ (ws : Words). AreFields ks ws b.others) (sym (own_words octets b).1) b.are_others)

  -- the first field and the others are all fields
  both : HasValue (IsField kind (take n words)) → HasValue (AreFields ks (drop n words)) → HasValue (AreFields (kind ∷ ks) words)
  both own others = (own.0 ++ others.0, begins own.0 others.0 own.1 others.1)

  more_fields : (old middle new : List ℕ) (u : Unit {0}) (result : Result Unit TextError) → AppendsOctets (IsField kind (take n words)) old middle (Ok u)
      → AppendsOctets (AreFields ks (drop n words)) middle new result → AppendsOctets (AreFields (kind ∷ ks) words) old new result
  more_fields old middle new u (Ok v) a b =
      (a.0 ++ b.0, begins a.0 b.0 a.1 b.1, b.2 ∙ ap (λ (xs : List ℕ). xs ++ b.0) a.2 ∙ append_assoc old a.0 b.0)
  more_fields old middle new u (Err e) a (inl memory) = inl (memory.0, both (a.0, a.1) memory.1)
  more_fields old middle new u (Err e) a (inr bad) = inr (bad.0, no_others bad.1)

  -- why there are none, if an allocation fails for the first
  full_first : (old new : List ℕ) (e : TextError) (others : Result Unit TextError) → HasValue (IsField kind (take n words)) → AppendsOctets (AreFields ks (drop n words)) old new others
      → FailsAfter others e → Fails (AreFields (kind ∷ ks) words) e
  full_first old new e (Ok u) own b fails = inl (fails, both own (b.0, b.1))
  full_first old new e (Err f) own (inl memory) fails = inl (fails ∙ memory.0, both own memory.1)
  full_first old new e (Err f) own (inr bad) fails = inr (fails ∙ bad.0, no_others bad.1)

-- The words after those of a field are read as the other fields.
pub fields_more : (fields : List Field) (d : Field) (words : Words) (n : ℕ) (own after : Words) (old middle new : List ℕ) (u : Unit {0}) (result : Result Unit TextError) → 1 ≤ length fields
    → IsWordCount (get_or fields 0 d).1 words n → own ≡ take n words → after ≡ drop n words
    → AppendsOctets (IsField (get_or fields 0 d).1 own) old middle (Ok u)
    → AppendsOctets (AreFields (kinds_at (drop 1 fields)) after) middle new result
    → AppendsOctets (AreFields (kinds_at fields) words) old new result
fields_more [] d words n own after old middle new u result some count front back a b = absurd (omega arith)
fields_more (field ∷ fields) d words n own after old middle new u result some count front back a b =
    more_fields field.1 (kinds_at fields) words n count old middle new u result
    (subst (λ (ws : Words). AppendsOctets (IsField field.1 ws) old middle (Ok u)) front a)
    (subst (λ (ws : Words). AppendsOctets (AreFields (kinds_at fields) ws) middle new result) back b)

-- If the words of a field aren't one, the words aren't the fields.
pub fields_bad : (fields : List Field) (d : Field) (words : Words) (n : ℕ) (own : Words) (e f : TextError) → 1 ≤ length fields → IsWordCount (get_or fields 0 d).1 words n → own ≡ take n words
    → f ≡ BadWord → Fails (IsField (get_or fields 0 d).1 own) f → e ≡ BadWord → Fails (AreFields (kinds_at fields) words) e
fields_bad [] d words n own e f some count front bad fails is = absurd (omega arith)
fields_bad (field ∷ fields) d words n own e f some count front bad fails is =
    let none = bad_only (HasValue (IsField field.1 own)) (IsField field.1 own) f bad fails in
    inr (is, no_first field.1 (kinds_at fields) words n count (subst (λ (ws : Words). (octets : List ℕ) → ¬ (IsField field.1 ws octets)) front none))

-- If an allocation fails for a field, the other fields say why the words aren't read.
pub fields_full : (fields : List Field) (d : Field) (words : Words) (n : ℕ) (own after : Words) (old new : List ℕ) (e f : TextError) (others : Result Unit TextError) → 1 ≤ length fields
    → IsWordCount (get_or fields 0 d).1 words n → own ≡ take n words → after ≡ drop n words → f ≡ OutOfMemory → Fails (IsField (get_or fields 0 d).1 own) f
    → AppendsOctets (AreFields (kinds_at (drop 1 fields)) after) old new others → FailsAfter others e → Fails (AreFields (kinds_at fields) words) e
fields_full [] d words n own after old new e f others some count front back full fails b is = absurd (omega arith)
fields_full (field ∷ fields) d words n own after old new e f others some count front back full fails b is =
    full_first field.1 (kinds_at fields) words n count old new e others
    (subst (λ (ws : Words). HasValue (IsField field.1 ws)) front (full_only (HasValue (IsField field.1 own)) (IsField field.1 own) f full fails))
    (subst (λ (ws : Words). AppendsOctets (AreFields (kinds_at fields) ws) old new others) back b) is
