-- Appending completed words.
use Rattle.std.proofs.Common.{◌≡◌, ◌∙◌, inl, inr, ℕ, zero, suc, ◌+◌, ◌<◌, ◌≤◌, List, [], ◌∷◌, ◌++◌, length, get_or, take, drop, refl, sym, ap, subst, arith, append_assoc}
use Rattle.std.specs.Prelude.{Option, Some, None, Result, Ok, Err}
use Rattle.std.specs.Borrow.{Bor}
use Rattle.std.proofs.lemmas.List.{at_drop_all, at_drop_more, drop-map, map-append, take-map, take_all, take_more}
use Rattle.fields_records.specs.FieldWords.{Words}
use Rattle.fields_table.specs.Table.{Field, kinds}
use Rattle.fields_table.specs.declared.kind.Kind.{Kind}
use Rattle.fields_text.specs.LineWords.{texts}
use Rattle.fields_lines.specs.Completing.{Completed, PushesWords, and_then, completed_fields, completed_own, kept_words, texts_of, with_word}
use Rattle.fields_lines.specs.FieldWays.{Texts, own_count, text_at, way_of, word_way}
use Rattle.fields_lines.specs.WordTexts.{completed_word, text_of}
use Rattle.fields_lines.specs.declared.line_error.LineError.{LineError}
use Rattle.fields_lines.specs.declared.way.Way.{Way}
use Rattle.fields_lines.specs.declared.word.Word.{Word}
use Rattle.fields_lines.specs.declared.word.Word.TheVariants.{Given}

-- the texts of words and of one more
texts_more : (old new : List Word) (word : Word) → new ≡ old ++ word ∷ [] → texts_of new ≡ texts_of old ++ text_of word ∷ []
texts_more old new word e = ap texts_of e ∙ map-append text_of old (word ∷ [])

module _ (origin : Option (List ℕ)) (at : ℕ) (way : Way) (all : Words) (i : ℕ) (d : Bor (List ℕ)) (done : List Word) where
  -- what completing the words from index i on gives
  abbrev pub from_here : Completed
  from_here = completed_own origin at way (texts all) i (texts_of done) (texts (drop i all))

  here : i < length all → from_here ≡ completed_own origin at way (texts all) i (texts_of done) (texts (get_or all i d ∷ drop (i + 1) all))
  here h = at_drop_more (λ (words : Words). completed_own origin at way (texts all) i (texts_of done) (texts words)) all i d h

  module _ (own : Way) (is_way : own ≡ word_way way (texts all) i) (within : i < length all) where
    -- a word that is completed
    pub own_more : (new : List Word) (found : Word) → new ≡ done ++ found ∷ [] → Some (text_of found) ≡ completed_word origin own (get_or all i d).now
        → completed_own origin at way (texts all) (i + 1) (texts_of new) (texts (drop (i + 1) all)) ≡ from_here
    own_more new found pushed e =
        let after = λ (more : Texts). completed_own origin at way (texts all) (i + 1) more (texts (drop (i + 1) all)) in
        ap after (texts_more done new found pushed)
        ∙ ap (λ (word : Option (List ℕ)). and_then (with_word (texts_of done) (at + i) word) after) (e ∙ ap (λ (w : Way). completed_word origin w (get_or all i d).now) is_way)
        ∙ sym (here within)

    -- a relative name without an origin
    pub own_none : None ≡ completed_word origin own (get_or all i d).now → from_here ≡ Err (at + i)
    own_none e =
        let after = λ (more : Texts). completed_own origin at way (texts all) (i + 1) more (texts (drop (i + 1) all)) in
        here within
        ∙ sym (ap (λ (word : Option (List ℕ)). and_then (with_word (texts_of done) (at + i) word) after) (e ∙ ap (λ (w : Way). completed_word origin w (get_or all i d).now) is_way))

  -- no words are left
  pub own_end : length all ≤ i → from_here ≡ Ok (texts_of done)
  own_end h = at_drop_all (λ (words : Words). completed_own origin at way (texts all) i (texts_of done) (texts words)) all i h

-- one more word is kept
pub keep_more : (base : Texts) (words : Words) (i : ℕ) (d word : Bor (List ℕ)) (old new : List Word) → i < length words → texts_of old ≡ base ++ texts (take i words)
    → word.now ≡ (get_or words i d).now → new ≡ old ++ Given word ∷ [] → texts_of new ≡ base ++ texts (take (i + 1) words)
keep_more base words i d word old new h so_far is pushed =
    texts_more old new (Given word) pushed
    ∙ ap (λ (ts : Texts). ts ++ word.now ∷ []) so_far
    ∙ append_assoc base (texts (take i words)) (word.now ∷ [])
    ∙ ap (λ (ts : Texts). base ++ ts) (
    ap (λ (text : List ℕ). texts (take i words) ++ text ∷ []) is
    ∙ sym (ap texts (take_more words i d h) ∙ map-append (λ (w : Bor (List ℕ)). w.now) (take i words) (get_or words i d ∷ [])))

-- all words are kept
pub kept_all : (base : Texts) (words : Words) (i : ℕ) (new : List Word) → length words ≤ i → texts_of new ≡ base ++ texts (take i words) → kept_words base (texts words) ≡ Ok (texts_of new)
kept_all base words i new h so_far = ap (λ (ws : Words). Ok (base ++ texts ws)) (sym (take_all i words h)) ∙ sym (ap (λ (ts : Texts). Ok ts) so_far)

first_kind : (fields : List Field) (d : Field) → 1 ≤ length fields → kinds fields ≡ (get_or fields 0 d).1 ∷ kinds (drop 1 fields)
first_kind [] d some = absurd (omega arith)
first_kind (field ∷ fields) d some = refl

module _ (origin : Option (List ℕ)) (at rtype index : ℕ) (fields : List Field) (d : Field) (some : 1 ≤ length fields) (base : Texts) (words own after : Words)
    (n : ℕ) (count : n ≡ own_count (get_or fields 0 d).1 (texts words)) (front : own ≡ take n words) (back : after ≡ drop n words) (way : Way)
    (is_way : way ≡ way_of rtype index (get_or fields 0 d).1) where
  -- the fields from this one on
  abbrev pub all_fields : Completed
  all_fields = completed_fields origin at rtype index (kinds fields) base (texts words)

  -- the fields after it
  abbrev pub others : Texts → Completed
  others more = completed_fields origin (at + n) rtype (index + 1) (kinds (drop 1 fields)) more (texts after)

  -- the words of the first field, and then those of the others
  pub fields_split : all_fields ≡ and_then (completed_own origin at way (texts own) 0 base (texts own)) others
  fields_split =
      let kind = (get_or fields 0 d).1 in
      let rest = λ (m : ℕ) (ts : Texts) (more : Texts). completed_fields origin (at + m) rtype (index + 1) (kinds (drop 1 fields)) more ts in
      ap (λ (ks : List Kind). completed_fields origin at rtype index ks base (texts words)) (first_kind fields d some)
      ∙ ap (λ (m : ℕ). and_then (completed_own origin at (way_of rtype index kind) (take m (texts words)) 0 base (take m (texts words))) (rest m (drop m (texts words)))) (sym count)
      ∙ ap (λ (w : Way). and_then (completed_own origin at w (take n (texts words)) 0 base (take n (texts words))) (rest n (drop n (texts words)))) (sym is_way)
      ∙ ap (λ (ts : Texts). and_then (completed_own origin at way ts 0 base ts) (rest n (drop n (texts words)))) (take-map (λ (w : Bor (List ℕ)). w.now) n words ∙ ap texts (sym front))
      ∙ ap (λ (ts : Texts). and_then (completed_own origin at way (texts own) 0 base (texts own)) (rest n ts)) (drop-map (λ (w : Bor (List ℕ)). w.now) n words ∙ ap texts (sym back))

  -- the words of the first field, and then those of the others
  pub fields_more : (middle new : List Word) (result : Result Unit LineError) → PushesWords (completed_own origin at way (texts own) 0 base (texts own)) middle (Ok tt)
      → PushesWords (completed_fields origin (at + n) rtype (index + 1) (kinds (drop 1 fields)) (texts_of middle) (texts after)) new result → PushesWords all_fields new result
  fields_more middle new result first rest =
      subst (λ (done : Completed). PushesWords done new result) (sym (fields_split ∙ ap (λ (done : Completed). and_then done others) first)) rest

  -- the words of the first field can't be completed
  pub fields_bad : (new : List Word) (error : LineError) → PushesWords (completed_own origin at way (texts own) 0 base (texts own)) new (Err error) → PushesWords all_fields new (Err error)
  fields_bad new error (inl full) = inl full
  fields_bad new error (inr (index, bad, is)) = inr (index, fields_split ∙ ap (λ (done : Completed). and_then done others) bad, is)

-- the text of the word at an index
pub text_here : (words : Words) (i : ℕ) (d : Bor (List ℕ)) → i < length words → (get_or words i d).now ≡ text_at (texts words) i
text_here [] i d h = absurd (omega arith)
text_here (word ∷ words) zero d h = refl
text_here (word ∷ words) (suc i) d h = text_here words i d (omega arith)

-- no word is at the index
pub text_none : (words : Words) (i : ℕ) → length words ≤ i → [] ≡ text_at (texts words) i
text_none [] i h = refl
text_none (word ∷ words) zero h = absurd (omega arith)
text_none (word ∷ words) (suc i) h = text_none words i (omega arith)

-- the text of one more complete word
pub texts_step : (completed : List Word) (i : ℕ) (word : Word) (old new : Words) (text : Bor (List ℕ)) → i < length completed → word ≡ get_or completed i word → texts old ≡ texts_of (take i completed)
    → text.now ≡ text_of word → new ≡ old ++ text ∷ [] → texts new ≡ texts_of (take (i + 1) completed)
texts_step completed i word old new text h here so_far is pushed =
    ap texts pushed
    ∙ map-append (λ (w : Bor (List ℕ)). w.now) old (text ∷ [])
    ∙ ap (λ (ts : Texts). ts ++ text.now ∷ []) so_far
    ∙ ap (λ (t : List ℕ). texts_of (take i completed) ++ t ∷ []) (is ∙ ap text_of here)
    ∙ sym (ap texts_of (take_more completed i word h) ∙ map-append text_of (take i completed) (get_or completed i word ∷ []))
