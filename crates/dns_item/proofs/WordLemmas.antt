-- Words of texts: each text has some, and what a step of `split_whitespace` says of them.
use Rattle.std.proofs.Common.{◌≡◌, ℕ, ◌<◌, true, false, Bool, List, [], ◌∷◌, ◌++◌, length, append_assoc, append-nil, arith, refl, sym, ap, ◌∙◌, subst, Bor, cond, length-append}
use Rattle.std.specs.Prelude.{◌&&◌, not, Some, None}
use Rattle.std.proofs.lemmas.List.{length-append}
use Rattle.std.specs.Char.{encode_utf8, is_whitespace, is_not_whitespace}
use Rattle.std.specs.Str.{IsUtf8, NoCharPasses, encode_utf8_all, all_scalars, NonePass}
use Rattle.std.specs.Str.Iter.{split_whitespace_rest, split_whitespace_steps}
use Rattle.std.specs.declared.str.SplitWhitespace.{SplitWhitespace}
use Rattle.std.proofs.lemmas.Str.{NoCharPasses-append, NoCharPasses-nil, cons_from_encodes, length-encode, len_utf8_bounds, encodes_same, encodes-append, encode_same}
use Rattle.dns_item.specs.QuestionTexts.{AreWords, IsGap, IsWord, StartsWhite}
use Rattle.dns_item.specs.QuestionTexts.AreWords.{none, word}
use lib.Utf8.{scalar}

-- ---- a step

-- the words of the text are the word of a step, followed by the words of what it leaves
pub word_before : (s t : SplitWhitespace) (x : Bor (List ℕ)) (words : List (List ℕ)) → split_whitespace_steps s (Some x) t
    → AreWords (split_whitespace_rest t) words → AreWords (split_whitespace_rest s) (x.now ∷ words)
word_before s t x words h w =
    subst (λ text. AreWords text (x.now ∷ words)) (sym h.1)
    (word {gap = h.0} {word = x.now} {text = split_whitespace_rest t} {words = words} h.3 (record { some = h.2; no_white = h.4 }) (h.5.0, h.5.1) w)

-- if there is no further step, there are no words
pub no_words : (s t : SplitWhitespace) → split_whitespace_steps s None t → AreWords (split_whitespace_rest s) []
no_words s t h = none {gap = split_whitespace_rest s} h.1

-- ---- what follows characters of a text is a text
and_left : (a b : Bool) → (a && b) ≡ true → a ≡ true
and_left true b e = refl
and_left false b e = e

and_right : (a b : Bool) → (a && b) ≡ true → b ≡ true
and_right true b e = e
and_right false b e = cc

after_chars : (ds cs text : List ℕ) → all_scalars cs ≡ true → encode_utf8_all cs ≡ encode_utf8_all ds ++ text → IsUtf8 text
after_chars [] cs text s e = (cs, (s, e))
after_chars (d ∷ ds) cs text s e =
    let cut = cons_from_encodes cs (encode_utf8_all ds ++ text) d (e ∙ append_assoc (encode_utf8 d) (encode_utf8_all ds) text) in
    after_chars ds cut.0 text (and_right (scalar d) (all_scalars cut.0) (ap all_scalars (sym cut.1) ∙ s)) cut.2

-- What is left after a word is UTF-8 too.
pub utf8_after : (s t : SplitWhitespace) (x : Bor (List ℕ)) → split_whitespace_steps s (Some x) t → IsUtf8 (split_whitespace_rest s) → IsUtf8 (split_whitespace_rest t)
utf8_after s t x h u =
    let rest : List ℕ = split_whitespace_rest t in
    let v = after_chars h.3.0 u.0 (x.now ++ rest) u.1.0 (u.1.1 ∙ h.1 ∙ ap (λ g. g ++ (x.now ++ rest)) (sym h.3.1)) in
    after_chars h.4.0 v.0 rest v.1.0 (v.1.1 ∙ ap (λ w. w ++ rest) (sym h.4.1))

-- ---- each text has words

-- characters that begin with a word
record StartsWord (cs : List ℕ) : Type 0 where
  first : List ℕ
  text : List ℕ
  words : List (List ℕ)
  whole : encode_utf8_all cs ≡ first ++ text
  is_word : IsWord first
  white : StartsWhite text
  rest : AreWords text words

-- what characters begin with, and the words of all of them
data Begins : List ℕ → Type 0 where
  at_end : Begins []
  at_white : {c : ℕ} {cs : List ℕ} {words : List (List ℕ)} → is_whitespace c ≡ true → AreWords (encode_utf8_all (c ∷ cs)) words → Begins (c ∷ cs)
  at_word : {cs : List ℕ} → StartsWord cs → Begins cs

no_gap : IsGap []
no_gap = NoCharPasses-nil is_not_whitespace

-- one character is all the characters of its octets
one_char : (p : ℕ → Bool) (c : ℕ) → p c ≡ false → NoCharPasses p (encode_utf8 c)
one_char p c e = (c ∷ [], append-nil (encode_utf8 c), (e, tt))

char_length : (c : ℕ) → 0 < length (encode_utf8 c)
char_length c = omega (arith, length-encode c, (len_utf8_bounds c).0)

one_white : (c : ℕ) → is_whitespace c ≡ true → IsGap (encode_utf8 c)
one_white c e = one_char is_not_whitespace c (ap not e)

-- white space before a text changes no word
wider_gap : (c : ℕ) (text : List ℕ) (words : List (List ℕ)) → is_whitespace c ≡ true → AreWords text words → AreWords (encode_utf8 c ++ text) words
wider_gap c _ _ e (none {gap} g) = none (NoCharPasses-append is_not_whitespace (encode_utf8 c) gap (one_white c e) g)
wider_gap c _ _ e (word {gap} {word = first} {text} {words} g w s r) =
    subst (λ whole. AreWords whole (first ∷ words)) (append_assoc (encode_utf8 c) gap (first ++ text))
    (word (NoCharPasses-append is_not_whitespace (encode_utf8 c) gap (one_white c e) g) w s r)

words_of : (cs : List ℕ) → Begins cs → (words : List (List ℕ)) × AreWords (encode_utf8_all cs) words
words_of _ at_end = ([], none no_gap)
words_of _ (at_white {words} e w) = (words, w)
words_of cs (at_word w) = (w.first ∷ w.words, subst (λ whole. AreWords whole (w.first ∷ w.words)) (sym w.whole) (word {gap = []} no_gap w.is_word w.white w.rest))

-- a character that isn't white space begins a word
longer_word : (c : ℕ) (cs : List ℕ) → is_whitespace c ≡ false → all_scalars cs ≡ true → Begins cs → StartsWord (c ∷ cs)
longer_word c _ e s at_end = record {
  first = encode_utf8 c;
  text = [];
  words = [];
  whole = refl;
  is_word = record { some = char_length c; no_white = one_char is_whitespace c e };
  white = ([], λ h. absurd (omega arith));
  rest = none no_gap;
}
longer_word c _ e s (at_white {c = d} {cs} {words} f w) = record {
  first = encode_utf8 c;
  text = encode_utf8_all (d ∷ cs);
  words = words;
  whole = refl;
  is_word = record { some = char_length c; no_white = one_char is_whitespace c e };
  white = (encode_utf8_all cs, λ _. (d, f, refl, and_left (scalar d) (all_scalars cs) s));
  rest = w;
}
longer_word c cs e s (at_word w) = record {
  first = encode_utf8 c ++ w.first;
  text = w.text;
  words = w.words;
  whole = ap (λ bs. encode_utf8 c ++ bs) w.whole ∙ sym (append_assoc (encode_utf8 c) w.first w.text);
  is_word = record {
    some = omega (arith, char_length c, length-append (encode_utf8 c) w.first);
    no_white = NoCharPasses-append is_whitespace (encode_utf8 c) w.first (one_char is_whitespace c e) w.is_word.no_white;
  };
  white = w.white;
  rest = w.rest;
}

begins : (cs : List ℕ) → all_scalars cs ≡ true → Begins cs
begins [] s = at_end
begins (c ∷ cs) s = by_white (begins cs (and_right (scalar c) (all_scalars cs) s)) (is_whitespace c) refl
  where
    by_white : Begins cs → (w : Bool) → is_whitespace c ≡ w → Begins (c ∷ cs)
    by_white after true e = let rest = words_of cs after in at_white e (wider_gap c (encode_utf8_all cs) rest.0 e rest.1)
    by_white after false e = at_word (longer_word c cs e (and_right (scalar c) (all_scalars cs) s) after)

-- Each text has words.
pub some_words : (text : List ℕ) → IsUtf8 text → (words : List (List ℕ)) × AreWords text words
some_words text u =
    let made = words_of u.0 (begins u.0 u.1.0) in
    (made.0, subst (λ bs. AreWords bs made.0) u.1.1 made.1)

-- A text has its words in one way: they are cut from its characters.

-- characters without white space, and the words after them
abbrev Cut : Type 0
Cut = List ℕ × List (List ℕ)

-- the words, the first one included
abbrev finished : Cut → List (List ℕ)
finished ([], words) = words
finished (c ∷ cs, words) = encode_utf8_all (c ∷ cs) ∷ words

-- the characters up to the first white space, and the words after it
abbrev cut : List ℕ → Cut
cut [] = ([], [])
cut (c ∷ cs) = cond (is_whitespace c) ([], finished (cut cs)) (c ∷ (cut cs).0, (cut cs).1)

abbrev words_in : List ℕ → List (List ℕ)
words_in cs = finished (cut cs)

white_is : (c : ℕ) → is_not_whitespace c ≡ false → is_whitespace c ≡ true
white_is c e = by (is_whitespace c) e
  where
    by : (b : Bool) → not b ≡ false → b ≡ true
    by true e = refl
    by false e = cc

cut_white : (c : ℕ) (cs : List ℕ) → is_whitespace c ≡ true → cut (c ∷ cs) ≡ ([], words_in cs)
cut_white c cs e = ap (λ (b : Bool). let made : Cut = cond b ([], finished (cut cs)) (c ∷ (cut cs).0, (cut cs).1) in made) e

cut_word : (c : ℕ) (cs : List ℕ) → is_whitespace c ≡ false → cut (c ∷ cs) ≡ (c ∷ (cut cs).0, (cut cs).1)
cut_word c cs e = ap (λ (b : Bool). let made : Cut = cond b ([], finished (cut cs)) (c ∷ (cut cs).0, (cut cs).1) in made) e

-- white space before characters adds no word
after_gap : (gap cs : List ℕ) → NonePass is_not_whitespace gap → words_in (gap ++ cs) ≡ words_in cs
after_gap [] cs h = refl
after_gap (c ∷ gap) cs h = ap finished (cut_white c (gap ++ cs) (white_is c h.0)) ∙ after_gap gap cs h.1

-- characters that aren't white space extend the first word
before_cut : (first cs : List ℕ) → NonePass is_whitespace first → cut (first ++ cs) ≡ (first ++ (cut cs).0, (cut cs).1)
before_cut [] cs h = refl
before_cut (c ∷ first) cs h =
    cut_word c (first ++ cs) h.0 ∙ ap (λ (x : Cut). let made : Cut = (c ∷ x.0, x.1) in made) (before_cut first cs h.1)

-- no characters, or characters that begin with white space, have no first word
cut_after : (cs : List ℕ) → StartsWhite (encode_utf8_all cs) → cut cs ≡ ([], words_in cs)
cut_after [] h = refl
cut_after (c ∷ cs) h =
    let some : 0 < length (encode_utf8 c ++ encode_utf8_all cs) = omega (arith, length-append (encode_utf8 c) (encode_utf8_all cs), length-encode c, (len_utf8_bounds c).0) in
    let x = h.1 some in
    let same = encode_same c x.0 (encode_utf8_all cs) h.0 x.2 in
    let white : is_whitespace c ≡ true = ap is_whitespace same.0 ∙ x.1 in
    cut_white c cs white ∙ ap (λ ws. let made : Cut = ([], ws) in made) (sym (ap finished (cut_white c cs white)))

-- a word of characters, and the words after it
first_word : (first cs : List ℕ) → NonePass is_whitespace first → 0 < length (encode_utf8_all first) → StartsWhite (encode_utf8_all cs)
    → words_in (first ++ cs) ≡ encode_utf8_all first ∷ words_in cs
first_word [] cs h some white = absurd (omega arith)
first_word (c ∷ first) cs h some white =
    ap finished (before_cut (c ∷ first) cs h ∙ ap (λ (x : Cut). let made : Cut = ((c ∷ first) ++ x.0, x.1) in made) (cut_after cs white))
    ∙ ap (λ (w : List ℕ). encode_utf8_all (c ∷ w) ∷ words_in cs) (append-nil first)

-- the characters of a text with words, which are those cut from them
record Spelled (text : List ℕ) (words : List (List ℕ)) : Type 0 where
  chars : List ℕ
  encoded : encode_utf8_all chars ≡ text
  cut_words : words_in chars ≡ words

cut_from : (text : List ℕ) (words : List (List ℕ)) → AreWords text words → Spelled text words
cut_from text _ (none h) = record {
  chars = h.0;
  encoded = h.1;
  cut_words = ap words_in (sym (append-nil h.0)) ∙ after_gap h.0 [] h.2;
}
cut_from _ _ (word {gap} {word = first} {text} {words} g w s r) =
    let rest = cut_from text words r in
    let white = subst (λ bs. StartsWhite bs) (sym rest.encoded) s in
    let some = subst (λ bs. 0 < length bs) (sym w.no_white.1) w.some in
    record {
      chars = g.0 ++ (w.no_white.0 ++ rest.chars);
      encoded = encodes-append g.0 (w.no_white.0 ++ rest.chars)
          ∙ ap (λ bs. bs ++ encode_utf8_all (w.no_white.0 ++ rest.chars)) g.1
          ∙ ap (λ bs. gap ++ bs) (encodes-append w.no_white.0 rest.chars ∙ ap (λ bs. bs ++ encode_utf8_all rest.chars) w.no_white.1 ∙ ap (λ bs. first ++ bs) rest.encoded);
      cut_words = after_gap g.0 (w.no_white.0 ++ rest.chars) g.2
          ∙ first_word w.no_white.0 rest.chars w.no_white.2 some white
          ∙ ap (λ bs. bs ∷ words_in rest.chars) w.no_white.1
          ∙ ap (λ ws. first ∷ ws) rest.cut_words;
    }

-- A text has one list of words.
pub one_words : (text : List ℕ) (v w : List (List ℕ)) → AreWords text v → AreWords text w → v ≡ w
one_words text v w x y =
    let a = cut_from text v x in
    let b = cut_from text w y in
    sym a.cut_words ∙ ap words_in (encodes_same a.chars b.chars (a.encoded ∙ sym b.encoded)) ∙ b.cut_words
