-- The word that a text begins with.
use Rattle.std.proofs.Common.{◌≡◌, ◌∙◌, ℕ, ◌+◌, ◌-◌, ◌<◌, ◌≤◌, ◌==◌, ◌&&◌, Bool, true, false, List, [], ◌∷◌, ◌++◌, length, length-append, get_or, drop, take, Some, None, refl, sym, ap, subst, arith}
use Rattle.std.specs.Prelude.{MatchOption, Option, not, ◌||◌, if◌then◌else◌}
use Rattle.std.specs.Borrow.{Bor}
use Rattle.std.proofs.lemmas.Bool.{and_parts, and_from, false≢true, not-true, not_from_false, or_parts, or_from, cond-true, cond-false, eqb-true}
use Rattle.std.proofs.lemmas.Bool.Decides.{nat_tests}
use Rattle.std.proofs.lemmas.List.{append_cancel_right, take_all}
use Rattle.std.proofs.lemmas.Str.{lead_after_ascii}
use Rattle.std.specs.Str.{IsUtf8}
use Rattle.fields_text.specs.String.{quote, backslash}
use Rattle.fields_text.specs.LineWords.{EndsWord, IsRest, IsString, IsWord, SplitsRest, SplitsString, SplitsWord, begins_string, ends_word, is_plain}
use Rattle.fields_text.specs.LineWords.IsRest.{nothing, plain, escaped, turned}
use Rattle.fields_text.specs.LineWords.IsString.{closed, plain as string_plain, escaped as string_escaped}
use Rattle.fields_text.specs.LineWords.IsWord.{string, bare}
use Rattle.fields_text.proofs.theory.Options.{some_same}

-- a text that is empty, or whose first character ends no word
abbrev pub BeginsWord : List ℕ → Type 0
BeginsWord [] = Unit {0}
BeginsWord (c ∷ text) = ends_word c ≡ false

-- the text after the rest of a word, from within quotes or not, and from after a backslash or not
abbrev pub rest_after : Bool → Bool → List ℕ → Option (List ℕ)
rest_after inside skips [] = if inside || skips then None else Some []
rest_after inside true (c ∷ text) = rest_after inside false text
rest_after inside false (c ∷ text) =
    if c == backslash then rest_after inside true text
    else if c == quote then rest_after (not inside) false text
    else if not inside && ends_word c then Some (c ∷ text)
    else rest_after inside false text

-- the rest of a word, from after a backslash or not
abbrev pub IsRestFrom : Bool → Bool → List ℕ → Type 0
IsRestFrom inside false text = IsRest inside text
IsRestFrom inside true [] = ⊥
IsRestFrom inside true (c ∷ text) = IsRest inside text

-- a character that ends a word
not_backslash : (c : ℕ) → ends_word c ≡ true → (c == backslash) ≡ false
not_backslash c h = grind (arith, nat_tests)

not_quote : (c : ℕ) → ends_word c ≡ true → (c == quote) ≡ false
not_quote c h = grind (arith, nat_tests)

-- the parts of a rest
abbrev pub HasRest : Bool → Bool → List ℕ → List ℕ → Type 0
HasRest inside skips text after = (word : List ℕ) × IsRestFrom inside skips word × (text ≡ word ++ after) × EndsWord after

-- a plain character before a rest
plain_before : (inside : Bool) (c : ℕ) (text after : List ℕ) → is_plain inside c ≡ true → HasRest inside false text after → HasRest inside false (c ∷ text) after
plain_before inside c text after is h = (c ∷ h.0, plain is h.1, ap (λ (xs : List ℕ). c ∷ xs) h.2, h.3)

-- a quote before a rest
turned_before : (inside : Bool) (text after : List ℕ) → HasRest (not inside) false text after → HasRest inside false (quote ∷ text) after
turned_before inside text after h = (quote ∷ h.0, turned h.1, ap (λ (xs : List ℕ). quote ∷ xs) h.2, h.3)

-- a backslash before a rest
escaped_before : (inside : Bool) (text after : List ℕ) → HasRest inside true text after → HasRest inside false (backslash ∷ text) after
escaped_before inside text after ([], h, e, ends) = absurd h
escaped_before inside text after (c ∷ word, h, e, ends) = (backslash ∷ c ∷ word, escaped h, ap (λ (xs : List ℕ). backslash ∷ xs) e, ends)

-- a character after a backslash
skipped_before : (inside : Bool) (c : ℕ) (text after : List ℕ) → HasRest inside false text after → HasRest inside true (c ∷ text) after
skipped_before inside c text after h = (c ∷ h.0, h.1, ap (λ (xs : List ℕ). c ∷ xs) h.2, h.3)

-- no rest
nothing_before : (c : ℕ) (text after : List ℕ) → ends_word c ≡ true → Some (c ∷ text) ≡ Some after → HasRest false false (c ∷ text) after
nothing_before c text after ends e =
    let same : c ∷ text ≡ after = some_same (c ∷ text) after e in
    ([], nothing, same, subst EndsWord same ends)

is_plain_by : (inside : Bool) (c : ℕ) → (c == backslash) ≡ false → (c == quote) ≡ false → not inside && ends_word c ≡ false → is_plain inside c ≡ true
is_plain_by true c b q e = and_from _ _ (not_from_false _ (or_from _ _ q b)) refl
is_plain_by false c b q e = and_from _ _ (not_from_false _ (or_from _ _ q b)) (not_from_false _ e)

-- a character before a text, by what it is
module _ (inside : Bool) (c : ℕ) (text after : List ℕ) where
  at_end : (outside : Bool) → inside ≡ outside → not outside ≡ true → ends_word c ≡ true → Some (c ∷ text) ≡ Some after → HasRest inside false (c ∷ text) after
  at_end true same t ends e = absurd (cc t)
  at_end false same t ends e = subst (λ (i : Bool). HasRest i false (c ∷ text) after) (sym same) (nothing_before c text after ends e)

  by_end : (rest_after inside false text ≡ Some after → HasRest inside false text after)
      → (b : Bool) → not inside && ends_word c ≡ b → (c == backslash) ≡ false → (c == quote) ≡ false
      → (if b then Some (c ∷ text) else rest_after inside false text) ≡ Some after → HasRest inside false (c ∷ text) after
  by_end plain_rest true t b q e = let parts = and_parts (not inside) (ends_word c) t in at_end inside refl parts.0 parts.1 e
  by_end plain_rest false t b q e = plain_before inside c text after (is_plain_by inside c b q t) (plain_rest e)

  by_quote : (rest_after inside false text ≡ Some after → HasRest inside false text after)
      → (rest_after (not inside) false text ≡ Some after → HasRest (not inside) false text after)
      → (b : Bool) → (c == quote) ≡ b → (c == backslash) ≡ false
      → (if b then rest_after (not inside) false text else if not inside && ends_word c then Some (c ∷ text) else rest_after inside false text) ≡ Some after
      → HasRest inside false (c ∷ text) after
  by_quote plain_rest turned_rest true q b e =
      subst (λ (x : ℕ). HasRest inside false (x ∷ text) after) (sym (eqb-true c quote q)) (turned_before inside text after (turned_rest e))
  by_quote plain_rest turned_rest false q b e = by_end plain_rest (not inside && ends_word c) refl b q e

  by_backslash : (rest_after inside false text ≡ Some after → HasRest inside false text after)
      → (rest_after (not inside) false text ≡ Some after → HasRest (not inside) false text after)
      → (rest_after inside true text ≡ Some after → HasRest inside true text after)
      → (b : Bool) → (c == backslash) ≡ b → rest_after inside false (c ∷ text) ≡ Some after → HasRest inside false (c ∷ text) after
  by_backslash plain_rest turned_rest escaped_rest true b e =
      let f : rest_after inside true text ≡ Some after = sym (cond-true _ _ _ b) ∙ e in
      subst (λ (x : ℕ). HasRest inside false (x ∷ text) after) (sym (eqb-true c backslash b)) (escaped_before inside text after (escaped_rest f))
  by_backslash plain_rest turned_rest escaped_rest false b e =
      by_quote plain_rest turned_rest (c == quote) refl b (sym (cond-false _ _ _ b) ∙ e)

-- what follows is a rest, and the text after it
pub rest_is : (inside skips : Bool) (text after : List ℕ) → rest_after inside skips text ≡ Some after → HasRest inside skips text after
rest_is true skips [] after e = absurd (cc e)
rest_is false true [] after e = absurd (cc e)
rest_is false false [] after e =
    let none : List ℕ = [] in
    let same : none ≡ after = some_same none after e in
    ([], nothing, same, subst EndsWord same tt)
rest_is inside true (c ∷ text) after e = skipped_before inside c text after (rest_is inside false text after e)
rest_is inside false (c ∷ text) after e =
    by_backslash inside c text after (rest_is inside false text after) (rest_is (not inside) false text after) (rest_is inside true text after) (c == backslash) refl e

-- the end of a rest
end_is : (after : List ℕ) → EndsWord after → rest_after false false after ≡ Some after
end_is [] ends = refl
end_is (c ∷ text) ends = cond-false _ _ _ (not_backslash c ends) ∙ (cond-false _ _ _ (not_quote c ends) ∙ cond-true _ _ _ ends)

plain_tests : (inside : Bool) (c : ℕ) → is_plain inside c ≡ true → ((c == backslash) ≡ false) × ((c == quote) ≡ false) × (not inside && ends_word c ≡ false)
plain_tests true c h =
    let parts = or_parts (c == quote) (c == backslash) (not-true _ (and_parts (not ((c == quote) || (c == backslash))) true h).0) in
    (parts.1, parts.0, refl)
plain_tests false c h =
    let both = and_parts (not ((c == quote) || (c == backslash))) (not (ends_word c)) h in
    let parts = or_parts (c == quote) (c == backslash) (not-true _ both.0) in
    (parts.1, parts.0, not-true _ both.1)

-- the text after a rest
pub after_is : (inside : Bool) (word after : List ℕ) → IsRest inside word → EndsWord after → rest_after inside false (word ++ after) ≡ Some after
after_is inside word after nothing ends = end_is after ends
after_is inside word after (plain {c = c} {rest = rest} is h) ends =
    let tests = plain_tests inside c is in
    cond-false _ _ _ tests.0 ∙ (cond-false _ _ _ tests.1 ∙ (cond-false _ _ _ tests.2 ∙ after_is inside rest after h ends))
after_is inside word after (escaped {rest = rest} h) ends = after_is inside rest after h ends
after_is inside word after (turned {rest = rest} h) ends = after_is (not inside) rest after h ends

-- Where the rest of a word ends, a word is split off.
pub split_is : (text after : List ℕ) → rest_after false false text ≡ Some after → (word : List ℕ) × SplitsRest text word after
split_is text after e =
    let h = rest_is false false text after e in
    (h.0, record { whole = h.2; rest = h.1; ends = h.3 })

-- Where a word is split off, its rest ends.
pub split_after : (text word after : List ℕ) → SplitsRest text word after → rest_after false false text ≡ Some after
split_after text word after h = ap (rest_after false false) h.whole ∙ after_is false word after h.rest h.ends

-- If the rest of a word has no end, no word is split off.
pub no_split : (text : List ℕ) → rest_after false false text ≡ None → (word : List ℕ) (after : List ℕ) → ¬ (SplitsRest text word after)
no_split text e word after h = let f = split_after text word after h in absurd (cc (e, f))

-- the end of a word is read
pub word_ends : (inside skips : Bool) (text left : List ℕ) → rest_after inside skips left ≡ rest_after false false text → inside ≡ false → skips ≡ false → 0 < length left
    → ends_word (get_or left 0 0) ≡ true → (word : List ℕ) × SplitsRest text word left
word_ends inside skips text [] same outside here some ends = absurd (omega arith)
word_ends inside skips text (c ∷ left) same outside here some ends =
    split_is text (c ∷ left) (sym same ∙ (ap (λ (b : Bool). rest_after b skips (c ∷ left)) outside ∙ (ap (λ (b : Bool). rest_after false b (c ∷ left)) here ∙ end_is (c ∷ left) ends)))

-- the end of the text is read
pub all_ends : (inside skips : Bool) (text left : List ℕ) → rest_after inside skips left ≡ rest_after false false text → length left < 1 → inside || skips ≡ false
    → (word : List ℕ) × SplitsRest text word left
all_ends inside skips text [] same none shut = split_is text [] (sym same ∙ cond-false _ _ _ shut)
all_ends inside skips text (c ∷ left) same none shut = absurd (omega arith)

-- A string or an escape that is open at the end of the text has no end.
pub all_open : (inside skips : Bool) (text left : List ℕ) → rest_after inside skips left ≡ rest_after false false text → length left < 1 → inside || skips ≡ true
    → (word : List ℕ) (after : List ℕ) → ¬ (SplitsRest text word after)
all_open inside skips text [] same none unclosed = no_split text (sym same ∙ cond-true _ _ _ unclosed)
all_open inside skips text (c ∷ left) same none unclosed = absurd (omega arith)

-- the text after the rest of a string in quotes, from after a backslash or not
abbrev pub string_after : Bool → List ℕ → Option (List ℕ)
string_after skips [] = None
string_after true (c ∷ text) = string_after false text
string_after false (c ∷ text) =
    if c == backslash then string_after true text
    else if c == quote then Some text
    else string_after false text

string_plain_tests : (c : ℕ) → is_plain true c ≡ true → ((c == backslash) ≡ false) × ((c == quote) ≡ false)
string_plain_tests c h = let tests = plain_tests true c h in (tests.0, tests.1)

string_after_is : (word after : List ℕ) → IsString word → string_after false (word ++ after) ≡ Some after
string_after_is word after closed = refl
string_after_is word after (string_plain {c = c} {rest = rest} is h) =
    let tests = string_plain_tests c is in
    cond-false _ _ _ tests.0 ∙ (cond-false _ _ _ tests.1 ∙ string_after_is rest after h)
string_after_is word after (string_escaped {rest = rest} h) = string_after_is rest after h

-- what string_after reads
abbrev pub HasString : Bool → List ℕ → List ℕ → Type 0
HasString false text after = (word : List ℕ) × IsString word × (text ≡ word ++ after)
HasString true text after = (c : ℕ) × (word : List ℕ) × IsString word × (text ≡ c ∷ word ++ after)

module _ (c : ℕ) (text after : List ℕ) where
  string_by_quote : (string_after false text ≡ Some after → HasString false text after) → (b : Bool) → (c == quote) ≡ b → (c == backslash) ≡ false
      → (if b then Some text else string_after false text) ≡ Some after → HasString false (c ∷ text) after
  string_by_quote later true q b e =
      (quote ∷ [], closed, ap (λ (x : ℕ). x ∷ text) (eqb-true c quote q) ∙ ap (λ (xs : List ℕ). quote ∷ xs) (some_same text after e))
  string_by_quote later false q b e =
      let h = later e in (c ∷ h.0, string_plain (is_plain_by true c b q refl) h.1, ap (λ (xs : List ℕ). c ∷ xs) h.2)

  string_by_backslash : (string_after false text ≡ Some after → HasString false text after) → (string_after true text ≡ Some after → HasString true text after)
      → (b : Bool) → (c == backslash) ≡ b → string_after false (c ∷ text) ≡ Some after → HasString false (c ∷ text) after
  string_by_backslash later skipped true b e =
      let h = skipped (sym (cond-true _ _ _ b) ∙ e) in
      (backslash ∷ h.0 ∷ h.1, string_escaped h.2, ap (λ (x : ℕ). x ∷ text) (eqb-true c backslash b) ∙ ap (λ (xs : List ℕ). backslash ∷ xs) h.3)
  string_by_backslash later skipped false b e = string_by_quote later (c == quote) refl b (sym (cond-false _ _ _ b) ∙ e)

string_is : (skips : Bool) (text after : List ℕ) → string_after skips text ≡ Some after → HasString skips text after
string_is true [] after e = absurd (cc e)
string_is false [] after e = absurd (cc e)
string_is true (c ∷ text) after e = let h = string_is false text after e in (c, h.0, h.1, ap (λ (xs : List ℕ). c ∷ xs) h.2)
string_is false (c ∷ text) after e = string_by_backslash c text after (string_is false text after) (string_is true text after) (c == backslash) refl e

string_split_after : (text word after : List ℕ) → SplitsString text word after → string_after false text ≡ Some after
string_split_after text word after h = ap (string_after false) h.whole ∙ string_after_is word after h.string

-- the closing quote is read
pub string_ends : (skips : Bool) (text left : List ℕ) → string_after skips left ≡ string_after false text → skips ≡ false → 0 < length left → get_or left 0 0 ≡ quote
    → (word : List ℕ) × SplitsString text word (drop 1 left)
string_ends skips text [] same here some q = absurd (omega arith)
string_ends skips text (c ∷ left) same here some q =
    let ends : string_after false (c ∷ left) ≡ Some left = ap (λ (x : ℕ). string_after false (x ∷ left)) q in
    let e = sym same ∙ (ap (λ (s : Bool). string_after s (c ∷ left)) here ∙ ends) in
    let h = string_is false text left e in
    (h.0, record { whole = h.2; string = h.1 })

-- a text without a closing quote
pub string_open : (skips : Bool) (text left : List ℕ) → string_after skips left ≡ string_after false text → length left < 1 → (word : List ℕ) (after : List ℕ) → ¬ (SplitsString text word after)
string_open skips text [] same none word after h = let f = string_split_after text word after h in absurd (cc (same, f))
string_open skips text (c ∷ left) same none word after h = absurd (omega arith)

append_begins : (word after : List ℕ) → 0 < length word → begins_string (word ++ after) ≡ begins_string word
append_begins [] after some = absurd (omega arith)
append_begins (c ∷ word) after some = refl

-- A word has a character.
pub word_some : (word : List ℕ) → IsWord word → 0 < length word
word_some word (string h) = omega arith
word_some word (bare some b h) = some

-- a word doesn't begin with a character that ends a word
rest_begins : (word : List ℕ) → IsRest false word → BeginsWord word
rest_begins word nothing = tt
rest_begins word (plain is h) = not-true _ (and_parts _ _ is).1
rest_begins word (escaped h) = refl
rest_begins word (turned h) = refl

word_begins : (word after : List ℕ) → IsWord word → BeginsWord (word ++ after)
word_begins word after (string h) = refl
word_begins word after (bare some other h) = first_of word some (rest_begins word h) where
  first_of : (word : List ℕ) → 0 < length word → BeginsWord word → BeginsWord (word ++ after)
  first_of [] some begins = absurd (omega arith)
  first_of (c ∷ word) some begins = begins

-- Where a word is split off, one begins.
pub begins_with : (text word after : List ℕ) → SplitsWord text word after → BeginsWord text
begins_with text word after h = subst BeginsWord (sym h.whole) (word_begins word after h.is)

-- A word that is no string is split off as a bare word.
pub split_bare : (text word after : List ℕ) → SplitsWord text word after → begins_string text ≡ false → SplitsRest text word after
split_bare text word after split b = by_word word split.is split.whole split.ends where
  by_word : (word : List ℕ) → IsWord word → text ≡ word ++ after → (begins_string word ≡ false → EndsWord after) → SplitsRest text word after
  by_word word (string {rest = rest} h) whole ends = let e = ap begins_string whole in absurd (cc (b, e))
  by_word word (bare some other h) whole ends = record { whole = whole; rest = h; ends = ends other }

-- A word that is a string is split off as one, after its quote.
pub split_string : (text word after : List ℕ) → SplitsWord text word after → begins_string text ≡ true → (rest : List ℕ) × (word ≡ quote ∷ rest) × SplitsString (drop 1 text) rest after
split_string text word after split b = by_word word split.is split.whole where
  by_word : (word : List ℕ) → IsWord word → text ≡ word ++ after → (rest : List ℕ) × (word ≡ quote ∷ rest) × SplitsString (drop 1 text) rest after
  by_word word (string {rest = rest} h) whole = (rest, refl, record { whole = ap (drop 1) whole; string = h })
  by_word word (bare some other h) whole = absurd (cc (b, other, ap begins_string whole ∙ append_begins word after some))

rest_some : (text word after : List ℕ) → 0 < length text → BeginsWord text → SplitsRest text word after → 0 < length word
rest_some text [] after some begins h = no_end text after some begins h.whole h.ends where
  no_end : (text after : List ℕ) → 0 < length text → BeginsWord text → text ≡ after → EndsWord after → 0 < 0
  no_end [] after some begins same ends = absurd (omega arith)
  no_end (c ∷ text) after some begins same ends = let e : ends_word c ≡ true = subst EndsWord (sym same) ends in absurd (cc (e, begins))
rest_some text (c ∷ word) after some begins h = omega arith

-- A bare word is split off as a word.
pub bare_split : (text word after : List ℕ) → 0 < length text → BeginsWord text → begins_string text ≡ false → SplitsRest text word after → SplitsWord text word after
bare_split text word after some begins b h =
    let size = rest_some text word after some begins h in
    let other = sym (append_begins word after size) ∙ (sym (ap begins_string h.whole) ∙ b) in
    record { whole = h.whole; is = bare size other h.rest; ends = λ e. h.ends }

-- A string is split off as a word, with its quote.
pub string_split : (text word after : List ℕ) → 0 < length text → get_or text 0 0 ≡ quote → SplitsString (drop 1 text) word after → SplitsWord text (quote ∷ word) after
string_split [] word after some q h = absurd (omega arith)
string_split (c ∷ text) word after some q h =
    record { whole = ap (λ (x : ℕ). x ∷ text) q ∙ ap (λ (xs : List ℕ). quote ∷ xs) h.whole; is = string h.string; ends = λ e. absurd (cc e) }

-- Where a word would end, none begins.
pub no_word_at : (text : List ℕ) → 0 < length text → ends_word (get_or text 0 0) ≡ true → (word : List ℕ) (after : List ℕ) → ¬ (SplitsWord text word after)
no_word_at [] some ends word after split = absurd (omega arith)
no_word_at (c ∷ text) some ends word after split = let begins = begins_with (c ∷ text) word after split in absurd (false≢true (sym begins ∙ ends))

-- A character that ends no word begins one.
pub begins_by : (text : List ℕ) → ends_word (get_or text 0 0) ≡ false → BeginsWord text
begins_by [] h = tt
begins_by (c ∷ text) h = h

-- A quote begins a string.
pub begins_quote : (text : List ℕ) → 0 < length text → get_or text 0 0 ≡ quote → begins_string text ≡ true
begins_quote [] some q = absurd (omega arith)
begins_quote (c ∷ text) some q = ap (λ (x : ℕ). x == quote) q

-- Another character begins no string.
pub begins_no_quote : (text : List ℕ) → (get_or text 0 0 == quote) ≡ false → begins_string text ≡ false
begins_no_quote [] q = refl
begins_no_quote (c ∷ text) q = q

-- The word at a quote is the string.
pub word_of_string : (text : List ℕ) → 0 < length text → get_or text 0 0 ≡ quote → (result : Option (Bor (List ℕ)))
    → MatchOption result ((word : List ℕ) (after : List ℕ) → ¬ (SplitsString (drop 1 text) word after)) (λ after. (word : List ℕ) × SplitsString (drop 1 text) word after.now)
    → MatchOption result ((word : List ℕ) (after : List ℕ) → ¬ (SplitsWord text word after)) (λ after. (word : List ℕ) × SplitsWord text word after.now)
word_of_string text some q None none = λ word after split. let h = split_string text word after split (begins_quote text some q) in none h.0 after h.2
word_of_string text some q (Some after) h = (quote ∷ h.0, string_split text h.0 after.now some q h.1)

-- The word at another character is the bare word.
pub word_of_rest : (text : List ℕ) → 0 < length text → BeginsWord text → (get_or text 0 0 == quote) ≡ false → (result : Option (Bor (List ℕ)))
    → MatchOption result ((word : List ℕ) (after : List ℕ) → ¬ (SplitsRest text word after)) (λ after. (word : List ℕ) × SplitsRest text word after.now)
    → MatchOption result ((word : List ℕ) (after : List ℕ) → ¬ (SplitsWord text word after)) (λ after. (word : List ℕ) × SplitsWord text word after.now)
word_of_rest text some begins q None none = λ word after split. none word after (split_bare text word after split (begins_no_quote text q))
word_of_rest text some begins q (Some after) h = (h.0, bare_split text h.0 after.now some begins (begins_no_quote text q) h.1)

-- a text begins with one word
same_after : (text first left word after : List ℕ) → SplitsWord text first left → SplitsWord text word after → (b : Bool) → begins_string text ≡ b → left ≡ after
same_after text first left word after h k false b =
    let one = split_after text first left (split_bare text first left h b) in
    let other = split_after text word after (split_bare text word after k b) in
    some_same left after (sym one ∙ other)
same_after text first left word after h k true b =
    let one = split_string text first left h b in
    let other = split_string text word after k b in
    some_same left after (sym (string_split_after (drop 1 text) one.0 left one.2) ∙ string_split_after (drop 1 text) other.0 after other.2)

-- After the first word at most one text is left.
pub one_after : (text first left word after : List ℕ) → SplitsWord text first left → SplitsWord text word after → left ≡ after
one_after text first left word after h k = same_after text first left word after h k (begins_string text) refl

-- A text begins with at most one word.
pub one_word : (text first left word after : List ℕ) → SplitsWord text first left → SplitsWord text word after → first ≡ word
one_word text first left word after h k =
    append_cancel_right first word after (ap (λ (xs : List ℕ). first ++ xs) (sym (one_after text first left word after h k)) ∙ (sym h.whole ∙ k.whole))

-- the text after the first character, as a slice
pub after_first_is : (text : List ℕ) → drop 1 text ≡ take (length text - 1) (drop 1 text)
after_first_is [] = refl
after_first_is (c ∷ text) = sym (take_all (length (c ∷ text) - 1) text (omega arith))

-- the end of a word is the boundary of a character
at_append : (word after : List ℕ) → get_or (word ++ after) (length word) 0 ≡ get_or after 0 0
at_append [] after = refl
at_append (c ∷ word) after = at_append word after

last_quote : (c : ℕ) (rest after : List ℕ) → IsString rest → get_or (c ∷ rest ++ after) (length rest) 0 ≡ quote
last_quote c rest after closed = refl
last_quote c rest after (string_plain {c = d} {rest = left} is h) = last_quote d left after h
last_quote c rest after (string_escaped {c = d} {rest = left} h) = last_quote d left after h

end_ascii : (c : ℕ) → ends_word c ≡ true → c < 128
end_ascii c h = grind (arith, nat_tests)

ends_ascii : (after : List ℕ) → EndsWord after → get_or after 0 0 < 128
ends_ascii [] ends = omega arith
ends_ascii (c ∷ after) ends = end_ascii c ends

abbrev IsBoundary : List ℕ → ℕ → Type 0
IsBoundary text k = k < length text → 128 ≤ get_or text k 0 → 192 ≤ get_or text k 0

boundary_at : (word after : List ℕ) → IsUtf8 (word ++ after) → IsWord word → (begins_string word ≡ false → EndsWord after) → IsBoundary (word ++ after) (length word)
boundary_at word after utf8 (string {rest = rest} h) ends =
    let e = last_quote quote rest after h in
    let next : length rest + 1 ≡ length (quote ∷ rest) = omega arith in
    subst (λ (k : ℕ). IsBoundary (quote ∷ rest ++ after) k) next (lead_after_ascii (quote ∷ rest ++ after) (length rest) utf8 (omega (arith, e)))
boundary_at word after utf8 (bare some other h) ends =
    let e = at_append word after in let small = ends_ascii after (ends other) in λ below high. omega (arith, e, small, high)

-- A word of UTF-8 ends between characters.
pub word_boundary : (text word after : List ℕ) → IsUtf8 text → SplitsWord text word after
    → (length text - length after ≤ length text) × IsBoundary text (length text - length after)
word_boundary text word after utf8 split =
    let whole = split.whole in
    let own = boundary_at word after (subst IsUtf8 whole utf8) split.is split.ends in
    let size = ap length whole in
    let same : length word ≡ length text - length after = omega (arith, size, length-append word after) in
    (omega arith, subst (λ (k : ℕ). IsBoundary text k) same (subst (λ (xs : List ℕ). IsBoundary xs (length word)) (sym whole) own))
