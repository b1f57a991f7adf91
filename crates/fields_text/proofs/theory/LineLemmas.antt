-- The words of a line.
use Rattle.std.proofs.Common.{◌≡◌, ◌∙◌, ◌≢◌, ℕ, zero, suc, ◌+◌, ◌-◌, ◌<◌, ◌≤◌, ◌==◌, get_or, drop, Bool, true, false, List, [], ◌∷◌, ◌++◌, length, refl, sym, ap, subst, arith, eq-eqb, inl, inr, append_assoc, append-nil, length-append}
use Rattle.std.specs.Prelude.{◌↔◌, ◌||◌, if◌then◌else◌}
use Rattle.std.specs.Borrow.{Bor}
use Rattle.std.proofs.lemmas.Bool.{cond-false, cond-true, eqb-true, false≢true, ne_eqb, or_cases, or_left, or_parts, or_right}
use Rattle.fields_text.specs.LineWords.{AreWordsLeft, AreWordsOf, AreWordsWithin, BeginsNoBlank, SkipsBlank, SkipsBlanks, SplitsWord, ends_word, from_newline, is_blank, left_parenthesis, newline, right_parenthesis, semicolon, texts}
use Rattle.fields_text.specs.LineWords.AreWordsWithin.{none, blank, comment, line_end, opened, closed, more}
use Rattle.fields_text.specs.declared.line_words.Left.{Left}
use Rattle.fields_text.proofs.theory.WordLemmas.{BeginsWord, begins_with, one_after, one_word, word_some}

-- what a character between words is
data Sign : Type 0 where
  Blank Semicolon Newline LeftParenthesis RightParenthesis Letter : Sign

abbrev sign_of : ℕ → Sign
sign_of c =
    if is_blank c then Blank
    else if c == semicolon then Semicolon
    else if c == newline then Newline
    else if c == left_parenthesis then LeftParenthesis
    else if c == right_parenthesis then RightParenthesis
    else Letter

-- what a text with words is, after its first character
abbrev Follows : Sign → ℕ → List ℕ → List (List ℕ) → Type 0
Follows Blank depth text words = AreWordsWithin depth text words
Follows Semicolon depth text words = AreWordsWithin depth (from_newline text) words
Follows Newline depth text words = AreWordsWithin depth text words × (depth ≡ 0 → words ≡ [])
Follows LeftParenthesis depth text words = AreWordsWithin (depth + 1) text words
Follows RightParenthesis depth text words = (0 < depth) × AreWordsWithin (depth - 1) text words
Follows Letter depth text words = Unit {0}

letter_sign : (c : ℕ) → ends_word c ≡ false → sign_of c ≡ Letter
letter_sign c h =
    let fourth = or_parts (is_blank c || (c == newline) || (c == left_parenthesis) || (c == right_parenthesis)) (c == semicolon) h in
    let third = or_parts (is_blank c || (c == newline) || (c == left_parenthesis)) (c == right_parenthesis) fourth.0 in
    let second = or_parts (is_blank c || (c == newline)) (c == left_parenthesis) third.0 in
    let first = or_parts (is_blank c) (c == newline) second.0 in
    cond-false _ _ _ first.0 ∙ (cond-false _ _ _ fourth.1 ∙ (cond-false _ _ _ first.1 ∙ (cond-false _ _ _ second.1 ∙ cond-false _ _ _ third.1)))

follows : (depth c : ℕ) (text : List ℕ) (words : List (List ℕ)) → AreWordsWithin depth (c ∷ text) words → Follows (sign_of c) depth text words
follows depth c text words (blank is h) = subst (λ (s : Sign). Follows s depth text words) (sym (cond-true _ _ _ is)) h
follows depth c text words (comment h) = h
follows depth c text words (line_end nothing h) = (h, nothing)
follows depth c text words (opened h) = h
follows depth c text words (closed some h) = (some, h)
follows depth c text words (more {word = word} {after = after} split h) =
    subst (λ (s : Sign). Follows s depth text words) (sym (letter_sign c (begins_with (c ∷ text) word after split))) tt

blank_same : (depth c : ℕ) (text : List ℕ) (words : List (List ℕ)) → is_blank c ≡ true → AreWordsWithin depth (c ∷ text) words ↔ AreWordsWithin depth text words
blank_same depth c text words is =
    (λ h. subst (λ (s : Sign). Follows s depth text words) (cond-true _ _ _ is) (follows depth c text words h), λ h. blank is h)

newline_same : (depth : ℕ) (ended : Bool) (text : List ℕ) (words : List (List ℕ))
    → (AreWordsWithin depth (newline ∷ text) words × (ended ≡ true → words ≡ [])) ↔ (AreWordsWithin depth text words × (ended || (depth == 0) ≡ true → words ≡ []))
newline_same depth ended text words = (
  λ h.
      let own = follows depth newline text words h.0 in
      (own.0, λ e. elim (or_cases ended (depth == 0) e) [ inl t ↦ h.1 t | inr z ↦ own.1 (eqb-true depth 0 z) ]),
  λ h. (line_end (λ z. h.1 (or_right ended (depth == 0) (eq-eqb depth 0 z))) h.0, λ e. h.1 (or_left ended (depth == 0) e)),
)

-- an empty text has no words, and no parenthesis is open
empty_text : (depth : ℕ) (text : List ℕ) (words : List (List ℕ)) → AreWordsWithin depth text words → length text ≡ 0 → (words ≡ []) × (depth ≡ 0)
empty_text depth text words none e = (refl, refl)
empty_text depth text words (blank is h) e = absurd (omega arith)
empty_text depth text words (comment h) e = absurd (omega arith)
empty_text depth text words (line_end nothing h) e = absurd (omega arith)
empty_text depth text words (opened h) e = absurd (omega arith)
empty_text depth text words (closed some h) e = absurd (omega arith)
empty_text depth text words (more {word = word} {after = after} split h) e =
    let some = word_some word split.is in
    let whole = ap length split.whole in
    absurd (omega (arith, e, some, whole, length-append word after))

-- a first word, and the others after it
abbrev HasFirst : ℕ → List ℕ → List (List ℕ) → Type 0
HasFirst depth text words =
    (word after : List ℕ) × (others : List (List ℕ)) × (words ≡ word ∷ others) × SplitsWord text word after × AreWordsWithin depth after others

-- a character that ends a word, unless it is a parenthesis that closes none
ends_no_word : (depth c : ℕ) (text : List ℕ) → ends_word c ≡ true → (c ≡ right_parenthesis → depth ≡ 0 → ⊥) → BeginsNoBlank depth (c ∷ text) → ⊥
ends_no_word depth c text ends other (inl f) = false≢true (sym f ∙ ends)
ends_no_word depth c text ends other (inr h) = other h.0 h.1

blank_ends : (c : ℕ) → is_blank c ≡ true → ends_word c ≡ true
blank_ends c is = or_left _ _ (or_left _ _ (or_left _ _ (or_left _ _ is)))

blank_other : (depth c : ℕ) → is_blank c ≡ true → c ≡ right_parenthesis → depth ≡ 0 → ⊥
blank_other depth c is e shut = false≢true (sym (ap is_blank e) ∙ is)

other_than : (depth c : ℕ) → (c == right_parenthesis) ≡ false → c ≡ right_parenthesis → depth ≡ 0 → ⊥
other_than depth c differs e shut = false≢true (sym differs ∙ eq-eqb c right_parenthesis e)

open_other : (depth : ℕ) → 0 < depth → right_parenthesis ≡ right_parenthesis → depth ≡ 0 → ⊥
open_other depth some e shut = omega (arith, some, shut)

-- a text that isn't empty has a first word, if it begins with no blank
has_first : (depth : ℕ) (text : List ℕ) (words : List (List ℕ)) → AreWordsWithin depth text words → 0 < length text → BeginsNoBlank depth text → HasFirst depth text words
has_first depth text words none some begins = absurd (omega arith)
has_first depth text words (blank {c = c} {text = left} is h) some begins = absurd (ends_no_word depth c left (blank_ends c is) (blank_other depth c is) begins)
has_first depth text words (comment {text = left} h) some begins = absurd (ends_no_word depth semicolon left refl (other_than depth semicolon refl) begins)
has_first depth text words (line_end {text = left} nothing h) some begins = absurd (ends_no_word depth newline left refl (other_than depth newline refl) begins)
has_first depth text words (opened {text = left} h) some begins = absurd (ends_no_word depth left_parenthesis left refl (other_than depth left_parenthesis refl) begins)
has_first depth text words (closed {text = left} unclosed h) some begins = absurd (ends_no_word depth right_parenthesis left refl (open_other depth unclosed) begins)
has_first depth text words (more {word = word} {after = after} {words = others} split h) some begins = (word, after, others, refl, split, h)

-- its first word is the one that it begins with
word_first : (depth : ℕ) (text : List ℕ) (words : List (List ℕ)) (word after : List ℕ) → SplitsWord text word after → AreWordsWithin depth text words → 0 < length text → BeginsNoBlank depth text
    → (others : List (List ℕ)) × (words ≡ word ∷ others) × AreWordsWithin depth after others
word_first depth text words word after split h some begins =
    let first = has_first depth text words h some begins in (
      first.2,
      first.3 ∙ ap (λ (w : List ℕ). let ws : List (List ℕ) = w ∷ first.2 in ws) (one_word text first.0 first.1 word after first.4 split),
      subst (λ (xs : List ℕ). AreWordsWithin depth xs first.2) (one_after text first.0 first.1 word after first.4 split) first.5,
    )

-- a word is no blank
word_no_blank : (depth : ℕ) (text : List ℕ) → BeginsWord text → BeginsNoBlank depth text
word_no_blank depth [] begins = tt
word_no_blank depth (c ∷ text) begins = inl begins

-- a line has at most one list of words
words_same : (depth : ℕ) (line : List ℕ) (first second : List (List ℕ)) → AreWordsWithin depth line first → AreWordsWithin depth line second → first ≡ second
words_same depth line first second none h = sym (empty_text 0 [] second h refl).0
words_same depth line first second (blank {c = c} {text = text} is g) h = words_same depth text first second g ((blank_same depth c text second is).0 h)
words_same depth line first second (comment {text = text} g) h = words_same depth (from_newline text) first second g (follows depth semicolon text second h)
words_same depth line first second (line_end {text = text} nothing g) h = words_same depth text first second g (follows depth newline text second h).0
words_same depth line first second (opened {text = text} g) h = words_same (depth + 1) text first second g (follows depth left_parenthesis text second h)
words_same depth line first second (closed {text = text} some g) h = words_same (depth - 1) text first second g (follows depth right_parenthesis text second h).1
words_same depth line first second (more {word = word} {after = after} {words = words} split g) h =
    let some = word_some word split.is in
    let whole = ap length split.whole in
    let next = word_first depth line second word after split h (omega (arith, some, whole, length-append word after)) (word_no_blank depth line (begins_with line word after split)) in
    ap (λ (ws : List (List ℕ)). let all : List (List ℕ) = word ∷ ws in all) (words_same depth after words next.0 g next.2) ∙ sym next.1

-- A line has at most one list of words.
pub one_list : (line : List ℕ) (first second : List (List ℕ)) → AreWordsOf line first → AreWordsOf line second → first ≡ second
one_list line first second h g = words_same 0 line first second h g

-- the words read so far, and those of what is left, are those of the whole
pub record AreRead (whole : List ℕ) (words : List (List ℕ)) (left : Left) : Type 0 where
  pub completes : (others : List (List ℕ)) → AreWordsLeft left others → AreWordsOf whole (words ++ others)
  pub others : (all : List (List ℕ)) → AreWordsOf whole all → (others : List (List ℕ)) × (all ≡ words ++ others) × AreWordsLeft left others
  pub begins : BeginsNoBlank left.depth left.text.now

-- no words are read
pub none_read : (line : Bor (List ℕ)) (left : Left) → SkipsBlanks (record { text = line; depth = 0; ended = false }) left → AreRead line.now [] left
none_read line left skips = record {
  completes = λ others h. let own = (skips.same others).1 h in own.0;
  others = λ all h. (all, refl, (skips.same all).0 (h, λ e. absurd (false≢true e)));
  begins = skips.begins;
}

-- one word more is read
pub word_read : (whole : List ℕ) (words : List (List ℕ)) (left : Left) (word : List ℕ) (after : Bor (List ℕ)) (next : Left) → AreRead whole words left → 0 < length left.text.now → left.ended ≡ false
    → SplitsWord left.text.now word after.now → SkipsBlanks (record { text = after; depth = left.depth; ended = false }) next → AreRead whole (words ++ word ∷ []) next
word_read whole words left word after next r some going split skips = record {
  completes = λ others h.
      let own = (skips.same others).1 h in
      rw (append_assoc words (word ∷ []) others) (r.completes (word ∷ others) (more split own.0, λ e. absurd (false≢true (sym going ∙ e))));
  others = λ all h.
      let before = r.others all h in
      let own = before.2 in
      let first = word_first left.depth left.text.now before.0 word after.now split own.0 some r.begins in (
        first.0,
        before.1 ∙ ap (λ (ws : List (List ℕ)). words ++ ws) first.1 ∙ sym (append_assoc words (word ∷ []) first.0),
        (skips.same first.0).0 (first.2, λ e. absurd (false≢true e)),
      );
  begins = skips.begins;
}

-- all words are read
at_end : (depth : ℕ) (text : List ℕ) → length text ≡ 0 → depth ≡ 0 → AreWordsWithin depth text []
at_end depth [] empty shut = subst (λ (d : ℕ). AreWordsWithin d [] []) (sym shut) none
at_end depth (c ∷ text) empty shut = absurd (omega arith)

-- If nothing is left and no parenthesis is open, the words are those of the line.
pub all_read : (whole : List ℕ) (words : List (List ℕ)) (left : Left) → AreRead whole words left → length left.text.now ≡ 0 → left.depth ≡ 0 → AreWordsOf whole words
all_read whole words left r empty shut =
    subst (λ (ws : List (List ℕ)). AreWordsOf whole ws) (append-nil words) (r.completes [] (at_end left.depth left.text.now empty shut, λ e. refl))

-- a parenthesis is open at the end
pub left_open : (whole : List ℕ) (words : List (List ℕ)) (left : Left) → AreRead whole words left → length left.text.now ≡ 0 → 0 < left.depth → (all : List (List ℕ)) → ¬ AreWordsOf whole all
left_open whole words left r empty unclosed all h =
    let before = r.others all h in
    let own = before.2 in
    let shut = (empty_text left.depth left.text.now before.0 own.0 empty).1 in
    omega (arith, unclosed, shut)

-- a text that begins with no word, or goes on after the end of the line, has no words
next_word : (whole : List ℕ) (words : List (List ℕ)) (left : Left) → AreRead whole words left → 0 < length left.text.now → (all : List (List ℕ)) → AreWordsOf whole all
    → (others : List (List ℕ)) × HasFirst left.depth left.text.now others × (left.ended ≡ true → others ≡ [])
next_word whole words left r some all h =
    let before = r.others all h in
    let own = before.2 in
    (before.0, has_first left.depth left.text.now before.0 own.0 some r.begins, own.1)

-- If what is left begins with no word, the line has no words.
pub no_words : (whole : List ℕ) (words : List (List ℕ)) (left : Left) → AreRead whole words left → 0 < length left.text.now
    → ((word : List ℕ) (after : List ℕ) → ¬ (SplitsWord left.text.now word after))
    → (all : List (List ℕ)) → ¬ AreWordsOf whole all
no_words whole words left r some unsplit all h = let next = next_word whole words left r some all h in let first = next.1 in unsplit first.0 first.1 first.4

-- If something is left after the end, the line has no words.
pub after_end : (whole : List ℕ) (words : List (List ℕ)) (left : Left) → AreRead whole words left → 0 < length left.text.now → left.ended ≡ true → (all : List (List ℕ)) → ¬ AreWordsOf whole all
after_end whole words left r some ended all h =
    let next = next_word whole words left r some all h in
    let first = next.1 in
    let nothing = next.2 ended in
    absurd (cc (nothing, first.3))

-- the text after the word is shorter
pub word_shorter : (text word after : List ℕ) → SplitsWord text word after → length after < length text
word_shorter text word after split =
    let size = word_some word split.is in
    let whole = ap length split.whole in
    omega (arith, size, whole, length-append word after)

-- the texts of one word more
pub texts_more : (words : List (Bor (List ℕ))) (word : Bor (List ℕ)) → texts (words ++ word ∷ []) ≡ texts words ++ word.now ∷ []
texts_more [] word = refl
texts_more (first ∷ words) word = ap (λ (ws : List (List ℕ)). let all : List (List ℕ) = first.now ∷ ws in all) (texts_more words word)

-- the text from a newline on
pub from_newline_size : (text : List ℕ) → length (from_newline text) ≤ length text
from_newline_size [] = omega arith
from_newline_size (c ∷ text) = by_test (c == newline) (from_newline_size text) where
  by_test : (b : Bool) → length (from_newline text) ≤ length text → length (if b then c ∷ text else from_newline text) ≤ length (c ∷ text)
  by_test true shorter = omega arith
  by_test false shorter = omega arith

-- A comment ends at the first newline.
pub newline_at : (text : List ℕ) (k : ℕ) → k < length text → get_or text k 0 ≡ newline → ((i : ℕ) → i < k → get_or text i 0 ≢ newline) → from_newline text ≡ drop k text
newline_at [] k small here before = absurd (omega arith)
newline_at (c ∷ text) zero small here before = cond-true _ _ _ (eq-eqb c newline here)
newline_at (c ∷ text) (suc k) small here before =
    cond-false _ _ _ (ne_eqb c newline (before 0 (omega arith))) ∙ newline_at text k (omega arith) here (λ i h. before (suc i) (omega arith))

-- Without a newline a comment ends with the text.
pub no_newline : (text : List ℕ) → ((i : ℕ) → i < length text → get_or text i 0 ≢ newline) → from_newline text ≡ []
no_newline [] absent = refl
no_newline (c ∷ text) absent =
    cond-false _ _ _ (ne_eqb c newline (absent 0 (omega arith))) ∙ no_newline text (λ i h. absent (suc i) (omega arith))

-- more is skipped
pub skips_more : (start left after : Left) → ((words : List (List ℕ)) → AreWordsLeft start words ↔ AreWordsLeft left words) → SkipsBlank left after
    → (words : List (List ℕ)) → AreWordsLeft start words ↔ AreWordsLeft after words
skips_more start left after same skips words = (λ h. (skips.same words).0 ((same words).0 h), λ h. (same words).1 ((skips.same words).1 h))

-- a text by its first character
pub first_and : (text after : List ℕ) → 0 < length text → after ≡ drop 1 text → text ≡ get_or text 0 0 ∷ after
first_and [] after some e = absurd (omega arith)
first_and (c ∷ text) after some e = ap (λ (xs : List ℕ). c ∷ xs) (sym e)

-- a character between words is skipped
abbrev AreLeft : ℕ → List ℕ → Bool → List (List ℕ) → Type 0
AreLeft depth text ended words = AreWordsWithin depth text words × (ended ≡ true → words ≡ [])

module _ (left : Left) (after : Bor (List ℕ)) (c : ℕ) (whole : left.text.now ≡ c ∷ after.now) where
  skips_to : (depth : ℕ) (ended : Bool) → depth ≤ left.depth + 1
      → ((words : List (List ℕ)) → AreLeft left.depth (c ∷ after.now) left.ended words ↔ AreLeft depth after.now ended words)
      → SkipsBlank left (record { text = after; depth = depth; ended = ended })
  skips_to depth ended near same =
      let size = ap length whole in record {
        same = λ words. subst (λ (xs : List ℕ). AreLeft left.depth xs left.ended words ↔ AreLeft depth after.now ended words) (sym whole) (same words);
        shorter = omega (arith, size);
        fits = omega (arith, size, near);
      }

  -- a blank character is skipped, and as many parentheses are open after it as before
  pub skip_character : is_blank c ≡ true → SkipsBlank left (record { text = after; depth = left.depth; ended = left.ended })
  skip_character is =
      skips_to left.depth left.ended (omega arith)
      (λ words. let same = blank_same left.depth c after.now words is in (λ h. (same.0 h.0, h.1), λ h. (same.1 h.0, h.1)))

  -- a newline is skipped, and the line ends there if no parenthesis is open
  pub skip_newline : c ≡ newline → SkipsBlank left (record { text = after; depth = left.depth; ended = left.ended || (left.depth == 0) })
  skip_newline is =
      skips_to left.depth (left.ended || (left.depth == 0)) (omega arith)
      (λ words. subst (λ (x : ℕ). AreLeft left.depth (x ∷ after.now) left.ended words ↔ AreLeft left.depth after.now (left.ended || (left.depth == 0)) words) (sym is)
      (newline_same left.depth left.ended after.now words))

  -- a left parenthesis is skipped, and one parenthesis more is open after it
  pub skip_left : c ≡ left_parenthesis → SkipsBlank left (record { text = after; depth = left.depth + 1; ended = left.ended })
  skip_left is =
      skips_to (left.depth + 1) left.ended (omega arith)
      (λ words. subst (λ (x : ℕ). AreLeft left.depth (x ∷ after.now) left.ended words ↔ AreLeft (left.depth + 1) after.now left.ended words) (sym is)
      (λ h. (follows left.depth left_parenthesis after.now words h.0, h.1), λ h. (opened h.0, h.1)))

  -- if a parenthesis is open, a right parenthesis is skipped, and one parenthesis fewer is open after it
  pub skip_right : c ≡ right_parenthesis → 0 < left.depth → SkipsBlank left (record { text = after; depth = left.depth - 1; ended = left.ended })
  skip_right is some =
      skips_to (left.depth - 1) left.ended (omega arith)
      (λ words. subst (λ (x : ℕ). AreLeft left.depth (x ∷ after.now) left.ended words ↔ AreLeft (left.depth - 1) after.now left.ended words) (sym is)
      (λ h. ((follows left.depth right_parenthesis after.now words h.0).1, h.1), λ h. (closed some h.0, h.1)))

-- a comment is skipped
pub skip_comment : (left : Left) (after : Bor (List ℕ)) → 0 < length left.text.now → get_or left.text.now 0 0 ≡ semicolon → after.now ≡ from_newline left.text.now
    → SkipsBlank left (record { text = after; depth = left.depth; ended = left.ended })
skip_comment left after some is e =
    let whole = first_and left.text.now (drop 1 left.text.now) some refl ∙ ap (λ (x : ℕ). x ∷ drop 1 left.text.now) is in
    let same : after.now ≡ from_newline (drop 1 left.text.now) = e ∙ ap from_newline whole in
    let fewer = from_newline_size (drop 1 left.text.now) in
    let size = ap length whole in
    let short : length after.now < length left.text.now = omega (arith, ap length same, fewer, size) in record {
      same = λ words. (
        λ h. (
          subst (λ (xs : List ℕ). AreWordsWithin left.depth xs words) (sym same)
              (follows left.depth semicolon (drop 1 left.text.now) words (subst (λ (xs : List ℕ). AreWordsWithin left.depth xs words) whole h.0)),
          h.1,
        ),
        λ h. (subst (λ (xs : List ℕ). AreWordsWithin left.depth xs words) (sym whole) (comment (subst (λ (xs : List ℕ). AreWordsWithin left.depth xs words) same h.0)), h.1),
      );
      shorter = short;
      fits = omega (arith, short);
    }
