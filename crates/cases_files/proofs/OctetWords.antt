-- The words of octets.
use Rattle.std.proofs.Common.{◌≡◌, ◌∙◌, ℕ, ◌+◌, ◌<◌, Any, List, [], ◌∷◌, ◌++◌, length, get_or, take, Bor, refl, ap, sym, subst, append-nil, arith}
use Rattle.std.specs.Prelude.{Result, Ok, Err, Some, None}
use Rattle.std.specs.Result.{result_ok}
use Rattle.std.specs.List.{before_first, concat, repeat, AllZip}
use Rattle.std.proofs.lemmas.List.{get_or-map, length-map, map-append, take_more}
use Rattle.std.proofs.lemmas.List.Folds.{concat-append}
use Rattle.std.proofs.lemmas.Slice.Zip.{all_zipped_more}
use Rattle.hex.specs.Hex.{decode_of}
use Rattle.hex.specs.declared.error.FromHexError.{FromHexError}
use Rattle.cases_files.specs.Line.{count_text, is_star, texts, AppendsWord, AreOctetWords, IsCount, IsNoOctetWord, IsOctetWord}

ok_from : (xs : List ℕ) (r : Result (List ℕ) FromHexError) → Some xs ≡ result_ok r → r ≡ Ok xs
ok_from xs (Ok ys) e = cc
ok_from xs (Err error) e = cc

-- A word whose digits encode nothing represents no octets.
pub no_digits : (word digits : List ℕ) → digits ≡ before_first is_star word → None ≡ result_ok (decode_of digits) → IsNoOctetWord word
no_digits word digits same none = λ octets is.
    let no : None ≡ Some is.part = none ∙ ap (λ (text : List ℕ). result_ok (decode_of text)) same ∙ ap result_ok is.digits in
    cc

-- A word whose count is malformed represents no octets.
pub no_count : (word number : List ℕ) → number ≡ count_text word → ((count : ℕ) → ¬ (IsCount number count)) → IsNoOctetWord word
no_count word number same none = λ octets is. none is.count (subst (λ (text : List ℕ). IsCount text is.count) (sym same) is.number)

-- The octets of a word are appended.
pub appends_word : (word digits number part old new : List ℕ) (count : ℕ) → digits ≡ before_first is_star word → number ≡ count_text word
    → Some part ≡ result_ok (decode_of digits) → IsCount number count → new ≡ old ++ repeat count part → AppendsWord word old new
appends_word word digits number part old new count same same_count decoded counted appended = (
  repeat count part,
  record {
    part = part;
    count = count;
    digits = ok_from part (decode_of (before_first is_star word)) (decoded ∙ ap (λ (text : List ℕ). result_ok (decode_of text)) same);
    number = subst (λ (text : List ℕ). IsCount text count) same_count counted;
    repeated = refl;
  },
  appended,
)

-- One word more is read.
pub words_more : (words : List (Bor (List ℕ))) (i : ℕ) (d : Bor (List ℕ)) (old new : List ℕ) → i < length words → AreOctetWords (texts (take i words)) old
    → AppendsWord (get_or words i d).now old new → AreOctetWords (texts (take (i + 1) words)) new
words_more words i d old new within are appends =
    let word : List ℕ = (get_or words i d).now in
    let split : texts (take (i + 1) words) ≡ texts (take i words) ++ word ∷ [] =
    ap texts (take_more words i d within) ∙ map-append (λ (w : Bor (List ℕ)). w.now) (take i words) (get_or words i d ∷ []) in (
      are.0 ++ appends.0 ∷ [],
      subst (λ (ws : List (List ℕ)). AllZip IsOctetWord ws (are.0 ++ appends.0 ∷ [])) (sym split)
          (all_zipped_more IsOctetWord (texts (take i words)) are.0 word appends.0 are.1 appends.1),
      appends.2 ∙ ap (λ (xs : List ℕ). xs ++ appends.0) are.2 ∙ ap (λ (xs : List ℕ). concat are.0 ++ xs) (sym (append-nil appends.0))
          ∙ sym (concat-append are.0 (appends.0 ∷ [])),
    )

-- A word among others represents no octets.
pub some_word : (words : List (Bor (List ℕ))) (i : ℕ) (d : Bor (List ℕ)) → i < length words → IsNoOctetWord (get_or words i d).now → Any IsNoOctetWord (texts words)
some_word words i d within none = (
  i,
  (get_or words i d).now,
  omega (arith, length-map words (λ (w : Bor (List ℕ)). w.now)),
  get_or-map (λ (w : Bor (List ℕ)). w.now) words i d (get_or words i d).now within,
  none,
)
