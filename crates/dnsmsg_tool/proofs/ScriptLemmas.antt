-- Words of scripts, with a space after each.
use Rattle.std.proofs.Common.{◌≡◌, ◌∙◌, ℕ, ◌+◌, ◌<◌, List, [], ◌∷◌, ◌++◌, length, get_or, take, ap, sym, append_assoc, append-nil}
use Rattle.std.proofs.lemmas.Grind.{flat_map-append}
use Rattle.std.proofs.lemmas.List.{take_more}
use Rattle.std.specs.Borrow.{Bor}
use Rattle.dnsmsg_tool.specs.ScriptWords.{LineWords, spaced_words}

-- one word more, with its space
pub spaced_more : (words : LineWords) (i : ℕ) (d : Bor (List ℕ)) → i < length words
    → spaced_words (take (i + 1) words) ≡ (spaced_words (take i words) ++ (get_or words i d).now) ++ 32 ∷ []
spaced_more words i d h =
    let word = get_or words i d in
    ap spaced_words (take_more words i d h)
    ∙ flat_map-append (λ (w : Bor (List ℕ)). w.now ++ 32 ∷ []) (take i words) (word ∷ [])
    ∙ ap (λ (t : List ℕ). spaced_words (take i words) ++ t) (append-nil (word.now ++ 32 ∷ []))
    ∙ sym (append_assoc (spaced_words (take i words)) word.now (32 ∷ []))
