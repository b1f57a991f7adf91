-- Texts that are printed part by part.
use Rattle.std.proofs.Common.{◌≡◌, ◌∙◌, ℕ, List, [], ◌++◌, Option, Some, None, ap, sym, refl, subst, append_assoc, append-nil}
use Rattle.std.specs.declared.fmt.Error.{Error}
use Rattle.std.specs.Fmt.{WritesInCalls, ◌++?◌}
use Rattle.std.specs.Option.{unwrap_or}
use Rattle.std.specs.Prelude.{Result, IsOk, IfSome, OnSome, OnErr}
use Rattle.dns_print.specs.Printing.{PrintsOnOk}
use Rattle.dns_print.proofs.theory.Prints.{print_none, print_append}

module _ {W : Type 0} (takes : W → List ℕ → W → Type 0) where
  -- from f to g, the text `all` was printed but for `left`
  pub record Printing (f g : W) (left all : List ℕ) : Type 0 where
    pub printed : List ℕ
    pub wrote : WritesInCalls takes f printed g
    pub rest : printed ++ left ≡ all

  -- nothing is printed at first
  pub none_printed : (f : W) (left all : List ℕ) → left ≡ all → Printing f f left all
  none_printed f left all e = record { printed = []; wrote = print_none takes f; rest = e }

  -- a word more is printed
  pub word_printed : (f g h : W) (left word after all : List ℕ) → Printing f g left all → WritesInCalls takes g word h → left ≡ word ++ after → Printing f h after all
  word_printed f g h left word after all p w e = record {
    printed = p.printed ++ word;
    wrote = print_append takes f g h p.printed word p.wrote w;
    rest = append_assoc p.printed word after ∙ ap (λ (l : List ℕ). p.printed ++ l) (sym e) ∙ p.rest;
  }

  -- a separator and a word more are printed
  pub words_printed : (f g h i : W) (left separator word after all : List ℕ) → Printing f g left all → WritesInCalls takes g separator h → WritesInCalls takes h word i
      → left ≡ (separator ++ word) ++ after → Printing f i after all
  words_printed f g h i left separator word after all p s w e =
      word_printed f g i left (separator ++ word) after all p (print_append takes g h i separator word s w) e

  -- all is printed if nothing is left
  pub all_printed : (f g : W) (left all : List ℕ) → Printing f g left all → left ≡ [] → WritesInCalls takes f all g
  all_printed f g left all p e =
      subst (λ (l : List ℕ). WritesInCalls takes f l g) (sym (append-nil p.printed) ∙ ap (λ (l : List ℕ). p.printed ++ l) (sym e) ∙ p.rest) p.wrote

  -- if there is a text `all`, there is a text `left`, and all was printed but for it
  abbrev pub PrintingIfAll : W → W → Option (List ℕ) → Option (List ℕ) → Type 0
  PrintingIfAll f g left None = Unit {0}
  PrintingIfAll f g left (Some all) = (rest : List ℕ) × (left ≡ Some rest) × Printing f g rest all

  -- nothing is printed at first
  pub none_printed_if : (f : W) (left all : Option (List ℕ)) → left ≡ all → PrintingIfAll f f left all
  none_printed_if f left None e = tt
  none_printed_if f left (Some all) e = (all, e, none_printed f all all refl)

  joined : (f g h : W) (r : Result (Unit {0}) Error) (word after : Option (List ℕ)) (rest all : List ℕ) → Printing f g rest all → IfSome word (λ text. PrintsOnOk takes g r text h) → IsOk r
      → word ++? after ≡ Some rest → PrintingIfAll f h after (Some all)
  joined f g h r None after rest all p d ok e = cc
  joined f g h r (Some word) None rest all p d ok e = cc
  joined f g h r (Some word) (Some after) rest all p d ok e =
      let is : rest ≡ word ++ after = ap (λ (o : Option (List ℕ)). unwrap_or o []) (sym e) in
      (after, refl, word_printed f g h rest word after all p (d ok) is)

  -- a word more is printed, if it has a text
  pub word_printed_if : (f g h : W) (r : Result (Unit {0}) Error) (left word after all : Option (List ℕ)) → PrintingIfAll f g left all → IfSome word (λ text. PrintsOnOk takes g r text h) → IsOk r
      → left ≡ word ++? after → PrintingIfAll f h after all
  word_printed_if f g h r left word after None p d ok e = tt
  word_printed_if f g h r left word after (Some all) p d ok e = joined f g h r word after p.0 all p.2 d ok (sym e ∙ p.1)

  -- two words, the second if it has a text
  pub put_two_if : (f g h : W) (r : Result (Unit {0}) Error) (first : List ℕ) (word : Option (List ℕ)) → WritesInCalls takes f first g → IfSome word (λ text. PrintsOnOk takes g r text h)
      → IfSome (Some first ++? word) (λ text. PrintsOnOk takes f r text h)
  put_two_if f g h r first None p d = tt
  put_two_if f g h r first (Some word) p d = λ ok. print_append takes f g h first word p (d ok)

  -- all is printed if what is left is printed
  pub left_printed : (f g h : W) (left all : List ℕ) → Printing f g left all → WritesInCalls takes g left h → WritesInCalls takes f all h
  left_printed f g h left all p w = subst (λ (l : List ℕ). WritesInCalls takes f l h) p.rest (print_append takes f g h p.printed left p.wrote w)

-- The last of two words fails only if the writer does.
pub fails_after : (MayFail : Type 0) (r : Result (Unit {0}) Error) (first : List ℕ) (word : Option (List ℕ)) → OnSome word (OnErr r MayFail) → OnSome (Some first ++? word) (OnErr r MayFail)
fails_after MayFail r first None d = tt
fails_after MayFail r first (Some word) d = d
