-- Texts of items that are printed one after another.
use Rattle.std.proofs.Common.{◌≡◌, ◌∙◌, ℕ, List, [], ◌∷◌, ◌++◌, ap, sym, subst, append_assoc, append-nil}
use Rattle.std.specs.Fmt.{WritesInCalls}
use Rattle.std.specs.List.{flat_map}
use Rattle.dns_print.proofs.theory.Prints.{print_none, print_append}

module _ {W X : Type 0} (takes : W → List ℕ → W → Type 0) (text_of : X → List ℕ) where
  -- From `old` to `new`, the writer got the texts of the items of `whole` that aren't in `left`.
  pub record EachPrinted (old new : W) (left whole : List X) : Type 0 where
    pub done : List ℕ
    pub wrote : WritesInCalls takes old done new
    pub rest : done ++ flat_map text_of left ≡ flat_map text_of whole

  -- no item is printed at first
  pub none_printed : (old : W) (left whole : List X) → left ≡ whole → EachPrinted old old left whole
  none_printed old left whole is = record { done = []; wrote = print_none takes old; rest = ap (flat_map text_of) is }

  -- the next item is printed
  pub next_printed : (old mid new : W) (x : X) (left rest whole : List X) → EachPrinted old mid left whole → left ≡ x ∷ rest
      → WritesInCalls takes mid (text_of x) new → EachPrinted old new rest whole
  next_printed old mid new x left rest whole p is wrote = record {
    done = p.done ++ text_of x;
    wrote = print_append takes old mid new p.done (text_of x) p.wrote wrote;
    rest = append_assoc p.done (text_of x) (flat_map text_of rest) ∙ (ap (λ (l : List X). p.done ++ flat_map text_of l) (sym is) ∙ p.rest);
  }

  -- all items are printed if none is left
  pub all_printed : (old new : W) (left whole : List X) → EachPrinted old new left whole → left ≡ [] → WritesInCalls takes old (flat_map text_of whole) new
  all_printed old new left whole p none =
      subst (λ (l : List ℕ). WritesInCalls takes old l new) (sym (append-nil p.done) ∙ (ap (λ (l : List X). p.done ++ flat_map text_of l) (sym none) ∙ p.rest)) p.wrote
