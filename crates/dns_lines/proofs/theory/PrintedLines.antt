-- Lines that are printed, one for each item of a list.
use Rattle.std.proofs.Common.{◌≡◌, ◌∙◌, ℕ, Option, List, [], ◌∷◌, ◌++◌, ap, sym, refl, subst, append_assoc, append-nil, OnOk, Result, Ok, Err, Some, IfSome}
use Rattle.std.specs.Io.KnownBytes.{Appends}
use Rattle.std.specs.List.{flat_map}
use Rattle.dns_lines.proofs.theory.AppendedTexts.{appends_both, appends_none}

module _ {X : Type 0} (line_of : X → List ℕ) where
  -- from `old` to `new`, the writer got the lines of the items of `whole` that aren't in `left`
  pub record Printed (old new : Option (List ℕ)) (left whole : List X) : Type 0 where
    pub done : List ℕ
    pub appended : Appends old new done
    pub rest : done ++ flat_map line_of left ≡ flat_map line_of whole

  -- no line is printed at first
  pub none_printed : (old : Option (List ℕ)) (whole : List X) → Printed old old whole whole
  none_printed old whole = record { done = []; appended = appends_none old; rest = refl }

  -- the line of the next item is printed
  pub more_printed : (a b c : Option (List ℕ)) (x : X) (all xs whole : List X) → Printed a b all whole → all ≡ x ∷ xs → Appends b c (line_of x) → Printed a c xs whole
  more_printed a b c x all xs whole p is h = record {
    done = p.done ++ line_of x;
    appended = appends_both a b c p.done (line_of x) p.appended h;
    rest = append_assoc p.done (line_of x) (flat_map line_of xs) ∙ ap (λ (l : List X). p.done ++ flat_map line_of l) (sym is) ∙ p.rest;
  }

  -- all lines are printed if no item is left
  pub all_printed : (a b : Option (List ℕ)) (left whole : List X) → Printed a b left whole → left ≡ [] → Appends a b (flat_map line_of whole)
  all_printed a b left whole p is =
      subst (λ (l : List ℕ). Appends a b l) (sym (append-nil p.done) ∙ ap (λ (l : List X). p.done ++ flat_map line_of l) (sym is) ∙ p.rest) p.appended

-- a fact about `Ok` that implies another
pub on_ok : {X E P Q : Type 0} (r : Result X E) → (P → Q) → OnOk r P → OnOk r Q
on_ok (Ok x) f h = f h
on_ok (Err e) f h = h

-- a value whose text is known is printed
pub printed_as : {X E : Type 0} (a b : Option (List ℕ)) (output : Option (List ℕ)) (text : List ℕ) (r : Result X E) → output ≡ Some text
    → OnOk r (IfSome output (Appends a b)) → OnOk r (Appends a b text)
printed_as a b output text r is h = subst (λ (o : Option (List ℕ)). OnOk r (IfSome o (Appends a b))) is h

-- a text is printed, and then another
pub printed_then : (a b c : Option (List ℕ)) (xs text after : List ℕ) → xs ≡ text → Appends a b xs → Appends b c after → Appends a c (text ++ after)
printed_then a b c xs text after is h k = appends_both a b c text after (subst (λ (l : List ℕ). Appends a b l) is h) k
