-- Lines of a section that are printed one after another, below its heading.
use Rattle.std.proofs.Common.{◌≡◌, ◌∙◌, ℕ, Bool, true, false, List, [], ◌∷◌, ◌++◌, ap, sym, refl, subst, append_assoc, append-nil, codes, map}
use Rattle.std.specs.Fmt.{WritesInCalls}
use Rattle.std.specs.List.{concat, flat_map}
use Rattle.dns_print.proofs.theory.Prints.{print_none, print_append}
use Rattle.dns_dig.specs.Lines.{begun_after, end_text, line_text, lines_text}
use Rattle.dns_dig.specs.Sections.{section_text}

lines_later : (heading : List ℕ) (lines : List (List ℕ)) → lines_text heading true lines ≡ concat lines
lines_later heading [] = refl
lines_later heading (line ∷ lines) = ap (λ (l : List ℕ). line ++ l) (lines_later heading lines)

-- All lines and the empty line are the section.
pub section_made : (heading : List ℕ) (lines : List (List ℕ)) → lines_text heading false lines ++ end_text (begun_after false lines) ≡ section_text heading lines
section_made heading [] = refl
section_made heading (line ∷ lines) =
    ap (λ (l : List ℕ). ((heading ++ line) ++ l) ++ codes "\n") (lines_later heading lines)
    ∙ (ap (λ (l : List ℕ). l ++ codes "\n") (append_assoc heading line (concat lines)) ∙ append_assoc heading (line ++ concat lines) (codes "\n"))

-- an item that has one line
abbrev pub one_line : {X : Type 0} → (X → List ℕ) → X → List (List ℕ)
one_line line_of x = line_of x ∷ []

-- The lines of such items are the line of each.
pub lines_mapped : {X : Type 0} (line_of : X → List ℕ) (xs : List X) → flat_map (one_line line_of) xs ≡ map line_of xs
lines_mapped line_of [] = refl
lines_mapped line_of (x ∷ xs) = ap (λ (l : List (List ℕ)). line_of x ∷ l) (lines_mapped line_of xs)

begun_stays : (ls : List (List ℕ)) → begun_after true ls ≡ true
begun_stays [] = refl
begun_stays (l ∷ ls) = refl

-- Lines, and then others.
pub lines_text-append : (heading : List ℕ) (begun : Bool) (lines others : List (List ℕ))
    → lines_text heading begun (lines ++ others) ≡ lines_text heading begun lines ++ lines_text heading (begun_after begun lines) others
lines_text-append heading begun [] others = refl
lines_text-append heading begun (line ∷ lines) others =
    ap (λ (l : List ℕ). line_text heading begun line ++ l)
    (lines_text-append heading true lines others ∙ ap (λ (b : Bool). lines_text heading true lines ++ lines_text heading b others) (begun_stays lines))
    ∙ sym (append_assoc (line_text heading begun line) (lines_text heading true lines) (lines_text heading true others))

begun_after-append : (begun : Bool) (lines others : List (List ℕ)) → begun_after begun (lines ++ others) ≡ begun_after (begun_after begun lines) others
begun_after-append begun [] others = refl
begun_after-append begun (line ∷ lines) [] = refl
begun_after-append begun (line ∷ lines) (other ∷ others) = refl

module _ {W X : Type 0} (takes : W → List ℕ → W → Type 0) (heading : List ℕ) (lines_of : X → List (List ℕ)) where
  -- From `old` to `new`, the writer got the lines of the items of `whole` that aren't in `left`. The heading is printed if `begun`.
  pub record LinesPrinted (old new : W) (begun : Bool) (left whole : List X) : Type 0 where
    pub done : List (List ℕ)
    pub wrote : WritesInCalls takes old (lines_text heading false done) new
    pub headed : begun ≡ begun_after false done
    pub rest : done ++ flat_map lines_of left ≡ flat_map lines_of whole

  -- no line is printed at first
  pub no_lines_printed : (old : W) (left whole : List X) → left ≡ whole → LinesPrinted old old false left whole
  no_lines_printed old left whole is = record { done = []; wrote = print_none takes old; headed = refl; rest = ap (flat_map lines_of) is }

  -- the lines of the next item are printed
  pub next_lines_printed : (old mid new : W) (begun next : Bool) (x : X) (left rest whole : List X) → LinesPrinted old mid begun left whole → left ≡ x ∷ rest
      → WritesInCalls takes mid (lines_text heading begun (lines_of x)) new → next ≡ begun_after begun (lines_of x) → LinesPrinted old new next rest whole
  next_lines_printed old mid new begun next x left rest whole p is wrote after =
      let text : lines_text heading false p.done ++ lines_text heading begun (lines_of x) ≡ lines_text heading false (p.done ++ lines_of x) =
      ap (λ (b : Bool). lines_text heading false p.done ++ lines_text heading b (lines_of x)) p.headed ∙ sym (lines_text-append heading false p.done (lines_of x)) in
      record {
        done = p.done ++ lines_of x;
        wrote = subst (λ (t : List ℕ). WritesInCalls takes old t new) text (print_append takes old mid new _ _ p.wrote wrote);
        headed = after ∙ (ap (λ (b : Bool). begun_after b (lines_of x)) p.headed ∙ sym (begun_after-append false p.done (lines_of x)));
        rest = append_assoc p.done (lines_of x) (flat_map lines_of rest) ∙ (ap (λ (l : List X). p.done ++ flat_map lines_of l) (sym is) ∙ p.rest);
      }

  -- all lines are printed if no item is left, and then the empty line
  pub all_lines_printed : (old mid new : W) (begun : Bool) (left whole : List X) → LinesPrinted old mid begun left whole → left ≡ [] → WritesInCalls takes mid (end_text begun) new
      → WritesInCalls takes old (section_text heading (flat_map lines_of whole)) new
  all_lines_printed old mid new begun left whole p none end =
      let all : p.done ≡ flat_map lines_of whole = sym (append-nil p.done) ∙ (ap (λ (l : List X). p.done ++ flat_map lines_of l) (sym none) ∙ p.rest) in
      let text : lines_text heading false p.done ++ end_text begun ≡ section_text heading (flat_map lines_of whole) =
      ap (λ (b : Bool). lines_text heading false p.done ++ end_text b) p.headed ∙ (section_made heading p.done ∙ ap (section_text heading) all) in
      subst (λ (t : List ℕ). WritesInCalls takes old t new) text (print_append takes old mid new _ _ p.wrote end)
