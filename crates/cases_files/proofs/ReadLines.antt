-- The lines of a text, and those that an iterator has left.
use Rattle.std.proofs.Common.{◌≡◌, ℕ, true, false, Some, None, List, [], ◌∷◌, ◌++◌, filter, Bor, sym, ap, subst, ◌∙◌, append_assoc, rules}
use Rattle.std.specs.Str.Iter.{lines_steps}
use Rattle.std.specs.declared.str.Lines.{Lines}
use Rattle.std.specs.Global.{Vec}
use Rattle.std.proofs.lemmas.Iterator.{YieldsList}
use Rattle.std.proofs.lemmas.Grind.{flat_map-append}
use Rattle.std.proofs.lemmas.List.{map-append}
use Rattle.cases_files.specs.Block.{all_lines, is_kept}
use Rattle.cases_files.specs.Line.{texts}

-- the kept lines of a text are these, and those that the iterator has left
pub record HasRead (text done : List (List ℕ)) (s : Lines) : Type 0 where
  pub rest : List (List ℕ)
  pub yields : YieldsList lines_steps (λ line. line.now) s rest
  pub kept : done ++ filter is_kept rest ≡ filter is_kept text

filter_false : (x : List ℕ) (xs : List (List ℕ)) → is_kept x ≡ false → filter is_kept (x ∷ xs) ≡ filter is_kept xs
filter_false x xs e = search (rules, e)

filter_true : (x : List ℕ) (xs : List (List ℕ)) → is_kept x ≡ true → filter is_kept (x ∷ xs) ≡ x ∷ filter is_kept xs
filter_true x xs e = search (rules, e)

step_left : (text done rest : List (List ℕ)) (s t : Lines) (line : Bor (List ℕ)) → YieldsList lines_steps (λ line. line.now) s rest → done ++ filter is_kept rest ≡ filter is_kept text
    → lines_steps s (Some line) t → is_kept line.now ≡ false → HasRead text done t
step_left text done [] s t line yields kept step left = absurd (yields.runs line t step)
step_left text done (x ∷ xs) s t line yields kept step left =
    let next = yields.runs.1 line t step in
    record {
      rest = xs;
      yields = record { runs = next.1 };
      kept = sym (ap (λ left. done ++ left) (filter_false x xs (ap is_kept (sym next.0) ∙ left))) ∙ kept;
    }

-- a line that is left out
pub skips : {text done after : List (List ℕ)} {s : Lines} (line : Bor (List ℕ)) (t : Lines) → HasRead text done s → lines_steps s (Some line) t
    → is_kept line.now ≡ false → done ≡ after → HasRead text after t
skips {text} {done} {s = s} line t read step left e = subst (λ after. HasRead text after t) e (step_left text done read.rest s t line read.yields read.kept step left)

step_kept : (text done rest : List (List ℕ)) (s t : Lines) (line : Bor (List ℕ)) → YieldsList lines_steps (λ line. line.now) s rest → done ++ filter is_kept rest ≡ filter is_kept text
    → lines_steps s (Some line) t → is_kept line.now ≡ true → HasRead text (done ++ line.now ∷ []) t
step_kept text done [] s t line yields kept step left = absurd (yields.runs line t step)
step_kept text done (x ∷ xs) s t line yields kept step left =
    let next = yields.runs.1 line t step in
    let same : x ≡ line.now = sym next.0 in
    record {
      rest = xs;
      yields = record { runs = next.1 };
      kept = append_assoc done (line.now ∷ []) (filter is_kept xs) ∙ sym (ap (λ left. done ++ left) (filter_true x xs (ap is_kept same ∙ left) ∙ ap (λ y. y ∷ filter is_kept xs) same)) ∙ kept;
    }

-- a line that is kept
pub keeps : {text done after : List (List ℕ)} {s : Lines} (line : Bor (List ℕ)) (t : Lines) → HasRead text done s → lines_steps s (Some line) t
    → is_kept line.now ≡ true → done ++ line.now ∷ [] ≡ after
    → HasRead text after t
keeps {text} {done} {s = s} line t read step kept e = subst (λ after. HasRead text after t) e (step_kept text done read.rest s t line read.yields read.kept step kept)

step_end : (text done rest : List (List ℕ)) (s t : Lines) → YieldsList lines_steps (λ line. line.now) s rest → done ++ filter is_kept rest ≡ filter is_kept text
    → lines_steps s None t → done ≡ filter is_kept text
step_end text done [] s t yields kept step = search (rules, kept)
step_end text done (x ∷ xs) s t yields kept step = absurd (yields.runs.0 t step)

-- no line is left
pub ends : {text done : List (List ℕ)} {s t : Lines} → HasRead text done s → lines_steps s None t → done ≡ filter is_kept text
ends {text} {done} {s} {t} read step = step_end text done read.rest s t read.yields read.kept step

-- the lines of blocks, and of one more
pub all_lines-push : (blocks : List (Vec (Bor (List ℕ)))) (block : Vec (Bor (List ℕ))) → all_lines (blocks ++ block ∷ []) ≡ all_lines blocks ++ texts block.items
all_lines-push blocks block = flat_map-append (λ block. texts block.items) blocks (block ∷ []) ∙ search rules

-- each line is left, before the first is read
pub starts : (text : List (List ℕ)) (s : Lines) → YieldsList lines_steps (λ line. line.now) s text → HasRead text [] s
starts text s yields = record { rest = text; yields = yields; kept = search rules }

-- a line after those of blocks and of a further block
pub texts-push : (done : List (List ℕ)) (block : List (Bor (List ℕ))) (line : Bor (List ℕ)) → (done ++ texts block) ++ line.now ∷ [] ≡ done ++ texts (block ++ line ∷ [])
texts-push done block line = append_assoc done (texts block) (line.now ∷ []) ∙ ap (λ lines. done ++ lines) (sym (map-append (λ line. line.now) block (line ∷ [])))
