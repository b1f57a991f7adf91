-- The characters that a writer counts.
use Rattle.std.proofs.Common.{◌≡◌, ◌∙◌, ℕ, ◌+◌, List, [], ◌∷◌, ◌++◌, length, length-append, ap, sym, refl, arith, zero-add}
use Rattle.std.specs.List.{FoldsTo, concat}
use Rattle.std.specs.Prelude.{Result, Ok, Err, IsOk, OnErr}
use Rattle.std.specs.declared.fmt.Error.{Error}
use Rattle.dns_print.specs.Printing.{PrintsOnOk}
use Rattle.dns_dig.specs.Near.{near}
use Rattle.dns_dig.specs.declared.count.Count.{Count}
use Rattle.dns_dig.proofs.NearColumns.{near_sums}

-- what the writer takes
abbrev pub CountTakes : Count → List ℕ → Count → Type 0
CountTakes old text new = near new.0 ≡ near (old.0 + length text)

counted : (old : Count) (texts : List (List ℕ)) (new : Count) → FoldsTo CountTakes old texts new → CountTakes old (concat texts) new
counted old [] new same = let none : old.0 ≡ old.0 + 0 = omega arith in ap (λ (c : Count). near c.0) (sym same) ∙ ap near none
counted old (text ∷ texts) new calls =
    let sum : (old.0 + length text) + length (concat texts) ≡ old.0 + length (text ++ concat texts) = omega (arith, length-append text (concat texts)) in
    counted calls.0 texts new calls.2 ∙ (near_sums calls.0.0 (old.0 + length text) (length (concat texts)) (length (concat texts)) calls.1 refl ∙ ap near sum)

never_failed : (r : Result (Unit {0}) Error) → OnErr r ⊥ → IsOk r
never_failed (Ok u) h = refl
never_failed (Err e) h = absurd h

-- A text that was printed from the start is counted whole.
pub counted_whole : (new old : Count) (r : Result (Unit {0}) Error) (text : List ℕ) → PrintsOnOk CountTakes old r text new → OnErr r ⊥ → old.0 ≡ 0 → near new.0 ≡ near (length text)
counted_whole new old r text prints fails start =
    let calls = prints (never_failed r fails) in
    counted old calls.parts new calls.calls ∙ (ap (λ (t : List ℕ). near (old.0 + length t)) calls.whole ∙ (ap (λ n. near (n + length text)) start ∙ ap near (zero-add (length text))))
