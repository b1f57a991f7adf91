use Rattle.std.proofs.Common.{ℕ, List, Bor, subst, arith}
use Rattle.fields_forms.specs.LocationWords.{IsMinutes}
use Rattle.fields_forms.proofs.theory.LocationLemmas.{too_large}
use Rattle.fields_text.proofs.theory.WordLists.{after_is}
use Rattle.fields_forms.proofs.location_words.read_angle.Goals as goal

pub returns-then-angle-most-clause-read : goal.returns-then-angle-most-clause-read
returns-then-angle-most-clause-read c =
    let part = subst (λ (left : List (Bor (List ℕ))). IsMinutes left c.in_ok-part.part) (after_is c.args.words.now) c.in_ok-part.ensures.read in
    too_large c.args.words.now _ c.args.most c.in_ok-degrees.degrees c.in_ok-part.part (omega arith) c.in_ok-degrees.ensures.1 part (omega arith)
