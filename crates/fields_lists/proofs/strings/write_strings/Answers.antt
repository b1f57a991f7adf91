use Rattle.std.proofs.Common.{◌≡◌, ◌∷◌, [], ℕ, List, ap, codes, map, rules}
use Rattle.fields_text.proofs.theory.Printing.{none_printed, words_printed}
use Rattle.fields_lists.specs.ItemsLeft.{strings_left}
use Rattle.fields_text.specs.Separated.{separated}
use Rattle.fields_lists.specs.Strings.{strings_of}
use Rattle.fields_text.specs.String.{quoted}
use Rattle.fields_lists.proofs.strings.write_strings.Goals as goal

pub loop-string-init : goal.loop-string-init
loop-string-init g c =
    let left : strings_left c.into_iter-string-iterator.result ≡ strings_of c.args.octets.now = search rules in
    record { can = tt; finite = tt; utf8 = search rules; printing = none_printed _ _ _ _ (ap (λ (ss : List (List ℕ)). separated [] (codes " ") (map quoted ss)) left) }

pub loop-string-preserved : goal.loop-string-preserved
loop-string-preserved g c =
    let left : strings_left c.loop-string.string-iterator ≡ c.in-Some.string.now ∷ strings_left c.next.new.self = search rules in
    record {
      can = tt;
      finite = tt;
      utf8 = search rules;
      printing =
          let space = c.write_text.ensures.text (search rules) in
          let word = c.write_quoted.ensures.text (search rules) in
          words_printed _ _ _ _ _ _ _ _ _ _ c.loop-string.invariant.printing space word
          (ap (λ (ss : List (List ℕ)). separated c.loop-string.separator.now (codes " ") (map quoted ss)) left);
    }
