use Rattle.std.proofs.Common.{ℕ, Any, List, ◌∙◌, ap, subst}
use Rattle.std.specs.Prelude.{IfOk, MatchOption}
use Rattle.cases_files.specs.Line.{texts, AreOctetWords, IsNoOctetWord}
use Rattle.cases_files.proofs.line.octets_of.Goals as goal

pub returns : goal.returns
returns c =
    subst (λ (words : List (List ℕ)). IfOk c.octets_of_words.result (λ found. MatchOption found (Any IsNoOctetWord words) (λ octets. AreOctetWords words octets.items)))
    (ap texts c.as_slice.ensures.value ∙ c.in_ok-words.ensures) c.octets_of_words.ensures
