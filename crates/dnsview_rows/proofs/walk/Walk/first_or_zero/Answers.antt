use Rattle.std.proofs.Common.{◌∙◌, ap, sym, ℕ, Option}
use Rattle.std.specs.Option.{unwrap_or}
use Rattle.std.proofs.lemmas.Option.{unwrap_or-slice_get}
use Rattle.dnsview_rows.specs.Walks.{at, octets}
use Rattle.dnsview_rows.proofs.walk.Walk.first_or_zero.Goals as goal

pub returns-clause-octet : goal.returns-clause-octet
returns-clause-octet c =
    c.from.ensures ∙ c.unwrap_or.ensures ∙ ap (λ (x : Option ℕ). unwrap_or x 0) (sym c.first.ensures) ∙ unwrap_or-slice_get (octets c.args.self.now) (at c.args.self.now) 0
