use Rattle.std.proofs.Common.{◌∙◌, ◌++◌, List, ℕ, length, drop, replicate, ap}
use Rattle.fields_lists.proofs.PrefixLemmas.{padded_is}
use Rattle.fields_lists.proofs.prefix.padded.Goals as goal

pub returns : goal.returns
returns g c =
    ap (λ (xs : List ℕ). xs ++ drop (length c.args.octets.now) (replicate g.row.N 0)) c.copy_from_slice.ensures.after
    ∙ padded_is g.row.N c.args.octets.now c.requires
