-- The printed text of a record.
use Rattle.std.proofs.Common.{◌≡◌, ℕ, List, ◌++◌, append_assoc, ap, refl, codes}
use Rattle.std.specs.Fmt.{◌++?◌}
use Rattle.std.specs.Option.{option_and_then}
use Rattle.std.specs.Prelude.{Option, Some, None, option_map}

-- an owner, three fields and RDATA, one after another
pub printed_record : (o v : Option (List ℕ)) (ttl class rtype : List ℕ)
    → o ++? (Some (codes ". ") ++? (Some ttl ++? (Some (codes " ") ++? (Some class ++? (Some (codes " ") ++? (Some rtype ++? (Some (codes " ") ++? v)))))))
    ≡ option_and_then (λ owner. option_map (λ value. owner ++ codes ". " ++ ttl ++ codes " " ++ class ++ codes " " ++ rtype ++ codes " " ++ value) v) o
printed_record None v ttl class rtype = refl
printed_record (Some o) None ttl class rtype = refl
printed_record (Some o) (Some v) ttl class rtype = ap Some (simp append_assoc)
