-- The printed text of SOA data.
use Rattle.std.proofs.Common.{◌≡◌, ℕ, List, ◌++◌, append_assoc, ap, refl, codes}
use Rattle.std.specs.Fmt.{◌++?◌}
use Rattle.std.specs.Option.{option_and_then}
use Rattle.std.specs.Prelude.{Option, Some, None, option_map}

-- two names and five numbers, one after another
pub printed_soa : (m r : Option (List ℕ)) (serial refresh retry expire minimum : List ℕ)
    → (m ++? (Some (codes ". ") ++? (r ++? Some (codes ". " ++ (serial ++ (codes " " ++ (refresh ++ (codes " " ++ (retry ++ (codes " " ++ (expire ++ codes " "))))))))))) ++? Some minimum
    ≡ option_and_then (λ mname. option_map
    (λ rname. mname ++ codes ". " ++ rname ++ codes ". " ++ (serial ++ codes " " ++ refresh ++ codes " " ++ retry ++ codes " " ++ expire ++ codes " " ++ minimum)) r) m
printed_soa None r serial refresh retry expire minimum = refl
printed_soa (Some m) None serial refresh retry expire minimum = refl
printed_soa (Some m) (Some r) serial refresh retry expire minimum = ap Some (simp append_assoc)
