use Rattle.std.proofs.Common.{◌≡◌, ◌∙◌, ◌++◌, List, ℕ, length, take, drop, ap, sym}
use Rattle.std.specs.Prelude.{map}
use Rattle.std.specs.Char.{to_ascii_lowercase}
use Rattle.std.proofs.lemmas.List.{length-map}
use Rattle.std.proofs.Math.Seq.{take-append_seam}
use Rattle.dns_name.proofs.theory.NameLemmas.{lower_uncompressed}
use Rattle.dns_name.proofs.parsed_name.ParsedName.lowercased.Goals as goal

-- Overwriting all elements with a list of the same length gives that list.
refilled : (xs ws : List ℕ) → length xs ≡ length ws → take (length xs) (ws ++ drop (length ws) xs) ≡ ws
refilled xs ws e = ap (λ n. take n (ws ++ drop (length ws) xs)) e ∙ take-append_seam ws (drop (length ws) xs)

pub returns : goal.returns
returns c =
    let lower : c.make_ascii_lowercase.new.self ≡ map to_ascii_lowercase c.uncompressed-octets.result.items =
    c.make_ascii_lowercase.ensures.after ∙ ap (map to_ascii_lowercase) c.as_mut_slice.ensures.value in
    let same : length c.uncompressed-octets.result.items ≡ length c.make_ascii_lowercase.new.self = sym (ap length lower ∙ length-map c.uncompressed-octets.result.items to_ascii_lowercase) in
    refilled c.uncompressed-octets.result.items c.make_ascii_lowercase.new.self same ∙ lower ∙ ap (map to_ascii_lowercase) c.uncompressed-octets.ensures ∙ lower_uncompressed c.args.self
