-- Each service parameter takes octets.
use Rattle.std.proofs.Common.{◌≡◌, ◌+◌, ◌*◌, [], ◌∷◌, length, take, drop, length-drop, refl, ap, arith}
use Rattle.fields_parameters.specs.ParameterItems.{ParameterItem, parameter_at}
use Rattle.fields_lists.proofs.theory.ItemLemmas.{IsShrinking}
use Rattle.fields_lists.proofs.theory.Shrinking.{same_after}

-- the octets after a parameter are fewer than those that begin with it
pub parameter_shrinks : IsShrinking parameter_at
parameter_shrinks [] after item e = absurd (cc)
parameter_shrinks (a ∷ []) after item e = absurd (cc)
parameter_shrinks (a ∷ b ∷ []) after item e = absurd (cc)
parameter_shrinks (a ∷ b ∷ c ∷ []) after item e = absurd (cc)
parameter_shrinks (a ∷ b ∷ c ∷ d ∷ octets) after item e =
    let first : ParameterItem = record { key = a * 256 + b; value = take (c * 256 + d) octets } in
    let is : drop (c * 256 + d) octets ≡ after = same_after (first, drop (c * 256 + d) octets) (item, after) (parameter_at (a ∷ b ∷ c ∷ d ∷ octets)) refl e in
    omega (arith, ap length is, length-drop (c * 256 + d) octets)
