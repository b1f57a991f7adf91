-- Cutting at a length undoes the appends after it.
use Rattle.std.proofs.Common.{◌≡◌, ℕ, ◌≤◌, Bool, Option, Result, Ok, Err, [], length, length-append, append-nil, ap, sym, ◌∙◌, refl, subst, arith}
use Rattle.dns_wire.specs.Encoders.{Encoder, IsGrowing, encode_octets}
use Rattle.dns_wire.specs.Targets.{Written, IsTarget, Appends, cut_to}
use Rattle.dns_octets.specs.declared.error.AppendError.{AppendError}
use Rattle.dns_wire.proofs.theory.EncoderLaws.{cut_to-append, cut_undoes, same_written}
use Rattle.dns_wire.proofs.theory.EncodedNames.{encode_octets_grows}

-- cutting a target at its own length leaves it as it is
pub whole : (t : Written) → IsTarget t → cut_to (length t.octets) t ≡ t
whole t is = ap (cut_to (length t.octets)) (sym (same_written _ _ (append-nil t.octets) refl)) ∙ cut_undoes (encode_octets []) t (encode_octets_grows []) is

-- a target begins with the octets of an earlier one, and a cut gives that back
pub record GoesOn (len : ℕ) (t u : Written) : Type 0 where
  pub long : len ≤ length u.octets
  pub cut : cut_to len u ≡ t

-- this holds after an append, whether or not it succeeds
pub goes_on : (len : ℕ) (t u v : Written) (capacity : Option ℕ) (grows : Bool) (encoder : Encoder) (r : Result (Unit {0}) AppendError)
    → IsGrowing encoder → GoesOn len t u → Appends capacity grows encoder u v r → GoesOn len t v
goes_on len t u v capacity grows encoder (Ok x) growing on appends =
    let l = on.long in
    subst (GoesOn len t) (sym appends.ok) (record {
      long = let n = length-append u.octets (encoder u.table (length u.octets)).octets in omega arith;
      cut = cut_to-append encoder u len growing l ∙ on.cut;
    })
goes_on len t u v capacity grows encoder (Err e) growing on appends = subst (GoesOn len t) (sym appends.err) on
