-- Encodings after two octets into which their length is written.
use Rattle.std.proofs.Common.{◌≡◌, ℕ, ◌+◌, ◌≤◌, ◌⊎◌, inl, inr, Bool, Option, Some, Result, Err, List, [], ◌∷◌, length, length-append, ap, sym, ◌∙◌, subst}
use Rattle.std.specs.FinMap.{get}
use Rattle.dns_wire.specs.Encoders.{TableEntry, IsClear, IsOldOrWithin, Extends, Encoder, IsGrowing, encode_octets, both, with_length}
use Rattle.dns_wire.specs.Targets.{Written, IsTarget, ComposeReturns, append, Composes}
use Rattle.dns_octets.specs.declared.error.AppendError.{AppendError}
use Rattle.dns_wire.proofs.theory.EncoderLaws.{composes_both}
use Rattle.dns_wire.proofs.theory.EncodedNames.{encode_octets_grows, ends_within_content}

-- the two octets before the length is known
abbrev blank : List ℕ
blank = 0 ∷ 0 ∷ []

one_clear : (before after : Option TableEntry) (w v : ℕ) → IsOldOrWithin before after (w + 2) v → ((x : TableEntry) → before ≡ Some x → x.end ≤ w)
    → (y : TableEntry) → after ≡ Some y → (y.end ≤ w) ⊎ (w + 2 ≤ y.offset)
one_clear before after w v (inl same) h y e = inl (h y (sym same ∙ e))
one_clear before after w v (inr new) h y e =
    let both : Some new.1.0 ≡ Some y = sym new.1.1 ∙ e in
    let is : new.1.0 ≡ y = cc in
    inr (subst (λ (z : TableEntry). w + 2 ≤ z.offset) is new.1.2)

-- no suffix in the table has one of the two octets
pub clear_length : (a : Encoder) (t v u : Written) → IsGrowing a → IsTarget t → v ≡ append (encode_octets blank) t → u ≡ append a v → IsClear u.table (length t.octets) 2
clear_length a t v u grows is first second s x e =
    let start = length t.octets + 2 in
    let extends : Extends t.table (a t.table start).table start _ = grows.grows t.table start in
    let found : get (a t.table start).table s ≡ Some x =
    ap (λ n. get (a t.table n).table s) (sym (length-append t.octets blank))
    ∙ ap (λ (w : Written). get w.table s) (sym (second ∙ ap (append a) first)) ∙ e in
    inr (one_clear (get t.table s) _ (length t.octets) _ (extends.each s) (ends_within_content is s) x found)

refused : (capacity : Option ℕ) (may_grow : Bool) (a : Encoder) (t u : Written) (e : AppendError)
    → Composes capacity may_grow (both (encode_octets blank) a) t u {X = Unit} (Err e) → Composes capacity may_grow (with_length a) t u {X = Unit} (Err e)
refused capacity may_grow a t u e h = record {
  ok = tt;
  err = h.err;
  outcome =
      let n : length (append (both (encode_octets blank) a) t).octets ≡ length (append (with_length a) t).octets = length-append t.octets _ ∙ sym (length-append t.octets _) in
      subst (λ n. ComposeReturns {X = Unit} capacity may_grow n (Err e)) n h.outcome;
}

-- if composing after the two octets fails, composing with the length fails
pub encoder_refused : (capacity : Option ℕ) (may_grow : Bool) (a : Encoder) (t v u : Written) (r q : Result Unit AppendError) (e : AppendError)
    → r ≡ Err e → q ≡ Err e → v ≡ append (encode_octets blank) t → Composes capacity may_grow a v u r → Composes capacity may_grow (with_length a) t u q
encoder_refused capacity may_grow a t v u r q e is out first h =
    rw out (refused capacity may_grow a t u e (composes_both capacity may_grow (encode_octets blank) a t v u (Err e) (encode_octets_grows blank) first (rw is at h)))
