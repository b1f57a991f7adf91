-- Octets whose end is overwritten once they are appended.
use Rattle.std.proofs.Common.{◌≡◌, ℕ, ◌+◌, ◌≤◌, Bool, Option, Result, Ok, Err, List, ◌++◌, length, length-append, take, append_assoc, ap, sym, ◌∙◌, refl, subst, inl, inr, arith}
use Rattle.std.proofs.Math.Seq.{take-append-add}
use Rattle.std.proofs.lemmas.List.{append-nil, drop_all, length-take-le, take-take}
use Rattle.std.specs.FinMap.{get}
use Rattle.dns_octets.specs.Octets.{overwritten}
use Rattle.dns_octets.specs.declared.error.AppendError.{AppendError}
use Rattle.dns_wire.specs.Encoders.{IsClear, encode_octets}
use Rattle.dns_wire.specs.Targets.{Written, IsTarget, AppendReturns, Appends, append, overwrite}
use Rattle.dns_wire.proofs.theory.EncoderLaws.{same_written}
use Rattle.dns_wire.proofs.theory.EncodedNames.{ends_within_content}

-- no name in the table uses what is appended after it as octets
pub appended_clear : (t u : Written) (xs : List ℕ) (offset n : ℕ) → IsTarget t → length t.octets ≤ offset → u ≡ append (encode_octets xs) t → IsClear u.table offset n
appended_clear t u xs offset n is l e s x found =
    let k = ends_within_content is s x (ap (λ (w : Written). get w.table s) (sym e) ∙ found) in
    inr (inl (omega arith))

-- what is written over the end of what was appended is within the content
pub appended_within : (t u : Written) (xs ys : List ℕ) (len n : ℕ) → n + length ys ≤ length xs → len ≡ length t.octets
    → u ≡ append (encode_octets (take (n + length ys) xs)) t → len + n + length ys ≤ length u.octets
appended_within t u xs ys len n l at e =
    let a = length-append t.octets (take (n + length ys) xs) in
    let b = length-take-le (n + length ys) xs l in
    rw e (omega arith)

-- the end of what follows `b` is overwritten
end_overwritten : (b xs ys : List ℕ) (n : ℕ) → length xs ≡ n + length ys → overwritten (b ++ xs) (length b + n) ys ≡ b ++ (take n xs ++ ys)
end_overwritten b xs ys n e =
    let long = length-append b xs in
    ap (λ (zs : List ℕ). (take (length b + n) (b ++ xs) ++ ys) ++ zs) (drop_all (length b + n + length ys) (b ++ xs) (omega arith))
    ∙ append-nil (take (length b + n) (b ++ xs) ++ ys)
    ∙ ap (λ (zs : List ℕ). zs ++ ys) (take-append-add b xs n)
    ∙ append_assoc b (take n xs) ys

-- appending the first octets of `xs`, and others over the last of them, appends the octets before those and the others
pub appended_over : (t u v : Written) (xs ys : List ℕ) (len n : ℕ) → n + length ys ≤ length xs → len ≡ length t.octets
    → u ≡ append (encode_octets (take (n + length ys) xs)) t → v ≡ overwrite (len + n) ys u → v ≡ append (encode_octets (take n xs ++ ys)) t
appended_over t u v xs ys len n l at first second =
    let some = take (n + length ys) xs in
    second
    ∙ ap (overwrite (len + n) ys) first
    ∙ ap (λ (k : ℕ). overwrite (k + n) ys (append (encode_octets some) t)) at
    ∙ same_written _ _
    (end_overwritten t.octets some ys n (length-take-le (n + length ys) xs l) ∙ ap (λ (zs : List ℕ). t.octets ++ (zs ++ ys)) (take-take n (n + length ys) xs (omega arith)))
    refl

-- which are as many octets
same_length : (t : Written) (xs ys : List ℕ) (n : ℕ) → n + length ys ≤ length xs
    → length (append (encode_octets (take (n + length ys) xs)) t).octets ≡ length (append (encode_octets (take n xs ++ ys)) t).octets
same_length t xs ys n l =
    let a = length-append t.octets (take (n + length ys) xs) in
    let b = length-append t.octets (take n xs ++ ys) in
    let c = length-append (take n xs) ys in
    let d = length-take-le (n + length ys) xs l in
    let e = length-take-le n xs (omega arith) in
    omega arith

-- an append and a write over its end are one append
pub appends_over : (capacity : Option ℕ) (grows : Bool) (t u v : Written) (xs ys : List ℕ) (len n : ℕ) → n + length ys ≤ length xs → len ≡ length t.octets
    → Appends capacity grows (encode_octets (take (n + length ys) xs)) t u {X = Unit {0}} (Ok tt) → v ≡ overwrite (len + n) ys u
    → Appends capacity grows (encode_octets (take n xs ++ ys)) t v {X = Unit {0}} (Ok tt)
appends_over capacity grows t u v xs ys len n l at h second = record {
  ok = appended_over t u v xs ys len n l at h.ok second;
  err = tt;
  outcome = subst (λ (k : ℕ). AppendReturns {X = Unit {0}} capacity grows k (Ok tt)) (same_length t xs ys n l) h.outcome;
}

-- if the append fails, both fail
pub append_fails : (capacity : Option ℕ) (grows : Bool) (t u : Written) (xs ys : List ℕ) (n : ℕ) (r : Result (Unit {0}) AppendError) (e : AppendError) → n + length ys ≤ length xs → r ≡ Err e
    → Appends capacity grows (encode_octets (take (n + length ys) xs)) t u {X = Unit {0}} (Err e) → Appends capacity grows (encode_octets (take n xs ++ ys)) t u r
append_fails capacity grows t u xs ys n r e l is h = rw is (record {
  ok = tt;
  err = h.err;
  outcome = subst (λ (k : ℕ). AppendReturns {X = Unit {0}} capacity grows k (Err e)) (same_length t xs ys n l) h.outcome;
})
