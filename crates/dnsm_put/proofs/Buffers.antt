-- Octets that were written over others, and octets that agree.
use Rattle.std.proofs.Common.{◌≡◌, ℕ, ◌+◌, ◌-◌, ◌≤◌, List, [], ◌++◌, inl, length, length-append, length-drop, length-take, take, drop, arith, ap, sym, ◌∙◌, subst, refl}
use Rattle.std.specs.Prelude.{Option, Some, None, IsSome, IfSome, IfNone, slice_get}
use Rattle.std.proofs.lemmas.List.{take_all, take-take, length-take-le}
use Rattle.dns_octets.specs.Octets.{overwritten}
use Rattle.dns_octets.proofs.theory.Overwritten.{kept_before, written_there}
use Rattle.dns_wire.specs.Targets.{At}
use Rattle.dns_wire.specs.TargetLaws.{Agree}
use Rattle.dns_wire.proofs.theory.Stability.{agree_overwritten, get_take, same_part}
use Rattle.dnsm_put.specs.Writing.{IsPut}

-- Overwriting octets keeps the length.
pub length_over : (b xs : List ℕ) (o : ℕ) → o + length xs ≤ length b → length (overwritten b o xs) ≡ length b
length_over b xs o within =
    let l : length (take o b) ≡ o = length-take-le o b (omega arith) in
    let d = length-drop (o + length xs) b in
    let x = length-append (take o b ++ xs) (drop (o + length xs) b) in
    let y = length-append (take o b) xs in omega arith

-- The octets that were written are there.
pub at_over : (b xs : List ℕ) (o : ℕ) → o + length xs ≤ length b → At (overwritten b o xs) o xs
at_over b xs o within = let l = length_over b xs o within in record { within = omega arith; same = written_there b xs o (o + length xs) refl within }

-- The octets before those that were written stay.
pub take_over : (b xs : List ℕ) (o at : ℕ) → at ≤ o → o + length xs ≤ length b → take at (overwritten b o xs) ≡ take at b
take_over b xs o at low within = sym (take-take at o (overwritten b o xs) low) ∙ ap (take at) (kept_before b xs o (omega arith)) ∙ take-take at o b low

-- Putting octets keeps those before.
pub kept_put : (r : Option ℕ) (b c : List ℕ) (o at most : ℕ) (xs : List ℕ) → at ≤ o → most ≤ length b → IfSome r (IsPut b c o most xs) → IfNone r (c ≡ b) → take at c ≡ take at b
kept_put None b c o at most xs low room put same = ap (take at) same
kept_put (Some end) b c o at most xs low room put same = let e = put.ends in let w = put.within in ap (take at) put.written ∙ take_over b xs o at low (omega arith)

-- Putting octets keeps the buffer's length.
pub length_put : (b c : List ℕ) (o most end : ℕ) (xs : List ℕ) → most ≤ length b → IsPut b c o most xs end → length c ≡ length b
length_put b c o most end xs room put = let e = put.ends in let w = put.within in ap length put.written ∙ length_over b xs o (omega arith)

-- the octets from `at` on, as a slice to the end
pub all_left : (octets : List ℕ) (i : ℕ) → take (length octets - i) (drop i octets) ≡ drop i octets
all_left octets i = let size : length (drop i octets) ≡ length octets - i = length-drop i octets in take_all (length octets - i) (drop i octets) (omega arith)

-- octets that are there in octets that agree
pub at_agreed : {b c : List ℕ} {lo hi p : ℕ} {xs : List ℕ} → Agree b c lo hi → lo ≤ p → p + length xs ≤ hi → At b p xs → At c p xs
at_agreed {b = b} {c = c} {lo = lo} {hi = hi} {p = p} {xs = xs} a low high h =
    let n = p + length xs - p in
    let l = a.long in
    record { within = omega arith; same = sym (same_part b c n p (λ k l m. a.same k (omega arith) (omega arith))) ∙ h.same }

-- Buffers that begin with the same octets agree on them.
pub agree_of_take : (b c : List ℕ) (lo at : ℕ) → at ≤ length c → take at c ≡ take at b → Agree b c lo at
agree_of_take b c lo at long e = record {
  long = long;
  same = λ k low h. sym (get_take b at k h) ∙ ap (λ (xs : List ℕ). slice_get xs k) (sym e) ∙ get_take c at k h;
}

-- A buffer agrees with its beginning.
pub agree_with_taken : (c : List ℕ) (lo hi end : ℕ) → hi ≤ end → hi ≤ length c → Agree c (take end c) lo hi
agree_with_taken c lo hi end low long = record { long = omega (arith, length-take end c); same = λ k a h. sym (get_take c end k (omega arith)) }

-- Agreement goes from one buffer to the next.
pub agree_both : {a b c : List ℕ} {lo hi top : ℕ} → hi ≤ top → Agree a b lo hi → Agree b c lo top → Agree a c lo hi
agree_both l x y = let long = y.long in record { long = omega arith; same = λ k low high. x.same k low high ∙ y.same k low (omega arith) }

-- Buffers that agree on a range agree from any later start.
pub agree_from : {b c : List ℕ} {lo lo' hi : ℕ} → lo ≤ lo' → Agree b c lo hi → Agree b c lo' hi
agree_from l a = record { long = a.long; same = λ k low high. a.same k (omega arith) high }

-- Buffers that agree on a range agree up to any earlier end.
pub agree_to : {b c : List ℕ} {lo hi hi' : ℕ} → hi' ≤ hi → Agree b c lo hi → Agree b c lo hi'
agree_to l a = let long = a.long in record { long = omega arith; same = λ k low high. a.same k low (omega arith) }

-- octets after those that were written over others
pub agree_after : (b c xs : List ℕ) (o lo hi : ℕ) → c ≡ overwritten b o xs → o + length xs ≤ length b → o + length xs ≤ lo → hi ≤ length b → Agree b c lo hi
agree_after b c xs o lo hi e within low high = subst (λ (c : List ℕ). Agree b c lo hi) (sym e) (agree_overwritten b xs o lo hi within high (inl low))

-- where octets that were put end
pub put_there : (r : Option ℕ) {P : ℕ → Type 0} → IfSome r P → IsSome r → (end : ℕ) × P end
put_there None h some = cc
put_there (Some end) h some = (end, h)

-- the octets before `at` stay if those before a later offset do
pub kept_later : (b c : List ℕ) (at later : ℕ) → at ≤ later → take later c ≡ take later b → take at c ≡ take at b
kept_later b c at later low kept = sym (take-take at later c low) ∙ ap (take at) kept ∙ take-take at later b low

-- Octets that are none are the same.
pub same_none : (a b : List ℕ) → length a ≡ length b → length b ≡ 0 → a ≡ b
same_none [] [] size none = refl
same_none _ _ size none = absurd (omega arith)
