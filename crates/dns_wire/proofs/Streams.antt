-- A message after its length: what calls of the wrapped target do to the message alone.
use Rattle.std.proofs.Common.{◌≡◌, ℕ, suc, ◌+◌, ◌≤◌, Bool, Option, Some, None, Result, Err, List, [], ◌∷◌, ◌++◌, length, length-append, take, drop, ap, sym, ◌∙◌, refl, arith}
use Rattle.std.proofs.lemmas.Grind.{common_steps}
use Rattle.dns_wire.specs.Encoders.{encode_octets}
use Rattle.dns_wire.specs.Targets.{Written, Fits, Exceeds, AppendReturns, Appends, cut_to, overwrite, with_empty_table as plain}
use Rattle.dns_octets.specs.declared.error.AppendError.{AppendError}
use Rattle.dns_octets.specs.declared.error.AppendError.TheVariants.{ShortBuf, OutOfMemory}
use Rattle.dns_wire.proofs.theory.EncoderLaws.{same_written}
use Rattle.dns_wire.proofs.theory.CompressionTables.{cut_nothing}
use Rattle.dns_wire.specs.Stream.{stream_capacity}

take_two : (xs : List ℕ) (n : ℕ) → drop 2 (take (n + 2) xs) ≡ take n (drop 2 xs)
take_two xs n = grind (arith, common_steps)

-- A message has two octets less than the wrapped target.
pub message_length : (t : Written) (v : List ℕ) → 2 ≤ length t.octets → drop 2 t.octets ≡ v → length v + 2 ≡ length t.octets
message_length t v l is = rw (← is) (grind (arith, common_steps))

-- A wrapped target truncated after n octets of the message, with another prefix.
pub shortened : (t u v : Written) (xs bytes : List ℕ) (n : ℕ) → length bytes ≡ 2 → u ≡ cut_to (n + 2) t → v ≡ overwrite 0 bytes u → drop 2 t.octets ≡ xs → plain (drop 2 v.octets) ≡ cut_to n (plain xs)
shortened t u v xs (a ∷ b ∷ []) n two e f is =
    same_written _ _ (ap (λ (w : Written). drop 2 w.octets) f ∙ ap (λ (w : Written). drop 2 w.octets) e ∙ take_two t.octets n ∙ ap (take n) is) (sym (cut_nothing n))
shortened t u v xs [] n two e f is = absurd (omega arith)
shortened t u v xs (a ∷ []) n two e f is = absurd (omega arith)
shortened t u v xs (a ∷ b ∷ c ∷ bytes) n two e f is = absurd (omega arith)

-- Truncating a message to at least its length changes nothing.
pub kept_whole : (xs : List ℕ) (n : ℕ) → length xs ≤ n → plain xs ≡ cut_to n (plain xs)
kept_whole xs n l = same_written _ _ (grind (arith, common_steps)) (sym (cut_nothing n))

exceeds : (capacity : Option ℕ) (t : Written) (xs : List ℕ) → 2 ≤ length t.octets → Fits capacity (length t.octets)
    → Exceeds capacity (length (t.octets ++ xs)) → Exceeds (stream_capacity capacity) (length (drop 2 t.octets ++ xs))
exceeds None t xs l f h = absurd h
exceeds (Some capacity) t xs l f h =
    let a = length-append t.octets xs in
    let b = length-append (drop 2 t.octets) xs in
    let c = message_length t (drop 2 t.octets) l refl in
    omega arith

-- A message within the capacity of the wrapped target and within the length is within the message's capacity.
fits_stream : (capacity : Option ℕ) (t : Written) (xs : List ℕ) → 2 ≤ length t.octets → length (drop 2 t.octets ++ xs) ≤ 65535
    → Fits capacity (length (t.octets ++ xs)) → Fits (stream_capacity capacity) (length (drop 2 t.octets ++ xs))
fits_stream None t xs l few f = few
fits_stream (Some capacity) t xs l few f =
    let a = length-append t.octets xs in
    let b = length-append (drop 2 t.octets) xs in
    let c = message_length t (drop 2 t.octets) l refl in
    omega arith

answers : (capacity : Option ℕ) (grows : Bool) (t : Written) (xs : List ℕ) (e : AppendError) → 2 ≤ length t.octets → Fits capacity (length t.octets) → length (drop 2 t.octets ++ xs) ≤ 65535
    → AppendReturns {X = Unit {0}} capacity grows (length (t.octets ++ xs)) (Err e) → AppendReturns {X = Unit {0}} (stream_capacity capacity) grows (length (drop 2 t.octets ++ xs)) (Err e)
answers capacity grows t xs ShortBuf l f few h = exceeds capacity t xs l f h
answers capacity grows t xs OutOfMemory l f few h = (fits_stream capacity t xs l few h.0, h.1)

refuses : (capacity : Option ℕ) (grows : Bool) (xs : List ℕ) (t u : Written) (e : AppendError) → 2 ≤ length t.octets → Fits capacity (length t.octets) → length (drop 2 t.octets ++ xs) ≤ 65535
    → Appends capacity grows (encode_octets xs) t u {X = Unit {0}} (Err e)
    → Appends (stream_capacity capacity) grows (encode_octets xs) (plain (drop 2 t.octets)) (plain (drop 2 u.octets)) {X = Unit {0}} (Err e)
refuses capacity grows xs t u e l f few h = record { ok = tt; err = ap (λ (w : Written). plain (drop 2 w.octets)) h.err; outcome = answers capacity grows t xs e l f few h.outcome }

-- An error in appending to the wrapped target is one in appending to the message.
pub refused : (capacity : Option ℕ) (grows : Bool) (xs : List ℕ) (t u : Written) (v : List ℕ) (r : Result (Unit {0}) AppendError)
    (e : AppendError) → 2 ≤ length t.octets → Fits capacity (length t.octets) → drop 2 t.octets ≡ v → length v + length xs ≤ 65535 → r ≡ Err e
    → Appends capacity grows (encode_octets xs) t u {X = Unit {0}} (Err e) → Appends (stream_capacity capacity) grows (encode_octets xs) (plain v) (plain (drop 2 u.octets)) r
refused capacity grows xs t u v r e l f is few out h =
    rw (out, ← is) (refuses capacity grows xs t u e l f (rw (length-append, is) few) h)

written_two_on : (ys bytes : List ℕ) (offset : ℕ) → 2 ≤ length ys
    → drop 2 (take (offset + 2) ys ++ bytes ++ drop (offset + 2 + length bytes) ys) ≡ take offset (drop 2 ys) ++ bytes ++ drop
    (offset + length bytes) (drop 2 ys)
written_two_on [] bytes offset l = absurd (omega arith)
written_two_on (a ∷ []) bytes offset l = absurd (omega arith)
written_two_on (a ∷ b ∷ ys) bytes offset l =
    let e : offset + 2 ≡ suc (suc offset) = omega arith in
    let f : offset + 2 + length bytes ≡ suc (suc (offset + length bytes)) = omega arith in
    rw (f, e) refl

-- Overwriting the wrapped target two octets further on overwrites the message at the offset.
pub over : (t u : Written) (xs bytes : List ℕ) (offset : ℕ) → 2 ≤ length t.octets → u ≡ overwrite (offset + 2) bytes t
    → drop 2 t.octets ≡ xs → plain (drop 2 u.octets) ≡ overwrite offset bytes (plain xs)
over t u xs bytes offset l e is =
    same_written _ _ (ap (λ (w : Written). drop 2 w.octets) e ∙ written_two_on t.octets bytes offset l ∙ ap (λ (ys : List ℕ). take offset ys ++ bytes ++ drop (offset + length bytes) ys) is) refl

-- If the wrapped target is within its capacity, the message is within its own.
pub fits : (capacity : Option ℕ) (t : Written) (xs : List ℕ) → 2 ≤ length t.octets → length t.octets ≤ 65537
    → Fits capacity (length t.octets) → drop 2 t.octets ≡ xs → Fits (stream_capacity capacity) (length xs)
fits None t xs l k f is = let c = message_length t xs l is in omega arith
fits (Some capacity) t xs l k f is = let c = message_length t xs l is in omega arith
