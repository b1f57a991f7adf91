-- The length of a message with a padded OPT record.
use Rattle.std.proofs.Common.{◌≡◌, ◌∙◌, ℕ, ◌+◌, ◌-◌, ◌≤◌, Bool, true, false, cond, Option, Ok, List, [], ◌∷◌, ◌++◌, ap, arith, length, length-append, refl, sym}
use Rattle.std.proofs.Math.Logic.{∥∥₁_elim}
use Rattle.std.proofs.lemmas.Bool.{cond-false, ltb-false, or_parts}
use Rattle.std.proofs.lemmas.Grind.{flat_map-append}
use Rattle.std.proofs.lemmas.List.{length-replicate}
use Rattle.std.specs.Coded.{coded_ℕ}
use Rattle.std.specs.Prelude.{◌==◌, Err, IfErr, IsTrue, OnErr, OnOk, Result, nat_lt}
use base.Stored.{Coded-set}
use Rattle.dns_wire.specs.Encoders.{Rule}
use Rattle.dns_wire.specs.Targets.{Written}
use Rattle.dns_edns.specs.KnownOptions.{padding_option, zeros}
use Rattle.dns_edns.specs.Options.{encode_option, encode_options}
use Rattle.dns_edns_builder.specs.Additions.{Adds}
use Rattle.dns_edns_builder.specs.Gathered.{Gathered, gathered, opt_size}
use Rattle.dns_edns_builder.specs.declared.builder.OptBuilder.{OptBuilder}
use Rattle.dns_octets.specs.declared.error.AppendError.{AppendError}
use Rattle.dns_octets.specs.declared.error.AppendError.TheVariants.{OutOfMemory, ShortBuf}
use Rattle.dns_build.specs.BuilderStates.{Built, InEach, RepresentsSome, size_after}
use Rattle.dns_build.specs.Opt.{PushesOptRecord, opt_record, with_rcode}
use Rattle.dns_build.specs.Padding.{length_with_option, most_padded, padded, padded_length, stays_unpadded}
use Rattle.dns_build.specs.State.{InAdditional, State, with_record}
use Rattle.dns_build.specs.declared.push_error.PushError.{PushError}
use Rattle.dns_build.specs.declared.push_error.PushError.TheVariants.{OutOfMemory as out_of_memory}
use Rattle.dns_build.proofs.ReservedLemmas.{grows-at}
use Rattle.dns_build.proofs.ReservedOptLemmas.{opts_add_their_size}
use Rattle.dns_build.proofs.theory.MessageSizes.{size_with_header}

-- a padding option takes four octets besides its zeros
padding_size : (k : ℕ) → length (encode_options (padding_option (zeros k) ∷ [])) ≡ 4 + k
padding_size k = let n = length-replicate {A = ℕ} k 0 in simp length-append (omega (arith, n))

-- an OPT record with the padding option as its last
size_with_padding : (g : Gathered) (k : ℕ) → opt_size (record g { options = g.options ++ padding_option (zeros k) ∷ [] }) ≡ opt_size g + 4 + k
size_with_padding g k =
    let a = ap (λ (xs : List ℕ). length xs) (flat_map-append encode_option g.options (padding_option (zeros k) ∷ [])) in
    let b = length-append (encode_options g.options) (encode_options (padding_option (zeros k) ∷ [])) in
    let c = padding_size k in
    omega (arith, a, b, c)

module _ (block limit : ℕ) (len : ℕ) (g : Gathered) where
  abbrev n : ℕ
  n = len + opt_size g

  -- with the option the message isn't shorter than with an empty one
  enough : stays_unpadded block limit n ≡ false → n + 4 ≤ length_with_option block limit n
  enough e = let late = ltb-false (most_padded limit) (n + 4) (or_parts (block == 0) (nat_lt (most_padded limit) (n + 4)) e).1 in omega arith

  -- A message with the padded OPT record has the padded length.
  pub padded_adds : len + opt_size (padded block limit n g) ≡ padded_length block limit n
  padded_adds = by (stays_unpadded block limit n) refl
    where
      by : (b : Bool) → stays_unpadded block limit n ≡ b
          → len + opt_size (cond b g (record g { options = g.options ++ padding_option (zeros (length_with_option block limit n - (n + 4))) ∷ [] })) ≡ cond b n (length_with_option block limit n)
      by true e = refl
      by false e =
          let l = enough e in
          let k = size_with_padding g (length_with_option block limit n - (n + 4)) in
          omega (arith, l, k)

-- A pushed OPT record adds its octets.
pub opt_pushed : (capacity : Option ℕ) (grows : Bool) (rule : Rule) (g : Gathered) (old new : Built) → RepresentsSome InAdditional rule old
    → InEach InAdditional rule old (λ s. PushesOptRecord capacity grows rule g s new (Ok tt)) → length new.written.octets ≡ length old.written.octets + opt_size g
opt_pushed capacity grows rule g old new some pushes =
    ∥∥₁_elim some (Coded-set coded_ℕ _ _) (λ p.
    let s : State = p.0 in
    let a = ap (λ (w : Written). length w.octets) (pushes s p.1).accepted.written in
    let b = size_with_header rule (with_rcode g.header.rcode s.header) (with_record InAdditional (opt_record g) s) in
    let c = opts_add_their_size rule g s in
    let d = ap (λ (w : Written). length w.octets) p.1.written in
    omega (arith, a, b, c, d))

-- A push of an OPT record returns `OutOfMemory` only over a target that may allocate.
pub opt_memory : (capacity : Option ℕ) (grows : Bool) (rule : Rule) (g : Gathered) (old new : Built) (result : Result (Unit {0}) PushError) → RepresentsSome InAdditional rule old
    → InEach InAdditional rule old (λ s. PushesOptRecord capacity grows rule g s new result) → result ≡ Err out_of_memory → IsTrue grows
opt_memory capacity grows rule g old new result some pushes =
    grows-at capacity grows InAdditional rule old (λ s. s.limit) (size_after rule (with_record InAdditional (opt_record g))) (λ s. length s.additionals) result some
    (λ s h. (pushes s h).outcome)

-- what holds in any case holds if there is an error
pub always_on_err : {T E P : Type 0} (r : Result T E) → P → OnErr r P
always_on_err (Ok x) p = tt
always_on_err (Err e) p = p

-- The length of a message to which a padded OPT record was pushed.
pub length_padded : (capacity : Option ℕ) (grows : Bool) (rule : Rule) (g : Gathered) (block limit : ℕ) (old new : Built) (result : Result (Unit {0}) PushError) → RepresentsSome InAdditional rule old
    → InEach InAdditional rule old (λ s. PushesOptRecord capacity grows rule (padded block limit (length old.written.octets + opt_size g) g) s new result)
    → OnOk result (length new.written.octets ≡ padded_length block limit (length old.written.octets + opt_size g))
length_padded capacity grows rule g block limit old new (Ok x) some pushes =
    opt_pushed capacity grows rule (padded block limit (length old.written.octets + opt_size g) g) old new some pushes ∙ padded_adds block limit (length old.written.octets) g
length_padded capacity grows rule g block limit old new (Err e) some pushes = tt

module _ (n octets : ℕ) (old new : OptBuilder) where
  -- The padding option is added.
  pub pads : (block limit : ℕ) (r : Result (Unit {0}) AppendError) → stays_unpadded block limit n ≡ false → octets ≡ length_with_option block limit n - (n + 4)
      → Adds (padding_option (zeros octets)) old new r
      → OnOk r (gathered new ≡ padded block limit n (gathered old))
  pads block limit (Ok x) stays is h =
      h.0 ∙ ap (λ k. record (gathered old) { options = (gathered old).options ++ padding_option (zeros k) ∷ [] }) is
      ∙ sym (cond-false (stays_unpadded block limit n) (gathered old)
      (record (gathered old) { options = (gathered old).options ++ padding_option (zeros (length_with_option block limit n - (n + 4))) ∷ [] }) stays)
  pads block limit (Err e) stays is h = tt

  -- It is never too long.
  pub pads-memory : (r : Result (Unit {0}) AppendError) → opt_size (gathered old) ≤ n → n + 4 + octets ≤ 65535 → Adds (padding_option (zeros octets)) old new r → IfErr r (λ e. e ≡ OutOfMemory)
  pads-memory (Ok x) within short h = tt
  pads-memory (Err ShortBuf) within short h =
      let k = length-replicate {A = ℕ} octets 0 in
      let long = h.0 in
      absurd (omega (arith, within, short, long, k))
  pads-memory (Err OutOfMemory) within short h = refl
