-- The frames of octets: each list of octets has some, and only these.
use Rattle.std.proofs.Common.{◌≡◌, ◌∙◌, ℕ, zero, suc, ◌+◌, ◌-◌, ◌<◌, ◌≤◌, inl, inr, List, [], ◌∷◌, ◌++◌, length, take, drop, slice_range, slice_index}
use Rattle.std.proofs.Common.{Option, None, Some, refl, sym, ap, subst, append_assoc, append-nil, length-append, length-drop, length-take-le, take-append-drop, take_at, drop_at, drop-drop, arith}
use Rattle.std.specs.Int.{w16, to_be_bytes, from_be_bytes}
use Rattle.std.specs.List.{AllByRecursion, flat_map}
use Rattle.std.proofs.lemmas.Bool.{cases_lt}
use Rattle.std.proofs.lemmas.List.Elements.{All-from_recursion, All-nil, recursion_from_All}
use Rattle.std.proofs.lemmas.Nat.{be_bytes_2, from_be_bytes-to_be_bytes_2}
use Rattle.dns_wire.specs.Stream.{most_octets, stream_capacity, with_prefix}
use Rattle.dns_wire.specs.Targets.{Fits}
use Rattle.dns_stream.specs.declared.error.FrameError.{FrameError}
use Rattle.dns_stream.specs.declared.error.FrameError.TheVariants.{Short, Long}
use Rattle.dns_stream.specs.Frames.{Accepts, BeginsWith, BeginsWithAll, first_length, IsLong, IsPartial, IsShort, Refuses}
use Rattle.dns_stream.specs.Laws.{AreOctets, FramesAreRead, NeverBoth, NoneLeavesCapacity, OneFrame, OneFraming, PartialLacksOctets, SomeFraming, TargetsHoldFrames, TargetsHoldMessages}

-- The length of a frame is read as that of its message.
pub first_length-frame : (message after : List ℕ) → length message ≤ most_octets → first_length (with_prefix message ++ after) ≡ length message
first_length-frame message after fits = from_be_bytes-to_be_bytes_2 (length message) (omega arith)

-- After its first two octets a frame is the message.
pub drop-frame : (message after : List ℕ) → drop 2 (with_prefix message ++ after) ≡ message ++ after
drop-frame message after = refl

-- Octets that begin with a frame have its length first.
pub frame_first : (octets message after : List ℕ) → BeginsWith octets message after → first_length octets ≡ length message
frame_first octets message after begins = ap (λ (b : List ℕ). first_length b) begins.1 ∙ first_length-frame message after begins.0

-- Octets that begin with a frame have its two octets of length, its message, and what follows.
pub frame_length : (octets message after : List ℕ) → BeginsWith octets message after → length octets ≡ 2 + length message + length after
frame_length octets message after begins =
    let whole : length octets ≡ suc (suc (length (message ++ after))) = ap (λ (b : List ℕ). length b) begins.1 in
    let both = length-append message after in
    omega arith

too_few : (first len more total : ℕ) → total ≡ 2 + len + more → first ≡ len → total < 2 + first → ⊥
too_few first len more total is same few = omega arith

-- Octets that begin with a frame aren't less than a frame.
pub frame_not_partial : (octets message after : List ℕ) → BeginsWith octets message after → IsPartial octets → ⊥
frame_not_partial octets message after begins partial =
    let long = frame_length octets message after begins in
    too_few (first_length octets) (length message) (length after) (length octets) long (frame_first octets message after begins) (partial (omega (arith, long)))

-- Octets that begin with a frame are read, if its length is accepted.
pub frames_are_read : FramesAreRead
frames_are_read most octets message after begins =
    let first = frame_first octets message after begins in
    (frame_not_partial octets message after begins, λ enough fits. record { not_short = λ two. omega arith; not_long = λ two. omega arith })

-- Octets begin with one frame.
pub one_frame : OneFrame
one_frame octets m n a b x y =
    let lengths : length m ≡ length n = sym (frame_first octets m a x) ∙ frame_first octets n b y in
    let same : m ++ a ≡ n ++ b = sym (drop-frame m a) ∙ ap (λ (o : List ℕ). drop 2 o) (sym x.1 ∙ y.1) ∙ drop-frame n b in (
      sym (take_at m a (length n) lengths) ∙ ap (λ (o : List ℕ). take (length n) o) same ∙ take_at n b (length n) refl,
      sym (drop_at m a (length n) lengths) ∙ ap (λ (o : List ℕ). drop (length n) o) same ∙ drop_at n b (length n) refl,
    )

-- The same as `BeginsWithAll`, by recursion on the messages.
abbrev pub Framed : List ℕ → List (List ℕ) → List ℕ → Type 0
Framed octets [] after = octets ≡ after
Framed octets (message ∷ messages) after = (next : List ℕ) × BeginsWith octets message next × Framed next messages after

abbrev IsRepresented : List ℕ → Type 0
IsRepresented message = length message ≤ most_octets

framed_by_recursion : (messages : List (List ℕ)) (octets after : List ℕ) → AllByRecursion IsRepresented messages → octets ≡ flat_map with_prefix messages ++ after
    → Framed octets messages after
framed_by_recursion [] octets after each is = is
framed_by_recursion (message ∷ messages) octets after each is =
    let later = flat_map with_prefix messages ++ after in
    (later, (each.0, is ∙ append_assoc (with_prefix message) (flat_map with_prefix messages) after), framed_by_recursion messages later after each.1 refl)

-- Octets that begin with frames begin with the first, and then with the others.
pub framed_of : (messages : List (List ℕ)) (octets after : List ℕ) → BeginsWithAll octets messages after → Framed octets messages after
framed_of messages octets after begins = framed_by_recursion messages octets after (recursion_from_All IsRepresented messages begins.0) begins.1

all_by_recursion : (messages : List (List ℕ)) (octets after : List ℕ) → Framed octets messages after
    → AllByRecursion IsRepresented messages × (octets ≡ flat_map with_prefix messages ++ after)
all_by_recursion [] octets after framed = (tt, framed)
all_by_recursion (message ∷ messages) octets after framed =
    let later = all_by_recursion messages framed.0 after framed.2 in (
      (framed.1.0, later.0),
      framed.1.1 ∙ ap (λ (b : List ℕ). with_prefix message ++ b) later.1 ∙ sym (append_assoc (with_prefix message) (flat_map with_prefix messages) after),
    )

-- And back.
pub all_of : (messages : List (List ℕ)) (octets after : List ℕ) → Framed octets messages after → BeginsWithAll octets messages after
all_of messages octets after framed =
    let all = all_by_recursion messages octets after framed in (All-from_recursion IsRepresented messages all.0, all.1)

-- Frames after frames are frames.
pub framed_more : (messages others : List (List ℕ)) (octets between after : List ℕ) → Framed octets messages between → Framed between others after
    → Framed octets (messages ++ others) after
framed_more [] others octets between after x y = subst (λ (b : List ℕ). Framed b others after) (sym x) y
framed_more (message ∷ messages) others octets between after x y = (x.0, x.1, framed_more messages others x.0 between after x.2 y)

-- Octets begin with no frames.
pub no_frames : (octets : List ℕ) → BeginsWithAll octets [] octets
no_frames octets = (All-nil IsRepresented, refl)

-- Octets that begin with frames, followed by one more, begin with these frames.
pub one_frame_more : (octets : List ℕ) (messages : List (List ℕ)) (between message after : List ℕ) → BeginsWithAll octets messages between → BeginsWith between message after
    → BeginsWithAll octets (messages ++ message ∷ []) after
one_frame_more octets messages between message after x y =
    all_of (messages ++ message ∷ []) octets after (framed_more messages (message ∷ []) octets between after (framed_of messages octets between x) (after, y, refl))

one_framed : (messages others : List (List ℕ)) (octets rest last : List ℕ) → Framed octets messages rest → IsPartial rest → Framed octets others last → IsPartial last
    → (messages ≡ others) × (rest ≡ last)
one_framed [] [] octets rest last x p y q = (refl, sym x ∙ y)
one_framed [] (n ∷ ns) octets rest last x p y q = absurd (frame_not_partial octets n y.0 y.1 (subst (λ (b : List ℕ). IsPartial b) (sym x) p))
one_framed (m ∷ ms) [] octets rest last x p y q = absurd (frame_not_partial octets m x.0 x.1 (subst (λ (b : List ℕ). IsPartial b) (sym y) q))
one_framed (m ∷ ms) (n ∷ ns) octets rest last x p y q =
    let one = one_frame octets m n x.0 y.0 x.1 y.1 in
    let later = one_framed ms ns y.0 rest last (subst (λ (b : List ℕ). Framed b ms rest) one.1 x.2) p y.2 q in
    (λ i. one.0 i ∷ later.0 i, later.1)

-- Octets are the frames of one list of messages, and one rest.
pub one_framing : OneFraming
one_framing octets messages others rest last x y =
    one_framed messages others octets rest last (framed_of messages octets rest x.0) x.1 (framed_of others octets last y.0) y.1

two_octets : (high low : ℕ) → high < 256 → low < 256 → (i : ℕ) → slice_index (high ∷ low ∷ []) i < 256
two_octets high low h l zero = h
two_octets high low h l (suc zero) = l
two_octets high low h l (suc (suc i)) = omega arith

-- Octets that are as many as their first length says begin with a frame.
pub frame_is_there : (octets : List ℕ) (n : ℕ) → AreOctets octets → n ≡ first_length octets → 2 + n ≤ length octets
    → BeginsWith octets (take n (drop 2 octets)) (drop n (drop 2 octets))
frame_is_there [] n are is there = absurd (omega arith)
frame_is_there (high ∷ []) n are is there = absurd (omega arith)
frame_is_there (high ∷ low ∷ octets) n are is there =
    let high_is : high < 256 = are 0 in
    let low_is : low < 256 = are 1 in
    let prefix : to_be_bytes w16 n ≡ high ∷ low ∷ [] = be_bytes_2 (high ∷ low ∷ []) n refl (two_octets high low high_is low_is) is in
    let len : length (take n octets) ≡ n = length-take-le n octets (omega arith) in
    let prefixed : to_be_bytes w16 (length (take n octets)) ≡ high ∷ low ∷ [] = ap (λ k. to_be_bytes w16 k) len ∙ prefix in
    let number : n ≡ from_be_bytes w16 (high ∷ low ∷ []) = is in (
      omega (arith, len, number, high_is, low_is),
      ap (λ (rest : List ℕ). high ∷ low ∷ rest) (sym (take-append-drop n octets))
          ∙ ap (λ (two : List ℕ). two ++ (take n octets ++ drop n octets)) (sym prefixed)
          ∙ sym (append_assoc (to_be_bytes w16 (length (take n octets))) (take n octets) (drop n octets)),
    )

-- The same, with the message and what follows as ranges of the octets.
pub frame_in_range : (octets : List ℕ) (n : ℕ) → AreOctets octets → n ≡ first_length octets → 2 + n ≤ length octets
    → BeginsWith octets (slice_range octets 2 (2 + n)) (drop (2 + n) octets)
frame_in_range octets n are is there =
    let size : n ≡ 2 + n - 2 = omega arith in
    subst (λ (after : List ℕ). BeginsWith octets (slice_range octets 2 (2 + n)) after) (drop-drop n 2 octets)
    (subst (λ k. BeginsWith octets (take k (drop 2 octets)) (drop n (drop 2 octets))) size (frame_is_there octets n are is there))

-- Octets stay octets without the first ones.
octets_dropped : (n : ℕ) (octets : List ℕ) → AreOctets octets → AreOctets (drop n octets)
octets_dropped zero octets are = are
octets_dropped (suc n) [] are = are
octets_dropped (suc n) (octet ∷ octets) are = octets_dropped n octets (λ k. are (suc k))

-- Octets are frames of some messages.
some_framed : (bound : ℕ) (octets : List ℕ) → length octets ≤ bound → AreOctets octets → (messages : List (List ℕ)) × (rest : List ℕ) × Framed octets messages rest × IsPartial rest
some_framed zero octets few are = ([], octets, refl, λ two. absurd (omega arith))
some_framed (suc bound) octets few are =
    let n = first_length octets in
    elim (cases_lt (length octets) 2) [
      | inl short ↦ ([], octets, refl, λ two. absurd (omega arith))
      | inr long ↦ elim (cases_lt (length octets) (2 + n)) [
        | inl partial ↦ ([], octets, refl, λ two. partial)
        | inr there ↦
            let after = drop n (drop 2 octets) in
            let fewer : length after ≤ bound = let one = length-drop n (drop 2 octets) in let two = length-drop 2 octets in omega arith in
            let later = some_framed bound after fewer (octets_dropped n (drop 2 octets) (octets_dropped 2 octets are)) in
            (take n (drop 2 octets) ∷ later.0, later.1, (after, frame_is_there octets n are refl there, later.2), later.3)
      ]
    ]

-- Any octets are frames and less than a frame.
pub some_framing : SomeFraming
some_framing octets are =
    let some = some_framed (length octets) octets (omega arith) are in
    (some.0, some.1, (all_of some.0 octets some.1 some.2, some.3))

-- A message within a stream target's capacity has a length that two octets represent.
fits_prefix : (capacity : Option ℕ) (n : ℕ) → Fits (stream_capacity capacity) n → n ≤ most_octets
fits_prefix None n fits = fits
fits_prefix (Some capacity) n fits = omega arith

-- What a stream target holds is a frame.
pub targets_hold_frames : TargetsHoldFrames
targets_hold_frames capacity message after fits = (fits_prefix capacity (length message) fits, refl)

-- What several hold are the frames of their messages.
pub targets_hold_messages : TargetsHoldMessages
targets_hold_messages messages each = ((each, sym (append-nil (flat_map with_prefix messages))), λ two. absurd (omega arith))

-- Less than a frame lacks octets, and conversely.
pub partial_lacks_octets : PartialLacksOctets
partial_lacks_octets octets count missing =
    elim (cases_lt (length octets) 2) [
      | inl short ↦ let few = missing.prefix short in (λ partial. omega arith, λ some two. absurd (omega arith))
      | inr long ↦ let few = missing.message long in (λ partial. let less = partial long in omega arith, λ some two. omega arith)
    ]

-- Less than an accepted frame is less than a reader stores.
pub none_leaves_capacity : NoneLeavesCapacity
none_leaves_capacity most octets two partial accepted =
    elim (cases_lt (length octets) 2) [
      | inl few ↦ omega arith
      | inr there ↦ let less = partial there in let fits = accepted.not_long there in omega arith
    ]

not_accepted : (most : ℕ) (octets : List ℕ) (error : FrameError) → Refuses most octets error → Accepts most octets → ⊥
not_accepted most octets Short refused accepted = let enough = accepted.not_short refused.there in let short = refused.short in omega arith
not_accepted most octets Long refused accepted = let fits = accepted.not_long refused.there in let long = refused.long in omega arith

not_both : (most : ℕ) (octets : List ℕ) → IsShort octets → IsLong most octets → ⊥
not_both most octets short long = let few = short.short in let enough = long.not_short in omega arith

one_error : (most : ℕ) (octets : List ℕ) (error other : FrameError) → Refuses most octets error → Refuses most octets other → other ≡ error
one_error most octets Short Short refused others = refl
one_error most octets Short Long refused others = absurd (not_both most octets refused others)
one_error most octets Long Short refused others = absurd (not_both most octets others refused)
one_error most octets Long Long refused others = refl

-- A length is accepted, or refused with one error.
pub never_both : NeverBoth
never_both most octets error refused = (not_accepted most octets error refused, λ other others. one_error most octets error other refused others)
