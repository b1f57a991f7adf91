-- What calls on a reader hand out, followed by what they leave, are all octets that were pushed.
use Rattle.std.proofs.Common.{◌≡◌, ◌∙◌, List, ℕ, [], ◌∷◌, ◌++◌, None, Some, inl, inr, refl, sym, ap, subst, append_assoc, append-nil, arith}
use Rattle.dns_wire.specs.Stream.{with_prefix}
use Rattle.dns_stream.specs.Frames.{Accepts, BeginsWith, GivesNone}
use Rattle.dns_stream.specs.Calls.{Call, handed_out, Lead, pushed}
use Rattle.dns_stream.specs.Calls.Call.{Push, Next}
use Rattle.dns_stream.specs.Laws.{CallsGiveFrames, CallsTakeFrames, PiecesDontMatter}
use Rattle.dns_stream.proofs.theory.FrameLemmas.{all_of, frame_first, frame_length, frame_not_partial, Framed, framed_more, framed_of, never_both, one_frame}

-- A frame stays one if octets follow.
begins_with_more : (octets message after more : List ℕ) → BeginsWith octets message after → BeginsWith (octets ++ more) message (after ++ more)
begins_with_more octets message after more begins =
    (begins.0, ap (λ (b : List ℕ). b ++ more) begins.1 ∙ append_assoc (with_prefix message) after more)

-- So does its length stay accepted.
accepts_more : (most : ℕ) (octets message after more : List ℕ) → BeginsWith octets message after → Accepts most octets → Accepts most (octets ++ more)
accepts_more most octets message after more begins accepted =
    let first = frame_first octets message after begins in
    let same = frame_first (octets ++ more) message (after ++ more) (begins_with_more octets message after more begins) in
    let long = frame_length octets message after begins in
    let enough = accepted.not_short (omega arith) in
    let fits = accepted.not_long (omega arith) in
    record { not_short = λ two. omega arith; not_long = λ two. omega arith }

-- Octets begin with the frames of these messages, of accepted lengths, as `next` takes them.
abbrev Taken : ℕ → List ℕ → List (List ℕ) → List ℕ → Type 0
Taken most octets [] after = octets ≡ after
Taken most octets (message ∷ messages) after = (next : List ℕ) × Accepts most octets × BeginsWith octets message next × Taken most next messages after

calls_taken : (most : ℕ) (calls : List Call) (old new : List ℕ) → Lead most calls old new → Taken most (old ++ pushed calls) (handed_out calls) new
calls_taken most [] old new lead = append-nil old ∙ sym lead
calls_taken most (Push octets ∷ calls) old new lead =
    subst (λ (b : List ℕ). Taken most b (handed_out calls) new) (append_assoc old octets (pushed calls)) (calls_taken most calls (old ++ octets) new lead)
calls_taken most (Next None ∷ calls) old new lead = calls_taken most calls old new lead.1
calls_taken most (Next (Some message) ∷ calls) old new lead = (
  lead.0 ++ pushed calls,
  accepts_more most old message lead.0 (pushed calls) lead.2 lead.1,
  begins_with_more old message lead.0 (pushed calls) lead.2,
  calls_taken most calls lead.0 new lead.3,
)

taken_framed : (most : ℕ) (messages : List (List ℕ)) (octets after : List ℕ) → Taken most octets messages after → Framed octets messages after
taken_framed most [] octets after taken = taken
taken_framed most (message ∷ messages) octets after taken = (taken.0, taken.2, taken_framed most messages taken.0 after taken.3)

calls_framed : (most : ℕ) (calls : List Call) (old new : List ℕ) → Lead most calls old new → Framed (old ++ pushed calls) (handed_out calls) new
calls_framed most calls old new lead = taken_framed most (handed_out calls) (old ++ pushed calls) new (calls_taken most calls old new lead)

-- What calls took and left is what they were given.
pub calls_take_frames : CallsTakeFrames
calls_take_frames most calls old new lead = all_of (handed_out calls) (old ++ pushed calls) new (calls_framed most calls old new lead)

-- With the messages of what is left, these are the messages of all octets.
pub calls_give_frames : CallsGiveFrames
calls_give_frames most calls old new rest messages lead frames =
    let all = framed_more (handed_out calls) messages (old ++ pushed calls) new rest (calls_framed most calls old new lead) (framed_of messages new rest frames.0) in
    (all_of (handed_out calls ++ messages) (old ++ pushed calls) rest all, frames.1)

-- Octets that begin with an accepted frame give a message.
gives_one : (most : ℕ) (octets message after : List ℕ) → GivesNone most octets → Accepts most octets → BeginsWith octets message after → ⊥
gives_one most octets message after none accepted begins =
    elim none [ inl partial ↦ frame_not_partial octets message after begins partial | inr refused ↦ (never_both most octets refused.0 refused.1).0 accepted ]

one_taken : (most : ℕ) (messages others : List (List ℕ)) (octets new last : List ℕ) → Taken most octets messages new → GivesNone most new → Taken most octets others last → GivesNone most last
    → (messages ≡ others) × (new ≡ last)
one_taken most [] [] octets new last x p y q = (refl, sym x ∙ y)
one_taken most [] (n ∷ ns) octets new last x p y q = absurd (gives_one most octets n y.0 (subst (λ (b : List ℕ). GivesNone most b) (sym x) p) y.1 y.2)
one_taken most (m ∷ ms) [] octets new last x p y q = absurd (gives_one most octets m x.0 (subst (λ (b : List ℕ). GivesNone most b) (sym y) q) x.1 x.2)
one_taken most (m ∷ ms) (n ∷ ns) octets new last x p y q =
    let one = one_frame octets m n x.0 y.0 x.2 y.2 in
    let later = one_taken most ms ns y.0 new last (subst (λ (b : List ℕ). Taken most b ms new) one.1 x.3) p y.3 q in
    (λ i. one.0 i ∷ later.0 i, later.1)

-- Pieces don't matter: the same octets give the same messages.
pub pieces_dont_matter : PiecesDontMatter
pieces_dont_matter most calls others new last lead leads same none nones =
    let x : Taken most (pushed calls) (handed_out calls) new = calls_taken most calls [] new lead in
    let y : Taken most (pushed others) (handed_out others) last = calls_taken most others [] last leads in
    one_taken most (handed_out calls) (handed_out others) (pushed others) new last (subst (λ (b : List ℕ). Taken most b (handed_out calls) new) same x) none y nones
