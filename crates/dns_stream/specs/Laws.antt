-- The statements of the theorems on frames and readers.
use Rattle.std.specs.Prelude.{◌≡◌, ℕ, ◌+◌, ◌<◌, ◌≤◌, ◌↔◌, List, [], ◌++◌, length, slice_index, Option, All}
use Rattle.std.specs.List.{flat_map}
use Rattle.dns_code.specs.HeaderSection.{header_size}
use Rattle.dns_wire.specs.Stream.{most_octets, stream_capacity, with_prefix}
use Rattle.dns_wire.specs.Targets.{Fits}
use Rattle.dns_stream.specs.declared.error.FrameError.{FrameError}
use Rattle.dns_stream.specs.Frames.{Accepts, AreFrames, AreMissing, BeginsWith, BeginsWithAll, GivesNone, IsPartial, Refuses}
use Rattle.dns_stream.specs.Calls.{Call, handed_out, Lead, pushed}

-- numbers that octets can be
abbrev pub AreOctets : List ℕ → Type 0
AreOctets octets = (k : ℕ) → slice_index octets k < 256

-- any octets are the frames of some messages and less than a frame
abbrev pub SomeFraming : Type 0
SomeFraming = (octets : List ℕ) → AreOctets octets → (messages : List (List ℕ)) × (rest : List ℕ) × AreFrames octets messages rest

-- they are the frames of no others
abbrev pub OneFraming : Type 0
OneFraming = (octets : List ℕ) (messages others : List (List ℕ)) (rest last : List ℕ) → AreFrames octets messages rest → AreFrames octets others last
    → (messages ≡ others) × (rest ≡ last)

-- octets that begin with the frame of a message aren't less than a frame; they are accepted if the message isn't shorter than a header section, and the frame isn't longer than `most` octets
abbrev pub FramesAreRead : Type 0
FramesAreRead = (most : ℕ) (octets message after : List ℕ) → BeginsWith octets message after
    → (IsPartial octets → ⊥) × (header_size ≤ length message → 2 + length message ≤ most → Accepts most octets)

-- they begin with the frame of no other message
abbrev pub OneFrame : Type 0
OneFrame = (octets message other after last : List ℕ) → BeginsWith octets message after → BeginsWith octets other last → (message ≡ other) × (after ≡ last)

-- the octets that are left before calls, and those that they push, are the frames of the messages that they hand out, followed by the octets that are left after them
abbrev pub CallsTakeFrames : Type 0
CallsTakeFrames = (most : ℕ) (calls : List Call) (old new : List ℕ) → Lead most calls old new → BeginsWithAll (old ++ pushed calls) (handed_out calls) new

-- so the messages that were handed out, and then those of the octets that are left, are the messages of all octets
abbrev pub CallsGiveFrames : Type 0
CallsGiveFrames = (most : ℕ) (calls : List Call) (old new rest : List ℕ) (messages : List (List ℕ)) → Lead most calls old new → AreFrames new messages rest
    → AreFrames (old ++ pushed calls) (handed_out calls ++ messages) rest

-- calls that push the same octets from the start of a stream, in any pieces, hand out the same messages, and leave the same, once what is left gives none
abbrev pub PiecesDontMatter : Type 0
PiecesDontMatter = (most : ℕ) (calls others : List Call) (new last : List ℕ) → Lead most calls [] new → Lead most others [] last → pushed calls ≡ pushed others
    → GivesNone most new → GivesNone most last → (handed_out calls ≡ handed_out others) × (new ≡ last)

-- a message within the capacity of a stream target, after its length, is one frame, whatever follows
abbrev pub TargetsHoldFrames : Type 0
TargetsHoldFrames = (capacity : Option ℕ) (message after : List ℕ) → Fits (stream_capacity capacity) (length message) → BeginsWith (with_prefix message ++ after) message after

-- several such messages, each after its length, are the frames of these messages
abbrev pub TargetsHoldMessages : Type 0
TargetsHoldMessages = (messages : List (List ℕ)) → All (λ message. length message ≤ most_octets) messages
    → AreFrames (flat_map with_prefix messages) messages []

-- octets are less than a frame exactly if some are missing
abbrev pub PartialLacksOctets : Type 0
PartialLacksOctets = (octets : List ℕ) (count : ℕ) → AreMissing octets count → IsPartial octets ↔ (0 < count)

-- less than an accepted frame is less than a reader stores
abbrev pub NoneLeavesCapacity : Type 0
NoneLeavesCapacity = (most : ℕ) (octets : List ℕ) → 2 ≤ most → IsPartial octets → Accepts most octets → length octets < most

-- no length is both accepted and refused, nor refused with both errors
abbrev pub NeverBoth : Type 0
NeverBoth = (most : ℕ) (octets : List ℕ) (error : FrameError) → Refuses most octets error
    → (Accepts most octets → ⊥) × ((other : FrameError) → Refuses most octets other → other ≡ error)
