-- Where a reader's octets and its first frame are in its buffer.
use Rattle.std.proofs.Common.{◌≡◌, ◌∙◌, ℕ, ◌+◌, ◌-◌, ◌≤◌, List, ◌++◌, length, drop, take, slice_range, sym, ap, subst, subst₂, drop-drop, take_at, length-append, length-take-le, length-drop, arith}
use Rattle.std.proofs.lemmas.List.{drop-append-le, drop-take, length-take, take-take}
use Rattle.dns_octets.specs.Octets.{overwritten}
use Rattle.dns_stream.specs.declared.reader.StreamReader.{StreamReader}
use Rattle.dns_stream.specs.Frames.{BeginsWith}
use Rattle.dns_stream.specs.Readers.{left, TakesFrame}

-- A range without its first octets is a range.
pub drop_in_range : (octets : List ℕ) (start end n : ℕ) → start + n ≤ end → drop n (slice_range octets start end) ≡ slice_range octets (start + n) end
drop_in_range octets start end n within =
    let size : end - start ≡ n + (end - (start + n)) = omega arith in
    ap (λ k. drop n (take k (drop start octets))) size ∙ drop-take n (end - (start + n)) (drop start octets)
    ∙ ap (λ (b : List ℕ). take (end - (start + n)) b) (drop-drop n start octets)

-- A range of a range is a range.
pub range_in_range : (octets : List ℕ) (start end from to : ℕ) → from ≤ to → start + to ≤ end
    → slice_range (slice_range octets start end) from to ≡ slice_range octets (start + from) (start + to)
range_in_range octets start end from to ordered within =
    let size : to - from ≡ start + to - (start + from) = omega arith in
    ap (λ (b : List ℕ). take (to - from) b) (drop_in_range octets start end from (omega arith))
    ∙ take-take (to - from) (end - (start + from)) (drop (start + from) octets) (omega arith) ∙ ap (λ k. take k (drop (start + from) octets)) size

-- If a frame begins at an offset, its message is before the offset where it ends.
pub begins_in_range : (octets : List ℕ) (start end n : ℕ) → start + (2 + n) ≤ end
    → BeginsWith (slice_range octets start end) (slice_range (slice_range octets start end) 2 (2 + n)) (drop (2 + n) (slice_range octets start end))
    → BeginsWith (slice_range octets start end) (slice_range octets (start + (2 + n) - n) (start + (2 + n))) (slice_range octets (start + (2 + n)) end)
begins_in_range octets start end n within begins =
    let from : start + 2 ≡ start + (2 + n) - n = omega arith in
    let message = range_in_range octets start end 2 (2 + n) (omega arith) within ∙ ap (λ k. slice_range octets k (start + (2 + n))) from in
    subst₂ (λ (m a : List ℕ). BeginsWith (slice_range octets start end) m a) message (drop_in_range octets start end (2 + n) within) begins

-- A reader that moved past a frame has its message before its offset.
pub takes_message : (old new : StreamReader) (len : ℕ) (message : List ℕ) → TakesFrame old new len → message ≡ slice_range new.buffer.items (new.start - len) new.start
    → BeginsWith (left old) message (left new)
takes_message old new len message takes is = subst (λ (m : List ℕ). BeginsWith (left old) m (left new)) (sym is) takes.begins

-- Octets that are written after a range are appended to it.
pub range-overwritten : (octets more : List ℕ) (start end : ℕ) → start ≤ end → end + length more ≤ length octets
    → slice_range (overwritten octets end more) start (end + length more) ≡ slice_range octets start end ++ more
range-overwritten octets more start end ordered within =
    let after = drop (end + length more) octets in
    let range : drop start (take end octets) ≡ slice_range octets start end =
    ap (λ k. drop start (take k octets)) (let e : end ≡ start + (end - start) = omega arith in e) ∙ drop-take start (end - start) octets in
    let front : length (take end octets) ≡ end = length-take-le end octets (omega arith) in
    let whole : drop start (take end octets ++ more ++ after) ≡ slice_range octets start end ++ more ++ after =
    drop-append-le start (take end octets ++ more) after (omega (arith, length-append (take end octets) more))
    ∙ ap (λ (b : List ℕ). b ++ after) (drop-append-le start (take end octets) more (omega arith) ∙ ap (λ (b : List ℕ). b ++ more) range) in
    let size : length (slice_range octets start end ++ more) ≡ end + length more - start =
    omega (arith, length-append (slice_range octets start end) more, ap length range, length-drop start (take end octets)) in
    ap (λ (b : List ℕ). take (end + length more - start) b) whole ∙ take_at (slice_range octets start end ++ more) after (end + length more - start) size

-- A range stays if octets are appended.
pub range_kept : (octets more : List ℕ) (start end : ℕ) → start ≤ end → end ≤ length octets → take (length octets) more ≡ octets
    → slice_range more start end ≡ slice_range octets start end
range_kept octets more start end ordered within kept =
    let size : length octets ≡ start + (length octets - start) = omega arith in
    let same : slice_range octets start end ≡ slice_range more start end =
    ap (λ (b : List ℕ). slice_range b start end) (sym kept)
    ∙ ap (λ k. take (end - start) (drop start (take k more))) size
    ∙ ap (λ (b : List ℕ). take (end - start) b) (drop-take start (length octets - start) more)
    ∙ take-take (end - start) (length octets - start) (drop start more) (omega arith) in
    sym same

-- A range within octets is as long as its ends say, and no range is longer.
pub length-range : (octets : List ℕ) (start end : ℕ) → length (slice_range octets start end) ≤ end - start
length-range octets start end = omega (arith, length-take (end - start) (drop start octets))
